use Rattle.std.proofs.Common.{◌≡◌, Some, rules, subst, sym}
use Rattle.sql_syntax.specs.declared.change.InsertSource.{InsertSource}
use Rattle.sql_syntax.specs.declared.change.InsertSource.TheVariants as source
use Rattle.row_change.specs.Changes.{no_outer, resolve_given}
use Rattle.executor.specs.Refusing.{IsKnownOr}
use Rattle.executor.proofs.refusing.know_given.Goals as goal

pub returns-in-Rows-clause-known : goal.returns-in-Rows-clause-known
returns-in-Rows-clause-known c rows_at db lists =
    let here : c.args.source.now ≡ source.Rows c.as_slice.result.now = search rules in
    subst (λ (s : InsertSource). IsKnownOr (resolve_given db no_outer (Some c.args.count) s) c.know_rows.result) (sym here) (c.know_rows.ensures.known db)

pub returns-in-Query-clause-known : goal.returns-in-Query-clause-known
returns-in-Query-clause-known c rows_at db lists =
    let here : c.args.source.now ≡ source.Query c.in-Query.query = search rules in
    subst (λ (s : InsertSource). IsKnownOr (resolve_given db no_outer (Some c.args.count) s) c.know_query.result) (sym here) (c.know_query.ensures.known rows_at db lists)
