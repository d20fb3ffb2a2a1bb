use Rattle.std.proofs.lemmas.Int.{to_z-of_z}
use Rattle.std.proofs.Common.{◌≡◌, rules, SFits, w64, Ok, ap, refl, sym, subst, ◌∙◌}
use Rattle.std.specs.Prelude.{Result}
use Rattle.sqlval.specs.declared.fault.Fault.{Fault}
use Rattle.sql_syntax.specs.declared.create.ViewDefinition.{ViewDefinition}
use Rattle.catalog.specs.Listed.{names_listed}
use Rattle.catalog.specs.declared.tables.View.{View}
use Rattle.query_names.specs.Scopes.{is_doubled}
use Rattle.db_load.specs.Loading.{IsOfRow}
use Rattle.db_load.proofs.SchemaTables.{err_not_ok}
use Rattle.db_load.proofs.TreelessRows.{view_is}
use Rattle.db_load.proofs.views.view_made.Goals as goal

answered : (a b : View) → a ≡ b → ◌≡◌ {A = Result View Fault} (Ok a) (Ok b)
answered a b same = ap Ok same

pub returns-in-Ok-clause-tells : goal.returns-in-Ok-clause-tells
returns-in-Ok-clause-tells c = λ view tells same.
    (let fits : SFits w64 c.args.row.now.rowid = search rules in
    answered _ view (view_is view _ same (to_z-of_z w64 c.args.row.now.rowid fits ∙ sym tells.rowid_is)))

pub returns-in-Ok-clause-found : goal.returns-in-Ok-clause-found
returns-in-Ok-clause-found c =
    let fits : SFits w64 c.args.row.now.rowid = search rules in
    (c.in-Ok.ensures.found.0, c.in-Ok.ensures.found.1, refl, to_z-of_z w64 c.args.row.now.rowid fits)

pub returns-in-Err-clause-tells : goal.returns-in-Err-clause-tells
returns-in-Err-clause-tells c = λ view tells same.
    err_not_ok _ _
    (c.in-Err.ensures.tells (subst (λ (d : ViewDefinition). IsOfRow c.args.row.now d.name) (sym same) tells.names) (ap (λ (d : ViewDefinition). is_doubled (names_listed d)) same ∙ tells.once))
