use Rattle.std.proofs.lemmas.Int.{to_z-of_z}
use Rattle.std.proofs.Common.{rules, SFits, w64, ◌∙◌, subst, List}
use Rattle.sqlval.specs.declared.value.Value.{Value}
use Rattle.executor.specs.Listing.{AddsRow}
use Rattle.executor.proofs.creating.add_treeless_row.Goals as goal

pub returns-clause-added : goal.returns-clause-added
returns-clause-added g c told =
    let rowid = c.args.rowid in
    let pages = g.P.Pages in
    let old = pages.map c.args.pages.now in
    let new = pages.map c.add_row.new.pages in
    let size = (pages.limits (pages.below c.args.pages.now)).page in
    let fits : SFits w64 rowid = search rules in
    subst (λ (vs : List Value). AddsRow old new size rowid vs c.add_row.result) (c.deref.ensures.value ∙ c.in_ok-values.ensures.values)
    (subst (λ z. AddsRow old new size z c.deref.result.now c.add_row.result) (to_z-of_z w64 rowid fits) (c.add_row.ensures.added told))
