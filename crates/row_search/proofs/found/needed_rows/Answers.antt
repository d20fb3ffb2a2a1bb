use Rattle.std.proofs.Common.{◌≡◌, None, Option, refl, rules, subst}
use Rattle.query_terms.specs.Terms.{Term}
use Rattle.row_search.specs.Found.{FindsNeeded}
use Rattle.row_search.proofs.FoundRows.{all_needed}
use Rattle.row_search.proofs.found.needed_rows.Goals as goal

pub returns-in-None-clause-loaded : goal.returns-in-None-clause-loaded
returns-in-None-clause-loaded g c = λ told.
    (let pages = g.P.Pages.map c.args.pages.now in
    let size = (g.P.Pages.limits (g.P.Pages.below c.args.pages.now)).page in
    let none : None ≡ c.args.condition.now = search rules in
    subst (λ (condition : Option Term). FindsNeeded pages size c.args.table c.args.indexes.now condition c.source_rows.result) none
    (all_needed pages size c.args.table c.args.indexes.now None (λ all. refl) c.source_rows.result (c.source_rows.ensures.loaded told)))
