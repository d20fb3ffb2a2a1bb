use Rattle.std.proofs.Common.{Some, inr, refl, rules}
use Rattle.query_plan.specs.Asking.{IsChosen, SeeksNothing}
use Rattle.query_plan.specs.Searching.{IsSought}
use Rattle.row_search.proofs.FoundRows.{all_needed, found_needed}
use Rattle.row_search.proofs.found.needed_by.Goals as goal

pub returns-in-Some-clause-loaded : goal.returns-in-Some-clause-loaded
returns-in-Some-clause-loaded g c = λ told.
    (let sought : IsSought c.args.indexes.now 0 c.args.condition.now c.in-Some.search = search rules in
    let chosen : IsChosen c.args.indexes.now 0 c.args.condition.now c.in-Some.search = search rules in
    found_needed (g.P.Pages.map c.args.pages.now) (g.P.Pages.limits (g.P.Pages.below c.args.pages.now)).page c.args.table c.args.indexes.now
    c.args.condition.now c.in-Some.search c.found_rows.result sought chosen (c.found_rows.ensures.found 0 c.args.condition.now told sought))

pub returns-in-None-clause-loaded : goal.returns-in-None-clause-loaded
returns-in-None-clause-loaded g c = λ told.
    (let nothing : SeeksNothing c.args.indexes.now 0 c.args.condition.now = search rules in
    all_needed (g.P.Pages.map c.args.pages.now) (g.P.Pages.limits (g.P.Pages.below c.args.pages.now)).page c.args.table c.args.indexes.now
    (Some c.args.condition.now) (λ all. inr (nothing, refl)) c.source_rows.result (c.source_rows.ensures.loaded told))
