use Rattle.std.proofs.Common.{rules}
use Rattle.std.proofs.lemmas.List.Sorted.{answers_always}
use Rattle.wal.specs.declared.pages.PageImage.{PageImage}
use Rattle.pager.proofs.Placing.{found, gap}
use Rattle.pager.proofs.saved.page_in.Goals as goal

pub returns-clause-found : goal.returns-clause-found
returns-clause-found c =
    let facts = c.binary_search_by_key.ensures in
    let by_number = facts.position (λ (p : PageImage). p.number) (answers_always _ _ _ (λ f a r g called. search rules)) in
    found _ c.args.number _ facts.bound by_number

pub returns-clause-gap : goal.returns-clause-gap
returns-clause-gap c rises =
    let facts = c.binary_search_by_key.ensures in
    let by_number = facts.position (λ (p : PageImage). p.number) (answers_always _ _ _ (λ f a r g called. search rules)) in
    gap 0 c.args.pages.now rises c.args.number _ facts.bound by_number
