use Rattle.std.proofs.Common.{rules, ◌≡◌, ◌∙◌, ◌<◌, ◌^◌, ℕ, List, length, drop, replicate, [], sym, subst}
use Rattle.std.proofs.lemmas.List.{take_at}
use Rattle.freelist.specs.PageBytes.{IsTrunkPage}
use Rattle.freelist.proofs.TrunkBytes.{begun}
use Rattle.freelist.proofs.bytes.empty_trunk.Goals as goal

pub returns-clause-trunk : goal.returns-clause-trunk
returns-clause-trunk c = λ large.
    (let near : c.args.next < 2 ^ 32 = search rules in
    let new = c.set_number.new.page in
    let zeros : c.as_mut_slice.result.now ≡ replicate c.args.size 0 = c.as_mut_slice.ensures.value ∙ c.in_ok-page.ensures.items_if_clones_equal (λ y same. same) in
    let whole : length new ≡ c.in_ok-page.page.len = search rules in
    subst (λ (l : List ℕ). IsTrunkPage l c.args.next []) (sym (take_at new (drop (length new) c.in_ok-page.page.items) c.in_ok-page.page.len whole))
    (begun c.as_mut_slice.result.now new c.args.size c.args.next zeros c.set_number.ensures.set c.set_number.ensures.same large near))
