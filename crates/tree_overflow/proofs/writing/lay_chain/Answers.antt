use Rattle.std.proofs.Common.{◌≡◌, ◌-◌, ◌<◌, ◌^◌, ◌∙◌, ℕ, length, drop, rules, ap, arith, Ok, Err}
use Rattle.std.specs.Prelude.{max}
use Rattle.std.proofs.lemmas.List.{take_at}
use Rattle.tree_overflow.proofs.LayingChains.{lays_last, lays_next, lays_unput, takes_since, puts_since}
use Rattle.tree_overflow.proofs.writing.lay_chain.Goals as goal

pub returns-in_err-put_link-clause-laid : goal.returns-in_err-put_link-clause-laid
returns-in_err-put_link-clause-laid g c = λ told.
    (let pages = g.P.Pages in
    let old = c.args.pages.now in
    let mid = c.links.pages in
    let next = c.take.new.pages in
    let new = pages.map c.put_link.new.pages in
    let size = (pages.limits (pages.below old)).page in
    let kept = c.links.invariant.kept in
    let fault = c.in_err-put_link.field-0.0 in
    let room : c.max-room.result ≡ max (size - 4) 1 = c.max-room.ensures ∙ ap (λ (n : ℕ). max n 1) (c.saturating_sub.ensures ∙ ap (λ (n : ℕ). n - 4) c.page_size-2.ensures) in
    let link : length c.as_mut_slice.result.now ≡ size = ap length c.as_mut_slice.ensures.value ∙ c.links.invariant.long in
    let takes = takes_since pages.below pages.tells pages.limits old mid (pages.map mid) (pages.map next) (Ok c.in_ok-next.next) kept c.in_ok-next.ensures.taken told in
    let puts = puts_since pages.below pages.tells pages.limits old next (pages.map next) new c.links.page c.in_ok-next.next c.as_mut_slice.result.now c.split_at.result.0.now (Err fault) (c.in_ok-next.ensures.kept ∙ kept) c.in_err-put_link.ensures.put told in
    c.links.invariant.laid told new c.from_residual-in_err-put_link.result
    (lays_unput (pages.map mid) (pages.map next) new new size c.links.page c.in_ok-next.next c.max-room.result c.as_mut_slice.result.now c.links.left.now c.split_at.result.0.now fault c.from_residual-in_err-put_link.result
    link room c.links-test.true c.split_at.ensures.front takes puts c.from_residual-in_err-put_link.ensures.1))

pub links-preserved : goal.links-preserved
links-preserved g c =
    let pages = g.P.Pages in
    let old = c.args.pages.now in
    let mid = c.links.pages in
    let next = c.take.new.pages in
    let put = c.put_link.new.pages in
    let size = (pages.limits (pages.below old)).page in
    let kept = c.links.invariant.kept in
    let near : c.in_ok-next.next < 2 ^ 32 = search rules in
    let room : c.max-room.result ≡ max (size - 4) 1 = c.max-room.ensures ∙ ap (λ (n : ℕ). max n 1) (c.saturating_sub.ensures ∙ ap (λ (n : ℕ). n - 4) c.page_size-2.ensures) in
    let link : length c.as_mut_slice.result.now ≡ size = ap length c.as_mut_slice.ensures.value ∙ c.links.invariant.long in
    record {
      kept = c.put_link.ensures.kept ∙ c.in_ok-next.ensures.kept ∙ kept;
      long = (let whole : length c.put_link.new.link ≡ c.links.link.len = search rules in
          ap length (take_at c.put_link.new.link (drop (length c.put_link.new.link) c.links.link.items) c.links.link.len whole) ∙ c.put_link.ensures.same ∙ link);
      causes = search rules;
      laid = λ told new result rest. (
          let takes = takes_since pages.below pages.tells pages.limits old mid (pages.map mid) (pages.map next) (Ok c.in_ok-next.next) kept c.in_ok-next.ensures.taken told in
          let puts = puts_since pages.below pages.tells pages.limits old next (pages.map next) (pages.map put) c.links.page c.in_ok-next.next c.as_mut_slice.result.now c.split_at.result.0.now (Ok tt)
          (c.in_ok-next.ensures.kept ∙ kept) c.in_ok-put_link.ensures.put told in
          c.links.invariant.laid told new result
          (lays_next (pages.map mid) (pages.map next) (pages.map put) new size c.links.page c.in_ok-next.next c.max-room.result c.as_mut_slice.result.now c.links.left.now c.split_at.result.0.now c.split_at.result.1.now result
          link room c.links-test.true c.split_at.ensures.front c.split_at.ensures.back near takes puts rest));
    }

pub returns-clause-laid : goal.returns-clause-laid
returns-clause-laid g c = λ told.
    (let pages = g.P.Pages in
    let old = c.args.pages.now in
    let mid = c.links.pages in
    let new = pages.map c.put_link-2.new.pages in
    let size = (pages.limits (pages.below old)).page in
    let room : c.max-room.result ≡ max (size - 4) 1 = c.max-room.ensures ∙ ap (λ (n : ℕ). max n 1) (c.saturating_sub.ensures ∙ ap (λ (n : ℕ). n - 4) c.page_size-2.ensures) in
    let link : length c.as_mut_slice-2.result.now ≡ size = ap length c.as_mut_slice-2.ensures.value ∙ c.links.invariant.long in
    let puts = puts_since pages.below pages.tells pages.limits old mid (pages.map mid) new c.links.page 0 c.as_mut_slice-2.result.now c.links.left.now c.put_link-2.result c.links.invariant.kept c.put_link-2.ensures.put told in
    c.links.invariant.laid told new c.put_link-2.result
    (lays_last (pages.map mid) new size c.links.page c.max-room.result c.as_mut_slice-2.result.now c.links.left.now c.put_link-2.result link room (omega (arith, c.links-test.false)) puts))
