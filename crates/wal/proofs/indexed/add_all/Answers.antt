use Rattle.std.proofs.Common.{◌≡◌, ◌<◌, ◌+◌, ℕ, inr, ap, subst, sym, refl, arith, get_or}
use Rattle.std.proofs.lemmas.List.{get_or_default, get_or-map, length-map}
use Rattle.wal.specs.declared.pages.PageImage.{PageImage}
use Rattle.wal_index.specs.Index.{HasFrame, KeepsRoomBut, room_for}
use Rattle.wal.specs.Indexed.{IsIndexTo, EachFrame, IsOldOrNew}
use Rattle.wal.specs.Pages.{numbers_of}
use Rattle.wal.proofs.Rooms.{has_more, kept_by_added, kept_both, rooms_less}
use Rattle.wal.proofs.Indexing.{index_added, up_to, each_added, each_weaker, more_pages}
use Rattle.wal.proofs.indexed.add_all.Goals as goal

pub pages-preserved : goal.pages-preserved
pages-preserved c =
    let inv = c.pages.invariant in
    let pages = c.args.pages.now in
    let page = get_or pages c.pages.i c.index-pages-i.result in
    let i = c.pages.i in
    let number_is : get_or (numbers_of pages) i 0 ≡ page.number = get_or-map (λ (q : PageImage). q.number) pages i c.index-pages-i.result 0 c.pages-test.true in
    record {
      indexed = subst (λ (n : ℕ). IsIndexTo n c.add.new.self) (let e : c.args.mark + i + 1 ≡ c.args.mark + (i + 1) = omega arith in e)
          (index_added page.number (c.args.mark + i) (c.args.mark + 1 + i) c.pages.index c.add.new.self c.add.ensures.frames (omega arith) inv.indexed);
      frames = each_added (IsOldOrNew c.args.mark pages (i + 1) c.args.index.now) page.number (c.args.mark + 1 + i) c.pages.index c.add.new.self c.add.ensures.frames
          (each_weaker (IsOldOrNew c.args.mark pages i c.args.index.now) (IsOldOrNew c.args.mark pages (i + 1) c.args.index.now) c.pages.index (λ p f h. more_pages c.args.mark pages i c.args.index.now p f h) inv.frames)
          (inr (i, omega arith, refl, λ d. ap (λ (q : PageImage). q.number) (get_or_default pages i d c.index-pages-i.result c.pages-test.true)));
      added = has_more c.args.mark (numbers_of pages) i c.pages.index c.add.new.self inv.added (kept_by_added page.number (c.args.mark + 1 + i) c.pages.index c.add.new.self c.add.ensures.frames)
          (λ number. subst (λ (n : ℕ). HasFrame c.add.new.self n (c.args.mark + 1 + i)) (sym number_is) (c.add.ensures.added (omega (arith, number.0, number_is)) (subst (λ (n : ℕ). 0 < room_for c.pages.index n) number_is (inv.rooms i (omega arith) (omega (arith, c.pages-test.true, length-map pages (λ (q : PageImage). q.number))) number))
          (up_to (c.args.mark + i) (c.args.mark + 1 + i) page.number c.pages.index inv.indexed (omega (arith, number.0, number_is)) (omega arith))));
      kept = kept_both c.args.index.now c.pages.index c.add.new.self inv.kept (kept_by_added page.number (c.args.mark + 1 + i) c.pages.index c.add.new.self c.add.ensures.frames);
      rooms = rooms_less (numbers_of pages) i c.pages.index c.add.new.self c.requires.rising inv.rooms (subst (λ (n : ℕ). KeepsRoomBut n c.pages.index c.add.new.self) (sym number_is) c.add.ensures.kept);
    }

pub returns-clause-frames : goal.returns-clause-frames
returns-clause-frames c =
    subst (λ (n : ℕ). EachFrame (IsOldOrNew c.args.mark c.args.pages.now n c.args.index.now) c.pages.index) (omega (arith, c.pages-test.false, c.pages.auto.i-end)) c.pages.invariant.frames
