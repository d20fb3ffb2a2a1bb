use Rattle.std.proofs.Common.{◌≡◌, ◌+◌, ◌-◌, ◌∙◌, ℕ, ap, subst, sym, arith, get_or}
use Rattle.std.proofs.lemmas.List.{get_or_default, get_or-map}
use Rattle.wal_frame.specs.declared.frame.FrameHeader.{FrameHeader}
use Rattle.wal_index.specs.Index.{HasFrame, IsPageNumber}
use Rattle.wal.specs.Indexed.{IsOfHead, pages_said}
use Rattle.wal.proofs.Rooms.{has_more, kept_by_added, kept_both, kept_by_same}
use Rattle.wal.proofs.Indexing.{index_added, up_to, index_same, each_added, each_same}
use Rattle.wal.proofs.indexed.index_of.Goals as goal

pub frames-preserved : goal.frames-preserved
frames-preserved c =
    let inv = c.frames.invariant in
    let frames = c.args.frames.now in
    let i = c.frames.i in
    let page_is = get_or-map (λ (f : FrameHeader). f.page) frames i (record { page = 0; size = 0 }) 0 c.frames-test.true in
    record {
      indexed = index_added _ i (1 + i) c.reserve.new.self c.add.new.self c.add.ensures.frames (omega arith) (index_same i c.frames.index c.reserve.new.self c.in_ok-reserve.ensures.same inv.indexed);
      pages = each_added (IsOfHead frames) _ (1 + i) c.reserve.new.self c.add.new.self c.add.ensures.frames (each_same (IsOfHead frames) c.frames.index c.reserve.new.self c.in_ok-reserve.ensures.same inv.pages)
          (λ d. ap (λ (n : ℕ). (get_or frames n d).page) (let e : 1 + i - 1 ≡ i = omega arith in e) ∙ ap (λ (f : FrameHeader). f.page) (get_or_default frames i d (record { page = 0; size = 0 }) c.frames-test.true));
      all = has_more 0 (pages_said frames) i c.frames.index c.add.new.self inv.all
          (kept_both c.frames.index c.reserve.new.self c.add.new.self (kept_by_same c.frames.index c.reserve.new.self c.in_ok-reserve.ensures.same) (kept_by_added _ (1 + i) c.reserve.new.self c.add.new.self c.add.ensures.frames))
          (λ number. subst (λ (n : ℕ). HasFrame c.add.new.self n (1 + i)) (sym page_is) (c.add.ensures.added (subst IsPageNumber page_is number).0 (c.in_ok-reserve.ensures.room (subst IsPageNumber page_is number))
          (up_to i (1 + i) _ c.reserve.new.self (index_same i c.frames.index c.reserve.new.self c.in_ok-reserve.ensures.same inv.indexed) (subst IsPageNumber page_is number).0 (omega arith))));
    }
