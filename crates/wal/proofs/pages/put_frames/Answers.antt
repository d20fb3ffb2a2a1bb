use Rattle.std.proofs.Common.{◌∙◌, ap, refl, ◌++◌, length, drop, ◌-◌, arith, length-take}
use Rattle.wal_frame.specs.Log.{frame_sum, frame_bytes}
use Rattle.wal_frame.specs.declared.frame.FrameHeader.{FrameHeader}
use Rattle.wal.proofs.CommitLemmas.{put_step}
use Rattle.wal.proofs.pages.put_frames.Goals as goal

pub pages-preserved : goal.pages-preserved
pages-preserved c =
    let h = c.args.header.now in
    let f : FrameHeader = record { page = c.page-item.result.number; size = c.size_over.result } in
    let step = put_step c.args.header.now c.pages.bytes.items c.put.new.out.items c.pages.sum c.in_ok-sum.sum c.pages.left.now _ c.page-item.result c.args.size c.size_over.result c.in-len1-up.len_at_least c.page-item.is refl c.size_over.ensures
    (c.in_ok-sum.ensures.sum ∙ ap (frame_sum h.order c.pages.sum f) c.deref.ensures.value)
    (c.in_ok-sum.ensures.bytes ∙ ap (λ l. c.pages.bytes.items ++ frame_bytes h.salts c.in_ok-sum.sum f l) c.deref.ensures.value) in
    record { fits = λ lt. c.in_ok-sum.ensures.fits; within = omega (arith, length-take (length c.pages.left.now - 1) (drop 1 c.pages.left.now), c.pages.invariant.within); bytes = step.bytes ∙ c.pages.invariant.bytes; sum = step.sum_is ∙ c.pages.invariant.sum }
