use Rattle.std.proofs.Common.{◌++◌, ◌∙◌, ap}
use Rattle.std.proofs.lemmas.List.{append_assoc}
use Rattle.wal_frame.specs.Log.{frame_head}
use Rattle.wal_frame.proofs.frame.FrameHeader.put.Goals as goal

pub returns-clause-bytes : goal.returns-clause-bytes
returns-clause-bytes c =
    let page = c.args.page.now in
    c.in_ok-extend_from_slice-2.ensures.items ∙ ap (λ l. l ++ page) (c.in_ok-extend_from_slice.ensures.items ∙ ap (λ l. c.args.out.now.items ++ l) c.head.ensures.bytes)
    ∙ append_assoc c.args.out.now.items (frame_head c.args.log.now.salts c.sum-sum.result c.args.self.now) page
