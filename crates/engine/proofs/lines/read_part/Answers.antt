use Rattle.std.proofs.Common.{◌≡◌, ◌≤◌, ◌+◌, ap, subst, arith, length}
use Rattle.std.specs.Io.BufRead.{FillKeeps}
use Rattle.std.proofs.BufReadLemmas.{Consumes_shown}
use Rattle.engine.specs.Lines.{tail_of}
use Rattle.engine.proofs.LineReading.{not_shown_read, part_read}
use Rattle.engine.proofs.lines.read_part.Goals as goal

pub returns-in-Err-clause-part : goal.returns-in-Err-clause-part
returns-in-Err-clause-part g c = not_shown_read _ _ _ _ c.not_shown.ensures.met c.fill_buf.follows.holds-at-none.0

pub returns-clause-part : goal.returns-clause-part
returns-clause-part g c =
    let shown = c.in-Ok.shown.now in
    let end = c.line_end-count in
    let count = end.result.0 + c.len.result in
    let rested = c.fill_buf.follows.lender-at-none in
    let filled = subst (FillKeeps _ (g.I.Read.remaining rested) (g.I.BufRead.consumable_len rested)) c.in-Ok.is c.fill_buf.follows.holds-at-none in
    let counted : count ≡ end.result.0 + length (tail_of end.result.1) = ap (λ k. end.result.0 + k) c.len.ensures in
    let within : count ≤ length shown = omega (arith, counted, end.ensures.within) in
    let moved = Consumes_shown _ _ _ _ shown count within c.in-Ok.ensures.front c.in-Ok.ensures.end filled.0 filled.1 c.consume.ensures.bytes in
    part_read end.result.1 end.result.0 count _ _ shown _ _ counted end.ensures.line end.ensures.tail end.ensures.end c.in_ok-keep.ensures moved
