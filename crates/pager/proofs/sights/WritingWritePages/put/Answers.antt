use Rattle.std.proofs.Common.{◌≤◌, inl, arith}
use Rattle.pager.specs.Limits.{pages_of}
use Rattle.pager.specs.Sights.{under_reader}
use Rattle.pager.specs.Writers.{snapshot_of}
use Rattle.pager.proofs.Sighting.{on_both}
use Rattle.pager.proofs.WriterSights.{count_over, if_err, put_map, writes_told}
use Rattle.pager.proofs.sights.WritingWritePages.put.Goals as goal

pub returns-clause-done : goal.returns-clause-done
returns-clause-done g c told =
    let self = c.args.self.now in
    let writes = writes_told self.log.now self.writer.now self.log.ghost_name self.writer.ghost_name self.buffer.ghost_name told in
    on_both c.write.result _ _ _
    (λ gets within. put_map self.log.now self.log.ghost_name self.buffer.ghost_name self.writer.now c.write.new.self c.write.ensures.rest.snapshot c.args.number c.args.bytes.now gets within.0 within.1)
    (c.write.ensures.page writes.sound.consistent) c.write.ensures.within

pub returns-clause-refusal : goal.returns-clause-refusal
returns-clause-refusal g c told there long =
    let self = c.args.self.now in
    let writes = writes_told self.log.now self.writer.now self.log.ghost_name self.writer.ghost_name self.buffer.ghost_name told in
    let last : c.args.number ≤ pages_of self.writer.now = omega (arith, there.has.last, count_over (under_reader self.log.now (snapshot_of self.writer.now) self.log.ghost_name self.buffer.ghost_name) self.writer.now) in
    if_err c.write.result _ _ (λ fault is. inl is) (c.write.ensures.there writes.sound there.has.first last long)
