use Rattle.std.proofs.Common.{◌⊎◌, inl, inr, ◌+◌, ap, sym, ◌∙◌}
use Rattle.pages.specs.Calls.{IsOutsideOrFull}
use Rattle.sqlval.specs.declared.fault.Fault.{Fault}
use Rattle.sqlval.specs.declared.fault.Fault.TheVariants.{Memory, Full}
use Rattle.std.proofs.Common.{◌≡◌}
use Rattle.pager.specs.Sights.{under_reader}
use Rattle.pager.specs.Writers.{snapshot_of}
use Rattle.pager.proofs.WriterSights.{added_map, count_over, if_err, if_ok, on_ok, writes_told}
use Rattle.pager.proofs.sights.WritingWritePages.grow.Goals as goal

pub returns-clause-number : goal.returns-clause-number
returns-clause-number g c told =
    let self = c.args.self.now in
    if_ok c.add.result _ _ (λ n is. is.0 ∙ ap (λ k. k + 1) (sym (count_over (under_reader self.log.now (snapshot_of self.writer.now) self.log.ghost_name self.buffer.ghost_name) self.writer.now))) c.add.ensures.counted

pub returns-clause-done : goal.returns-clause-done
returns-clause-done g c told =
    let self = c.args.self.now in
    let writes = writes_told self.log.now self.writer.now self.log.ghost_name self.writer.ghost_name self.buffer.ghost_name told in
    on_ok c.add.result _ _ (λ gets. added_map self.log.now self.log.ghost_name self.buffer.ghost_name self.writer.now c.add.new.self c.add.ensures.rest.snapshot _ gets) (c.add.ensures.page writes.sound.consistent)

out : (fault : Fault) → (fault ≡ Memory) ⊎ (fault ≡ Full) → IsOutsideOrFull fault
out fault (inl is) = inl (inl is)
out fault (inr is) = inr is

pub returns-clause-refusal : goal.returns-clause-refusal
returns-clause-refusal g c told =
    let self = c.args.self.now in
    let writes = writes_told self.log.now self.writer.now self.log.ghost_name self.writer.ghost_name self.buffer.ghost_name told in
    if_err c.add.result _ _ out (c.add.ensures.refused writes.sound)
