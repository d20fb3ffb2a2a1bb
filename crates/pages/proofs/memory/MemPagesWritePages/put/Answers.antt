use Rattle.std.proofs.Common.{◌∙◌, ◌-◌, ap, slice_set}
use Rattle.std.proofs.lemmas.List.{map-set}
use Rattle.pages.specs.Memory.{pages_in_memory}
use Rattle.pages.proofs.memory.MemPagesWritePages.put.Goals as goal

pub returns-clause-done : goal.returns-clause-done
returns-clause-done c = λ told.
    map-set (λ page. page.items) c.args.self.now.pages.items (c.args.number - 1) c.copy_from_slice.new.self
    ∙ ap (slice_set (pages_in_memory c.args.self.now) (c.args.number - 1)) c.copy_from_slice.ensures.items
