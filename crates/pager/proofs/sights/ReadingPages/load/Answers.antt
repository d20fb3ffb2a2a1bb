use Rattle.std.proofs.Common.{ap, refl}
use Rattle.pager.specs.Maps.{pages_in}
use Rattle.pager.specs.Sights.{UnderReader, under_reader, view_under}
use Rattle.pager.specs.Views.{view_at}
use Rattle.pager.proofs.Sighting.{causes_of, read_is, reads_told, some_bytes, there_is, under_same, view_told}
use Rattle.pager.proofs.sights.ReadingPages.load.Goals as goal

pub returns-clause-bytes : goal.returns-clause-bytes
returns-clause-bytes g c told =
    let self = c.args.self.now in
    let reads = reads_told self.log.now self.snapshot self.log.ghost_name self.buffer.ghost_name told in
    read_is c.fill.result (view_at self.log.now self.snapshot) (view_under (under_reader self.log.now self.snapshot self.log.ghost_name self.buffer.ghost_name)) c.args.number c.fill.new.buffer.items
    (view_told self.log.now self.snapshot self.log.ghost_name self.buffer.ghost_name reads.0) (c.fill.ensures.read reads.0 reads.1) c.fill.ensures.within

pub returns-clause-refusal : goal.returns-clause-refusal
returns-clause-refusal g c told there =
    let self = c.args.self.now in
    let reads = reads_told self.log.now self.snapshot self.log.ghost_name self.buffer.ghost_name told in
    c.fill.ensures.there _ reads.0 reads.1
    (there_is (view_at self.log.now self.snapshot) (view_under (under_reader self.log.now self.snapshot self.log.ghost_name self.buffer.ghost_name)) c.args.number
    (view_told self.log.now self.snapshot self.log.ghost_name self.buffer.ghost_name reads.0) (some_bytes self.log.now) there)

pub returns-clause-stays : goal.returns-clause-stays
returns-clause-stays g c =
    let self = c.args.self.now in
    let same = under_same self.log.now c.fill.new.log self.snapshot self.log.ghost_name self.buffer.ghost_name c.fill.ensures.kept.0 c.fill.ensures.kept.1 c.fill.ensures.kept.2 in
    record {
      kept = same;
      same = ap (λ (under : UnderReader). pages_in (view_under under)) same;
      counted = refl;
      causes = causes_of c.fill.result self.log.now c.fill.new.log c.fill.ensures.cause;
    }
