use Rattle.std.proofs.Common.{rules}
use Rattle.pager.proofs.sights.ViewingPages.load.Goals as goal

pub returns-in_err-self-clause-refusal : goal.returns-in_err-self-clause-refusal
returns-in_err-self-clause-refusal g c told there =
    let self = c.args.self.now in
    let why = c.in_err-self.ensures.there self.log.ghost_name 0 self.buffer.ghost_name told there in
    search rules

pub returns-clause-bytes : goal.returns-clause-bytes
returns-clause-bytes g c told =
    let self = c.args.self.now in
    c.in_ok-self.ensures.bytes self.log.ghost_name 0 self.buffer.ghost_name told
