use Rattle.std.proofs.Common.{◌*◌, ◌∙◌, sym}
use Rattle.std.proofs.lemmas.Bool.{leb-false}
use Rattle.wal_index.specs.Index.{FindsNone}
use Rattle.wal.proofs.Fetched.{found_some, found_none}
use Rattle.wal.proofs.state.State.is_there.Goals as goal

pub returns-then-is_some-clause-there : goal.returns-then-is_some-clause-there
returns-then-is_some-clause-there c is none = absurd (found_some c.args.self.now.index c.args.number c.args.mark c.newest_frame.result c.newest_frame.ensures.found (sym c.is_some.ensures ∙ is) none)

pub returns-else-is_some-clause-lacks : goal.returns-else-is_some-clause-lacks
returns-else-is_some-clause-lacks c short = (found_none (FindsNone c.args.number c.args.mark c.args.self.now.index) c.newest_frame.result c.newest_frame.ensures.none (sym c.is_some.ensures ∙ c.if-is_some.false), leb-false (c.args.number * c.args.self.now.page_size) c.args.self.now.db_len short)
