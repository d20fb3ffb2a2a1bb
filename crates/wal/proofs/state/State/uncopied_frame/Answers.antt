use Rattle.std.proofs.Common.{inl}
use Rattle.wal.proofs.state.State.uncopied_frame.Goals as goal

pub returns-in_default-2-clause-none : goal.returns-in_default-2-clause-none
returns-in_default-2-clause-none c none = inl (c.newest_frame.ensures.none none)
