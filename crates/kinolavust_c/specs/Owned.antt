-- What a handle owns: the same as a box of a session.
use base.Fml.{Fml}
use base.Stored.{Coded}
use denote.RawPtr.{Ptr}
use Rattle.std.specs.Box.Ownership.{box_owns}
use Rattle.std.specs.Global.{Global}
use Rattle.std.specs.contracts.impls.GlobalAllocator.TheImpl.{ghosts}
use Rattle.kinolavust_c.specs.contracts.opened.Session.{the_row}

-- the block at a place, with the session in it and the right to free it
abbrev pub handle_owns : Global → Ptr → the_row.Denot → Fml
handle_owns alloc = box_owns (ghosts.dealloc_token alloc) the_row

-- how a session is kept in a ghost field
abbrev pub session_coded : Coded the_row.Denot
session_coded = the_row.coded
