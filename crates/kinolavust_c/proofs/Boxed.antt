-- What a handle owns, as a box of a session.
use mathlib.Core.List.{[]}
use mir.Syntax.{impl, tnil, dnil}
use Rattle.std.proofs.BoxSteps.Form.{Bx}
use Rattle.std.specs.contracts.alloc.Global as Heap
use Rattle.std.specs.contracts.impls.GlobalAllocator.TheImpl.{ghosts, dict}
use Rattle.std.proofs.alloc.Global.TheLaws as heap
use Rattle.kinolavust_c.specs.contracts.opened.Session.{the_row}
use Rattle.kinolavust_c.proofs.opened.Session.TheLaws.{the_row_laws}

abbrev pub session_box : Bx
session_box = record {
  row = the_row;
  laws = the_row_laws;
  al = record { row = Heap.the_row; laws = heap.the_row_laws; g = ghosts; d = dict; drops = impl [] tnil dnil };
}
