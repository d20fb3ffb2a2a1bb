-- Freeblocks that cells are put into (Database File Format, "B-tree Pages", on freeblocks).
use Rattle.std.specs.Prelude.{◌≡◌, ◌≤◌, ◌<◌, ◌+◌, ◌^◌, ℕ, List, length, IfSome}
use Rattle.tree_page.specs.Node.{Node, IsNode}
use Rattle.tree_pack.specs.Freeing.{AreClear}
use Rattle.tree_pack.specs.declared.freeing.FreeblockHead.{FreeblockHead}
use Rattle.tree_pack.specs.declared.slots.Slot.{Slot}

-- four bytes stand at this offset
pub record IsHeadAt (at : ℕ) (head : FreeblockHead) : Type 0 where
  pub four : length head.bytes ≡ 4
  pub at_is : head.at ≡ at

-- four bytes stand between these offsets
pub record IsHeadWithin (from to : ℕ) (head : FreeblockHead) : Type 0 where
  pub four : length head.bytes ≡ 4
  pub after : from ≤ head.at
  pub before : head.at + 4 ≤ to

-- no cell of the page has one of the four bytes
abbrev pub IsHeadClear : {page : List ℕ} {start : ℕ} {node : Node} → IsNode page start node → FreeblockHead → Type 0
IsHeadClear is head = AreClear head.at (head.at + 4) is.page_is.spans

-- the cell comes to this offset, and this holds of the freeblock that is written anew
pub record IsSlotAt (at : ℕ) (IsHead : FreeblockHead → Type 0) (slot : Slot) : Type 0 where
  pub at_is : slot.at ≡ at
  pub head : IfSome slot.head IsHead

-- So many bytes come after the end of the pointers, with one more, and on the page; and the freeblock that is written anew stands between.
pub record IsSlot (page : List ℕ) (size end : ℕ) (slot : Slot) : Type 0 where
  pub after : end + 2 ≤ slot.at
  pub within : slot.at + size ≤ length page
  pub near : slot.at < 2 ^ 16
  pub head : IfSome slot.head (IsHeadWithin (end + 2) slot.at)

-- no cell of the page has one of the bytes that are written there
pub record IsSlotClear {page : List ℕ} {start : ℕ} {node : Node} (is : IsNode page start node) (size : ℕ) (slot : Slot) : Type 0 where
  pub cell : AreClear slot.at (slot.at + size) is.page_is.spans
  pub head : IfSome slot.head (IsHeadClear is)
