-- Cells that come into a freeblock, or before the first of the cells.
use Rattle.std.proofs.Common.{◌≡◌, ◌⊎◌, inl, inr, ◌≤◌, ◌<◌, ◌+◌, ◌^◌, ℕ, List, [], ◌∷◌, length, sym, subst, arith}
use Rattle.std.specs.Prelude.{Option, Some, None, IfSome}
use Rattle.tree_page.specs.Cells.{Span}
use Rattle.tree_page.specs.Node.{Node, IsNode}
use Rattle.tree_pack.specs.Freeing.{AreClear}
use Rattle.tree_pack.specs.Slots.{IsHeadAt, IsHeadClear, IsHeadWithin, IsSlot, IsSlotAt, IsSlotClear}
use Rattle.tree_pack.specs.declared.freeing.FreeblockHead.{FreeblockHead}
use Rattle.tree_pack.specs.declared.slots.Slot.{Slot}

-- ---- a freeblock that is free

-- so is a part of it
part_clear : (at end from to : ℕ) → at ≤ from → to ≤ end → (spans : List Span) → AreClear at end spans → AreClear from to spans
part_clear at end from to first last [] clear = tt
part_clear at end from to first last (span ∷ spans) clear = (one clear.0, part_clear at end from to first last spans clear.1)
  where
    one : (span.to ≤ at) ⊎ (end ≤ span.from) → (span.to ≤ from) ⊎ (to ≤ span.from)
    one (inl before) = inl (omega (arith, before, first))
    one (inr after) = inr (omega (arith, after, last))

-- the four bytes of a head, where it is told
head_clear : {page : List ℕ} {start : ℕ} {node : Node} (is : IsNode page start node) (at : ℕ) (head : Option FreeblockHead) → IfSome head (IsHeadAt at) → AreClear at (at + 4) is.page_is.spans → IfSome head (IsHeadClear is)
head_clear is at None told clear = told
head_clear is at (Some head) told clear = subst (λ (n : ℕ). AreClear n (n + 4) is.page_is.spans) (sym told.at_is) clear

-- a head before another offset stands before a later one
head_within : (from to later : ℕ) → to ≤ later → (head : Option FreeblockHead) → IfSome head (IsHeadWithin from to) → IfSome head (IsHeadWithin from later)
head_within from to later le None told = told
head_within from to later le (Some head) told = (let before = told.before in record { four = told.four; after = told.after; before = omega (arith, before, le) })

own_within : (from at later : ℕ) → from ≤ at → at + 4 ≤ later → (head : Option FreeblockHead) → IfSome head (IsHeadAt at) → IfSome head (IsHeadWithin from later)
own_within from at later le before None told = told
own_within from at later le before (Some head) told = (let at_is = told.at_is in record { four = told.four; after = omega (arith, at_is, le); before = omega (arith, at_is, before) })

-- ---- the cell takes the end of a freeblock

module _ (page : List ℕ) (start : ℕ) (node : Node) (is : IsNode page start node) (size block at end : ℕ) (at_is : at + size ≡ end) (le : block ≤ at) (clear : AreClear block end is.page_is.spans) where
  cell_clear : (slot : Slot) → slot.at ≡ at → AreClear slot.at (slot.at + size) is.page_is.spans
  cell_clear slot is_at = part_clear block end slot.at (slot.at + size) (omega (arith, is_at, le)) (omega (arith, is_at, at_is)) is.page_is.spans clear

  -- the freeblock leaves the list
  pub unlisted_clear : (from : ℕ) (result : Option Slot) → IfSome result (IsSlotAt at (IsHeadWithin from block)) → IfSome result (λ slot. IfSome slot.head (IsHeadClear is)) → IfSome result (IsSlotClear is size)
  unlisted_clear from None told head = told
  unlisted_clear from (Some slot) told head = record { cell = cell_clear slot told.at_is; head = head }

  -- the freeblock keeps its beginning
  pub shortened_clear : block + 4 ≤ at → (result : Option Slot) → IfSome result (IsSlotAt at (IsHeadAt block)) → IfSome result (IsSlotClear is size)
  shortened_clear four None told = told
  shortened_clear four (Some slot) told = record {
    cell = cell_clear slot told.at_is;
    head = head_clear is block slot.head told.head (part_clear block end block (block + 4) (omega arith) (omega (arith, four, at_is)) is.page_is.spans clear);
  }

module _ (page : List ℕ) (size last block at end : ℕ) (at_is : at + size ≡ end) (behind : last + 2 ≤ block) (within : end ≤ length page) (near : end < 2 ^ 16) where
  pub unlisted_slot : block ≤ at → (result : Option Slot) → IfSome result (IsSlotAt at (IsHeadWithin (last + 2) block)) → IfSome result (IsSlot page size last)
  unlisted_slot le None told = told
  unlisted_slot le (Some slot) told =
      let is_at = told.at_is in
      record {
        after = omega (arith, is_at, behind, le);
        within = omega (arith, is_at, at_is, within);
        near = omega (arith, is_at, at_is, near);
        head = head_within (last + 2) block slot.at (omega (arith, is_at, le)) slot.head told.head;
      }

  pub shortened_slot : block + 4 ≤ at → (result : Option Slot) → IfSome result (IsSlotAt at (IsHeadAt block)) → IfSome result (IsSlot page size last)
  shortened_slot four None told = told
  shortened_slot four (Some slot) told =
      let is_at = told.at_is in
      record {
        after = omega (arith, is_at, behind, four);
        within = omega (arith, is_at, at_is, within);
        near = omega (arith, is_at, at_is, near);
        head = own_within (last + 2) block slot.at behind (omega (arith, is_at, four)) slot.head told.head;
      }
