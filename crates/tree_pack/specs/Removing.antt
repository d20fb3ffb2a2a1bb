-- One cell less on a page of a tree (Database File Format, "B-tree Pages").
use Rattle.std.specs.Prelude.{◌≡◌, ◌≤◌, ◌+◌, ◌-◌, ℕ, List, [], ◌∷◌, ◌++◌, length, take, drop, IfSome, Option}
use Rattle.std.specs.Int.{w16, to_be_bytes}
use Rattle.tree_page.specs.Node.{Node, IsNode, Say, code_of, right_of}
use Rattle.tree_pack.specs.Freeing.{IsHeadOn, with_head}
use Rattle.tree_pack.specs.Placing.{IsPlaced}
use Rattle.tree_pack.specs.Replacing.{written_over}
use Rattle.tree_pack.specs.Splicing.{spliced, IsUsual}
use Rattle.tree_pack.specs.declared.removing.CellCut.{CellCut}
use Rattle.tree_pack.specs.declared.freeing.Free.{Free}

-- The page without the pointer at an offset, of those that end at another, with so many cells counted, and this said of its free bytes.
abbrev pub without_pointer : List ℕ → ℕ → ℕ → ℕ → ℕ → Free → List ℕ
without_pointer page start pointer last count free =
    take (start + 1) page
    ++ (to_be_bytes w16 free.first
    ++ (to_be_bytes w16 count
    ++ (to_be_bytes w16 free.content
    ++ (free.fragments
    ∷ (take (pointer - (start + 8)) (drop (start + 8) page) ++ (take (last - (pointer + 2)) (drop (pointer + 2) page) ++ (0 ∷ 0 ∷ drop last page)))))))

-- ---- the same page, written in its place

-- The cell's pointer stands after the header and before the end of the pointers, and the first bytes of the freeblock, and of the one before it, after
-- them. All is on the page.
pub record IsCutOn (page : List ℕ) (start : ℕ) (cut : CellCut) : Type 0 where
  pub behind : start + 8 ≤ cut.pointer
  pub before : cut.pointer + 2 ≤ cut.end
  pub within : cut.end ≤ length page
  pub head : length cut.header ≡ 7
  pub block : IfSome cut.block (IsHeadOn cut.end page)
  pub chain : IfSome cut.before (IsHeadOn cut.end page)

-- The page with the pointers after the cell's one place before and two zero bytes after them, the header without the cell, the freeblock, and the one
-- before it.
abbrev pub cut_at : CellCut → ℕ → List ℕ → List ℕ
cut_at cut start page =
    let pointers = take (cut.end - (cut.pointer + 2)) (drop (cut.pointer + 2) page) ++ (0 ∷ 0 ∷ []) in
    with_head cut.before (with_head cut.block (written_over (start + 1) cut.header (written_over cut.pointer pointers page)))

-- Where a page says a node, and its cells without the one at a place say another of the same type and with the same last child, the page with these
-- bytes says that one, and a cell is left on it.
abbrev pub CutsAt : List ℕ → ℕ → ℕ → Option CellCut → Type 0
CutsAt page start place found = (old new : Node) (is : IsNode page start old) → IsUsual page start → place + 1 ≤ length is.cells
    → code_of new ≡ code_of old → right_of new ≡ right_of old → Say (length page) (spliced place 1 [] is.cells) new
    → IfSome found (λ cut. IsPlaced page start (spliced place 1 [] is.cells) new (cut_at cut start page) × (2 ≤ length is.cells))
