-- What a page says is in the bytes from its header on.
use Rattle.std.proofs.Common.{◌≡◌, inl, inr, ◌≤◌, ◌+◌, ◌*◌, ℕ, sym, ◌∙◌, ap, subst, arith, List, [], ◌∷◌, ◌++◌, length, take, drop, append_assoc}
use Rattle.std.proofs.lemmas.List.{take-append-drop, drop-append-le, length-append, length-drop, length-take-le, nil_from_length}
use Rattle.std.specs.List.{AllByRecursion}
use Rattle.tree_page.specs.Cells.{Span, IsApart, AreApart, Pairwise, IsAt, IsTreePage, front}
use Rattle.tree_page.specs.Node.{code_of, right_of, Say}
use Rattle.tree_page.specs.Laws.{StaysAfterFront}
use Rattle.tree_page.proofs.HeaderLemmas.{stands}

-- one page has the bytes and the length of the other, except for so many bytes at its front
record IsAfter (start : ℕ) (old new : List ℕ) : Type 0 where
  pub same : drop start new ≡ drop start old
  pub long : length new ≡ length old
  pub within : start ≤ length old

-- what stands after bytes of the old page stands after others, as many, in the new one
parts_after : (start : ℕ) (old new before rest : List ℕ) → IsAfter start old new → old ≡ before ++ rest → start ≤ length before → new ≡ (take start new ++ drop start before) ++ rest
parts_after start old new before rest is parts le =
    let tail : drop start old ≡ drop start before ++ rest = ap (drop start) parts ∙ drop-append-le start before rest le in
    sym (take-append-drop start new) ∙ ap (λ (l : List ℕ). take start new ++ l) (is.same ∙ tail) ∙ sym (append_assoc (take start new) (drop start before) rest)

long_after : (start : ℕ) (old new before : List ℕ) → IsAfter start old new → start ≤ length before → length (take start new ++ drop start before) ≡ length before
long_after start old new before is le =
    omega (arith, length-append (take start new) (drop start before), length-take-le start new (omega (arith, is.within, is.long)), length-drop start before, le)

-- a cell after the front stands in both
cell_after : (start : ℕ) (old new : List ℕ) (span : Span) (cell : List ℕ) → IsAfter start old new → start ≤ span.from → IsAt old span cell → IsAt new span cell
cell_after start old new span cell is le at =
    let far : start ≤ length at.before = omega (arith, le, at.from_is) in
    let long = long_after start old new at.before is far in
    record {
      before = take start new ++ drop start at.before;
      after = at.after;
      parts = parts_after start old new at.before _ is at.parts far;
      from_is = at.from_is ∙ sym long;
      to_is = at.to_is ∙ ap (λ (n : ℕ). n + length cell) (sym long);
      near = at.near;
    }

-- so does a cell of no bytes at the start of the page
empty_cell : (old new : List ℕ) (span : Span) (cell : List ℕ) → span.to ≤ 0 → IsAt old span cell → IsAt new span cell
empty_cell old new span cell none at =
    let empty : cell ≡ [] = nil_from_length cell (omega (arith, none, at.to_is)) in
    record {
      before = [];
      after = new;
      parts = ap (λ (bytes : List ℕ). bytes ++ new) (sym empty);
      from_is = omega (arith, none, at.to_is, at.from_is);
      to_is = omega (arith, none, ap length empty);
      near = at.near;
    }

-- so does each cell that shares no byte with the front
cell_kept : (start end : ℕ) (old new : List ℕ) (span : Span) (cell : List ℕ) → IsAfter start old new → start ≤ end → IsApart span (record { from = 0; to = end }) → IsAt old span cell → IsAt new span cell
cell_kept start end old new span cell is le (inl none) at = empty_cell old new span cell none at
cell_kept start end old new span cell is le (inr behind) at = cell_after start old new span cell is (omega (arith, le, behind)) at

cells_after : (start end : ℕ) (old new : List ℕ) (before spans : List Span) (cells : List (List ℕ)) → IsAfter start old new → start ≤ end
    → ((P : Span → Type 0) → AllByRecursion P before → P (record { from = 0; to = end })) → AreApart before spans → Pairwise (IsAt old) spans cells → Pairwise (IsAt new) spans cells
cells_after start end old new before [] [] is le first apart cells = tt
cells_after start end old new before [] (cell ∷ cells) is le first apart are = absurd are
cells_after start end old new before (span ∷ spans) [] is le first apart are = absurd are
cells_after start end old new before (span ∷ spans) (cell ∷ cells) is le first apart are = (
  cell_kept start end old new span cell is le (first (IsApart span) apart.0) are.0,
  cells_after start end old new (span ∷ before) spans cells is le (λ P all. first P all.1) apart.1 are.1,
)

pub page_after : (kind : ℕ) (old new : List ℕ) (start : ℕ) (right : List ℕ) (cells : List (List ℕ)) → drop start new ≡ drop start old → length new ≡ length old → IsTreePage kind old start right cells
    → IsTreePage kind new start right cells
page_after kind old new start right cells same long page =
    let far : start ≤ length page.before = omega (arith, page.start_is) in
    let is : IsAfter start old new = record { same = same; long = long; within = (stands kind old start right cells page).within } in
    record {
      before = take start new ++ drop start page.before;
      freeblock = page.freeblock;
      content = page.content;
      fragments = page.fragments;
      spans = page.spans;
      rest = page.rest;
      parts = parts_after start old new page.before _ is page.parts far;
      start_is = long_after start old new page.before is far ∙ page.start_is;
      freeblock_is = page.freeblock_is;
      content_is = page.content_is;
      few = page.few;
      cells_are = cells_after start (start + 8 + length right + 2 * length cells) old new (front start (length right) (length cells) ∷ []) page.spans cells is (omega arith) (λ P all. all.0) page.apart page.cells_are;
      apart = page.apart;
    }

pub stays_after_front : StaysAfterFront
stays_after_front old new start node same long is = record {
  cells = is.cells;
  page_is = page_after (code_of node) old new start (right_of node) is.cells same long is.page_is;
  say = subst (λ (usable : ℕ). Say usable is.cells node) (sym long) is.say;
}
