-- Rows by rising rowid: the last rowid is the greatest.
use Rattle.std.proofs.Common.{◌≡◌, ℕ, zero, suc, ℤ, pos, ◌+ℤ◌, ◌<ℤ◌, ◌-◌, ◌^◌, ◌&&◌, Bool, true, false, cond, List, [], ◌∷◌, Option, Some, None, Ok, Err, map, slice_index_or, refl, subst, arith}
use Rattle.std.specs.Prelude.{unwrap_or, int_lt, if◌then◌else◌, ⊤}
use Rattle.std.proofs.lemmas.Bool.{false≢true}
use Rattle.std.specs.List.{list_all}
use Rattle.std.specs.Ordering.{int_cmp, is_lt}
use Rattle.std.specs.declared.cmp.Ordering.TheVariants.{Equal, Greater, Less}
use Rattle.sqlval.specs.Refusals.{Answer, RowidFull}
use Rattle.sqlval.specs.Lists.{is_rising}
use Rattle.tree_leaf.specs.Leaf.{Entry}
use Rattle.tree_page.specs.Cells.{Pairwise}
use Rattle.tree_table.specs.SingleLeaf.{AreRising}
use Rattle.catalog.specs.Database.{Table}
use Rattle.catalog.specs.Rows.{are_rows, is_row}
use Rattle.catalog.specs.declared.tables.RowShape.{RowShape}
use Rattle.row_scan.specs.Rows.{TableRow, IsRow}
use Rattle.row_change.specs.Constraints.{greatest}
use Rattle.row_change.specs.Inserting.{rowid_after, last_rowid}

-- the rowids go up from above one
abbrev pub Climbs : ℤ → List TableRow → Type 0
Climbs low [] = ⊤
Climbs low (row ∷ rows) = (low <ℤ row.0) × Climbs row.0 rows

-- the rowids go up
abbrev pub Rises : List TableRow → Type 0
Rises [] = ⊤
Rises (row ∷ rows) = Climbs row.0 rows

rest_rising : (row : Entry) (rows : List Entry) → AreRising (row ∷ rows) → AreRising rows
rest_rising row rows rising zero d le lt = absurd (omega (arith, le))
rest_rising row rows rising (suc j) d le lt =
    subst (λ k. (slice_index_or (row ∷ rows) k d).rowid <ℤ (slice_index_or rows (suc j) d).rowid) (before j) (rising (suc (suc j)) d (omega arith) (omega (arith, lt)))
  where
    before : (j : ℕ) → suc (suc j) - 1 ≡ suc (suc j - 1)
    before j = omega arith

climbs : (shape : RowShape) (entry : Entry) (entries : List Entry) (rows : List TableRow) → AreRising (entry ∷ entries) → Pairwise (IsRow shape) entries rows → Climbs entry.rowid rows
climbs shape entry [] [] rising each = tt
climbs shape entry [] (row ∷ rows) rising each = absurd each
climbs shape entry (next ∷ entries) [] rising each = absurd each
climbs shape entry (next ∷ entries) (row ∷ rows) rising each = (
  subst (λ n. entry.rowid <ℤ n) each.0.rowid (rising 1 entry (omega arith) (omega arith)),
  subst (λ n. Climbs n rows) each.0.rowid (climbs shape next entries rows (rest_rising entry (next ∷ entries) rising) each.1),
)

pub rows_rise : (shape : RowShape) (entries : List Entry) (rows : List TableRow) → AreRising entries → Pairwise (IsRow shape) entries rows → Rises rows
rows_rise shape [] [] rising each = tt
rows_rise shape [] (row ∷ rows) rising each = absurd each
rows_rise shape (entry ∷ entries) [] rising each = absurd each
rows_rise shape (entry ∷ entries) (row ∷ rows) rising each = subst (λ n. Climbs n rows) each.0.rowid (climbs shape entry entries rows rising each.1)

pub both : (a b : Bool) → (a && b) ≡ true → (a ≡ true) × (b ≡ true)
both true b h = (refl, h)
both false b h = absurd (false≢true h)

comes_before : (a b : ℤ) → is_lt (int_cmp a b) ≡ true → a <ℤ b
comes_before a b h = by_tests (int_lt a b) (int_lt b a) refl h
  where
    by_tests : (t u : Bool) → int_lt a b ≡ t → is_lt (cond t Less (cond u Greater Equal)) ≡ true → a <ℤ b
    by_tests true u e h = grind (arith, e)
    by_tests false true e h = absurd (false≢true h)
    by_tests false false e h = absurd (false≢true h)

rising_climb : (low : ℤ) (rows : List TableRow) → is_rising int_cmp (low ∷ map (λ row. row.0) rows) ≡ true → Climbs low rows
rising_climb low [] rising = tt
rising_climb low (row ∷ rows) rising =
    let parts = both (is_lt (int_cmp low row.0)) (is_rising int_cmp (row.0 ∷ map (λ row. row.0) rows)) rising in
    (comes_before low row.0 parts.0, rising_climb row.0 rows parts.1)

-- the rows that a table may hold rise
pub fit_rows_rise : (t : Table) → are_rows t ≡ true → Rises t.rows
fit_rows_rise t fit = rising_rows t.rows (both (is_rising int_cmp (map (λ row. row.0) t.rows)) (list_all (is_row t) t.rows) fit).0
  where
    rising_rows : (rows : List TableRow) → is_rising int_cmp (map (λ row. row.0) rows) ≡ true → Rises rows
    rising_rows [] rising = tt
    rising_rows (row ∷ rows) rising = rising_climb row.0 rows rising

less : (a b : ℤ) → a <ℤ b → int_lt a b ≡ true
less a b lt = grind (arith)

pub further : (a b c : ℤ) → a <ℤ b → b <ℤ c → a <ℤ c
further a b c lt lt' = grind (arith)

-- the last is above where they begin
above : (low : ℤ) (row : TableRow) (rows : List TableRow) → Climbs low (row ∷ rows) → low <ℤ unwrap_or (last_rowid rows) row.0
above low row [] climb = climb.0
above low row (next ∷ rows) climb = further low row.0 (unwrap_or (last_rowid rows) next.0) climb.0 (above row.0 next rows climb.1)

greatest_of : (row : TableRow) (rows : List TableRow) → Climbs row.0 rows → greatest (map (λ r. r.0) (row ∷ rows)) ≡ last_rowid (row ∷ rows)
greatest_of row [] climb = refl
greatest_of row (next ∷ rows) climb = rw (greatest_of next rows climb.1, less row.0 (unwrap_or (last_rowid rows) next.0) (above row.0 next rows climb)) refl

pub greatest_is_last : (rows : List TableRow) → Rises rows → greatest (map (λ row. row.0) rows) ≡ last_rowid rows
greatest_is_last [] rises = refl
greatest_is_last (row ∷ rows) rises = greatest_of row rows rises

-- one above the greatest
abbrev pub next_for : Option ℤ → Answer ℤ
next_for last = elim last [ None ↦ Ok (pos 1) | Some x ↦ (if int_lt x (pos (2 ^ 63 - 1)) then Ok (x +ℤ pos 1) else Err RowidFull) ]

pub next_is : (last : Option ℤ) → next_for last ≡ rowid_after last
next_is None = refl
next_is (Some x) = refl

abbrev given : ℤ → Answer ℤ
given n = Ok n

same_rowid : (a b : ℤ) → given a ≡ given b → b ≡ a
same_rowid a b e = cc

pub is_next : (b : Bool) (n rowid : ℤ) → cond b (Ok (n +ℤ pos 1)) (Err RowidFull) ≡ Ok rowid → rowid ≡ n +ℤ pos 1
is_next true n rowid e = same_rowid (n +ℤ pos 1) rowid e
is_next false n rowid e = absurd cc
