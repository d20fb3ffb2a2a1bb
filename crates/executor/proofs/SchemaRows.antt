-- Rows of different rowids: one more, and one less.
use Rattle.std.proofs.Common.{◌≡◌, refl, sym, ap, subst, ◌∙◌, ℕ, zero, suc, ◌-◌, ℤ, ◌<ℤ◌, Bool, true, false, slice_index_or, List, [], ◌∷◌, ◌++◌, Some, None, int_lt, if◌then◌else◌, arith}
use Rattle.std.proofs.lemmas.Bool.{false≢true}
use Rattle.std.specs.List.{AllByRecursion}
use Rattle.std.specs.Ordering.{int_eq}
use Rattle.std.specs.Prelude.{⊤}
use Rattle.tree_leaf.specs.Leaf.{Entry}
use Rattle.tree_table.specs.Rows.{payload_at, with_row, without_row}
use Rattle.tree_table.specs.SingleLeaf.{AreRising}

-- the row has another rowid than each of these
abbrev pub IsOther : ℤ → List Entry → Type 0
IsOther rowid rows = AllByRecursion (λ (row : Entry). int_eq row.rowid rowid ≡ false) rows

-- no two have one rowid
abbrev pub AreDistinct : List Entry → Type 0
AreDistinct [] = ⊤
AreDistinct (row ∷ rows) = AllByRecursion (λ (other : Entry). (int_eq row.rowid other.rowid ≡ false) × (int_eq other.rowid row.rowid ≡ false)) rows × AreDistinct rows

-- ---- rows that rise

abbrev Above : ℤ → List Entry → Type 0
Above low [] = ⊤
Above low (row ∷ rows) = (low <ℤ row.rowid) × Above row.rowid rows

one_less : (i : ℕ) → suc i - 1 ≡ i
one_less i = omega arith

rising_rest : (row next : Entry) (rows : List Entry) → AreRising (row ∷ next ∷ rows) → AreRising (next ∷ rows)
rising_rest row next rows rising zero d from there = absurd (omega (arith, from))
rising_rest row next rows rising (suc i) d from there =
    subst (λ n. (slice_index_or (next ∷ rows) n d).rowid <ℤ (slice_index_or rows i d).rowid) (sym (one_less i))
    (subst (λ n. (slice_index_or (row ∷ next ∷ rows) n d).rowid <ℤ (slice_index_or rows i d).rowid) (one_less (suc i)) (rising (suc (suc i)) d (omega arith) (omega (arith, there))))

above_all : (row : Entry) (rows : List Entry) → AreRising (row ∷ rows) → Above row.rowid rows
above_all row [] rising = tt
above_all row (next ∷ rows) rising = (rising 1 row (omega arith) (omega arith), above_all next rows (rising_rest row next rows rising))

further : (a b c : ℤ) → a <ℤ b → b <ℤ c → a <ℤ c
further a b c lt lt' = grind (arith)

less_other : (a b : ℤ) → a <ℤ b → (int_eq a b ≡ false) × (int_eq b a ≡ false)
less_other a b lt = (one a b lt, two a b lt)
  where
    one : (a b : ℤ) → a <ℤ b → int_eq a b ≡ false
    one a b lt = grind (arith)

    two : (a b : ℤ) → a <ℤ b → int_eq b a ≡ false
    two a b lt = grind (arith)

all_others : (rowid low : ℤ) (rows : List Entry) → rowid <ℤ low → Above low rows → AllByRecursion (λ (other : Entry). (int_eq rowid other.rowid ≡ false) × (int_eq other.rowid rowid ≡ false)) rows
all_others rowid low [] lt above = tt
all_others rowid low (row ∷ rows) lt above =
    let more : rowid <ℤ row.rowid = further rowid low row.rowid lt above.0 in (less_other rowid row.rowid more, all_others rowid row.rowid rows more above.1)

others_above : (low : ℤ) (rows : List Entry) → Above low rows → AllByRecursion (λ (other : Entry). (int_eq low other.rowid ≡ false) × (int_eq other.rowid low ≡ false)) rows
others_above low [] above = tt
others_above low (row ∷ rows) above = (less_other low row.rowid above.0, all_others low row.rowid rows above.0 above.1)

distinct_above : (low : ℤ) (rows : List Entry) → Above low rows → AreDistinct rows
distinct_above low [] above = tt
distinct_above low (row ∷ rows) above = (others_above row.rowid rows above.1, distinct_above row.rowid rows above.1)

pub rising_distinct : (rows : List Entry) → AreRising rows → AreDistinct rows
rising_distinct [] rising = tt
rising_distinct (row ∷ rows) rising = let above = above_all row rows rising in (others_above row.rowid rows above, distinct_above row.rowid rows above)

-- ---- one more

-- the row goes between two parts
pub record GoesBetween (row : Entry) (rows : List Entry) : Type 0 where
  pub before : List Entry
  pub after : List Entry
  pub parts : rows ≡ before ++ after
  pub then_are : with_row row rows ≡ before ++ row ∷ after

same_ways : (a b : ℤ) → int_eq a b ≡ true → int_eq b a ≡ true
same_ways a b h = grind (arith)

pub goes_between : (row : Entry) (rows : List Entry) → payload_at row.rowid rows ≡ None → GoesBetween row rows
goes_between row [] none = record { before = []; after = []; parts = refl; then_are = refl }
goes_between row (first ∷ rows) none =
    by_less (int_lt row.rowid first.rowid) refl (int_eq row.rowid first.rowid) refl (int_eq first.rowid row.rowid) refl none (goes_between row rows)
  where
    then_is : (a b : Bool) → int_lt row.rowid first.rowid ≡ a → int_eq row.rowid first.rowid ≡ b
        → with_row row (first ∷ rows) ≡ (if a then row ∷ first ∷ rows else (if b then row ∷ rows else first ∷ with_row row rows))
    then_is a b e f =
        ap (λ (x : Bool). if x then row ∷ first ∷ rows else (if int_eq row.rowid first.rowid then row ∷ rows else first ∷ with_row row rows)) e
        ∙ ap (λ (x : Bool). if a then row ∷ first ∷ rows else (if x then row ∷ rows else first ∷ with_row row rows)) f

    by_less : (a : Bool) → int_lt row.rowid first.rowid ≡ a → (b : Bool) → int_eq row.rowid first.rowid ≡ b → (c : Bool) → int_eq first.rowid row.rowid ≡ c
        → (if c then Some first.payload else payload_at row.rowid rows) ≡ None → (payload_at row.rowid rows ≡ None → GoesBetween row rows) → GoesBetween row (first ∷ rows)
    by_less true e b f c h none rest = record { before = []; after = first ∷ rows; parts = refl; then_are = then_is true b e f }
    by_less false e true f true h none rest = absurd cc
    by_less false e true f false h none rest = absurd (false≢true (sym h ∙ same_ways row.rowid first.rowid f))
    by_less false e false f true h none rest = absurd cc
    by_less false e false f false h none rest =
        let r = rest none in
        record { before = first ∷ r.before; after = r.after; parts = ap (λ xs. first ∷ xs) r.parts; then_are = then_is false false e f ∙ ap (λ xs. first ∷ xs) r.then_are }

-- ---- one less

itself : (a b : ℤ) → a ≡ b → int_eq a b ≡ true
itself a b e = grind (arith)

pub without_at : (before : List Entry) (row : Entry) (after : List Entry) (rowid : ℤ) → row.rowid ≡ rowid → IsOther rowid before → without_row rowid (before ++ row ∷ after) ≡ before ++ after
without_at [] row after rowid is other = ap (λ b. if b then after else row ∷ without_row rowid after) (itself row.rowid rowid is)
without_at (first ∷ before) row after rowid is other =
    ap (λ b. if b then before ++ row ∷ after else first ∷ without_row rowid (before ++ row ∷ after)) other.0 ∙ ap (λ xs. first ∷ xs) (without_at before row after rowid is other.1)

pub there_at : (before : List Entry) (row : Entry) (after : List Entry) (rowid : ℤ) → row.rowid ≡ rowid → payload_at rowid (before ++ row ∷ after) ≡ None → ⊥
there_at [] row after rowid is none = not_some (ap (λ b. if b then Some row.payload else payload_at rowid after) (sym (itself row.rowid rowid is)) ∙ none)
  where
    not_some : {A : Type 0} {x : A} → Some x ≡ None → ⊥
    not_some h = absurd cc
there_at (first ∷ before) row after rowid is none = by_test (int_eq first.rowid rowid) none (there_at before row after rowid is)
  where
    by_test : (b : Bool) → (if b then Some first.payload else payload_at rowid (before ++ row ∷ after)) ≡ None → (payload_at rowid (before ++ row ∷ after) ≡ None → ⊥) → ⊥
    by_test true h rest = absurd cc
    by_test false h rest = rest h

middle : (P : Entry → Type 0) (before : List Entry) (row : Entry) (after : List Entry) → AllByRecursion P (before ++ row ∷ after) → P row
middle P [] row after all = all.0
middle P (first ∷ before) row after all = middle P before row after all.1

all_left : (P : Entry → Type 0) (before : List Entry) (row : Entry) (after : List Entry) → AllByRecursion P (before ++ row ∷ after) → AllByRecursion P (before ++ after)
all_left P [] row after all = all.1
all_left P (first ∷ before) row after all = (all.0, all_left P before row after all.1)

pub distinct_before : (before : List Entry) (row : Entry) (after : List Entry) (rowid : ℤ) → row.rowid ≡ rowid → AreDistinct (before ++ row ∷ after) → IsOther rowid before
distinct_before [] row after rowid is distinct = tt
distinct_before (first ∷ before) row after rowid is distinct = (
  subst (λ z. int_eq first.rowid z ≡ false) is (middle (λ (other : Entry). (int_eq first.rowid other.rowid ≡ false) × (int_eq other.rowid first.rowid ≡ false)) before row after distinct.0).0,
  distinct_before before row after rowid is distinct.1,
)

pub distinct_left : (before : List Entry) (row : Entry) (after : List Entry) → AreDistinct (before ++ row ∷ after) → AreDistinct (before ++ after)
distinct_left [] row after distinct = distinct.1
distinct_left (first ∷ before) row after distinct =
    (all_left (λ (other : Entry). (int_eq first.rowid other.rowid ≡ false) × (int_eq other.rowid first.rowid ≡ false)) before row after distinct.0, distinct_left before row after distinct.1)
