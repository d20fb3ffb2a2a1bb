-- Rows by rising rowid, each looked up by its rowid.
use Rattle.std.proofs.Common.{◌≡◌, refl, sym, ap, ◌∙◌, ℤ, Bool, true, false, ◌&&◌, cond, List, [], ◌∷◌, ◌++◌, map, filter}
use mathlib.Core.Bool.{true≢false}
use Rattle.std.proofs.lemmas.Cmp.{int_cmp_total, int_eq_equiv, tied_itself}
use Rattle.std.specs.List.{AllByRecursion, flat_map}
use Rattle.std.specs.Ordering.{int_cmp, int_eq, is_eq, is_gt, is_lt}
use Rattle.std.specs.declared.cmp.Ordering.{Ordering}
use Rattle.std.specs.declared.cmp.Ordering.TheVariants.{Less, Equal, Greater}
use Rattle.sqlval.specs.Lists.{is_rising, placed, sorted}
use Rattle.row_scan.specs.Rows.{TableRow}
use Rattle.row_scan.specs.Sources.{rows_at}

-- ---- lists

pub all_chosen : {X : Type 0} (P : X → Type 0) (q : X → Bool) (xs : List X) → AllByRecursion P xs → AllByRecursion P (filter q xs)
all_chosen P q [] all = tt
all_chosen {X} P q (x ∷ xs) all = by (q x) (all_chosen P q xs all.1)
  where
    by : (b : Bool) → AllByRecursion P (filter q xs) → AllByRecursion P (cond b (x ∷ filter q xs) (filter q xs))
    by true rest = (all.0, rest)
    by false rest = rest

pub chosen_through : {X Y : Type 0} (p : Y → Bool) (f : X → Y) (xs : List X) → filter p (map f xs) ≡ map f (filter (λ x. p (f x)) xs)
chosen_through p f [] = refl
chosen_through {X} {Y} p f (x ∷ xs) = by (p (f x)) (chosen_through p f xs)
  where
    by : (b : Bool) → filter p (map f xs) ≡ map f (filter (λ y. p (f y)) xs)
        → cond b (f x ∷ filter p (map f xs)) (filter p (map f xs)) ≡ map f (cond b (x ∷ filter (λ y. p (f y)) xs) (filter (λ y. p (f y)) xs))
    by true rest = ap (λ ys. f x ∷ ys) rest
    by false rest = rest

pub each_through : {X Y Z : Type 0} (g : Y → Z) (f : X → Y) (h : X → Z) → ((x : X) → g (f x) ≡ h x) → (xs : List X) → map g (map f xs) ≡ map h xs
each_through g f h same [] = refl
each_through g f h same (x ∷ xs) = ap (λ z. z ∷ map g (map f xs)) (same x) ∙ ap (λ zs. h x ∷ zs) (each_through g f h same xs)

-- ---- rows by rising rowid

-- the rowid is less than those of these rows
abbrev IsUnder : ℤ → List TableRow → Type 0
IsUnder rowid rows = AllByRecursion (λ (row : TableRow). int_cmp rowid row.0 ≡ Less) rows

abbrev pub Ascend : List TableRow → Type 0
Ascend [] = Unit {0}
Ascend (row ∷ rows) = IsUnder row.0 rows × Ascend rows

both_of : (a b : Bool) → a && b ≡ true → (a ≡ true) × (b ≡ true)
both_of true b e = (refl, e)
both_of false b e = absurd (true≢false (sym e))

is_less : (o : Ordering) → is_lt o ≡ true → o ≡ Less
is_less Less e = refl
is_less Equal e = absurd (true≢false (sym e))
is_less Greater e = absurd (true≢false (sym e))

further_under : (low mid : ℤ) → int_cmp low mid ≡ Less → (rows : List TableRow) → IsUnder mid rows → IsUnder low rows
further_under low mid less [] under = tt
further_under low mid less (row ∷ rows) under = (int_cmp_total.trans low mid row.0 less under.0, further_under low mid less rows under.1)

pub ascending : (rows : List TableRow) → is_rising int_cmp (map (λ row. row.0) rows) ≡ true → Ascend rows
ascending [] rises = tt
ascending (row ∷ []) rises = (tt, tt)
ascending (row ∷ next ∷ rows) rises =
    let both = both_of (is_lt (int_cmp row.0 next.0)) (is_rising int_cmp (map (λ (row : TableRow). row.0) (next ∷ rows))) rises in
    let less = is_less (int_cmp row.0 next.0) both.0 in
    let rest = ascending (next ∷ rows) both.1 in
    ((less, further_under row.0 next.0 less rows rest.0), rest)

pub chosen_ascend : (q : TableRow → Bool) (rows : List TableRow) → Ascend rows → Ascend (filter q rows)
chosen_ascend q [] all = tt
chosen_ascend q (row ∷ rows) all = by (q row) (chosen_ascend q rows all.1)
  where
    by : (b : Bool) → Ascend (filter q rows) → Ascend (cond b (row ∷ filter q rows) (filter q rows))
    by true rest = (all_chosen (λ (other : TableRow). int_cmp row.0 other.0 ≡ Less) q rows all.0, rest)
    by false rest = rest

-- their rowids are sorted
pub sorted_already : (rows : List TableRow) → Ascend rows → sorted int_cmp (map (λ row. row.0) rows) ≡ map (λ row. row.0) rows
sorted_already [] all = refl
sorted_already (row ∷ []) all = refl
sorted_already (row ∷ next ∷ rows) all =
    ap (placed int_cmp row.0) (sorted_already (next ∷ rows) all.1)
    ∙ ap (λ o. cond (is_gt o) (next.0 ∷ placed int_cmp row.0 (map (λ (row : TableRow). row.0) rows)) (row.0 ∷ next.0 ∷ map (λ (row : TableRow). row.0) rows)) all.0.0

-- ---- looked up

taken_or_left : (rowid : ℤ) (row : TableRow) (rows : List TableRow) (b : Bool) → int_eq row.0 rowid ≡ b → rows_at rowid (row ∷ rows) ≡ cond b (row ∷ rows_at rowid rows) (rows_at rowid rows)
taken_or_left rowid row rows b e = ap (λ t. cond t (row ∷ rows_at rowid rows) (rows_at rowid rows)) e

differs : (a b : ℤ) → int_cmp a b ≡ Less → int_eq a b ≡ false
differs a b less = ap is_eq less

differs_back : (a b : ℤ) → int_cmp a b ≡ Less → int_eq b a ≡ false
differs_back a b less = int_eq_equiv.symm b a ∙ differs a b less

none_at : (rowid : ℤ) (rows : List TableRow) → IsUnder rowid rows → rows_at rowid rows ≡ []
none_at rowid [] under = refl
none_at rowid (row ∷ rows) under = taken_or_left rowid row rows false (differs_back rowid row.0 under.0) ∙ none_at rowid rows under.1

-- the rowid of each of these finds it alone
abbrev pub AreFound : List TableRow → List TableRow → Type 0
AreFound all rows = AllByRecursion (λ (row : TableRow). rows_at row.0 all ≡ row ∷ []) rows

found_after : (row : TableRow) (all rows : List TableRow) → IsUnder row.0 rows → AreFound all rows → AreFound (row ∷ all) rows
found_after row all [] under found = tt
found_after row all (next ∷ rows) under found =
    (taken_or_left next.0 row all false (differs row.0 next.0 under.0) ∙ found.0, found_after row all rows under.1 found.1)

pub each_found : (rows : List TableRow) → Ascend rows → AreFound rows rows
each_found [] all = tt
each_found (row ∷ rows) all = (
  taken_or_left row.0 row rows true (ap is_eq (tied_itself int_cmp_total row.0)) ∙ ap (λ rest. row ∷ rest) (none_at row.0 rows all.0),
  found_after row rows rows all.0 (each_found rows all.1),
)

pub looked_up : (all rows : List TableRow) → AreFound all rows → flat_map (λ rowid. rows_at rowid all) (map (λ row. row.0) rows) ≡ rows
looked_up all [] found = refl
looked_up all (row ∷ rows) found =
    ap (λ first. first ++ flat_map (λ rowid. rows_at rowid all) (map (λ (row : TableRow). row.0) rows)) found.0 ∙ ap (λ rest. row ∷ rest) (looked_up all rows found.1)
