-- Entries that rise, as many as there are rows and of these alone, are the entries of the rows.
use Rattle.std.proofs.Common.{◌≡◌, inl, inr, refl, sym, ap, subst, ◌∙◌, suc, Bool, true, false, not, ◌&&◌, cond, List, [], ◌∷◌, ◌++◌, length, map, arith}
use mathlib.Core.Bool.{true≢false}
use Rattle.std.proofs.lemmas.List.{length-append}
use Rattle.std.specs.List.{AllByRecursion}
use Rattle.std.specs.Ordering.{is_eq, is_gt, is_lt, int_cmp, ordering_then}
use Rattle.std.specs.declared.cmp.Ordering.{Ordering}
use Rattle.std.specs.declared.cmp.Ordering.TheVariants.{Less, Equal, Greater}
use Rattle.sqlval.specs.Lists.{is_rising, keys_cmp, placed, sorted}
use Rattle.sqlval.specs.declared.collation.Collation.{Collation}
use Rattle.sqlval.specs.declared.collation.Collation.TheVariants.{Binary}
use Rattle.sqlval.proofs.Ordering.{alike_is_equal}
use Rattle.tree_index.specs.Entries.{Entry, AreEntries, entry_cmp, keys_of}
use Rattle.tree_index.proofs.Orders.{after_equal, not_less}
use Rattle.row_scan.specs.Rows.{TableRow}
use Rattle.row_scan.specs.Sources.{as_source}
use Rattle.index_entries.specs.Entries.{AreApart, Columns, IsApart, collations, entries_of_rows, indexed}
use Rattle.index_entries.specs.Keeping.{columns_in}
use Rattle.index_entries.proofs.Rows.{adds_its_entry}
use Rattle.catalog.specs.declared.tables.IndexColumn.{IndexColumn}
use Rattle.index_build.specs.Checking.{AreOfRows, IsIn, are_by_rowid}
use Rattle.index_build.proofs.Makings.{are_apart}
use Rattle.index_build.proofs.RowEntries.{collations_same, rows_same}

-- ---- lists

-- A list, with an item taken out.
record Parts {A : Type 0} (x : A) (xs : List A) : Type 0 where
  front : List A
  back : List A
  are : xs ≡ front ++ x ∷ back

-- an item that has an image among those of others is one of them
record Imaged {A B : Type 0} (f : A → B) (y : B) (xs : List A) : Type 0 where
  item : A
  parts : Parts item xs
  is : y ≡ f item

imaged : {A B : Type 0} (f : A → B) (y : B) (xs : List A) → IsIn y (map f xs) → Imaged f y xs
imaged f y [] is = absurd is
imaged f y (x ∷ xs) (inl same) = record { item = x; parts = record { front = []; back = xs; are = refl }; is = same }
imaged f y (x ∷ xs) (inr among) =
    let rest = imaged f y xs among in
    record { item = rest.item; parts = record { front = x ∷ rest.parts.front; back = rest.parts.back; are = ap (λ l. x ∷ l) rest.parts.are }; is = rest.is }

-- another than the one that goes stays
still_in : {A B : Type 0} (f : A → B) (y : B) (front : List A) (x : A) (back : List A) → (y ≡ f x → ⊥) → IsIn y (map f (front ++ x ∷ back)) → IsIn y (map f (front ++ back))
still_in f y [] x back other (inl same) = absurd (other same)
still_in f y [] x back other (inr among) = among
still_in f y (z ∷ front) x back other (inl same) = inl same
still_in f y (z ∷ front) x back other (inr among) = inr (still_in f y front x back other among)

all_still : {A B : Type 0} (f : A → B) (ys : List B) (front : List A) (x : A) (back : List A) → AllByRecursion (λ y. y ≡ f x → ⊥) ys → AllByRecursion (λ y. IsIn y (map f (front ++ x ∷ back))) ys
    → AllByRecursion (λ y. IsIn y (map f (front ++ back))) ys
all_still f [] front x back others all = tt
all_still f (y ∷ ys) front x back others all = (still_in f y front x back others.0 all.0, all_still f ys front x back others.1 all.1)

-- sorting keeps the items and their number
placed_in : {A : Type 0} (cmp : A → A → Ordering) (P : A → Type 0) (x : A) (ys : List A) → P x → AllByRecursion P ys → AllByRecursion P (placed cmp x ys)
placed_in cmp P x [] is all = (is, tt)
placed_in cmp P x (y ∷ ys) is all = by (is_gt (cmp x y)) (placed_in cmp P x ys is all.1) where
  by : (b : Bool) → AllByRecursion P (placed cmp x ys) → AllByRecursion P (cond b (y ∷ placed cmp x ys) (x ∷ y ∷ ys))
  by true rest = (all.0, rest)
  by false rest = (is, all)

sorted_in : {A : Type 0} (cmp : A → A → Ordering) (P : A → Type 0) (xs : List A) → AllByRecursion P xs → AllByRecursion P (sorted cmp xs)
sorted_in cmp P [] all = tt
sorted_in cmp P (x ∷ xs) all = placed_in cmp P x (sorted cmp xs) all.0 (sorted_in cmp P xs all.1)

placed_more : {A : Type 0} (cmp : A → A → Ordering) (x : A) (ys : List A) → length (placed cmp x ys) ≡ suc (length ys)
placed_more cmp x [] = refl
placed_more cmp x (y ∷ ys) = by (is_gt (cmp x y)) (placed_more cmp x ys) where
  by : (b : Bool) → length (placed cmp x ys) ≡ suc (length ys) → length (cond b (y ∷ placed cmp x ys) (x ∷ y ∷ ys)) ≡ suc (suc (length ys))
  by true rest = ap suc rest
  by false rest = refl

sorted_many : {A : Type 0} (cmp : A → A → Ordering) (xs : List A) → length (sorted cmp xs) ≡ length xs
sorted_many cmp [] = refl
sorted_many cmp (x ∷ xs) = placed_more cmp x (sorted cmp xs) ∙ ap suc (sorted_many cmp xs)

more_in : {A : Type 0} (y : A) (ys zs : List A) → AllByRecursion (λ x. IsIn x ys) zs → AllByRecursion (λ x. IsIn x (y ∷ ys)) zs
more_in y ys [] all = tt
more_in y ys (z ∷ zs) all = (inr all.0, more_in y ys zs all.1)

each_in : {A : Type 0} (xs : List A) → AllByRecursion (λ x. IsIn x xs) xs
each_in [] = tt
each_in (x ∷ xs) = (inl refl, more_in x xs xs (each_in xs))

as_many : {A B : Type 0} (f : A → B) (xs : List A) → length (map f xs) ≡ length xs
as_many f [] = refl
as_many f (x ∷ xs) = ap suc (as_many f xs)

-- ---- rows

others_apart : (first : TableRow) (before : List TableRow) (row : TableRow) (after : List TableRow) → IsApart first (before ++ row ∷ after) → IsApart first (before ++ after)
others_apart first [] row after all = all.1
others_apart first (other ∷ before) row after all = (all.0, others_apart first before row after all.1)

without_one : (before : List TableRow) (row : TableRow) (after : List TableRow) → AreApart (before ++ row ∷ after) → AreApart (before ++ after)
without_one [] row after apart = apart.1
without_one (first ∷ before) row after apart = (others_apart first before row after apart.0, without_one before row after apart.1)

-- ---- entries that rise

itself : (columns : List Collation) (x : Entry) → entry_cmp columns x x ≡ Equal
itself [] [] = refl
itself [] (v ∷ vs) = ap (λ (o : Ordering). ordering_then o Equal) (alike_is_equal Binary v v refl)
itself (c ∷ cs) [] = refl
itself (c ∷ cs) (v ∷ vs) = ap (λ (o : Ordering). ordering_then o (keys_cmp (keys_of cs) vs vs)) (alike_is_equal c v v refl) ∙ itself cs vs

both_of : (a b : Bool) → a && b ≡ true → (a ≡ true) × (b ≡ true)
both_of true b e = (refl, e)
both_of false b e = absurd (true≢false (sym e))

not_above : (o : Ordering) → is_lt o ≡ true → is_gt o ≡ false
not_above Less e = refl
not_above Equal e = refl
not_above Greater e = absurd (true≢false (sym e))

module _ (columns : List Collation) (x : Entry) where
  rest_are : (ys : List Entry) → AreEntries columns (x ∷ ys) → AreEntries columns ys
  rest_are [] are = record { whole = tt; rising = refl }
  rest_are (y ∷ ys) are = record { whole = are.whole.1; rising = (both_of (is_lt (entry_cmp columns x y)) (is_rising (entry_cmp columns) (y ∷ ys)) are.rising).1 }

  placed_first : (ys : List Entry) → AreEntries columns (x ∷ ys) → placed (entry_cmp columns) x ys ≡ x ∷ ys
  placed_first [] are = refl
  placed_first (y ∷ ys) are =
      ap (λ (b : Bool). cond b (y ∷ placed (entry_cmp columns) x ys) (x ∷ y ∷ ys))
      (not_above (entry_cmp columns x y) (both_of (is_lt (entry_cmp columns x y)) (is_rising (entry_cmp columns) (y ∷ ys)) are.rising).0)

  apart_from : (ys : List Entry) → AllByRecursion (λ y. not_less columns x y ≡ false) ys → AllByRecursion (λ y. y ≡ x → ⊥) ys
  apart_from [] all = tt
  apart_from (y ∷ ys) all = (
    λ e. true≢false (sym (ap (λ (o : Ordering). not (is_lt o)) (itself columns x)) ∙ (sym (ap (not_less columns x) e) ∙ all.0)),
    apart_from ys all.1,
  )

  others_differ : (ys : List Entry) → AreEntries columns (x ∷ ys) → AllByRecursion (λ y. y ≡ x → ⊥) ys
  others_differ ys are = apart_from ys (after_equal columns x are.whole.0 x ys are (ap is_eq (itself columns x)))

-- ---- both are the same

module _ (columns : Columns) where
  abbrev Each : List TableRow → List Entry → Type 0
  Each rows entries = AllByRecursion (λ entry. IsIn entry (map (indexed columns) rows)) entries

  abbrev cmp : Entry → Entry → Ordering
  cmp = entry_cmp (collations columns)

  those : (there : List Entry) (rows : List TableRow) → AreApart rows → AreEntries (collations columns) there → Each rows there → length there ≡ length rows → there ≡ entries_of_rows columns rows
  those [] [] apart are each many = refl
  those [] (row ∷ rows) apart are each many = absurd (omega (arith, many))
  those (x ∷ there) rows apart are each many =
      by (λ fewer fewer_apart fewer_each fewer_many. those there fewer fewer_apart (rest_are (collations columns) x there are) fewer_each fewer_many) (imaged (indexed columns) x rows each.0)
    where
      by : ((fewer : List TableRow) → AreApart fewer → Each fewer there → length there ≡ length fewer → there ≡ entries_of_rows columns fewer) → Imaged (indexed columns) x rows → x ∷ there ≡ entries_of_rows columns rows
      by those_there i =
          let front = i.parts.front in
          let back = i.parts.back in
          let now_apart : AreApart (front ++ i.item ∷ back) = subst AreApart i.parts.are apart in
          let now_each : Each (front ++ i.item ∷ back) there = subst (λ (l : List TableRow). Each l there) i.parts.are each.1 in
          let others : AllByRecursion (λ y. y ≡ indexed columns i.item → ⊥) there = subst (λ (z : Entry). AllByRecursion (λ y. y ≡ z → ⊥) there) i.is (others_differ (collations columns) x there are) in
          let all_long = ap length i.parts.are in
          let with_it = length-append front (i.item ∷ back) in
          let without_it = length-append front back in
          let rest = those_there (front ++ back) (without_one front i.item back now_apart) (all_still (indexed columns) there front i.item back others now_each) (omega (arith, many, all_long, with_it, without_it)) in
          sym (placed_first (collations columns) x there are) ∙ ap (λ (z : Entry). placed cmp z there) i.is ∙ ap (placed cmp (indexed columns i.item)) rest
          ∙ sym (adds_its_entry columns front back i.item now_apart).1 ∙ ap (entries_of_rows columns) (sym i.parts.are)

  sorted_each : (rows : List TableRow) → Each rows (entries_of_rows columns rows)
  sorted_each rows = sorted_in cmp (λ entry. IsIn entry (map (indexed columns) rows)) (map (indexed columns) rows) (each_in (map (indexed columns) rows))

  sorted_length : (rows : List TableRow) → length (entries_of_rows columns rows) ≡ length rows
  sorted_length rows = sorted_many cmp (map (indexed columns) rows) ∙ as_many (indexed columns) rows

-- ---- rows as a source has them

-- they stand by rising rowid where the rows do
pub sources_rise : (rows : List TableRow) → is_rising int_cmp (map (λ r. r.0) rows) ≡ true → are_by_rowid (map as_source rows) ≡ true
sources_rise [] rises = refl
sources_rise (r ∷ []) rises = refl
sources_rise (r ∷ s ∷ rows) rises =
    let both = both_of (is_lt (int_cmp r.0 s.0)) (is_rising int_cmp (map (λ (row : TableRow). row.0) (s ∷ rows))) rises in
    and_both (is_lt (int_cmp r.0 s.0)) (are_by_rowid (map as_source (s ∷ rows))) both.0 (sources_rise (s ∷ rows) both.1)
  where
    and_both : (a b : Bool) → a ≡ true → b ≡ true → a && b ≡ true
    and_both true b e f = f
    and_both false b e f = absurd (true≢false (sym e))

module _ (columns : List IndexColumn) (rows : List TableRow) (there : List Entry) where
  -- entries of the rows alone, and as many, are theirs
  pub are_theirs : is_rising int_cmp (map (λ r. r.0) rows) ≡ true → AreEntries (map (λ column. column.collation) columns) there → AreOfRows columns (map as_source rows) there
      → there ≡ entries_of_rows (columns_in columns) rows
  are_theirs rises are (each, many) =
      those (columns_in columns) there rows (are_apart rows rises) (subst (λ (cs : List Collation). AreEntries cs there) (collations_same columns) are)
      (subst (λ (l : List Entry). AllByRecursion (λ entry. IsIn entry l) there) (rows_same columns rows) each) (many ∙ as_many as_source rows)

  -- theirs are such
  pub theirs_are : there ≡ entries_of_rows (columns_in columns) rows → AreOfRows columns (map as_source rows) there
  theirs_are same = subst (AreOfRows columns (map as_source rows)) (sym same) (
    subst (λ (l : List Entry). AllByRecursion (λ entry. IsIn entry l) (entries_of_rows (columns_in columns) rows)) (sym (rows_same columns rows)) (sorted_each (columns_in columns) rows),
    sorted_length (columns_in columns) rows ∙ sym (as_many as_source rows),
  )
