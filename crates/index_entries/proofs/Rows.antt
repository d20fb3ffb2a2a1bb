-- The entries of rows with a row more, with one less, and in another order.
use Rattle.std.proofs.Common.{◌≡◌, refl, sym, ap, ◌∙◌, Bool, true, false, not, cond, List, [], ◌∷◌, ◌++◌, filter, map}
use Rattle.std.specs.List.{AllByRecursion, list_any}
use Rattle.std.specs.Ordering.{is_eq}
use Rattle.sqlval.specs.Lists.{placed, sorted}
use Rattle.tree_index.specs.Entries.{Entry, entry_cmp, has_entry, with_entry, without_entry}
use Rattle.index_entries.specs.Entries.{AreApart, Columns, IsApart, Row, collations, entries_of_rows, indexed}
use Rattle.index_entries.specs.Laws.{AddsItsEntry, SameWhereParted, TakesItsEntry}
use Rattle.index_entries.proofs.Sorting.{any_map, filter_map_through, none_sorted, one_placed, placed_map, sorted_map, sorted_with, tied_self, without_placed}
use Rattle.index_entries.proofs.RowOrder.{by_entries, entries_total, no_tie}

-- ---- rows that are apart

-- a row among others is apart from those before it, and from those after it
pub apart_before : (before after : List Row) (row : Row) → AreApart (before ++ row ∷ after) → AllByRecursion (λ (other : Row). row.0 ≡ other.0 → ⊥) before
apart_before [] after row apart = tt
apart_before (first ∷ before) after row apart = (λ e. at before apart.0 (sym e), apart_before before after row apart.1) where
  at : (before : List Row) → IsApart first (before ++ row ∷ after) → first.0 ≡ row.0 → ⊥
  at [] all = all.0
  at (next ∷ before) all = at before all.1

pub apart_after : (before after : List Row) (row : Row) → AreApart (before ++ row ∷ after) → AllByRecursion (λ (other : Row). row.0 ≡ other.0 → ⊥) after
apart_after [] after row apart = apart.0
apart_after (first ∷ before) after row apart = apart_after before after row apart.1

pub both_parts : {X : Type 0} (P : X → Type 0) (xs ys : List X) → AllByRecursion P xs → AllByRecursion P ys → AllByRecursion P (xs ++ ys)
both_parts P [] ys a b = b
both_parts P (x ∷ xs) ys a b = (a.0, both_parts P xs ys a.1 b)

-- ---- one row

module _ (columns : Columns) where
  untied : (row : Row) (rows : List Row) → AllByRecursion (λ (other : Row). row.0 ≡ other.0 → ⊥) rows → AllByRecursion (λ other. is_eq (by_entries columns row other) ≡ false) rows
  untied row [] all = tt
  untied row (other ∷ rows) all = (no_tie columns row other all.0, untied row rows all.1)

  abbrev order : Entry → Entry → Rattle.std.specs.declared.cmp.Ordering.Ordering
  order = entry_cmp (collations columns)

  -- rows in the order of their entries
  abbrev in_order : List Row → List Row
  in_order rows = sorted (by_entries columns) rows

  entries_are : (rows : List Row) → entries_of_rows columns rows ≡ map (indexed columns) (in_order rows)
  entries_are rows = sorted_map order (indexed columns) rows

  module _ (before after : List Row) (row : Row) (apart : AreApart (before ++ row ∷ after)) where
    others_untied : AllByRecursion (λ other. is_eq (by_entries columns row other) ≡ false) (before ++ after)
    others_untied = untied row (before ++ after) (both_parts (λ (other : Row). row.0 ≡ other.0 → ⊥) before after (apart_before before after row apart) (apart_after before after row apart))

    placed_last : in_order (before ++ row ∷ after) ≡ placed (by_entries columns) row (in_order (before ++ after))
    placed_last = sorted_with (by_entries columns) (entries_total columns) before after row (untied row before (apart_before before after row apart))

    none_there : list_any (λ other. is_eq (by_entries columns row other)) (in_order (before ++ after)) ≡ false
    none_there = none_sorted (by_entries columns) (λ other. is_eq (by_entries columns row other)) (before ++ after) others_untied

    pub with_its_entry : entries_of_rows columns (before ++ row ∷ after) ≡ with_entry (collations columns) (indexed columns row) (entries_of_rows columns (before ++ after))
    with_its_entry =
        entries_are (before ++ row ∷ after) ∙ ap (map (indexed columns)) placed_last
        ∙ sym (placed_map order (indexed columns) row (in_order (before ++ after)))
        ∙ sym (ap (placed order (indexed columns row)) (entries_are (before ++ after)))

    pub has_none : has_entry (collations columns) (indexed columns row) (entries_of_rows columns (before ++ after)) ≡ false
    has_none =
        ap (has_entry (collations columns) (indexed columns row)) (entries_are (before ++ after))
        ∙ any_map order (indexed columns) (λ other. is_eq (order (indexed columns row) other)) (in_order (before ++ after)) ∙ none_there

    as_placed : entries_of_rows columns (before ++ row ∷ after) ≡ map (indexed columns) (placed (by_entries columns) row (in_order (before ++ after)))
    as_placed = entries_are (before ++ row ∷ after) ∙ ap (map (indexed columns)) placed_last

    pub has_its_entry : has_entry (collations columns) (indexed columns row) (entries_of_rows columns (before ++ row ∷ after)) ≡ true
    has_its_entry =
        ap (has_entry (collations columns) (indexed columns row)) as_placed
        ∙ any_map order (indexed columns) (λ other. is_eq (order (indexed columns row) other)) (placed (by_entries columns) row (in_order (before ++ after)))
        ∙ one_placed (by_entries columns) (λ other. is_eq (by_entries columns row other)) row (in_order (before ++ after)) (tied_self (by_entries columns) (entries_total columns) row)

    pub without_its_entry : without_entry (collations columns) (indexed columns row) (entries_of_rows columns (before ++ row ∷ after)) ≡ entries_of_rows columns (before ++ after)
    without_its_entry =
        ap (without_entry (collations columns) (indexed columns row)) as_placed
        ∙ filter_map_through order (indexed columns) (λ other. not (is_eq (order (indexed columns row) other))) (placed (by_entries columns) row (in_order (before ++ after)))
        ∙ ap (map (indexed columns)) (without_placed (by_entries columns) (λ other. is_eq (by_entries columns row other)) row (in_order (before ++ after)) (tied_self (by_entries columns) (entries_total columns) row) none_there)
        ∙ sym (entries_are (before ++ after))

pub adds_its_entry : AddsItsEntry
adds_its_entry columns before after row apart = (has_none columns before after row apart, with_its_entry columns before after row apart)

pub takes_its_entry : TakesItsEntry
takes_its_entry columns before after row apart = (has_its_entry columns before after row apart, without_its_entry columns before after row apart)

-- ---- rows in two parts

module _ (columns : Columns) (test : Row → Bool) where
  abbrev kept : List Row → List Row
  kept rows = filter (λ row. not (test row)) rows

  filtered_apart : (p : Row → Bool) (row : Row) (rows : List Row) → IsApart row rows → IsApart row (filter p rows)
  filtered_apart p row [] all = tt
  filtered_apart p row (other ∷ rows) all = by (p other) (filtered_apart p row rows all.1) where
    by : (b : Bool) → IsApart row (filter p rows) → IsApart row (cond b (other ∷ filter p rows) (filter p rows))
    by true more = (all.0, more)
    by false more = more

  pub same_where_parted : (rows : List Row) → AreApart rows → in_order columns (kept rows ++ filter test rows) ≡ in_order columns rows
  same_where_parted [] apart = refl
  same_where_parted (row ∷ rows) apart = by (test row) (same_where_parted rows apart.1) where
    by : (b : Bool) → in_order columns (kept rows ++ filter test rows) ≡ in_order columns rows
        → in_order columns (cond (not b) (row ∷ kept rows) (kept rows) ++ cond b (row ∷ filter test rows) (filter test rows)) ≡ placed (by_entries columns) row (in_order columns rows)
    by true more =
        sorted_with (by_entries columns) (entries_total columns) (kept rows) (filter test rows) row (untied columns row (kept rows) (filtered_apart (λ r. not (test r)) row rows apart.0))
        ∙ ap (placed (by_entries columns) row) more
    by false more = ap (placed (by_entries columns) row) more

pub parted : SameWhereParted
parted columns test rows apart =
    entries_are columns (filter (λ row. not (test row)) rows ++ filter test rows) ∙ ap (map (indexed columns)) (same_where_parted columns test rows apart) ∙ sym (entries_are columns rows)
