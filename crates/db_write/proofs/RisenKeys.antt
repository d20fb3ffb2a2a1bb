-- Keys that rise from row to row: no two rows clash.
use Rattle.std.proofs.Common.{◌≡◌, refl, sym, ap, subst, ◌∙◌, ◌&&◌, ◌||◌, ℕ, Bool, true, false, not, List, [], ◌∷◌, ◌++◌, map, slice_index_or}
use Rattle.std.specs.List.{AllByRecursion, list_any}
use Rattle.std.specs.Ordering.{is_eq, ordering_reverse}
use Rattle.std.specs.declared.cmp.Ordering.TheVariants.{Less}
use Rattle.std.proofs.lemmas.Option.{unwrap_or-slice_get}
use Rattle.sqlval.specs.Order.{order}
use Rattle.sqlval.specs.declared.collation.Collation.{Collation}
use Rattle.sqlval.specs.declared.value.Value.{Value}
use Rattle.sqlval.specs.declared.value.Value.TheVariants.{Null}
use Rattle.sqlval.proofs.Ordering.{total}
use Rattle.catalog.specs.declared.tables.Index.{Index}
use Rattle.catalog.specs.declared.tables.IndexColumn.{IndexColumn}
use Rattle.row_scan.specs.Rows.{TableRow}
use Rattle.row_scan.specs.Sources.{as_source}
use Rattle.index_entries.specs.Alone.{clashes, has_null, shares_key}
use Rattle.index_entries.specs.Keeping.{columns_in}
use Rattle.db_write.specs.Kept.{AreAloneIn, ClashesWithNone, FirstRises, KeysRise, ValuesRise, row_value}

both_false : (a b : Bool) → a ≡ false → b ≡ false → a || b ≡ false
both_false a b first second = ap (λ (t : Bool). t || b) first ∙ second

and_false : (b : Bool) → b && false ≡ false
and_false true = refl
and_false false = refl

abbrev held : ℕ → TableRow → Value
held place row = slice_index_or row.1 place Null

-- a source's rows have the values of the table's
in_source : (place : ℕ) (rows : List TableRow) → map (row_value place) (map as_source rows) ≡ map (held place) rows
in_source place [] = refl
in_source place (row ∷ rows) =
    ap (λ (v : Value). v ∷ map (row_value place) (map as_source rows)) (unwrap_or-slice_get row.1 place Null) ∙ ap (λ (vs : List Value). held place row ∷ vs) (in_source place rows)

module _ (c : Collation) where
  less_still : (v w : Value) (vs : List Value) → order c v w ≡ Less → AllByRecursion (λ u. order c w u ≡ Less) vs → AllByRecursion (λ u. order c v u ≡ Less) vs
  less_still v w [] less all = tt
  less_still v w (u ∷ vs) less all = ((total c).trans v w u less all.0, less_still v w vs less all.1)

  -- each is less than all after it
  less_than_all : (v : Value) (vs : List Value) → ValuesRise c (v ∷ vs) → AllByRecursion (λ u. order c v u ≡ Less) vs
  less_than_all v [] rise = tt
  less_than_all v (w ∷ vs) rise = (rise.0, less_still v w vs rise.0 (less_than_all w vs rise.1))

  rest_rises : (v : Value) (vs : List Value) → ValuesRise c (v ∷ vs) → ValuesRise c vs
  rest_rises v [] rise = tt
  rest_rises v (w ∷ vs) rise = rise.1

module _ (column : IndexColumn) (columns : List IndexColumn) where
  abbrev c : Collation
  c = column.collation

  abbrev at : TableRow → Value
  at = held column.place

  abbrev key : List (ℕ × Collation)
  key = columns_in (column ∷ columns)

  differ : (row other : TableRow) → is_eq (order c (at row) (at other)) ≡ false → clashes key row other ≡ false
  differ row other e =
      ap (λ (b : Bool). not (has_null key row.1) && (b && shares_key (columns_in columns) row.1 other.1)) e ∙ and_false (not (has_null key row.1))

  none_after : (row : TableRow) (after : List TableRow) → AllByRecursion (λ u. order c (at row) u ≡ Less) (map at after) → list_any (clashes key row) after ≡ false
  none_after row [] all = refl
  none_after row (other ∷ after) all = both_false (clashes key row other) (list_any (clashes key row) after) (differ row other (ap is_eq all.0)) (none_after row after all.1)

  in_middle : (v : Value) (before : List TableRow) (row : TableRow) (after : List TableRow) → AllByRecursion (λ u. order c v u ≡ Less) (map at (before ++ row ∷ after)) → order c v (at row) ≡ Less
  in_middle v [] row after all = all.0
  in_middle v (other ∷ before) row after all = in_middle v before row after all.1

  none_beside : (before : List TableRow) (row : TableRow) (after : List TableRow) → ValuesRise c (map at (before ++ row ∷ after)) → list_any (clashes key row) (before ++ after) ≡ false
  none_beside [] row after rise = none_after row after (less_than_all c (at row) (map at after) rise)
  none_beside (other ∷ before) row after rise =
      let less = in_middle (at other) before row after (less_than_all c (at other) (map at (before ++ row ∷ after)) rise) in
      both_false (clashes key row other) (list_any (clashes key row) (before ++ after))
      (differ row other (ap is_eq ((total c).antisymm (at row) (at other) ∙ ap ordering_reverse less)))
      (none_beside before row after (rest_rises c (at other) (map at (before ++ row ∷ after)) rise))

one_alone : (columns : List IndexColumn) (rows : List TableRow) → FirstRises (map as_source rows) columns → (before : List TableRow) (row : TableRow) (after : List TableRow) → before ++ row ∷ after ≡ rows
    → list_any (clashes (columns_in columns) row) (before ++ after) ≡ false
one_alone [] rows rise before row after are = absurd rise
one_alone (column ∷ columns) rows rise before row after are =
    none_beside column columns before row after
    (subst (λ (rs : List TableRow). ValuesRise column.collation (map (held column.place) rs)) (sym are) (subst (ValuesRise column.collation) (in_source column.place rows) rise))

each_alone : (index : Index) (rows those : List TableRow) → FirstRises (map as_source rows) index.columns → AllByRecursion (ClashesWithNone rows index) those
each_alone index rows [] rise = tt
each_alone index rows (row ∷ those) rise = ((λ before after are. one_alone index.columns rows rise before row after are), each_alone index rows those rise)

-- where the keys rise, no row clashes with another
pub risen_alone : (rows those : List TableRow) (indexes : List Index) → AllByRecursion (KeysRise (map as_source rows)) indexes → AllByRecursion (AreAloneIn rows those) indexes
risen_alone rows those [] rise = tt
risen_alone rows those (index ∷ indexes) rise = (λ unique. each_alone index rows those (rise.0 unique), risen_alone rows those indexes rise.1)
