-- A condition that seeks a range of a source isn't true beside a row outside it: one of the comparisons that ask for the ends isn't.
use Rattle.std.proofs.Common.{◌≡◌, refl, sym, ap, ◌∙◌, ℕ, ℤ, pos, negsuc, ◌^◌, ◌-◌, ◌+ℤ◌, ◌-ℤ◌, ◌<ℤ◌, int_lt, Bool, true, false, not, ◌&&◌, ◌||◌, List, [], ◌∷◌, length, slice_index_or, Option, Some, None, Ok, inl, inr, ◌⊎◌, arith}
use mathlib.Core.Bool.{true≢false}
use Rattle.std.specs.Option.{is_some}
use Rattle.std.specs.Ordering.{MatchOrdering, int_cmp, is_eq, is_ge, is_gt, is_le, is_lt}
use Rattle.std.specs.Prelude.{IfSome, slice_get}
use Rattle.std.specs.Cmp.{int_ranks}
use Rattle.std.specs.declared.cmp.Ordering.{Ordering}
use Rattle.std.specs.declared.cmp.Ordering.TheVariants.{Less as Below, Equal as Same, Greater as Above}
use Rattle.std.proofs.lemmas.Int.{ints}
use Rattle.sqlval.specs.Conversion.{is_word}
use Rattle.sqlval.specs.Order.{order}
use Rattle.sqlval.specs.declared.collation.Collation.TheVariants.{Binary}
use Rattle.sqlval.specs.declared.value.Value.{Value}
use Rattle.sqlval.specs.declared.value.Value.TheVariants.{Null, Int, Text, Blob}
use Rattle.catalog.specs.declared.tables.IndexColumn.{IndexColumn}
use Rattle.query_terms.specs.Terms.{Term}
use Rattle.query_terms.specs.Values.{Row, cell, compared, is_met, is_null, value}
use Rattle.query_terms.specs.declared.tree.Comparison.{Comparison}
use Rattle.query_terms.specs.declared.tree.Place.TheVariants.{RowId}
use Rattle.query_names.specs.Calm.{is_calm}
use Rattle.query_names.specs.Readings.{env_of}
use Rattle.query_plan.specs.Keys.{AreAsked, of_column}
use Rattle.query_plan.specs.Ranges.{AreEnds, AsksFrom, AsksTo, IsBoundOf, SeeksRowids, has_range, high_comparison, is_outside, is_within, low_comparison, meets_end, of_rowid}
use Rattle.query_plan.specs.declared.keys.Wanted.{Wanted}
use Rattle.query_plan.specs.declared.ranges.Bound.{Bound}
use Rattle.query_plan.specs.declared.ranges.Range.{Range}
use Rattle.query_plan.proofs.KeyedRows.{LeftOut, apart, cell_is, column_is, of_halves, unmet, unmet_null}
use Rattle.query_plan.proofs.Parts.{left, right}

-- ---- tests

either_false : (x y : Bool) → x && y ≡ false → (x ≡ false) ⊎ (y ≡ false)
either_false false y e = inl refl
either_false true y e = inr e

either_true : (x y : Bool) → x || y ≡ true → (x ≡ true) ⊎ (y ≡ true)
either_true true y e = inl refl
either_true false y e = inr e

pub turned_false : (x : Bool) → not x ≡ false → x ≡ true
turned_false true e = refl
turned_false false e = absurd (true≢false e)

null_is : (v : Value) → is_null v ≡ true → v ≡ Null
null_is Null e = refl
null_is (Int n) e = absurd (true≢false (sym e))
null_is (Text t) e = absurd (true≢false (sym e))
null_is (Blob b) e = absurd (true≢false (sym e))

same_next : (column next : IndexColumn) → Some column ≡ Some next → column ≡ next
same_next column next e = ap (λ o. elim o [ None ↦ column | Some it ↦ it ]) e

-- ---- a row whose value is past an end

module _ (condition : Term) (calm : is_calm condition ≡ true) (rows : List Row) where
  abbrev here : Wanted → Value
  here w = cell (env_of rows) w.source w.place

  module _ (w : Wanted) (by : Bool → Comparison) where
    past_end : (end : Bound) → IsBoundOf w by condition end → LeftOut (Ok (compared (by end.within) w.collation (here w) end.value)) → LeftOut (value condition (env_of rows))
    past_end end asked missed = of_halves w (by end.within) end.value (env_of rows) missed condition calm asked

    past : (end : Option Bound) → IfSome end (IsBoundOf w by condition) → meets_end by w.collation end (here w) ≡ false → LeftOut (value condition (env_of rows))
    past None asked e = absurd (true≢false e)
    past (Some end) asked e = past_end end asked (unmet (by end.within) w.collation (here w) end.value e)

    at_null : (end : Option Bound) → IfSome end (IsBoundOf w by condition) → is_some end ≡ true → here w ≡ Null → LeftOut (value condition (env_of rows))
    at_null None asked some e = absurd (true≢false (sym some))
    at_null (Some end) asked some e = past_end end asked (unmet_null (by end.within) w.collation (here w) end.value e)

  out_of : (w : Wanted) (range : Range) → AreEnds w condition range → is_within w.collation range (here w) ≡ false → LeftOut (value condition (env_of rows))
  out_of w range ends e =
      by (either_false (not (is_null (here w))) (meets_end low_comparison w.collation range.low (here w) && meets_end high_comparison w.collation range.high (here w)) e)
    where
      no_value : (is_some range.low ≡ true) ⊎ (is_some range.high ≡ true) → here w ≡ Null → LeftOut (value condition (env_of rows))
      no_value (inl some) null = at_null w low_comparison range.low ends.low some null
      no_value (inr some) null = at_null w high_comparison range.high ends.high some null

      past_one : (meets_end low_comparison w.collation range.low (here w) ≡ false) ⊎ (meets_end high_comparison w.collation range.high (here w) ≡ false) → LeftOut (value condition (env_of rows))
      past_one (inl below) = past w low_comparison range.low ends.low below
      past_one (inr above) = past w high_comparison range.high ends.high above

      by : (not (is_null (here w)) ≡ false) ⊎ ((meets_end low_comparison w.collation range.low (here w) && meets_end high_comparison w.collation range.high (here w)) ≡ false)
          → LeftOut (value condition (env_of rows))
      by (inl null) = no_value (either_true (is_some range.low) (is_some range.high) ends.some) (null_is (here w) (turned_false (is_null (here w)) null))
      by (inr e) = past_one (either_false (meets_end low_comparison w.collation range.low (here w)) (meets_end high_comparison w.collation range.high (here w)) e)

  module _ (n : ℕ) (row : Row) (at_n : slice_get rows n ≡ Some row) (next : IndexColumn) (range : Range) (ends : AreEnds (of_column n next) condition range) where
    pub of_other_range : (columns : List IndexColumn) (key : List Value) → slice_get columns (length key) ≡ Some next → AreAsked n columns key condition → has_range columns key range row.values ≡ false
        → LeftOut (value condition (env_of rows))
    of_other_range [] key is asked other = absurd (true≢false other)
    of_other_range (column ∷ columns) [] is asked other =
        out_of (of_column n next) range ends
        (ap (λ (v : Value). is_within next.collation range v) (column_is rows n row at_n next.place)
        ∙ (ap (λ (it : IndexColumn). is_within it.collation range (slice_index_or row.values it.place Null)) (sym (same_next column next is)) ∙ other))
    of_other_range (column ∷ columns) (k ∷ key) is asked other =
        by (is_eq (order column.collation (slice_index_or row.values column.place Null) k)) refl (of_other_range columns key is asked.1)
      where
        by : (test : Bool) → is_eq (order column.collation (slice_index_or row.values column.place Null) k) ≡ test → (has_range columns key range row.values ≡ false → LeftOut (value condition (env_of rows)))
            → LeftOut (value condition (env_of rows))
        by false e more = apart condition calm rows n row at_n column k asked.0 e
        by true e more = more (sym (ap (λ (test : Bool). test && has_range columns key range row.values) e) ∙ other)

-- ---- rowids

not_at_least : (n low : ℤ) → int_lt n low ≡ true → is_ge (int_cmp n low) ≡ false
not_at_least n low lt = by (int_cmp n low) (int_ranks n low) where
  by : (o : Ordering) → MatchOrdering o (n <ℤ low) (n ≡ low) (low <ℤ n) → is_ge o ≡ false
  by Below r = refl
  by Same r = absurd (grind (arith, ints))
  by Above r = absurd (grind (arith, ints))

not_above : (n low : ℤ) → int_lt n low ≡ true → is_gt (int_cmp n (low -ℤ pos 1)) ≡ false
not_above n low lt = by (int_cmp n (low -ℤ pos 1)) (int_ranks n (low -ℤ pos 1)) where
  by : (o : Ordering) → MatchOrdering o (n <ℤ (low -ℤ pos 1)) (n ≡ (low -ℤ pos 1)) ((low -ℤ pos 1) <ℤ n) → is_gt o ≡ false
  by Below r = refl
  by Same r = refl
  by Above r = absurd (grind (arith, ints))

not_at_most : (n high : ℤ) → int_lt high n ≡ true → is_le (int_cmp n high) ≡ false
not_at_most n high lt = by (int_cmp n high) (int_ranks n high) where
  by : (o : Ordering) → MatchOrdering o (n <ℤ high) (n ≡ high) (high <ℤ n) → is_le o ≡ false
  by Below r = absurd (grind (arith, ints))
  by Same r = absurd (grind (arith, ints))
  by Above r = refl

not_below : (n high : ℤ) → int_lt high n ≡ true → is_lt (int_cmp n (high +ℤ pos 1)) ≡ false
not_below n high lt = by (int_cmp n (high +ℤ pos 1)) (int_ranks n (high +ℤ pos 1)) where
  by : (o : Ordering) → MatchOrdering o (n <ℤ (high +ℤ pos 1)) (n ≡ (high +ℤ pos 1)) ((high +ℤ pos 1) <ℤ n) → is_lt o ≡ false
  by Below r = absurd (grind (arith, ints))
  by Same r = refl
  by Above r = refl

none_before : (n low : ℤ) → low ≡ negsuc (2 ^ 63 - 1) → is_word n ≡ true → int_lt n low ≡ true → ⊥
none_before n low least word lt = grind (arith, ints)

none_after : (n high : ℤ) → high ≡ pos (2 ^ 63 - 1) → is_word n ≡ true → int_lt high n ≡ true → ⊥
none_after n high greatest word lt = grind (arith, ints)

module _ (condition : Term) (rows : List Row) (source : ℕ) (low high : ℤ) (seeks : SeeksRowids source condition low high) (n : ℤ) (rowid_is : cell (env_of rows) source RowId ≡ Int n) where
  missed : (by : Bool → Comparison) (end : Bound) → IsBoundOf (of_rowid source) by condition end → is_met (by end.within) (order Binary (Int n) end.value) ≡ false
      → LeftOut (value condition (env_of rows))
  missed by end asked e =
      past condition seeks.calm rows (of_rowid source) by (Some end) asked (ap (λ (v : Value). is_met (by end.within) (order Binary v end.value)) rowid_is ∙ e)

  before : is_word n ≡ true → int_lt n low ≡ true → (low ≡ negsuc (2 ^ 63 - 1)) ⊎ AsksFrom source condition low → LeftOut (value condition (env_of rows))
  before word lt (inl least) = absurd (none_before n low least word lt)
  before word lt (inr (inl asked)) = missed low_comparison (record { value = Int low; within = true }) asked (not_at_least n low lt)
  before word lt (inr (inr asked)) = missed low_comparison (record { value = Int (low -ℤ pos 1); within = false }) asked (not_above n low lt)

  after : is_word n ≡ true → int_lt high n ≡ true → (high ≡ pos (2 ^ 63 - 1)) ⊎ AsksTo source condition high → LeftOut (value condition (env_of rows))
  after word lt (inl greatest) = absurd (none_after n high greatest word lt)
  after word lt (inr (inl asked)) = missed high_comparison (record { value = Int high; within = true }) asked (not_at_most n high lt)
  after word lt (inr (inr asked)) = missed high_comparison (record { value = Int (high +ℤ pos 1); within = false }) asked (not_below n high lt)

  outside : (is_word n && (int_lt n low || int_lt high n)) ≡ true → LeftOut (value condition (env_of rows))
  outside e = by (either_true (int_lt n low) (int_lt high n) (right (is_word n) (int_lt n low || int_lt high n) e)) where
    word : is_word n ≡ true
    word = left (is_word n) (int_lt n low || int_lt high n) e

    by : (int_lt n low ≡ true) ⊎ (int_lt high n ≡ true) → LeftOut (value condition (env_of rows))
    by (inl lt) = before word lt seeks.from
    by (inr lt) = after word lt seeks.to

-- whether a rowid is a number of 64 bits outside
abbrev outside_by : ℤ → ℤ → Value → Bool
outside_by low high rowid = elim rowid [ Int n ↦ is_word n && (int_lt n low || int_lt high n) | _ ↦ false ]

pub of_other_rowid : (condition : Term) (rows : List Row) (source : ℕ) (low high : ℤ) → SeeksRowids source condition low high → (row : Row) → slice_get rows source ≡ Some row → is_outside low high row ≡ true
    → LeftOut (value condition (env_of rows))
of_other_rowid condition rows source low high seeks row here e = by row.rowid refl where
  by : (v : Value) → row.rowid ≡ v → LeftOut (value condition (env_of rows))
  by (Int n) is = outside condition rows source low high seeks n (cell_is rows source row here RowId ∙ is) (sym (ap (outside_by low high) is) ∙ e)
  by Null is = absurd (true≢false (sym e ∙ ap (outside_by low high) is))
  by (Text t) is = absurd (true≢false (sym e ∙ ap (outside_by low high) is))
  by (Blob b) is = absurd (true≢false (sym e ∙ ap (outside_by low high) is))
