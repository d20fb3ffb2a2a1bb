-- Rows clash where their entries have one key without NULL, and of entries in order this is seen in neighbours.
use Rattle.std.proofs.Common.{◌≡◌, ◌≤◌, ◌<◌, ◌+◌, refl, sym, ap, ◌∙◌, ℕ, zero, suc, Bool, true, false, not, ◌&&◌, ◌||◌, List, [], ◌∷◌, length, map, drop, slice_get, slice_index_or, arith}
use mathlib.Core.Bool.{true≢false}
use Rattle.std.proofs.lemmas.List.{drop_all}
use Rattle.std.specs.Ordering.{is_eq, is_gt, ordering_reverse, ordering_then}
use Rattle.std.specs.Prelude.{unwrap_or}
use Rattle.std.specs.declared.cmp.Ordering.{Ordering}
use Rattle.std.specs.declared.cmp.Ordering.TheVariants.{Less, Equal, Greater}
use Rattle.sqlval.specs.Lists.{sorted}
use Rattle.sqlval.specs.Order.{order}
use Rattle.sqlval.specs.declared.collation.Collation.{Collation}
use Rattle.sqlval.specs.declared.value.Value.{Value}
use Rattle.sqlval.specs.declared.value.Value.TheVariants.{Null, Int, Text, Blob}
use Rattle.sqlval.proofs.Ordering as values
use Rattle.catalog.specs.Database.{Index}
use Rattle.catalog.specs.declared.tables.IndexColumn.{IndexColumn}
use Rattle.query_names.specs.Keys.{clash, is_null}
use Rattle.tree_index.specs.Entries.{Entry}
use Rattle.index_entries.specs.Entries.{Columns, Row, indexed}
use Rattle.index_entries.specs.Keeping.{columns_in}
use Rattle.index_build.specs.Calls.{TellsClash}
use Rattle.index_build.specs.Ranking.{any_beside, have_one_key, ranked, value_or_null}
use Rattle.index_build.proofs.Neighbours.{beside_is, sorted_rise, twice_sorted, twice_through}
use Rattle.index_build.proofs.Ranks.{LieAt, column_there, first_at, rest_at, total}
use Rattle.index_build.proofs.RowEntries.{rows_same, sorted_rows}

-- ---- tests

both_true : (a b : Bool) → a && b ≡ true → (a ≡ true) × (b ≡ true)
both_true true b e = (refl, e)
both_true false b e = absurd (true≢false (sym e))

true_both : (a b : Bool) → a ≡ true → b ≡ true → a && b ≡ true
true_both true b e f = f
true_both false b e f = absurd (true≢false (sym e))

isnt : (b : Bool) → not b ≡ true → b ≡ false
isnt true e = absurd (true≢false (sym e))
isnt false e = refl

both_ways : (a b : Bool) → (a ≡ true → b ≡ true) → (b ≡ true → a ≡ true) → a ≡ b
both_ways true true f g = refl
both_ways true false f g = sym (f refl)
both_ways false true f g = g refl
both_ways false false f g = refl

equal_of : (o : Ordering) → is_eq o ≡ true → o ≡ Equal
equal_of Less e = absurd (true≢false (sym e))
equal_of Equal e = refl
equal_of Greater e = absurd (true≢false (sym e))

-- ---- values

greater_equal : Greater ≡ Equal → ⊥
greater_equal e = true≢false (ap is_gt e)

-- what equals a value that isn't NULL isn't NULL
not_null : (c : Collation) (v w : Value) → is_null v ≡ false → order c v w ≡ Equal → is_null w ≡ false
not_null c v (Int n) e same = refl
not_null c v (Text t) e same = refl
not_null c v (Blob b) e same = refl
not_null c Null Null e same = e
not_null c (Int m) Null e same = absurd (greater_equal same)
not_null c (Text s) Null e same = absurd (greater_equal same)
not_null c (Blob x) Null e same = absurd (greater_equal same)

-- a value between two that are equal equals them
between_equal : (c : Collation) (v w u : Value) (r s : Ordering) → order c v u ≡ Equal → is_gt (ordering_then (order c v w) r) ≡ false → is_gt (ordering_then (order c w u) s) ≡ false
    → (order c v w ≡ Equal) × (order c w u ≡ Equal)
between_equal c v w u r s same low up =
    by (order c v w) refl ((values.total c).antisymm w u ∙ ap ordering_reverse (sym ((values.total c).congr v u w same))) low up
  where
    by : (p : Ordering) → order c v w ≡ p → order c w u ≡ ordering_reverse p → is_gt (ordering_then p r) ≡ false → is_gt (ordering_then (order c w u) s) ≡ false
        → (p ≡ Equal) × (order c w u ≡ Equal)
    by Less e f low up = absurd (true≢false (sym (ap (λ (o : Ordering). is_gt (ordering_then o s)) f) ∙ up))
    by Equal e f low up = (refl, f)
    by Greater e f low up = absurd (true≢false low)

-- ---- entries

-- of one key are both or neither
one_back : (columns : List IndexColumn) (place : ℕ) (a b : Entry) → have_one_key place columns a b ≡ true → have_one_key place columns b a ≡ true
one_back [] place a b e = refl
one_back (column ∷ columns) place a b e =
    let parts = both_true (not (is_null (value_or_null a place)) && is_eq (order column.collation (value_or_null a place) (value_or_null b place))) (have_one_key (place + 1) columns a b) e in
    true_both (not (is_null (value_or_null b place)) && is_eq (order column.collation (value_or_null b place) (value_or_null a place))) (have_one_key (place + 1) columns b a)
    (at column.collation (value_or_null a place) (value_or_null b place) parts.0) (one_back columns (place + 1) a b parts.1)
  where
    at : (c : Collation) (v w : Value) → not (is_null v) && is_eq (order c v w) ≡ true → not (is_null w) && is_eq (order c w v) ≡ true
    at c v w e =
        let parts = both_true (not (is_null v)) (is_eq (order c v w)) e in
        let same = equal_of (order c v w) parts.1 in
        true_both (not (is_null w)) (is_eq (order c w v)) (ap not (not_null c v w (isnt (is_null v) parts.0) same)) (ap is_eq ((values.total c).antisymm w v ∙ ap ordering_reverse same))

-- an entry between two of one key has it
one_between : (columns : List IndexColumn) (place : ℕ) (x y z : Entry) → is_gt (ranked place columns x y) ≡ false → is_gt (ranked place columns y z) ≡ false
    → have_one_key place columns x z ≡ true → have_one_key place columns x y ≡ true
one_between [] place x y z low up e = refl
one_between (column ∷ columns) place x y z low up e =
    let v = value_or_null x place in
    let w = value_or_null y place in
    let u = value_or_null z place in
    let parts = both_true (not (is_null v) && is_eq (order column.collation v u)) (have_one_key (place + 1) columns x z) e in
    let first = both_true (not (is_null v)) (is_eq (order column.collation v u)) parts.0 in
    let equal = between_equal column.collation v w u (ranked (place + 1) columns x y) (ranked (place + 1) columns y z) (equal_of (order column.collation v u) first.1) low up in
    true_both (not (is_null v) && is_eq (order column.collation v w)) (have_one_key (place + 1) columns x y) (true_both (not (is_null v)) (is_eq (order column.collation v w)) first.0 (ap is_eq equal.0))
    (one_between columns (place + 1) x y z
    (sym (ap (λ (o : Ordering). is_gt (ordering_then o (ranked (place + 1) columns x y))) equal.0) ∙ low)
    (sym (ap (λ (o : Ordering). is_gt (ordering_then o (ranked (place + 1) columns y z))) equal.1) ∙ up) parts.1)

-- ---- one column after the other

-- What is left of the columns decides.
pub record AreLeft (columns : List IndexColumn) (a b : Entry) (place : ℕ) : Type 0 where
  pub low : place ≤ length columns
  pub same : have_one_key place (drop place columns) a b ≡ have_one_key 0 columns a b

pub at_first : (columns : List IndexColumn) (a b : Entry) → AreLeft columns a b 0
at_first columns a b = record { low = omega arith; same = refl }

module _ (columns : List IndexColumn) (a b : Entry) (place : ℕ) (d : IndexColumn) (found : Bool) (is : AreLeft columns a b place) (lt : place < length columns)
    (found_is : found ≡ not (is_null (value_or_null a place)) && is_eq (order (slice_index_or columns place d).collation (value_or_null a place) (value_or_null b place))) where
  by_first : found && have_one_key (place + 1) (drop (place + 1) columns) a b ≡ have_one_key 0 columns a b
  by_first = ap (λ (t : Bool). t && have_one_key (place + 1) (drop (place + 1) columns) a b) found_is
      ∙ (sym (ap (λ (l : List IndexColumn). have_one_key place l a b) (column_there columns place d lt)) ∙ is.same)

  pub differ : found ≡ false → false ≡ have_one_key 0 columns a b
  differ e = sym (ap (λ (t : Bool). t && have_one_key (place + 1) (drop (place + 1) columns) a b) e) ∙ by_first

  pub one_more : found ≡ true → AreLeft columns a b (place + 1)
  one_more e = record { low = omega (arith, lt); same = sym (ap (λ (t : Bool). t && have_one_key (place + 1) (drop (place + 1) columns) a b) e) ∙ by_first }

pub all_equal : (columns : List IndexColumn) (a b : Entry) (place : ℕ) → AreLeft columns a b place → length columns ≤ place → true ≡ have_one_key 0 columns a b
all_equal columns a b place is le = sym (ap (λ (l : List IndexColumn). have_one_key place l a b) (drop_all place columns le)) ∙ is.same

-- ---- entries in order

module _ (columns : List IndexColumn) where
  abbrev test : Entry → Entry → Bool
  test = have_one_key 0 columns

  even : (a b : Entry) → test a b ≡ test b a
  even a b = both_ways (test a b) (test b a) (one_back columns 0 a b) (one_back columns 0 b a)

  ends : (x y z : Entry) → is_gt (ranked 0 columns x y) ≡ false → is_gt (ranked 0 columns y z) ≡ false → test x y ≡ false → test x z ≡ false
  ends x y z low up other = by (test x z) refl where
    by : (b : Bool) → test x z ≡ b → b ≡ false
    by true e = absurd (true≢false (sym (one_between columns 0 x y z low up e) ∙ other))
    by false e = refl

-- ---- rows

-- a UNIQUE index of these columns
abbrev pub unique_of : Bool → Columns → Index
unique_of unique columns = record { table = []; is_unique = unique; is_automatic = false; columns = columns }

pub value_is : (vs : List Value) (place : ℕ) → slice_index_or vs place Null ≡ unwrap_or (slice_get vs place) Null
value_is [] place = refl
value_is (v ∷ vs) zero = refl
value_is (v ∷ vs) (suc place) = value_is vs place

-- two values are equal, and not NULL, as the values that they are
pub at_clash : (c : Collation) (v w x y : Value) → v ≡ x → w ≡ y → not (is_null v) && is_eq (order c v w) ≡ not (is_null x) && is_eq (order c x y)
at_clash c v w x y e f = ap (λ (u : Value). not (is_null u) && is_eq (order c u w)) e ∙ ap (λ (u : Value). not (is_null x) && is_eq (order c x u)) f

pub parted : (n e m f : Bool) → (not n && e) && (not m && f) ≡ not (n || m) && (e && f)
parted true e m f = refl
parted false true m f = refl
parted false false true f = refl
parted false false false f = refl

one_clash : (columns : List IndexColumn) (r s : Row) (place : ℕ) (a b : Entry) → LieAt place a (indexed (columns_in columns) r) → LieAt place b (indexed (columns_in columns) s)
    → have_one_key place columns a b ≡ clash (unique_of true (columns_in columns)) r.1 s.1
one_clash [] r s place a b lie also = refl
one_clash (column ∷ columns) r s place a b lie also =
    let v = unwrap_or (slice_get r.1 column.place) Null in
    let w = unwrap_or (slice_get s.1 column.place) Null in
    let here = at_clash column.collation (value_or_null a place) (value_or_null b place) v w
    (first_at place a (indexed (columns_in columns) r) (slice_index_or r.1 column.place Null) lie ∙ value_is r.1 column.place)
    (first_at place b (indexed (columns_in columns) s) (slice_index_or s.1 column.place Null) also ∙ value_is s.1 column.place) in
    let more = one_clash columns r s (place + 1) a b (rest_at place a (indexed (columns_in columns) r) (slice_index_or r.1 column.place Null) lie) (rest_at place b (indexed (columns_in columns) s) (slice_index_or s.1 column.place Null) also) in
    ap (λ (t : Bool). t && have_one_key (place + 1) columns a b) here ∙ ap (λ (t : Bool). (not (is_null v) && is_eq (order column.collation v w)) && t) more ∙ parted (is_null v) (is_eq (order column.collation v w)) _ _

module _ (columns : List IndexColumn) (i : Index) (unique : i.is_unique ≡ true) (columns_are : i.columns ≡ columns_in columns) where
  agree : (r s : Row) → have_one_key 0 columns (indexed (columns_in columns) r) (indexed (columns_in columns) s) ≡ clash i r.1 s.1
  agree r s =
      one_clash columns r s 0 (indexed (columns_in columns) r) (indexed (columns_in columns) s) (λ k. ap (value_or_null (indexed (columns_in columns) r)) (none k)) (λ k. ap (value_or_null (indexed (columns_in columns) s)) (none k))
      ∙ sym (ap (λ (b : Bool). clash (unique_of b i.columns) r.1 s.1) unique ∙ ap (λ (cs : Columns). clash (unique_of true cs) r.1 s.1) columns_are)
    where
      none : (k : ℕ) → k + 0 ≡ k
      none k = omega arith

  -- one clashes with another where that clashes with it
  pub clash_back : (r s : Row) → clash i r.1 s.1 ≡ clash i s.1 r.1
  clash_back r s = sym (agree r s) ∙ (even columns (indexed (columns_in columns) r) (indexed (columns_in columns) s) ∙ agree s r)

-- neighbours tell it
pub tells_clash : (columns : List IndexColumn) (entries : List Entry) (answer : Bool) → answer ≡ any_beside (have_one_key 0 columns) entries → TellsClash columns entries answer
tells_clash columns entries answer is i rows unique columns_are entries_are =
    let them = map (indexed (columns_in columns)) rows in
    is ∙ ap (any_beside (have_one_key 0 columns)) (entries_are ∙ sym (sorted_rows columns rows) ∙ ap (sorted (ranked 0 columns)) (rows_same columns rows))
    ∙ sym (beside_is (ranked 0 columns) (total 0 columns) (have_one_key 0 columns) (ends columns) (sorted (ranked 0 columns) them) (sorted_rise (ranked 0 columns) (total 0 columns) them))
    ∙ twice_sorted (ranked 0 columns) (have_one_key 0 columns) (even columns) them
    ∙ twice_through (indexed (columns_in columns)) (have_one_key 0 columns) (λ (r : Row) (s : Row). clash i r.1 s.1) (agree columns i unique columns_are) rows
