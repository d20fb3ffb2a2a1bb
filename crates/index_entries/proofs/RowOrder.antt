-- The order of rows by their entries is total, and rows of two rowids don't tie.
use Rattle.std.proofs.Common.{◌≡◌, refl, sym, ap, ◌∙◌, ℕ, Bool, true, false, [], ◌∷◌, slice_index_or}
use mathlib.Core.Bool.{true≢false}
use Rattle.std.specs.Cmp.{IsTotalOrder, on_total, then_total}
use Rattle.std.specs.Ordering.{is_eq, int_cmp, ordering_then}
use Rattle.std.specs.declared.cmp.Ordering.{Ordering}
use Rattle.std.specs.declared.cmp.Ordering.TheVariants.{Less, Equal, Greater}
use Rattle.std.proofs.lemmas.Map.Lookups.{exact_signed}
use Rattle.sqlval.specs.Order.{order}
use Rattle.sqlval.specs.declared.collation.Collation.TheVariants.{Binary}
use Rattle.sqlval.specs.declared.value.Value.{Value}
use Rattle.sqlval.specs.declared.value.Value.TheVariants.{Null, Int}
use Rattle.sqlval.proofs.Ordering as values
use Rattle.tree_index.specs.Entries.{entry_cmp}
use Rattle.index_entries.specs.Entries.{Columns, Row, collations, indexed}

-- ---- column by column

abbrev value_at : ℕ → Row → Value
value_at place row = slice_index_or row.1 place Null

abbrev pub row_cmp : Columns → Row → Row → Ordering
row_cmp [] r s = ordering_then (order Binary (Int r.0) (Int s.0)) Equal
row_cmp (column ∷ columns) r s = ordering_then (order column.1 (value_at column.0 r) (value_at column.0 s)) (row_cmp columns r s)

all_tie : IsTotalOrder {K = Row} (λ r s. Equal)
all_tie = record { antisymm = λ x y. refl; trans = λ x y z p q. p; congr = λ x y z p. refl }

by_columns : (columns : Columns) → IsTotalOrder (row_cmp columns)
by_columns [] = then_total (on_total (λ (row : Row). Int row.0) (values.total Binary)) all_tie
by_columns (column ∷ columns) = then_total (on_total (value_at column.0) (values.total column.1)) (by_columns columns)

-- ---- by entries

-- rows as their entries are ordered
abbrev pub by_entries : Columns → Row → Row → Ordering
by_entries columns r s = entry_cmp (collations columns) (indexed columns r) (indexed columns s)

same : (columns : Columns) (r s : Row) → by_entries columns r s ≡ row_cmp columns r s
same [] r s = refl
same (column ∷ columns) r s = ap (ordering_then (order column.1 (value_at column.0 r) (value_at column.0 s))) (same columns r s)

pub entries_total : (columns : Columns) → IsTotalOrder (by_entries columns)
entries_total columns = record {
  antisymm = λ x y. (let t = (by_columns columns).antisymm x y in rw (same columns x y) (rw (same columns y x) t));
  trans = λ x y z p q. same columns x z ∙ (by_columns columns).trans x y z (sym (same columns x y) ∙ p) (sym (same columns y z) ∙ q);
  congr = λ x y z p. same columns x z ∙ (by_columns columns).congr x y z (sym (same columns x y) ∙ p) ∙ sym (same columns y z);
}

-- rows that tie have one rowid
tie_by_columns : (columns : Columns) (r s : Row) → is_eq (row_cmp columns r s) ≡ true → r.0 ≡ s.0
tie_by_columns [] r s e = by (int_cmp r.0 s.0) refl e where
  by : (p : Ordering) → int_cmp r.0 s.0 ≡ p → is_eq (ordering_then p Equal) ≡ true → r.0 ≡ s.0
  by Less f e = absurd (true≢false (sym e))
  by Equal f e = exact_signed r.0 s.0 f
  by Greater f e = absurd (true≢false (sym e))
tie_by_columns (column ∷ columns) r s e = by (order column.1 (value_at column.0 r) (value_at column.0 s)) e (tie_by_columns columns r s) where
  by : (p : Ordering) → is_eq (ordering_then p (row_cmp columns r s)) ≡ true → (is_eq (row_cmp columns r s) ≡ true → r.0 ≡ s.0) → r.0 ≡ s.0
  by Less e more = absurd (true≢false (sym e))
  by Equal e more = more e
  by Greater e more = absurd (true≢false (sym e))

pub no_tie : (columns : Columns) (r s : Row) → (r.0 ≡ s.0 → ⊥) → is_eq (by_entries columns r s) ≡ false
no_tie columns r s apart = by (is_eq (by_entries columns r s)) refl where
  by : (b : Bool) → is_eq (by_entries columns r s) ≡ b → b ≡ false
  by true e = absurd (apart (tie_by_columns columns r s (ap is_eq (sym (same columns r s)) ∙ e)))
  by false e = refl
