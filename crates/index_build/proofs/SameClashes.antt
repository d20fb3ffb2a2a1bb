-- Rows clash by the entries of a UNIQUE index exactly where they do by its definition.
use Rattle.std.proofs.Common.{◌≡◌, refl, sym, ap, ◌∙◌, Bool, true, not, ◌&&◌, [], ◌∷◌, slice_get, slice_index_or}
use Rattle.std.specs.Ordering.{is_eq}
use Rattle.std.specs.Prelude.{unwrap_or}
use Rattle.sqlval.specs.Order.{order}
use Rattle.sqlval.specs.declared.collation.Collation.{Collation}
use Rattle.sqlval.specs.declared.value.Value.{Value}
use Rattle.sqlval.specs.declared.value.Value.TheVariants.{Null, Int, Text, Blob}
use Rattle.query_names.specs.Keys.{clash, is_null}
use Rattle.index_entries.specs.Alone as apart
use Rattle.index_entries.specs.Alone.{clashes, has_null, shares_key}
use Rattle.index_entries.specs.Entries.{Columns, Row}
use Rattle.index_build.specs.Laws.{ClashesAlike}
use Rattle.index_build.proofs.OneKeys.{parted, unique_of, value_is}

null_same : (v : Value) → apart.is_null v ≡ is_null v
null_same Null = refl
null_same (Int n) = refl
null_same (Text t) = refl
null_same (Blob b) = refl

at_one : (c : Collation) (v w x y : Value) → v ≡ x → w ≡ y → not (apart.is_null v) && is_eq (order c v w) ≡ not (is_null x) && is_eq (order c x y)
at_one c v w x y e f =
    ap (λ (t : Bool). not t && is_eq (order c v w)) (null_same v) ∙ ap (λ (u : Value). not (is_null u) && is_eq (order c u w)) e ∙ ap (λ (u : Value). not (is_null x) && is_eq (order c x u)) f

alike : (columns : Columns) (r s : Row) → clashes columns r s ≡ clash (unique_of true columns) r.1 s.1
alike [] r s = refl
alike (column ∷ columns) r s =
    let v = slice_index_or r.1 column.0 Null in
    let w = slice_index_or s.1 column.0 Null in
    let x = unwrap_or (slice_get r.1 column.0) Null in
    let y = unwrap_or (slice_get s.1 column.0) Null in
    sym (parted (apart.is_null v) (is_eq (order column.1 v w)) (has_null columns r.1) (shares_key columns r.1 s.1))
    ∙ ap (λ (t : Bool). (not (apart.is_null v) && is_eq (order column.1 v w)) && t) (alike columns r s)
    ∙ ap (λ (t : Bool). t && clash (unique_of true columns) r.1 s.1) (at_one column.1 v w x y (value_is r.1 column.0) (value_is s.1 column.0))
    ∙ parted (is_null x) (is_eq (order column.1 x y)) _ _

pub clash_alike : ClashesAlike
clash_alike i row other unique = alike i.columns row other ∙ ap (λ (b : Bool). clash (unique_of b i.columns) row.1 other.1) (sym unique)
