-- A condition that seeks something of a source isn't true beside a row of it that the search doesn't find.
use Rattle.std.proofs.Common.{◌≡◌, refl, sym, ap, ◌∙◌, ℤ, Bool, true, false, not, List, Option, Some, None}
use Rattle.std.specs.Prelude.{slice_get}
use mathlib.Core.Bool.{true≢false}
use Rattle.std.specs.Ordering.{int_eq}
use Rattle.std.proofs.lemmas.Bool.Decides.{Decides-int_eq}
use Rattle.sqlval.specs.Refusals.{◌then◌}
use Rattle.sqlval.specs.declared.value.Value.{Value}
use Rattle.sqlval.specs.declared.value.Value.TheVariants.{Int}
use Rattle.catalog.specs.declared.tables.Index.{Index}
use Rattle.query_terms.specs.Terms.{Term}
use Rattle.query_terms.specs.Values.{Row, truth, value}
use Rattle.query_terms.specs.declared.tree.Place.TheVariants.{RowId}
use Rattle.query_names.specs.Readings.{env_of, holds}
use Rattle.query_plan.specs.Keys.{has_key}
use Rattle.query_plan.specs.Ranges.{has_range, is_outside}
use Rattle.query_plan.specs.Searching.{IsUntrue, OtherRowsFail}
use Rattle.query_plan.specs.declared.searching.Search.TheVariants.{Rowid, Rowids, Key, Range as InRange}
use Rattle.query_plan.proofs.KeyedRows.{LeftOut, cell_is, of_other_key}
use Rattle.query_plan.proofs.Others.{fails_of_other}
use Rattle.query_plan.proofs.RangedRows.{of_other_range, of_other_rowid, turned_false}

-- whether a value is another rowid than this one
abbrev is_other : ℤ → Value → Bool
is_other rowid value = elim value [ Int other ↦ not (int_eq other rowid) | _ ↦ false ]

-- it is an integer, and not this one
other_of : (rowid : ℤ) (value : Value) → not (is_other rowid value) ≡ false → (other : ℤ) × (value ≡ Int other) × (other ≡ rowid → ⊥)
other_of rowid (Int other) e = (other, refl, λ same. true≢false (sym (ap (λ test. not (not test)) ((Decides-int_eq other rowid).1 same)) ∙ e))
other_of rowid _ e = absurd (true≢false e)

-- what its value says of a condition
untrue : (condition : Term) (rows : List Row) → LeftOut (value condition (env_of rows)) → IsUntrue (holds condition rows)
untrue condition rows it = (it.2, ap (λ x. x then truth) it.1 ∙ it.3, it.4)

-- of an index that is there, its columns decide
at_index : (found : Option Index) (index : Index) (test : Index → Bool) → found ≡ Some index → elim found [ None ↦ true | Some it ↦ test it ] ≡ false → test index ≡ false
at_index found index test is e = sym (ap (λ (o : Option Index). elim o [ None ↦ true | Some it ↦ test it ]) is) ∙ e

pub other_rows_fail : OtherRowsFail
other_rows_fail indexes n condition (Rowid rowid) seeks rows row here missed =
    (let it = other_of rowid row.rowid missed in
    (Some false, fails_of_other n seeks.0 condition seeks.2 (env_of rows) it.0 (cell_is rows n row here RowId ∙ it.1) (λ e. it.2 (e ∙ sym seeks.1)), refl))
other_rows_fail indexes n condition (Rowids low high) seeks rows row here missed =
    untrue condition rows (of_other_rowid condition rows n low high seeks row here (turned_false (is_outside low high row) missed))
other_rows_fail indexes n condition (Key place key) (index, is, seeks) rows row here missed =
    untrue condition rows
    (of_other_key condition seeks.calm rows n row here index.columns key seeks.asked
    (at_index (slice_get indexes place) index (λ it. has_key it.columns key row.values) is missed))
other_rows_fail indexes n condition (InRange place key range) (index, is, seeks) rows row here missed =
    untrue condition rows
    (of_other_range condition seeks.calm rows n row here seeks.column range seeks.ends index.columns key seeks.next seeks.asked
    (at_index (slice_get indexes place) index (λ it. has_range it.columns key range row.values) is missed))
