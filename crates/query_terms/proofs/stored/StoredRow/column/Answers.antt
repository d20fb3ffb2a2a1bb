use Rattle.std.proofs.Common.{sym, ap, ◌∙◌, Some}
use Rattle.std.specs.Prelude.{slice_get, unwrap_or}
use Rattle.sqlval.specs.declared.value.Value.TheVariants.{Null}
use Rattle.record.specs.Columns.{values_in}
use Rattle.query_terms.proofs.OwnPlace as own
use Rattle.query_terms.specs.Stored.{with_own, rowid_value}
use Rattle.query_terms.specs.Values.{Row}
use Rattle.query_terms.proofs.stored.StoredRow.column.Goals as goal

pub returns-then-place-index : goal.returns-then-place-index
returns-then-place-index c =
    let rowid = rowid_value c.self.inside.rowid in
    let held = values_in c.self.inside.record.items in
    c.rowid_field.ensures
    ∙ (sym (ap (λ o. unwrap_or o Null) (own.stands c.args.index rowid held))
    ∙ (ap (λ o. unwrap_or (slice_get (with_own o rowid held) c.args.index) Null) (sym (c.in-Some.is ∙ ap Some c.if-place-index.true))
    ∙ ap (λ (r : Row). unwrap_or (slice_get r.values c.args.index) Null) c.self.view_is))

pub returns-else-place-index : goal.returns-else-place-index
returns-else-place-index c =
    let rowid = rowid_value c.self.inside.rowid in
    let held = values_in c.self.inside.record.items in
    c.value_at-held.ensures
    ∙ (ap (λ items. unwrap_or (slice_get (values_in items) c.args.index) Null) c.as_slice.ensures
    ∙ (sym (own.others c.in-Some.place c.args.index rowid held c.if-place-index.false)
    ∙ (ap (λ o. unwrap_or (slice_get (with_own o rowid held) c.args.index) Null) (sym c.in-Some.is)
    ∙ ap (λ (r : Row). unwrap_or (slice_get r.values c.args.index) Null) c.self.view_is)))
