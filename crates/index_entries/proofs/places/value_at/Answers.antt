use Rattle.std.proofs.Common.{◌≡◌, ◌∙◌, sym, ap, arith, Option, Some, None, slice_index_or, slice_get, []}
use Rattle.std.proofs.lemmas.Grind.{common_steps}
use Rattle.std.proofs.lemmas.Option.{gets}
use Rattle.std.specs.Prelude.{unwrap_or}
use Rattle.sqlval.specs.declared.value.Value.TheVariants.{Null}
use Rattle.query_terms.specs.Rows.{row_at}
use Rattle.query_terms.specs.Values.{Row}
use Rattle.index_entries.proofs.ReadRows.{no_row, value_is}
use Rattle.index_entries.proofs.places.value_at.Goals as goal

pub returns-in-Some : goal.returns-in-Some
returns-in-Some c =
    let row = c.in-Some.row.now in
    let at : slice_get c.args.rows.now c.args.place ≡ Some row = grind (arith, common_steps, gets, c.in-Some.ensures.lookup, c.as_slice.ensures) in
    let there : row_at c.args.rows.now c.args.place ≡ row = ap (λ (r : Option Row). unwrap_or r no_row) at in
    c.column.ensures ∙ (sym (value_is row.values c.args.column) ∙ ap (λ (r : Row). slice_index_or r.values c.args.column Null) (sym there))

pub returns-in-None : goal.returns-in-None
returns-in-None c =
    let gone : slice_get c.args.rows.now c.args.place ≡ None = grind (arith, common_steps, gets, c.in-None.ensures.lookup, c.as_slice.ensures) in
    ap (λ (r : Option Row). slice_index_or (unwrap_or r no_row).values c.args.column Null) (sym gone)
