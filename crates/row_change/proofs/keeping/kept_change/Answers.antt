use Rattle.std.proofs.Common.{rules, ◌≡◌, ◌∙◌, SFits, w64, to_z, of_z, ap, subst, sym, List, map, zip, [], ◌∷◌, slice_index_or, Ok}
use Rattle.std.proofs.lemmas.Int.{to_z-of_z}
use Rattle.std.proofs.lemmas.Option.{unwrap_or-slice_get}
use Rattle.sqlval.specs.Fields.{value_of}
use Rattle.sqlval.specs.declared.value.Value.TheVariants.{Null}
use Rattle.query_names.specs.Readings.{env_of, values}
use Rattle.query_terms.specs.Rows.{datum, picked_rows, row_at}
use Rattle.query_terms.specs.Values.{Row}
use Rattle.row_change.specs.Constraints.{set_values}
use Rattle.row_change.proofs.KeptRows.{change_kept}
use Rattle.row_change.proofs.keeping.kept_change.Goals as goal

pub returns : goal.returns
returns c =
    let row = row_at c.args.rows.now c.args.place.now in
    let sets = c.args.sets.now in
    let given = map datum c.give_values.new.given.items in
    let none : Row = record { rowid = Null; values = [] } in
    let same : c.in-Some.row.now ≡ row =
    c.in-Some.ensures.lookup.3.1 none ∙ (ap (λ (them : List Row). slice_index_or them c.args.place.now none) c.as_slice.ensures ∙ sym (unwrap_or-slice_get c.args.rows.now c.args.place.now none)) in
    let picked = c.env_at-env.ensures ∙ ap (λ places. env_of (picked_rows (c.args.rows.now ∷ []) places)) (c.as_slice-2.ensures ∙ c.one.ensures) in
    let answer : values (env_of (row ∷ [])) (map (λ s. s.1) sets) ≡ Ok given = subst (λ env. values env (map (λ s. s.1) sets) ≡ Ok given) picked c.in_ok-give_values.ensures in
    let values = set_values c.in-Some.row.now.values (zip (map (λ s. s.0) sets) (map datum c.as_slice-values.result.now)) in
    let are : values ≡ set_values row.values (zip (map (λ s. s.0) sets) given) =
    ap (λ ds. set_values c.in-Some.row.now.values (zip (map (λ s. s.0) sets) (map datum ds))) c.as_slice-values.ensures.value
    ∙ ap (λ (r : Row). set_values r.values (zip (map (λ s. s.0) sets) given)) same in
    let rowid = c.rowid_at-rowid.result in
    let fits : SFits w64 rowid = search rules in
    change_kept c.args.table.now sets row given values (to_z w64 (of_z w64 rowid)) c.change_with.result c.requires.apart answer (to_z-of_z w64 rowid fits ∙ c.rowid_at-rowid.ensures) are c.change_with.ensures
