use Rattle.std.proofs.Common.{rules, ap, ◌∙◌, List, [], ◌∷◌, ◌++◌, SFits, w64}
use Rattle.std.proofs.lemmas.Int.{to_z-of_z}
use Rattle.sqlval.specs.declared.value.Value.{Value}
use Rattle.sqlval.specs.declared.value.Value.TheVariants.{Int}
use Rattle.query_terms.specs.Rows.{row_at}
use Rattle.catalog.specs.Rows.{rowid_number}
use Rattle.index_entries.proofs.Turning.{same_key}
use Rattle.index_entries.proofs.places.entry_at.Goals as goal

pub returns-clause-entry : goal.returns-clause-entry
returns-clause-entry c =
    let row = row_at c.args.rows.now c.args.place in
    let key = c.in_ok-entry.ensures.key ∙ same_key row.values c.args.columns.now in
    let rowid = c.rowid_at.result in
    let fits : SFits w64 rowid = search rules in
    c.in_ok-push.ensures.items ∙ ap (λ n. c.in_ok-entry.entry.items ++ Int n ∷ []) (to_z-of_z w64 rowid fits ∙ c.rowid_at.ensures)
    ∙ ap (λ (them : List Value). them ++ Int (rowid_number row.rowid) ∷ []) key
