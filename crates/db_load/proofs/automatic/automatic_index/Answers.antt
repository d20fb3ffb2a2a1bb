use Rattle.std.proofs.lemmas.Int.{to_z-of_z}
use Rattle.std.proofs.Common.{◌≡◌, rules, SFits, w64, refl, ◌∙◌}
use Rattle.sqlval.specs.Names.{folded}
use Rattle.catalog.specs.declared.tables.Index.{Index}
use Rattle.db_load.proofs.KeyRows.{due_stands, key_index_is, key_index_told}
use Rattle.db_load.proofs.SchemaTables.{passed_on}
use Rattle.db_load.proofs.automatic.automatic_index.Goals as goal

pub returns-in_err-key-clause-tells : goal.returns-in_err-key-clause-tells
returns-in_err-key-clause-tells c = λ index tells due once.
    passed_on (λ (found : Index). found ≡ index) c.from_residual.result c.in_err-key.field-0.0 c.from_residual.ensures.1
    (c.in_err-key.ensures.tells index.columns once (due_stands c.args.table.now c.args.row.now index tells due))

pub returns-clause-tells : goal.returns-clause-tells
returns-clause-tells c = λ index tells due once.
    (let t = c.args.table.now in
    let row = c.args.row.now in
    let fits : SFits w64 row.rowid = search rules in
    let name : c.in_ok-name.name ≡ folded row.name.now = search rules in
    let columns : c.in_ok-columns.columns ≡ c.in_ok-key.key.now = search rules in
    key_index_is t row index tells due _ name (columns ∙ c.in_ok-key.ensures.tells index.columns once (due_stands t row index tells due)) refl refl refl (to_z-of_z w64 row.rowid fits))

pub returns-clause-found : goal.returns-clause-found
returns-clause-found c = λ none on.
    (let row = c.args.row.now in
    let fits : SFits w64 row.rowid = search rules in
    let name : c.in_ok-name.name ≡ folded row.name.now = search rules in
    let columns : c.in_ok-columns.columns ≡ c.in_ok-key.key.now = search rules in
    key_index_told c.args.table.now row _ c.in_ok-key.key.now none on c.in_ok-key.ensures.found name columns refl refl refl (to_z-of_z w64 row.rowid fits))
