use Rattle.std.proofs.lemmas.Int.{to_z-of_z}
use Rattle.std.proofs.Common.{◌≡◌, rules, SFits, w64, refl, sym, subst}
use Rattle.sql_syntax.specs.declared.create.IndexDefinition.{IndexDefinition}
use Rattle.sql_syntax.specs.declared.create.NewObject.TheVariants as new
use Rattle.catalog.specs.Listed.{listed_in, tables_of}
use Rattle.db_pages.specs.Schema.{IsIndexOf}
use Rattle.db_load.specs.Reading.{IsGrown}
use Rattle.db_load.proofs.ToldIndexes.{grown_as_told, grown_found}
use Rattle.db_load.proofs.RowsFound.{sound_once}
use Rattle.db_load.proofs.SchemaTables.{passed_on, text_creates}
use Rattle.db_load.proofs.index_rows.grown.Goals as goal

pub returns-in_err-bound-clause-tells : goal.returns-in_err-bound-clause-tells
returns-in_err-bound-clause-tells c = λ table index tells made is of can.
    (let d = c.in_ok-definition.definition.now in
    let same : d ≡ tells.definition = c.in_ok-definition.ensures.tells made tells.definition is of in
    passed_on (IsGrown (tables_of c.args.catalog.now) table index) c.from_residual-in_err-bound.result c.in_err-bound.field-0.0 c.from_residual-in_err-bound.ensures.1
    (c.in_err-bound.ensures.tells table index can (subst (λ (x : IndexDefinition). IsIndexOf x table index) (sym same) tells.makes)))

pub returns-clause-tells : goal.returns-clause-tells
returns-clause-tells c = λ table index tells made is of can.
    (let all = listed_in c.args.catalog.now in
    let fits : SFits w64 c.args.row.now.rowid = search rules in
    let d = c.in_ok-definition.definition.now in
    let same : d ≡ tells.definition = c.in_ok-definition.ensures.tells made tells.definition is of in
    grown_as_told all table c.in_ok-bound.bound.table.now index _ c.args.row.now d c.with_index.result can tells same (c.in_ok-bound.ensures.found (sound_once all can.sound)) c.in_ok-name.ensures refl refl refl (to_z-of_z w64 c.args.row.now.rowid fits)
    c.with_index.ensures)

pub returns-clause-found : goal.returns-clause-found
returns-clause-found c = λ is once.
    (let found = c.in_ok-definition.ensures.found in
    let fits : SFits w64 c.args.row.now.rowid = search rules in
    let names = c.in_ok-is_of_index_row.ensures.found in
    let d = c.in_ok-definition.definition.now in
    grown_found (listed_in c.args.catalog.now) c.in_ok-bound.bound.table.now _ c.args.row.now d c.with_index.result is.text is.text_is
    (text_creates c.args.row.now c.args.statement.now found.0 (new.Index d) is found.1 found.2) names
    (c.in_ok-bound.ensures.found once) c.in_ok-name.ensures refl refl refl (to_z-of_z w64 c.args.row.now.rowid fits) c.with_index.ensures)
