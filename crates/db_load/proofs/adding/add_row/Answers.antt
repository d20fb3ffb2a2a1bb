use Rattle.std.proofs.lemmas.Int.{to_z-of_z}
use Rattle.std.proofs.Common.{rules, SFits, w64, sym, ◌∙◌}
use Rattle.catalog.specs.Listed.{listed_in}
use Rattle.db_load.proofs.SchemaRows.{parts_at, read_as, row_found, said}
use Rattle.db_load.proofs.SchemaTables.{memory_of, ok_is, refused_alone}
use Rattle.db_load.proofs.adding.add_row.Goals as goal

pub returns-in_err-found-clause-tells : goal.returns-in_err-found-clause-tells
returns-in_err-found-clause-tells c = λ item entry at is tells can.
    (let s = said c.args.size item entry tells in
    let payload = c.args.payload.now in
    memory_of _ c.from_residual.result c.in_err-found.field-0.0 c.from_residual.ensures.1
    (refused_alone c.in_err-found.field-0.0 _ (c.in_err-found.ensures.only _ (read_as c.args.size item entry payload s is))))

pub returns-in_err-row-clause-tells : goal.returns-in_err-row-clause-tells
returns-in_err-row-clause-tells c = λ item entry at is tells can.
    (let s = said c.args.size item entry tells in
    let read = sym (ok_is _ _ (c.in_ok-found.ensures.only _ (read_as c.args.size item entry c.args.payload.now s is))) in
    absurd (c.in_err-row.ensures.tells s.its_kind s.name s.table_name s.root s.sql read s.rooted))

pub returns-clause-tells : goal.returns-clause-tells
returns-clause-tells c = λ item entry at is tells.
    (let s = said c.args.size item entry tells in
    let fits : SFits w64 c.args.rowid = search rules in
    let read = sym (ok_is _ _ (c.in_ok-found.ensures.only _ (read_as c.args.size item entry c.args.payload.now s is))) in
    let parts = c.in_ok-row.ensures.tells s.its_kind s.name s.table_name s.root s.sql read s.rooted in
    c.add_told.ensures.tells item (parts_at c.args.size item entry s _ c.in_ok-row.row (at ∙ sym (to_z-of_z w64 c.args.rowid fits)) parts))

pub returns-clause-found : goal.returns-clause-found
returns-clause-found c = λ entry at is.
    (let fits : SFits w64 c.args.rowid = search rules in
    row_found c.args.size entry c.args.payload.now c.in_ok-row.row _ ((at ∙ sym (to_z-of_z w64 c.args.rowid fits)) ∙ sym c.in_ok-row.ensures.found.1) is c.in_ok-found.ensures.found c.in_ok-row.ensures.found.0
    c.args.tables (listed_in c.args.catalog.now) (listed_in c.add_told.new.catalog) c.add_told.result c.add_told.ensures.found)
