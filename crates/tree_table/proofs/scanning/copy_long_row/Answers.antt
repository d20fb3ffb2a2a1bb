use Rattle.std.proofs.Common.{rules, SFits, to_z, of_z, ◌≡◌, ◌∙◌, ◌+◌, pos, [], List, length, sym, subst, w64}
use Rattle.std.proofs.lemmas.Int.{to_z-of_z}
use Rattle.tree_table.specs.Scanning.{AreBatched, rows_between}
use Rattle.tree_table.specs.Tree.{Held}
use Rattle.tree_table.specs.declared.scanning.BatchRow.{BatchRow}
use Rattle.tree_table.proofs.Batches.{copied_more}
use Rattle.tree_table.proofs.LeafRows.{refused}
use Rattle.tree_table.proofs.scanning.copy_long_row.Goals as goal

nothing : Held
nothing = record { row = record { rowid = pos 0; payload = [] }; pages = [] }

pub returns-in_err-rowid-clause-copied : goal.returns-in_err-rowid-clause-copied
returns-in_err-rowid-clause-copied g c = λ told leaf place whole is at le lt are.
    refused _ _ c.in_err-rowid.field-0.0 c.from_residual.ensures.1 (c.in_err-rowid.ensures.read told leaf nothing whole is at lt)

pub returns-clause-copied : goal.returns-clause-copied
returns-clause-copied g c = λ told leaf place whole is at le lt are.
    (let fits : SFits w64 c.in_ok-rowid.rowid = search rules in
    let plain = to_z-of_z w64 c.in_ok-rowid.rowid fits in
    let ends : c.len-end.result ≡ length c.read_long_row.new.out.items = search rules in
    let read = c.in_ok-rowid.ensures.read told leaf nothing whole is at lt in
    let row : BatchRow = record { rowid = to_z w64 (of_z w64 c.in_ok-rowid.rowid); end = c.len-end.result } in
    subst (λ (rows : List BatchRow). AreBatched (rows_between place (c.args.place + 1) leaf.rows) rows c.read_long_row.new.out.items) (sym c.in_ok-push.ensures.items)
    (copied_more place c.args.place leaf.rows c.args.rows.now.items c.args.out.now.items c.read_long_row.new.out.items row nothing le lt are (plain ∙ read.0) read.1 ends))
