use Rattle.std.proofs.Common.{rules, SFits, to_z, of_z, ◌≡◌, ◌++◌, [], ◌∷◌, List, length, sym, subst, w64}
use Rattle.std.proofs.lemmas.Int.{to_z-of_z}
use Rattle.tree_page.specs.Reading.{row_of}
use Rattle.tree_table.specs.Scanning.{AreBatched, whole_row}
use Rattle.tree_table.specs.declared.scanning.BatchRow.{BatchRow}
use Rattle.tree_table.proofs.Batches.{entries_put}
use Rattle.tree_table.proofs.scanning.put_row.Goals as goal

pub returns-clause-put : goal.returns-clause-put
returns-clause-put c = λ entries are.
    (let fits : SFits w64 c.args.row.rowid = search rules in
    let ends : c.len-end.result ≡ length c.extend_from_slice.new.self.items = search rules in
    let row : BatchRow = record { rowid = to_z w64 (of_z w64 c.args.row.rowid); end = c.len-end.result } in
    subst (λ (rows : List BatchRow). AreBatched (entries ++ whole_row (row_of c.args.row) ∷ []) rows c.extend_from_slice.new.self.items) (sym c.in_ok-push.ensures.items)
    (entries_put entries c.args.rows.now.items c.args.out.now.items c.extend_from_slice.new.self.items row (whole_row (row_of c.args.row)) are
    (to_z-of_z w64 c.args.row.rowid fits) c.in_ok-extend_from_slice.ensures.items ends))
