use Rattle.std.proofs.Common.{◌∙◌, ◌-◌, ℕ, List, sym, ap, pos, take, drop, slice_index_or}
use Rattle.tree_leaf.specs.Leaf.{Entry}
use Rattle.tree_table.specs.declared.scanning.BatchRow.{BatchRow}
use Rattle.tree_table.proofs.Batches.{nth_is}
use Rattle.tree_table.proofs.scanning.nth_entry.Goals as goal

abbrev nothing : BatchRow
nothing = record { rowid = pos 0; end = 0 }

abbrev entry_from : BatchRow → ℕ → List ℕ → Entry
entry_from row start bytes = record { rowid = row.rowid; payload = take (row.end - start) (drop start bytes) }

pub returns : goal.returns
returns c = λ d.
    (let row = slice_index_or c.args.rows.now c.args.index nothing in
    c.entry_at.ensures ∙ ap (λ (start : ℕ). entry_from row start c.args.bytes.now) c.start_in.ensures ∙ sym (nth_is 0 c.args.index c.args.rows.now c.args.bytes.now nothing d c.requires))
