use Rattle.std.proofs.Common.{ap, sym, ◌∙◌}
use Rattle.std.specs.Ordering.{is_eq}
use Rattle.tree_index.specs.Entries.{entry_cmp}
use Rattle.index_entries.proofs.FirstEntries.{not_read, only_memory, same_row}
use Rattle.index_entries.proofs.others.is_entry.Goals as goal

pub returns-in_err-entry-clause-only : goal.returns-in_err-entry-clause-only
returns-in_err-entry-clause-only c = λ entry is.
    not_read _ c.from_residual.result c.in_err-entry.field-0.0 c.from_residual.ensures.1 (only_memory c.in_err-entry.field-0.0 entry (c.in_err-entry.ensures.only entry is))

pub returns-clause-only : goal.returns-clause-only
returns-clause-only c = λ entry is.
    c.is_eq.ensures ∙ ap is_eq (c.compare_entry.ensures ∙ ap (entry_cmp c.args.under.now c.args.values.now) (sym (same_row c.in_ok-entry.entry entry (c.in_ok-entry.ensures.only entry is))))
