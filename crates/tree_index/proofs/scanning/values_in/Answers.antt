use Rattle.tree_index.proofs.Batches.{values_refused, values_are}
use Rattle.tree_index.proofs.Comparisons.{memory_alone, entry_is}
use Rattle.tree_index.proofs.scanning.values_in.Goals as goal

pub returns-in_err-record-clause-only : goal.returns-in_err-record-clause-only
returns-in_err-record-clause-only c = λ entry is.
    values_refused c.from_residual.result c.in_err-record.field-0.0 _ c.from_residual.ensures.1 (memory_alone c.in_err-record.field-0.0 entry (c.in_err-record.ensures.only entry is))

pub returns-clause-only : goal.returns-clause-only
returns-clause-only c = λ entry is.
    values_are c.values_of.result _ entry (entry_is _ entry (c.in_ok-record.ensures.only entry is)) c.values_of.ensures.are c.values_of.ensures.refused
