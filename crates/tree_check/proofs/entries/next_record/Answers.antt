use Rattle.std.proofs.Common.{List, subst}
use Rattle.sqlval.specs.declared.value.Value.{Value}
use Rattle.tree_check.specs.InOrder.{IsNext}
use Rattle.tree_check.proofs.Passed.{passed_memory, memory_alone, read_is, not_both}
use Rattle.tree_check.proofs.entries.next_record.Goals as goal

pub returns-in_err-entry-clause-only : goal.returns-in_err-entry-clause-only
returns-in_err-entry-clause-only c = λ entry is next.
    passed_memory c.from_residual.result c.in_err-entry.field-0.0 c.from_residual.ensures.1 (memory_alone c.in_err-entry.field-0.0 entry (c.in_err-entry.ensures.only entry is))

pub returns-then-not-is_next-clause-only : goal.returns-then-not-is_next-clause-only
returns-then-not-is_next-clause-only c = λ entry is next.
    absurd (not_both _ (c.is_next.ensures.1 (subst (λ (e : List Value). IsNext c.args.columns.now c.args.last.now e) (read_is _ _ (c.in_ok-entry.ensures.only entry is)) next)) c.if-not-is_next.true)
