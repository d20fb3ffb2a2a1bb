use Rattle.std.proofs.Common.{◌+◌, ◌*◌, ◌-◌, ◌<◌, ◌∙◌, ◌^◌, Ok, Err, refl, rules, arith}
use Rattle.sqlval.specs.declared.fault.Fault.TheVariants.{Damaged}
use Rattle.sqlval.specs.declared.fault.Damage.TheVariants as Damage
use Rattle.tree_check.proofs.Trunking.{leaf_then, leaf_stops, leaf_there, leaves_end, listed_first, listed_next}
use Rattle.tree_check.proofs.lists.mark_leaves.Goals as goal

pub leaves-init : goal.leaves-init
leaves-init c = record { long = refl; decides = λ map long after result rest. listed_first map c.args.bytes.now c.args.len _ _ result rest }

pub returns-in_default-clause-checked : goal.returns-in_default-clause-checked
returns-in_default-clause-checked c = λ map long.
    c.leaves.invariant.decides map long c.leaves.marks.items (Err (Damaged Damage.Freelist 0))
    (λ leaves are free. absurd (c.in_default.ensures.only (leaf_there map c.args.bytes.now (8 + 4 * c.leaves.index) (c.args.len - c.leaves.index) (omega (arith, c.leaves-test.true)) leaves are)))

pub returns-in_err-mark-clause-checked : goal.returns-in_err-mark-clause-checked
returns-in_err-mark-clause-checked c = λ map long.
    (let near : c.in-Some.leaf < 2 ^ 32 = search rules in
    c.leaves.invariant.decides map long c.mark.new.marks.items c.from_residual.result
    (leaf_stops map c.args.bytes.now (8 + 4 * c.leaves.index) (c.args.len - c.leaves.index) c.in-Some.leaf c.leaves.marks.items c.mark.new.marks.items c.mark.new.marks.items c.in_err-mark.field-0.0 c.from_residual.result
    c.in-Some.ensures.found near (omega (arith, c.leaves-test.true)) (c.in_err-mark.ensures.checked map (c.leaves.invariant.long ∙ long)) c.from_residual.ensures.1))

pub leaves-preserved : goal.leaves-preserved
leaves-preserved c = record {
  long = c.in_ok-mark.ensures.long ∙ c.leaves.invariant.long;
  decides = λ map long after result rest. (
      let near : c.in-Some.leaf < 2 ^ 32 = search rules in
      c.leaves.invariant.decides map long after result
      (leaf_then map c.args.bytes.now (8 + 4 * c.leaves.index) (c.args.len - c.leaves.index) c.in-Some.leaf c.leaves.marks.items c.mark.new.marks.items c.in-Some.ensures.found near (omega (arith, c.leaves-test.true))
      (c.in_ok-mark.ensures.checked map (c.leaves.invariant.long ∙ long)) after result (listed_next map c.args.bytes.now c.leaves.index c.args.len c.mark.new.marks.items after result rest)));
}

pub returns-clause-checked : goal.returns-clause-checked
returns-clause-checked c = λ map long.
    c.leaves.invariant.decides map long c.leaves.marks.items (Ok tt) (leaves_end map c.args.bytes.now (8 + 4 * c.leaves.index) (c.args.len - c.leaves.index) c.leaves.marks.items (omega (arith, c.leaves-test.false)))
