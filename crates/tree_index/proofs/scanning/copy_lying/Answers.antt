use Rattle.std.proofs.Common.{map, subst, Bool, Ok}
use Rattle.tree_index.specs.Scanning.{PushesLying}
use Rattle.tree_index.proofs.Batches.{copied_so_far, copying_starts, not_copied, one_copied}
use Rattle.tree_index.proofs.scanning.copy_lying.Goals as goal

pub entries-init : goal.entries-init
entries-init c = copying_starts c.args.page.now c.args.most c.args.from c.args.upto (map (λ bytes. bytes.items) c.args.batch.now.items)

pub returns-in_err-push_lying-clause-copied : goal.returns-in_err-push_lying-clause-copied
returns-in_err-push_lying-clause-copied c =
    not_copied c.args.page.now c.args.most c.args.from c.args.upto c.entries.at (map (λ bytes. bytes.items) c.args.batch.now.items) (map (λ bytes. bytes.items) c.entries.batch.items)
    (map (λ bytes. bytes.items) c.push_lying.new.batch.items) c.entries.invariant c.entries-test.true c.in_err-push_lying.field-0.0
    c.from_residual.result c.from_residual.ensures.1 c.in_err-push_lying.ensures.pushed

pub returns-then-not-branch-clause-copied : goal.returns-then-not-branch-clause-copied
returns-then-not-branch-clause-copied c =
    copied_so_far c.args.page.now c.args.most c.args.from c.args.upto c.entries.at (map (λ bytes. bytes.items) c.args.batch.now.items) (map (λ bytes. bytes.items) c.entries.batch.items)
    (map (λ bytes. bytes.items) c.push_lying.new.batch.items) c.entries.invariant c.entries-test.true
    (subst (λ (whole : Bool). PushesLying c.args.page.now c.args.most c.entries.at (map (λ bytes. bytes.items) c.entries.batch.items) (map (λ bytes. bytes.items) c.push_lying.new.batch.items) (Ok whole))
    c.if-not-branch.true c.in_ok-push_lying.ensures.pushed)

pub entries-preserved : goal.entries-preserved
entries-preserved c =
    one_copied c.args.page.now c.args.most c.args.from c.args.upto c.entries.at (map (λ bytes. bytes.items) c.args.batch.now.items) (map (λ bytes. bytes.items) c.entries.batch.items)
    (map (λ bytes. bytes.items) c.push_lying.new.batch.items) c.entries.invariant c.entries-test.true
    (subst (λ (whole : Bool). PushesLying c.args.page.now c.args.most c.entries.at (map (λ bytes. bytes.items) c.entries.batch.items) (map (λ bytes. bytes.items) c.push_lying.new.batch.items) (Ok whole))
    c.if-not-branch.false c.in_ok-push_lying.ensures.pushed)
