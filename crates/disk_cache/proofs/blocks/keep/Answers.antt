use Rattle.std.proofs.Common.{◌∙◌, ◌+◌, ◌≤◌, ap, length, take, drop, subst, sym, ℕ}
use Rattle.disk_cache.proofs.blocks.keep.Goals as goal

pub returns-in-Ok-clause-kept : goal.returns-in-Ok-clause-kept
returns-in-Ok-clause-kept c = λ content end kept within same.
    (let items = c.in-Ok.ensures.items in
    c.put.ensures.kept content end (c.prepare.ensures.kept content end kept) (record {
      within = subst (λ (n : ℕ). c.args.at + n ≤ end) (sym (ap length items)) within;
      same = items ∙ (same ∙ ap (λ (n : ℕ). take n (drop c.args.at content)) (sym (ap length items)));
    }))

pub returns-in_default-clause-kept : goal.returns-in_default-clause-kept
returns-in_default-clause-kept c = λ content end kept within same. c.prepare.ensures.kept content end kept
