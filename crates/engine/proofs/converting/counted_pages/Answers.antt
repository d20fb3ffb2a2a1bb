use Rattle.std.proofs.Common.{◌%◌, ℕ, subst, ◌≡◌}
use Rattle.engine.proofs.AloneFiles.{not_whole}
use Rattle.engine.proofs.converting.counted_pages.Goals as goal

pub returns-then-len-from-ne0-clause-refused : goal.returns-then-len-from-ne0-clause-refused
returns-then-len-from-ne0-clause-refused c count is within =
    not_whole _ c.args.len c.args.header.now.page_size count (c.in_default.ensures) (subst (λ (n : ℕ). c.args.len % n ≡ 0 → ⊥) c.from.ensures c.if-len-from-ne0.true) is
