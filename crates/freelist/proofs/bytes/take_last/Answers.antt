use Rattle.std.proofs.Common.{◌≡◌, ℕ, None, Some}
use Rattle.freelist.proofs.TrunkBytes.{last_found, lowered}
use Rattle.freelist.proofs.bytes.take_last.Goals as goal

no_number : (n : ℕ) → None ≡ Some n → ⊥
no_number n e = cc

pub returns-in_err-leaf-clause-last : goal.returns-in_err-leaf-clause-last
returns-in_err-leaf-clause-last c = λ next leaves leaf trunk is. absurd (no_number leaf (last_found c.args.page.now None next c.args.len leaves leaf c.in_err-leaf.ensures.only trunk is))

pub returns-clause-last : goal.returns-clause-last
returns-clause-last c = λ next leaves leaf trunk is. (
  last_found c.args.page.now (Some c.in_ok-leaf.leaf) next c.args.len leaves leaf c.in_ok-leaf.ensures.only trunk is,
  lowered c.args.page.now c.set_number.new.page next c.args.len leaves leaf c.set_number.ensures.set c.set_number.ensures.same trunk is,
)
