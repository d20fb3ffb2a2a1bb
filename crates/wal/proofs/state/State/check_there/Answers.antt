use Rattle.std.proofs.Common.{◌≡◌, inl, inr, ◌+◌, ℕ, refl, sym, subst, arith}
use Rattle.std.proofs.lemmas.Bool.{cases_lt}
use Rattle.wal.specs.Copying.{IsReached}
use Rattle.wal.proofs.state.State.check_there.Goals as goal

pub numbers-preserved : goal.numbers-preserved
numbers-preserved c number low high none = elim (cases_lt c.numbers.i number) [
  | inr before ↦ c.numbers.invariant number low before none
  | inl last ↦ (
      let is : number ≡ c.numbers.i + 1 = omega (arith, last, high) in
      subst (λ (n : ℕ). IsReached c.args.self.now c.args.mark n c.args.self.now.db_len) (sym is) (c.if-not-is_there.ensures.there refl) none)
]

pub returns-then-not-is_there-clause-refused : goal.returns-then-not-is_there-clause-refused
returns-then-not-is_there-clause-refused c =
    let lacks = c.if-not-is_there.ensures.lacks refl in
    (c.numbers.i + 1, refl, omega arith, omega (arith, c.numbers-test.true), lacks.0, lacks.1)
