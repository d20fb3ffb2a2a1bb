use Rattle.std.proofs.Common.{◌≡◌, ◌+◌, ◌-◌, ℕ, get_or, true, false, ap, sym, ◌∙◌, arith, None}
use Rattle.std.specs.Prelude.{is_some}
use Rattle.wal_index.proofs.marks.Marks.is_alone.Goals as goal

pub returns-then-is_some : goal.returns-then-is_some
returns-then-is_some c = (
  λ no. (let bad : false ≡ true = no in cc),
  λ alone. (let bad : true ≡ false = sym c.if-is_some.true ∙ c.is_some.ensures ∙ ap is_some (ap (λ (k : ℕ). get_or c.args.self.now.marks k None) (let e : c.marks.i ≡ c.marks.i + 1 - 1 = omega arith in e) ∙ alone (c.marks.i + 1) (omega arith) c.if-i-connection.true) in cc),
)
