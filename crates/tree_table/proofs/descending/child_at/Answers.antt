use Rattle.std.proofs.Common.{◌≡◌, ◌<◌, ◌≤◌, ◌∙◌, ℕ, ℤ, pos, length, sym, ap, subst, arith}
use Rattle.std.specs.Prelude.{Result, MatchResult}
use Rattle.std.specs.Option.{ok_or}
use Rattle.sqlval.specs.declared.fault.Fault.{Fault}
use Rattle.sqlval.specs.declared.fault.Fault.TheVariants.{Damaged}
use Rattle.sqlval.specs.declared.fault.Damage.TheVariants as Damage
use Rattle.tree_page.specs.Node.{Keys}
use Rattle.tree_table.specs.Stepping.{child_at}
use Rattle.tree_table.proofs.Stepped.{child_within, child_behind}
use Rattle.tree_table.proofs.descending.child_at.Goals as goal

pub returns-in_err-key-clause-found : goal.returns-in_err-key-clause-found
returns-in_err-key-clause-found c = λ kids last is.
    absurd (let long = c.len.ensures (Keys kids last) is in c.in_err-key.ensures.only kids last (0, pos 0) is (omega (arith, long, c.if-place-len.true)))

pub returns-then-place-len-clause-found : goal.returns-then-place-len-clause-found
returns-then-place-len-clause-found c = λ kids last is.
    (let long = c.len.ensures (Keys kids last) is in
    let within : c.args.place < length kids = omega (arith, long, c.if-place-len.true) in
    ap (λ (kid : ℕ × ℤ). kid.0) (c.in_ok-key.ensures.only kids last (0, pos 0) is within) ∙ sym (child_within c.args.place kids last (0, pos 0) within))

pub returns-clause-found : goal.returns-clause-found
returns-clause-found c = λ kids last is.
    (let long = c.len.ensures (Keys kids last) is in
    let behind : length kids ≤ c.args.place = omega (arith, long, c.if-place-len.false) in
    let same = c.ok_or.ensures.value ∙ ap (λ r. ok_or r (Damaged Damage.Page 0)) (c.last_child.ensures (Keys kids last) is) in
    subst (λ (r : Result ℕ Fault). MatchResult r (λ child. child ≡ child_at c.args.place kids last) (λ fault. ⊥)) (sym same) (sym (child_behind c.args.place kids last behind)))
