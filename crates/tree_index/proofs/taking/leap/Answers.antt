use Rattle.std.proofs.Common.{rules, ◌≡◌, ◌≤◌, ◌+◌, ◌-◌, ℕ, Equal, Greater, Less, refl, subst, arith}
use Rattle.std.specs.declared.cmp.Ordering.{Ordering}
use Rattle.tree_index.specs.Taking.{ComparesWhole}
use Rattle.tree_index.proofs.Whole.{equal_whole}
use Rattle.tree_index.proofs.taking.leap.Goals as goal

pub returns-in-Equal : goal.returns-in-Equal
returns-in-Equal c = record {
  found = λ pages size read most.
      (let at = c.leaps.low + c.min.result in
      let columns = c.args.key.columns.now in
      let key = c.args.key.values.now in
      let it = subst (λ (o : Ordering). ComparesWhole pages size c.args.number at columns key o) c.in-Equal.is (c.in_ok-whole_order.ensures.found pages size read most) in
      equal_whole pages size c.args.number at columns key Equal refl it);
}

pub leaps-preserved-in-Greater : goal.leaps-preserved-in-Greater
leaps-preserved-in-Greater c =
    let at = c.leaps.low + c.min.result in
    let columns = c.args.key.columns.now in
    let key = c.args.key.values.now in
    let upper : at + 1 ≤ c.leaps.high = search rules in
    let same : at ≡ at + 1 - 1 = omega arith in (
      upper,
      λ pages size read most.
          (let it = subst (λ (o : Ordering). ComparesWhole pages size c.args.number at columns key o) c.in-Greater.is (c.in_ok-whole_order.ensures.found pages size read most) in
          (λ yes. (omega arith, subst (λ (n : ℕ). ComparesWhole pages size c.args.number n columns key Greater) same it), (c.leaps.invariant.1 pages size read most).1)),
    )

pub leaps-preserved : goal.leaps-preserved
leaps-preserved c =
    let at = c.leaps.low + c.min.result in
    let columns = c.args.key.columns.now in
    let key = c.args.key.values.now in (
      omega arith,
      λ pages size read most.
          (let it = subst (λ (o : Ordering). ComparesWhole pages size c.args.number at columns key o) c.in-Less.is (c.in_ok-whole_order.ensures.found pages size read most) in
          ((c.leaps.invariant.1 pages size read most).0, λ yes. it)),
    )

pub returns : goal.returns
returns c = record {
  found = λ pages size read most.
      (let known = c.leaps.invariant.1 pages size read most in
      let low = c.leaps.invariant.0 in
      let same : c.leaps.high ≡ c.leaps.low = omega (arith, low, c.leaps-test.false) in
      (known.0, λ yes. subst (λ (n : ℕ). ComparesWhole pages size c.args.number n c.args.key.columns.now c.args.key.values.now Less) same (known.1 yes)));
}
