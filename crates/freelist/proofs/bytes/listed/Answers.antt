use Rattle.std.proofs.Common.{refl, ◌≡◌, ℕ, None, Some, arith}
use Rattle.freelist.proofs.TrunkBytes.{next_found, count_found}
use Rattle.freelist.proofs.bytes.listed.Goals as goal
use Rattle.freelist.proofs.bytes.listed.Goals.{then-page-lt2-via-then-page-lt2, then-page-lt2-via-else-page-lt2+then-len-page}

no_number : (n : ℕ) → None ≡ Some n → ⊥
no_number n e = cc

the_number : (m n : ℕ) → Some m ≡ Some n → m ≡ n
the_number m n e = cc

pub returns-in_err-next-clause-only : goal.returns-in_err-next-clause-only
returns-in_err-next-clause-only c = λ next leaves trunk. absurd (no_number next (next_found c.args.page.now None next leaves c.in_err-next.ensures.only trunk))

pub returns-in_err-len-clause-only : goal.returns-in_err-len-clause-only
returns-in_err-len-clause-only c = λ next leaves trunk. absurd (no_number _ (count_found c.args.page.now None next leaves c.in_err-len.ensures.only trunk))

pub returns-then-page-lt2-clause-only : goal.returns-then-page-lt2-clause-only
returns-then-page-lt2-clause-only c = λ next leaves trunk.
    (let len = the_number _ _ (count_found c.args.page.now (Some c.in_ok-len.len) next leaves c.in_ok-len.ensures.only trunk) in
    absurd (elim c.then-page-lt2.branch [
      | then-page-lt2-via-then-page-lt2 w ↦ (let low = w.if-page-lt2.true in let few = trunk.few in omega (arith, low, few))
      | then-page-lt2-via-else-page-lt2+then-len-page w ↦ (let high = w.if-len-page.true in let few = trunk.few in omega (arith, high, few, len))
    ]))

pub returns-clause-only : goal.returns-clause-only
returns-clause-only c = λ next leaves trunk.
    (let n = the_number _ _ (next_found c.args.page.now (Some c.in_ok-next.next) next leaves c.in_ok-next.ensures.only trunk) in
    let len = the_number _ _ (count_found c.args.page.now (Some c.in_ok-len.len) next leaves c.in_ok-len.ensures.only trunk) in
    rw (n, len) refl)
