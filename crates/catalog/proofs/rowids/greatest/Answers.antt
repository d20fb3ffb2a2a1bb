use Rattle.std.proofs.Common.{◌≡◌, ◌∙◌, ◌+◌, suc, ℤ, ℕ, rules, to_z, of_z, w64, SFits, sym, ap, subst, arith}
use Rattle.std.proofs.lemmas.Int.{to_z-of_z}
use Rattle.std.specs.Ordering.{int_cmp, ord_max}
use Rattle.std.specs.Prelude.{take}
use Rattle.catalog.specs.UnusedRowids.{AreUpTo}
use Rattle.catalog.proofs.UnusedRowids.{next_up}
use Rattle.catalog.proofs.rowids.greatest.Goals as goal

pub rowids-preserved : goal.rowids-preserved
rowids-preserved c =
    let found : SFits w64 c.at.result = search rules in
    let most : SFits w64 c.max-greatest.result = search rules in
    let next : c.rowids.place + 1 ≡ suc c.rowids.place = omega arith in
    let is : to_z w64 (of_z w64 c.max-greatest.result) ≡ ord_max int_cmp (to_z w64 c.rowids.greatest-bits) c.at.result =
    to_z-of_z w64 c.max-greatest.result most ∙ (c.max-greatest.ensures ∙ ap (ord_max int_cmp (to_z w64 c.rowids.greatest-bits)) (to_z-of_z w64 c.at.result found)) in
    subst (λ (n : ℕ). AreUpTo (to_z w64 (of_z w64 c.max-greatest.result)) (take n c.args.rowids.now)) (sym next)
    (subst (λ (g : ℤ). AreUpTo g (take (suc c.rowids.place) c.args.rowids.now)) (sym is)
    (next_up c.args.rowids.now c.rowids.place _ c.at.result c.rowids-test.true c.at.ensures c.rowids.invariant))
