use Rattle.std.proofs.Common.{◌≡◌, ◌∙◌, ℤ, pos, ◌+ℤ◌, ◌<ℤ◌, false, rules, w64, SFits, sym, ap, subst, arith}
use Rattle.std.proofs.lemmas.Int.{to_z-of_z}
use Rattle.catalog.specs.UnusedRowids.{is_among}
use Rattle.catalog.proofs.UnusedRowids.{not_past}
use Rattle.catalog.proofs.rowids.unused_among.Goals as goal

pub returns-in-Some : goal.returns-in-Some
returns-in-Some c =
    let fits : SFits w64 c.in-Some.rowid = search rules in
    let most : SFits w64 c.greatest.result = search rules in
    let next : c.in-Some.rowid ≡ c.greatest.result +ℤ pos 1 = c.in-Some.ensures.1 ∙ ap (λ z. z +ℤ pos 1) (to_z-of_z w64 c.greatest.result most) in
    subst (λ (z : ℤ). is_among z c.args.rowids.now ≡ false) (sym (to_z-of_z w64 c.in-Some.rowid fits))
    (not_past c.args.rowids.now c.greatest.result c.in-Some.rowid c.greatest.ensures (after c.greatest.result c.in-Some.rowid next))
  where
    after : (a b : ℤ) → b ≡ a +ℤ pos 1 → a <ℤ b
    after a b e = grind (arith)
