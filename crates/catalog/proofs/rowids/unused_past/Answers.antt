use Rattle.std.proofs.Common.{◌≡◌, ◌∙◌, ℤ, pos, ◌+ℤ◌, ◌≤ℤ◌, false, rules, w64, SFits, sym, ap, subst}
use Rattle.std.proofs.lemmas.Int.{to_z-of_z}
use Rattle.catalog.specs.UnusedRowids.{is_among}
use Rattle.catalog.proofs.UnusedRowids.{past_greatest}
use Rattle.catalog.proofs.rowids.unused_past.Goals as goal

pub returns-in-Some-clause-free : goal.returns-in-Some-clause-free
returns-in-Some-clause-free c =
    let fits : SFits w64 c.in-Some.rowid = search rules in
    let most : SFits w64 c.greatest.result = search rules in
    let both : SFits w64 c.max.result = search rules in
    let next : c.in-Some.rowid ≡ c.max.result +ℤ pos 1 = c.in-Some.ensures.1 ∙ ap (λ z. z +ℤ pos 1) (to_z-of_z w64 c.max.result both) in
    let more : c.greatest.result ≤ℤ c.max.result = subst (λ (z : ℤ). z ≤ℤ c.max.result) (to_z-of_z w64 c.greatest.result most) c.max.ensures.self_bound in
    subst (λ (z : ℤ). is_among z c.args.rowids.now ≡ false) (sym (to_z-of_z w64 c.in-Some.rowid fits))
    (past_greatest c.args.rowids.now c.greatest.result c.max.result c.in-Some.rowid c.greatest.ensures more next)
