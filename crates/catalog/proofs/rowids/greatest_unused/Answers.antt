use Rattle.std.proofs.Common.{◌≡◌, ◌∙◌, ◌+◌, ◌-ℤ◌, ℤ, ℕ, pos, length, rules, to_z, w64, SFits, sym, subst}
use Rattle.std.proofs.lemmas.Int.{to_z-of_z}
use Rattle.catalog.proofs.UnusedRowids.{AreTaken, all_taken, one_taken}
use Rattle.catalog.proofs.rowids.greatest_unused.Goals as goal

pub taken-preserved : goal.taken-preserved
taken-preserved c =
    let now : SFits w64 (to_z w64 c.taken.rowid-bits) = search rules in
    let fits : SFits w64 (to_z w64 c.taken.rowid-bits -ℤ pos 1) = search rules in
    subst (λ (z : ℤ). AreTaken c.args.rowids.now z (c.taken.counter + 1)) (sym (to_z-of_z w64 _ fits))
    (one_taken c.args.rowids.now _ c.taken.counter (sym c.is_among.ensures ∙ c.if-not-is_among.false) c.taken.invariant)

pub returns : goal.returns
returns c =
    let end : c.taken.counter ≡ length c.args.rowids.now = search rules in
    all_taken c.args.rowids.now _ (subst (λ (n : ℕ). AreTaken c.args.rowids.now (to_z w64 c.taken.rowid-bits) n) end c.taken.invariant)
