use Rattle.std.proofs.Common.{rules, SFits, ◌≡◌, ◌∙◌, ◌<◌, ◌≤◌, ◌-◌, ℕ, ℤ, pos, Ok, Some, sym, ap, w64, arith}
use Rattle.std.proofs.lemmas.Int.{to_z-of_z}
use Rattle.tree_table.proofs.StepsDown.{left_first, key_left, place_within_at}
use Rattle.tree_table.proofs.way.left_of.Goals as goal

before : (place most : ℕ) → (place ≡ 0 → ⊥) → place ≤ most → place - 1 < most
before place most some le = omega (arith, some, le)

pub returns-then-place-eq0-clause-only : goal.returns-then-place-eq0-clause-only
returns-then-place-eq0-clause-only c = λ kids last rowid is e. ap (λ key. Ok key) (sym (left_first rowid c.args.left kids (sym e ∙ c.if-place-eq0.true)))

pub returns-in_err-key-clause-only : goal.returns-in_err-key-clause-only
returns-in_err-key-clause-only c = λ kids last rowid is e. absurd (c.in_err-key.ensures.only kids last (0, pos 0) is (before c.args.place _ c.if-place-eq0.false (place_within_at rowid kids c.args.place e)))

pub returns-clause-only : goal.returns-clause-only
returns-clause-only c = λ kids last rowid is e.
    (let fits : SFits w64 c.in_ok-key.field-0.rowid = search rules in
    ap (λ (z : ℤ). Ok (Some z)) (to_z-of_z w64 c.in_ok-key.field-0.rowid fits)
    ∙ ap (λ key. Ok key) (key_left rowid c.args.left kids c.args.place c.in_ok-key.field-0 (0, pos 0) c.if-place-eq0.false e
    (c.in_ok-key.ensures.only kids last (0, pos 0) is (before c.args.place _ c.if-place-eq0.false (place_within_at rowid kids c.args.place e)))))
