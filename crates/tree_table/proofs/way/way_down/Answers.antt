use Rattle.std.proofs.Common.{rules, SFits, ◌≡◌, ◌∙◌, ◌<◌, ◌≤◌, ℕ, ℤ, pos, Option, Ok, Some, ap, w64, arith}
use Rattle.std.proofs.lemmas.Int.{to_z-of_z}
use Rattle.std.specs.Option.{ok_or}
use Rattle.tree_page.specs.Node.{Keys}
use Rattle.tree_table.proofs.StepsDown.{ok_is, not_refused, way_there, way_last, place_within_at}
use Rattle.tree_table.proofs.way.way_down.Goals as goal
use Rattle.tree_table.specs.declared.way.Way.{Way}
use Rattle.sqlval.specs.declared.fault.Fault.TheVariants.{Damaged}
use Rattle.sqlval.specs.declared.fault.Damage.TheVariants as Damage

less : (place len most : ℕ) → place ≤ most → len ≡ most → (place ≡ len → ⊥) → place < most
less place len most le is other = omega (arith, le, is, other)

pub returns-in_err-left-clause-only : goal.returns-in_err-left-clause-only
returns-in_err-left-clause-only c = λ kids last rowid is e. absurd (not_refused _ _ (c.in_err-left.ensures.only kids last rowid is e))

pub returns-in_err-child-clause-only : goal.returns-in_err-child-clause-only
returns-in_err-child-clause-only c = λ kids last rowid is e. absurd (not_refused c.in_err-child.field-0.0 last
    (c.in_err-child.ensures.value ∙ ap (λ (child : Option ℕ). ok_or child (Damaged Damage.Page 0)) (c.last_child.ensures (Keys kids last) is)))

pub returns-then-place-len-clause-only : goal.returns-then-place-len-clause-only
returns-then-place-len-clause-only c = λ kids last rowid is e.
    ap (λ (way : Way). Ok way) (way_last rowid c.args.way c.in_ok-left.left kids last c.args.place c.in_ok-child.child
    (ok_is _ _ (c.in_ok-left.ensures.only kids last rowid is e)) e (c.if-place-len.true ∙ c.len.ensures (Keys kids last) is)
    (ok_is _ _ (c.in_ok-child.ensures.value ∙ ap (λ (child : Option ℕ). ok_or child (Damaged Damage.Page 0)) (c.last_child.ensures (Keys kids last) is))))

pub returns-in_err-key-clause-only : goal.returns-in_err-key-clause-only
returns-in_err-key-clause-only c = λ kids last rowid is e. absurd (c.in_err-key.ensures.only kids last (0, pos 0) is
    (less c.args.place _ _ (place_within_at rowid kids c.args.place e) (c.len.ensures (Keys kids last) is) c.if-place-len.false))

pub returns-clause-only : goal.returns-clause-only
returns-clause-only c = λ kids last rowid is e.
    (let fits : SFits w64 c.in_ok-key.key.rowid = search rules in
    let there = less c.args.place _ _ (place_within_at rowid kids c.args.place e) (c.len.ensures (Keys kids last) is) c.if-place-len.false in
    ap (λ (z : ℤ). Ok (record { page = c.in_ok-key.key.child; left = c.in_ok-left.left; right = Some z })) (to_z-of_z w64 c.in_ok-key.key.rowid fits)
    ∙ ap (λ (way : Way). Ok way) (way_there rowid c.args.way c.in_ok-left.left kids last c.args.place c.in_ok-key.key (0, pos 0)
    (ok_is _ _ (c.in_ok-left.ensures.only kids last rowid is e)) e there (c.in_ok-key.ensures.only kids last (0, pos 0) is there)))
