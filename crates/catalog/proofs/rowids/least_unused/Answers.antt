use Rattle.std.proofs.Common.{◌≡◌, ◌∙◌, ◌+◌, ◌+ℤ◌, ◌<ℤ◌, ℤ, ℕ, pos, true, false, length, rules, to_z, of_z, w64, SFits, sym, refl, subst}
use Rattle.std.proofs.lemmas.Int.{to_z-of_z}
use Rattle.catalog.specs.UnusedRowids.{AreTakenAfter, is_among}
use Rattle.catalog.proofs.UnusedRowids.{AreTakenTo, after_first, next_taken_to, none_taken_to, past_taken, taken_after}
use Rattle.catalog.proofs.rowids.least_unused.Goals as goal

pub taken-init : goal.taken-init
taken-init c = none_taken_to c.args.rowids.now (to_z w64 (of_z w64 c.args.after))

pub returns-in_default-clause-refused : goal.returns-in_default-clause-refused
returns-in_default-clause-refused c =
    let now : SFits w64 (to_z w64 c.taken.rowid-bits) = search rules in
    let last : SFits w64 (to_z w64 c.taken.rowid-bits +ℤ pos 1) → ⊥ = λ fits. c.in_default.ensures fits in (
      refl,
      subst (λ (z : ℤ). AreTakenAfter z c.args.rowids.now) (to_z-of_z w64 c.args.after c.ranges.after)
          (taken_after c.args.rowids.now _ (to_z w64 c.taken.rowid-bits) c.taken.counter now last c.taken.invariant),
    )

pub returns-then-not-is_among-clause-after : goal.returns-then-not-is_among-clause-after
returns-then-not-is_among-clause-after c =
    let fits : SFits w64 c.in-Some.next = search rules in
    let next : c.in-Some.next ≡ to_z w64 c.taken.rowid-bits +ℤ pos 1 = c.in-Some.ensures.1 in
    subst (λ (z : ℤ). c.args.after <ℤ z) (sym (to_z-of_z w64 c.in-Some.next fits))
    (subst (λ (z : ℤ). z <ℤ c.in-Some.next) (to_z-of_z w64 c.args.after c.ranges.after)
    (after_first c.args.rowids.now _ (to_z w64 c.taken.rowid-bits) c.in-Some.next c.taken.counter next c.taken.invariant))

pub taken-preserved : goal.taken-preserved
taken-preserved c =
    let fits : SFits w64 c.in-Some.next = search rules in
    let next : c.in-Some.next ≡ to_z w64 c.taken.rowid-bits +ℤ pos 1 = c.in-Some.ensures.1 in
    let has : is_among c.in-Some.next c.args.rowids.now ≡ true = subst (λ (z : ℤ). is_among z c.args.rowids.now ≡ true) (to_z-of_z w64 c.in-Some.next fits) (sym c.is_among.ensures ∙ c.if-not-is_among.false) in
    subst (λ (z : ℤ). AreTakenTo c.args.rowids.now (to_z w64 (of_z w64 c.args.after)) z (c.taken.counter + 1)) (sym (to_z-of_z w64 c.in-Some.next fits))
    (next_taken_to c.args.rowids.now _ (to_z w64 c.taken.rowid-bits) c.in-Some.next c.taken.counter next has c.taken.invariant)

pub returns-in-Some-checked_add-clause-free : goal.returns-in-Some-checked_add-clause-free
returns-in-Some-checked_add-clause-free c =
    let fits : SFits w64 c.in-Some-checked_add.next = search rules in
    let next : c.in-Some-checked_add.next ≡ to_z w64 c.taken.rowid-bits +ℤ pos 1 = c.in-Some-checked_add.ensures.1 in
    let end : c.taken.counter ≡ length c.args.rowids.now = search rules in
    subst (λ (z : ℤ). is_among z c.args.rowids.now ≡ false) (sym (to_z-of_z w64 c.in-Some-checked_add.next fits))
    (past_taken c.args.rowids.now (to_z w64 (of_z w64 c.args.after)) (to_z w64 c.taken.rowid-bits) c.in-Some-checked_add.next next
    (subst (λ (n : ℕ). AreTakenTo c.args.rowids.now (to_z w64 (of_z w64 c.args.after)) (to_z w64 c.taken.rowid-bits) n) end c.taken.invariant))

pub returns-in-Some-checked_add-clause-after : goal.returns-in-Some-checked_add-clause-after
returns-in-Some-checked_add-clause-after c =
    let fits : SFits w64 c.in-Some-checked_add.next = search rules in
    let next : c.in-Some-checked_add.next ≡ to_z w64 c.taken.rowid-bits +ℤ pos 1 = c.in-Some-checked_add.ensures.1 in
    subst (λ (z : ℤ). c.args.after <ℤ z) (sym (to_z-of_z w64 c.in-Some-checked_add.next fits))
    (subst (λ (z : ℤ). z <ℤ c.in-Some-checked_add.next) (to_z-of_z w64 c.args.after c.ranges.after)
    (after_first c.args.rowids.now _ (to_z w64 c.taken.rowid-bits) c.in-Some-checked_add.next c.taken.counter next c.taken.invariant))

pub returns-in-None-clause-refused : goal.returns-in-None-clause-refused
returns-in-None-clause-refused c =
    let now : SFits w64 (to_z w64 c.taken.rowid-bits) = search rules in
    let last : SFits w64 (to_z w64 c.taken.rowid-bits +ℤ pos 1) → ⊥ = λ fits. c.in-None.ensures fits in (
      refl,
      subst (λ (z : ℤ). AreTakenAfter z c.args.rowids.now) (to_z-of_z w64 c.args.after c.ranges.after)
          (taken_after c.args.rowids.now _ (to_z w64 c.taken.rowid-bits) c.taken.counter now last c.taken.invariant),
    )
