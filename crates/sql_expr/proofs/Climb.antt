-- An operand goes up through the levels whose chains do not go on.
use Rattle.std.proofs.Common.{◌≡◌, ℕ, zero, suc, ◌-◌, ◌<◌, ◌≤◌, true, false, eqb, List, Ok, Err, refl, sym, ap, subst, ◌∙◌, arith, ◌⊎◌, inl, inr, ◌≢◌}
use Rattle.std.proofs.lemmas.Bool.{ne_eqb}
use Rattle.std.proofs.lemmas.Bool.Decides.{eqb_tells}
use Rattle.sql_expr.specs.declared.refusal.Refusal.{Refusal}
use Rattle.sql_expr.specs.declared.refusal.Refusal.TheVariants.{Memory, Syntax, TooLong, Unsupported}
use Rattle.sql_expr.specs.Symbols.{Symbol}
use Rattle.sql_expr.specs.Reading.{Read, Deep, ◌>>=◌, Refuses, goes_on, is_prefixed, atom, prefix, tails, ladder}
use Rattle.sql_expr.proofs.Again.{tails_stop}

-- what was read at one level, if anything, goes on at none up to another
abbrev pub Stops : ℕ → ℕ → Read Deep → Type 0
Stops from to (Ok x) = (k : ℕ) → from < k → k ≤ to → goes_on k x.1 ≡ false
Stops from to (Err e) = Unit {0}

-- no minus and no NOT of these levels comes next
abbrev pub Bare : ℕ → ℕ → List Symbol → Type 0
Bare from to ts = (k : ℕ) → from < k → k ≤ to → is_prefixed k ts ≡ false

Stops-less : (from r : ℕ) (x : Read Deep) → Stops from (suc r) x → Stops from r x
Stops-less from r (Ok x) s = λ k p q. s k p (omega arith)
Stops-less from r (Err e) s = tt

module _ (inner : ℕ → List Symbol → Read Deep) (room : ℕ) where
  stops_once : (from r : ℕ) (x : Read Deep) → from ≤ r → Stops from (suc r) x → (x >>= λ y. tails inner room room r y.0 y.1) ≡ x
  stops_once from r (Ok x) le s = tails_stop inner room room r x.0 x.1 (s (suc r) (omega arith) (omega arith))
  stops_once from r (Err e) le s = refl

  -- one level further up
  steps : (r : ℕ) (ts : List Symbol) → is_prefixed (suc r) ts ≡ false → ladder inner room (suc r) ts ≡ (ladder inner room r ts >>= λ y. tails inner room room r y.0 y.1)
  unfolding ladder
  steps r ts bare = rw bare refl

  pub rises : (from to : ℕ) (ts : List Symbol) (x : Read Deep) → from ≤ to → ladder inner room from ts ≡ x → Bare from to ts → Stops from to x → ladder inner room to ts ≡ x
  rises from zero ts x le is bare stops = let e : from ≡ 0 = omega arith in subst (λ (r : ℕ). ladder inner room r ts ≡ x) e is
  rises from (suc r) ts x le is bare stops = by_test (λ below. rises from r ts x below is (λ k p q. bare k p (omega arith)) (Stops-less from r x stops)) (eqb_tells from (suc r))
    where
      by_test : (from ≤ r → ladder inner room r ts ≡ x) → ((eqb from (suc r) ≡ true) × (from ≡ suc r)) ⊎ ((eqb from (suc r) ≡ false) × (from ≢ suc r)) → ladder inner room (suc r) ts ≡ x
      by_test lower (inl h) = subst (λ (k : ℕ). ladder inner room k ts ≡ x) h.1 is
      by_test lower (inr h) =
          let ne : from ≢ suc r = h.1 in
          let below : from ≤ r = omega arith in
          steps r ts (bare (suc r) (omega arith) (omega arith)) ∙ ap (λ (y : Read Deep). y >>= λ z. tails inner room room r z.0 z.1) (lower below) ∙ stops_once from r x below stops

  -- where no chain up to the level goes on, what was read is what the level reads
  pub rises_whole : (from to level : ℕ) (ts rest : List Symbol) (d : Deep) → from ≤ to → ladder inner room from ts ≡ Ok (d, rest) → Bare from to ts
      → ((k : ℕ) → 0 < k → goes_on k rest ≡ eqb level k) → ((k : ℕ) → from < k → k ≤ to → level ≢ k) → ladder inner room to ts ≡ Ok (d, rest)
  rises_whole from to level ts rest d le is bare on out = rises from to ts (Ok (d, rest)) le is bare (λ k p q. on k (omega arith) ∙ ne_eqb level k (out k p q))

  -- else the first level whose chain goes on reads what goes on
  pub rises_up_to : (from to level : ℕ) (ts rest : List Symbol) (d : Deep) → from < level → level ≤ to → ladder inner room from ts ≡ Ok (d, rest) → Bare from to ts
      → ((k : ℕ) → 0 < k → goes_on k rest ≡ eqb level k) → ladder inner room level ts ≡ tails inner room room (level - 1) d rest
  rises_up_to from to level ts rest d lt le is bare on =
      let some : suc (level - 1) ≡ level = omega arith in
      let below = rises from (level - 1) ts (Ok (d, rest)) (omega arith) is (λ k p q. bare k p (omega arith)) (λ k p q. on k (omega arith) ∙ ne_eqb level k (λ e. omega arith)) in
      ap (λ (k : ℕ). ladder inner room k ts) (sym some)
      ∙ steps (level - 1) ts (ap (λ (k : ℕ). is_prefixed k ts) some ∙ bare level lt le)
      ∙ ap (λ (y : Read Deep). y >>= λ z. tails inner room room (level - 1) z.0 z.1) below

  -- what is refused at a level is refused further up
  pub refused_up_to : (from to : ℕ) (ts : List Symbol) (e : Refusal) → from ≤ to → Refuses e (ladder inner room from ts) → Bare from to ts → Refuses e (ladder inner room to ts)
  refused_up_to from to ts Memory le is bare = tt
  refused_up_to from to ts (Syntax n) le is bare = rises from to ts (Err (Syntax n)) le is bare tt
  refused_up_to from to ts TooLong le is bare = rises from to ts (Err TooLong) le is bare tt
  refused_up_to from to ts Unsupported le is bare = rises from to ts (Err Unsupported) le is bare tt

  -- an operand after a minus or NOT, at its level
  pub at_prefix : (level : ℕ) (ts : List Symbol) → 0 < level → is_prefixed level ts ≡ true → ladder inner room level ts ≡ prefix inner room level ts
  unfolding ladder
  at_prefix zero ts some is = absurd (omega arith)
  at_prefix (suc r) ts some is = rw is refl

  pub at_atom : (ts : List Symbol) → ladder inner room 0 ts ≡ atom inner room ts
  unfolding ladder
  at_atom ts = refl

-- no minus and no NOT but that of one level comes next
pub bare_but : (from to level : ℕ) (ts : List Symbol) → ((k : ℕ) → 0 < k → is_prefixed k ts ≡ eqb level k) → ((k : ℕ) → from < k → k ≤ to → level ≢ k) → Bare from to ts
bare_but from to level ts on out = λ k p q. on k (omega arith) ∙ ne_eqb level k (out k p q)
