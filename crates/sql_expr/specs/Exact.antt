-- A reader is exact where it reads only what its rule has within the limits, reads each such thing, and refuses what its rule
-- has past them as too long.
use Rattle.std.specs.Prelude.{◌≡◌, Bool, true, false, List, ◌++◌, Ok, Err}
use Rattle.sql_expr.specs.declared.refusal.Refusal.TheVariants.{TooLong}
use Rattle.sql_expr.specs.Symbols.{Symbol}
use Rattle.sql_expr.specs.Reading.{Read}

-- what was read is the rule's, within the limits, and what is left follows it
pub record Used {A : Type 0} (Rule : List Symbol → A → Type 0) (limits : A → Bool) (ts : List Symbol) (x : A × List Symbol) : Type 0 where
  pub used : List Symbol
  pub parts : ts ≡ used ++ x.1
  pub at : Rule used x.0
  pub within : limits x.0 ≡ true

-- Follow says what may come next, so that nothing goes on with what was read.
pub record Exact {A : Type 0} (part : List Symbol → Read A) (Rule : List Symbol → A → Type 0) (limits : A → Bool) (Follow : List Symbol → Type 0) : Type 0 where
  pub takes : (ts : List Symbol) (x : A × List Symbol) → part ts ≡ Ok x → Used Rule limits ts x
  pub again : (us : List Symbol) (a : A) (rest : List Symbol) → Rule us a → limits a ≡ true → Follow rest → part (us ++ rest) ≡ Ok (a, rest)
  pub late : (us : List Symbol) (a : A) (rest : List Symbol) → Rule us a → limits a ≡ false → Follow rest → part (us ++ rest) ≡ Err TooLong

-- Where two things of a rule begin the same pieces and nothing goes on with them, they are one.
abbrev pub Single : {A : Type 0} → (List Symbol → A → Type 0) → (List Symbol → Type 0) → Type 0
Single {A} Rule Follow =
    (us vs : List Symbol) (a b : A) (rest after : List Symbol) → Rule us a → Rule vs b → Follow rest → Follow after → us ++ rest ≡ vs ++ after → (a ≡ b) × (rest ≡ after)
