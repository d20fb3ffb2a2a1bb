-- Which calls of a file in memory are to fail.
use Rattle.std.specs.Prelude.{◌≡◌, ◌⊎◌, ◌+◌, ◌-◌, ◌^◌, ◌≤◌, ℕ, Bool, false, ◌||◌, ◌==◌, nat_le, Option, Some, None}

-- which calls are to fail, by their numbers from 1 on
pub record Schedule : Type 0 where
  -- this one alone
  pub fail_at : Option ℕ
  -- this one and all after it: the file crashes there
  pub stop_at : Option ℕ

abbrev pub is_call : Option ℕ → ℕ → Bool
is_call None call = false
is_call (Some at) call = at == call

abbrev pub has_come : Option ℕ → ℕ → Bool
has_come None call = false
has_come (Some at) call = nat_le at call

-- the call of this number is to fail
abbrev pub is_failing : Schedule → ℕ → Bool
is_failing s call = is_call s.fail_at call || has_come s.stop_at call

-- one call more; at the top of a `u64` the count may stay
abbrev pub IsNextCall : ℕ → ℕ → Type 0
IsNextCall old new = (new ≡ old + 1) ⊎ ((2 ^ 64 - 1 ≤ old) × (new ≡ old))
