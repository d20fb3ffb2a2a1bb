-- Bytes split where their count says.
use Rattle.std.proofs.Common.{◌≡◌, ◌++◌, ℕ, ◌<◌, List, length, take, drop, sym, ◌∙◌, ap, arith, take_at, drop_at, length-append}
use Rattle.std.specs.Prelude.{Option, Some, None, MatchOption}
use Rattle.std.specs.List.{IsSplitAt}

-- of a front and a rest, a split at the front's length gives both
pub splits : {P : Type 0} (left right : P → List ℕ) (whole front rest : List ℕ) (mid : ℕ) (result : Option P) → mid ≡ length front → whole ≡ front ++ rest → MatchOption result (length whole < mid) (λ parts. IsSplitAt whole mid (left parts) (right parts)) → MatchOption result ⊥ (λ parts. (left parts ≡ front) × (right parts ≡ rest))
splits left right whole front rest mid None at is short = omega (arith, short, at, ap length is, length-append front rest)
splits left right whole front rest mid (Some parts) at is split = (split.1 ∙ ap (take mid) is ∙ take_at front rest mid (sym at), split.2 ∙ ap (drop mid) is ∙ drop_at front rest mid (sym at))
