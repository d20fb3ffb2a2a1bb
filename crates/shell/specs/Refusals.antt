-- Refusals in words.
use Rattle.std.specs.Prelude.{◌≡◌, ℕ, not, ◌==◌, List, [], ◌∷◌, ◌++◌, take, codes}
use Rattle.std.specs.List.{prefix_len}
use Rattle.sqlval.specs.declared.fault.Fault.{Fault}
use Rattle.sqlval.specs.Titles.{title_of}
use Rattle.messages.specs.Details.{detail}

-- how many bytes come before the first space
abbrev pub number_text_len : List ℕ → ℕ
number_text_len title = prefix_len (λ b. not (b == 32)) title

-- the number of a refusal, as `E8`
abbrev pub number_text : Fault → List ℕ
number_text fault = take (number_text_len (title_of fault)) (title_of fault)

-- a sentence, the refusal's detail and its number were written as a line after what stood there
pub record HasError (fault : Fault) (old new : List ℕ) : Type 0 where
  pub sentence : List ℕ
  pub written : new ≡ old ++ codes "error: " ++ sentence ++ detail fault ++ codes " (" ++ number_text fault ++ codes ")" ++ 10 ∷ []
