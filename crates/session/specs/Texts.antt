-- A statement as a text.
use Rattle.std.specs.Prelude.{◌≡◌, ℕ, Bool, true, false, ◌⊎◌, List, [], ◌∷◌, length, Option, Some, None, nat_lt}
use Rattle.sqlval.specs.Refusals.{Refusal, Memory, Unsupported, Syntax, Misuse, TooLong, Failed}
use Rattle.sql_syntax.specs.declared.statement.Statement.{Statement}
use Rattle.session.specs.Machine.{Machine, Reply, Refused}
use Rattle.session.specs.Steps.{Step, is_connection}

-- the grammar of statements, without the limits (SQL As Understood By SQLite)
pub record Grammar : Type 1 where
  -- of the first token that is refused: a syntax error or a real
  pub refused_token : List ℕ → Option Refusal
  -- its first word, or the word of its PRAGMA, is that of a statement that isn't supported
  pub IsUnserved : List ℕ → Type 0
  -- the text is a statement, which reads so; it is one at most
  pub Reads : List ℕ → Statement → Type 0
  -- the statement keeps the limits that its text shows
  pub within : Statement → Bool
  -- the text is none, and is refused at that byte
  pub Leaves : List ℕ → ℕ → Type 0
  -- the text is none, and is refused for a limit that its beginning passes
  pub Passes : List ℕ → Type 0
  -- a text begins with another, which ends between two of its tokens
  pub Begins : List ℕ → List ℕ → Type 0

-- more than 65,536 bytes
abbrev pub is_long : List ℕ → Bool
is_long text = nat_lt 65536 (length text)

-- a beginning of it can be completed, but only past a limit: what a text that passes one is to have
abbrev pub MustPass : Grammar → List ℕ → Type 0
MustPass g text =
    (front : List ℕ) × g.Begins front text
    × ((whole : List ℕ) × (s : Statement) × g.Begins front whole × g.Reads whole s)
    × ((whole : List ℕ) (s : Statement) → g.Begins front whole → g.Reads whole s → g.within s ≡ false)

-- neither too long, nor refused for a token, nor of a statement that isn't supported
abbrev pub IsCandidate : Grammar → List ℕ → Type 0
IsCandidate g text = (is_long text ≡ false) × (g.refused_token text ≡ None) × (g.IsUnserved text → ⊥)

-- what the text alone is refused for
abbrev pub IsTextFault : Grammar → List ℕ → Refusal → Type 0
IsTextFault g text r =
    (is_long text ≡ true) × (r ≡ TooLong)
    ⊎ (is_long text ≡ false) × (g.refused_token text ≡ Some r)
    ⊎ (is_long text ≡ false) × (g.refused_token text ≡ None) × g.IsUnserved text × (r ≡ Unsupported)
    ⊎ IsCandidate g text × ((place : ℕ) × g.Leaves text place × (r ≡ Syntax place))
    ⊎ IsCandidate g text × g.Passes text × (r ≡ TooLong)
    ⊎ IsCandidate g text × (s : Statement) × g.Reads text s × (g.within s ≡ false) × (r ≡ TooLong)

-- A step by a text, where `By` says what a statement within the limits may answer. Want of memory may stand in place of all but the first two.
abbrev pub StepByText : (Machine → ℕ → Statement → Reply → Machine → Type 0) → Grammar → Machine → ℕ → List ℕ → Reply → Machine → Type 0
StepByText By g m c text reply new =
    (m.failed ≡ true) × (reply ≡ Refused Failed) × (new ≡ m)
    ⊎ (m.failed ≡ false) × (is_connection c ≡ false) × (reply ≡ Refused Misuse) × (new ≡ m)
    ⊎ (m.failed ≡ false) × (is_connection c ≡ true) × (
    (reply ≡ Refused Memory) × (new ≡ m)
    ⊎ ((r : Refusal) × IsTextFault g text r × (reply ≡ Refused r) × (new ≡ m))
    ⊎ IsCandidate g text × (s : Statement) × g.Reads text s × (g.within s ≡ true) × By m c s reply new)

-- a step by a text, over all that the grammar has
abbrev pub TextStep : Grammar → Machine → ℕ → List ℕ → Reply → Machine → Type 0
TextStep = StepByText Step

-- a list of texts, each with its connection
abbrev pub RunByTexts : (Machine → ℕ → Statement → Reply → Machine → Type 0) → Grammar → Machine → List (ℕ × List ℕ) → List Reply → Machine → Type 0
RunByTexts By g m [] [] new = new ≡ m
RunByTexts By g m (s ∷ ss) (r ∷ rs) new = (mid : Machine) × StepByText By g m s.0 s.1 r mid × RunByTexts By g mid ss rs new
RunByTexts By g m [] (r ∷ rs) new = ⊥
RunByTexts By g m (s ∷ ss) [] new = ⊥

-- the same, over all that the grammar has
abbrev pub TextRun : Grammar → Machine → List (ℕ × List ℕ) → List Reply → Machine → Type 0
TextRun = RunByTexts Step
