-- Pages of which trees see what they saw.
use Rattle.std.specs.Prelude.{◌≡◌, ◌≤◌, ℕ, List, length}
use Rattle.pages.specs.Counting.{occurs, body_at}
use Rattle.pages.specs.Map.{PageMap, Has, AreWhole}

-- no page is lost, and of these pages trees see what they saw
pub record AreKept (old new : PageMap) (size : ℕ) (used : List ℕ) : Type 0 where
  pub whole : AreWhole size old
  pub whole_now : AreWhole size new
  pub longer : length old ≤ length new
  pub same : (n : ℕ) → Has old n → 1 ≤ occurs n used → body_at new n ≡ body_at old n
