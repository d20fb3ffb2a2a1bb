-- The lesser of two numbers, where they are there.
use Rattle.std.specs.Prelude.{◌≡◌, ℕ, Option, Some, None, min}

abbrev pub IsLesser : Option ℕ → Option ℕ → Option ℕ → Type 0
IsLesser None other least = least ≡ other
IsLesser (Some a) None least = least ≡ Some a
IsLesser (Some a) (Some b) least = least ≡ Some (min a b)
