-- What a change of a file in memory came to.
use Rattle.std.specs.Prelude.{Bool, false, Result, Ok, Err}

-- it is in the content; a change that found no memory isn't
abbrev pub has_landed : {E : Type 0} → Result Bool E → Bool
has_landed (Ok landed) = landed
has_landed (Err e) = false
