-- The bytes of a name, wherever they lie.
use Rattle.std.specs.Prelude.{ℕ, List, string_bytes}
use Rattle.sqlval.specs.declared.name.Spelling.{Spelling}
use Rattle.sqlval.specs.declared.name.Spelling.TheVariants.{Short, Long}

-- the bytes of a short name, which lie in the value itself, or of a long one
abbrev pub spelled : Spelling → List ℕ
spelled (Short text) = text.bytes
spelled (Long text) = string_bytes text
