-- Sides that are compared as texts (Datatypes In SQLite, "Type Conversions Prior To Comparison").
use Rattle.std.specs.Prelude.{Bool, true, false, Option, Some}
use Rattle.sqlval.specs.declared.affinity.Affinity.{Affinity}
use Rattle.sqlval.specs.declared.affinity.Affinity.TheVariants.{Text}

abbrev pub is_text : Option Affinity → Bool
is_text (Some Text) = true
is_text _ = false
