-- Why a text is refused.
use Rattle.std.specs.Prelude.{ℕ, ◌≤◌, List, length}
use Rattle.sqlval.specs.declared.fault.Fault.{Fault}
use Rattle.sqlval.specs.declared.fault.Fault.TheVariants.{Memory, Unsupported, Syntax, RealRefused, TooLong}
use Rattle.sqlval.specs.declared.fault.Feature.TheVariants.{Statement}
use Rattle.sql_grammar.specs.Texts.{IsUnsupportedText}

-- why a text of this length is refused
abbrev pub IsParsingFault : ℕ → Fault → Type 0
IsParsingFault total Memory = Unit {0}
IsParsingFault total (Unsupported Statement) = Unit {0}
IsParsingFault total (Syntax at) = at ≤ total
IsParsingFault total RealRefused = Unit {0}
IsParsingFault total TooLong = Unit {0}
IsParsingFault total _ = ⊥

-- why a text is refused: as one that isn't supported only where SQL has it
abbrev pub IsTextRefusal : List ℕ → Fault → Type 0
IsTextRefusal text (Unsupported Statement) = IsUnsupportedText text
IsTextRefusal text fault = IsParsingFault (length text) fault
