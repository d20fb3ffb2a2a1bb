-- From a text to its statement.
use Rattle.std.specs.Prelude.{ℕ, ◌-◌, List, [], ◌∷◌, length, drop, Result, Ok, Err}
use Rattle.sqlval.specs.declared.fault.Fault.{Fault}
use Rattle.sqlval.specs.declared.fault.Fault.TheVariants as fault
use Rattle.sqlval.specs.declared.fault.Feature.TheVariants as feature
use Rattle.sql_lexer.specs.Lex.{Lexed}
use Rattle.sql_syntax.specs.declared.statement.Statement.{Statement}
use Rattle.sql_expr.specs.declared.refusal.Refusal.{Refusal}
use Rattle.sql_expr.specs.declared.refusal.Refusal.TheVariants.{Memory, Syntax, TooLong, Unsupported}
use Rattle.sql_grammar.specs.Texts.{pieces_of, sql_in}
use Rattle.sql_parser.specs.StatementReading.{whole_from}

-- where the first of these tokens begins, or the text of this length ends
abbrev pub begins_at : ℕ → List Lexed → ℕ
begins_at total [] = total
begins_at total (t ∷ ts) = t.start

-- where the token begins that has this many with it up to the last, or the text of this length ends
abbrev pub place_of : ℕ → List Lexed → ℕ → ℕ
place_of total ts left = begins_at total (drop (length ts - left) ts)

-- why a text is refused whose tokens are refused so
abbrev pub fault_of : ℕ → List Lexed → Refusal → Fault
fault_of total ts Memory = fault.Memory
fault_of total ts (Syntax left) = fault.Syntax (place_of total ts left)
fault_of total ts TooLong = fault.TooLong
fault_of total ts Unsupported = fault.Unsupported feature.Statement

abbrev pub answered : ℕ → List Lexed → Result Statement Refusal → Result Statement Fault
answered total ts (Ok statement) = Ok statement
answered total ts (Err refusal) = Err (fault_of total ts refusal)

-- the statement that the tokens of a text are, or why it is refused
abbrev pub parsed : List ℕ → List Lexed → Result Statement Fault
parsed z ts = answered (length z) ts (whole_from (sql_in z ts) (pieces_of ts))

-- the statement that a text is whose tokens are these, or why it is refused
abbrev pub parsed_by : List ℕ → Result (List Lexed) Fault → Result Statement Fault
parsed_by z (Ok ts) = parsed z ts
parsed_by z (Err fault) = Err fault
