-- The grammar of SQL, as the definitions of steps by texts take it.
use Rattle.std.specs.Prelude.{◌≡◌, ℕ, false, List, ◌++◌, Option, Some, None, Result, Ok, Err}
use Rattle.sql_lexer.specs.Cut.{Cuts}
use Rattle.sql_lexer.specs.Lex.{Lexed, tokens}
use Rattle.sqlval.specs.Refusals.{Refusal, refusal_of}
use Rattle.sqlval.specs.declared.fault.Fault.{Fault}
use Rattle.sqlval.specs.declared.fault.Fault.TheVariants as fault
use Rattle.sql_parser.specs.Parsing.{parsed_by}
use Rattle.sql_grammar.specs.Statements.{is_statement_within}
use Rattle.sql_grammar.specs.Texts.{IsStatementText, IsUnsupportedText}
use Rattle.session.specs.Texts.{Grammar}

-- ---- texts of statements

-- why a text is refused whose tokens are
abbrev pub token_refusal : Result (List Lexed) Fault → Option Refusal
token_refusal (Ok ts) = None
token_refusal (Err e) = Some (refusal_of e)

-- the text is outside the grammar, from this byte on
abbrev pub IsSyntaxOffset : List ℕ → ℕ → Type 0
IsSyntaxOffset text place = parsed_by text (tokens text) ≡ Err (fault.Syntax place)

-- the text is refused for a limit: this is the reading function's own answer
abbrev pub Passes : List ℕ → Type 0
Passes text = parsed_by text (tokens text) ≡ Err fault.TooLong

-- the second text goes on after the tokens of the first
pub record IsBeginning (front text : List ℕ) : Type 0 where
  pub tokens : List Lexed
  pub more : List Lexed
  pub front_cut : Cuts 0 false front tokens
  pub text_cut : Cuts 0 false text (tokens ++ more)

-- what steps by texts are to know of the grammar
abbrev pub grammar : Grammar
grammar = record {
  refused_token = λ text. token_refusal (tokens text);
  IsUnserved = IsUnsupportedText;
  Reads = IsStatementText;
  within = is_statement_within;
  Leaves = IsSyntaxOffset;
  Passes = Passes;
  Begins = IsBeginning;
}
