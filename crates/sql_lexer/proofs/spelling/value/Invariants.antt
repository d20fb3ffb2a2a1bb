use Rattle.std.proofs.Common.{◌≡◌, drop}
use Rattle.sql_lexer.specs.Lex.{number_from}
use Rattle.sql_lexer.proofs.spelling.value.Given as goal

abbrev pub invariant-digits : goal.invariant-digits
invariant-digits l = number_from l.value (drop l.digit-index l.digits) ≡ number_from 0 l.digits
