use Rattle.std.proofs.Common.{◌≡◌, length, map}
use Rattle.sql_lexer.specs.Lex as spec
use Rattle.sql_lexer.proofs.keyword.lookup.Given as goal

abbrev pub invariant-entries : goal.invariant-entries
invariant-entries l = spec.lookup (map (λ k. (k.0.now, k.1)) l.table) l.word ≡ spec.lookup (map (λ k. (k.0.now, k.1)) l.initial.table) l.word

abbrev pub decreases-entries : goal.decreases-entries
decreases-entries l = length l.table
