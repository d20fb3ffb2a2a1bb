use Rattle.std.proofs.Common.{◌≡◌, ◌-◌, ◌≤◌, length, drop, map, false}
use Rattle.std.specs.Str.{IsUtf8}
use Rattle.sql_lexer.specs.Spans.{Stand, last_end}
use Rattle.sql_lexer.specs.Lex.{seen, gap, tokens_from}
use Rattle.sql_lexer.proofs.Turns.{ahead}
use Rattle.sql_lexer.proofs.tokenizing.cut.Given as goal

abbrev pub invariant-tokens : goal.invariant-tokens
invariant-tokens l = record {
  utf8 : IsUtf8 l.rest;
  within : length l.rest ≤ length l.fn.text;
  end : l.rest ≡ drop (length l.fn.text - length l.rest) l.fn.text;
  stand : Stand 0 l.fn.text l.found.items;
  after : last_end 0 l.found.items ≤ length l.fn.text - length l.rest;
  read : ahead (map seen l.found.items) (tokens_from (length l.fn.text - length l.found.items) (length l.fn.text) l.after_minus l.rest)
      ≡ tokens_from (length l.fn.text) (length l.fn.text) false (gap l.fn.text);
}

abbrev pub decreases-tokens : goal.decreases-tokens
decreases-tokens l = length l.rest
