use Rattle.std.proofs.Common.{◌≡◌, ◌+◌, ◌-◌, ◌≤◌, length, drop}
use Rattle.std.specs.List.{prefix_len}
use Rattle.sql_lexer.specs.Bytes.{is_in}
use Rattle.sql_lexer.specs.declared.class.Class.TheVariants as class
use Rattle.shell.proofs.pieces.word.Given as goal

abbrev pub invariant-bytes : goal.invariant-bytes
invariant-bytes l = (l.end + prefix_len (is_in class.Word) (drop l.end l.text) ≡ prefix_len (is_in class.Word) l.text) × (l.end ≤ length l.text)

abbrev pub decreases-bytes : goal.decreases-bytes
decreases-bytes l = length l.text - l.end
