use Rattle.std.proofs.Common.{◌≡◌, ◌+◌, ◌≤◌, ◌==◌, length, count_by}
use Rattle.std.specs.List.{before_first}
use Rattle.query_terms.specs.Values.{begins_char}
use Rattle.query_terms.proofs.texts.chars_of.Given as goal

-- what is left decides
abbrev pub invariant-bytes : goal.invariant-bytes
invariant-bytes l =
    (l.count + count_by begins_char (before_first (λ c. c == 0) l.rest) ≡ count_by begins_char (before_first (λ c. c == 0) l.text)) × (l.count + length l.rest ≤ length l.text)

abbrev pub decreases-bytes : goal.decreases-bytes
decreases-bytes l = length l.rest
