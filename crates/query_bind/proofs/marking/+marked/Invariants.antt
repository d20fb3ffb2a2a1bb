-- Each part of a term is smaller. A key's own copy has no keys, and stands below the term with them.
use Rattle.std.proofs.Common.{◌≡◌, ◌+◌, ◌*◌, length, min, map, take}
use Rattle.query_terms.specs.Terms.{size, size_in, terms}
use Rattle.query_names.specs.Grouping.{keyed}
use Rattle.query_bind.proofs.marking.+marked.Given as goal

abbrev pub decreases-marked : goal.decreases-marked
decreases-marked l = size l.term.now * 9 + min 1 (length l.keys.now) * 4 + 1

abbrev pub decreases-marked_boxed : goal.decreases-marked_boxed
decreases-marked_boxed l = size l.term.now * 9 + min 1 (length l.keys.now) * 4 + 2

abbrev pub decreases-key_of : goal.decreases-key_of
decreases-key_of l = size l.term.now * 9 + 3

abbrev pub decreases-marked_within : goal.decreases-marked_within
decreases-marked_within l = size l.term.now * 9 + min 1 (length l.keys.now) * 4

abbrev pub decreases-marked_call : goal.decreases-marked_call
decreases-marked_call l = size_in (terms l.list.now) * 9 + min 1 (length l.keys.now) * 4 + 3

abbrev pub decreases-total_of : goal.decreases-total_of
decreases-total_of l = size l.argument.now * 9 + 3

abbrev pub decreases-marked_one : goal.decreases-marked_one
decreases-marked_one l = size l.operand.now * 9 + min 1 (length l.keys.now) * 4 + 3

abbrev pub decreases-marked_two : goal.decreases-marked_two
decreases-marked_two l = (size l.left.now + size l.right.now) * 9 + min 1 (length l.keys.now) * 4 + 3

abbrev pub decreases-marked_collate : goal.decreases-marked_collate
decreases-marked_collate l = size l.operand.now * 9 + min 1 (length l.keys.now) * 4 + 3

abbrev pub decreases-marked_in : goal.decreases-marked_in
decreases-marked_in l = (size l.operand.now + size_in (terms l.list.now)) * 9 + min 1 (length l.keys.now) * 4 + 3

abbrev pub decreases-marked_between : goal.decreases-marked_between
decreases-marked_between l = (size l.operand.now + size l.low.now + size l.high.now) * 9 + min 1 (length l.keys.now) * 4 + 3

abbrev pub decreases-marked_all : goal.decreases-marked_all
decreases-marked_all l = size_in (terms l.list.now) * 9 + min 1 (length l.keys.now) * 4 + 2

-- each term so far is copied
abbrev pub invariant-marked_all-terms : goal.invariant-marked_all-terms
invariant-marked_all-terms l = l.copies.items ≡ map (keyed l.keys) (take l.term-index l.list)
