-- what is left of the rows decides
use Rattle.std.proofs.Common.{◌≡◌, ◌+◌, drop}
use Rattle.std.specs.List.{prefix_len}
use Rattle.query_answer.specs.Groups.{have_same_keys}
use Rattle.query_answer.proofs.grouping.run_length.Given as goal

abbrev pub invariant-rows : goal.invariant-rows
invariant-rows l = l.index + prefix_len (have_same_keys l.orders l.first) (drop l.index l.rows) ≡ prefix_len (have_same_keys l.orders l.first) l.rows
