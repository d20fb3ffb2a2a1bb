use Rattle.std.proofs.Common.{◌≡◌, take}
use Rattle.query_names.proofs.FirstColumns.{shown}
use Rattle.query_names.proofs.checks.first_columns.Given as goal

-- the first columns of those so far are seen
abbrev pub invariant-columns : goal.invariant-columns
invariant-columns l = l.seen.items ≡ shown (take l.place l.columns)
