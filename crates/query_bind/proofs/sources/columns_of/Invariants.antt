-- each column so far is seen
use Rattle.catalog.specs.Listed.{own_column}
use Rattle.query_bind.proofs.Joining.{all_seen}
use Rattle.std.proofs.Common.{◌≡◌, take}
use Rattle.query_bind.proofs.sources.columns_of.Given as goal

abbrev pub invariant-columns : goal.invariant-columns
invariant-columns l = l.seen.items ≡ take l.place (all_seen (own_column l.table) l.columns)
