-- each source so far is seen
use Rattle.std.proofs.Common.{◌≡◌, take}
use Rattle.query_names.specs.Scopes.{beside}
use Rattle.query_names.proofs.outer.shown_beside.Given as goal

abbrev pub invariant-sources : goal.invariant-sources
invariant-sources l = l.seen.items ≡ beside (take l.source-index l.outer) l.names
