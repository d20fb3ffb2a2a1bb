-- what is left decides
use Rattle.std.proofs.Common.{◌≡◌, drop, not}
use Rattle.std.specs.List.{list_any}
use Rattle.query_bind.proofs.beside.expect_known.Given as goal

abbrev pub invariant-sources : goal.invariant-sources
invariant-sources l = list_any (λ s. not s.is_known) (drop l.source-index l.scope) ≡ list_any (λ s. not s.is_known) l.scope
