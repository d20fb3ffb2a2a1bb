-- what the triggers that are left decide
use Rattle.std.proofs.Common.{length}
use Rattle.catalog.specs.Listed.{listed_in, shared, tables_of, triggers_in}
use Rattle.query_names.specs.Bound.{AreOnce}
use Rattle.query_bind.specs.Triggers.{FitsTarget}
use Rattle.db_load.proofs.TriggerTargets.{LeftDecides}
use Rattle.db_load.proofs.triggers.check_targets.Given as goal

abbrev pub invariant-triggers : goal.invariant-triggers
invariant-triggers l = AreOnce (tables_of l.catalog) → LeftDecides (λ g. FitsTarget (listed_in l.catalog) g.definition) (shared l.rest) (triggers_in l.catalog)

abbrev pub decreases-triggers : goal.decreases-triggers
decreases-triggers l = length l.rest
