-- what is left of the savepoints, after the tables so far
use Rattle.std.proofs.Common.{◌≡◌, drop}
use Rattle.catalog.specs.Listed.{listed_in}
use Rattle.session.specs.SavedTables.{tables_after}
use Rattle.session.proofs.savepoints.latest.Given as goal

abbrev pub invariant-parts : goal.invariant-parts
invariant-parts l = tables_after (listed_in l.latest) (drop l.savepoint-index l.savepoints) ≡ tables_after (listed_in l.fn.before) l.savepoints
