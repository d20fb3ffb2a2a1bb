use Rattle.catalog.specs.Database.{ATrigger, Object}
use Rattle.catalog.specs.Listed.{listed_in}
use Rattle.query_bind.specs.Triggers.{trigger_listed}
use Rattle.db_load.proofs.SchemaTables.{checks_refused}
use Rattle.db_load.proofs.triggers.check_target.Goals as goal

pub returns-in-Ok-clause-found : goal.returns-in-Ok-clause-found
returns-in-Ok-clause-found c = λ once. c.in-Ok.ensures.fits once

pub returns-in-Err-clause-only : goal.returns-in-Err-clause-only
returns-in-Err-clause-only c = λ once fits.
    (let d = c.args.trigger.now.definition in
    c.outside.ensures.memory (checks_refused {A = Object} (trigger_listed (listed_in c.args.catalog.now) d) (ATrigger d) c.in-Err.fault (c.in-Err.ensures.fits once) fits))
