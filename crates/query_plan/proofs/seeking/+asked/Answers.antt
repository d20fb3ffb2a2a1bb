use Rattle.std.proofs.Common.{rules}
use Rattle.query_names.specs.Calm.{parts}
use Rattle.query_plan.specs.Seeking.{is_rowid}
use Rattle.query_plan.proofs.Parts.{or_found}
use Rattle.query_plan.proofs.seeking.+asked.Goals as goal

pub returns-in-Two-And-default-default-clause-found :
    goal.returns-in-Two-And-default-default-clause-found
returns-in-Two-And-default-default-clause-found t c =
    let a = c.asked_in in
    let b = c.asked_in-in-Two-And-default-default in
    let both = or_found (is_rowid c.args.source) a.result b.result (parts c.deref.result.now) (parts c.deref-in-Two-And-default-default.result.now) a.ensures.found b.ensures.found in
    search rules
