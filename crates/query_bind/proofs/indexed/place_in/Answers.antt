use Rattle.std.proofs.Common.{◌∙◌, ap}
use Rattle.catalog.specs.Database.{Name}
use Rattle.catalog.specs.Listed.{place_named}
use Rattle.query_bind.proofs.IndexNames.{place_found, place_missing}
use Rattle.query_bind.proofs.indexed.place_in.Goals as goal

pub returns-in-Some-clause-place : goal.returns-in-Some-clause-place
returns-in-Some-clause-place c = λ once. place_found c.args.as_name.now c.args.table.now c.args.name.now c.in-Some.place once (c.in-Some.ensures ∙ ap (λ (n : Name). place_named n c.args.table.now.columns) c.as_str.ensures)

pub returns-in-None-clause-place : goal.returns-in-None-clause-place
returns-in-None-clause-place c = λ once. place_missing c.args.as_name.now c.args.table.now c.args.name.now c.missing.result once (c.in-None.ensures ∙ ap (λ (n : Name). place_named n c.args.table.now.columns) c.as_str.ensures) c.missing.ensures.why
