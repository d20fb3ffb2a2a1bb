use Rattle.std.proofs.Common.{◌∷◌, [], rules, sym}
use Rattle.query_names.specs.Bound.{source_seen}
use Rattle.query_names.specs.Named.{NamesBy}
use Rattle.query_bind.specs.Assigned.{sets_known}
use Rattle.query_bind.proofs.Quiet.{sets_calm}
use Rattle.query_bind.proofs.SetColumns.{all_so, listed_so, none_unknown, some_unknown}
use Rattle.query_bind.proofs.assigning.bind_sets.Goals as goal

pub returns-in-Some-clause-refused : goal.returns-in-Some-clause-refused
returns-in-Some-clause-refused c = listed_so c.missing.result _ _ _ c.missing.ensures.why (some_unknown c.args.table.now.columns c.args.assignments.now c.in-Some.unknown.now c.in-Some.ensures)

pub returns-clause-known : goal.returns-clause-known
returns-clause-known c = all_so c.bind_each.result (none_unknown c.args.table.now.columns c.args.assignments.now c.in_default.ensures, sym c.if-has_doubled.ensures)

pub returns-clause-not_disk : goal.returns-clause-not_disk
returns-clause-not_disk c =
    let named : NamesBy (λ sets. sets.items) (sets_known c.args.table.now.columns (source_seen c.args.name.now c.args.table.now ∷ []) c.args.assignments.now) c.bind_each.result = search rules in
    sets_calm (λ sets. sets.items) c.args.table.now.columns (source_seen c.args.name.now c.args.table.now ∷ []) c.args.assignments.now c.bind_each.result named
