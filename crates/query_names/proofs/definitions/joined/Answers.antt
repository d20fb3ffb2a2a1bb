use Rattle.std.proofs.Common.{rules}
use Rattle.query_names.proofs.DefinedColumns.{joined_from}
use Rattle.query_names.proofs.definitions.joined.Goals as goal

pub returns-clause-text : goal.returns-clause-text
returns-clause-text c = let e = joined_from 32 c.in-Some.first.now c.in-Some.rest.now in search rules
