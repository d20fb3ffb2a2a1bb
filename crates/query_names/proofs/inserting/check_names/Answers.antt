use Rattle.std.proofs.Common.{sym}
use Rattle.query_names.proofs.InsertNames.{no_such, unknown_found, unknown_not_found}
use Rattle.query_names.proofs.inserting.check_names.Goals as goal

pub returns-in-Some-clause-refused : goal.returns-in-Some-clause-refused
returns-in-Some-clause-refused c = no_such _ _ _ c.missing.ensures.why (unknown_found c.args.table.now.columns c.args.names.now c.in-Some.name.now c.in-Some.ensures)

pub returns-clause-listed : goal.returns-clause-listed
returns-clause-listed c = (unknown_not_found c.args.table.now.columns c.args.names.now c.in_default.ensures, sym c.if-has_doubled.ensures)
