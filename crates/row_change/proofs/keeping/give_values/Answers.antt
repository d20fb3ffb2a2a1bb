use Rattle.std.proofs.Common.{map}
use Rattle.query_terms.specs.Rows.{datum, seen}
use Rattle.row_change.proofs.KeptRows.{all_given}
use Rattle.row_change.proofs.keeping.give_values.Goals as goal

pub returns : goal.returns
returns c = all_given (seen c.args.env) c.args.sets.now (map datum c.sets.given.items) c.sets.term-index c.sets-test.false c.sets.invariant
