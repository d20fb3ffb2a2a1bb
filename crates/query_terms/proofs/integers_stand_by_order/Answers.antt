use Rattle.query_terms.proofs.IntegerValues.{by_order}
use Rattle.query_terms.proofs.integers_stand_by_order.Goals as goal

pub returns : goal.returns
returns c = by_order
