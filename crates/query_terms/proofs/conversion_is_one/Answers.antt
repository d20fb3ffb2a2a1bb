use Rattle.query_terms.proofs.Conversions.{converted_to, refused_as_real}
use Rattle.query_terms.proofs.conversion_is_one.Goals as goal

pub returns-clause-gives : goal.returns-clause-gives
returns-clause-gives c = converted_to

pub returns-clause-refuses : goal.returns-clause-refuses
returns-clause-refuses c = refused_as_real
