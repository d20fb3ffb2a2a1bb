use Rattle.catalog.proofs.Dropped.{lists_others}
use Rattle.catalog.proofs.other_tables_are_listed.Goals as goal

pub returns : goal.returns
returns c = lists_others
