use Rattle.std.proofs.Common.{rules}
use Rattle.std.proofs.lemmas.List.{take_all, take_more}
use Rattle.tree_check.proofs.last.copies_of.Goals as goal

pub values-preserved : goal.values-preserved
values-preserved c = search (rules, take_more)

pub returns : goal.returns
returns c = search (rules, take_all)
