use Rattle.tree_check.proofs.AllMarked.{marked_after}
use Rattle.tree_check.proofs.lists.are_all_marked.Goals as goal

pub returns-in-len1-up : goal.returns-in-len1-up
returns-in-len1-up c = record { exact = marked_after c.args.marks.now c.are_all.result c.in-len1-up.len_at_least c.are_all.ensures }
