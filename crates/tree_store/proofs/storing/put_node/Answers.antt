use Rattle.tree_store.proofs.PutPages.{put_or}
use Rattle.tree_store.proofs.storing.put_node.Goals as goal

pub returns-clause-rewritten : goal.returns-clause-rewritten
returns-clause-rewritten g c = λ told.
    (let pages = g.P.Pages in
    let old = c.args.pages.now in
    put_or (pages.map old) (pages.map c.put.new.self) (pages.limits (pages.below old)).page c.args.number c.args.bytes.now c.put.result (c.put.ensures.done told) (c.put.ensures.refusal told))
