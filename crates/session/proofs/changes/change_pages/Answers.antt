use Rattle.std.proofs.Common.{rules}
use Rattle.session.proofs.ChangedPages.{changed_to, tells_changes}
use Rattle.session.proofs.changes.change_pages.Goals as goal

pub returns-clause-applies : goal.returns-clause-applies
returns-clause-applies g c db text on =
    let old = c.args.log.now in
    let catalog = c.args.catalog.now in
    let told = tells_changes old catalog c.args.writer.now db c.args.log.ghost_name c.args.writer.ghost_name c.args.buffer.ghost_name on in
    let is = changed_to old c.change.new.pages.log.now c.args.writer.now c.change.new.pages.writer.now _ _ _ _ _ _ c.change.ensures.kept _ catalog db _ c.change.result on
    c.current.ensures (c.change.ensures.made told text) in
    search rules
