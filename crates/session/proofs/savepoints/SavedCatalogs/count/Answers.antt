use Rattle.std.proofs.Common.{sym, ◌∙◌}
use Rattle.session.proofs.SavedLists.{saved_length}
use Rattle.session.proofs.savepoints.SavedCatalogs.count.Goals as goal

pub returns : goal.returns
returns c = c.len.ensures ∙ c.args.self.now.savepoints.ok.0 ∙ sym (saved_length _ c.args.self.now.savepoints.items)
