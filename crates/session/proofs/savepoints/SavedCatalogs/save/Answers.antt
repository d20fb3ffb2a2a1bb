use Rattle.session.proofs.SavedLists.{adds}
use Rattle.session.proofs.savepoints.SavedCatalogs.save.Goals as goal

pub returns-clause-saved : goal.returns-clause-saved
returns-clause-saved c = adds c.args.self.now c.push.new.self c.args.name c.in_ok-push.ensures.items
