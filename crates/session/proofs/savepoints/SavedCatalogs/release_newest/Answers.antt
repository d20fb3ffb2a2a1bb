use Rattle.session.proofs.SavedLists.{pops}
use Rattle.session.proofs.savepoints.SavedCatalogs.release_newest.Goals as goal

pub returns-in-Some : goal.returns-in-Some
returns-in-Some c = pops c.args.self.now c.pop.new.self c.in-Some.newest c.join.new.self c.in-Some.ensures.items c.join.ensures.current c.join.ensures.committed c.join.ensures.savepoints
