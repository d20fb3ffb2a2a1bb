use Rattle.std.proofs.Common.{arith}
use Rattle.session.specs.SavedTables.{first_in}
use Rattle.session.proofs.SavedLists.{released_count, releases_none, releases_on, saved_length}
use Rattle.session.proofs.savepoints.SavedCatalogs.release.Goals as goal

pub newest-init : goal.newest-init
newest-init c = (omega (arith, c.requires, saved_length (first_in c.args.self.now) c.args.self.now.savepoints.items), releases_none c.args.self.now)

pub release_newest-requires : goal.release_newest-requires
release_newest-requires c = omega (arith, c.newest-test.true, c.len.ensures, c.newest.self.savepoints.ok.0, saved_length (first_in c.newest.self) c.newest.self.savepoints.items)

pub newest-smaller : goal.newest-smaller
newest-smaller c = omega (arith, released_count c.newest.self c.release_newest.new.self c.release_newest.ensures, c.newest-test.true, c.len.ensures, c.newest.self.savepoints.ok.0)

pub newest-preserved : goal.newest-preserved
newest-preserved c = (
  omega (arith, released_count c.newest.self c.release_newest.new.self c.release_newest.ensures, c.newest-test.true, c.len.ensures, c.newest.self.savepoints.ok.0),
  releases_on c.args.self.now c.newest.self c.release_newest.new.self c.newest.invariant.1 c.release_newest.ensures,
)
