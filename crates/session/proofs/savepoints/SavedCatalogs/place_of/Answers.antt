use Rattle.std.proofs.Common.{sym, ◌∙◌}
use Rattle.session.proofs.SavedLists.{newest_here, none_at_all, none_from_here}
use Rattle.session.proofs.savepoints.SavedCatalogs.place_of.Goals as goal

pub returns-then-is_called-clause-found : goal.returns-then-is_called-clause-found
returns-then-is_called-clause-found c =
    newest_here _ c.args.self.now.savepoints.items c.args.name.now c.places.place c.index.result.now c.places-test.true c.places.invariant.0 c.places.invariant.1 c.index.ensures (sym c.is_called.ensures ∙ c.if-is_called.true)

pub places-preserved : goal.places-preserved
places-preserved c =
    none_from_here c.args.self.now.savepoints.items c.args.name.now c.places.place c.index.result.now c.places-test.true c.places.invariant.0 c.places.invariant.1 c.index.ensures (sym c.is_called.ensures ∙ c.if-is_called.false)

pub returns-clause-none : goal.returns-clause-none
returns-clause-none c = none_at_all _ c.args.self.now.savepoints.items c.args.name.now c.places.place c.places-test.false c.places.invariant.1
