use Rattle.std.proofs.Common.{refl, sym, ap, ◌∙◌, false}
use Rattle.std.specs.Prelude.{Vec}
use Rattle.std.specs.declared.alloc.Global.{Global}
use Rattle.catalog.specs.Listed.{listed_in}
use Rattle.catalog.specs.declared.tables.Catalog.{Catalog}
use Rattle.std.specs.declared.rc.Rc.{Rc}
use Rattle.session.specs.SavedTables.{Savepoints}
use Rattle.session.specs.declared.savepoints.Savepoint.{Savepoint}
use Rattle.session.proofs.SavedLists.{items_none, no_parts, none_so, unchanged_so}
use Rattle.session.proofs.savepoints.SavedCatalogs.commit.Goals as goal

pub returns-clause-newest : goal.returns-clause-newest
returns-clause-newest c =
    ap (λ (r : Rc Catalog Global). listed_in r.value) c.swap.ensures.y_after ∙ c.settle_changes.ensures.committed
    ∙ sym (no_parts c.release.new.self (ap (λ (s : Savepoints). s.points) c.release.ensures.savepoints)) ∙ c.release.ensures.current

pub returns-clause-unchanged : goal.returns-clause-unchanged
returns-clause-unchanged c =
    unchanged_so (record { committed = c.swap.new.x; changed = c.settle_changes.new.self.changed; savepoints = c.settle_changes.new.self.savepoints; began = false }) c.settle_changes.ensures.unchanged
    (ap (λ (v : Vec Savepoint Global). v.items) c.settle_changes.ensures.savepoints ∙ items_none c.release.new.self (ap (λ (s : Savepoints). s.points) c.release.ensures.savepoints))

pub returns-clause-none : goal.returns-clause-none
returns-clause-none c =
    none_so (record { committed = c.swap.new.x; changed = c.settle_changes.new.self.changed; savepoints = c.settle_changes.new.self.savepoints; began = false }) refl (ap (λ (v : Vec Savepoint Global). v.items) c.settle_changes.ensures.savepoints ∙ items_none c.release.new.self (ap (λ (s : Savepoints). s.points) c.release.ensures.savepoints))
