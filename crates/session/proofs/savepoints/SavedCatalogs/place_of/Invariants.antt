-- none of those after the place has the name
use Rattle.std.proofs.Common.{◌≡◌, ◌≤◌, false, drop, length, map}
use Rattle.std.specs.List.{list_any}
use Rattle.sqlval.specs.Names.{is_same_name}
use Rattle.session.proofs.savepoints.SavedCatalogs.place_of.Given as goal

abbrev pub invariant-places : goal.invariant-places
invariant-places l =
    (l.place ≤ length l.self.savepoints.items) × (list_any (λ other. is_same_name other l.name) (drop l.place (map (λ s. s.name) l.self.savepoints.items)) ≡ false)

abbrev pub decreases-places : goal.decreases-places
decreases-places l = l.place
