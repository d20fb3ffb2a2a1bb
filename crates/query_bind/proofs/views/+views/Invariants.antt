-- A view's query has room for one view less. What is left of the joins decides; the sources so far are known, and each is placed.
use Rattle.std.proofs.Common.{◌≡◌, ◌+◌, ◌*◌, drop}
use Rattle.catalog.specs.Listed.{listed_in}
use Rattle.query_names.specs.Known.{columns_in}
use Rattle.query_names.specs.Queries.{resolve_sources}
use Rattle.query_bind.specs.Named.{ArePlaced, AreTables, onto_sources}
use Rattle.query_bind.proofs.views.+views.Given as goal

abbrev pub decreases-bind_view : goal.decreases-bind_view
decreases-bind_view l = l.room * 8

abbrev pub decreases-view_found : goal.decreases-view_found
decreases-view_found l = l.room * 8 + 1

abbrev pub decreases-find_source : goal.decreases-find_source
decreases-find_source l = l.room * 8 + 2

abbrev pub decreases-add_source : goal.decreases-add_source
decreases-add_source l = l.room * 8 + 3

abbrev pub decreases-add_joins : goal.decreases-add_joins
decreases-add_joins l = l.room * 8 + 4

abbrev pub decreases-bind_sources : goal.decreases-bind_sources
decreases-bind_sources l = l.room * 8 + 5

abbrev pub decreases-bind_query : goal.decreases-bind_query
decreases-bind_query l = l.room * 8 + 6

abbrev pub invariant-add_joins-joins : goal.invariant-add_joins-joins
invariant-add_joins-joins l =
    (AreTables l.fn.found.scope.items
    → onto_sources l.found.joined.items (resolve_sources (columns_in l.room (listed_in l.catalog) l.around) l.found.scope.items (drop l.join-index l.joins))
    ≡ onto_sources l.fn.found.joined.items (resolve_sources (columns_in l.room (listed_in l.catalog) l.around) l.fn.found.scope.items l.joins))
    × (AreTables l.fn.found.scope.items → AreTables l.found.scope.items)
    × (ArePlaced (listed_in l.catalog) l.fn.found.joined.items l.fn.found.origins.items → ArePlaced (listed_in l.catalog) l.found.joined.items l.found.origins.items)
