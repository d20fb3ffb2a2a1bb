use Rattle.std.proofs.Common.{◌≡◌, map, subst, None, List}
use Rattle.catalog.specs.declared.tables.Column.{Column}
use Rattle.executor.proofs.PlacesByColumn.{all_placed, none_placed, one_placed}
use Rattle.executor.proofs.rows.places_by_column.Goals as goal

pub places-init : goal.places-init
places-init c =
    none_placed c.args.table.now.columns c.args.places.now c.in_ok-made.made.items
    (subst (λ (columns : List Column). c.in_ok-made.made.items ≡ map (λ column. None) columns) c.as_slice.ensures c.in_ok-made.ensures)

pub places-preserved : goal.places-preserved
places-preserved c = one_placed c.args.table.now.columns c.args.places.now c.places.place c.places.made.items c.put_place.new.made.items c.places-test.true c.places.invariant c.put_place.ensures

pub returns : goal.returns
returns c = all_placed c.args.table.now c.args.places.now c.places.place c.places.made.items c.places-test.false c.places.invariant
