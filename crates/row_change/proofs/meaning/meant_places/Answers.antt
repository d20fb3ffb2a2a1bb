use Rattle.std.proofs.Common.{map}
use Rattle.query_terms.specs.Rows.{row_at}
use Rattle.row_change.proofs.Meant.{places_chosen}
use Rattle.row_change.proofs.SetRows.{not_placed}
use Rattle.row_change.proofs.meaning.meant_places.Goals as goal

pub returns-clause-found : goal.returns-clause-found
returns-clause-found c = λ all enough. places_chosen c.args.condition.now c.args.rows.now all c.places_meant.result enough c.places_meant.ensures

pub returns-clause-not_disk : goal.returns-clause-not_disk
returns-clause-not_disk c = not_placed (λ places. map (row_at c.args.rows.now) places.items) c.places_meant.result c.args.condition.now c.args.rows.now c.places_meant.ensures
