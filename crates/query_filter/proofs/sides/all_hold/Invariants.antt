-- what is left of the parts decides
use Rattle.std.proofs.Common.{◌≡◌, drop, map, Some, true}
use Rattle.query_terms.specs.Rows.{seen}
use Rattle.query_filter.specs.Sides.{all_holding, side_term}
use Rattle.query_filter.proofs.sides.all_hold.Given as goal

abbrev pub invariant-sides : goal.invariant-sides
invariant-sides l = all_holding l.so_far (map side_term (drop l.index l.sides)) (seen l.env) ≡ all_holding (Some true) (map side_term l.sides) (seen l.env)
