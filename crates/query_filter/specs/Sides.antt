-- The parts that AND joins.
use Rattle.std.specs.Prelude.{Bool, List, [], ◌∷◌, ◌++◌, Option, Some, None, Ok}
use Rattle.sqlval.specs.Refusals.{Answer, ◌then◌}
use Rattle.query_terms.specs.Rows.{and_truth}
use Rattle.query_terms.specs.Terms.{Term, In, Two, terms}
use Rattle.query_terms.specs.Values.{Environment, truth, value}
use Rattle.query_terms.specs.declared.tree.TwoSided.TheVariants.{And}
use Rattle.query_filter.specs.declared.members.Members.{Members}
use Rattle.query_filter.specs.declared.sides.Side.{Side}
use Rattle.query_filter.specs.declared.sides.Side.TheVariants as side

-- the IN that members are made of
abbrev pub member_term : Members → Term
member_term m = In m.is_negated m.operand.now (terms m.list.now)

-- what a side stands for
abbrev pub side_term : Side → Term
side_term (side.Plain t) = t.now
side_term (side.Against a) = a.term.now
side_term (side.Among m) = member_term m

-- what AND joins, from left to right
abbrev pub joined_sides : Term → List Term
joined_sides (Two And a b) = joined_sides a ++ b ∷ []
joined_sides t = t ∷ []

abbrev pub filter_sides : Option Term → List Term
filter_sides None = []
filter_sides (Some t) = joined_sides t

-- whether a term is true, or neither true nor false
abbrev pub holding : Term → Environment → Answer (Option Bool)
holding t env = value t env then truth

-- the same of AND of what is known and of these: where it is false, the others aren't met
abbrev pub all_holding : Option Bool → List Term → Environment → Answer (Option Bool)
all_holding t [] env = Ok t
all_holding t (e ∷ es) env = and_truth t (holding e env) then λ u. all_holding u es env
