-- Limits on the parts of trees.
use Rattle.std.specs.Prelude.{Bool, true, ◌&&◌, List, [], ◌∷◌}
use Rattle.sql_syntax.specs.declared.query.FromClause.{FromClause}
use Rattle.sql_syntax.specs.declared.query.Join.{Join}
use Rattle.sql_syntax.specs.declared.query.OrderTerm.{OrderTerm}
use Rattle.sql_syntax.specs.declared.query.Query.{Query}
use Rattle.sql_syntax.specs.declared.query.ResultItem.{ResultItem}
use Rattle.sql_syntax.specs.declared.query.ResultItem.TheVariants as item
use Rattle.sql_expr.specs.Limits.{is_shallow, are_shallow, if_given}
use Rattle.sql_grammar.specs.Limits.{few, few_joins}

-- each of a list is within a limit
abbrev pub all_fit : {A : Type 0} → (A → Bool) → List A → Bool
all_fit fits [] = true
all_fit fits (a ∷ xs) = fits a && all_fit fits xs

abbrev pub is_result_within : ResultItem → Bool
is_result_within (item.Of e c) = is_shallow e
is_result_within _ = true

-- at most 64 results, each within the limits
abbrev pub are_results_within : List ResultItem → Bool
are_results_within rs = all_fit is_result_within rs && few rs

abbrev pub is_term_within : OrderTerm → Bool
is_term_within t = is_shallow t.expression

-- an expression after ON of a depth of at most 100
abbrev pub is_join_within : Join → Bool
is_join_within j = if_given is_shallow j.condition

-- at most 16 sources, each within the limits
abbrev pub is_from_within : FromClause → Bool
is_from_within f = all_fit is_join_within f.joins && few_joins f.joins

-- each clause is within its limits
abbrev pub is_selection_within : Query → Bool
is_selection_within q = are_results_within q.results && if_given is_from_within q.from && if_given is_shallow q.condition && are_shallow q.groups && all_fit is_term_within q.order
