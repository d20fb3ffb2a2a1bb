-- With a value for each number no parameter is left.
use Rattle.std.proofs.Common.{◌≡◌, ℕ, ◌-◌, ◌≤◌, ◌<◌, Bool, true, false, cond, List, [], ◌∷◌, length, map, inl, inr, Option, Some, None, refl, sym, ap, ◌∙◌, arith}
use Rattle.std.specs.Prelude.{option_and_then, option_map, slice_get, unwrap_or, unsigned_abs, int_lt, pos}
use Rattle.std.proofs.lemmas.Option.{none-some, same_Some, slice_get_cases}
use Rattle.sqlval.specs.declared.value.Value.{Value}
use Rattle.sqlval.specs.declared.value.Value.TheVariants as value
use Rattle.sql_syntax.specs.Tree.{Tree, Trees, Null, Integer, Text, Blob, Column, Paren, Negated, Not, Binary, Between, In, Collate, Call, CallAll, Raise, End, More, trees}
use Rattle.sql_syntax.specs.declared.change.Assignment.{Assignment}
use Rattle.sql_syntax.specs.declared.change.Change.{Change}
use Rattle.sql_syntax.specs.declared.change.Change.TheVariants as change
use Rattle.sql_syntax.specs.declared.change.InsertSource.{InsertSource}
use Rattle.sql_syntax.specs.declared.change.InsertSource.TheVariants as source
use Rattle.sql_syntax.specs.declared.query.FromClause.{FromClause}
use Rattle.sql_syntax.specs.declared.query.Join.{Join}
use Rattle.sql_syntax.specs.declared.query.OrderTerm.{OrderTerm}
use Rattle.sql_syntax.specs.declared.query.Query.{Query}
use Rattle.sql_syntax.specs.declared.query.ResultItem.{ResultItem}
use Rattle.sql_syntax.specs.declared.query.ResultItem.TheVariants as item
use Rattle.sql_syntax.specs.declared.statement.Statement.TheVariants as statement
use Rattle.sql_bound.specs.Bound.{bound_assignment, bound_change, bound_from, bound_join, bound_order, bound_query, bound_result, bound_source, bound_tree, bound_trees, literal_of, literal_or_column, parameter_of}
use Rattle.sql_bound.specs.Greatest.{greatest_among, greatest_if_given, greatest_in, greatest_in_change, greatest_in_condition, greatest_in_from, greatest_in_query, greatest_in_result, greatest_in_source, greatest_of, greatest_parameter}
use Rattle.sql_bound.specs.Laws.{LeavesNoParameter}
use Rattle.sql_bound.proofs.ParameterNames.{are_decimal}
use Rattle.sql_bound.proofs.TreeLists.{each_bound}

either_none : (b : Bool) (x y : Tree) → greatest_in x ≡ 0 → greatest_in y ≡ 0 → greatest_in (cond b x y) ≡ 0
either_none true x y p q = p
either_none false x y p q = q

literal_none : (v : Value) → greatest_in (literal_of v) ≡ 0
literal_none value.Null = refl
literal_none (value.Int z) = either_none (int_lt z (pos 0)) (Negated (Integer (unsigned_abs z))) (Integer (unsigned_abs z)) refl refl
literal_none (value.Text z) = refl
literal_none (value.Blob z) = refl

value_there : (values : List Value) (i : ℕ) → i < length values → (v : Value) × (slice_get values i ≡ Some v)
value_there values i h = elim ((slice_get_cases values i).1) [
  | inl found ↦ (found.0, found.2)
  | inr past ↦ absurd (omega arith)
]

module _ (values : List Value) where
  column_none : (c : List ℕ) (o : Option ℕ) → parameter_of c ≡ o → unwrap_or o 0 ≤ length values
      → greatest_in (literal_or_column c (option_and_then (λ n. slice_get values (n - 1)) o)) ≡ 0
  column_none c None e h = ap (λ o. unwrap_or o 0) e
  column_none c (Some n) e h =
      let number = (are_decimal c n).0 e in
      let found = value_there values (n - 1) (omega arith) in
      ap (λ o. greatest_in (literal_or_column c o)) found.1 ∙ literal_none found.0

  mutual
    none_left : (e : Tree) → greatest_in e ≤ length values → greatest_in (bound_tree values e) ≡ 0
    none_left Null h = refl
    none_left (Integer n) h = refl
    none_left (Text z) h = refl
    none_left (Blob z) h = refl
    none_left (Column None c) h = column_none c (parameter_of c) refl h
    none_left (Column (Some s) c) h = refl
    none_left (Paren e) h = none_left e h
    none_left (Negated e) h = none_left e h
    none_left (Not e) h = none_left e h
    none_left (Binary o a b) h = omega (arith, none_left a (omega arith), none_left b (omega arith))
    none_left (Between n a b c) h = omega (arith, none_left a (omega arith), none_left b (omega arith), none_left c (omega arith))
    none_left (In n a es) h = omega (arith, none_left a (omega arith), list_none es (omega arith))
    none_left (Collate e c) h = none_left e h
    none_left (Call f es) h = list_none es h
    none_left (CallAll f) h = refl
    none_left (Raise r z) h = refl

    list_none : (es : Trees) → greatest_among es ≤ length values → greatest_among (bound_trees values es) ≡ 0
    list_none End h = refl
    list_none (More e es) h = omega (arith, none_left e (omega arith), list_none es (omega arith))

  each_none : {A : Type 0} (f : A → ℕ) (g : A → A) → ((x : A) → f x ≤ length values → f (g x) ≡ 0) → (xs : List A)
      → greatest_of f xs ≤ length values → greatest_of f (map g xs) ≡ 0
  each_none f g one [] h = refl
  each_none f g one (x ∷ xs) h = omega (arith, one x (omega arith), each_none f g one xs (omega arith))

  given_none : {A : Type 0} (f : A → ℕ) (g : A → A) → ((x : A) → f x ≤ length values → f (g x) ≡ 0) → (o : Option A)
      → greatest_if_given f o ≤ length values → greatest_if_given f (option_map g o) ≡ 0
  given_none f g one None h = refl
  given_none f g one (Some x) h = one x h

  trees_none : (es : List Tree) → greatest_among (trees es) ≤ length values → greatest_among (trees (map (bound_tree values) es)) ≡ 0
  trees_none es h = ap greatest_among (each_bound values es) ∙ list_none (trees es) h

  condition_none : (o : Option Tree) → greatest_in_condition o ≤ length values → greatest_in_condition (option_map (bound_tree values) o) ≡ 0
  condition_none = given_none greatest_in (bound_tree values) none_left

  result_none : (r : ResultItem) → greatest_in_result r ≤ length values → greatest_in_result (bound_result values r) ≡ 0
  result_none item.All h = refl
  result_none (item.AllOf s) h = refl
  result_none (item.Of e name) h = none_left e h

  from_none : (from : FromClause) → greatest_in_from from ≤ length values → greatest_in_from (bound_from values from) ≡ 0
  from_none from h = each_none (λ (join : Join). greatest_in_condition join.condition) (bound_join values) (λ join. condition_none join.condition) from.joins h

  query_none : (query : Query) → greatest_in_query query ≤ length values → greatest_in_query (bound_query values query) ≡ 0
  query_none query h = omega (
    arith,
    each_none greatest_in_result (bound_result values) result_none query.results (omega arith),
    given_none greatest_in_from (bound_from values) from_none query.from (omega arith),
    condition_none query.condition (omega arith),
    trees_none query.groups (omega arith),
    each_none (λ (term : OrderTerm). greatest_in term.expression) (bound_order values) (λ term. none_left term.expression) query.order (omega arith),
  )

  source_none : (s : InsertSource) → greatest_in_source s ≤ length values → greatest_in_source (bound_source values s) ≡ 0
  source_none (source.Rows rows) h = each_none (λ (row : List Tree). greatest_among (trees row)) (map (bound_tree values)) trees_none rows h
  source_none (source.Query query) h = query_none query h

  change_none : (c : Change) → greatest_in_change c ≤ length values → greatest_in_change (bound_change values c) ≡ 0
  change_none (change.Insert insert) h = source_none insert.source h
  change_none (change.Update update) h = omega (
    arith,
    each_none (λ (assignment : Assignment). greatest_in assignment.value) (bound_assignment values) (λ assignment. none_left assignment.value) update.assignments (omega arith),
    condition_none update.condition (omega arith),
  )
  change_none (change.Delete delete) h = condition_none delete.condition h

pub none_is_left : LeavesNoParameter
none_is_left values (statement.Select query) copy h e = ap greatest_parameter (sym (same_Some _ _ e)) ∙ query_none values query h
none_is_left values (statement.Change c) copy h e = ap greatest_parameter (sym (same_Some _ _ e)) ∙ change_none values c h
none_is_left values _ copy h e = absurd (none-some copy e)
