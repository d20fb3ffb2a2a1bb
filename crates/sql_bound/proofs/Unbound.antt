-- Without parameters the copy is the same.
use Rattle.std.proofs.Common.{◌≡◌, ℕ, ◌-◌, List, [], ◌∷◌, map, Option, Some, None, refl, sym, ap, ◌∙◌, arith}
use Rattle.std.specs.Prelude.{option_and_then, option_map, slice_get, unwrap_or}
use Rattle.std.proofs.lemmas.Option.{none-some, same_Some}
use Rattle.sqlval.specs.declared.value.Value.{Value}
use Rattle.sql_syntax.specs.Tree.{Tree, Trees, Null, Integer, Text, Blob, Column, Paren, Negated, Not, Binary, Between, In, Collate, Call, CallAll, Raise, End, More, trees}
use Rattle.sql_syntax.specs.declared.change.Assignment.{Assignment}
use Rattle.sql_syntax.specs.declared.change.Change.{Change}
use Rattle.sql_syntax.specs.declared.change.Change.TheVariants as change
use Rattle.sql_syntax.specs.declared.change.InsertSource.{InsertSource}
use Rattle.sql_syntax.specs.declared.change.InsertSource.TheVariants as source
use Rattle.sql_syntax.specs.declared.query.FromClause.{FromClause}
use Rattle.sql_syntax.specs.declared.query.Join.{Join}
use Rattle.sql_syntax.specs.declared.query.OrderTerm.{OrderTerm}
use Rattle.sql_syntax.specs.declared.query.Query.{Query}
use Rattle.sql_syntax.specs.declared.query.ResultItem.{ResultItem}
use Rattle.sql_syntax.specs.declared.query.ResultItem.TheVariants as item
use Rattle.sql_syntax.specs.declared.statement.Statement.TheVariants as statement
use Rattle.sql_bound.specs.Bound.{bound_assignment, bound_change, bound_from, bound_join, bound_order, bound_query, bound_result, bound_source, bound_tree, bound_trees, literal_or_column, parameter_of}
use Rattle.sql_bound.specs.Greatest.{greatest_among, greatest_if_given, greatest_in, greatest_in_change, greatest_in_condition, greatest_in_from, greatest_in_query, greatest_in_result, greatest_in_source, greatest_of}
use Rattle.sql_bound.specs.Laws.{CopiesWithoutParameters}
use Rattle.sql_bound.proofs.ParameterNames.{are_decimal}

module _ (values : List Value) where
  column_same : (c : List ℕ) (o : Option ℕ) → parameter_of c ≡ o → unwrap_or o 0 ≡ 0
      → literal_or_column c (option_and_then (λ n. slice_get values (n - 1)) o) ≡ Column None c
  column_same c None e h = refl
  column_same c (Some n) e h = let number = (are_decimal c n).0 e in absurd (omega arith)

  mutual
    same_tree : (e : Tree) → greatest_in e ≡ 0 → bound_tree values e ≡ e
    same_tree Null h = refl
    same_tree (Integer n) h = refl
    same_tree (Text z) h = refl
    same_tree (Blob z) h = refl
    same_tree (Column None c) h = column_same c (parameter_of c) refl h
    same_tree (Column (Some s) c) h = refl
    same_tree (Paren e) h = ap Paren (same_tree e h)
    same_tree (Negated e) h = ap Negated (same_tree e h)
    same_tree (Not e) h = ap Not (same_tree e h)
    same_tree (Binary o a b) h = λ i. Binary o (same_tree a (omega arith) i) (same_tree b (omega arith) i)
    same_tree (Between n a b c) h = λ i. Between n (same_tree a (omega arith) i) (same_tree b (omega arith) i) (same_tree c (omega arith) i)
    same_tree (In n a es) h = λ i. In n (same_tree a (omega arith) i) (same_list es (omega arith) i)
    same_tree (Collate e c) h = ap (λ x. Collate x c) (same_tree e h)
    same_tree (Call f es) h = ap (Call f) (same_list es h)
    same_tree (CallAll f) h = refl
    same_tree (Raise r z) h = refl

    same_list : (es : Trees) → greatest_among es ≡ 0 → bound_trees values es ≡ es
    same_list End h = refl
    same_list (More e es) h = λ i. More (same_tree e (omega arith) i) (same_list es (omega arith) i)

  each_same : {A : Type 0} (f : A → ℕ) (g : A → A) → ((x : A) → f x ≡ 0 → g x ≡ x) → (xs : List A) → greatest_of f xs ≡ 0 → map g xs ≡ xs
  each_same f g one [] h = refl
  each_same f g one (x ∷ xs) h = λ i. one x (omega arith) i ∷ each_same f g one xs (omega arith) i

  given_same : {A : Type 0} (f : A → ℕ) (g : A → A) → ((x : A) → f x ≡ 0 → g x ≡ x) → (o : Option A) → greatest_if_given f o ≡ 0 → option_map g o ≡ o
  given_same f g one None h = refl
  given_same f g one (Some x) h = ap Some (one x h)

  same_trees : (es : List Tree) → greatest_among (trees es) ≡ 0 → map (bound_tree values) es ≡ es
  same_trees [] h = refl
  same_trees (e ∷ es) h = λ i. same_tree e (omega arith) i ∷ same_trees es (omega arith) i

  same_condition : (o : Option Tree) → greatest_in_condition o ≡ 0 → option_map (bound_tree values) o ≡ o
  same_condition = given_same greatest_in (bound_tree values) same_tree

  same_result : (r : ResultItem) → greatest_in_result r ≡ 0 → bound_result values r ≡ r
  same_result item.All h = refl
  same_result (item.AllOf s) h = refl
  same_result (item.Of e name) h = ap (λ x. item.Of x name) (same_tree e h)

  same_join : (join : Join) → greatest_in_condition join.condition ≡ 0 → bound_join values join ≡ join
  same_join join h = λ i. record join { condition = same_condition join.condition h i }

  same_from : (from : FromClause) → greatest_in_from from ≡ 0 → bound_from values from ≡ from
  same_from from h = λ i. record from { joins = each_same (λ (join : Join). greatest_in_condition join.condition) (bound_join values) same_join from.joins h i }

  same_term : (term : OrderTerm) → greatest_in term.expression ≡ 0 → bound_order values term ≡ term
  same_term term h = λ i. record term { expression = same_tree term.expression h i }

  same_query : (query : Query) → greatest_in_query query ≡ 0 → bound_query values query ≡ query
  same_query query h = λ i. record query {
    results = each_same greatest_in_result (bound_result values) same_result query.results (omega arith) i;
    from = given_same greatest_in_from (bound_from values) same_from query.from (omega arith) i;
    condition = same_condition query.condition (omega arith) i;
    groups = same_trees query.groups (omega arith) i;
    order = each_same (λ (term : OrderTerm). greatest_in term.expression) (bound_order values) same_term query.order (omega arith) i;
  }

  same_source : (s : InsertSource) → greatest_in_source s ≡ 0 → bound_source values s ≡ s
  same_source (source.Rows rows) h = ap source.Rows (each_same (λ (row : List Tree). greatest_among (trees row)) (map (bound_tree values)) same_trees rows h)
  same_source (source.Query query) h = ap source.Query (same_query query h)

  same_assignment : (assignment : Assignment) → greatest_in assignment.value ≡ 0 → bound_assignment values assignment ≡ assignment
  same_assignment assignment h = λ i. record assignment { value = same_tree assignment.value h i }

  same_change : (c : Change) → greatest_in_change c ≡ 0 → bound_change values c ≡ c
  same_change (change.Insert insert) h = ap change.Insert (λ i. record insert { source = same_source insert.source h i })
  same_change (change.Update update) h = ap change.Update (λ i. record update {
    assignments = each_same (λ (assignment : Assignment). greatest_in assignment.value) (bound_assignment values) same_assignment update.assignments (omega arith) i;
    condition = same_condition update.condition (omega arith) i;
  })
  same_change (change.Delete delete) h = ap change.Delete (λ i. record delete { condition = same_condition delete.condition h i })

pub same_copy : CopiesWithoutParameters
same_copy values (statement.Select query) copy h e = sym (same_Some _ _ e) ∙ ap statement.Select (same_query values query h)
same_copy values (statement.Change c) copy h e = sym (same_Some _ _ e) ∙ ap statement.Change (same_change values c h)
same_copy values _ copy h e = absurd (none-some copy e)
