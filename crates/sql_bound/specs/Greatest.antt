-- The greatest number of a parameter, 0 where there is none (SQL As Understood By SQLite, "SQL Language Expressions", "Parameters").
use Rattle.std.specs.Prelude.{ℕ, max, List, [], ◌∷◌, Option, Some, None, unwrap_or}
use Rattle.sql_syntax.specs.Tree.{Tree, Trees, Null, Integer, Text, Blob, Column, Paren, Negated, Not, Binary, Between, In, Collate, Call, CallAll, Raise, End, More, trees}
use Rattle.sql_syntax.specs.declared.change.Change.{Change}
use Rattle.sql_syntax.specs.declared.change.Change.TheVariants as change
use Rattle.sql_syntax.specs.declared.change.InsertSource.{InsertSource}
use Rattle.sql_syntax.specs.declared.change.InsertSource.TheVariants as source
use Rattle.sql_syntax.specs.declared.query.FromClause.{FromClause}
use Rattle.sql_syntax.specs.declared.query.Query.{Query}
use Rattle.sql_syntax.specs.declared.query.ResultItem.{ResultItem}
use Rattle.sql_syntax.specs.declared.query.ResultItem.TheVariants as item
use Rattle.sql_syntax.specs.declared.statement.Statement.{Statement}
use Rattle.sql_syntax.specs.declared.statement.Statement.TheVariants as statement
use Rattle.sql_bound.specs.Bound.{parameter_of}

-- the greatest of the numbers of these items, 0 where there are none
abbrev pub greatest_of : {A : Type 0} → (A → ℕ) → List A → ℕ
greatest_of f [] = 0
greatest_of f (x ∷ xs) = max (f x) (greatest_of f xs)

-- the number of what may be left out, 0 where it is left out
abbrev pub greatest_if_given : {A : Type 0} → (A → ℕ) → Option A → ℕ
greatest_if_given f None = 0
greatest_if_given f (Some x) = f x

-- the greatest number in an expression
abbrev mutual
  pub greatest_in : Tree → ℕ
  greatest_in Null = 0
  greatest_in (Integer n) = 0
  greatest_in (Text z) = 0
  greatest_in (Blob z) = 0
  greatest_in (Column None c) = unwrap_or (parameter_of c) 0
  greatest_in (Column (Some s) c) = 0
  greatest_in (Paren e) = greatest_in e
  greatest_in (Negated e) = greatest_in e
  greatest_in (Not e) = greatest_in e
  greatest_in (Binary o a b) = max (greatest_in a) (greatest_in b)
  greatest_in (Between n a b c) = max (greatest_in a) (max (greatest_in b) (greatest_in c))
  greatest_in (In n a es) = max (greatest_in a) (greatest_among es)
  greatest_in (Collate e c) = greatest_in e
  greatest_in (Call f es) = greatest_among es
  greatest_in (CallAll f) = 0
  greatest_in (Raise r z) = 0

  -- the greatest number in a list of expressions
  pub greatest_among : Trees → ℕ
  greatest_among End = 0
  greatest_among (More e es) = max (greatest_in e) (greatest_among es)

-- the greatest number in an expression that may be left out
abbrev pub greatest_in_condition : Option Tree → ℕ
greatest_in_condition condition = greatest_if_given greatest_in condition

-- the greatest number in a result
abbrev pub greatest_in_result : ResultItem → ℕ
greatest_in_result item.All = 0
greatest_in_result (item.AllOf s) = 0
greatest_in_result (item.Of e name) = greatest_in e

-- the greatest number in the conditions of FROM
abbrev pub greatest_in_from : FromClause → ℕ
greatest_in_from from = greatest_of (λ join. greatest_in_condition join.condition) from.joins

-- the greatest number in a query
abbrev pub greatest_in_query : Query → ℕ
greatest_in_query query =
    max (greatest_of greatest_in_result query.results)
    (max (greatest_if_given greatest_in_from query.from)
    (max (greatest_in_condition query.condition)
    (max (greatest_among (trees query.groups)) (greatest_of (λ term. greatest_in term.expression) query.order))))

-- the greatest number in what INSERT takes its rows from
abbrev pub greatest_in_source : InsertSource → ℕ
greatest_in_source (source.Rows rows) = greatest_of (λ row. greatest_among (trees row)) rows
greatest_in_source (source.Query query) = greatest_in_query query

-- the greatest number in a change of rows
abbrev pub greatest_in_change : Change → ℕ
greatest_in_change (change.Insert insert) = greatest_in_source insert.source
greatest_in_change (change.Update update) = max (greatest_of (λ assignment. greatest_in assignment.value) update.assignments) (greatest_in_condition update.condition)
greatest_in_change (change.Delete delete) = greatest_in_condition delete.condition

-- the greatest number in a query or a change of rows; other statements have no parameters
abbrev pub greatest_parameter : Statement → ℕ
greatest_parameter (statement.Select query) = greatest_in_query query
greatest_parameter (statement.Change change) = greatest_in_change change
greatest_parameter _ = 0
