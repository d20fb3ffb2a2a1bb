-- Statements in which parameters are values (SQL As Understood By SQLite, "SQL Language Expressions", "Parameters"). A parameter `?N` stands in a tree as the
-- column of that name.
use Rattle.std.specs.Prelude.{ℕ, ℤ, pos, ◌+◌, ◌-◌, ◌*◌, ◌==◌, not, ◌&&◌, List, [], ◌∷◌, map, Option, Some, None, option_map, option_and_then, slice_get, nat_lt, int_lt, unsigned_abs, if◌then◌else◌}
use Rattle.std.specs.Char.{is_ascii_digit}
use Rattle.sqlval.specs.declared.value.Value.{Value}
use Rattle.sqlval.specs.declared.value.Value.TheVariants as value
use Rattle.sql_syntax.specs.Tree.{Tree, Trees, Null, Integer, Text, Blob, Column, Paren, Negated, Not, Binary, Between, In, Collate, Call, CallAll, Raise, End, More}
use Rattle.sql_syntax.specs.declared.change.Assignment.{Assignment}
use Rattle.sql_syntax.specs.declared.change.Change.{Change}
use Rattle.sql_syntax.specs.declared.change.Change.TheVariants as change
use Rattle.sql_syntax.specs.declared.change.Delete.{Delete}
use Rattle.sql_syntax.specs.declared.change.Insert.{Insert}
use Rattle.sql_syntax.specs.declared.change.InsertSource.{InsertSource}
use Rattle.sql_syntax.specs.declared.change.InsertSource.TheVariants as source
use Rattle.sql_syntax.specs.declared.change.Update.{Update}
use Rattle.sql_syntax.specs.declared.query.FromClause.{FromClause}
use Rattle.sql_syntax.specs.declared.query.Join.{Join}
use Rattle.sql_syntax.specs.declared.query.OrderTerm.{OrderTerm}
use Rattle.sql_syntax.specs.declared.query.Query.{Query}
use Rattle.sql_syntax.specs.declared.query.ResultItem.{ResultItem}
use Rattle.sql_syntax.specs.declared.query.ResultItem.TheVariants as item
use Rattle.sql_syntax.specs.declared.statement.Statement.{Statement}
use Rattle.sql_syntax.specs.declared.statement.Statement.TheVariants as statement

-- ---- parameters

-- the number whose first digits come to n, and whose other digits are these; none with another byte, or past 32766
abbrev pub spelled_from : ℕ → List ℕ → Option ℕ
spelled_from n [] = Some n
spelled_from n (b ∷ z) = if is_ascii_digit b && not (nat_lt 32766 (n * 10 + (b - 48))) then spelled_from (n * 10 + (b - 48)) z else None

-- the number that is written in decimal, from 1 to 32766; none where it begins with 0
abbrev pub decimal_of : List ℕ → Option ℕ
decimal_of [] = None
decimal_of (b ∷ z) = if b == 48 then None else spelled_from 0 (b ∷ z)

-- the number N of a name `?N` (63 is `?`)
abbrev pub parameter_of : List ℕ → Option ℕ
parameter_of [] = None
parameter_of (b ∷ z) = if b == 63 then decimal_of z else None

-- the value of the parameter of this name: the first is that of `?1`
abbrev pub value_of_parameter : List Value → List ℕ → Option Value
value_of_parameter values name = option_and_then (λ n. slice_get values (n - 1)) (parameter_of name)

-- ---- literals

-- a number, with a minus before it below 0
abbrev pub integer_literal : ℤ → Tree
integer_literal z = if int_lt z (pos 0) then Negated (Integer (unsigned_abs z)) else Integer (unsigned_abs z)

-- a value as it is written
abbrev pub literal_of : Value → Tree
literal_of value.Null = Null
literal_of (value.Int z) = integer_literal z
literal_of (value.Text z) = Text z
literal_of (value.Blob z) = Blob z

-- ---- expressions

-- the literal of the value of a parameter, where there is one; else the column of the name
abbrev pub literal_or_column : List ℕ → Option Value → Tree
literal_or_column name (Some v) = literal_of v
literal_or_column name None = Column None name

-- the expression with the literal of its value in the place of each parameter
abbrev mutual
  pub bound_tree : List Value → Tree → Tree
  bound_tree values Null = Null
  bound_tree values (Integer n) = Integer n
  bound_tree values (Text z) = Text z
  bound_tree values (Blob z) = Blob z
  bound_tree values (Column None c) = literal_or_column c (value_of_parameter values c)
  bound_tree values (Column (Some s) c) = Column (Some s) c
  bound_tree values (Paren e) = Paren (bound_tree values e)
  bound_tree values (Negated e) = Negated (bound_tree values e)
  bound_tree values (Not e) = Not (bound_tree values e)
  bound_tree values (Binary o a b) = Binary o (bound_tree values a) (bound_tree values b)
  bound_tree values (Between n a b c) = Between n (bound_tree values a) (bound_tree values b) (bound_tree values c)
  bound_tree values (In n a es) = In n (bound_tree values a) (bound_trees values es)
  bound_tree values (Collate e c) = Collate (bound_tree values e) c
  bound_tree values (Call f es) = Call f (bound_trees values es)
  bound_tree values (CallAll f) = CallAll f
  bound_tree values (Raise r z) = Raise r z

  -- the expressions of a list with their parameters' values
  pub bound_trees : List Value → Trees → Trees
  bound_trees values End = End
  bound_trees values (More e es) = More (bound_tree values e) (bound_trees values es)

-- an expression that may be left out, as a condition, with its parameters' values
abbrev pub bound_condition : List Value → Option Tree → Option Tree
bound_condition values condition = option_map (bound_tree values) condition

-- ---- queries (SQL As Understood By SQLite, "SELECT")

-- a result with its parameters' values
abbrev pub bound_result : List Value → ResultItem → ResultItem
bound_result values item.All = item.All
bound_result values (item.AllOf s) = item.AllOf s
bound_result values (item.Of e name) = item.Of (bound_tree values e) name

-- a further source with the values in its condition
abbrev pub bound_join : List Value → Join → Join
bound_join values join = record join { condition = bound_condition values join.condition }

-- FROM with the values in its conditions
abbrev pub bound_from : List Value → FromClause → FromClause
bound_from values from = record from { joins = map (bound_join values) from.joins }

-- a term of ORDER BY with its parameters' values, in the same direction
abbrev pub bound_order : List Value → OrderTerm → OrderTerm
bound_order values term = record term { expression = bound_tree values term.expression }

-- the query with its parameters' values; LIMIT has numbers alone
abbrev pub bound_query : List Value → Query → Query
bound_query values query = record query {
  results = map (bound_result values) query.results;
  from = option_map (bound_from values) query.from;
  condition = bound_condition values query.condition;
  groups = map (bound_tree values) query.groups;
  order = map (bound_order values) query.order;
}

-- ---- changes of rows (SQL As Understood By SQLite, "INSERT", "UPDATE", "DELETE")

-- rows of VALUES or a query, with their parameters' values
abbrev pub bound_source : List Value → InsertSource → InsertSource
bound_source values (source.Rows rows) = source.Rows (map (map (bound_tree values)) rows)
bound_source values (source.Query query) = source.Query (bound_query values query)

-- INSERT with the values of its rows' parameters
abbrev pub bound_insert : List Value → Insert → Insert
bound_insert values insert = record insert { source = bound_source values insert.source }

-- what SET gives a column, with its parameters' values
abbrev pub bound_assignment : List Value → Assignment → Assignment
bound_assignment values assignment = record assignment { value = bound_tree values assignment.value }

-- UPDATE with the values in SET and WHERE
abbrev pub bound_update : List Value → Update → Update
bound_update values update = record update {
  assignments = map (bound_assignment values) update.assignments;
  condition = bound_condition values update.condition;
}

-- DELETE with the values in WHERE
abbrev pub bound_delete : List Value → Delete → Delete
bound_delete values delete = record delete { condition = bound_condition values delete.condition }

-- a change of rows with its parameters' values
abbrev pub bound_change : List Value → Change → Change
bound_change values (change.Insert insert) = change.Insert (bound_insert values insert)
bound_change values (change.Update update) = change.Update (bound_update values update)
bound_change values (change.Delete delete) = change.Delete (bound_delete values delete)

-- ---- statements

-- a query or a change of rows with its parameters' values; none for other statements
abbrev pub bound_statement : List Value → Statement → Option Statement
bound_statement values (statement.Select query) = Some (statement.Select (bound_query values query))
bound_statement values (statement.Change change) = Some (statement.Change (bound_change values change))
bound_statement values _ = None
