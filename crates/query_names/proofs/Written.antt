-- Short forms of statements and of tables, for worked examples.
use Rattle.std.specs.Prelude.{ℕ, suc, false, List, [], ◌∷◌, map, ℤ, pos, Option, None, Some}
use Rattle.sqlval.specs.declared.affinity.Affinity.TheVariants as kind
use Rattle.sqlval.specs.declared.collation.Collation.TheVariants.{Binary}
use Rattle.sqlval.specs.declared.value.Value.{Value}
use Rattle.sqlval.specs.declared.value.Value.TheVariants as value
use Rattle.sql_syntax.specs.Tree as tree
use Rattle.sql_syntax.specs.Tree.{Tree}
use Rattle.sql_syntax.specs.declared.change.Assignment.{Assignment}
use Rattle.sql_syntax.specs.declared.change.Change.{Change}
use Rattle.sql_syntax.specs.declared.change.Change.TheVariants as change
use Rattle.sql_syntax.specs.declared.change.InsertSource.TheVariants.{Rows}
use Rattle.sql_syntax.specs.declared.change.InsertSource.TheVariants as source
use Rattle.sql_syntax.specs.declared.create.ColumnDefinition.{ColumnDefinition}
use Rattle.sql_syntax.specs.declared.create.ColumnRule.{ColumnRule}
use Rattle.sql_syntax.specs.declared.create.TableDefinition.{TableDefinition}
use Rattle.sql_syntax.specs.declared.create.TableRule.{TableRule}
use Rattle.sql_syntax.specs.declared.query.FromClause.{FromClause}
use Rattle.sql_syntax.specs.declared.query.Join.{Join}
use Rattle.sql_syntax.specs.declared.query.JoinKind.{JoinKind}
use Rattle.sql_syntax.specs.declared.query.JoinKind.TheVariants.{Comma}
use Rattle.sql_syntax.specs.declared.query.OrderTerm.{OrderTerm}
use Rattle.sql_syntax.specs.declared.query.Query.{Query}
use Rattle.sql_syntax.specs.declared.query.ResultItem.{ResultItem}
use Rattle.sql_syntax.specs.declared.query.ResultItem.TheVariants.{Of}
use Rattle.catalog.specs.Database.{Name, Object, ATable, TableColumn}

-- ---- expressions

abbrev pub null : Tree
null = tree.Null

abbrev pub number : ℕ → Tree
number = tree.Integer

abbrev pub text : List ℕ → Tree
text = tree.Text

abbrev pub named : Name → Tree
named = tree.Column None

abbrev pub named_of : Name → Name → Tree
named_of q = tree.Column (Some q)

-- ---- queries

abbrev pub from : Name → Join
from n = record { kind = Comma; source = record { name = n; alias = None }; condition = None }

abbrev pub from_as : Name → Name → Join
from_as n m = record { kind = Comma; source = record { name = n; alias = Some m }; condition = None }

abbrev pub joined : JoinKind → Name → Tree → Join
joined kind n e = record { kind = kind; source = record { name = n; alias = None }; condition = Some e }

abbrev clause : List Join → Option FromClause
clause [] = None
clause (j ∷ js) = Some (record { first = j.source; joins = js })

abbrev pub select : List ResultItem → List Join → Query
select items js = record { is_distinct = false; results = items; from = clause js; condition = None; groups = []; order = []; limit = None }

abbrev pub result : Tree → ResultItem
result e = Of e None

abbrev pub results : List Tree → List ResultItem
results = map result

abbrev pub rising : Tree → OrderTerm
rising e = record { expression = e; is_descending = false }

-- ---- changes

abbrev pub insert_rows : Name → List (List Tree) → Change
insert_rows n rows = change.Insert (record { table = n; columns = None; source = Rows rows })

abbrev pub insert : Name → List Tree → Change
insert n es = insert_rows n (es ∷ [])

abbrev pub insert_answer : Name → Query → Change
insert_answer n q = change.Insert (record { table = n; columns = None; source = source.Query q })

abbrev pub update : Name → List Assignment → Change
update n sets = change.Update (record { table = n; assignments = sets; condition = None })

abbrev pub set : Name → Tree → Assignment
set n e = record { column = n; value = e }

abbrev pub delete : Name → Option Tree → Change
delete n w = change.Delete (record { table = n; condition = w })

-- ---- tables

abbrev pub column_with : Name → List Name → List ColumnRule → ColumnDefinition
column_with n words rules = record { name = n; declared = record { words = words; is_sized = false }; rules = rules }

abbrev pub table_with : Name → List ColumnDefinition → List TableRule → TableDefinition
table_with n cs rs = record { name = n; columns = cs; rules = rs }

-- a column without a type
abbrev pub col : Name → TableColumn
col n = record { name = n; affinity = kind.Blob; collation = Binary; is_filled = false; default = value.Null }

abbrev pub table : List TableColumn → List (ℤ × List Value) → Object
table cs rows = ATable (record { columns = cs; rowid_column = None; checks = []; rows = rows })

abbrev pub numbered : ℕ → List (List Value) → List (ℤ × List Value)
numbered n [] = []
numbered n (r ∷ rs) = (pos n, r) ∷ numbered (suc n) rs

abbrev pub int : ℕ → Value
int n = value.Int (pos n)
