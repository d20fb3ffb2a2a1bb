-- What statements come to on a database: a query's rows, and what a change makes of it (SQL As Understood By SQLite, "SELECT",
-- "CREATE TABLE", "INSERT").
use Rattle.std.specs.Prelude.{◌≡◌, ◌⊎◌, ℕ, Bool, false, Option, Some, List, [], ◌∷◌, Ok, Err, Contains, if◌then◌else◌}
use Rattle.sqlval.specs.Refusals.{Answer, Refusal, Unique}
use Rattle.sqlval.specs.declared.value.Value.{Value}
use Rattle.sql_syntax.specs.declared.change.Change.{Change}
use Rattle.sql_syntax.specs.declared.change.InsertSource.{InsertSource}
use Rattle.sql_syntax.specs.declared.create.NewObject.{NewObject}
use Rattle.sql_syntax.specs.declared.create.NewObject.TheVariants as new
use Rattle.sql_syntax.specs.declared.query.Query.{Query}
use Rattle.sql_syntax.specs.declared.statement.Statement.{Statement}
use Rattle.sql_syntax.specs.declared.statement.Statement.TheVariants as statement
use Rattle.catalog.specs.Database.{AnIndex, ATable, Database, Index, Name, Object, object}
use Rattle.query_names.specs.Checked.{Checked, Meant, known_map}
use Rattle.query_names.specs.Queries.{resolve_query}
use Rattle.query_names.specs.Keys.{has_clash}
use Rattle.query_names.specs.Schema.{create, create_index, drop_object}
use Rattle.query_names.specs.Views.{look_up, answer_of}
use Rattle.row_change.specs.Changes.{no_outer, resolve_given}
use Rattle.trigger.specs.Binding.{IsFault}
use Rattle.trigger.specs.Effects.{change, given_rows}

-- ---- queries

-- a query's rows on a database
abbrev pub read_on : Database → Query → Checked (Answer (List (List Value)))
read_on db q = known_map (answer_of db []) (resolve_query (look_up db) [] q)

-- the rows that an INSERT gives on a database, where each has so many values
abbrev pub given_on : Database → ℕ → InsertSource → Checked (Answer (List (List Value)))
given_on db n source = known_map (given_rows db no_outer) (resolve_given db no_outer (Some n) source)

-- ---- changes

-- what a statement that may write comes to on a database
pub data Work : Type 0 where
  Makes : Database → Work
  IsRefused : List Refusal → Work
  -- this, where binding isn't refused
  Binds : Database → Change → Work → Work

abbrev pub of_answer : Answer Database → Work
of_answer (Ok db) = Makes db
of_answer (Err r) = IsRefused (r ∷ [])

abbrev pub of_known : Checked Database → Work
of_known (Meant db []) = Makes db
of_known (Meant db (r ∷ rs)) = IsRefused (r ∷ rs)

abbrev pub clashes_on : Index → Option Object → Bool
clashes_on i (Some (ATable t)) = has_clash i t.rows
clashes_on i _ = false

abbrev pub clashes_in : Database → Option Object → Bool
clashes_in db (Some (AnIndex i)) = clashes_on i (object db i.table)
clashes_in db _ = false

-- two rows of the table of a UNIQUE index have one key
abbrev pub index_clashes : Database → Name → Bool
index_clashes db n = clashes_in db (object db n)

-- a UNIQUE index over rows with one key is refused once its names are known
abbrev pub made_index : Name → Work → Work
made_index n (Makes db) = if index_clashes db n then IsRefused (Unique ∷ []) else Makes db
made_index n w = w

-- what CREATE comes to on a database
abbrev pub created : NewObject → Database → Work
created (new.Index d) db = made_index d.name (of_known (create_index db d))
created o db = of_known (create db o)

-- what a statement does to a database
pub data Sort : Type 0 where
  Querying : Query → Sort
  Writing : (Database → Work) → Sort
  Controlling : Sort

-- what a statement is for a transaction
abbrev pub sort : Statement → Sort
sort (statement.Select q) = Querying q
sort (statement.Create c) = Writing (created c.object)
sort (statement.Drop k n) = Writing (λ db. of_known (drop_object db k n))
sort (statement.Change c) = Writing (λ db. Binds db c (of_answer (change db c)))
sort _ = Controlling

abbrev work_by : Sort → Database → Work
work_by (Writing work) db = work db
work_by _ db = IsRefused []

-- what a statement that may write comes to on a database
abbrev pub change_made : Statement → Database → Work
change_made s db = work_by (sort s) db

-- its change isn't refused when it is bound, and it makes this database
abbrev pub Reaches : Work → Database → Type 0
Reaches (Makes db) made = db ≡ made
Reaches (Binds over change work) made = ((r : Refusal) → IsFault over change r → ⊥) × Reaches work made
Reaches _ made = ⊥

-- it is refused so, when its change is bound or after that
abbrev pub RefusesWith : Work → Refusal → Type 0
RefusesWith (IsRefused rs) r = Contains rs r
RefusesWith (Binds over change work) r = IsFault over change r ⊎ ((s : Refusal) → IsFault over change s → ⊥) × RefusesWith work r
RefusesWith _ r = ⊥
