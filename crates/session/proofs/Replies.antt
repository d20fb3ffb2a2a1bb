-- The replies to a list of statements where nothing fails, for worked examples.
use Rattle.std.specs.Prelude.{ℕ, List, [], ◌∷◌}
use Rattle.sql_syntax.specs.Tree.{Tree}
use Rattle.sql_syntax.specs.declared.create.ColumnDefinition.{ColumnDefinition}
use Rattle.sql_syntax.specs.declared.create.NewObject.{NewObject}
use Rattle.sql_syntax.specs.declared.create.NewObject.TheVariants as new
use Rattle.sql_syntax.specs.declared.statement.BeginMode.TheVariants as begins
use Rattle.sql_syntax.specs.declared.statement.Statement.{Statement}
use Rattle.sql_syntax.specs.declared.statement.Statement.TheVariants as statement
use Rattle.catalog.specs.Database.{Name}
use Rattle.query_names.proofs.Written.{from, select, results, insert, table_with}
use Rattle.session.specs.Machine.{Machine, Reply, Rows, Refused}
use Rattle.session.specs.Outcomes.{Outcome, Gives, RefusedBy, Commits, Bound, answered, left_by, outcome}
use Rattle.session.specs.Steps.{after_commit}

-- the machine after an outcome, where the triggers' programs are bound without refusal
abbrev pub after : Machine → ℕ → Outcome → Machine
after m c (Gives rows new) = new
after m c (RefusedBy (r ∷ rs)) = left_by m c r
after m c (Commits alone db) = after_commit m c db
after m c (Bound db change o) = after m c o
after m c _ = m

abbrev pub reply : Outcome → Reply
reply (Gives rows new) = Rows rows
reply (RefusedBy []) = Rows []
reply (RefusedBy (r ∷ rs)) = Refused (answered r)
reply (Bound db change o) = reply o
reply _ = Rows []

abbrev pub replies : Machine → List (ℕ × Statement) → List Reply
replies m [] = []
replies m (s ∷ ss) = let o = outcome m s.0 s.1 in reply o ∷ replies (after m s.0 o) ss

abbrev pub ok : Reply
ok = Rows []

-- ---- short forms of statements

abbrev pub creating : NewObject → Statement
creating object = statement.Create (record { sql = []; object = object })

abbrev pub create_table : Name → List ColumnDefinition → Statement
create_table n cs = creating (new.Table (table_with n cs []))

abbrev pub inserting : Name → List Tree → Statement
inserting n es = statement.Change (insert n es)

abbrev pub selecting : List Tree → Name → Statement
selecting es n = statement.Select (select (results es) (from n ∷ []))

abbrev pub begin : Statement
begin = statement.Begin begins.Deferred
