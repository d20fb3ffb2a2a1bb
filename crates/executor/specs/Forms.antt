-- What the forms of statements are: which answer rows, which write, and what a CREATE keeps.
use Rattle.std.specs.Prelude.{⊤, Bool, true, false}
use Rattle.sql_syntax.specs.declared.statement.Statement.{Statement}
use Rattle.sql_syntax.specs.declared.statement.Statement.TheVariants as statement
use Rattle.db_pages.specs.Schema.{IsCreateOf}

-- it answers rows
abbrev pub answers_rows : Statement → Bool
answers_rows (statement.Select q) = true
answers_rows (statement.Checkpoint mode) = true
answers_rows _ = false

-- it makes or drops an object, or inserts, deletes or updates rows
abbrev pub is_write : Statement → Bool
is_write (statement.Create c) = true
is_write (statement.Drop kind name) = true
is_write (statement.Change c) = true
is_write _ = false

-- the text that a CREATE keeps is one of what it makes
abbrev pub KeepsItsText : Statement → Type 0
KeepsItsText (statement.Create c) = IsCreateOf c.sql c.object
KeepsItsText _ = ⊤

-- of a statement that keeps its text
abbrev pub WhereKept : Statement → Type 0 → Type 0
WhereKept s Holds = KeepsItsText s → Holds
