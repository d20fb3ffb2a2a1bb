-- The statements that change a database (SQL As Understood By SQLite, "INSERT", "DELETE", "UPDATE", "CREATE TABLE", "CREATE INDEX", "CREATE VIEW", "CREATE TRIGGER", "DROP TABLE").
use Rattle.std.specs.Prelude.{Bool, true, false, Option, Some, None}
use Rattle.sql_syntax.specs.declared.create.NewObject.TheVariants as new
use Rattle.sql_syntax.specs.declared.statement.Statement.{Statement}
use Rattle.sql_syntax.specs.declared.statement.Statement.TheVariants as statement
use Rattle.catalog.specs.Listed.{Listed, listed_in}
use Rattle.catalog.specs.declared.tables.Catalog.{Catalog}
use Rattle.executor_programs.specs.declared.changes.Write.{Write}
use Rattle.executor_programs.specs.declared.changes.Write.TheVariants as write

-- the statement that a change is
abbrev pub written : Write → Statement
written (write.Change c) = statement.Change c.now
written (write.Drop kind name) = statement.Drop kind name.now
written (write.CreateTable sql d) = statement.Create (record { sql = sql.now; object = new.Table d.now })
written (write.CreateIndex sql d) = statement.Create (record { sql = sql.now; object = new.Index d.now })
written (write.CreateView sql d) = statement.Create (record { sql = sql.now; object = new.View d.now })
written (write.CreateTrigger sql d) = statement.Create (record { sql = sql.now; object = new.Trigger d.now })

-- it creates or drops an object, so that other objects are listed then
abbrev pub changes_objects : Write → Bool
changes_objects (write.Drop kind name) = true
changes_objects (write.CreateTable sql d) = true
changes_objects (write.CreateIndex sql d) = true
changes_objects (write.CreateView sql d) = true
changes_objects (write.CreateTrigger sql d) = true
changes_objects _ = false

-- what is listed then: in a catalog that was answered, or as before
abbrev pub listed_then : Listed → Option Catalog → Listed
listed_then before None = before
listed_then before (Some catalog) = listed_in catalog
