-- Which statements may find the database full.
use Rattle.std.specs.Prelude.{Bool, true, false}
use Rattle.sql_syntax.specs.declared.statement.Statement.{Statement}
use Rattle.sql_syntax.specs.declared.statement.Statement.TheVariants as statement

-- whether a statement may be refused as `Full`: those that change the database, COMMIT, and RELEASE, which may commit
abbrev pub may_be_full : Statement → Bool
may_be_full (statement.Create c) = true
may_be_full (statement.Drop kind name) = true
may_be_full (statement.Change c) = true
may_be_full statement.Commit = true
may_be_full (statement.Release name) = true
may_be_full _ = false
