-- What an engine tells of the schema, without a statement (Database File Format, "Storage Of The SQL Database Schema").
use Rattle.std.specs.Prelude.{◌≡◌, ◌⊎◌, ℕ, List, Option, Result, IsErrAnd, Vec}
use Rattle.std.specs.declared.alloc.Global.{Global}
use Rattle.disk.specs.declared.device.Disk.{Ghosts}
use Rattle.sqlval.specs.declared.fault.Fault.{Fault}
use Rattle.sqlval.specs.declared.fault.Fault.TheVariants.{Unsupported}
use Rattle.sqlval.specs.declared.fault.Feature.TheVariants.{StatementForm}
use Rattle.sql_syntax.specs.declared.query.Query.{Query}
use Rattle.sql_syntax.specs.declared.statement.Statement.{Statement}
use Rattle.sql_syntax.specs.declared.statement.Statement.TheVariants as statement
use Rattle.sql_grammar.specs.Texts.{IsStatementText}
use Rattle.sql_parser.specs.Refusals.{IsTextRefusal}
use Rattle.catalog.specs.Database.{Database, Name}
use Rattle.session.specs.Looking.{Looks, NamesColumnsOf}
use Rattle.engine.specs.declared.opening.Engine.{Engine}

-- the statement is no query
abbrev pub IsNoSelect : Statement → Type 0
IsNoSelect s = (query : Query) → s ≡ statement.Select query → ⊥

-- the text is refused as any statement's is, or it is another statement than a query
abbrev pub IsNoQuery : List ℕ → Fault → Type 0
IsNoQuery text fault = IsTextRefusal text fault ⊎ (fault ≡ Unsupported StatementForm) × ((query : Query) → IsStatementText text (statement.Select query) → ⊥)

module _ {D : Type 0} {g : Ghosts D} where
  -- a connection only looks, and what is told fits the database that it sees
  abbrev pub LooksFrom : (Database → Type 0) → Engine D g → ℕ → Engine D g → Type 0
  LooksFrom Fits old connection new = Looks Fits old.connections connection new.connections

  -- The text is no query, and nothing changes; or it is this one, and its columns are named, or refused as its names are.
  abbrev pub NamesByText : List ℕ → Result (Vec (Option Name) Global) Fault → Engine D g → ℕ → Engine D g → Type 0
  NamesByText text result old connection new =
      IsErrAnd result (IsNoQuery text) × (new ≡ old)
      ⊎ (query : Query) × IsStatementText text (statement.Select query) × LooksFrom (NamesColumnsOf query result) old connection new
