-- Changes that set no trigger off.
use Rattle.std.proofs.Common.{inl, inr, ℕ, Ok, Err}
use Rattle.std.specs.Prelude.{⊤, Result, MatchResult}
use Rattle.sqlval.specs.declared.fault.Fault.{Fault}
use Rattle.sql_syntax.specs.declared.change.Change.{Change}
use Rattle.sql_syntax.specs.declared.statement.Statement.TheVariants as statement
use Rattle.pages.specs.Map.{PageMap}
use Rattle.catalog.specs.Database.{Database}
use Rattle.catalog.specs.Listed.{Listed}
use Rattle.trigger.specs.Laws.{SetsOffNothing}
use Rattle.db_pages.specs.Stored.{Stores}
use Rattle.executor.specs.Changing as quiet
use Rattle.executor.specs.Changing.{IsMade}
use Rattle.executor_programs.specs.Making.{IsRefusedStatement}

module _ (c : Change) (db : Database) where
  refused : (f : Fault) → quiet.IsChangeRefusal (statement.Change c) db f → IsRefusedStatement (statement.Change c) db f
  refused f (inl outside) = inl outside
  refused f (inr (inl why)) = inr (inl why)
  refused f (inr (inr much)) = inr (inr (inl much))

  -- what such a change makes is what a change makes
  pub made_quietly : (old new : PageMap) (size : ℕ) (l : Listed) (result : Result ⊤ Fault) → quiet.MakesQuietly c old new size l result → Stores old size l db → SetsOffNothing db c
      → MatchResult result (λ (done : ⊤). IsMade (statement.Change c) db new size l) (IsRefusedStatement (statement.Change c) db)
  made_quietly old new size l result made held still = by result (made db held still)
    where
      by : (r : Result ⊤ Fault) → MatchResult r (λ (done : ⊤). IsMade (statement.Change c) db new size l) (quiet.IsChangeRefusal (statement.Change c) db)
          → MatchResult r (λ (done : ⊤). IsMade (statement.Change c) db new size l) (IsRefusedStatement (statement.Change c) db)
      by (Ok done) h = h
      by (Err f) h = refused f h
