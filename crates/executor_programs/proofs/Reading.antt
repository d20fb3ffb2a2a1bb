-- A statement of a program that reads, and one that changes rows.
use Rattle.std.proofs.Common.{◌≡◌, ◌⊎◌, sym, subst, ℕ, List, [], ◌∷◌, Ok, Err, inl, inr}
use Rattle.std.specs.Prelude.{Result, ⊤}
use Rattle.sqlval.specs.Faults.{IsOutside}
use Rattle.sqlval.specs.Refusals.{Answer, refusal_of}
use Rattle.sqlval.specs.declared.fault.Fault.{Fault}
use Rattle.sql_syntax.specs.declared.change.Change.{Change}
use Rattle.sql_syntax.specs.declared.create.TriggerStatement.{TriggerStatement}
use Rattle.sql_syntax.specs.declared.create.TriggerStatement.TheVariants as program
use Rattle.sql_syntax.specs.declared.query.Query.{Query}
use Rattle.pages.specs.Map.{PageMap}
use Rattle.catalog.specs.Database.{Database, Name}
use Rattle.catalog.specs.Listed.{Listed}
use Rattle.row_scan.specs.Trees.{AnswersOrFails}
use Rattle.row_change.specs.Changes.{Outer}
use Rattle.trigger.specs.Effects.{change_with, programs, run_statement}
use Rattle.trigger.specs.Triggers.{Runner}
use Rattle.trigger_bind.specs.Knowing.{KnowsStatement}
use Rattle.db_pages.specs.Stored.{Stores}
use Rattle.executor_programs.specs.Running.{IsRunRefusal, KnowsNames, KnowsBody, KnowsQuery, ReadsOnly, Runs}
use Rattle.executor_programs.proofs.Folding.{RunsTo}

reads_to : (old new : PageMap) (size : ℕ) (l : Listed) (db : Database) (a : Answer Database) (result : Result ⊤ Fault) → new ≡ old → Stores old size l db → AnswersOrFails (λ done. db) a result → RunsTo new size l a result
reads_to old new size l db a (Ok done) same held is = record { made = db; is = is; stored = subst (λ (m : PageMap). Stores m size l db) (sym same) held }
reads_to old new size l db a (Err f) same held (inl outside) = inl (inl outside)
reads_to old new size l db a (Err f) same held (inr is) = inr (inl is)

module _ (room : ℕ) (l : Listed) (names : List Name) (seen : Outer) (s : TriggerStatement) (old new : PageMap) (size : ℕ) (result : Result ⊤ Fault) where
  pub reads : (q : Query) → s ≡ program.Select q → new ≡ old → (KnowsQuery l seen q → ReadsOnly old size l seen q result) → KnowsBody l seen (s ∷ [])
      → Runs old new size l (λ db. run_statement (programs room) names seen db s) result
  reads q is same read knows db held =
      subst (λ (x : TriggerStatement). RunsTo new size l (run_statement (programs room) names seen db x) result) (sym is)
      (reads_to old new size l db (run_statement (programs room) names seen db (program.Select q)) result same held
      (read (λ rows_at made of. subst (KnowsStatement made seen) is (knows rows_at made of).0) db held))

  pub changes : (c : Change) → s ≡ program.Change c → (KnowsNames l seen c → Runs old new size l (λ db. change_with (programs room) names seen db c) result) → KnowsBody l seen (s ∷ [])
      → Runs old new size l (λ db. run_statement (programs room) names seen db s) result
  changes c is made knows db held =
      subst (λ (x : TriggerStatement). RunsTo new size l (run_statement (programs room) names seen db x) result) (sym is)
      (made (λ rows_at made of. subst (KnowsStatement made seen) is (knows rows_at made of).0) db held)

pub not_begun : (l : Listed) (seen : Outer) (c : Change) (db : Database) (run : Runner) (names : List Name) (f : Fault) → IsOutside f ⊎ ((run : Runner) (names : List Name) → change_with run names seen db c ≡ Err (refusal_of f))
    → IsRunRefusal l (change_with run names seen db c) f
not_begun l seen c db run names f (inl outside) = inl (inl outside)
not_begun l seen c db run names f (inr is) = inr (inl (is run names))
