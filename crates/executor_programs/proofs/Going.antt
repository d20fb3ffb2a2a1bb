-- What becomes of the statements, triggers and rows that a loop still has before it.
use Rattle.std.proofs.Common.{◌≡◌, refl, ℕ, List, [], ◌∷◌, Option, Some, None, Ok, Err}
use Rattle.std.specs.Prelude.{Result, ⊤}
use Rattle.std.specs.List.{AllByRecursion}
use Rattle.std.specs.declared.alloc.Global.{Global}
use Rattle.std.specs.declared.rc.Rc.{Rc}
use Rattle.sqlval.specs.Refusals.{Answer, fold_answer}
use Rattle.sqlval.specs.declared.fault.Fault.{Fault}
use Rattle.sql_syntax.specs.declared.change.Change.{Change}
use Rattle.sql_syntax.specs.declared.create.TriggerStatement.{TriggerStatement}
use Rattle.pages.specs.Map.{PageMap}
use Rattle.catalog.specs.Database.{Database, Name}
use Rattle.catalog.specs.Listed.{Listed, shared}
use Rattle.catalog.specs.declared.tables.Table.{Table}
use Rattle.catalog.specs.declared.tables.TableRow.{TableRow}
use Rattle.catalog.specs.declared.tables.Trigger.{Trigger}
use Rattle.row_change.specs.Changes.{Outer}
use Rattle.trigger.specs.Binding.{aim_of}
use Rattle.trigger.specs.Effects.{programs, run_statement}
use Rattle.trigger.specs.Triggers.{fired, run_trigger}
use Rattle.trigger_bind.specs.Choosing.{named_definition}
use Rattle.trigger_bind.specs.Knowing.{KnowsProgram, KnowsStatement}
use Rattle.executor_programs.specs.Acts.{IsItemOf, IsSeenOf, IsTableAct, IsViewAct}
use Rattle.executor_programs.specs.Begun.{IsRowOnPages}
use Rattle.executor_programs.specs.Outer.{Shows}
use Rattle.executor_programs.specs.Rows.{IsInTable, columns_listed_of, row_changed, seen_changed}
use Rattle.executor_programs.specs.Running.{KnowsBody, KnowsEach, KnowsRows, OnEach, Runs, definitions}
use Rattle.executor_programs.specs.declared.acts.Act.{Act}
use Rattle.executor_programs.specs.declared.acts.TableItem.{TableItem}
use Rattle.executor_programs.specs.declared.acts.ViewItem.{ViewItem}
use Rattle.executor_programs.specs.declared.outer.OuterRows.{OuterRows}
use Rattle.executor_programs.proofs.Folding.{runs_stop, runs_then}

-- the first of what holds of each, on each database, and the others
first_each : {A : Type 0} (P : Database → A → Type 0) (l : Listed) (x : A) (xs : List A) → OnEach l (λ db. AllByRecursion (P db) (x ∷ xs)) → OnEach l (λ db. AllByRecursion (P db) (x ∷ []))
first_each P l x xs each rows_at db is = ((each rows_at db is).0, tt)

rest_each : {A : Type 0} (P : Database → A → Type 0) (l : Listed) (x : A) (xs : List A) → OnEach l (λ db. AllByRecursion (P db) (x ∷ xs)) → OnEach l (λ db. AllByRecursion (P db) xs)
rest_each P l x xs each rows_at db is = (each rows_at db is).1

-- where no row is known
pub none_there : (db : Database) (name : Name) → IsInTable db name None
none_there db name t r at some = absurd (none r some)
  where
    none : (r : TableRow) → (let l : Option TableRow = None in l) ≡ Some r → ⊥
    none r e = absurd cc

-- one after another
module _ {A : Type 0} (size : ℕ) (l : Listed) (effect : Database → A → Answer Database) where
  pub none_run : (now : PageMap) → Runs now now size l (λ db. fold_answer effect db []) (Ok tt)
  none_run now db held = record { made = db; is = refl; stored = held }

  more_run : (old mid new : PageMap) (x : A) (xs : List A) (result : Result ⊤ Fault) → Runs old mid size l (λ db. effect db x) (Ok tt) → Runs mid new size l (λ db. fold_answer effect db xs) result
      → Runs old new size l (λ db. fold_answer effect db (x ∷ xs)) result
  more_run old mid new x xs result one rest = runs_then old mid new size l (λ db. effect db x) (λ db. fold_answer effect db xs) result one rest

  stop_run : (old mid new : PageMap) (x : A) (xs : List A) (f : Fault) → Runs old mid size l (λ db. effect db x) (Err f) → Runs old new size l (λ db. fold_answer effect db (x ∷ xs)) (Err f)
  stop_run old mid new x xs f one = runs_stop old mid new size l (λ db. effect db x) (λ db. fold_answer effect db xs) f one

module _ (room : ℕ) (l : Listed) (names : List Name) (o : OuterRows) where
  -- ---- statements

  abbrev pub BodyRuns : PageMap → PageMap → ℕ → List TriggerStatement → Result ⊤ Fault → Type 0
  BodyRuns old new size left result = (seen : Outer) → Shows o seen → KnowsBody l seen left
      → Runs old new size l (λ db. fold_answer (run_statement (programs room) names seen) db left) result

  abbrev pub StatementRuns : PageMap → PageMap → ℕ → TriggerStatement → Result ⊤ Fault → Type 0
  StatementRuns old new size s result = (seen : Outer) → Shows o seen → KnowsBody l seen (s ∷ [])
      → Runs old new size l (λ db. run_statement (programs room) names seen db s) result

  -- ---- triggers

  abbrev pub Fires : PageMap → PageMap → ℕ → List (Rc Trigger Global) → Result ⊤ Fault → Type 0
  Fires old new size left result = (seen : Outer) → Shows o seen → KnowsEach l seen (shared left)
      → Runs old new size l (λ db. fold_answer (run_trigger (programs room) names seen) db (definitions left)) result

  abbrev pub FiresOne : PageMap → PageMap → ℕ → Trigger → Result ⊤ Fault → Type 0
  FiresOne old new size t result = (seen : Outer) → Shows o seen → KnowsEach l seen (t ∷ [])
      → Runs old new size l (λ db. run_trigger (programs room) names seen db (named_definition t)) result

  -- ---- rows of a table

  -- what is known of the first, and the rows
  abbrev pub RowsChange : Table → Act → PageMap → PageMap → ℕ → Option TableRow × List TableItem → Result ⊤ Fault → Type 0
  RowsChange table act old new size left result = (seen : Outer) (c : Change) → Shows o seen → IsTableAct l c table act → AllByRecursion (IsItemOf c table act) left.1 → KnowsRows l c
      → IsRowOnPages old size l (aim_of c).target left.0
      → Runs old new size l (λ db. fold_answer (λ db i. row_changed (fired (programs room) names) seen c act i db) db left.1) result

  abbrev pub RowChanges : Table → Act → PageMap → PageMap → ℕ → Option TableRow → TableItem → Result ⊤ Fault → Type 0
  RowChanges table act old new size known i result = (seen : Outer) (c : Change) → Shows o seen → IsTableAct l c table act → IsItemOf c table act i → KnowsRows l c
      → IsRowOnPages old size l (aim_of c).target known
      → Runs old new size l (λ db. row_changed (fired (programs room) names) seen c act i db) result

  -- ---- rows of a view

  abbrev pub SeenChange : ℕ → Act → PageMap → PageMap → ℕ → List ViewItem → Result ⊤ Fault → Type 0
  SeenChange width act old new size left result = (seen : Outer) (c : Change) → Shows o seen → IsViewAct l c width act → AllByRecursion (IsSeenOf c) left → KnowsRows l c
      → Runs old new size l (λ db. fold_answer (λ db i. seen_changed (fired (programs room) names) seen c (columns_listed_of l (aim_of c).target) act i db) db left) result

  abbrev pub OneSeenChanges : ℕ → Act → PageMap → PageMap → ℕ → ViewItem → Result ⊤ Fault → Type 0
  OneSeenChanges width act old new size i result = (seen : Outer) (c : Change) → Shows o seen → IsViewAct l c width act → IsSeenOf c i → KnowsRows l c
      → Runs old new size l (λ db. seen_changed (fired (programs room) names) seen c (columns_listed_of l (aim_of c).target) act i db) result

  module _ (old mid new : PageMap) (size : ℕ) where
    pub body_goes : (s : TriggerStatement) (rest : List TriggerStatement) (result : Result ⊤ Fault) → StatementRuns old mid size s (Ok tt) → BodyRuns mid new size rest result → BodyRuns old new size (s ∷ rest) result
    body_goes s rest result one others seen shows knows =
        more_run size l (run_statement (programs room) names seen) old mid new s rest result (one seen shows (first_each (λ db. KnowsStatement db seen) l s rest knows))
        (others seen shows (rest_each (λ db. KnowsStatement db seen) l s rest knows))

    pub body_stops : (s : TriggerStatement) (rest : List TriggerStatement) (f : Fault) → StatementRuns old mid size s (Err f) → BodyRuns old new size (s ∷ rest) (Err f)
    body_stops s rest f one seen shows knows =
        stop_run size l (run_statement (programs room) names seen) old mid new s rest f (one seen shows (first_each (λ db. KnowsStatement db seen) l s rest knows))

    pub fires_on : (t : Rc Trigger Global) (rest : List (Rc Trigger Global)) (result : Result ⊤ Fault) → FiresOne old mid size t.value (Ok tt) → Fires mid new size rest result → Fires old new size (t ∷ rest) result
    fires_on t rest result one others seen shows knows =
        more_run size l (run_trigger (programs room) names seen) old mid new (named_definition t.value) (definitions rest) result
        (one seen shows (first_each (λ db u. KnowsProgram db seen u.definition) l t.value (shared rest) knows))
        (others seen shows (rest_each (λ db u. KnowsProgram db seen u.definition) l t.value (shared rest) knows))

    pub fires_stop : (t : Rc Trigger Global) (rest : List (Rc Trigger Global)) (f : Fault) → FiresOne old mid size t.value (Err f) → Fires old new size (t ∷ rest) (Err f)
    fires_stop t rest f one seen shows knows =
        stop_run size l (run_trigger (programs room) names seen) old mid new (named_definition t.value) (definitions rest) f
        (one seen shows (first_each (λ db u. KnowsProgram db seen u.definition) l t.value (shared rest) knows))

    pub rows_go : (table : Table) (act : Act) (known : Option TableRow) (i : TableItem) (rest : List TableItem) (result : Result ⊤ Fault) → RowChanges table act old mid size known i (Ok tt) → RowsChange table act mid new size (None, rest) result
        → RowsChange table act old new size (known, i ∷ rest) result
    rows_go table act known i rest result one others seen c shows is each knows there =
        more_run size l (λ db j. row_changed (fired (programs room) names) seen c act j db) old mid new i rest result (one seen c shows is each.0 knows there)
        (others seen c shows is each.1 knows (λ db held. none_there db (aim_of c).target))

    pub rows_stop : (table : Table) (act : Act) (known : Option TableRow) (i : TableItem) (rest : List TableItem) (f : Fault) → RowChanges table act old mid size known i (Err f) → RowsChange table act old new size (known, i ∷ rest) (Err f)
    rows_stop table act known i rest f one seen c shows is each knows there =
        stop_run size l (λ db j. row_changed (fired (programs room) names) seen c act j db) old mid new i rest f (one seen c shows is each.0 knows there)

    pub seen_go : (width : ℕ) (act : Act) (i : ViewItem) (rest : List ViewItem) (result : Result ⊤ Fault) → OneSeenChanges width act old mid size i (Ok tt) → SeenChange width act mid new size rest result
        → SeenChange width act old new size (i ∷ rest) result
    seen_go width act i rest result one others seen c shows is each knows =
        more_run size l (λ db j. seen_changed (fired (programs room) names) seen c (columns_listed_of l (aim_of c).target) act j db) old mid new i rest result
        (one seen c shows is each.0 knows) (others seen c shows is each.1 knows)

    pub seen_stop : (width : ℕ) (act : Act) (i : ViewItem) (rest : List ViewItem) (f : Fault) → OneSeenChanges width act old mid size i (Err f) → SeenChange width act old new size (i ∷ rest) (Err f)
    seen_stop width act i rest f one seen c shows is each knows =
        stop_run size l (λ db j. seen_changed (fired (programs room) names) seen c (columns_listed_of l (aim_of c).target) act j db) old mid new i rest f (one seen c shows is each.0 knows)

  module _ (now : PageMap) (size : ℕ) where
    pub body_done : BodyRuns now now size [] (Ok tt)
    body_done seen shows knows = none_run size l (run_statement (programs room) names seen) now

    pub fires_none : Fires now now size [] (Ok tt)
    fires_none seen shows knows = none_run size l (run_trigger (programs room) names seen) now

    pub rows_done : (table : Table) (act : Act) (known : Option TableRow) → RowsChange table act now now size (known, []) (Ok tt)
    rows_done table act known seen c shows is each knows there = none_run size l (λ db i. row_changed (fired (programs room) names) seen c act i db) now

    pub seen_done : (width : ℕ) (act : Act) → SeenChange width act now now size [] (Ok tt)
    seen_done width act seen c shows is each knows =
        none_run size l (λ db i. seen_changed (fired (programs room) names) seen c (columns_listed_of l (aim_of c).target) act i db) now
