-- A row that is added to the schema table.
use Rattle.std.proofs.Common.{◌≡◌, ◌⊎◌, refl, sym, subst, ℕ, Bool, true, false, List, None, Result, Ok, Err}
use Rattle.std.specs.Prelude.{IsErrAnd, MatchResult}
use Rattle.sqlval.specs.declared.fault.Fault.{Fault}
use Rattle.sqlval.specs.declared.value.Value.{Value}
use Rattle.record.specs.Record.{IsRecord}
use Rattle.tree_leaf.specs.Leaf.{Entry}
use Rattle.pages.specs.Calls.{IsOutsideOrFull}
use Rattle.pages.specs.Map.{PageMap}
use Rattle.tree_table.specs.Calls.{IsInserted}
use Rattle.tree_table.specs.Rows.{payload_at}
use Rattle.executor.specs.Listing.{AreTooLong, IsAdded}

abbrev Refusal : Fault → List Value → Type 0
Refusal f values = IsOutsideOrFull f ⊎ AreTooLong values f

-- a refusal that is passed on
pub passed : {X : Type 0} (P : X → Type 0) (r : Result X Fault) (f : Fault) (values : List Value) → IsErrAnd r (λ e. e ≡ f) → Refusal f values → MatchResult r P (λ f. Refusal f values)
passed P (Ok x) f values is why = absurd is
passed P (Err e) f values is why = subst (λ x. Refusal x values) (sym is) why

module _ (old new : PageMap) (size : ℕ) (values : List Value) (rows : List Entry) (used free : List ℕ) (row : Entry) (none : payload_at row.rowid rows ≡ None) where
  -- it can't be there
  pub not_there : IsInserted old new size 1 row rows used free false → ⊥
  not_there there = there.0 none

  pub added : IsRecord row.payload values → IsInserted old new size 1 row rows used free true → IsAdded old new size values rows used free row.rowid
  added is_record put = record { entry = row; rowid_is = refl; is = is_record; becomes = put.1 }

  pub by_flag : (b flag : Bool) → b ≡ flag → IsInserted old new size 1 row rows used free b → IsInserted old new size 1 row rows used free flag
  by_flag b flag e put = subst (IsInserted old new size 1 row rows used free) e put
