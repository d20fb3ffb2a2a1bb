-- What triggers are on: it is the same where the same is listed in another order.
use Rattle.std.proofs.Common.{◌≡◌, ◌∙◌, ◌≤◌, ◌<◌, ◌-◌, refl, sym, ap, subst, true, ℕ, ℤ, List, [], ◌∷◌, length, map, take, drop, slice_index_or, arith}
use Rattle.std.specs.Prelude.{⊤, IsErrAnd, IfErr, Result, Ok, Err}
use Rattle.std.specs.declared.rc.Rc.{Rc}
use Rattle.std.specs.declared.alloc.Global.{Global}
use Rattle.std.specs.List.{AllByRecursion}
use Rattle.sqlval.specs.declared.fault.Fault.{Fault}
use Rattle.sqlval.specs.declared.fault.Fault.TheVariants.{Memory}
use Rattle.sqlval.specs.declared.value.Value.{Value}
use Rattle.tree_leaf.specs.Leaf.{Entry}
use Rattle.sql_syntax.specs.declared.create.TriggerDefinition.{TriggerDefinition}
use Rattle.catalog.specs.Database.{Database, Name, Object}
use Rattle.catalog.specs.Listed.{Listed, Lists, are_named_once, objects_of, shared}
use Rattle.catalog.specs.declared.tables.Index.{Index}
use Rattle.catalog.specs.declared.tables.Trigger.{Trigger}
use Rattle.query_names.specs.Bound.{AreOnce}
use Rattle.query_bind.specs.Triggers.{FitsTarget, KnowsTriggers, trigger_listed}
use Rattle.db_pages.specs.Reordering.{AreReordered}
use Rattle.db_pages.specs.Schema.{AreRowsOf, IndexTold, TableTold, Told, TriggerTold, ViewTold, all_told}
use Rattle.db_pages.proofs.NamedObjects.{built, built_finds, named_reordered, objects_apart}
use Rattle.db_pages.proofs.Reordering.{all_reordered, is_reordered, reordered_is, reordered_map, reordered_refl, reordered_sym, reordered_trans}
use Rattle.db_pages.proofs.ToldObjects.{all_second, told_objects, told_pair}
use Rattle.db_pages.proofs.ToldTables.{OfTable, each_of, told_each}
use Rattle.db_load.specs.Reading.{AreAlike, AreOnTargets, bare_told, parts_of}
use Rattle.db_load.proofs.RowsFound.{rows_columns}
use Rattle.db_load.proofs.RowPasses.{own_columns}
use Rattle.db_load.proofs.ToldParts.{HasOwnColumns, columns_bare, columns_once, parts_are, table_parts, treeless_told}
use Rattle.tree_check.proofs.TailChains.{all_taken}

-- ---- one after another

-- what is left decides
pub record LeftDecides (P : Trigger → Type 0) (left all : List Trigger) : Type 0 where
  pub found : AllByRecursion P left → AllByRecursion P all
  pub only : AllByRecursion P all → AllByRecursion P left

pub all_left : (P : Trigger → Type 0) (left all : List Trigger) → left ≡ all → LeftDecides P left all
all_left P left all same = record { found = subst (AllByRecursion P) same; only = subst (AllByRecursion P) (sym same) }

module _ (P : Trigger → Type 0) (all : List Trigger) where
  -- the first of those that are left
  pub first_is : (rest : List (Rc Trigger Global)) (handle : Rc Trigger Global) (g : Trigger) → 1 ≤ length rest → handle ≡ slice_index_or rest 0 handle → g ≡ handle.value
      → LeftDecides P (shared rest) all → AllByRecursion P all → P g
  first_is [] handle g some at is decides each = absurd (omega (arith, some))
  first_is (u ∷ rest) handle g some at is decides each = subst P (sym (is ∙ ap (λ (x : Rc Trigger Global). x.value) at)) (decides.only each).0

  -- and then those behind it
  pub first_goes : (rest : List (Rc Trigger Global)) (handle : Rc Trigger Global) (g : Trigger) → 1 ≤ length rest → handle ≡ slice_index_or rest 0 handle → g ≡ handle.value
      → LeftDecides P (shared rest) all → P g → LeftDecides P (shared (take (length rest - 1) (drop 1 rest))) all
  first_goes [] handle g some at is decides fits = absurd (omega (arith, some))
  first_goes (u ∷ rest) handle g some at is decides fits =
      subst (λ (them : List (Rc Trigger Global)). LeftDecides P (shared them) all) (sym (all_taken rest))
      (record { found = λ each. decides.found (here, each); only = λ each. (decides.only each).1 })
    where
      here : P u.value
      here = subst P (is ∙ ap (λ (x : Rc Trigger Global). x.value) at) fits

  -- at the end none is left
  pub none_left : (rest : List (Rc Trigger Global)) → length rest < 1 → LeftDecides P (shared rest) all → AllByRecursion P all
  none_left [] none decides = decides.found tt
  none_left (u ∷ rest) none decides = absurd (omega (arith, none))

pub refused_so : {X : Type 0} (r : Result X Fault) (f : Fault) → IsErrAnd r (λ e. e ≡ f) → f ≡ Memory → IfErr r (λ e. e ≡ Memory)
refused_so (Ok x) f is why = tt
refused_so (Err e) f is why = is ∙ why

-- ---- in another order

-- no rows under any root
abbrev no_rows : ℕ → List (ℤ × List Value)
no_rows root = []

-- what is told is the same object without the other indexes of its table
bare_pair : (x : Told) → told_pair no_rows (bare_told x) ≡ told_pair no_rows x
bare_pair (TableTold t) = refl
bare_pair (IndexTold t i) = refl
bare_pair (ViewTold v) = refl
bare_pair (TriggerTold g) = refl

bare_pairs : (xs : List Told) → map (told_pair no_rows) (map bare_told xs) ≡ map (told_pair no_rows) xs
bare_pairs [] = refl
bare_pairs (x ∷ xs) = ap (λ (o : Name × Object). o ∷ map (told_pair no_rows) (map bare_told xs)) (bare_pair x) ∙ ap (λ (os : List (Name × Object)). told_pair no_rows x ∷ os) (bare_pairs xs)

module _ (knows : KnowsTriggers) (l other : Listed) (once : are_named_once l ≡ true) (alike : AreAlike l other) where
  -- the objects of the one are those of the other
  objects_alike : AreReordered (objects_of no_rows l) (objects_of no_rows other)
  objects_alike =
      reordered_trans (objects_of no_rows l) (map (told_pair no_rows) (all_told l)) (objects_of no_rows other)
      (reordered_sym (map (told_pair no_rows) (all_told l)) (objects_of no_rows l) (told_objects no_rows l))
      (reordered_trans (map (told_pair no_rows) (all_told l)) (map (told_pair no_rows) (all_told other)) (objects_of no_rows other)
      (is_reordered (map (told_pair no_rows) (parts_of l)) (map (told_pair no_rows) (all_told l)) (map (told_pair no_rows) (all_told other)) (bare_pairs (all_told l))
      (reordered_is (map (told_pair no_rows) (parts_of l)) (map (told_pair no_rows) (parts_of other)) (map (told_pair no_rows) (all_told other)) (bare_pairs (all_told other))
      (reordered_map (told_pair no_rows) (parts_of l) (parts_of other) alike)))
      (told_objects no_rows other))

  -- their database
  abbrev both : Database
  both = built (objects_of no_rows l)

  lists_one : Lists no_rows l both
  lists_one name = built_finds (objects_of no_rows l) name

  lists_other : Lists no_rows other both
  lists_other name = lists_one name ∙ named_reordered name (objects_of no_rows l) (objects_of no_rows other) (objects_apart no_rows l once) objects_alike

  same_target : (d : TriggerDefinition) → trigger_listed other d ≡ trigger_listed l d
  same_target d = sym (knows no_rows other both d lists_other) ∙ knows no_rows l both d lists_one

  -- a trigger, that it fits what it is on
  abbrev Fits : Told → Type 0
  Fits (TableTold t) = ⊤
  Fits (IndexTold t i) = ⊤
  Fits (ViewTold v) = ⊤
  Fits (TriggerTold g) = FitsTarget l g.definition

  fits_bare : (xs : List Told) → AllByRecursion Fits xs → AllByRecursion Fits (map bare_told xs)
  fits_bare [] all = tt
  fits_bare (TableTold t ∷ xs) all = (tt, fits_bare xs all.1)
  fits_bare (IndexTold t i ∷ xs) all = (tt, fits_bare xs all.1)
  fits_bare (ViewTold v ∷ xs) all = (tt, fits_bare xs all.1)
  fits_bare (TriggerTold g ∷ xs) all = (all.0, fits_bare xs all.1)

  each_fits : AreOnTargets l → AllByRecursion Fits (all_told l)
  each_fits fit =
      told_each Fits l (all_told l) (reordered_refl (all_told l))
      (each_of (OfTable Fits) (λ t. (tt, each_of (λ (i : Index). Fits (IndexTold t i)) (λ i. tt) t.indexes)) l.tables) (λ v. tt) fit

  on_each : (gs : List Trigger) → AllByRecursion Fits (map TriggerTold gs) → AllByRecursion (λ g. FitsTarget other g.definition) gs
  on_each [] fit = tt
  on_each (g ∷ gs) fit = (same_target g.definition ∙ fit.0, on_each gs fit.1)

  -- the triggers of the one fit what those of the other fit
  pub alike_targets : AreOnTargets l → AreOnTargets other
  alike_targets fit =
      on_each other.triggers (all_second Fits (map ViewTold other.views) (map TriggerTold other.triggers)
      (all_second Fits (table_parts other.tables) (treeless_told other)
      (subst (AllByRecursion Fits) (parts_are other) (all_reordered Fits (parts_of l) (parts_of other) alike (fits_bare (all_told l) (each_fits fit))))))

-- and no two columns of a table have one name
pub alike_once : (pages : ℕ) (l other : Listed) (rows : List Entry) → AreRowsOf pages l rows → AreAlike l other → AreOnce other.tables
alike_once pages l other rows tell alike =
    columns_once other (all_reordered HasOwnColumns (parts_of l) (parts_of other) alike (columns_bare (all_told l) (own_columns l (rows_columns pages l rows tell))))
