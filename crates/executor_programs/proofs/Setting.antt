-- Changes that set triggers off: the names are looked up first, and then the programs run.
use Rattle.std.proofs.Common.{◌≡◌, ◌⊎◌, inl, inr, refl, sym, ap, subst, ◌∙◌, ℕ, Bool, true, false, ◌||◌, List, [], ◌∷◌, ◌++◌, append_assoc, length, Ok, Err, arith}
use Rattle.std.proofs.lemmas.List.{length-map}
use Rattle.std.specs.Prelude.{⊤, Result, IsErrAnd, MatchResult}
use Rattle.std.specs.List.{AllByRecursion, list_any}
use Rattle.sqlval.specs.Refusals.{Answer, Refusal, refusal_of}
use Rattle.sqlval.specs.declared.fault.Fault.{Fault}
use Rattle.sqlval.specs.declared.fault.Fault.TheVariants.{Memory}
use Rattle.sql_syntax.specs.declared.change.Change.{Change}
use Rattle.sql_syntax.specs.declared.statement.Statement.TheVariants as statement
use Rattle.pages.specs.Map.{PageMap}
use Rattle.catalog.specs.Database.{Database, Name}
use Rattle.catalog.specs.Listed.{Listed, as_index}
use Rattle.catalog.specs.Named.{IsOfListed}
use Rattle.catalog.specs.declared.tables.Index.{Index}
use Rattle.catalog.specs.declared.tables.IndexColumn.{IndexColumn}
use Rattle.catalog.specs.declared.tables.Table.{Table}
use Rattle.row_change.specs.Changes.{no_outer}
use Rattle.row_change.specs.RowChanges.{Event, is_quiet}
use Rattle.row_scan.specs.Rows.{TableRow}
use Rattle.trigger.specs.Binding.{IsFault, aim_of}
use Rattle.trigger.specs.Effects.{change}
use Rattle.db_pages.specs.Stored.{Stores}
use Rattle.db_write.specs.Changing.{has_wide_index, is_wide}
use Rattle.executor.specs.Changing.{HasWideIndex, IsIndexIn, IsMade}
use Rattle.executor.specs.Works.{Reaches, RefusesWith, of_answer}
use Rattle.executor.proofs.FoundTables.{indexes_listed}
use Rattle.executor_programs.specs.Making.{IsRefusedStatement}
use Rattle.executor_programs.specs.Outer.{Shows}
use Rattle.executor_programs.specs.Running.{IsRunRefusal, KnowsNames}
use Rattle.executor_programs.specs.declared.outer.OuterRows.{OuterRows}
use Rattle.executor_programs.proofs.Folding.{RunsTo}

-- ---- an index that is too wide

either : (a b : Bool) → (a || b) ≡ true → a ≡ false → b ≡ true
either true b h none = absurd cc
either false b h none = h

-- a table with an index that is too wide is one of a database with such an index
wide_in : (db : Database) (t : Table) → AllByRecursion (IsIndexIn db t) t.indexes → has_wide_index t ≡ true → HasWideIndex db t.name
wide_in db t each wide = by t.indexes each wide
  where
    by : (is : List Index) → AllByRecursion (IsIndexIn db t) is → list_any (λ i. is_wide (length i.columns)) is ≡ true → HasWideIndex db t.name
    by [] each wide = absurd cc
    by (i ∷ is) each wide = by_first (is_wide (length i.columns)) refl (by is each.1)
      where
        by_first : (b : Bool) → is_wide (length i.columns) ≡ b → (list_any (λ j. is_wide (length j.columns)) is ≡ true → HasWideIndex db t.name) → HasWideIndex db t.name
        by_first true first rest = record { name = i.name; index = as_index t i; is = each.0; on = refl; wide = ap is_wide (length-map i.columns (λ (c : IndexColumn). (c.place, c.collation))) ∙ first }
        by_first false first rest = rest (either (is_wide (length i.columns)) (list_any (λ j. is_wide (length j.columns)) is) wide first)

pub record MeetsOne (db : Database) : Type 0 where
  pub table : Name
  pub has : HasWideIndex db table

module _ (rows_at : ℕ → List TableRow) (l : Listed) (db : Database) (is : IsOfListed rows_at l db) where
  among : (front left : List Table) → l.tables ≡ front ++ left → list_any has_wide_index left ≡ true → MeetsOne db
  among front [] parts wide = absurd cc
  among front (t ∷ ts) parts wide = by (has_wide_index t) refl (λ first. among (front ++ t ∷ []) ts (parts ∙ sym (append_assoc front (t ∷ []) ts)) (either (has_wide_index t) (list_any has_wide_index ts) wide first))
    where
      by : (b : Bool) → has_wide_index t ≡ b → (has_wide_index t ≡ false → MeetsOne db) → MeetsOne db
      by true first rest = record { table = t.name; has = wide_in db t (indexes_listed rows_at l db is front t ts parts) first }
      by false first rest = rest first

  -- an index that is listed and too wide is one of the database
  pub meets_one : list_any has_wide_index l.tables ≡ true → MeetsOne db
  meets_one wide = among [] l.tables refl wide

-- ---- what becomes of the pages

abbrev pub as_made : Database → Answer Database
as_made db = Ok db

abbrev pub as_refused : Refusal → Answer Database
as_refused r = Err r

module _ (c : Change) (db : Database) where
  abbrev pub Made : PageMap → ℕ → Listed → Result ⊤ Fault → Type 0
  Made new size l result = MatchResult result (λ (done : ⊤). IsMade (statement.Change c) db new size l) (IsRefusedStatement (statement.Change c) db)

  -- a name that isn't known
  unknown : (f : Fault) → (f ≡ Memory) ⊎ IsFault db c (refusal_of f) → IsRefusedStatement (statement.Change c) db f
  unknown f (inl memory) = inl (inl (inl memory))
  unknown f (inr fault) = inr (inl (inl fault))

  pub isnt_known : (new : PageMap) (size : ℕ) (l : Listed) (result : Result ⊤ Fault) (f : Fault) → IsErrAnd result (λ e. e ≡ f) → (f ≡ Memory) ⊎ IsFault db c (refusal_of f) → Made new size l result
  isnt_known new size l (Ok done) f same why = absurd same
  isnt_known new size l (Err e) f same why = subst (IsRefusedStatement (statement.Change c) db) (sym same) (unknown f why)

  module _ (known : (r : Refusal) → IsFault db c r → ⊥) where
    makes : (a : Answer Database) (made : Database) → a ≡ as_made made → Reaches (of_answer a) made
    makes (Ok d) made is = same_made d made is
      where
        same_made : (x y : Database) → as_made x ≡ as_made y → x ≡ y
        same_made x y e = cc
    makes (Err r) made is = absurd cc

    refuses : (a : Answer Database) (r : Refusal) → a ≡ as_refused r → RefusesWith (of_answer a) r
    refuses (Ok d) r is = absurd cc
    refuses (Err s) r is = (0, omega arith, same_refusal s r is)
      where
        same_refusal : (x y : Refusal) → as_refused x ≡ as_refused y → x ≡ y
        same_refusal x y e = cc

    pub ran : (old new : PageMap) (size : ℕ) (l : Listed) (result : Result ⊤ Fault) → Stores old size l db → is_quiet (aim_of c).event db (aim_of c).target ≡ false → RunsTo new size l (change db c) result
        → Made new size l result
    ran old new size l (Ok done) held sets runs = record { made = runs.made; reaches = (known, makes (change db c) runs.made runs.is); stored = runs.stored }
    ran old new size l (Err f) held sets runs = by runs
      where
        by : IsRunRefusal l (change db c) f → IsRefusedStatement (statement.Change c) db f
        by (inl outside) = inl outside
        by (inr (inl is)) = inr (inl (inr (known, refuses (change db c) (refusal_of f) is)))
        by (inr (inr wide)) =
            let one = meets_one held.rows_at l db held.of_listed wide.1 in
            inr (inr (inr (record { is = wide.0; change = c; change_is = refl; sets_off = sets; name = one.has.name; index = one.has.index; has = one.has.is; wide = one.has.wide })))

-- no program is running
pub shows_none : (o : OuterRows) → o.scope.now ≡ [] → o.rows.now ≡ [] → Shows o no_outer
shows_none o scope rows = record { scope = scope; rows = rows; known = tt; as_many = refl }

pub knows_all : (l : Listed) (c : Change) → ((rows_at : ℕ → List TableRow) (db : Database) → IsOfListed rows_at l db → (r : Refusal) → IsFault db c r → ⊥) → KnowsNames l no_outer c
knows_all l c known rows_at db is n r has = known rows_at db is r (n, has)

-- ---- whether it sets one off

pub still_or_not : (r b : Bool) (event e : Event) (db : Database) (target t : Name) → r ≡ is_quiet event db target → event ≡ e → target ≡ t → r ≡ b → is_quiet e db t ≡ b
still_or_not r b event e db target t is of_event of_target test = sym (ap (λ (x : Event). is_quiet x db target) of_event ∙ ap (is_quiet e db) of_target) ∙ (sym is ∙ test)
