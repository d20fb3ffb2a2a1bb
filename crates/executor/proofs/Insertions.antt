-- What an INSERT comes to on the database that pages hold.
use Rattle.std.proofs.Common.{◌≡◌, ◌⊎◌, ◌≤◌, inl, inr, refl, sym, ap, subst, ◌∙◌, ℕ, zero, suc, Bool, true, false, List, [], ◌∷◌, length, Option, Some, None, Result, Ok, Err, arith}
use Rattle.std.specs.Prelude.{⊤, All, Contains, IsErrAnd, IsTrue, MatchResult}
use Rattle.std.specs.List.{AllByRecursion, position_from, range_with_len}
use Rattle.std.proofs.lemmas.Bool.{cases_eq}
use Rattle.std.proofs.lemmas.List.{length-map}
use Rattle.std.proofs.lemmas.List.FromFn.{length-range_with_len}
use Rattle.sqlval.specs.Names.{folded, is_same_name}
use Rattle.sqlval.specs.Refusals.{Answer, ◌then◌, NoSuch, Refusal, refusal_of}
use Rattle.sqlval.specs.declared.fault.Fault.{Fault}
use Rattle.sqlval.specs.declared.fault.Fault.TheVariants as fault
use Rattle.sqlval.specs.declared.value.Value.{Value}
use Rattle.sql_syntax.specs.declared.change.Change.TheVariants as kind
use Rattle.sql_syntax.specs.declared.change.Insert.{Insert}
use Rattle.sql_syntax.specs.declared.statement.Statement.{Statement}
use Rattle.sql_syntax.specs.declared.statement.Statement.TheVariants as statement
use Rattle.pages.specs.Calls.{Limits}
use Rattle.pages.specs.Map.{PageMap}
use Rattle.db_layout.specs.Trees.{AreAmong}
use Rattle.catalog.specs.Database as database
use Rattle.catalog.specs.Database.{ATable, Database, Name, Object, with_object}
use Rattle.catalog.specs.Laws.{ListsOtherRows}
use Rattle.catalog.specs.Listed.{Lists, is_table, table_named, with_rows, Listed}
use Rattle.catalog.specs.Named.{IsOfListed, KeepsNamed, ListsIndexes}
use Rattle.catalog.specs.declared.tables.Column.{Column}
use Rattle.catalog.specs.declared.tables.Table.{Table}
use Rattle.query_names.specs.Bound.{columns_seen, count_wanted, is_twice_named, looked_up}
use Rattle.query_names.specs.Checked.{Checked, Meant, faults, good, known_map, meant}
use Rattle.query_names.specs.Inserts.{AreColumns, IsTargetFault, places_in}
use Rattle.query_names.specs.Views.{look_up}
use Rattle.query_names.proofs.ColumnNames.{folded_twice}
use Rattle.row_scan.specs.Rows.{TableRow}
use Rattle.row_change.specs.Agreement.{IsSetFor}
use Rattle.row_change.specs.Changes.{Given, Inserts, Resolved, no_outer, resolve_change, resolve_given}
use Rattle.row_change.specs.Constraints.{table_of}
use Rattle.row_change.specs.Inserting.{rows_inserted}
use Rattle.db_write.specs.Changing.{InsertsInTrees, IsRefusedInsert}
use Rattle.row_change.proofs.GivenAsMeant.{columns_refused, row_placed, source_refused, source_stands, table_missing, value_places}
use Rattle.trigger.specs.Binding.{IsFault}
use Rattle.trigger.specs.Effects.{change, given_rows}
use Rattle.trigger.specs.Laws.{BindsAlone, InsertAddsRows, InsertIsRefused, InsertOfNoneStays, SetsOffNothing}
use Rattle.executor.specs.Changing.{IsChangeRefusal, IsMade}
use Rattle.executor.specs.Reading.{AnswersRead}
use Rattle.db_pages.specs.Stored.{Stores, all_trees, schema_tree}
use Rattle.executor.specs.Works.{Reaches, RefusesWith, change_made, given_on, of_answer}
use Rattle.executor.proofs.Owners.{HasTable}
use Rattle.executor.specs.Holding.{HoldsTrees}
use Rattle.executor.proofs.HeldTrees.{among, page_size, rows_elsewhere, rows_here, rows_with, stores_rows, held_table, trees_held}
use Rattle.executor.proofs.Roots.{own_pages}
use Rattle.executor.proofs.FoundTables.{indexes_listed, table_found}
use Rattle.executor.proofs.Replacing.{found_is, same_folded}
use Rattle.executor.proofs.Targets.{named_as}
use Rattle.executor.proofs.Wide.{indexes_of_table, wide_in}
use Rattle.executor.proofs.KnownSources.{known_as}
use Rattle.executor.specs.Refusing.{is_view_named}

-- what follows for every listed database, and for the trees of its file
pub record Laws : Type 0 where
  pub lists : ListsOtherRows
  pub named : KeepsNamed
  pub binds : BindsAlone
  pub refused : InsertIsRefused
  pub inserts : InsertAddsRows
  pub none : InsertOfNoneStays
  pub indexes : ListsIndexes

abbrev inserting : Insert → Statement
inserting i = statement.Change (kind.Insert i)

abbrev table_in : Option Object → Answer database.Table
table_in o = elim o [ Some (ATable t) ↦ Ok t | _ ↦ Err NoSuch ]

pub named_folded : (tables : List Table) (name : Name) (t : Table) → table_named name tables ≡ Some t → table_named (folded name) tables ≡ Some t
named_folded tables name t named = named_as tables (folded name) name (folded_twice name) ∙ named

-- a listed table of the database
pub listed_table : (rows_at : ℕ → List TableRow) (l : Listed) (db : Database) (name : Name) (t : Table) → Lists rows_at l db → table_named name l.tables ≡ Some t
    → table_of db (folded name) ≡ Ok (with_rows t (rows_at t.root))
listed_table rows_at l db name t lists named =
    ap table_in (table_found rows_at l db (folded name) t lists (named_folded l.tables name t named))

-- binding it isn't refused
pub not_refused : Laws → (db : Database) (i : Insert) (what : Resolved) → SetsOffNothing db (kind.Insert i) → resolve_change db no_outer (kind.Insert i) ≡ Meant what [] → (r : Refusal) → IsFault db (kind.Insert i) r → ⊥
not_refused laws db i what only stands r is = nothing (subst (λ (k : Checked Resolved). Contains (faults k) r) stands ((laws.binds db (kind.Insert i) r only).0 is))
  where
    nothing : Contains [] r → ⊥
    nothing has = absurd (omega (arith, has.1))

-- ---- why its names and values are refused

abbrev work : Insert → Database → Refusal → Type 0
work i db r = RefusesWith (change_made (inserting i) db) r

pub target_refused : (laws : Laws) (pages : PageMap) (size : ℕ) (l : Listed) (db : Database) (held : Stores pages size l db) (i : Insert) (still : SetsOffNothing db (kind.Insert i)) (plain : is_view_named l i.table ≡ false) (f : Fault) → IsTargetFault l.tables i f
    → IsChangeRefusal (inserting i) db f
target_refused laws pages size l db held i still plain f (inl memory) = inl (inl (inl memory))
target_refused laws pages size l db held i still plain f (inr (inl (e, none))) =
    inr (inl (inl ((laws.binds db (kind.Insert i) (refusal_of f) still).1
    (subst (Contains (faults (resolve_change db no_outer (kind.Insert i)))) (sym e)
    (table_missing db i.table i.columns i.source (known_as held.rows_at l db held.of_listed.lists i.table plain ∙ ap looked_up none))))))
target_refused laws pages size l db held i still plain f (inr (inr (t, named, list))) =
    inr (inl (inl ((laws.binds db (kind.Insert i) (refusal_of f) still).1
    (columns_refused db i.table i.source t (known_as held.rows_at l db held.of_listed.lists i.table plain ∙ ap looked_up named) (held.once i.table t named) i.columns (refusal_of f) list))))

-- ---- what its source gives

each_for : {A : Type 0} (P Q : A → Type 0) (xs : List A) → ((x : A) → P x → Q x) → AllByRecursion P xs → AllByRecursion Q xs
each_for P Q [] go each = tt
each_for P Q (x ∷ xs) go each = (go x each.0, each_for P Q xs go each.1)

abbrev source_known : Database → ℕ → Insert → Checked Given
source_known db n i = resolve_given db no_outer (Some n) i.source

-- what is meant, where nothing is refused
is_meant : {A B : Type 0} (f : A → B) (k : Checked A) (x : B) → known_map f k ≡ Meant x [] → (k ≡ Meant (meant k) []) × (f (meant k) ≡ x)
is_meant f (Meant y rs) x e = (ap (Meant y) (ap faults e), ap meant e)

refused_so : (f : Fault) → RefusesWith (of_answer (Err (refusal_of f))) (refusal_of f)
refused_so f = (0, omega arith, refl)

-- The INSERT isn't refused and has this source, whose rows are these. Each gives the table's columns the same values by their places
-- in the row, where they have one, as by the place of each value's column.
pub record IsGivenAs (db : Database) (i : Insert) (t : Table) (places : List (Option ℕ)) (rows : List (List Value)) : Type 0 where
  pub at : List ℕ
  pub source : Given
  pub stands : resolve_change db no_outer (kind.Insert i) ≡ Meant (Inserts (folded i.table) at source) []
  pub answered : given_rows db no_outer source ≡ Ok rows
  pub placed : AllByRecursion (IsSetFor t places at) rows

module _ (laws : Laws) (pages : PageMap) (size : ℕ) (l : Listed) (db : Database) (held : Stores pages size l db) (i : Insert) (still : SetsOffNothing db (kind.Insert i)) (plain : is_view_named l i.table ≡ false) (t : Table) (n : ℕ) (named : table_named i.table l.tables ≡ Some t)
    (columns : AreColumns t.columns i.columns) (n_is : n ≡ count_wanted i.columns t) where
  found : look_up db i.table ≡ good (columns_seen t)
  found = known_as held.rows_at l db held.of_listed.lists i.table plain ∙ ap looked_up named

  once : is_twice_named t.columns ≡ false
  once = held.once i.table t named

  stands_so : (given_as : Given) → source_known db n i ≡ Meant given_as [] → resolve_change db no_outer (kind.Insert i) ≡ Meant (Inserts (folded i.table) (value_places t i.columns) given_as) []
  stands_so given_as e = source_stands db i.table i.source t found once i.columns given_as columns (subst (λ m. source_known db m i ≡ Meant given_as []) n_is e)

  pub rows_refused : (f : Fault) → AnswersRead {X = List (List Value)} (λ rows. rows) (given_on db n i.source) (Err f) → IsChangeRefusal (inserting i) db f
  rows_refused f (inl outside) = inl (inl outside)
  rows_refused f (inr (inl has)) = inr (inl (inl ((laws.binds db (kind.Insert i) (refusal_of f) still).1
      (source_refused db i.table i.source t found once i.columns (refusal_of f) (subst (λ m. Contains (faults (source_known db m i)) (refusal_of f)) n_is (in_it (source_known db n i) has))))))
    where
      in_it : (k : Checked Given) → Contains (faults (known_map (given_rows db no_outer) k)) (refusal_of f) → Contains (faults k) (refusal_of f)
      in_it (Meant g rs) has = has
  rows_refused f (inr (inr e)) =
      let is = is_meant (given_rows db no_outer) (source_known db n i) (Err (refusal_of f)) e in
      let stands = stands_so (meant (source_known db n i)) is.0 in
      let refused = laws.refused db i t (held.rows_at t.root) (value_places t i.columns) (meant (source_known db n i)) (refusal_of f) (listed_table held.rows_at l db i.table t held.of_listed.lists named) stands is.1 in
      inr (inl (inr (not_refused laws db i _ still stands, subst (λ (a : Answer Database). RefusesWith (of_answer a) (refusal_of f)) (sym refused) (refused_so f))))

  pub given_as : (rows : List (List Value)) (places : List (Option ℕ)) → places ≡ places_in t.columns i.columns → given_on db n i.source ≡ Meant (Ok rows) [] → AllByRecursion (λ vs. length vs ≡ n) rows
      → IsGivenAs db i t places rows
  given_as rows places places_are e wide =
      let is = is_meant (given_rows db no_outer) (source_known db n i) (Ok rows) e in
      record {
        at = value_places t i.columns;
        source = meant (source_known db n i);
        stands = stands_so (meant (source_known db n i)) is.0;
        answered = is.1;
        placed = each_for (λ vs. length vs ≡ n) (IsSetFor t places (value_places t i.columns)) rows (λ vs l.
            subst (λ ps. IsSetFor t ps (value_places t i.columns) vs) (sym places_are)
            (row_placed db i.table i.source t found once i.columns columns vs (l ∙ n_is))) wide;
      }

-- ---- what it gives

pub places_long : (columns : List Column) (names : Option (List Name)) → length (places_in columns names) ≡ length columns
places_long columns None = length-map (range_with_len 0 (length columns)) (λ (n : ℕ). Some n) ∙ length-range_with_len 0 (length columns)
places_long columns (Some names) = length-map columns (λ column. position_from (λ name. is_same_name name column.name) 0 names)

all_of : {A : Type 0} (P : A → Type 0) (xs : List A) → AllByRecursion P xs → All P xs
all_of P [] each i d lt = absurd (omega (arith, lt))
all_of P (x ∷ xs) each zero d lt = each.0
all_of P (x ∷ xs) each (suc i) d lt = all_of P xs each.1 i d (omega (arith, lt))

some_or_none : {A : Type 0} (xs : List A) → (xs ≡ []) ⊎ (1 ≤ length xs)
some_or_none [] = inl refl
some_or_none (x ∷ xs) = inr (omega arith)

-- the database that the rows make
pub record IsMadeOf (rows_at : ℕ → List TableRow) (l : Listed) (db : Database) (i : Insert) (t : Table) (now : List TableRow) : Type 0 where
  pub made : Database
  pub is : change db (kind.Insert i) ≡ Ok made
  pub of_listed : IsOfListed (rows_with rows_at t.root now) l made

abbrev rows_answer : List TableRow → Answer (List TableRow)
rows_answer rows = Ok rows

same_answer : (rows now : List TableRow) → rows_answer rows ≡ rows_answer now → rows ≡ now
same_answer rows now e = cc

not_none : (rows : List TableRow) (r : Refusal) → rows_answer rows ≡ Err r → ⊥
not_none rows r e = absurd cc

module _ (laws : Laws) (pages : PageMap) (size : ℕ) (l : Listed) (db : Database) (held : Stores pages size l db) (i : Insert) (t : Table) (places : List (Option ℕ)) (given : List (List Value)) (named : table_named i.table l.tables ≡ Some t)
    (still : SetsOffNothing db (kind.Insert i)) (is : IsGivenAs db i t places given) (long : length places ≡ length t.columns) where
  owned : HasTable held.rows_at l.tables held.held t
  owned = held_table pages size l db held i.table t named

  set_for : All (IsSetFor t places is.at) given
  set_for = all_of (IsSetFor t places is.at) given is.placed

  -- the database with these rows in the table
  abbrev with_now : List TableRow → Database
  with_now now = with_object db (folded i.table) (ATable (with_rows t now))

  -- what the statement comes to on the database
  abbrev changed : List (List Value) → Answer Database
  changed rows = rows_inserted t places (held.rows_at t.root) rows then λ now. Ok (with_now now)

  change_is : 1 ≤ length given → change db (kind.Insert i) ≡ changed given
  change_is some =
      laws.inserts db i t (held.rows_at t.root) is.at is.source places given still (indexes_of_table laws.indexes held.rows_at l db i.table t held.of_listed named)
      (listed_table held.rows_at l db i.table t held.of_listed.lists named) owned.split.is.fit is.stands is.answered set_for some

  pub made : (now : List TableRow) → rows_inserted t places (held.rows_at t.root) given ≡ Ok now → IsMadeOf held.rows_at l db i t now
  made now e = by (some_or_none given)
    where
      same : held.rows_at t.root ≡ now → (root : ℕ) → held.rows_at root ≡ rows_with held.rows_at t.root now root
      same still root = elim (cases_eq root t.root) [
        | inl here ↦ ap held.rows_at here ∙ (still ∙ sym (rows_here held.rows_at t.root root now here))
        | inr differ ↦ sym (rows_elsewhere held.rows_at t.root root now differ)
      ]

      by : (given ≡ []) ⊎ (1 ≤ length given) → IsMadeOf held.rows_at l db i t now
      by (inl none) =
          let still = same_answer (held.rows_at t.root) now (subst (λ rows. rows_inserted t places (held.rows_at t.root) rows ≡ Ok now) none e) in
          record {
            made = db;
            is = laws.none db i t (held.rows_at t.root) is.at is.source (listed_table held.rows_at l db i.table t held.of_listed.lists named) is.stands (is.answered ∙ ap (λ (rows : List (List Value)). Ok rows) none);
            of_listed = record {
              lists = subst (λ (rows_at : ℕ → List TableRow). Lists rows_at l db) (λ k root. same still root k) held.of_listed.lists;
              named = held.of_listed.named;
              once = held.of_listed.once;
            };
          }
      by (inr some) = record {
        made = with_now now;
        is = change_is some ∙ ap (λ (a : Answer (List TableRow)). a then λ now. Ok (with_now now)) e;
        of_listed = record {
          lists = laws.lists held.rows_at l db (folded i.table) t now held.of_listed.lists (named_folded l.tables i.table t named)
              (λ other u found here. own_pages pages size l db held other (folded i.table) u t found (named_folded l.tables i.table t named) here);
          named = laws.named db (folded i.table) (ATable (with_rows t now)) held.of_listed.named;
          once = held.of_listed.once;
        };
      }

  pub reaches : (made : Database) → change db (kind.Insert i) ≡ Ok made → Reaches (change_made (inserting i) db) made
  reaches made e = (not_refused laws db i _ still is.stands, subst (λ (a : Answer Database). Reaches (of_answer a) made) (sym e) refl)

  pub refused : (f : Fault) → rows_inserted t places (held.rows_at t.root) given ≡ Err (refusal_of f) → work i db (refusal_of f)
  refused f e = inr (not_refused laws db i _ still is.stands, subst (λ (a : Answer Database). RefusesWith (of_answer a) (refusal_of f)) (sym (by (some_or_none given))) (refused_so f))
    where
      by : (given ≡ []) ⊎ (1 ≤ length given) → change db (kind.Insert i) ≡ Err (refusal_of f)
      by (inl none) = absurd (not_none (held.rows_at t.root) (refusal_of f) (subst (λ rows. rows_inserted t places (held.rows_at t.root) rows ≡ Err (refusal_of f)) none e))
      by (inr some) = change_is some ∙ ap (λ (a : Answer (List TableRow)). a then λ now. Ok (with_now now)) e

  put_refused : (f : Fault) → IsRefusedInsert t places given (held.rows_at t.root) f → IsChangeRefusal (inserting i) db f
  put_refused f (inl outside) = inl outside
  put_refused f (inr (inl as_rows)) = inr (inl (refused f as_rows))
  put_refused f (inr (inr (what, wide))) =
      inr (inr (inl (record { is = what; why = inl (wide_in db t i.table (same_folded t.name i.table (found_is (is_table i.table) l.tables t named)) (indexes_listed held.rows_at l db held.of_listed owned.front t owned.back owned.tables_are) wide) })))

  abbrev trees : HoldsTrees pages size held.rows_at l.tables held.schema
  trees = trees_held pages size l db held

  its_trees : AreAmong pages size (schema_tree held.schema held.schema_used) (all_trees owned.split.before) t (held.rows_at t.root) (all_trees owned.split.after)
  its_trees = among pages size held.rows_at l.tables held.schema trees t owned

  -- what the call that puts the rows comes to
  pub put_makes : (new : PageMap) (result : Result ⊤ Fault) → InsertsInTrees pages new size t places given result
      → MatchResult result (λ done. IsMade (inserting i) db new size l) (IsChangeRefusal (inserting i) db)
  put_makes new (Ok done) puts =
      let put = puts (schema_tree held.schema held.schema_used) (all_trees owned.split.before) (all_trees owned.split.after) (held.rows_at t.root) (page_size pages size held.rows_at l.tables held.schema trees) refl its_trees owned.split.is.fit in
      let m = made put.now put.answer in
      record {
        made = m.made;
        reaches = reaches m.made m.is;
        stored = stores_rows pages new size l db m.made held t put.now owned put.hold m.of_listed;
      }
  put_makes new (Err f) puts =
      put_refused f (puts (schema_tree held.schema held.schema_used) (all_trees owned.split.before) (all_trees owned.split.after) (held.rows_at t.root) (page_size pages size held.rows_at l.tables held.schema trees) refl its_trees owned.split.is.fit)

-- a call that passes a refusal on
pub passed_on : (P : ⊤ → Type 0) (Q : Fault → Type 0) (r : Result ⊤ Fault) (f : Fault) → IsErrAnd r (λ e. e ≡ f) → Q f → MatchResult r P Q
passed_on P Q (Ok x) f is why = absurd is
passed_on P Q (Err e) f is why = subst Q (sym is) why

-- after a call that reads
pub read_before : {P K : Type 0} (below : P → K) (tells : K → Bool) (limits : K → Limits) (pages : P → PageMap) (Q : PageMap → ℕ → Type 0) (old mid : P) → below mid ≡ below old → pages mid ≡ pages old
    → (IsTrue (tells (below mid)) → Q (pages mid) (limits (below mid)).page) → IsTrue (tells (below old)) → Q (pages old) (limits (below old)).page
read_before {P} {K} below tells limits pages Q old mid kept same says told =
    subst (λ (m : PageMap). Q m (limits (below old)).page) same
    (subst (λ (k : K). Q (pages mid) (limits k).page) kept (says (subst (λ (k : K). IsTrue (tells k)) (sym kept) told)))
