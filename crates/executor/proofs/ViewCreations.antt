-- What a CREATE VIEW comes to on the database that pages hold.
use Rattle.std.proofs.Common.{◌≡◌, ◌⊎◌, ◌≤◌, inl, inr, refl, sym, ap, subst, ◌∙◌, ℕ, ℤ, Bool, true, false, codes, map, List, [], ◌∷◌, ◌++◌, append_assoc, length, Option, None, Some, Result, Ok, Err, arith}
use Rattle.std.proofs.lemmas.Bool.{false≢true}
use Rattle.std.specs.Prelude.{Contains, is_some}
use Rattle.std.specs.List.{AllByRecursion}
use Rattle.sqlval.specs.Names.{folded}
use Rattle.sqlval.specs.Refusals.{Exists, Misuse, Refusal, refusal_of}
use Rattle.sqlval.specs.declared.fault.Fault.{Fault}
use Rattle.sqlval.specs.declared.fault.Fault.TheVariants as fault
use Rattle.sql_syntax.specs.declared.create.NewObject.TheVariants as object
use Rattle.sql_syntax.specs.declared.create.ViewDefinition.{ViewDefinition}
use Rattle.sql_syntax.specs.declared.statement.Statement.{Statement}
use Rattle.sql_syntax.specs.declared.statement.Statement.TheVariants as statement
use Rattle.record.specs.Writing.{AreStorable}
use Rattle.pages.specs.Calls.{IsOutsideOrFull}
use Rattle.pages.specs.Map.{PageMap}
use Rattle.tree_table.specs.Calls.{Stands}
use Rattle.tree_table.specs.Rows.{payload_at, with_row}
use Rattle.db_layout.specs.Layout.{ReplacesTrees, TreesStand}
use Rattle.catalog.specs.Database.{AView, Database, Name, Object, object as object_in, with_object}
use Rattle.catalog.specs.Laws.{NamesListed}
use Rattle.catalog.specs.Listed.{Listed, as_view, is_name_of, is_reserved, names_listed, rowids_of}
use Rattle.catalog.specs.NewViews.{ListsNewView, with_view}
use Rattle.catalog.specs.UnusedRowids.{is_among}
use Rattle.catalog.specs.declared.tables.View.{View}
use Rattle.query_names.specs.Checked.{Checked, faults, good, known_map, unless}
use Rattle.query_names.specs.Schema.{create_view}
use Rattle.query_names.specs.Scopes.{is_doubled}
use Rattle.db_pages.specs.Schema.{AreRowsOf, IsCreateOf, IsViewRow, Told, TriggerTold, ViewTold, all_told, schema_row, tables_told}
use Rattle.db_pages.specs.Stored.{Stores}
use Rattle.executor.specs.Changing.{IsChangeRefusal, IsMade}
use Rattle.executor.specs.Holding.{HoldsTrees}
use Rattle.executor.specs.Listing.{AddsRow, AreTooLong, IsAdded, IsNewView, IsViewRefusal}
use Rattle.executor.specs.Works.{Reaches, RefusesWith, change_made, of_known}
use Rattle.executor.proofs.Creations.{refused_work}
use Rattle.executor.proofs.HeldTrees.{schema_stands, stores_of, trees_held, with_schema}
use Rattle.executor.proofs.Targets.{fit_with_view}
use Rattle.executor.proofs.Telling.{AreToldBy, as_rows, as_told, free_at, map_append, more_pages, one_more, told_as}

-- what follows for every listed database, and for the trees of its file
pub record Laws : Type 0 where
  pub lists : ListsNewView
  pub names : NamesListed
  pub stand : TreesStand
  pub give_way : ReplacesTrees

abbrev pub creating : List ℕ → ViewDefinition → Statement
creating sql d = statement.Create (record { sql = sql; object = object.View d })

-- ---- its work

-- a view under its name, which may be given and is new, and whose list may be as it is
abbrev placed : Database → Name → (reserved : Bool) → (taken : Option Object) → (doubled : Bool) → Object → Checked Database
placed db n reserved taken doubled o = unless reserved Misuse (unless (is_some taken) Exists (known_map (with_object db n) (unless doubled Misuse (good o))))

is_placed : (db : Database) (n : Name) (o : Object) (reserved : Bool) (taken : Option Object) (doubled : Bool) → reserved ≡ false → is_some taken ≡ false → doubled ≡ false
    → placed db n reserved taken doubled o ≡ good (with_object db n o)
is_placed db n o false None false free new once = refl
is_placed db n o true taken doubled free new once = absurd (false≢true (sym free))
is_placed db n o false (Some x) doubled free new once = absurd (false≢true (sym new))
is_placed db n o false None true free new once = absurd (false≢true (sym once))

-- each thing in its way is a refusal
is_first : (db : Database) (n : Name) (o : Object) (reserved : Bool) (taken : Option Object) (doubled : Bool) → reserved ≡ true → Contains (faults (placed db n reserved taken doubled o)) Misuse
is_first db n o true taken doubled h = (0, omega arith, refl)
is_first db n o false taken doubled h = absurd (false≢true h)

is_second : (db : Database) (n : Name) (o : Object) (reserved : Bool) (taken : Option Object) (doubled : Bool) → is_some taken ≡ true → Contains (faults (placed db n reserved taken doubled o)) Exists
is_second db n o true (Some x) doubled h = (1, omega arith, refl)
is_second db n o false (Some x) doubled h = (0, omega arith, refl)
is_second db n o reserved None doubled h = absurd (false≢true h)

is_third : (db : Database) (n : Name) (o : Object) (reserved : Bool) (taken : Option Object) (doubled : Bool) → doubled ≡ true → Contains (faults (placed db n reserved taken doubled o)) Misuse
is_third db n o true (Some x) true h = (2, omega arith, refl)
is_third db n o true None true h = (1, omega arith, refl)
is_third db n o false (Some x) true h = (1, omega arith, refl)
is_third db n o false None true h = (0, omega arith, refl)
is_third db n o reserved taken false h = absurd (false≢true h)

-- ---- a view more

module _ (laws : Laws) (old : PageMap) (size : ℕ) (l : Listed) (db : Database) (held : Stores old size l db) (sql : List ℕ) (d : ViewDefinition) where
  abbrev seen : Object
  seen = AView (record { columns = map folded (names_listed d); query = d.query })

  has_so : (r s : Refusal) → r ≡ s → Contains (faults (create_view db d)) s → RefusesWith (change_made (creating sql d) db) r
  has_so r s e has = refused_work (create_view db d) r (subst (Contains (faults (create_view db d))) (sym e) has)

  refuses : (r : Refusal) → IsViewRefusal l d r → RefusesWith (change_made (creating sql d) db) r
  refuses r (inl (e, h)) = has_so r Misuse e (is_first db d.name seen (is_reserved d.name) (object_in db d.name) (is_doubled (names_listed d)) h)
  refuses r (inr (inl (e, h))) =
      has_so r Exists e (is_second db d.name seen (is_reserved d.name) (object_in db d.name) (is_doubled (names_listed d)) (laws.names held.rows_at l db d.name held.of_listed.lists ∙ h))
  refuses r (inr (inr (e, h))) = has_so r Misuse e (is_third db d.name seen (is_reserved d.name) (object_in db d.name) (is_doubled (names_listed d)) h)

  -- its definition is refused
  pub refused_view : (f : Fault) → (f ≡ fault.Memory) ⊎ IsViewRefusal l d (refusal_of f) → IsChangeRefusal (creating sql d) db f
  refused_view f (inl memory) = inl (inl (inl memory))
  refused_view f (inr why) = inr (inl (refuses (refusal_of f) why))

  abbrev trees : HoldsTrees old size held.rows_at l.tables held.schema
  trees = trees_held old size l db held

  pub schema_stand : Stands old size 1 held.schema held.schema_used held.free
  schema_stand = schema_stands old size held.rows_at l.tables held.schema trees laws.stand

  pub none_at : (rowid : ℤ) → is_among rowid (rowids_of l) ≡ false → payload_at rowid held.schema ≡ None
  none_at rowid unused = free_at (length old) l held.schema rowid held.tell unused

  module _ (is : IsNewView l d) where
    reached : Reaches (change_made (creating sql d) db) (with_object db d.name seen)
    reached = subst (λ (k : Checked Database). Reaches (of_known k) (with_object db d.name seen))
        (sym (is_placed db d.name seen (is_reserved d.name) (object_in db d.name) (is_doubled (names_listed d)) is.free (laws.names held.rows_at l db d.name held.of_listed.lists ∙ is.new) is.once)) refl

    -- its row isn't added
    pub refused_row : (f : Fault) → IsOutsideOrFull f ⊎ AreTooLong (schema_row (codes "view") d.name d.name 0 (Some sql)) f → IsChangeRefusal (creating sql d) db f
    refused_row f (inl full) = inl full
    refused_row f (inr (what, long)) = inr (inr (inl (record { is = what; why = inr (record { made = with_object db d.name seen; reaches = reached; long = long }) })))

    module _ (creates : IsCreateOf sql (object.View d)) (new : PageMap) (rowid : ℤ) (unused : is_among rowid (rowids_of l) ≡ false)
        (added : IsAdded old new size (schema_row (codes "view") d.name d.name 0 (Some sql)) held.schema held.schema_used held.free rowid) where
      abbrev v : View
      v = record { definition = d; rowid = rowid }

      new_row : IsViewRow v added.entry
      new_row = record {
        sql = sql;
        creates = creates;
        free = is.free;
        once = is.once;
        rowid_is = added.rowid_is;
        name = d.name;
        name_is = refl;
        table_name = d.name;
        table_name_is = refl;
        row_is = added.is;
      }

      abbrev first : List Told
      first = tables_told l.tables ++ map ViewTold l.views

      abbrev last : List Told
      last = map TriggerTold l.triggers

      all_are : all_told (with_view v l) ≡ first ++ ViewTold v ∷ last
      all_are =
          ap (λ (ts : List Told). tables_told l.tables ++ (ts ++ last)) (map_append ViewTold l.views (v ∷ []))
          ∙ (ap (λ (ts : List Told). tables_told l.tables ++ ts) (append_assoc (map ViewTold l.views) (ViewTold v ∷ []) last)
          ∙ sym (append_assoc (tables_told l.tables) (map ViewTold l.views) (ViewTold v ∷ last)))

      told : AreRowsOf (length new) (with_view v l) (with_row added.entry held.schema)
      told = as_rows (length new) (with_view v l) (first ++ ViewTold v ∷ last) (with_row added.entry held.schema) all_are
          (one_more (length new) first last (ViewTold v) added.entry held.schema
          (told_as (length new) (all_told l) (first ++ last) held.schema (sym (append_assoc (tables_told l.tables) (map ViewTold l.views) last))
          (more_pages (length old) (length new) added.becomes.moves.longer (all_told l) held.schema (as_told (length old) l held.schema held.tell)))
          (subst (λ z. payload_at z held.schema ≡ None) (sym added.rowid_is) (none_at rowid unused)) new_row)

      pub creates_it : (listed : Listed) → listed ≡ with_view v l → IsMade (creating sql d) db new size listed
      creates_it listed same = record {
        made = with_object db d.name seen;
        reaches = reached;
        stored = subst (λ (x : Listed). Stores new size x (with_object db d.name seen)) (sym same)
            (stores_of new size held.rows_at (with_view v l) (with_row added.entry held.schema) (with_object db d.name seen)
            (with_schema old size held.rows_at l.tables held.schema trees laws.give_way new (with_row added.entry held.schema) added.becomes)
            (laws.lists held.rows_at l db v held.of_listed is.new) told held.keys (fit_with_view l v held.targets));
      }
