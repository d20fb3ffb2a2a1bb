-- The view that a row of the schema table tells.
use Rattle.std.proofs.Common.{◌≡◌, sym, ap, ℕ, ℤ, Bool, true, false, List, [], map, Some}
use Rattle.std.specs.Prelude.{codes, is_some}
use Rattle.sqlval.specs.Names.{folded}
use Rattle.sqlval.specs.Refusals.{Exists, Misuse}
use Rattle.sql_syntax.specs.declared.create.NewObject.TheVariants as new
use Rattle.sql_syntax.specs.declared.create.ViewDefinition.{ViewDefinition}
use Rattle.catalog.specs.Database as database
use Rattle.catalog.specs.Database.{AView, Database, Object, object, with_object}
use Rattle.catalog.specs.Listed.{as_view, is_reserved, names_listed}
use Rattle.catalog.specs.declared.tables.View.{View}
use Rattle.query_names.specs.Checked.{Checked, Meant, faults, good, known_map, meant, unless}
use Rattle.query_names.specs.Schema.{create, view_made}
use Rattle.query_names.specs.Scopes.{is_doubled}
use Rattle.db_files.specs.Schema.{SchemaRow, IsViewRow}
use Rattle.db_pages.specs.Language.{others, language}
use Rattle.db_pages.specs.Schema.{IsCreateOf}
use Rattle.db_pages.proofs.StoredIndexes.{quiet}

-- a view, and the schema's row that tells it
pub record ViewListing : Type 0 where
  pub view : View
  pub row : SchemaRow

-- the view of a definition, whose row has this rowid
abbrev pub view_of : ViewDefinition → ℤ → View
view_of d rowid = record { definition = d; rowid = rowid }

-- The row has the text of a CREATE VIEW that isn't refused, and no page.
pub record IsViewTold (row : SchemaRow) (d : ViewDefinition) : Type 0 where
  pub sql : List ℕ
  pub sql_is : row.sql ≡ Some sql
  pub kind_is : row.kind ≡ codes "view"
  pub name_is : folded row.name ≡ folded d.name
  pub table_is : folded row.table ≡ folded d.name
  pub root_is : row.root ≡ 0
  pub creates : IsCreateOf sql (new.View d)
  pub free : is_reserved d.name ≡ false
  pub once : is_doubled (names_listed d) ≡ false

-- ---- definitions that aren't refused

pub not_mapped : (f : Object → Database) (k : Checked Object) → faults (known_map f k) ≡ [] → faults k ≡ []
not_mapped f (Meant x rs) none = none

-- the name may be given, and no name is listed twice
accepted : (db : Database) (d : ViewDefinition) → faults (create db (new.View d)) ≡ [] → (is_reserved d.name ≡ false) × (is_doubled (names_listed d) ≡ false)
accepted db d none =
    let free = quiet (is_reserved d.name) Misuse (unless (is_some (object db d.name)) Exists (known_map (with_object db d.name) (view_made d))) none in
    let fresh = quiet (is_some (object db d.name)) Exists (known_map (with_object db d.name) (view_made d)) free.1 in
    (free.0, (quiet (is_doubled (names_listed d)) Misuse (good (made_view d)) (not_mapped (with_object db d.name) (view_made d) fresh.1)).0)
  where
    made_view : ViewDefinition → Object
    made_view d = AView (record { columns = map folded (names_listed d); query = d.query })

pub view_told : (db : Database) (row : SchemaRow) (v : database.View) → (is : IsViewRow language db row v) → IsViewTold row is.definition
view_told db row v is =
    let accepts = accepted (others db is.definition.name) is.definition is.text.accepts in
    record {
      sql = is.text.text;
      sql_is = is.text.sql_is;
      kind_is = is.kind;
      name_is = is.name;
      table_is = is.table;
      root_is = is.root;
      creates = is.text.creates;
      free = accepts.0;
      once = accepts.1;
    }

-- ---- what is made

-- the view of an object that is one
abbrev view_in : database.View → Object → database.View
view_in other (AView v) = v
view_in other _ = other

-- the view that a definition makes, whatever its row
pub view_is : (d : ViewDefinition) (v : database.View) (rowid : ℤ) → view_made d ≡ good (AView v) → v ≡ as_view (view_of d rowid)
view_is d v rowid made = by_test (is_doubled (names_listed d)) made
  where
    by_test : (twice : Bool) → unless twice Misuse (good (AView (as_view (view_of d rowid)))) ≡ good (AView v) → v ≡ as_view (view_of d rowid)
    by_test true made = sym (ap (λ (o : Checked Object). view_in v (meant o)) made)
    by_test false made = sym (ap (λ (o : Checked Object). view_in v (meant o)) made)
