-- CREATE and DROP: the database after them, or each of their refusals.
use Rattle.std.specs.Prelude.{ℕ, suc, Bool, true, false, not, List, [], ◌∷◌, ◌++◌, map, Option, Some, None, is_some, if◌then◌else◌, codes, filter_map, decimal}
use Rattle.std.specs.FinMap.Entries.{put}
use Rattle.sqlval.specs.Names.{folded, is_same_name}
use Rattle.sqlval.specs.Refusals.{NoSuch, Exists, Misuse}
use Rattle.sqlval.specs.declared.collation.Collation.{Collation}
use Rattle.sql_syntax.specs.declared.create.IndexColumn.{IndexColumn}
use Rattle.sql_syntax.specs.declared.create.IndexDefinition.{IndexDefinition}
use Rattle.sql_syntax.specs.declared.create.NewObject.{NewObject}
use Rattle.sql_syntax.specs.declared.create.NewObject.TheVariants as new
use Rattle.sql_syntax.specs.declared.create.TableDefinition.{TableDefinition}
use Rattle.sql_syntax.specs.declared.create.TriggerDefinition.{TriggerDefinition}
use Rattle.sql_syntax.specs.declared.create.TriggerEvent.{TriggerEvent}
use Rattle.sql_syntax.specs.declared.create.TriggerEvent.TheVariants.{Update}
use Rattle.sql_syntax.specs.declared.create.TriggerTime.{TriggerTime}
use Rattle.sql_syntax.specs.declared.create.TriggerTime.TheVariants.{InsteadOf}
use Rattle.sql_syntax.specs.declared.create.ViewDefinition.{ViewDefinition}
use Rattle.sql_syntax.specs.declared.statement.ObjectKind.{ObjectKind}
use Rattle.sql_syntax.specs.declared.statement.ObjectKind.TheVariants as kind
use Rattle.catalog.specs.Database.{Name, Database, object, with_object, Object, ATable, AnIndex, AView, ATrigger, Table, name_order}
use Rattle.catalog.specs.Listed.{is_reserved, names_listed}
use Rattle.catalog.specs.Named.{without}
use Rattle.query_names.specs.Expressions.{resolve_collation}
use Rattle.query_names.specs.Checked.{Checked, good, bad, known_map, known_all, ◌and_then◌, unless}
use Rattle.query_names.specs.Scopes.{table_source, place_of, is_doubled}
use Rattle.query_names.specs.Tables.{table_made, collation_at}

-- the object under its name, which is to be new
abbrev added : Database → Name → Checked Object → Checked Database
added db n o = unless (is_reserved n) Misuse (unless (is_some (object db n)) Exists (known_map (with_object db n) o))

-- ---- tables

-- the name of the index that a table's key of this number makes
abbrev pub automatic_name : Name → ℕ → Name
automatic_name table n = codes "sqlite_autoindex_" ++ table ++ codes "_" ++ decimal n

-- the indexes that a table's keys make, numbered from n (Database File Format, "Alternative Names For The Schema Table")
abbrev pub automatic : Name → ℕ → List (List (ℕ × Collation)) → List (Name × Object)
automatic table n [] = []
automatic table n (k ∷ ks) =
    (folded (automatic_name table n), AnIndex (record { table = folded table; is_unique = true; is_automatic = true; columns = k })) ∷ automatic table (suc n) ks

-- with these objects, one after another
abbrev pub with_objects : Database → List (Name × Object) → Database
with_objects db [] = db
with_objects db (o ∷ os) = with_objects (put name_order o.0 o.1 db) os

-- a table, with the indexes that its keys make
abbrev pub create_table : Database → TableDefinition → Checked Database
create_table db d =
    table_made d and_then λ made.
    known_map (λ after. with_objects after (automatic d.name 1 made.1)) (added db d.name (good (ATable made.0)))

-- ---- indexes, views and triggers

abbrev pub resolve_index_column : Name → Table → IndexColumn → Checked (ℕ × Collation)
resolve_index_column n t c =
    place_of (table_source n t) c.name and_then λ i.
    elim c.collation [ None ↦ good (i, collation_at t.columns i) | Some k ↦ known_map (λ k. (i, k)) (resolve_collation k) ]

abbrev index_over : IndexDefinition → List (ℕ × Collation) → Object
index_over d ks = AnIndex (record { table = folded d.table; is_unique = d.is_unique; is_automatic = false; columns = ks })

-- an index beside the object that its ON names
abbrev pub index_made : Option Object → IndexDefinition → Checked Object
index_made (Some (ATable t)) d = known_map (index_over d) (known_all (map (resolve_index_column d.table t) d.columns))
index_made _ d = known_all (map resolve_collation (filter_map (λ c. c.collation) d.columns)) and_then λ _. bad (index_over d []) NoSuch

-- an index on a table that is there
abbrev pub create_index : Database → IndexDefinition → Checked Database
create_index db d = unless (is_doubled (map (λ c. c.name) d.columns)) Misuse (added db d.name (index_made (object db d.table) d))

-- its query is bound only when it is used
abbrev pub view_made : ViewDefinition → Checked Object
view_made d = unless (is_doubled (names_listed d)) Misuse (good (AView (record { columns = map folded (names_listed d); query = d.query })))

-- a view, whose query is not looked at
abbrev pub create_view : Database → ViewDefinition → Checked Database
create_view db d = added db d.name (view_made d)

abbrev update_columns : TriggerEvent → List Name
update_columns (Update (Some ns)) = ns
update_columns _ = []

abbrev is_instead : TriggerTime → Bool
is_instead InsteadOf = true
is_instead _ = false

-- a trigger beside the object that its ON names; its program is bound only with a statement that can set it off
abbrev pub trigger_made : Option Object → TriggerDefinition → Checked Object
trigger_made (Some (ATable t)) d =
    unless (is_instead d.time) Misuse (known_map (λ _. ATrigger d) (known_all (map (place_of (table_source d.target t)) (update_columns d.event))))
trigger_made (Some (AView v)) d = unless (not (is_instead d.time)) Misuse (good (ATrigger d))
trigger_made _ d = bad (ATrigger d) NoSuch

-- a trigger on a table or view that is there
abbrev pub create_trigger : Database → TriggerDefinition → Checked Database
create_trigger db d = added db d.name (trigger_made (object db d.target) d)

-- the database after a CREATE
abbrev pub create : Database → NewObject → Checked Database
create db (new.Table d) = create_table db d
create db (new.Index d) = create_index db d
create db (new.View d) = create_view db d
create db (new.Trigger d) = create_trigger db d

-- ---- DROP

abbrev is_of : ObjectKind → Object → Bool
is_of kind.Table (ATable t) = true
is_of kind.Index (AnIndex i) = true
is_of kind.View (AView v) = true
is_of kind.Trigger (ATrigger d) = true
is_of _ _ = false

abbrev is_automatic : Object → Bool
is_automatic (AnIndex i) = i.is_automatic
is_automatic _ = false

-- what DROP of an object of that kind makes, where this object has the name, or none has it: all that goes with the name is gone
abbrev pub dropped : Database → ObjectKind → Name → Option Object → Checked Database
dropped db kind n None = bad db NoSuch
dropped db kind n (Some o) =
    if not (is_of kind o) then bad db NoSuch
    else (unless (is_automatic o) Misuse (good (without n db)))

-- DROP of an object of that kind (SQL As Understood By SQLite, "DROP TABLE", "DROP INDEX", "DROP VIEW", "DROP TRIGGER")
abbrev pub drop_object : Database → ObjectKind → Name → Checked Database
drop_object db kind n = dropped db kind n (object db n)
