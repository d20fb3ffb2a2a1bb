-- The texts of the schema: what is known of SQL where files are read (Database File Format, "Storage Of The SQL Database Schema").
use Rattle.std.specs.Prelude.{◌≡◌, not, [], filter}
use Rattle.sqlval.specs.Names.{is_same_name}
use Rattle.sql_syntax.specs.declared.create.NewObject.{NewObject}
use Rattle.sql_syntax.specs.declared.create.NewObject.TheVariants as object
use Rattle.catalog.specs.Database.{Name, Database}
use Rattle.query_names.specs.Checked.{faults}
use Rattle.query_names.specs.Schema.{create}
use Rattle.db_files.specs.Schema.{Language}
use Rattle.db_pages.specs.Schema.{IsCreateOf}

abbrev name_of : NewObject → Name
name_of (object.Table t) = t.name
name_of (object.Index i) = i.name
name_of (object.View v) = v.name
name_of (object.Trigger t) = t.name

-- the objects of other names
abbrev pub others : Database → Name → Database
others db name = filter (λ o. not (is_same_name name o.0)) db

-- a CREATE of this object is not refused beside the others
abbrev pub Accepts : Database → NewObject → Type 0
Accepts db made = faults (create (others db (name_of made)) made) ≡ []

-- all of SQL
abbrev pub language : Language
language = record { Creates = IsCreateOf; Accepts = Accepts }
