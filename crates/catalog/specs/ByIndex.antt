-- Indexes by rising name, among which that of a name is found by halves.
use Rattle.std.specs.Prelude.{◌≡◌, ℕ, Bool, List, [], ◌||◌, filter, not, option_map, slice_get, unwrap_or}
use Rattle.std.specs.List.{list_any}
use Rattle.sqlval.specs.Names.{is_same_name}
use Rattle.catalog.specs.ByName.{RiseBy}
use Rattle.catalog.specs.Database.{Name}
use Rattle.catalog.specs.declared.by_index.IndexHandle.{IndexHandle}
use Rattle.catalog.specs.declared.tables.Index.{Index as ListedIndex}
use Rattle.catalog.specs.declared.tables.Table.{Table}

-- the name of the index at a place, or an empty one where there is none
abbrev pub name_at : List ListedIndex → ℕ → Name
name_at indexes place = unwrap_or (option_map (λ i. i.name) (slice_get indexes place)) []

-- the name of the index that a handle stands for
abbrev pub index_name : IndexHandle → Name
index_name handle = name_at handle.table.value.indexes handle.place

-- whether a test holds of the name of one of these indexes and its table
abbrev pub any_of : (Table → Name → Bool) → Table → List ListedIndex → Bool
any_of test table indexes = list_any (λ i. test table i.name) indexes

-- whether a test holds of one of these tables and the name of one of its indexes
abbrev pub any_index : (Table → Name → Bool) → List Table → Bool
any_index test tables = list_any (λ t. any_of test t t.indexes) tables

-- whether a test holds of what one of these handles stands for
abbrev pub any_handle : (Table → Name → Bool) → List IndexHandle → Bool
any_handle test handles = list_any (λ h. test h.table.value (index_name h)) handles

-- the handles to indexes of tables that don't have this name
abbrev pub indexes_elsewhere : Name → List IndexHandle → List IndexHandle
indexes_elsewhere name handles = filter (λ h. not (is_same_name h.table.value.name name)) handles

-- handles to the indexes of these tables, and to no others, by rising name
pub record AreIndexesByName (tables : List Table) (handles : List IndexHandle) : Type 0 where
  pub rise : RiseBy index_name handles
  pub same : (test : Table → Name → Bool) → any_handle test handles ≡ any_index test tables

-- the new handles rise where the old ones did, and a test holds of one of them where it holds of an old one or of those that were put among them
pub record AreMore (put : (Table → Name → Bool) → Bool) (old new : List IndexHandle) : Type 0 where
  pub rise : RiseBy index_name old → RiseBy index_name new
  pub same : (test : Table → Name → Bool) → any_handle test new ≡ (any_handle test old || put test)
