-- Entries with one more still rise.
use Rattle.std.proofs.Common.{◌≡◌, ◌+◌, false, List, length}
use Rattle.sqlval.specs.declared.collation.Collation.{Collation}
use Rattle.tree_index.specs.Entries.{Entry, AreEntries, has_entry, with_entry}
use Rattle.tree_index.proofs.Inserts.{still_rise}

pub rise_with : (columns : List Collation) (x : Entry) (entries : List Entry) → AreEntries columns entries → has_entry columns x entries ≡ false → length x ≡ length columns + 1 → AreEntries columns (with_entry columns x entries)
rise_with = still_rise
