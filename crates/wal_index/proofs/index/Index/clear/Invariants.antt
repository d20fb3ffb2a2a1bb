use Rattle.std.proofs.Common.{◌≡◌, ◌<◌, ℕ, [], length}
use Rattle.wal_index.specs.Index.{KeepsRoom}
use Rattle.wal_index.specs.Rows.{list_at}
use Rattle.wal_index.proofs.index.Index.clear.Given as goal

abbrev pub invariant-lists : goal.invariant-lists
invariant-lists l = record {
  none : (place : ℕ) → place < l.i → list_at l.self.lists.items place ≡ [];
  kept : KeepsRoom l.fn.self l.self;
  count : length l.self.lists.items ≡ length l.fn.self.lists.items;
}
