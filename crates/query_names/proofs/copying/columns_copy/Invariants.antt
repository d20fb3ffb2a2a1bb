-- each column so far is copied
use Rattle.std.proofs.Common.{◌≡◌, take}
use Rattle.query_names.proofs.copying.columns_copy.Given as goal

abbrev pub invariant-columns : goal.invariant-columns
invariant-columns l = l.copies.items ≡ take l.column-index l.columns
