use Rattle.std.proofs.Common.{◌≡◌, ◌++◌, take}
use Rattle.kinolavust_c.specs.Replies.{rows_bytes}
use Rattle.kinolavust_c.proofs.replies.put_rows.Given as goal

abbrev pub invariant-rows : goal.invariant-rows
invariant-rows l = l.out.items ≡ l.initial.out.items ++ rows_bytes (take l.row-index l.rows)
