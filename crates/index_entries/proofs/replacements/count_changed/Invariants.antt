-- the rows so far have other keys, and with those from here on they are as many as from the first on
use Rattle.std.proofs.Common.{◌≡◌, ◌+◌, ◌-◌, ◌≤◌, drop, map}
use Rattle.index_entries.specs.Keeping.{columns_in, row_in}
use Rattle.index_entries.specs.Replacing.{changed}
use Rattle.index_entries.proofs.replacements.count_changed.Given as goal

abbrev pub invariant-rows : goal.invariant-rows
invariant-rows l = (l.count ≤ l.most) × (l.count + changed (columns_in l.columns) (map row_in (drop l.count l.gone)) (map row_in (drop l.count l.come)) ≡ changed (columns_in l.columns) (map row_in l.gone) (map row_in l.come))

abbrev pub decreases-rows : goal.decreases-rows
decreases-rows l = l.most - l.count
