use Rattle.row_change.specs.Constraints.{with_affinity}
use Rattle.catalog.specs.Listed.{as_column}
use Rattle.std.proofs.Common.{map, subst, ◌≤◌}
use Rattle.row_change.proofs.SetRows.{all_stored}
use Rattle.row_change.proofs.setting.stored_row.Goals as goal

pub returns : goal.returns
returns c =
    all_stored c.args.columns.now c.args.values.now c.columns.new.items c.columns.index (with_affinity (map as_column c.args.columns.now) c.args.values.now)
    (subst (λ n. n ≤ c.columns.index) c.min-most.ensures c.columns-test.false) c.columns.invariant
