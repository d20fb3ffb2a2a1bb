use Rattle.std.proofs.Common.{◌≡◌, ◌++◌, ◌+◌, List, ℤ, pos, [], ◌∷◌, take, sym, subst}
use Rattle.tree_table.specs.Rows.{with_changes}
use Rattle.tree_table.specs.declared.changing.RowChange.{RowChange}
use Rattle.row_change.specs.Taking.{without_rows}
use Rattle.row_change.proofs.Taken.{one_further, removal_on, up_to_end}
use Rattle.row_change.proofs.taking.removals.Goals as goal

pub rowids-preserved : goal.rowids-preserved
rowids-preserved c = λ rows.
    (let rowids = c.args.rowids.now in
    let i = c.rowids.rowid-index in
    let change = c.removal.result in
    subst (λ (cs : List RowChange). with_changes cs rows ≡ without_rows (take (i + 1) rowids) rows) (sym c.in_ok-push.ensures.items)
    (subst (λ (them : List ℤ). with_changes (c.rowids.changes.items ++ change ∷ []) rows ≡ without_rows them rows) (one_further rowids i change.rowid (pos 0) c.rowids-test.true c.removal.ensures.rowid)
    (removal_on c.rowids.changes.items change (take i rowids) rows c.removal.ensures.none (c.rowids.invariant rows))))

pub returns-clause-made : goal.returns-clause-made
returns-clause-made c = λ rows.
    subst (λ (them : List ℤ). with_changes c.rowids.changes.items rows ≡ without_rows them rows) (up_to_end c.args.rowids.now c.rowids.rowid-index c.rowids-test.false) (c.rowids.invariant rows)
