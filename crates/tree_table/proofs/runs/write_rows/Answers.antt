use Rattle.std.proofs.Common.{rules, ◌≡◌, ◌∙◌, ◌++◌, ◌+◌, List, ℕ, [], ◌∷◌, length, map, take, Ok, Err, refl, sym, ap, subst}
use Rattle.std.proofs.lemmas.List.{take_more, take_all, map_push, length_push}
use Rattle.std.specs.Prelude.{IsErrAnd}
use Rattle.sqlval.specs.declared.fault.Fault.TheVariants.{Memory}
use Rattle.tree_table.specs.Runs.{AreWritten, cell_in}
use Rattle.tree_table.specs.declared.changing.RowChange.{RowChange}
use Rattle.tree_table.proofs.Exits.{full_err}
use Rattle.tree_table.proofs.NewCells.{none_yet, next_written, causes_passed, causes_memory, written_on}
use Rattle.tree_table.proofs.runs.write_rows.Goals as goal

pub changes-init : goal.changes-init
changes-init g c = (
  ap length c.in_ok-cells.ensures.items,
  record {
    kept = refl;
    causes = search rules;
    written = λ told free are big.
        (let gs = g.P.Pages in
        subst (λ (cells : List _). AreWritten (gs.map c.args.pages.now) (gs.map c.args.pages.now) (gs.limits (gs.below c.args.pages.now)).page [] free (map cell_in cells)) (sym c.in_ok-cells.ensures.items)
        (none_yet (gs.map c.args.pages.now) (gs.limits (gs.below c.args.pages.now)).page free are));
  },
)

pub returns-in_err-cell-clause-written : goal.returns-in_err-cell-clause-written
returns-in_err-cell-clause-written g c = λ told free are big.
    (let gs = g.P.Pages in
    full_err _ c.from_residual-in_err-cell.result c.in_err-cell.field-0.0 c.from_residual-in_err-cell.ensures.1
    (next_written gs.below gs.tells gs.limits gs.map gs.failures c.args.pages.now c.changes.pages (gs.map c.write_row.new.pages) (take c.changes.change-index c.args.changes.now) (map cell_in c.changes.cells.items) c.changes.invariant.1
    c.change-item.result (Err c.in_err-cell.field-0.0) c.in_err-cell.ensures.written told free are big))

pub returns-in_err-cell-clause-causes : goal.returns-in_err-cell-clause-causes
returns-in_err-cell-clause-causes g c =
    causes_passed c.in_err-cell.field-0.0 c.from_residual-in_err-cell.result _ _ _ _ c.changes.invariant.1.causes c.in_err-cell.ensures.causes c.from_residual-in_err-cell.ensures.1

pub returns-in_err-push-clause-causes : goal.returns-in_err-push-clause-causes
returns-in_err-push-clause-causes g c =
    (let memory : IsErrAnd c.from_residual-in_err-push.result (λ e. e ≡ Memory) = search rules in
    causes_memory c.in_ok-cell.cell c.from_residual-in_err-push.result _ _ _ _ c.changes.invariant.1.causes c.in_ok-cell.ensures.causes memory)

pub changes-preserved : goal.changes-preserved
changes-preserved g c =
    let gs = g.P.Pages in
    let has = c.changes.invariant.1 in
    let changes = c.args.changes.now in
    let i = c.changes.change-index in
    let item = c.change-item.result in
    let more = length_push c.changes.cells.items c.in_ok-cell.cell in (
      ap length c.in_ok-push.ensures.items ∙ more ∙ ap (λ (n : ℕ). n + 1) c.changes.invariant.0,
      written_on gs.below gs.tells gs.limits gs.map gs.failures c.args.pages.now c.write_row.new.pages (take i changes ++ item ∷ []) (take (i + 1) changes)
          (map cell_in c.changes.cells.items ++ cell_in c.in_ok-cell.cell ∷ []) (map cell_in c.push.new.self.items)
          (sym (take_more changes i item c.changes-test.true ∙ ap (λ (x : RowChange). take i changes ++ x ∷ []) (sym c.change-item.is)))
          (sym (ap (λ (cells : List _). map cell_in cells) c.in_ok-push.ensures.items ∙ map_push cell_in c.changes.cells.items c.in_ok-cell.cell))
          (record {
            kept = c.in_ok-cell.ensures.kept ∙ has.kept;
            causes = search rules;
            written = λ told free are big.
                next_written gs.below gs.tells gs.limits gs.map gs.failures c.args.pages.now c.changes.pages (gs.map c.write_row.new.pages) (take i changes) (map cell_in c.changes.cells.items) has
                item (Ok c.in_ok-cell.cell) c.in_ok-cell.ensures.written told free are big;
          }),
    )

pub returns-clause-counted : goal.returns-clause-counted
returns-clause-counted g c = (let count = c.changes.invariant.0 in let end = c.changes-test.false in let within = c.changes.auto in search rules)

pub returns-clause-written : goal.returns-clause-written
returns-clause-written g c = λ told free are big.
    (let gs = g.P.Pages in
    subst (λ (changes : List RowChange). AreWritten (gs.map c.args.pages.now) (gs.map c.changes.pages) (gs.limits (gs.below c.args.pages.now)).page changes free (map cell_in c.changes.cells.items))
    (take_all c.changes.change-index c.args.changes.now c.changes-test.false) (c.changes.invariant.1.written told free are big))
