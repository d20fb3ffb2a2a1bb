use Rattle.std.proofs.Common.{rules, ◌≡◌, ◌∙◌, ◌++◌, ◌∷◌, [], ℤ, pos, Ok, ap, sym, of_z, to_z, w64, SFits, slice_index_or, take}
use Rattle.std.proofs.lemmas.Int.{to_z-of_z}
use Rattle.std.proofs.lemmas.List.{take_more}
use Rattle.std.specs.Prelude.{⊤}
use Rattle.pages.specs.Calls.{Stays}
use Rattle.row_search.proofs.Sought.{all_loaded, none_yet, one_more, one_refused, one_unread}
use Rattle.row_search.proofs.rows.rows_of.Goals as goal

pub rowids-init : goal.rowids-init
rowids-init g c =
    let gs = g.P.Pages in
    none_yet gs.below gs.tells gs.limits gs.map gs.count gs.failures c.args.pages.now c.args.table c.args.rowids.now c.in_ok-rows.rows.items c.in_ok-rows.ensures.items

pub returns-in_err-add_row-clause-loaded : goal.returns-in_err-add_row-clause-loaded
returns-in_err-add_row-clause-loaded g c =
    let gs = g.P.Pages in
    let x = slice_index_or c.args.rowids.now c.rowids.rowid-index (pos 0) in
    one_unread gs.below gs.tells gs.limits gs.map gs.count gs.failures c.args.pages.now c.rowids.pages c.args.table c.args.rowids.now c.rowids.rows.items c.add_row.new.rows.items c.rowids.rowid-index (to_z w64 (of_z w64 x))
    c.rowids.invariant c.in_err-add_row.field-0.0 c.from_residual-in_err-add_row.result c.in_err-add_row.ensures.added c.from_residual-in_err-add_row.ensures.1

pub returns-in_err-add_row-clause-stays : goal.returns-in_err-add_row-clause-stays
returns-in_err-add_row-clause-stays g c =
    let gs = g.P.Pages in
    one_refused gs.below gs.tells gs.limits gs.map gs.count gs.failures c.args.pages.now c.rowids.pages c.args.table c.args.rowids.now c.rowids.rows.items c.add_row.new.rows.items c.rowids.rowid-index (pos 0)
    c.rowids.invariant c.add_row.new.pages c.in_err-add_row.field-0.0 c.from_residual-in_err-add_row.result c.in_err-add_row.ensures.stays c.from_residual-in_err-add_row.ensures.1

pub rowids-preserved : goal.rowids-preserved
rowids-preserved g c =
    let gs = g.P.Pages in
    let x = slice_index_or c.args.rowids.now c.rowids.rowid-index (pos 0) in
    let fits : SFits w64 x = search rules in
    let same : to_z w64 (of_z w64 x) ≡ x = to_z-of_z w64 x fits in
    let stays : Stays gs.below gs.map gs.count gs.failures {T = ⊤} (Ok tt) c.args.pages.now c.add_row.new.pages = search rules in
    let taken = take_more c.args.rowids.now c.rowids.rowid-index (pos 0) c.rowids-test.true ∙ ap (λ (n : ℤ). take c.rowids.rowid-index c.args.rowids.now ++ n ∷ []) (sym same) in
    one_more gs.below gs.tells gs.limits gs.map gs.count gs.failures c.args.pages.now c.rowids.pages c.args.table c.args.rowids.now c.rowids.rows.items c.add_row.new.rows.items c.rowids.rowid-index (to_z w64 (of_z w64 x))
    c.rowids.invariant c.add_row.new.pages taken c.in_ok-add_row.ensures.added stays

pub returns-clause-loaded : goal.returns-clause-loaded
returns-clause-loaded g c =
    let gs = g.P.Pages in
    all_loaded gs.below gs.tells gs.limits gs.map gs.count gs.failures c.args.pages.now c.rowids.pages c.args.table c.args.rowids.now c.rowids.rows.items c.rowids.rowid-index c.rowids.invariant c.rowids-test.false
    c.from_vec.result c.from_vec.ensures
