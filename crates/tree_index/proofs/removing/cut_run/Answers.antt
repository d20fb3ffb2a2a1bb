use Rattle.std.proofs.Common.{IsTrue, Ok, Err, sym, subst}
use Rattle.std.specs.Prelude.{Option}
use Rattle.tree_pack.specs.declared.spreading.Packed.{Packed}
use Rattle.tree_index.specs.Joining.{without_at}
use Rattle.tree_index.specs.Removing.{CutsLeaf}
use Rattle.tree_index.specs.Taking.{RunsOff}
use Rattle.tree_index.specs.Tree.{entries_of}
use Rattle.tree_index.proofs.Readings.{outside_full}
use Rattle.tree_index.proofs.RunOff.{none_of, run_after, run_refused}
use Rattle.tree_index.proofs.removing.cut_run.Goals as goal

pub returns-in_err-packed-clause-taken : goal.returns-in_err-packed-clause-taken
returns-in_err-packed-clause-taken g c = λ told ways t free under sized lt rise long.
    outside_full _ c.from_residual.result c.in_err-packed.field-0.0 c.from_residual.ensures.1 (c.in_err-packed.ensures.cut told ways t free under sized lt)

pub returns-in-Some-clause-taken : goal.returns-in-Some-clause-taken
returns-in-Some-clause-taken g c = λ told ways t free under sized lt rise long.
    (let gs = g.P.Pages in
    let old = gs.map c.args.pages.now in
    let size = (gs.limits (gs.below c.args.pages.now)).page in
    let mid = gs.map c.cut_leaf.new.pages in
    subst (λ (packed : Option Packed). CutsLeaf old mid size c.args.number c.args.place (Ok packed)) c.in-Some.is (c.in_ok-packed.ensures.cut told) ways t free under sized lt)

pub returns-in_err-run_off-clause-taken : goal.returns-in_err-run_off-clause-taken
returns-in_err-run_off-clause-taken g c = λ told ways t free under sized lt rise long.
    (let gs = g.P.Pages in
    let old = gs.map c.args.pages.now in
    let size = (gs.limits (gs.below c.args.pages.now)).page in
    let number = c.args.number in
    let columns = c.args.columns.now in
    let given = c.args.rest.now in
    let mid = gs.map c.cut_leaf.new.pages in
    let new = gs.map c.run_off.new.pages in
    let fault = c.in_err-run_off.field-0.0 in
    let kept = c.in_ok-packed.ensures.kept in
    let told_mid = subst (λ k. IsTrue (gs.tells k)) (sym kept) told in
    let put = subst (λ (packed : Option Packed). CutsLeaf old mid size number c.args.place (Ok packed)) (none_of c.in_ok-packed.field-0 c.in_default.not-Some) (c.in_ok-packed.ensures.cut told) ways t free under sized lt in
    let runs = subst (λ k. RunsOff mid new (gs.limits k).page number columns given (Err fault)) kept (c.in_err-run_off.ensures.taken told_mid) in
    outside_full _ c.from_residual-in_err-run_off.result fault c.from_residual-in_err-run_off.ensures.1
    (run_refused old mid size number ways t free under sized columns given (without_at c.args.place (entries_of 0 t)) rise long put new fault runs))

pub returns-clause-taken : goal.returns-clause-taken
returns-clause-taken g c = λ told ways t free under sized lt rise long.
    (let gs = g.P.Pages in
    let old = gs.map c.args.pages.now in
    let size = (gs.limits (gs.below c.args.pages.now)).page in
    let number = c.args.number in
    let columns = c.args.columns.now in
    let given = c.args.rest.now in
    let mid = gs.map c.cut_leaf.new.pages in
    let new = gs.map c.run_off.new.pages in
    let kept = c.in_ok-packed.ensures.kept in
    let told_mid = subst (λ k. IsTrue (gs.tells k)) (sym kept) told in
    let put = subst (λ (packed : Option Packed). CutsLeaf old mid size number c.args.place (Ok packed)) (none_of c.in_ok-packed.field-0 c.in_default.not-Some) (c.in_ok-packed.ensures.cut told) ways t free under sized lt in
    let runs = subst (λ k. RunsOff mid new (gs.limits k).page number columns given (Ok c.in_ok-run_off.field-0)) kept (c.in_ok-run_off.ensures.taken told_mid) in
    run_after old mid size number ways t free under sized columns given (without_at c.args.place (entries_of 0 t)) rise long put new c.in_ok-run_off.field-0 runs)
