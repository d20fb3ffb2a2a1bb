use Rattle.std.proofs.Common.{IsTrue, Ok, Err, refl, sym, subst}
use Rattle.std.specs.Prelude.{Option}
use Rattle.tree_pack.specs.declared.spreading.Packed.{Packed}
use Rattle.tree_index.specs.Coming.{RunsOn}
use Rattle.tree_index.specs.Growing.{IsLeafChanged, IsPut, PlansLeaf, entries_put}
use Rattle.tree_index.specs.Tree.{pages_of}
use Rattle.tree_index.proofs.Readings.{full_err, outside_full}
use Rattle.tree_index.proofs.RunOff.{none_of}
use Rattle.tree_index.proofs.RunOn.{on_after, on_after_refused}
use Rattle.tree_index.proofs.growing.put_run.Goals as goal

pub returns-in_err-packed-clause-changed : goal.returns-in_err-packed-clause-changed
returns-in_err-packed-clause-changed g c = λ told entry ways t free under sized record_is within sorted long.
    (let gs = g.P.Pages in
    let old = gs.map c.args.pages.now in
    let size = (gs.limits (gs.below c.args.pages.now)).page in
    full_err (IsLeafChanged old (gs.map c.leaf_with.new.pages) size c.args.number c.args.deep c.args.new.key.columns.now c.args.rest.now (entries_put c.args.place entry t) t free)
    c.from_residual.result c.in_err-packed.field-0.0 c.from_residual.ensures.1 (c.in_err-packed.ensures.planned told entry ways t free under sized record_is within))

pub returns-in-Some-clause-changed : goal.returns-in-Some-clause-changed
returns-in-Some-clause-changed g c = λ told entry ways t free under sized record_is within sorted long.
    (let gs = g.P.Pages in
    let old = gs.map c.args.pages.now in
    let size = (gs.limits (gs.below c.args.pages.now)).page in
    let plans = subst (λ (answer : Option Packed). PlansLeaf old (gs.map c.leaf_with.new.pages) size c.args.number c.args.place c.args.new.payload.now (Ok answer)) c.in-Some.is (c.in_ok-packed.ensures.planned told) in
    (refl, plans entry ways t free under sized record_is within))

pub returns-in_err-run_on-clause-changed : goal.returns-in_err-run_on-clause-changed
returns-in_err-run_on-clause-changed g c = λ told entry ways t free under sized record_is within sorted long.
    (let gs = g.P.Pages in
    let old = gs.map c.args.pages.now in
    let mid = gs.map c.leaf_with.new.pages in
    let new = gs.map c.run_on.new.pages in
    let size = (gs.limits (gs.below c.args.pages.now)).page in
    let columns = c.args.new.key.columns.now in
    let rest = c.args.rest.now in
    let entries = entries_put c.args.place entry t in
    let fault = c.in_err-run_on.field-0.0 in
    let plans = subst (λ (answer : Option Packed). PlansLeaf old mid size c.args.number c.args.place c.args.new.payload.now (Ok answer)) (none_of c.in_ok-packed.field-0 c.in_default.not-Some) (c.in_ok-packed.ensures.planned told) in
    let put : IsPut old mid size c.args.number 0 entries (pages_of 0 t) free = plans entry ways t free under sized record_is within in
    let told_mid = subst (λ k. IsTrue (gs.tells k)) (sym c.in_ok-packed.ensures.kept) told in
    let runs = subst (λ k. RunsOn mid new (gs.limits k).page c.args.number columns rest (Err fault)) c.in_ok-packed.ensures.kept (c.in_err-run_on.ensures.put told_mid) in
    outside_full (IsLeafChanged old new size c.args.number c.args.deep columns rest entries t free) c.from_residual-in_err-run_on.result fault c.from_residual-in_err-run_on.ensures.1
    (on_after_refused old mid size c.args.number ways t free under sized columns rest entries sorted long put new fault runs))

pub returns-clause-changed : goal.returns-clause-changed
returns-clause-changed g c = λ told entry ways t free under sized record_is within sorted long.
    (let gs = g.P.Pages in
    let old = gs.map c.args.pages.now in
    let mid = gs.map c.leaf_with.new.pages in
    let new = gs.map c.run_on.new.pages in
    let size = (gs.limits (gs.below c.args.pages.now)).page in
    let columns = c.args.new.key.columns.now in
    let rest = c.args.rest.now in
    let entries = entries_put c.args.place entry t in
    let count = c.in_ok-run_on.field-0 in
    let plans = subst (λ (answer : Option Packed). PlansLeaf old mid size c.args.number c.args.place c.args.new.payload.now (Ok answer)) (none_of c.in_ok-packed.field-0 c.in_default.not-Some) (c.in_ok-packed.ensures.planned told) in
    let put : IsPut old mid size c.args.number 0 entries (pages_of 0 t) free = plans entry ways t free under sized record_is within in
    let told_mid = subst (λ k. IsTrue (gs.tells k)) (sym c.in_ok-packed.ensures.kept) told in
    let runs = subst (λ k. RunsOn mid new (gs.limits k).page c.args.number columns rest (Ok count)) c.in_ok-packed.ensures.kept (c.in_ok-run_on.ensures.put told_mid) in
    on_after old mid size c.args.number ways t free under sized columns rest entries sorted long put new count runs)
