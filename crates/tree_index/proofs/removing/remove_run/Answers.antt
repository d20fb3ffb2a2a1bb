use Rattle.std.proofs.Common.{ℕ, List, Ok, Err, refl, sym, subst}
use Rattle.std.specs.Prelude.{Option}
use Rattle.tree_index.specs.Calls.{RemovesRun}
use Rattle.tree_index.specs.Entries.{Entry}
use Rattle.tree_index.specs.Removing.{RemovesFirst}
use Rattle.tree_index.proofs.Removed.{first_missing, none_first, run_counted, run_unremoved}
use Rattle.tree_index.proofs.removing.remove_run.Goals as goal

pub returns-in_default-clause-removed : goal.returns-in_default-clause-removed
returns-in_default-clause-removed g c = λ told entries used free is long.
    (none_first c.args.columns.now c.args.entries.now entries c.in_default.ensures.cases, refl)

pub returns-in_err-more-clause-removed : goal.returns-in_err-more-clause-removed
returns-in_err-more-clause-removed g c = λ told.
    (let gs = g.P.Pages in
    let old = c.args.pages.now in
    let new = gs.map c.removed.new.pages in
    let size = (gs.limits (gs.below old)).page in
    let columns = c.args.columns.now in
    let first = c.in-Some.first.now in
    let rest = c.in-Some.rest.now in
    let fault = c.in_err-more.field-0.0 in
    let removes = subst (λ (x : Entry). RemovesFirst (gs.map old) new size c.args.root columns x rest (Err fault)) c.as_slice.ensures (c.in_err-more.ensures.removed told) in
    subst (λ (given : List Entry). RemovesRun (gs.map old) new size c.args.root columns given c.from_residual.result) (sym c.in-Some.ensures.cases.0)
    (run_unremoved (gs.map old) new size c.args.root columns first rest fault removes c.from_residual.result c.from_residual.ensures.1))

pub returns-in-Some-2-clause-removed : goal.returns-in-Some-2-clause-removed
returns-in-Some-2-clause-removed g c = λ told entries used free is long.
    (let gs = g.P.Pages in
    let old = c.args.pages.now in
    let new = gs.map c.removed.new.pages in
    let size = (gs.limits (gs.below old)).page in
    let columns = c.args.columns.now in
    let first = c.in-Some.first.now in
    let rest = c.in-Some.rest.now in
    let removed = c.in_ok-more.field-0 in
    let removes = subst (λ (x : Entry). RemovesFirst (gs.map old) new size c.args.root columns x rest (Ok removed)) c.as_slice.ensures (c.in_ok-more.ensures.removed told) in
    let some = subst (λ (out : Option ℕ). RemovesFirst (gs.map old) new size c.args.root columns first rest (Ok out)) c.in-Some-2.is removes in
    let whole = c.in-Some.ensures.cases.0 in
    run_counted (gs.map old) new size c.args.root columns first rest c.args.entries.now whole c.in-Some-2.more some c.with_first.result
    c.with_first.ensures.counted entries used free is long)

pub returns-in-None-clause-removed : goal.returns-in-None-clause-removed
returns-in-None-clause-removed g c = λ told.
    (let gs = g.P.Pages in
    let old = c.args.pages.now in
    let new = gs.map c.removed.new.pages in
    let size = (gs.limits (gs.below old)).page in
    let columns = c.args.columns.now in
    let first = c.in-Some.first.now in
    let rest = c.in-Some.rest.now in
    let removed = c.in_ok-more.field-0 in
    let removes = subst (λ (x : Entry). RemovesFirst (gs.map old) new size c.args.root columns x rest (Ok removed)) c.as_slice.ensures (c.in_ok-more.ensures.removed told) in
    let none = subst (λ (out : Option ℕ). RemovesFirst (gs.map old) new size c.args.root columns first rest (Ok out)) c.in-None.is removes in
    subst (λ (given : List Entry). RemovesRun (gs.map old) new size c.args.root columns given (Ok 0)) (sym c.in-Some.ensures.cases.0)
    (first_missing (gs.map old) new size c.args.root columns first rest none))
