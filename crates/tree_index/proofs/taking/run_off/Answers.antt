use Rattle.std.proofs.Common.{rules, ◌≡◌, ◌∙◌, ◌<◌, ℕ, Ok, Err, length, slice_index_or, refl, subst, arith}
use Rattle.std.specs.Prelude.{Option}
use Rattle.tree_index.specs.Taking.{TakesNext}
use Rattle.tree_index.proofs.Readings.{refused}
use Rattle.tree_index.proofs.RunOff.{no_more_off, none_of, none_off, off_refused, one_more_off, since_now}
use Rattle.tree_index.proofs.taking.run_off.Goals as goal

pub run-init : goal.run-init
run-init g c =
    let gs = g.P.Pages in
    record {
      kept = refl;
      causes = search rules;
      runs = λ told. none_off (gs.map c.args.pages.now) (gs.limits (gs.below c.args.pages.now)).page c.args.number c.args.columns.now c.args.entries.now;
    }

pub returns-in_err-found-clause-taken : goal.returns-in_err-found-clause-taken
returns-in_err-found-clause-taken g c = λ told ways t free under sized sorted long.
    (let gs = g.P.Pages in
    let old = c.args.pages.now in
    let mid = c.run.pages in
    let size = (gs.limits (gs.below old)).page in
    let number = c.args.number in
    let columns = c.args.columns.now in
    let given = c.args.entries.now in
    let y = c.as_slice-values.result.now in
    let fault = c.in_err-found.field-0.0 in
    let lt : c.run.taken < length given = omega (arith, c.run-test.true) in
    let there : y ≡ slice_index_or given c.run.taken y = search rules in
    let next = since_now gs.below gs.tells gs.limits old mid (λ (n : ℕ). TakesNext (gs.map mid) (gs.map c.next_off.new.pages) n number columns y (Err fault)) c.run.invariant.kept c.in_err-found.ensures.taken told in
    refused _ _ fault c.from_residual.ensures.1
    (off_refused (gs.map old) size number columns given (gs.map mid) c.run.taken (c.run.invariant.runs told) (gs.map c.next_off.new.pages) y fault lt there next ways t free under sized sorted long))

pub returns-in_default-clause-taken : goal.returns-in_default-clause-taken
returns-in_default-clause-taken g c = λ told.
    (let gs = g.P.Pages in
    let old = c.args.pages.now in
    let mid = c.run.pages in
    let size = (gs.limits (gs.below old)).page in
    let number = c.args.number in
    let columns = c.args.columns.now in
    let given = c.args.entries.now in
    let y = c.as_slice-values.result.now in
    let lt : c.run.taken < length given = omega (arith, c.run-test.true) in
    let there : y ≡ slice_index_or given c.run.taken y = search rules in
    let next = since_now gs.below gs.tells gs.limits old mid (λ (n : ℕ). TakesNext (gs.map mid) (gs.map c.next_off.new.pages) n number columns y (Ok c.in_ok-found.field-0)) c.run.invariant.kept c.in_ok-found.ensures.taken told in
    let none = subst (λ (found : Option ℕ). TakesNext (gs.map mid) (gs.map c.next_off.new.pages) size number columns y (Ok found)) (none_of c.in_ok-found.field-0 c.in_default.not-Some) next in
    no_more_off (gs.map old) size number columns given (gs.map mid) c.run.taken (c.run.invariant.runs told) (gs.map c.next_off.new.pages) y lt there none)

pub run-preserved : goal.run-preserved
run-preserved g c =
    let gs = g.P.Pages in
    let old = c.args.pages.now in
    let mid = c.run.pages in
    let size = (gs.limits (gs.below old)).page in
    let number = c.args.number in
    let columns = c.args.columns.now in
    let given = c.args.entries.now in
    let y = c.as_slice-values.result.now in
    let lt : c.run.taken < length given = omega (arith, c.run-test.true) in
    let there : y ≡ slice_index_or given c.run.taken y = search rules in
    record {
      kept = c.in_ok-found.ensures.kept ∙ c.run.invariant.kept;
      causes = search rules;
      runs = λ told.
          (let next = since_now gs.below gs.tells gs.limits old mid (λ (n : ℕ). TakesNext (gs.map mid) (gs.map c.next_off.new.pages) n number columns y (Ok c.in_ok-found.field-0)) c.run.invariant.kept c.in_ok-found.ensures.taken told in
          let one = subst (λ (found : Option ℕ). TakesNext (gs.map mid) (gs.map c.next_off.new.pages) size number columns y (Ok found)) c.in-Some.is next in
          one_more_off (gs.map old) size number columns given (gs.map mid) c.run.taken (c.run.invariant.runs told) (gs.map c.next_off.new.pages) y c.in-Some.found lt there one);
    }

pub returns-clause-taken : goal.returns-clause-taken
returns-clause-taken g c = λ told. c.run.invariant.runs told
