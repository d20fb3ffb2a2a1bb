use Rattle.std.proofs.Common.{rules, ◌≡◌, ◌∙◌, ◌<◌, ℕ, Ok, Err, length, slice_index_or, refl, subst, arith}
use Rattle.std.specs.Prelude.{Option}
use Rattle.tree_index.specs.Coming.{PutsNext}
use Rattle.tree_index.proofs.Readings.{refused}
use Rattle.tree_index.proofs.RunOff.{none_of, since_now}
use Rattle.tree_index.proofs.RunOn.{no_more_on, none_on, on_refused, one_more_on}
use Rattle.tree_index.proofs.coming.run_on.Goals as goal

pub run-init : goal.run-init
run-init g c =
    let gs = g.P.Pages in
    record {
      kept = refl;
      causes = search rules;
      runs = λ told. none_on (gs.map c.args.pages.now) (gs.limits (gs.below c.args.pages.now)).page c.args.number c.args.columns.now c.args.entries.now;
    }

pub returns-in_err-found-clause-put : goal.returns-in_err-found-clause-put
returns-in_err-found-clause-put g c = λ told ways t free under sized sorted long.
    (let gs = g.P.Pages in
    let old = c.args.pages.now in
    let mid = c.run.pages in
    let size = (gs.limits (gs.below old)).page in
    let number = c.args.number in
    let columns = c.args.columns.now in
    let given = c.args.entries.now in
    let y = c.as_slice-values.result.now in
    let fault = c.in_err-found.field-0.0 in
    let lt : c.run.put < length given = omega (arith, c.run-test.true) in
    let there : y ≡ slice_index_or given c.run.put y = search rules in
    let next = since_now gs.below gs.tells gs.limits old mid (λ (n : ℕ). PutsNext (gs.map mid) (gs.map c.next_on.new.pages) n number columns y (Err fault)) c.run.invariant.kept c.in_err-found.ensures.put told in
    refused _ _ fault c.from_residual.ensures.1
    (on_refused (gs.map old) size number columns given (gs.map mid) c.run.put (c.run.invariant.runs told) (gs.map c.next_on.new.pages) y fault lt there next ways t free under sized sorted long))

pub returns-in_default-clause-put : goal.returns-in_default-clause-put
returns-in_default-clause-put g c = λ told.
    (let gs = g.P.Pages in
    let old = c.args.pages.now in
    let mid = c.run.pages in
    let size = (gs.limits (gs.below old)).page in
    let number = c.args.number in
    let columns = c.args.columns.now in
    let given = c.args.entries.now in
    let y = c.as_slice-values.result.now in
    let lt : c.run.put < length given = omega (arith, c.run-test.true) in
    let there : y ≡ slice_index_or given c.run.put y = search rules in
    let next = since_now gs.below gs.tells gs.limits old mid (λ (n : ℕ). PutsNext (gs.map mid) (gs.map c.next_on.new.pages) n number columns y (Ok c.in_ok-found.field-0)) c.run.invariant.kept c.in_ok-found.ensures.put told in
    let none = subst (λ (found : Option ℕ). PutsNext (gs.map mid) (gs.map c.next_on.new.pages) size number columns y (Ok found)) (none_of c.in_ok-found.field-0 c.in_default.not-Some) next in
    no_more_on (gs.map old) size number columns given (gs.map mid) c.run.put (c.run.invariant.runs told) (gs.map c.next_on.new.pages) y lt there none)

pub run-preserved : goal.run-preserved
run-preserved g c =
    let gs = g.P.Pages in
    let old = c.args.pages.now in
    let mid = c.run.pages in
    let size = (gs.limits (gs.below old)).page in
    let number = c.args.number in
    let columns = c.args.columns.now in
    let given = c.args.entries.now in
    let y = c.as_slice-values.result.now in
    let lt : c.run.put < length given = omega (arith, c.run-test.true) in
    let there : y ≡ slice_index_or given c.run.put y = search rules in
    record {
      kept = c.in_ok-found.ensures.kept ∙ c.run.invariant.kept;
      causes = search rules;
      runs = λ told.
          (let next = since_now gs.below gs.tells gs.limits old mid (λ (n : ℕ). PutsNext (gs.map mid) (gs.map c.next_on.new.pages) n number columns y (Ok c.in_ok-found.field-0)) c.run.invariant.kept c.in_ok-found.ensures.put told in
          let one = subst (λ (found : Option ℕ). PutsNext (gs.map mid) (gs.map c.next_on.new.pages) size number columns y (Ok found)) c.in-Some.is next in
          one_more_on (gs.map old) size number columns given (gs.map mid) c.run.put (c.run.invariant.runs told) (gs.map c.next_on.new.pages) y c.in-Some.found lt there one);
    }

pub returns-clause-put : goal.returns-clause-put
returns-clause-put g c = λ told. c.run.invariant.runs told
