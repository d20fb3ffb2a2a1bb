use Rattle.std.proofs.Common.{Ok, SFits, false, inl, inr, refl, rules, subst, true, w64, ℤ, ◌≡◌}
use Rattle.std.proofs.lemmas.Int.{to_z-of_z}
use Rattle.catalog.specs.Database.{row}
use Rattle.row_change.specs.RowChanges.{same_row}
use Rattle.executor.specs.Rows.{FindsIn}
use Rattle.executor_programs.proofs.Beginning.{passed_on}
use Rattle.executor_programs.proofs.Finishing.{NotSame, found_same, is_known}
use Rattle.executor_programs.proofs.rows.expect_unchanged.Goals as goal

pub returns-in_err-now-clause-expected : goal.returns-in_err-now-clause-expected
returns-in_err-now-clause-expected g c = λ told l db name t here known.
    passed_on (λ done. same_row (row t c.args.old.now.rowid) c.args.old.now.values.items ≡ true) (λ f. NotSame c.args.old.now f t) c.from_residual.result c.in_err-now.field-0.0 c.from_residual.ensures.1
    (inl (c.in_err-now.ensures.found told l db name t here))

pub returns-then-not-is_as_it_was-clause-expected : goal.returns-then-not-is_as_it_was-clause-expected
returns-then-not-is_as_it_was-clause-expected g c = λ told l db name t here known.
    (let fits : SFits w64 c.args.old.now.rowid = search rules in
    let found = subst (λ (n : ℤ). FindsIn (g.P.Pages.map c.args.pages.now) (g.P.Pages.limits (g.P.Pages.below c.args.pages.now)).page c.args.table.now n (Ok c.in_ok-now.now)) (to_z-of_z w64 c.args.old.now.rowid fits) (c.in_ok-now.ensures.found told) in
    let tested : c.is_as_it_was.result ≡ false = search rules in
    inr (found_same c.in_ok-now.now c.args.old.now t c.is_as_it_was.result false (found l db name t here) c.is_as_it_was.ensures tested, refl))

pub returns-clause-expected : goal.returns-clause-expected
returns-clause-expected g c = λ told l db name t here known.
    (let fits : SFits w64 c.args.old.now.rowid = search rules in
    let found = subst (λ (n : ℤ). FindsIn (g.P.Pages.map c.args.pages.now) (g.P.Pages.limits (g.P.Pages.below c.args.pages.now)).page c.args.table.now n (Ok c.in_ok-now.now)) (to_z-of_z w64 c.args.old.now.rowid fits) (c.in_ok-now.ensures.found told) in
    let tested : c.is_as_it_was.result ≡ true = search rules in
    found_same c.in_ok-now.now c.args.old.now t c.is_as_it_was.result true (found l db name t here) c.is_as_it_was.ensures tested)

pub returns-then-is_alone-clause-expected : goal.returns-then-is_alone-clause-expected
returns-then-is_alone-clause-expected g c = λ told l db name t here known.
    is_known t c.args.old.now (known c.if-is_alone.true)
