use Rattle.std.proofs.Common.{rules, ◌≡◌, ◌∙◌, ℕ, length, subst, arith, Ok, Err}
use Rattle.sqlval.specs.declared.fault.Fault.TheVariants.{Damaged}
use Rattle.sqlval.specs.declared.fault.Damage.TheVariants as Damage
use Rattle.tree_index.specs.Calls.{RemovesRun}
use Rattle.index_entries.proofs.Gone.{gone_more, gone_none, gone_refused, never_missing}
use Rattle.index_entries.proofs.Looping.{since}
use Rattle.index_entries.proofs.taking.take_gone.Goals as goal

pub returns-in_err-count-clause-taken : goal.returns-in_err-count-clause-taken
returns-in_err-count-clause-taken g c = λ told.
    (let pages = g.P.Pages in
    let old = c.args.pages.now in
    let mid = c.runs.pages in
    let new = c.remove_run.new.pages in
    let size = (pages.limits (pages.below old)).page in
    let fault = c.in_err-count.field-0.0 in
    let removes = since pages.below pages.tells pages.limits old mid (λ (n : ℕ). RemovesRun (pages.map mid) (pages.map new) n c.args.root c.args.under.now c.runs.left.now (Err fault)) c.runs.invariant.kept c.in_err-count.ensures.removed told in
    c.runs.invariant.decides told (pages.map new) c.from_residual.result
    (gone_refused size c.args.root c.args.under.now (pages.map mid) (pages.map new) c.runs.left.now fault removes c.from_residual.result c.from_residual.ensures.1))

pub returns-then-count-eq0-clause-taken : goal.returns-then-count-eq0-clause-taken
returns-then-count-eq0-clause-taken g c = λ told.
    (let pages = g.P.Pages in
    let old = c.args.pages.now in
    let mid = c.runs.pages in
    let new = c.remove_run.new.pages in
    let size = (pages.limits (pages.below old)).page in
    let removes = since pages.below pages.tells pages.limits old mid (λ (n : ℕ). RemovesRun (pages.map mid) (pages.map new) n c.args.root c.args.under.now c.runs.left.now (Ok c.in_ok-count.count)) c.runs.invariant.kept c.in_ok-count.ensures.removed told in
    let none = subst (λ (n : ℕ). RemovesRun (pages.map mid) (pages.map new) size c.args.root c.args.under.now c.runs.left.now (Ok n)) c.if-count-eq0.true removes in
    let some : length c.runs.left.now ≡ 0 → ⊥ = λ none. grind (arith, none, c.is_empty.ensures, c.runs-test.true) in
    c.runs.invariant.decides told (pages.map new) (Err (Damaged Damage.Index c.args.root))
    (never_missing size c.args.root c.args.under.now (pages.map mid) (pages.map new) c.runs.left.now some none (Err (Damaged Damage.Index c.args.root))))

pub runs-preserved : goal.runs-preserved
runs-preserved g c =
    let pages = g.P.Pages in
    let old = c.args.pages.now in
    let mid = c.runs.pages in
    let next = c.remove_run.new.pages in
    let size = (pages.limits (pages.below old)).page in
    record {
      kept = c.in_ok-count.ensures.kept ∙ c.runs.invariant.kept;
      causes = search rules;
      decides = λ told new result rest.
          (let removes = since pages.below pages.tells pages.limits old mid (λ (n : ℕ). RemovesRun (pages.map mid) (pages.map next) n c.args.root c.args.under.now c.runs.left.now (Ok c.in_ok-count.count)) c.runs.invariant.kept c.in_ok-count.ensures.removed told in
          c.runs.invariant.decides told new result
          (gone_more size c.args.root c.args.under.now (pages.map mid) (pages.map next) new c.runs.left.now c.in_ok-count.count (omega (arith, c.if-count-eq0.false)) removes c.split_at.result.1.now c.split_at.ensures.back result rest));
    }

pub returns-clause-taken : goal.returns-clause-taken
returns-clause-taken g c = λ told.
    (let pages = g.P.Pages in
    let old = c.args.pages.now in
    let size = (pages.limits (pages.below old)).page in
    c.runs.invariant.decides told (pages.map c.runs.pages) (Ok tt)
    (gone_none size c.args.root c.args.under.now (pages.map c.runs.pages) c.runs.left.now (grind (arith, c.is_empty.ensures, c.runs-test.false))))
