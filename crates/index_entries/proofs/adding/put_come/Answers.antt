use Rattle.std.proofs.Common.{rules, ◌≡◌, ◌∙◌, ℕ, length, subst, arith, Ok, Err}
use Rattle.sqlval.specs.declared.fault.Fault.TheVariants.{Damaged}
use Rattle.sqlval.specs.declared.fault.Damage.TheVariants as Damage
use Rattle.tree_index.specs.Calls.{InsertsRun}
use Rattle.index_entries.proofs.Come.{come_more, come_none, come_refused, never_there}
use Rattle.index_entries.proofs.Looping.{since}
use Rattle.index_entries.proofs.adding.put_come.Goals as goal

pub returns-in_err-count-clause-put : goal.returns-in_err-count-clause-put
returns-in_err-count-clause-put g c = λ told.
    (let pages = g.P.Pages in
    let old = c.args.pages.now in
    let mid = c.runs.pages in
    let new = c.insert_run.new.pages in
    let size = (pages.limits (pages.below old)).page in
    let fault = c.in_err-count.field-0.0 in
    let inserts = since pages.below pages.tells pages.limits old mid (λ (n : ℕ). InsertsRun (pages.map mid) (pages.map new) n c.args.root c.args.under.now c.runs.left.now (Err fault)) c.runs.invariant.kept c.in_err-count.ensures.inserted told in
    c.runs.invariant.decides told (pages.map new) c.from_residual.result
    (come_refused size c.args.root c.args.under.now (pages.map mid) (pages.map new) c.runs.left.now fault inserts c.from_residual.result c.from_residual.ensures.1))

pub returns-then-count-eq0-clause-put : goal.returns-then-count-eq0-clause-put
returns-then-count-eq0-clause-put g c = λ told.
    (let pages = g.P.Pages in
    let old = c.args.pages.now in
    let mid = c.runs.pages in
    let new = c.insert_run.new.pages in
    let size = (pages.limits (pages.below old)).page in
    let inserts = since pages.below pages.tells pages.limits old mid (λ (n : ℕ). InsertsRun (pages.map mid) (pages.map new) n c.args.root c.args.under.now c.runs.left.now (Ok c.in_ok-count.count)) c.runs.invariant.kept c.in_ok-count.ensures.inserted told in
    let none = subst (λ (n : ℕ). InsertsRun (pages.map mid) (pages.map new) size c.args.root c.args.under.now c.runs.left.now (Ok n)) c.if-count-eq0.true inserts in
    let some : length c.runs.left.now ≡ 0 → ⊥ = λ none. grind (arith, none, c.is_empty.ensures, c.runs-test.true) in
    c.runs.invariant.decides told (pages.map new) (Err (Damaged Damage.Index c.args.root))
    (never_there size c.args.root c.args.under.now (pages.map mid) (pages.map new) c.runs.left.now some none (Err (Damaged Damage.Index c.args.root))))

pub runs-preserved : goal.runs-preserved
runs-preserved g c =
    let pages = g.P.Pages in
    let old = c.args.pages.now in
    let mid = c.runs.pages in
    let next = c.insert_run.new.pages in
    let size = (pages.limits (pages.below old)).page in
    record {
      kept = c.in_ok-count.ensures.kept ∙ c.runs.invariant.kept;
      causes = search rules;
      decides = λ told new result rest.
          (let inserts = since pages.below pages.tells pages.limits old mid (λ (n : ℕ). InsertsRun (pages.map mid) (pages.map next) n c.args.root c.args.under.now c.runs.left.now (Ok c.in_ok-count.count)) c.runs.invariant.kept c.in_ok-count.ensures.inserted told in
          c.runs.invariant.decides told new result
          (come_more size c.args.root c.args.under.now (pages.map mid) (pages.map next) new c.runs.left.now c.in_ok-count.count (omega (arith, c.if-count-eq0.false)) inserts c.split_at.result.1.now c.split_at.ensures.back result rest));
    }

pub returns-clause-put : goal.returns-clause-put
returns-clause-put g c = λ told.
    (let pages = g.P.Pages in
    let old = c.args.pages.now in
    let size = (pages.limits (pages.below old)).page in
    c.runs.invariant.decides told (pages.map c.runs.pages) (Ok tt)
    (come_none size c.args.root c.args.under.now (pages.map c.runs.pages) c.runs.left.now (grind (arith, c.is_empty.ensures, c.runs-test.false))))
