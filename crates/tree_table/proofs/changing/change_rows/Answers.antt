use Rattle.std.proofs.Common.{rules, ◌≡◌, ◌∙◌, w64, to_z, of_z, drop, [], Ok, Err, sym}
use Rattle.tree_table.specs.Runs.{IsFirst}
use Rattle.tree_table.proofs.ChangedRuns.{next_changed, all_made, changed_on}
use Rattle.tree_table.proofs.Exits.{full_err, none_left}
use Rattle.tree_table.proofs.changing.change_rows.Goals as goal

pub returns-in_err-count-clause-changed : goal.returns-in_err-count-clause-changed
returns-in_err-count-clause-changed g c = λ told rows used free is.
    (let pages = g.P.Pages in
    let first : IsFirst (to_z w64 (of_z w64 c.in-Some.first.now.rowid)) c.runs.rest.now = search rules in
    full_err _ c.from_residual.result c.in_err-count.field-0.0 c.from_residual.ensures.1
    (next_changed pages.below pages.tells pages.limits pages.map pages.failures c.args.pages.now c.runs.pages (pages.map c.change_run.new.pages) c.args.root c.args.changes.now c.runs.rest.now c.runs.invariant _ first
    (Err c.in_err-count.field-0.0) c.in_err-count.ensures.changed told rows used free is))

pub runs-preserved : goal.runs-preserved
runs-preserved g c =
    let pages = g.P.Pages in
    let has = c.runs.invariant in
    let rest = c.runs.rest.now in
    let count = c.in_ok-count.count in
    let first : IsFirst (to_z w64 (of_z w64 c.in-Some.first.now.rowid)) rest = search rules in
    changed_on pages.below pages.tells pages.limits pages.map pages.failures c.args.pages.now c.change_run.new.pages c.args.root c.args.changes.now (drop count rest) c.split_at.result.1.now (sym c.split_at.ensures.back)
    (record {
      kept = c.in_ok-count.ensures.kept ∙ has.kept;
      causes = search rules;
      made = λ told rows used free is.
          next_changed pages.below pages.tells pages.limits pages.map pages.failures c.args.pages.now c.runs.pages (pages.map c.change_run.new.pages) c.args.root c.args.changes.now rest has _ first
          (Ok (count, c.in_ok-count.field-0-1)) c.in_ok-count.ensures.changed told rows used free is;
    })

pub returns-clause-changed : goal.returns-clause-changed
returns-clause-changed g c = λ told rows used free is.
    (let pages = g.P.Pages in
    let none : c.runs.rest.now ≡ [] = none_left c.runs.rest.now c.in_default.ensures.cases in
    all_made (pages.map c.args.pages.now) (pages.map c.runs.pages) (pages.limits (pages.below c.args.pages.now)).page c.args.root c.args.changes.now c.runs.rest.now rows used free none (c.runs.invariant.made told rows used free is))
