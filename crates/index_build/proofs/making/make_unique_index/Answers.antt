use Rattle.std.proofs.Common.{rules, ◌≡◌, List, Bool, true, false, sym, subst, IsTrue}
use Rattle.pages.specs.Map.{PageMap}
use Rattle.tree_index.specs.Entries.{Entry}
use Rattle.tree_index.specs.Filling.{FillsTree}
use Rattle.index_build.specs.Calls.{TellsClash}
use Rattle.index_build.proofs.UniqueMakings.{not_made_apart, clash_refused, made_apart}
use Rattle.index_build.proofs.making.make_unique_index.Goals as goal

pub returns-in_err-sorted-clause-made : goal.returns-in_err-sorted-clause-made
returns-in_err-sorted-clause-made g c = λ told.
    (let p = g.P.Pages in
    let old = c.args.pages.now in
    not_made_apart (p.map old) (p.map c.sorted_entries.new.pages) (p.limits (p.below old)).page c.args.table c.args.columns.now c.in_err-sorted.field-0.0 c.from_residual.result c.from_residual.ensures.1
    c.in_err-sorted.ensures.stays.same (c.in_err-sorted.ensures.sorted told))

-- two rows clash
pub returns-then-has_clash-clause-made : goal.returns-then-has_clash-clause-made
returns-then-has_clash-clause-made g c = λ told.
    (let p = g.P.Pages in
    let old = c.args.pages.now in
    let entries : c.as_slice-entries.result.now ≡ c.in_ok-sorted.sorted = search rules in
    let tells = subst (λ (b : Bool). TellsClash c.args.columns.now c.as_slice-entries.result.now b) c.if-has_clash.true c.has_clash.ensures in
    clash_refused (p.map old) (p.map c.sorted_entries.new.pages) (p.limits (p.below old)).page c.args.table c.args.columns.now c.in_ok-sorted.sorted (c.in_ok-sorted.ensures.sorted told)
    c.in_ok-sorted.ensures.stays.same (subst (λ (l : List Entry). TellsClash c.args.columns.now l true) entries tells))

pub returns-clause-made : goal.returns-clause-made
returns-clause-made g c = λ told.
    (let p = g.P.Pages in
    let old = c.args.pages.now in
    let mid = c.sorted_entries.new.pages in
    let new = p.map c.fill_tree.new.pages in
    let stays = c.in_ok-sorted.ensures.stays in
    let entries : c.as_slice-entries.result.now ≡ c.in_ok-sorted.sorted = search rules in
    let tells = subst (λ (b : Bool). TellsClash c.args.columns.now c.as_slice-entries.result.now b) c.if-has_clash.false c.has_clash.ensures in
    let fills = c.fill_tree.ensures.filled (subst (λ k. IsTrue (p.tells k)) (sym stays.kept) told) in
    let here = subst (λ (m : PageMap). FillsTree m new (p.limits (p.below old)).page c.as_slice-entries.result.now c.fill_tree.result) stays.same
    (subst (λ k. FillsTree (p.map mid) new (p.limits k).page c.as_slice-entries.result.now c.fill_tree.result) stays.kept fills) in
    made_apart (p.map old) new (p.limits (p.below old)).page c.args.table c.args.columns.now c.in_ok-sorted.sorted (c.in_ok-sorted.ensures.sorted told) c.fill_tree.result
    (subst (λ (l : List Entry). TellsClash c.args.columns.now l false) entries tells)
    (subst (λ (l : List Entry). FillsTree (p.map old) new (p.limits (p.below old)).page l c.fill_tree.result) entries here))
