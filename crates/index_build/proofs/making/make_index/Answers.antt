use Rattle.std.proofs.Common.{rules, ◌≡◌, List, sym, subst, IsTrue}
use Rattle.pages.specs.Map.{PageMap}
use Rattle.tree_index.specs.Entries.{Entry}
use Rattle.tree_index.specs.Filling.{FillsTree}
use Rattle.index_build.proofs.Makings.{not_made, index_made}
use Rattle.index_build.proofs.making.make_index.Goals as goal

pub returns-in_err-entries-clause-made : goal.returns-in_err-entries-clause-made
returns-in_err-entries-clause-made g c = λ told.
    (let p = g.P.Pages in
    let old = c.args.pages.now in
    not_made (p.map old) _ (p.limits (p.below old)).page c.args.table c.args.columns.now c.in_err-entries.field-0.0 c.from_residual.result c.from_residual.ensures.1
    (λ rows free free_are has. c.in_err-entries.ensures.sorted told rows free_are.whole has))

pub returns-clause-made : goal.returns-clause-made
returns-clause-made g c = λ told.
    (let p = g.P.Pages in
    let old = c.args.pages.now in
    let mid = c.sorted_entries.new.pages in
    let new = p.map c.fill_tree.new.pages in
    let stays = c.in_ok-entries.ensures.stays in
    let entries : c.as_slice.result.now ≡ c.in_ok-entries.entries = search rules in
    let fills = c.fill_tree.ensures.filled (subst (λ k. IsTrue (p.tells k)) (sym stays.kept) told) in
    let here = subst (λ (m : PageMap). FillsTree m new (p.limits (p.below old)).page c.as_slice.result.now c.fill_tree.result) stays.same
    (subst (λ k. FillsTree (p.map mid) new (p.limits k).page c.as_slice.result.now c.fill_tree.result) stays.kept fills) in
    index_made (p.map old) new (p.limits (p.below old)).page c.args.table c.args.columns.now c.in_ok-entries.entries c.fill_tree.result (c.in_ok-entries.ensures.sorted told)
    (subst (λ (l : List Entry). FillsTree (p.map old) new (p.limits (p.below old)).page l c.fill_tree.result) entries here))
