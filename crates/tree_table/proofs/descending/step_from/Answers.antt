use Rattle.std.proofs.Common.{◌∙◌, ℕ, ℤ, w64, List, sym, subst}
use Rattle.std.proofs.lemmas.Int.{to_z-of_z}
use Rattle.tree_table.specs.Stepping.{IsStep}
use Rattle.pages.specs.Counting.{start_of}
use Rattle.tree_page.specs.Node.{IsNode}
use Rattle.tree_table.proofs.descending.step_from.Goals as goal

pub returns-in-Ok-clause-found : goal.returns-in-Ok-clause-found
returns-in-Ok-clause-found g c = λ told node numbers whole says numbered rising.
    (let bytes = c.loaded.ensures ∙ c.in_ok-load.ensures.bytes told in
    subst (λ (z : ℤ). IsStep z node c.in-Ok.step) (to_z-of_z w64 c.args.rowid c.ranges.rowid) (c.in-Ok.ensures.found node numbers (subst (λ (start : ℕ). IsNode c.loaded.result.now start node) (sym c.start_of.ensures)
    (subst (λ (page : List ℕ). IsNode page (start_of c.args.number) node) (sym bytes) says.node_is)) numbered rising))

pub returns-in-Err-clause-found : goal.returns-in-Err-clause-found
returns-in-Err-clause-found g c = λ told node numbers whole says numbered rising.
    (let bytes = c.loaded.ensures ∙ c.in_ok-load.ensures.bytes told in
    absurd (c.in-Err.ensures.found node numbers (subst (λ (start : ℕ). IsNode c.loaded.result.now start node) (sym c.start_of.ensures)
    (subst (λ (page : List ℕ). IsNode page (start_of c.args.number) node) (sym bytes) says.node_is)) numbered rising))
