use Rattle.std.proofs.Common.{ℕ, List, subst}
use Rattle.std.specs.Prelude.{MatchResult}
use Rattle.sqlval.specs.Faults.{IsOutside}
use Rattle.freelist.specs.Calls.{Gives}
use Rattle.tree_index.specs.Calls.{AreGivenBack}
use Rattle.tree_index.proofs.Clearing.{whole_given, with_limits}
use Rattle.tree_index.proofs.Emptied.{standing}
use Rattle.tree_index.proofs.Readings.{refused}
use Rattle.tree_index.proofs.freeing.free_tree.Goals as goal

pub returns-in_err-free_below-clause-freed : goal.returns-in_err-free_below-clause-freed
returns-in_err-free_below-clause-freed g c = λ told columns entries used free is.
    (let gs = g.P.Pages in
    let old = c.args.pages.now in
    refused _ _ c.in_err-free_below.field-0.0 c.from_residual.ensures.1
    (c.in_err-free_below.ensures.freed told is.tree.depth is.tree.tree free (standing (gs.map old) (gs.limits (gs.below old)).page c.args.root columns entries used free is)))

pub returns-clause-freed : goal.returns-clause-freed
returns-clause-freed g c = λ told columns entries used free is.
    (let gs = g.P.Pages in
    let old = c.args.pages.now in
    let size = (gs.limits (gs.below old)).page in
    let mid = gs.map c.free_below.new.pages in
    let new = gs.map c.give.new.pages in
    let beside = standing (gs.map old) size c.args.root columns entries used free is in
    let given = c.in_ok-free_below.ensures.freed told is.tree.depth is.tree.tree free beside in
    let gives = with_limits gs.below gs.tells gs.limits (λ (n : ℕ). Gives mid new n c.args.root c.give.result) old c.free_below.new.pages c.in_ok-free_below.ensures.kept c.give.ensures.given told in
    subst (λ (pages : List ℕ). MatchResult c.give.result (λ done. AreGivenBack (gs.map old) new size pages free) IsOutside) is.tree.used_are
    (whole_given (gs.map old) mid new size c.args.root 19 is.tree.depth is.tree.tree free c.give.result beside given gives))
