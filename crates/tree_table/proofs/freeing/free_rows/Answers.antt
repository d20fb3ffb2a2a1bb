use Rattle.std.proofs.Common.{◌∙◌, ℕ, List, Ok, Err, subst, arith}
use Rattle.freelist.proofs.Causing.{causes_after}
use Rattle.tree_table.specs.Freeing.{AreGivenBack}
use Rattle.tree_table.proofs.Givings.{chain_of, up_to_all, next_row}
use Rattle.tree_table.proofs.LeafRows.{refused}
use Rattle.tree_table.proofs.freeing.free_rows.Goals as goal

pub returns-in_err-free_row-clause-freed : goal.returns-in_err-free_row-clause-freed
returns-in_err-free_row-clause-freed g c = λ told ways t free is counted.
    (let gs = g.P.Pages in
    refused _ _ c.in_err-free_row.field-0.0 c.from_residual.ensures.1
    (next_row gs.below gs.tells gs.limits gs.map gs.failures c.args.pages.now c.rows.pages c.free_row.new.pages c.args.leaf c.args.len c.rows.place (Err c.in_err-free_row.field-0.0) c.rows.invariant c.rows-test.true
    c.in_err-free_row.ensures.freed told ways t free is counted))

pub rows-preserved : goal.rows-preserved
rows-preserved g c =
    let gs = g.P.Pages in
    let has = c.rows.invariant in
    record {
      kept = c.in_ok-free_row.ensures.kept ∙ has.kept;
      causes = causes_after (Ok tt) (Ok tt) (gs.failures c.args.pages.now) (gs.failures c.rows.pages) (gs.failures c.free_row.new.pages) ⊥ ⊥ has.causes c.in_ok-free_row.ensures.causes;
      given = λ told ways t free is counted.
          next_row gs.below gs.tells gs.limits gs.map gs.failures c.args.pages.now c.rows.pages c.free_row.new.pages c.args.leaf c.args.len c.rows.place (Ok tt) has c.rows-test.true
          c.in_ok-free_row.ensures.freed told ways t free is counted;
    }

pub returns-clause-freed : goal.returns-clause-freed
returns-clause-freed g c = λ told ways t free is counted.
    (let gs = g.P.Pages in
    let old = gs.map c.args.pages.now in
    let size = (gs.limits (gs.below c.args.pages.now)).page in
    subst (λ (pages : List ℕ). AreGivenBack old (gs.map c.rows.pages) size pages free) (up_to_all chain_of c.rows.place t.rows (omega (arith, c.rows-test.false, counted))) (c.rows.invariant.given told ways t free is counted))
