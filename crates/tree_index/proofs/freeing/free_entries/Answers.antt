use Rattle.std.proofs.Common.{◌∙◌, ℕ, List, Ok, Err, subst, arith}
use Rattle.freelist.proofs.Causing.{causes_after}
use Rattle.tree_index.specs.Calls.{AreGivenBack}
use Rattle.tree_index.proofs.Givings.{chain_of, up_to_all, next_entry}
use Rattle.tree_index.proofs.Readings.{refused}
use Rattle.tree_index.proofs.freeing.free_entries.Goals as goal

pub returns-in_err-free_entry-clause-freed : goal.returns-in_err-free_entry-clause-freed
returns-in_err-free_entry-clause-freed g c = λ told node entries free is counted.
    (let gs = g.P.Pages in
    refused _ _ c.in_err-free_entry.field-0.0 c.from_residual.ensures.1
    (next_entry gs.below gs.tells gs.limits gs.map gs.failures c.args.pages.now c.entries.pages c.free_entry.new.pages c.args.number c.args.len c.entries.place (Err c.in_err-free_entry.field-0.0) c.entries.invariant c.entries-test.true
    c.in_err-free_entry.ensures.freed told node entries free is counted))

pub entries-preserved : goal.entries-preserved
entries-preserved g c =
    let gs = g.P.Pages in
    let has = c.entries.invariant in
    record {
      kept = c.in_ok-free_entry.ensures.kept ∙ has.kept;
      causes = causes_after (Ok tt) (Ok tt) (gs.failures c.args.pages.now) (gs.failures c.entries.pages) (gs.failures c.free_entry.new.pages) ⊥ ⊥ has.causes c.in_ok-free_entry.ensures.causes;
      given = λ told node entries free is counted.
          next_entry gs.below gs.tells gs.limits gs.map gs.failures c.args.pages.now c.entries.pages c.free_entry.new.pages c.args.number c.args.len c.entries.place (Ok tt) has c.entries-test.true
          c.in_ok-free_entry.ensures.freed told node entries free is counted;
    }

pub returns-clause-freed : goal.returns-clause-freed
returns-clause-freed g c = λ told node entries free is counted.
    (let gs = g.P.Pages in
    let old = gs.map c.args.pages.now in
    let size = (gs.limits (gs.below c.args.pages.now)).page in
    subst (λ (pages : List ℕ). AreGivenBack old (gs.map c.entries.pages) size pages free) (up_to_all chain_of c.entries.place entries (omega (arith, c.entries-test.false, counted))) (c.entries.invariant.given told node entries free is counted))
