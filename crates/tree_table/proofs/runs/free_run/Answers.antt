use Rattle.std.proofs.Common.{◌≡◌, ◌∙◌, ◌-◌, ℕ, List, Ok, Err, sym, ap, subst}
use Rattle.std.specs.List.{flat_map}
use Rattle.freelist.proofs.Causing.{causes_after}
use Rattle.pages.specs.Map.{PageMap}
use Rattle.tree_page.specs.Payload.{table_most}
use Rattle.tree_table.specs.Freeing.{AreGivenBack}
use Rattle.tree_table.specs.Runs.{picked}
use Rattle.tree_table.proofs.Givings.{chain_of, up_to_all}
use Rattle.tree_table.proofs.LeafRows.{refused}
use Rattle.tree_table.proofs.RunFrees.{all_short, next_freed, all_freed}
use Rattle.tree_table.proofs.runs.free_run.Goals as goal

pub returns-then-are_short-clause-freed : goal.returns-then-are_short-clause-freed
returns-then-are_short-clause-freed g c = λ told ways rowid low t high free under rise.
    (let gs = g.P.Pages in
    let old = gs.map c.args.pages.now in
    let size = (gs.limits (gs.below c.args.pages.now)).page in
    let places = c.args.places.now in
    let stays = c.in_ok-load.ensures.stays in
    let most : c.saturating_sub-most.result ≡ table_most size = c.saturating_sub-most.ensures ∙ ap (λ (n : ℕ). n - 35) c.page_size.ensures ∙ ap (λ k. (gs.limits k).page - 35) stays.kept in
    subst (λ (now : PageMap). AreGivenBack old now size (flat_map (λ held. held.pages) (picked t.rows places)) free) (sym stays.same)
    (all_short old size c.args.leaf ways rowid low t high free under places rise c.loaded.result.now c.saturating_sub-most.result (c.loaded.ensures ∙ c.in_ok-load.ensures.bytes told) most
    (c.are_short.ensures c.if-are_short.true)))

pub returns-in_err-free_row-clause-freed : goal.returns-in_err-free_row-clause-freed
returns-in_err-free_row-clause-freed g c = λ told ways rowid low t high free under rise.
    (let gs = g.P.Pages in
    refused _ _ c.in_err-free_row.field-0.0 c.from_residual-in_err-free_row.ensures.1
    (next_freed gs.below gs.tells gs.limits gs.map gs.failures c.args.pages.now c.places.pages c.free_row.new.pages c.args.leaf c.args.places.now c.places.place-index (Err c.in_err-free_row.field-0.0) c.places.invariant c.places-test.true
    c.in_err-free_row.ensures.freed told ways rowid low t high free under rise))

pub places-preserved : goal.places-preserved
places-preserved g c =
    let gs = g.P.Pages in
    let has = c.places.invariant in
    record {
      kept = c.in_ok-free_row.ensures.kept ∙ has.kept;
      causes = causes_after (Ok tt) (Ok tt) (gs.failures c.args.pages.now) (gs.failures c.places.pages) (gs.failures c.free_row.new.pages) ⊥ ⊥ has.causes c.in_ok-free_row.ensures.causes;
      given = λ told ways rowid low t high free under rise.
          next_freed gs.below gs.tells gs.limits gs.map gs.failures c.args.pages.now c.places.pages c.free_row.new.pages c.args.leaf c.args.places.now c.places.place-index (Ok tt) has c.places-test.true
          c.in_ok-free_row.ensures.freed told ways rowid low t high free under rise;
    }

pub returns-clause-freed : goal.returns-clause-freed
returns-clause-freed g c = λ told ways rowid low t high free under rise.
    (let gs = g.P.Pages in
    let old = gs.map c.args.pages.now in
    let size = (gs.limits (gs.below c.args.pages.now)).page in
    let places = c.args.places.now in
    subst (λ (pages : List ℕ). AreGivenBack old (gs.map c.places.pages) size pages free)
    (up_to_all chain_of c.places.place-index (picked t.rows places) (all_freed t.rows places c.places.place-index c.places-test.false))
    (c.places.invariant.given told ways rowid low t high free under rise))
