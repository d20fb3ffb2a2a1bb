use Rattle.std.proofs.Common.{rules, SFits, ◌∙◌, ℕ, ℤ, Ok, Err, sym, subst, w64, to_z, refl}
use Rattle.std.proofs.lemmas.Int.{to_z-of_z}
use Rattle.pages.specs.Map.{PageMap}
use Rattle.tree_overflow.proofs.ReadChains.{stays_after, stays_done}
use Rattle.tree_table.specs.Ways.{FindsLastRow}
use Rattle.tree_table.proofs.Batching.{no_place}
use Rattle.tree_table.proofs.FoundRows.{since}
use Rattle.tree_table.proofs.Lasts.{AreUpTo, all_words, leaf_since, some_found, none_left_of, upto_left, is_there, not_there}
use Rattle.tree_table.proofs.LeafRows.{refused}
use Rattle.tree_table.proofs.WaysDown.{UpTo}
use Rattle.tree_table.proofs.finding.last.Goals as goal

pub leaves-init : goal.leaves-init
leaves-init g c = all_words g.P.Pages.below g.P.Pages.tells g.P.Pages.limits g.P.Pages.map g.P.Pages.count g.P.Pages.failures c.args.pages.now c.args.root

pub returns-in_err-end-clause-found : goal.returns-in_err-end-clause-found
returns-in_err-end-clause-found g c = λ told rows used whole tree.
    (let gs = g.P.Pages in
    let fits : SFits w64 c.leaves.most = search rules in
    let has = subst (λ (z : ℤ). AreUpTo gs.below gs.tells gs.limits gs.map gs.count gs.failures c.args.pages.now c.leaves.pages c.args.root z) c.leaves.most-is c.leaves.invariant in
    refused _ _ c.in_err-end.field-0.0 c.from_residual.ensures.1
    (leaf_since gs.below gs.tells gs.limits gs.map gs.count gs.failures c.args.pages.now c.leaves.pages c.args.root c.leaves.most _ (Err c.in_err-end.field-0.0) has
    (to_z-of_z w64 c.leaves.most fits) c.in_err-end.ensures.found told rows used whole tree))

pub returns-in_err-last-clause-found : goal.returns-in_err-last-clause-found
returns-in_err-last-clause-found g c = λ told rows used whole tree.
    (let gs = g.P.Pages in
    let has = c.leaves.invariant in
    let most = to_z w64 c.leaves.most-bits in
    let stays = has.stays in
    let still = c.in_ok-end.ensures.stays in
    let end = leaf_since gs.below gs.tells gs.limits gs.map gs.count gs.failures c.args.pages.now c.leaves.pages c.args.root most most (Ok c.in_ok-end.end) has
    refl c.in_ok-end.ensures.found told rows used whole tree in
    refused _ _ c.in_err-last.field-0.0 c.from_residual-in_err-last.ensures.1
    (since gs.below gs.tells gs.limits gs.map (λ (m : PageMap) (n : ℕ). FindsLastRow m n c.in_ok-end.end.way.page (Err c.in_err-last.field-0.0)) c.args.pages.now c.find_leaf.new.pages
    (still.kept ∙ stays.kept) (still.same ∙ stays.same) c.in_err-last.ensures.found told end.under.t whole end.under.lies end.under.at))

pub returns-then-is_some-clause-found : goal.returns-then-is_some-clause-found
returns-then-is_some-clause-found g c = λ told rows used whole tree.
    (let gs = g.P.Pages in
    let has = c.leaves.invariant in
    let most = to_z w64 c.leaves.most-bits in
    let stays = has.stays in
    let still = c.in_ok-end.ensures.stays in
    let end = leaf_since gs.below gs.tells gs.limits gs.map gs.count gs.failures c.args.pages.now c.leaves.pages c.args.root most most (Ok c.in_ok-end.end) has
    refl c.in_ok-end.ensures.found told rows used whole tree in
    let last = since gs.below gs.tells gs.limits gs.map (λ (m : PageMap) (n : ℕ). FindsLastRow m n c.in_ok-end.end.way.page (Ok c.in_ok-last.last)) c.args.pages.now c.find_leaf.new.pages
    (still.kept ∙ stays.kept) (still.same ∙ stays.same) c.in_ok-last.ensures.found told end.under.t whole end.under.lies end.under.at in
    some_found _ _ most rows c.in_ok-end.end end (has.upto told rows used whole tree) c.in_ok-last.last (is_there c.in_ok-last.last (sym c.is_some.ensures ∙ c.if-is_some.true)) last)

pub returns-in_default-clause-found : goal.returns-in_default-clause-found
returns-in_default-clause-found g c = λ told rows used whole tree.
    (let gs = g.P.Pages in
    let has = c.leaves.invariant in
    let most = to_z w64 c.leaves.most-bits in
    let stays = has.stays in
    let still = c.in_ok-end.ensures.stays in
    let end = leaf_since gs.below gs.tells gs.limits gs.map gs.count gs.failures c.args.pages.now c.leaves.pages c.args.root most most (Ok c.in_ok-end.end) has
    refl c.in_ok-end.ensures.found told rows used whole tree in
    let last = since gs.below gs.tells gs.limits gs.map (λ (m : PageMap) (n : ℕ). FindsLastRow m n c.in_ok-end.end.way.page (Ok c.in_ok-last.last)) c.args.pages.now c.find_leaf.new.pages
    (still.kept ∙ stays.kept) (still.same ∙ stays.same) c.in_ok-last.ensures.found told end.under.t whole end.under.lies end.under.at in
    sym (none_left_of _ _ most rows c.in_ok-end.end end (has.upto told rows used whole tree)
    (sym last ∙ not_there c.in_ok-last.last (sym c.is_some.ensures ∙ c.if-is_some.false)) (no_place c.in_ok-end.end.way.left c.in_default.not-Some)))

pub leaves-preserved : goal.leaves-preserved
leaves-preserved g c =
    let gs = g.P.Pages in
    let has = c.leaves.invariant in
    let most = to_z w64 c.leaves.most-bits in
    let key_fits : SFits w64 c.in-Some.key = search rules in
    let stays = has.stays in
    let still = c.in_ok-end.ensures.stays in
    record {
      stays = stays_done gs.below gs.map gs.count gs.failures (Ok c.in_ok-last.last) c.args.pages.now c.last_row.new.pages
          (stays_after gs.below gs.map gs.count gs.failures (Ok c.in_ok-end.end) (Ok c.in_ok-last.last) c.args.pages.now c.find_leaf.new.pages c.last_row.new.pages
          (stays_after gs.below gs.map gs.count gs.failures _ (Ok c.in_ok-end.end) c.args.pages.now c.leaves.pages c.find_leaf.new.pages stays still) c.in_ok-last.ensures.stays);
      upto = λ told rows used whole tree.
          (let end = leaf_since gs.below gs.tells gs.limits gs.map gs.count gs.failures c.args.pages.now c.leaves.pages c.args.root most most (Ok c.in_ok-end.end) has
          refl c.in_ok-end.ensures.found told rows used whole tree in
          let last = since gs.below gs.tells gs.limits gs.map (λ (m : PageMap) (n : ℕ). FindsLastRow m n c.in_ok-end.end.way.page (Ok c.in_ok-last.last)) c.args.pages.now c.find_leaf.new.pages
          (still.kept ∙ stays.kept) (still.same ∙ stays.same) c.in_ok-last.ensures.found told end.under.t whole end.under.lies end.under.at in
          subst (λ (z : ℤ). UpTo z rows) (sym (to_z-of_z w64 c.in-Some.key key_fits))
          (upto_left _ _ most rows c.in_ok-end.end end (has.upto told rows used whole tree) c.in-Some.key
          (sym last ∙ not_there c.in_ok-last.last (sym c.is_some.ensures ∙ c.if-is_some.false)) c.in-Some.is));
    }
