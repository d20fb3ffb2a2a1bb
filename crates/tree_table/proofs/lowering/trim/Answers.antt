use Rattle.std.proofs.Common.{rules, ◌≡◌, ◌≤◌, ◌∙◌, ℕ, IsTrue, List, [], length, Option, Ok, Err, refl, sym, subst}
use Rattle.pages.specs.Map.{PageMap}
use Rattle.tree_pack.specs.declared.spreading.Packed.{Packed}
use Rattle.tree_store.specs.Storing.{Rewrites}
use Rattle.tree_table.specs.Joining.{JoinsAt}
use Rattle.tree_table.proofs.Descents.{since}
use Rattle.tree_table.proofs.Exits.{full_err, outside_full, none_left}
use Rattle.tree_table.proofs.Roots.{BecomesUpTo}
use Rattle.tree_table.proofs.Settled.{unchanged}
use Rattle.tree_table.proofs.Trimmed.{IsTwoJoined, two_joined, none_joined, trimmed}
use Rattle.tree_table.proofs.lowering.trim.Goals as goal

pub returns-then-root-gt1-clause-trimmed : goal.returns-then-root-gt1-clause-trimmed
returns-then-root-gt1-clause-trimmed g c = λ told rows used free is.
    (let gs = g.P.Pages in
    let first = c.args.pages.now in
    let old = gs.map first in
    let size = (gs.limits (gs.below first)).page in
    unchanged old old size c.args.root rows used free is refl)

pub returns-in_err-ends_bare-clause-trimmed : goal.returns-in_err-ends_bare-clause-trimmed
returns-in_err-ends_bare-clause-trimmed g c = λ told rows used free is.
    (let gs = g.P.Pages in
    let first = c.args.pages.now in
    let old = gs.map first in
    let size = (gs.limits (gs.below first)).page in
    outside_full (λ done. BecomesUpTo old (gs.map c.ends_bare.new.pages) size c.args.root is.tree.depth rows used free) c.from_residual.result c.in_err-ends_bare.field-0.0 c.from_residual.ensures.1
    (c.in_err-ends_bare.ensures.found told rows used free is))

pub returns-then-not-branch-clause-trimmed : goal.returns-then-not-branch-clause-trimmed
returns-then-not-branch-clause-trimmed g c = λ told rows used free is.
    (let gs = g.P.Pages in
    let first = c.args.pages.now in
    let old = gs.map first in
    let size = (gs.limits (gs.below first)).page in
    unchanged old (gs.map c.ends_bare.new.pages) size c.args.root rows used free is (c.in_ok-ends_bare.ensures.stays).same)

pub returns-in_err-packed-clause-trimmed : goal.returns-in_err-packed-clause-trimmed
returns-in_err-packed-clause-trimmed g c = λ told rows used free is.
    (let gs = g.P.Pages in
    let first = c.args.pages.now in
    let old = gs.map first in
    let size = (gs.limits (gs.below first)).page in
    let root = c.args.root in
    let stays = c.in_ok-ends_bare.ensures.stays in
    let new = gs.map c.joined.new.pages in
    let some : 1 ≤ is.tree.depth = c.in_ok-ends_bare.ensures.found told rows used free is c.if-not-branch.false in
    let joins = since gs.below gs.tells gs.limits gs.map first c.ends_bare.new.pages (λ (m : PageMap) (n : ℕ). JoinsAt m new n root 1 (Err c.in_err-packed.field-0.0)) stays.kept stays.same c.in_err-packed.ensures.joined told in
    full_err (λ done. BecomesUpTo old new size root is.tree.depth rows used free) c.from_residual-in_err-packed.result c.in_err-packed.field-0.0 c.from_residual-in_err-packed.ensures.1
    (two_joined old size root rows used free is new (Err c.in_err-packed.field-0.0) some joins))

pub returns-in_default-clause-trimmed : goal.returns-in_default-clause-trimmed
returns-in_default-clause-trimmed g c = λ told rows used free is.
    (let gs = g.P.Pages in
    let first = c.args.pages.now in
    let old = gs.map first in
    let size = (gs.limits (gs.below first)).page in
    let root = c.args.root in
    let stays = c.in_ok-ends_bare.ensures.stays in
    let new = gs.map c.joined.new.pages in
    let some : 1 ≤ is.tree.depth = c.in_ok-ends_bare.ensures.found told rows used free is c.if-not-branch.false in
    let joins = since gs.below gs.tells gs.limits gs.map first c.ends_bare.new.pages (λ (m : PageMap) (n : ℕ). JoinsAt m new n root 1 (Ok c.in_ok-packed.field-0)) stays.kept stays.same c.in_ok-packed.ensures.joined told in
    let joined = two_joined old size root rows used free is new (Ok c.in_ok-packed.field-0) some joins in
    unchanged old new size root rows used free is (none_joined old size root rows used free is new c.in_ok-packed.field-0 c.in_default.not-Some joined))

pub returns-clause-trimmed : goal.returns-clause-trimmed
returns-clause-trimmed g c = λ told rows used free is.
    (let gs = g.P.Pages in
    let first = c.args.pages.now in
    let old = gs.map first in
    let size = (gs.limits (gs.below first)).page in
    let root = c.args.root in
    let stays = c.in_ok-ends_bare.ensures.stays in
    let mid = gs.map c.joined.new.pages in
    let new = gs.map c.put_node.new.pages in
    let some : 1 ≤ is.tree.depth = c.in_ok-ends_bare.ensures.found told rows used free is c.if-not-branch.false in
    let joins = since gs.below gs.tells gs.limits gs.map first c.ends_bare.new.pages (λ (m : PageMap) (n : ℕ). JoinsAt m mid n root 1 (Ok c.in_ok-packed.field-0)) stays.kept stays.same c.in_ok-packed.ensures.joined told in
    let joined = two_joined old size root rows used free is mid (Ok c.in_ok-packed.field-0) some joins in
    let packed = c.in-Some.packed in
    let plan = subst (λ (found : Option Packed). IsTwoJoined old size root rows used free is mid found) c.in-Some.is joined in
    let none : packed.pieces.items ≡ [] = (let none_long : length packed.pieces.items ≡ 0 = search rules in none_left packed.pieces.items none_long) in
    let kept = c.in_ok-packed.ensures.kept ∙ stays.kept in
    let told_mid = subst (λ k. IsTrue (gs.tells k)) (sym kept) told in
    let rewrites = subst (λ k. Rewrites mid new (gs.limits k).page root packed.last.items c.put_node.result) kept
    (subst (λ (bytes : List ℕ). Rewrites mid new (gs.limits (gs.below c.joined.new.pages)).page root bytes c.put_node.result) c.as_slice.ensures.value (c.put_node.ensures.rewritten told_mid)) in
    trimmed old size root rows used free is mid new packed c.put_node.result plan none rewrites)
