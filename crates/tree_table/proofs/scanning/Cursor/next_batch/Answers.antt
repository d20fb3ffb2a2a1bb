use Rattle.std.proofs.Common.{rules, SFits, ◌≡◌, ◌∙◌, ◌++◌, ℤ, Ok, Err, Some, inr, sym, ap, subst, List, [], length, w64, arith}
use Rattle.std.proofs.lemmas.Int.{to_z-of_z}
use Rattle.std.proofs.lemmas.List.{nil_from_length}
use Rattle.tree_leaf.specs.Leaf.{Entry}
use Rattle.tree_overflow.proofs.ReadChains.{stays_after, stays_done}
use Rattle.tree_table.specs.Rows.{rows_from}
use Rattle.tree_table.specs.Scanning.{IsForward}
use Rattle.tree_table.proofs.Batching.{on_forward, given_since, no_place}
use Rattle.tree_table.proofs.LeafRows.{refused}
use Rattle.tree_table.proofs.scanning.Cursor.next_batch.Goals as goal

pub returns-in_err-self-clause-given : goal.returns-in_err-self-clause-given
returns-in_err-self-clause-given g c = λ told rows used whole tree.
    (let gs = g.P.Pages in
    let fits : SFits w64 c.in-Some.next = search rules in
    let plain = to_z-of_z w64 c.in-Some.next fits in
    refused _ _ c.in_err-self.field-0.0 c.from_residual.ensures.1
    (given_since gs.below gs.tells gs.limits gs.map gs.count gs.failures c.args.pages.now c.leaves.pages c.args.self.now.root c.leaves.self.root c.args.self.now.next c.leaves.self.next c.leaves.batch c.next_leaf.new.batch
    c.in-Some.next _ (Err c.in_err-self.field-0.0) c.leaves.invariant c.in-Some.is plain c.in_err-self.ensures.given told rows used whole tree))

pub returns-then-len-gt0-clause-given : goal.returns-then-len-gt0-clause-given
returns-then-len-gt0-clause-given g c = λ told rows used whole tree.
    (let gs = g.P.Pages in
    let fits : SFits w64 c.in-Some.next = search rules in
    let plain = to_z-of_z w64 c.in-Some.next fits in (
      given_since gs.below gs.tells gs.limits gs.map gs.count gs.failures c.args.pages.now c.leaves.pages c.args.self.now.root c.leaves.self.root c.args.self.now.next c.leaves.self.next c.leaves.batch c.next_leaf.new.batch
          c.in-Some.next _ (Ok c.in_ok-self.field-0) c.leaves.invariant c.in-Some.is plain c.in_ok-self.ensures.given told rows used whole tree,
      λ none. absurd (let long = ap length none in omega (arith, long, c.len.ensures, c.if-len-gt0.true)),
    ))

pub leaves-preserved : goal.leaves-preserved
leaves-preserved g c =
    let gs = g.P.Pages in
    let fits : SFits w64 c.in-Some.next = search rules in
    let plain = to_z-of_z w64 c.in-Some.next fits in
    let has = c.leaves.invariant in
    let empty : c.next_leaf.new.batch ≡ [] = nil_from_length c.next_leaf.new.batch (omega (arith, c.len.ensures, c.if-len-gt0.false)) in
    record {
      stays = stays_done gs.below gs.map gs.count gs.failures (Ok c.in_ok-self.field-0) c.args.pages.now c.next_leaf.new.pages
          (stays_after gs.below gs.map gs.count gs.failures _ (Ok c.in_ok-self.field-0) c.args.pages.now c.leaves.pages c.next_leaf.new.pages has.stays c.in_ok-self.ensures.stays);
      same_root = has.same_root;
      on = inr (on_forward c.args.self.now.next c.leaves.self.next c.in_ok-self.field-0 c.in-Some.next has.on c.in-Some.is
          (subst (λ (z : ℤ). IsForward (Some z) c.in_ok-self.field-0) plain c.in_ok-self.ensures.forward));
      empty = empty;
      all = λ told rows used whole tree.
          given_since gs.below gs.tells gs.limits gs.map gs.count gs.failures c.args.pages.now c.leaves.pages c.args.self.now.root c.leaves.self.root c.args.self.now.next c.leaves.self.next c.leaves.batch c.next_leaf.new.batch
          c.in-Some.next _ (Ok c.in_ok-self.field-0) has c.in-Some.is plain c.in_ok-self.ensures.given told rows used whole tree
          ∙ ap (λ (them : List Entry). them ++ rows_from c.in_ok-self.field-0 rows) empty;
    }

pub returns-clause-given : goal.returns-clause-given
returns-clause-given g c = λ told rows used whole tree.
    (let has = c.leaves.invariant in (
      has.all told rows used whole tree ∙ ap (λ (them : List Entry). them ++ rows_from c.leaves.self.next rows) (sym has.empty),
      λ none. no_place c.leaves.self.next c.in_default.not-Some,
    ))
