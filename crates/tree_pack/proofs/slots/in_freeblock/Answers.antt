use Rattle.std.proofs.Common.{◌+◌, refl, arith}
use Rattle.tree_pack.proofs.SlotLemmas.{shortened_clear, shortened_slot, unlisted_clear, unlisted_slot}
use Rattle.tree_pack.proofs.slots.in_freeblock.Goals as goal

pub returns-then-at-block-lt4-clause-slot : goal.returns-then-at-block-lt4-clause-slot
returns-then-at-block-lt4-clause-slot c =
    let block = c.in_ok-block.block in
    let at = c.in_ok-at.at in
    let taken = c.in_ok-at.ensures in
    let le = c.if-at-block.false in
    let free = c.if-not-are_free.ensures in
    unlisted_slot c.args.page.now c.args.size c.args.pointers.last block.at at block.end (omega (arith, taken)) (free.behind refl) (free.within refl) (omega arith) (omega (arith, le)) c.unlisted.result c.unlisted.ensures.slot

pub returns-else-at-block-lt4-clause-slot : goal.returns-else-at-block-lt4-clause-slot
returns-else-at-block-lt4-clause-slot c =
    let block = c.in_ok-block.block in
    let at = c.in_ok-at.at in
    let taken = c.in_ok-at.ensures in
    let le = c.if-at-block.false in
    let four = c.if-at-block-lt4.false in
    let free = c.if-not-are_free.ensures in
    shortened_slot c.args.page.now c.args.size c.args.pointers.last block.at at block.end (omega (arith, taken)) (free.behind refl) (free.within refl) (omega arith) (omega (arith, le, four)) c.shortened.result c.shortened.ensures.slot

pub returns-then-at-block-lt4-clause-clear : goal.returns-then-at-block-lt4-clause-clear
returns-then-at-block-lt4-clause-clear c =
    λ node is are.
    let block = c.in_ok-block.block in
    let at = c.in_ok-at.at in
    let taken = c.in_ok-at.ensures in
    let le = c.if-at-block.false in
    unlisted_clear c.args.page.now c.args.start node is c.args.size block.at at block.end (omega (arith, taken)) (omega (arith, le)) (c.if-not-are_free.ensures.clear refl node is are) (c.args.pointers.last + 2) c.unlisted.result c.unlisted.ensures.slot (c.unlisted.ensures.clear node is are)

pub returns-else-at-block-lt4-clause-clear : goal.returns-else-at-block-lt4-clause-clear
returns-else-at-block-lt4-clause-clear c =
    λ node is are.
    let block = c.in_ok-block.block in
    let at = c.in_ok-at.at in
    let taken = c.in_ok-at.ensures in
    let le = c.if-at-block.false in
    let four = c.if-at-block-lt4.false in
    shortened_clear c.args.page.now c.args.start node is c.args.size block.at at block.end (omega (arith, taken)) (omega (arith, le)) (c.if-not-are_free.ensures.clear refl node is are) (omega (arith, le, four)) c.shortened.result c.shortened.ensures.slot
