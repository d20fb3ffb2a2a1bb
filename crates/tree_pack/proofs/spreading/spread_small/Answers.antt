use Rattle.std.proofs.Common.{◌≡◌, ◌-◌, ℕ, List, [], length, map, ap, subst, arith}
use Rattle.std.proofs.lemmas.Grind.{common_steps}
use Rattle.tree_page.specs.Node.{Node}
use Rattle.tree_pack.specs.Parts.{IsCut}
use Rattle.tree_pack.specs.Building.{cell_room, right_room}
use Rattle.tree_pack.specs.Packing.{up_of, AreOf, images, divider_bytes, Packs}
use Rattle.tree_pack.specs.Spreading.{pages_of, dividing}
use Rattle.tree_pack.proofs.SpreadLemmas.{cut_parts_fit, uncut_fits}
use Rattle.tree_pack.proofs.PackLemmas.{packs_one, packs_several, cut_of, none_is, if_both}
use Rattle.tree_pack.proofs.spreading.spread_small.Goals as goal

pub write-requires : goal.write-requires
write-requires c =
    let cells = map (λ cell. cell.now) c.args.cells.now in
    let kind = c.args.kind in
    let n = c.args.page_size in
    let start = length c.args.front.now in
    let counts = c.in_ok-counts.counts.items in
    let none_cut : counts ≡ [] = none_is counts (grind (arith, common_steps)) in
    let cut = cut_of kind n start c.up_len.result (length c.args.right.now) c.args.rises (map cell_room cells) counts c.up_len.ensures.value c.requires.right c.in_ok-counts.ensures in
    uncut_fits kind n start c.args.rises cells (length c.args.right.now) c.requires.right c.requires.can
    (subst (λ (counts : List ℕ). IsCut (up_of kind) (n - start - 8 - right_room kind) c.args.rises (map cell_room cells) counts) none_cut cut)

pub returns-then-is_empty : goal.returns-then-is_empty
returns-then-is_empty c =
    let cells = map (λ cell. cell.now) c.args.cells.now in
    let kind = c.args.kind in
    let n = c.args.page_size in
    let start = length c.args.front.now in
    let counts = c.in_ok-counts.counts.items in
    let none_cut : counts ≡ [] = none_is counts (grind (arith, common_steps)) in
    let cut = cut_of kind n start c.up_len.result (length c.args.right.now) c.args.rises (map cell_room cells) counts c.up_len.ensures.value c.requires.right c.in_ok-counts.ensures in
    let uncut = subst (λ (counts : List ℕ). IsCut (up_of kind) (n - start - 8 - right_room kind) c.args.rises (map cell_room cells) counts) none_cut cut in
    let fits = uncut_fits kind n start c.args.rises cells (length c.args.right.now) c.requires.right c.requires.can uncut in
    λ node is. packs_one c.args.front.now kind n c.args.rises c.args.right.now cells node (record { pieces = c.new.result; last = c.in_ok-last.last }) fits uncut c.new.ensures.items c.in_ok-last.ensures is

pub write_parts-requires-clause-parts : goal.write_parts-requires-clause-parts
write_parts-requires-clause-parts c =
    let cells = map (λ cell. cell.now) c.args.cells.now in
    let start = length c.args.front.now in
    let counts = c.in_ok-counts.counts.items in
    let cut = cut_of c.args.kind c.args.page_size start c.up_len.result (length c.args.right.now) c.args.rises (map cell_room cells) counts c.up_len.ensures.value c.requires.right c.in_ok-counts.ensures in
    rw c.deref.ensures.value (cut_parts_fit c.args.kind c.args.page_size start c.args.rises cells counts c.requires.can cut)

pub returns : goal.returns
returns c =
    let cells = map (λ cell. cell.now) c.args.cells.now in
    let kind = c.args.kind in
    let n = c.args.page_size in
    let front = c.args.front.now in
    let right = c.args.right.now in
    let rises = c.args.rises in
    let counts = c.in_ok-counts.counts.items in
    let cut = cut_of kind n (length front) c.up_len.result (length right) rises (map cell_room cells) counts c.up_len.ensures.value c.requires.right c.in_ok-counts.ensures in
    let some : counts ≡ [] → ⊥ = λ e. let none_left : length counts ≡ 0 = ap length e in grind (arith, common_steps, none_left) in
    let made = rw c.deref.ensures.value at c.write_parts.ensures in
    λ (node : Node) (is : AreOf kind n right cells node).
    if_both c.write_parts.result (λ packed. images packed ≡ pages_of kind n right counts cells) (λ packed. divider_bytes packed ≡ dividing kind counts cells) (λ packed. Packs kind n front rises cells node packed)
    (λ packed pages ends. packs_several front kind n rises right counts cells node packed c.requires.can c.requires.right cut some pages ends is) made.images made.dividers
