-- The cells of two pages, packed together.
use Rattle.std.proofs.Common.{◌≡◌, ◌≤◌, ◌<◌, ◌+◌, ◌-◌, ℕ, zero, false, List, [], ◌∷◌, ◌++◌, length, map, refl, sym, ap, subst, ◌∙◌, inl, arith}
use Rattle.std.proofs.lemmas.List.{append-nil}
use Rattle.std.specs.Int.{w32, to_be_bytes}
use Rattle.std.specs.Prelude.{Result, Ok, Err, MatchResult}
use Rattle.sqlval.specs.PageSizes.{IsPageSize}
use Rattle.sqlval.specs.declared.fault.Fault.{Fault}
use Rattle.sqlval.specs.declared.fault.Fault.TheVariants.{Memory}
use Rattle.tree_page.specs.Cells.{Pairwise}
use Rattle.tree_page.specs.Node.{Local, Between, IsNode, IsBetweenCell}
use Rattle.tree_page.specs.declared.items.Kind.TheVariants.{IndexInterior}
use Rattle.tree_pack.specs.Building.{cell_room}
use Rattle.tree_pack.specs.Packing.{AreOf, Packs}
use Rattle.tree_pack.specs.Parts.{total}
use Rattle.tree_pack.specs.Splicing.{Joins}
use Rattle.tree_pack.specs.declared.spreading.Packed.{Packed}
use Rattle.tree_pack.proofs.Splices.{pairwise_append}
use Rattle.tree_store.specs.Sides.{Side}
use Rattle.tree_index.specs.Growing.{replaced, IsFanned}
use Rattle.tree_index.specs.Joining.{Merges, IsSeamed}
use Rattle.tree_store.specs.Storing.{cells_of}
use Rattle.tree_store.specs.declared.storing.Fan.{Fan}
use Rattle.tree_index.proofs.Emptied.{large_size}
use Rattle.tree_index.proofs.Fans.{between_third}
use Rattle.tree_index.proofs.Leaves.{usual, at_most}
use Rattle.tree_index.proofs.OneLess.{IsOnePage, one_page}
use Rattle.tree_pack.proofs.Rooms.{cells_fit}
use Rattle.tree_index.proofs.Sums.{room_append}
use Rattle.tree_index.proofs.Tops.{branch_few}

-- what joining refuses is short memory
pub merges : (left : List ℕ) (between : List (List ℕ)) (right : List ℕ) (result : Result Packed Fault) → Joins left between right result → Merges left between right result
merges left between right (Ok packed) joins = joins
merges left between right (Err fault) joins = λ kind a b new is_a is_b usual long kinds codes are. inl (joins kind a b new is_a is_b usual long kinds codes are)

-- ---- with a fan in place of two children

abbrev Item : Type 0
Item = ℕ × Local

-- a page alone, whose first child has another number
pub first_moved : (page : List ℕ) (size : ℕ) (fan : Fan) (more : List Item) (end : ℕ) (packed : Packed) → cells_of fan ≡ [] → length page ≡ size → IsFanned page (replaced zero ([], fan.last) more end) fan packed
    → IsOnePage size (Between (replaced zero ([], fan.last) more end).0 (replaced zero ([], fan.last) more end).1) packed
first_moved page size fan more end packed none long is =
    let s = replaced zero ([], fan.last) more end in
    one_page size is.rises is.cells s.0 s.1 packed (subst (λ (n : ℕ). Packs IndexInterior n [] is.rises is.cells (Between s.0 s.1) packed) long is.packs)
    (let room = is.room in let e = ap (λ (cells : List (List ℕ)). total (map cell_room cells)) none in omega (arith, room, long, e))

-- the first child of a row, and those in front of it
in_front : (news : List Item) (new : ℕ) (more : List Item) (end : ℕ) → (news ++ (replaced zero ([], new) more end).0, (replaced zero ([], new) more end).1) ≡ replaced zero (news, new) more end
in_front news new [] end = ap (λ (xs : List Item). (xs, new)) (append-nil news)
in_front news new (item ∷ more) end = refl

module _ (left right : List ℕ) (size : ℕ) (fan : Fan) (said news more : List Item) (last end : ℕ) (is_left : IsNode left 0 (Between said last)) (sized : IsPageSize size) (long_left : length left ≡ size)
    (cells : Pairwise (IsBetweenCell size) (cells_of fan) news) (few : length news ≤ 2)
    (is_right : IsNode right 0 (Between (replaced zero ([], fan.last) more end).0 (replaced zero ([], fan.last) more end).1)) (long_right : length right ≡ size) where
  abbrev moved : Side ℕ Local
  moved = replaced zero ([], fan.last) more end

  abbrev all_said : List Item
  all_said = said ++ (news ++ moved.0)

  abbrev all_cells : List (List ℕ)
  all_cells = is_left.cells ++ (cells_of fan ++ is_right.cells)

  say : Pairwise (IsBetweenCell (length left)) all_cells all_said
  say = pairwise_append (IsBetweenCell (length left)) is_left.cells (cells_of fan ++ is_right.cells) said (news ++ moved.0) is_left.say.0
      (pairwise_append (IsBetweenCell (length left)) (cells_of fan) is_right.cells news moved.0 (subst (λ (n : ℕ). Pairwise (IsBetweenCell n) (cells_of fan) news) (sym long_left) cells)
      (subst (λ (n : ℕ). Pairwise (IsBetweenCell n) is_right.cells moved.0) (long_right ∙ sym long_left) is_right.say.0))

  are : AreOf IndexInterior (length left) (to_be_bytes w32 moved.1) all_cells (Between all_said moved.1)
  are = record { kind_is = refl; right_is = refl; say = (say, is_right.say.1) }

  side_is : (all_said, moved.1) ≡ replaced (length said) (replaced zero (news, fan.last) more end) said last
  side_is = ap (λ (s : Side ℕ Local). (said ++ s.0, s.1)) (in_front news fan.last more end) ∙ sym (at_end said (replaced zero (news, fan.last) more end))
    where
      at_end : (said : List Item) (s : Side ℕ Local) → replaced (length said) s said last ≡ (said ++ s.0, s.1)
      at_end [] s = refl
      at_end (item ∷ said) s = ap (λ (side : Side ℕ Local). (item ∷ side.0, side.1)) (at_end said s)

  small : total (map cell_room (cells_of fan)) + 12 < size
  small = by (cells_of fan) news cells few where
    by : (cells : List (List ℕ)) (items : List Item) → Pairwise (IsBetweenCell size) cells items → length items ≤ 2 → total (map cell_room cells) + 12 < size
    by [] [] all le = (let big = (large_size size sized).0 in omega (arith, big))
    by [] (it ∷ items) all le = absurd all
    by (cell ∷ cells) [] all le = absurd all
    by (cell ∷ []) (it ∷ []) all le = (let big = (large_size size sized).0 in let one = between_third size cell it big all.0 in omega (arith, one, big))
    by (cell ∷ []) (it ∷ other ∷ items) all le = absurd all.1
    by (cell ∷ other ∷ []) (it ∷ []) all le = absurd all.1
    by (cell ∷ other ∷ []) (it ∷ more ∷ []) all le =
        (let big = (large_size size sized).0 in let one = between_third size cell it big all.0 in let two = between_third size other more big all.1.0 in omega (arith, one, two, big))
    by (cell ∷ other ∷ []) (it ∷ more ∷ another ∷ items) all le = absurd (omega (arith, le))
    by (cell ∷ other ∷ third ∷ cells) (it ∷ []) all le = absurd all.1
    by (cell ∷ other ∷ third ∷ cells) (it ∷ more ∷ []) all le = absurd all.1.1
    by (cell ∷ other ∷ third ∷ cells) (it ∷ more ∷ another ∷ items) all le = absurd (omega (arith, le))

  seamed : (packed : Packed) → Packs IndexInterior (length left) [] false all_cells (Between all_said moved.1) packed → IsSeamed size (replaced (length said) (replaced zero (news, fan.last) more end) said last) packed
  seamed packed packs =
      let its = subst (λ (n : ℕ). Packs IndexInterior n [] false all_cells (Between all_said moved.1) packed) long_left packs in
      let one_fits = cells_fit 2 left 0 (to_be_bytes w32 last) is_left.cells is_left.page_is in
      let two_fits = cells_fit 2 right 0 (to_be_bytes w32 moved.1) is_right.cells is_right.page_is in
      let child : length (to_be_bytes w32 last) ≡ 4 = refl in
      let other : length (to_be_bytes w32 moved.1) ≡ 4 = refl in
      let sum = room_append cell_room is_left.cells (cells_of fan ++ is_right.cells) in
      let more = room_append cell_room (cells_of fan) is_right.cells in
      let fan_small = small in
      let counts = at_most 2 (size - 0 - 8 - 4) false (map cell_room all_cells) its.counts its.cut (omega (arith, one_fits, two_fits, child, other, sum, more, fan_small, long_left, long_right)) in
      let pieces = branch_few size false all_cells all_said moved.1 packed its in
      subst (λ (s : Side ℕ Local). IsSeamed size s packed) side_is (record { cells = all_cells; packs = its; few = omega (arith, counts, pieces) })

  pub seamed_or : (result : Result Packed Fault) → Joins left (cells_of fan) right result
      → MatchResult result (IsSeamed size (replaced (length said) (replaced zero (news, fan.last) more end) said last)) (λ fault. fault ≡ Memory)
  seamed_or (Ok packed) joins =
      seamed packed (joins IndexInterior (Between said last) (Between moved.0 moved.1) (Between all_said moved.1) is_left is_right (usual left size (large_size size sized) long_left) (long_right ∙ sym long_left) refl refl are)
  seamed_or (Err fault) joins =
      joins IndexInterior (Between said last) (Between moved.0 moved.1) (Between all_said moved.1) is_left is_right (usual left size (large_size size sized) long_left) (long_right ∙ sym long_left) refl refl are
