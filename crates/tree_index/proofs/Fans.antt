-- The cells of an interior page, where a fan stands in place of one child.
use Rattle.std.proofs.Common.{◌≡◌, ◌≤◌, ◌<◌, ◌+◌, ◌-◌, ◌*◌, ◌^◌, ◌==◌, ℕ, zero, suc, List, [], ◌∷◌, ◌++◌, length, map, take, drop, slice_index_or, refl, sym, ap, subst, ◌∙◌, arith, Bool}
use Rattle.std.proofs.lemmas.List.{append-nil, length-map}
use Rattle.std.specs.Int.{w32, to_be_bytes}
use Rattle.std.specs.Prelude.{Result, Ok, Err, MatchResult, IsErrAnd}
use Rattle.sqlval.specs.declared.fault.Fault.{Fault}
use Rattle.sqlval.specs.declared.fault.Fault.TheVariants.{Memory}
use Rattle.tree_page.specs.Cells.{Pairwise}
use Rattle.tree_page.specs.Node.{Local, Node, Between, IsNode, IsEntryCell, IsBetweenCell}
use Rattle.tree_page.specs.Reading.{Place, count_of}
use Rattle.tree_page.proofs.NodeLemmas.{pairs_at}
use Rattle.tree_page.specs.declared.items.Kind.TheVariants.{IndexInterior}
use Rattle.tree_page.proofs.HeaderLemmas.{same_length}
use Rattle.tree_pack.specs.Building.{cell_room}
use Rattle.tree_pack.specs.Lists.{side_parts, entry_parts, sides_of}
use Rattle.tree_pack.specs.Packing.{AreOf, divider_bytes, Packs}
use Rattle.tree_pack.specs.Parts.{total}
use Rattle.tree_pack.specs.Splicing.{spliced, IsUsual, Splices}
use Rattle.tree_pack.specs.declared.spreading.Packed.{Packed}
use Rattle.tree_pack.specs.declared.spreading.Piece.{Piece}
use Rattle.tree_pack.proofs.SmallLemmas.{entry_len}
use Rattle.std.proofs.lemmas.List.{length-append}
use Rattle.tree_pack.proofs.Splices.{pairwise_spliced, pairwise_append}
use Rattle.tree_store.specs.Sides.{Side, behind}
use Rattle.tree_store.specs.Storing.{cells_of}
use Rattle.tree_store.specs.declared.storing.Fan.{Fan}
use Rattle.tree_index.specs.Growing.{replaced, IsFanned}
use Rattle.tree_index.proofs.Leaves.{parts_few, at_most_two}
use Rattle.tree_pack.proofs.Rooms.{cells_fit}
use Rattle.tree_index.proofs.Sums.{room_added, room_swapped, room_append}

-- ---- as items

module _ {A K : Type 0} where
  added_all : (place : ℕ) (news : List (A × K)) (new : A) (kids : List (A × K)) (last : A) → place ≡ length kids → replaced place (news, new) kids last ≡ (kids ++ news, new)
  added_all place news new [] last e = refl
  added_all zero news new (kid ∷ kids) last e = absurd (omega (arith, e))
  added_all (suc place) news new (kid ∷ kids) last e = ap (λ (side : Side A K). behind (kid ∷ []) side) (added_all place news new kids last (omega (arith, e)))

take_whole : {A : Type 0} (place : ℕ) (xs : List A) → place ≡ length xs → take place xs ≡ xs
take_whole zero [] e = refl
take_whole zero (x ∷ xs) e = absurd (omega (arith, e))
take_whole (suc place) [] e = refl
take_whole {A} (suc place) (x ∷ xs) e = ap (λ (ys : List A). x ∷ ys) (take_whole place xs (omega (arith, e)))

drop_whole : {A : Type 0} (place : ℕ) (xs : List A) → place ≡ length xs → drop place xs ≡ []
drop_whole zero [] e = refl
drop_whole zero (x ∷ xs) e = absurd (omega (arith, e))
drop_whole (suc place) [] e = refl
drop_whole (suc place) (x ∷ xs) e = drop_whole place xs (omega (arith, e))

abbrev Item : Type 0
Item = ℕ × Local

spliced_end : (place : ℕ) (news kids : List Item) → place ≡ length kids → spliced place 0 news kids ≡ kids ++ news
spliced_end place news kids e =
    let z : place + 0 ≡ length kids = omega (arith, e) in
    ap (λ (xs : List Item). xs ++ (news ++ drop (place + 0) kids)) (take_whole place kids e)
    ∙ ap (λ (xs : List Item). kids ++ (news ++ xs)) (drop_whole (place + 0) kids z) ∙ ap (λ (xs : List Item). kids ++ xs) (append-nil news)

swapped_one : (place : ℕ) (news : List Item) (new : ℕ) (kids : List Item) (last : ℕ) (d : Item) → place < length kids
    → replaced place (news, new) kids last ≡ (take place kids ++ ((news ++ (new, (slice_index_or kids place d).1) ∷ []) ++ drop (suc place) kids), last)
swapped_one place news new [] last d lt = absurd (omega (arith, lt))
swapped_one zero news new (kid ∷ kids) last d lt = ap (λ (xs : List Item). (xs, last)) (one_after news ((new, kid.1)) kids)
  where
    one_after : (xs : List Item) (x : Item) (ys : List Item) → xs ++ x ∷ ys ≡ (xs ++ x ∷ []) ++ ys
    one_after [] x ys = refl
    one_after (y ∷ xs) x ys = ap (λ (zs : List Item). y ∷ zs) (one_after xs x ys)
swapped_one (suc place) news new (kid ∷ kids) last d lt = ap (λ (side : Side ℕ Local). behind (kid ∷ []) side) (swapped_one place news new kids last d (omega (arith, lt)))

spliced_one : (place : ℕ) (news kids : List Item) → spliced place 1 news kids ≡ take place kids ++ (news ++ drop (suc place) kids)
spliced_one place news kids = (let e : place + 1 ≡ suc place = omega arith in ap (λ (n : ℕ). take place kids ++ (news ++ drop n kids)) e)

-- ---- as cells

-- a cell takes less than a third of a page
pub between_third : (size : ℕ) (cell : List ℕ) (kid : Item) → 512 ≤ size → IsBetweenCell size cell kid → 3 * cell_room cell + 36 < size
between_third size cell kid big is =
    let len = entry_len size is.rest kid.1 big is.entry in
    let parts = ap length is.parts in
    let both = length-append (to_be_bytes w32 kid.0) is.rest in
    let child : length (to_be_bytes w32 kid.0) ≡ 4 = refl in
    omega (arith, len, parts, both, child, big)

pub sides_count : {T K : Type 0} (parts : List (List (T × K) × (T × K))) → length (sides_of parts) ≡ length parts
sides_count [] = refl
sides_count (part ∷ parts) = (let e = sides_count parts in omega (arith, e))

module _ (page : List ℕ) (place : ℕ) (fan : Fan) (said news : List Item) (last : ℕ) (is : IsNode page 0 (Between said last)) (usual : IsUsual page 0)
    (pair : Pairwise (IsBetweenCell (length page)) (cells_of fan) news) (near : fan.last < 2 ^ 32) (short : length news ≤ 2) where
  abbrev side : Side ℕ Local
  side = replaced place (news, fan.last) said last

  count : length is.cells ≡ length said
  count = same_length (IsBetweenCell (length page)) is.cells said is.say.0

  fits : 0 + 8 + 4 + total (map cell_room is.cells) ≤ length page
  fits = cells_fit 2 page 0 (to_be_bytes w32 last) is.cells is.page_is

  -- the fan's cells don't fill a page
  small_fan : total (map cell_room (cells_of fan)) + 12 < length page
  small_fan = by (cells_of fan) news pair short where
    by : (cells : List (List ℕ)) (items : List Item) → Pairwise (IsBetweenCell (length page)) cells items → length items ≤ 2 → total (map cell_room cells) + 12 < length page
    by [] [] all le = (let big = usual.least in omega (arith, big))
    by [] (it ∷ items) all le = absurd all
    by (cell ∷ cells) [] all le = absurd all
    by (cell ∷ []) (it ∷ []) all le = (let big = usual.least in let small = between_third (length page) cell it big all.0 in omega (arith, small, big))
    by (cell ∷ []) (it ∷ other ∷ items) all le = absurd all.1
    by (cell ∷ other ∷ []) (it ∷ []) all le = absurd all.1
    by (cell ∷ other ∷ []) (it ∷ more ∷ []) all le =
        (let big = usual.least in let one = between_third (length page) cell it big all.0 in let two = between_third (length page) other more big all.1.0 in omega (arith, one, two, big))
    by (cell ∷ other ∷ []) (it ∷ more ∷ another ∷ items) all le = absurd (omega (arith, le))
    by (cell ∷ other ∷ third ∷ cells) (it ∷ []) all le = absurd all.1
    by (cell ∷ other ∷ third ∷ cells) (it ∷ more ∷ []) all le = absurd all.1.1
    by (cell ∷ other ∷ third ∷ cells) (it ∷ more ∷ another ∷ items) all le = absurd (omega (arith, le))

  few_pages : (rises : Bool) (cells : List (List ℕ)) (shows : Side ℕ Local) (packed : Packed) → (packs : Packs IndexInterior (length page) [] rises cells (Between shows.0 shows.1) packed)
      → total (map cell_room cells) ≤ total (map cell_room is.cells) + total (map cell_room (cells_of fan)) → length packed.pieces.items ≤ 1
  few_pages rises cells shows packed packs sum =
      let big = usual.least in
      let fit = fits in
      let small = small_fan in
      let most = at_most_two (length page - 0 - 8 - 4) rises (map cell_room cells) packs.counts packs.cut (omega (arith, sum, fit, small, big)) in
      let parts = parts_few packs.counts shows.0 in
      let pieces : length packed.pieces.items ≡ length (entry_parts packs.counts shows.0).0 = (
      sym (length-map packed.pieces.items (λ (piece : Piece). piece.divider.items)) ∙ same_length (IsEntryCell (length page)) (divider_bytes packed) _ packs.divide
      ∙ length-map (side_parts packs.counts shows).0 (λ part. part.1) ∙ sides_count (entry_parts packs.counts shows.0).0) in
      omega (arith, most, parts, pieces)

  -- after all cells
  pub fan_last : place ≡ length said → (result : Result Packed Fault) → Splices page 0 place 0 (cells_of fan) (to_be_bytes w32 fan.last) result
      → MatchResult result (IsFanned page side fan) (λ fault. fault ≡ Memory)
  fan_last e result splices = by result splices
    where
      same : (spliced place 0 news said, fan.last) ≡ side
      same = ap (λ (xs : List Item). (xs, fan.last)) (spliced_end place news said e) ∙ sym (added_all place news fan.last said last e)

      say : Pairwise (IsBetweenCell (length page)) (spliced place 0 (cells_of fan) is.cells) (spliced place 0 news said)
      say = pairwise_spliced (IsBetweenCell (length page)) place 0 is.cells (cells_of fan) said news is.say.0 pair

      are : AreOf IndexInterior (length page) (to_be_bytes w32 fan.last) (spliced place 0 (cells_of fan) is.cells) (Between (spliced place 0 news said) fan.last)
      are = record { kind_is = refl; right_is = refl; say = (say, near) }

      fanned : (packed : Packed) → Packs IndexInterior (length page) [] (place + 0 == length is.cells) (spliced place 0 (cells_of fan) is.cells) (Between (spliced place 0 news said) fan.last) packed → IsFanned page side fan packed
      fanned packed packs = subst (λ (s : Side ℕ Local). IsFanned page s fan packed) same (record {
        rises = place + 0 == length is.cells;
        cells = spliced place 0 (cells_of fan) is.cells;
        packs = packs;
        say = say;
        room = (let sum = room_added cell_room place (cells_of fan) is.cells in let fit = fits in omega (arith, sum, fit));
        few = few_pages (place + 0 == length is.cells) (spliced place 0 (cells_of fan) is.cells) (spliced place 0 news said, fan.last) packed packs
            (let sum = room_added cell_room place (cells_of fan) is.cells in omega (arith, sum));
      })

      by : (result : Result Packed Fault) → Splices page 0 place 0 (cells_of fan) (to_be_bytes w32 fan.last) result → MatchResult result (IsFanned page side fan) (λ fault. fault ≡ Memory)
      by (Ok packed) splices = fanned packed (splices IndexInterior (Between said last) (Between (spliced place 0 news said) fan.last) is usual refl (let n = count in omega (arith, n, e)) are)
      by (Err fault) splices = splices IndexInterior (Between said last) (Between (spliced place 0 news said) fan.last) is usual refl (let n = count in omega (arith, n, e)) are

  -- in place of a cell
  pub fan_mid : (d : Item) (moved : List ℕ) → place < length said → IsBetweenCell (length page) moved (fan.last, (slice_index_or said place d).1) → length moved ≡ length (slice_index_or is.cells place []) → last < 2 ^ 32
      → (result : Result Packed Fault) → Splices page 0 place 1 (cells_of fan ++ moved ∷ []) (to_be_bytes w32 last) result → MatchResult result (IsFanned page side fan) (λ fault. fault ≡ Memory)
  fan_mid d moved lt cell long near_last result splices = by result splices
    where
      others : List Item
      others = news ++ (fan.last, (slice_index_or said place d).1) ∷ []

      same : (spliced place 1 others said, last) ≡ side
      same = ap (λ (xs : List Item). (xs, last)) (spliced_one place others said) ∙ sym (swapped_one place news fan.last said last d lt)

      say : Pairwise (IsBetweenCell (length page)) (spliced place 1 (cells_of fan ++ moved ∷ []) is.cells) (spliced place 1 others said)
      say = pairwise_spliced (IsBetweenCell (length page)) place 1 is.cells (cells_of fan ++ moved ∷ []) said others is.say.0
          (pairwise_append (IsBetweenCell (length page)) (cells_of fan) (moved ∷ []) news ((fan.last, (slice_index_or said place d).1) ∷ []) pair (cell, tt))

      are : AreOf IndexInterior (length page) (to_be_bytes w32 last) (spliced place 1 (cells_of fan ++ moved ∷ []) is.cells) (Between (spliced place 1 others said) last)
      are = record { kind_is = refl; right_is = refl; say = (say, near_last) }

      fanned : (packed : Packed) → Packs IndexInterior (length page) [] (place + 1 == length is.cells) (spliced place 1 (cells_of fan ++ moved ∷ []) is.cells) (Between (spliced place 1 others said) last) packed → IsFanned page side fan packed
      fanned packed packs = subst (λ (s : Side ℕ Local). IsFanned page s fan packed) same (record {
        rises = place + 1 == length is.cells;
        cells = spliced place 1 (cells_of fan ++ moved ∷ []) is.cells;
        packs = packs;
        say = say;
        room = (let sum = room_swapped cell_room place (cells_of fan ++ moved ∷ []) is.cells [] (let n = count in omega (arith, n, lt)) in
            let both = room_append cell_room (cells_of fan) (moved ∷ []) in let fit = fits in omega (arith, sum, both, long, fit));
        few = few_pages (place + 1 == length is.cells) (spliced place 1 (cells_of fan ++ moved ∷ []) is.cells) (spliced place 1 others said, last) packed packs
            (let sum = room_swapped cell_room place (cells_of fan ++ moved ∷ []) is.cells [] (let n = count in omega (arith, n, lt)) in
            let both = room_append cell_room (cells_of fan) (moved ∷ []) in omega (arith, sum, both, long));
      })

      by : (result : Result Packed Fault) → Splices page 0 place 1 (cells_of fan ++ moved ∷ []) (to_be_bytes w32 last) result → MatchResult result (IsFanned page side fan) (λ fault. fault ≡ Memory)
      by (Ok packed) splices = fanned packed (splices IndexInterior (Between said last) (Between (spliced place 1 others said) last) is usual refl (let n = count in omega (arith, n, lt)) are)
      by (Err fault) splices = splices IndexInterior (Between said last) (Between (spliced place 1 others said) last) is usual refl (let n = count in omega (arith, n, lt)) are

-- ---- what the code reads

-- the cell that a page's view gives is the page's
pub cell_on : (page : Place) (bytes : List ℕ) (start index : ℕ) (cell : List ℕ) → page ≡ record { bytes = bytes; start = start }
    → ((node : Node) (is : IsNode page.bytes page.start node) → index < count_of node → cell ≡ slice_index_or is.cells index [])
    → (node : Node) (is : IsNode bytes start node) → index < count_of node → cell ≡ slice_index_or is.cells index []
cell_on page bytes start index cell same reads =
    subst (λ (p : Place). (node : Node) (is : IsNode p.bytes p.start node) → index < count_of node → cell ≡ slice_index_or is.cells index []) same reads

pub cell_at : (page : List ℕ) (place : ℕ) (said : List Item) (last : ℕ) (d : Item) (is : IsNode page 0 (Between said last)) (cell : List ℕ) → cell ≡ slice_index_or is.cells place [] → place < length said
    → IsBetweenCell (length page) cell (slice_index_or said place d)
cell_at page place said last d is cell same lt = subst (λ (bytes : List ℕ). IsBetweenCell (length page) bytes (slice_index_or said place d)) (sym same) (pairs_at (IsBetweenCell (length page)) is.cells said place [] d is.say.0 lt)

pub memory_err : {T : Type 0} (I : T → Type 0) (result : Result T Fault) (fault : Fault) → IsErrAnd result (λ e. e ≡ fault) → fault ≡ Memory → MatchResult result I (λ e. e ≡ Memory)
memory_err I (Ok x) fault is memory = absurd is
memory_err I (Err e) fault is memory = is ∙ memory
