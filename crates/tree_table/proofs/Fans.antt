-- The cells of an interior page, where a fan stands in place of one child.
use Rattle.std.proofs.Common.{◌≡◌, ◌≤◌, ◌<◌, ◌+◌, ◌^◌, ◌==◌, ℕ, zero, suc, ℤ, List, [], ◌∷◌, ◌++◌, length, map, take, drop, slice_index_or, refl, sym, ap, subst, ◌∙◌, arith}
use Rattle.std.proofs.lemmas.List.{append-nil}
use Rattle.std.specs.Int.{w32, to_be_bytes}
use Rattle.std.specs.Prelude.{Result, Ok, Err, MatchResult, IsErrAnd}
use Rattle.sqlval.specs.declared.fault.Fault.{Fault}
use Rattle.sqlval.specs.declared.fault.Fault.TheVariants.{Memory}
use Rattle.tree_page.specs.Cells.{Pairwise}
use Rattle.tree_page.specs.Node.{Node, Keys, IsNode, IsKeyCell}
use Rattle.tree_page.specs.Reading.{Place, count_of}
use Rattle.tree_page.proofs.NodeLemmas.{pairs_at}
use Rattle.tree_page.specs.declared.items.Kind.TheVariants.{TableInterior}
use Rattle.tree_page.proofs.HeaderLemmas.{same_length}
use Rattle.tree_pack.specs.Building.{cell_room}
use Rattle.tree_pack.specs.Packing.{AreOf}
use Rattle.tree_pack.specs.Parts.{total}
use Rattle.tree_pack.specs.Splicing.{spliced, IsUsual, Splices}
use Rattle.tree_pack.specs.declared.spreading.Packed.{Packed}
use Rattle.tree_pack.proofs.Splices.{pairwise_spliced, pairwise_append}
use Rattle.tree_store.specs.Sides.{Side, behind}
use Rattle.tree_store.specs.Storing.{cells_of}
use Rattle.tree_store.specs.declared.storing.Fan.{Fan}
use Rattle.tree_table.specs.Fanning.{fanned, IsFanned}
use Rattle.tree_pack.proofs.Rooms.{cells_fit}
use Rattle.tree_table.proofs.Sums.{room_added, room_swapped, room_append}

-- ---- as items

added_all : (place : ℕ) (news : List (ℕ × ℤ)) (new : ℕ) (kids : List (ℕ × ℤ)) (last : ℕ) → place ≡ length kids → fanned place news new kids last ≡ (kids ++ news, new)
added_all place news new [] last e = refl
added_all zero news new (kid ∷ kids) last e = absurd (omega (arith, e))
added_all (suc place) news new (kid ∷ kids) last e = ap (λ (side : Side ℕ ℤ). behind (kid ∷ []) side) (added_all place news new kids last (omega (arith, e)))

take_whole : {A : Type 0} (place : ℕ) (xs : List A) → place ≡ length xs → take place xs ≡ xs
take_whole zero [] e = refl
take_whole zero (x ∷ xs) e = absurd (omega (arith, e))
take_whole (suc place) [] e = refl
take_whole {A} (suc place) (x ∷ xs) e = ap (λ (ys : List A). x ∷ ys) (take_whole place xs (omega (arith, e)))

drop_whole : {A : Type 0} (place : ℕ) (xs : List A) → place ≡ length xs → drop place xs ≡ []
drop_whole zero [] e = refl
drop_whole zero (x ∷ xs) e = absurd (omega (arith, e))
drop_whole (suc place) [] e = refl
drop_whole (suc place) (x ∷ xs) e = drop_whole place xs (omega (arith, e))

spliced_end : (place : ℕ) (news kids : List (ℕ × ℤ)) → place ≡ length kids → spliced place 0 news kids ≡ kids ++ news
spliced_end place news kids e =
    let z : place + 0 ≡ length kids = omega (arith, e) in
    ap (λ (xs : List (ℕ × ℤ)). xs ++ (news ++ drop (place + 0) kids)) (take_whole place kids e)
    ∙ ap (λ (xs : List (ℕ × ℤ)). kids ++ (news ++ xs)) (drop_whole (place + 0) kids z) ∙ ap (λ (xs : List (ℕ × ℤ)). kids ++ xs) (append-nil news)

swapped_one : (place : ℕ) (news : List (ℕ × ℤ)) (new : ℕ) (kids : List (ℕ × ℤ)) (last : ℕ) (d : ℕ × ℤ) → place < length kids
    → fanned place news new kids last ≡ (take place kids ++ ((news ++ (new, (slice_index_or kids place d).1) ∷ []) ++ drop (suc place) kids), last)
swapped_one place news new [] last d lt = absurd (omega (arith, lt))
swapped_one zero news new (kid ∷ kids) last d lt = ap (λ (xs : List (ℕ × ℤ)). (xs, last)) (one_behind news ((new, kid.1)) kids)
  where
    one_behind : (xs : List (ℕ × ℤ)) (x : ℕ × ℤ) (ys : List (ℕ × ℤ)) → xs ++ x ∷ ys ≡ (xs ++ x ∷ []) ++ ys
    one_behind [] x ys = refl
    one_behind (y ∷ xs) x ys = ap (λ (zs : List (ℕ × ℤ)). y ∷ zs) (one_behind xs x ys)
swapped_one (suc place) news new (kid ∷ kids) last d lt = ap (λ (side : Side ℕ ℤ). behind (kid ∷ []) side) (swapped_one place news new kids last d (omega (arith, lt)))

spliced_one : (place : ℕ) (news kids : List (ℕ × ℤ)) → spliced place 1 news kids ≡ take place kids ++ (news ++ drop (suc place) kids)
spliced_one place news kids = (let e : place + 1 ≡ suc place = omega arith in ap (λ (n : ℕ). take place kids ++ (news ++ drop n kids)) e)

-- ---- as cells

module _ (page : List ℕ) (start place : ℕ) (fan : Fan) (kids news : List (ℕ × ℤ)) (last : ℕ) (is : IsNode page start (Keys kids last)) (usual : IsUsual page start)
    (pair : Pairwise IsKeyCell (cells_of fan) news) (near : fan.last < 2 ^ 32) where
  abbrev side : Side ℕ ℤ
  side = fanned place news fan.last kids last

  count : length is.cells ≡ length kids
  count = same_length IsKeyCell is.cells kids is.say.0

  fits : start + 8 + 4 + total (map cell_room is.cells) ≤ length page
  fits = cells_fit 5 page start (to_be_bytes w32 last) is.cells is.page_is

  -- behind all cells
  pub fan_last : place ≡ length kids → (result : Result Packed Fault) → Splices page start place 0 (cells_of fan) (to_be_bytes w32 fan.last) result
      → MatchResult result (IsFanned page start side fan) (λ fault. fault ≡ Memory)
  fan_last e result splices = by result splices
    where
      same : (spliced place 0 news kids, fan.last) ≡ side
      same = ap (λ (xs : List (ℕ × ℤ)). (xs, fan.last)) (spliced_end place news kids e) ∙ sym (added_all place news fan.last kids last e)

      say : Pairwise IsKeyCell (spliced place 0 (cells_of fan) is.cells) (spliced place 0 news kids)
      say = pairwise_spliced IsKeyCell place 0 is.cells (cells_of fan) kids news is.say.0 pair

      are : AreOf TableInterior (length page) (to_be_bytes w32 fan.last) (spliced place 0 (cells_of fan) is.cells) (Keys (spliced place 0 news kids) fan.last)
      are = record { kind_is = refl; right_is = refl; say = (say, near) }

      by : (result : Result Packed Fault) → Splices page start place 0 (cells_of fan) (to_be_bytes w32 fan.last) result → MatchResult result (IsFanned page start side fan) (λ fault. fault ≡ Memory)
      by (Ok packed) splices = subst (λ (s : Side ℕ ℤ). IsFanned page start s fan packed) same (record {
        rises = place + 0 == length is.cells;
        cells = spliced place 0 (cells_of fan) is.cells;
        packs = splices TableInterior (Keys kids last) (Keys (spliced place 0 news kids) fan.last) is usual refl (let n = count in omega (arith, n, e)) are;
        say = say;
        room = (let sum = room_added cell_room place (cells_of fan) is.cells in let fit = fits in omega (arith, sum, fit));
      })
      by (Err fault) splices = splices TableInterior (Keys kids last) (Keys (spliced place 0 news kids) fan.last) is usual refl (let n = count in omega (arith, n, e)) are

  -- in place of a cell
  pub fan_mid : (d : ℕ × ℤ) (moved : List ℕ) → place < length kids → IsKeyCell moved (fan.last, (slice_index_or kids place d).1) → length moved ≡ length (slice_index_or is.cells place []) → last < 2 ^ 32
      → (result : Result Packed Fault) → Splices page start place 1 (cells_of fan ++ moved ∷ []) (to_be_bytes w32 last) result → MatchResult result (IsFanned page start side fan) (λ fault. fault ≡ Memory)
  fan_mid d moved lt cell long near_last result splices = by result splices
    where
      others : List (ℕ × ℤ)
      others = news ++ (fan.last, (slice_index_or kids place d).1) ∷ []

      same : (spliced place 1 others kids, last) ≡ side
      same = ap (λ (xs : List (ℕ × ℤ)). (xs, last)) (spliced_one place others kids) ∙ sym (swapped_one place news fan.last kids last d lt)

      say : Pairwise IsKeyCell (spliced place 1 (cells_of fan ++ moved ∷ []) is.cells) (spliced place 1 others kids)
      say = pairwise_spliced IsKeyCell place 1 is.cells (cells_of fan ++ moved ∷ []) kids others is.say.0
          (pairwise_append IsKeyCell (cells_of fan) (moved ∷ []) news ((fan.last, (slice_index_or kids place d).1) ∷ []) pair (cell, tt))

      are : AreOf TableInterior (length page) (to_be_bytes w32 last) (spliced place 1 (cells_of fan ++ moved ∷ []) is.cells) (Keys (spliced place 1 others kids) last)
      are = record { kind_is = refl; right_is = refl; say = (say, near_last) }

      by : (result : Result Packed Fault) → Splices page start place 1 (cells_of fan ++ moved ∷ []) (to_be_bytes w32 last) result → MatchResult result (IsFanned page start side fan) (λ fault. fault ≡ Memory)
      by (Ok packed) splices = subst (λ (s : Side ℕ ℤ). IsFanned page start s fan packed) same (record {
        rises = place + 1 == length is.cells;
        cells = spliced place 1 (cells_of fan ++ moved ∷ []) is.cells;
        packs = splices TableInterior (Keys kids last) (Keys (spliced place 1 others kids) last) is usual refl (let n = count in omega (arith, n, lt)) are;
        say = say;
        room = (let sum = room_swapped cell_room place (cells_of fan ++ moved ∷ []) is.cells [] (let n = count in omega (arith, n, lt)) in
            let both = room_append cell_room (cells_of fan) (moved ∷ []) in let fit = fits in omega (arith, sum, both, long, fit));
      })
      by (Err fault) splices = splices TableInterior (Keys kids last) (Keys (spliced place 1 others kids) last) is usual refl (let n = count in omega (arith, n, lt)) are

-- ---- what the code reads

-- the cell that a page's view gives is the page's
pub cell_on : (page : Place) (bytes : List ℕ) (start index : ℕ) (cell : List ℕ) → page ≡ record { bytes = bytes; start = start }
    → ((node : Node) (is : IsNode page.bytes page.start node) → index < count_of node → cell ≡ slice_index_or is.cells index [])
    → (node : Node) (is : IsNode bytes start node) → index < count_of node → cell ≡ slice_index_or is.cells index []
cell_on page bytes start index cell same reads =
    subst (λ (p : Place). (node : Node) (is : IsNode p.bytes p.start node) → index < count_of node → cell ≡ slice_index_or is.cells index []) same reads

pub key_at : (page : List ℕ) (start place : ℕ) (kids : List (ℕ × ℤ)) (last : ℕ) (d : ℕ × ℤ) (is : IsNode page start (Keys kids last)) (cell : List ℕ) → cell ≡ slice_index_or is.cells place [] → place < length kids
    → IsKeyCell cell (slice_index_or kids place d)
key_at page start place kids last d is cell same lt = subst (λ (bytes : List ℕ). IsKeyCell bytes (slice_index_or kids place d)) (sym same) (pairs_at IsKeyCell is.cells kids place [] d is.say.0 lt)

pub memory_err : {T : Type 0} (I : T → Type 0) (result : Result T Fault) (fault : Fault) → IsErrAnd result (λ e. e ≡ fault) → fault ≡ Memory → MatchResult result I (λ e. e ≡ Memory)
memory_err I (Ok x) fault is memory = absurd is
memory_err I (Err e) fault is memory = is ∙ memory
