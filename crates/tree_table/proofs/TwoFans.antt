-- The cells of an interior page, where a fan stands in place of two children.
use Rattle.std.proofs.Common.{◌≡◌, ◌<◌, ◌+◌, ◌^◌, ◌==◌, ℕ, zero, suc, ℤ, List, [], ◌∷◌, ◌++◌, length, map, take, drop, refl, ap, subst, ◌∙◌, arith}
use Rattle.std.proofs.lemmas.List.{length-take-le}
use Rattle.std.specs.Int.{w32, to_be_bytes}
use Rattle.std.specs.List.{AllByRecursion}
use Rattle.std.specs.Prelude.{Result, Ok, Err, MatchResult}
use Rattle.sqlval.specs.declared.fault.Fault.{Fault}
use Rattle.sqlval.specs.declared.fault.Fault.TheVariants.{Memory}
use Rattle.tree_page.specs.Cells.{Pairwise}
use Rattle.tree_page.specs.Node.{Node, Keys, IsNode, IsKeyCell}
use Rattle.tree_page.specs.declared.items.Kind.TheVariants.{TableInterior}
use Rattle.tree_page.proofs.HeaderLemmas.{same_length}
use Rattle.tree_pack.specs.Building.{cell_room}
use Rattle.tree_pack.specs.Packing as packing
use Rattle.tree_pack.specs.Packing.{AreOf, Packs, images, nodes_of}
use Rattle.tree_pack.specs.Splicing.{spliced, IsUsual, Splices}
use Rattle.tree_pack.specs.declared.spreading.Packed.{Packed}
use Rattle.tree_pack.specs.declared.spreading.Piece.{Piece}
use Rattle.tree_pack.proofs.Splices.{pairwise_spliced}
use Rattle.tree_store.specs.Storing.{cells_of}
use Rattle.tree_store.specs.declared.storing.Fan.{Fan}
use Rattle.tree_table.specs.Fanning.{fanned, Fans, IsFanned}
use Rattle.tree_table.specs.Joining.{without_at}
use Rattle.tree_pack.proofs.Rooms.{cells_fit}
use Rattle.tree_table.proofs.Starts.{front_alone}
use Rattle.tree_table.proofs.Sums.{room_swapped}

-- ---- items without one

drop_none : {A : Type 0} (n : ℕ) → ◌≡◌ {A = List A} (drop n []) []
drop_none zero = refl
drop_none (suc n) = refl

pub none_in : {A : Type 0} (place : ℕ) (items : List A) → spliced place 1 [] items ≡ without_at place items
none_in zero [] = refl
none_in (suc place) [] = drop_none (suc place + 1)
none_in zero (x ∷ items) = refl
none_in {A} (suc place) (x ∷ items) =
    (let s : suc place + 1 ≡ suc (place + 1) = omega arith in ap (λ (n : ℕ). x ∷ (take place items ++ drop n (x ∷ items))) s)
    ∙ ap (λ (rest : List A). x ∷ rest) (none_in place items)

pub without_len : {A : Type 0} (place : ℕ) (items : List A) → place < length items → suc (length (without_at place items)) ≡ length items
without_len place [] lt = absurd (omega (arith, lt))
without_len zero (x ∷ items) lt = refl
without_len (suc place) (x ∷ items) lt = (let e = without_len place items (omega (arith, lt)) in omega (arith, e))

-- ---- a page alone

none_more : {A B : Type 0} (P : A → B → Type 0) (xs : List A) (x : A) → Pairwise P (xs ++ x ∷ []) [] → ⊥
none_more P [] x h = h
none_more P (y ∷ xs) x h = h

pub one_said : (P : List ℕ → Node → Type 0) (pieces : List Piece) (page : List ℕ) (node : Node) → Pairwise P (map (λ (piece : Piece). piece.page.items) pieces ++ page ∷ []) (node ∷ []) → P page node
one_said P [] page node h = h.0
one_said P (piece ∷ pieces) page node h = absurd (none_more P (map (λ (piece : Piece). piece.page.items) pieces) page h.1)

pub last_long : (n : ℕ) (pages : List (List ℕ)) (page : List ℕ) → AllByRecursion (λ image. length image ≡ n) (pages ++ page ∷ []) → length page ≡ n
last_long n [] page h = h.0
last_long n (other ∷ pages) page h = last_long n pages page h.1

-- What a packed page alone says, which keeps what stands before its header.
pub record IsOnePage (page : List ℕ) (start : ℕ) (node : Node) (packed : Packed) : Type 0 where
  pub says : IsNode packed.last.items start node
  pub long : length packed.last.items ≡ length page
  pub front : take start packed.last.items ≡ take start page

module _ (page : List ℕ) (start place : ℕ) (kids : List (ℕ × ℤ)) (last : ℕ) (is : IsNode page start (Keys kids last)) (usual : IsUsual page start) (lt : place < length kids) where
  count : length is.cells ≡ length kids
  count = same_length IsKeyCell is.cells kids is.say.0

  abbrev cells : List (List ℕ)
  cells = spliced place 1 [] is.cells

  are : AreOf TableInterior (length page) (to_be_bytes w32 last) cells (Keys (without_at place kids) last)
  are = record {
    kind_is = refl;
    right_is = refl;
    say = (subst (λ (items : List (ℕ × ℤ)). Pairwise IsKeyCell cells items) (none_in place kids) (pairwise_spliced IsKeyCell place 1 is.cells [] kids [] is.say.0 tt), is.say.1);
  }

  one_page : (packed : Packed) → Packs TableInterior (length page) (take start page) (place + 1 == length is.cells) cells (Keys (without_at place kids) last) packed
      → IsOnePage page start (Keys (without_at place kids) last) packed
  one_page packed packs =
      let least = usual.least in
      let near = usual.near in
      let front_len : length (take start page) ≡ start = length-take-le start page (omega (arith, least, near)) in
      let fits = cells_fit 5 page start (to_be_bytes w32 last) is.cells is.page_is in
      let sum = room_swapped cell_room place [] is.cells [] (let n = count in omega (arith, n, lt)) in
      let child : length (to_be_bytes w32 last) ≡ 4 = refl in
      let none : packs.counts ≡ [] = packs.cut.one (omega (arith, fits, sum, child, front_len, least, near)) in
      let says = subst (λ (counts : List ℕ). Pairwise (λ image part. IsNode image (packing.start_of (take start page) counts) part) (images packed) (nodes_of counts (Keys (without_at place kids) last))) none packs.say in
      record {
        says = subst (λ (n : ℕ). IsNode packed.last.items n (Keys (without_at place kids) last)) front_len
            (one_said (λ image part. IsNode image (length (take start page)) part) packed.pieces.items packed.last.items (Keys (without_at place kids) last) says);
        long = last_long (length page) (map (λ (piece : Piece). piece.page.items) packed.pieces.items) packed.last.items packs.sized;
        front = front_alone (take start page) packed.last.items start front_len (packs.front_is none);
      }

  -- the page without the cell at the place
  pub one_less : (result : Result Packed Fault) → Splices page start place 1 [] (to_be_bytes w32 last) result
      → MatchResult result (IsOnePage page start (Keys (without_at place kids) last)) (λ fault. fault ≡ Memory)
  one_less (Ok packed) splices = one_page packed (splices TableInterior (Keys kids last) (Keys (without_at place kids) last) is usual refl (let n = count in omega (arith, n, lt)) are)
  one_less (Err fault) splices = splices TableInterior (Keys kids last) (Keys (without_at place kids) last) is usual refl (let n = count in omega (arith, n, lt)) are

  -- and with the fan
  pub two_fanned : (packed : Packed) → IsOnePage page start (Keys (without_at place kids) last) packed → (fan : Fan) (news : List (ℕ × ℤ)) → fan.last < 2 ^ 32 → Pairwise IsKeyCell (cells_of fan) news
      → (result : Result Packed Fault) → Fans packed.last.items start place fan result
      → MatchResult result (IsFanned page start (fanned place news fan.last (without_at place kids) last) fan) (λ fault. fault ≡ Memory)
  two_fanned packed one fan news near pair result fans = by result
      (fans (without_at place kids) news last one.says
      (record { least = (let a = usual.least in let e = one.long in omega (arith, a, e)); addressed = (let a = usual.addressed in let e = one.long in omega (arith, a, e)); near = usual.near })
      (let e = without_len place kids lt in omega (arith, e, lt)) near pair)
    where
      by : (result : Result Packed Fault) → MatchResult result (IsFanned packed.last.items start (fanned place news fan.last (without_at place kids) last) fan) (λ fault. fault ≡ Memory)
          → MatchResult result (IsFanned page start (fanned place news fan.last (without_at place kids) last) fan) (λ fault. fault ≡ Memory)
      by (Err fault) f = f
      by (Ok p) f = record {
        rises = f.rises;
        cells = f.cells;
        packs = subst (λ (front : List ℕ). Packs TableInterior (length page) front f.rises f.cells (Keys (fanned place news fan.last (without_at place kids) last).0 (fanned place news fan.last (without_at place kids) last).1) p) one.front
            (subst (λ (n : ℕ). Packs TableInterior n (take start packed.last.items) f.rises f.cells (Keys (fanned place news fan.last (without_at place kids) last).0 (fanned place news fan.last (without_at place kids) last).1) p) one.long f.packs);
        say = f.say;
        room = (let r = f.room in let e = one.long in omega (arith, r, e));
      }
