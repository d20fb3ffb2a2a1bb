-- Cells that fit one page, and a page without one of its cells.
use Rattle.std.proofs.Common.{◌≡◌, ◌≤◌, ◌<◌, ◌+◌, ◌^◌, ◌==◌, ℕ, zero, suc, Bool, List, [], ◌∷◌, ◌++◌, length, map, take, drop, refl, sym, ap, subst, ◌∙◌, arith}
use Rattle.std.specs.Int.{w32, to_be_bytes}
use Rattle.std.specs.List.{AllByRecursion}
use Rattle.std.specs.Prelude.{Result, Ok, Err, MatchResult}
use Rattle.sqlval.specs.declared.fault.Fault.{Fault}
use Rattle.sqlval.specs.declared.fault.Fault.TheVariants.{Memory}
use Rattle.tree_page.specs.Cells.{Pairwise}
use Rattle.tree_page.specs.Node.{Local, Node, Between, IsNode, IsBetweenCell}
use Rattle.tree_page.specs.declared.items.Kind.TheVariants.{IndexInterior}
use Rattle.tree_page.proofs.HeaderLemmas.{same_length}
use Rattle.tree_pack.specs.Building.{cell_room}
use Rattle.tree_pack.specs.Packing as packing
use Rattle.tree_pack.specs.Packing.{AreOf, Packs, images, nodes_of}
use Rattle.tree_pack.specs.Parts.{total}
use Rattle.tree_pack.specs.Splicing.{spliced, IsUsual, Splices}
use Rattle.tree_pack.specs.declared.spreading.Packed.{Packed}
use Rattle.tree_pack.specs.declared.spreading.Piece.{Piece}
use Rattle.tree_pack.proofs.Splices.{pairwise_spliced}
use Rattle.tree_store.specs.Storing.{cells_of}
use Rattle.tree_store.specs.declared.storing.Fan.{Fan}
use Rattle.tree_index.specs.Growing.{replaced, Fans, IsFanned}
use Rattle.tree_index.specs.Joining.{without_at}
use Rattle.tree_pack.proofs.Rooms.{cells_fit}
use Rattle.tree_index.proofs.Sums.{room_swapped}

abbrev Item : Type 0
Item = ℕ × Local

-- ---- items without one

drop_none : {A : Type 0} (n : ℕ) → ◌≡◌ {A = List A} (drop n []) []
drop_none zero = refl
drop_none (suc n) = refl

pub none_in : {A : Type 0} (place : ℕ) (items : List A) → spliced place 1 [] items ≡ without_at place items
none_in zero [] = refl
none_in (suc place) [] = drop_none (suc place + 1)
none_in zero (x ∷ items) = refl
none_in {A} (suc place) (x ∷ items) =
    (let s : suc place + 1 ≡ suc (place + 1) = omega arith in ap (λ (n : ℕ). x ∷ (take place items ++ drop n (x ∷ items))) s)
    ∙ ap (λ (rest : List A). x ∷ rest) (none_in place items)

pub without_len : {A : Type 0} (place : ℕ) (items : List A) → place < length items → suc (length (without_at place items)) ≡ length items
without_len place [] lt = absurd (omega (arith, lt))
without_len zero (x ∷ items) lt = refl
without_len (suc place) (x ∷ items) lt = (let e = without_len place items (omega (arith, lt)) in omega (arith, e))

pub pairwise_without : {A B : Type 0} (P : A → B → Type 0) (place : ℕ) (xs : List A) (ys : List B) → Pairwise P xs ys → Pairwise P (without_at place xs) (without_at place ys)
pairwise_without P place [] [] h = tt
pairwise_without P place [] (y ∷ ys) h = absurd h
pairwise_without P place (x ∷ xs) [] h = absurd h
pairwise_without P zero (x ∷ xs) (y ∷ ys) h = h.1
pairwise_without P (suc place) (x ∷ xs) (y ∷ ys) h = (h.0, pairwise_without P place xs ys h.1)

-- ---- a page alone

none_more : {A B : Type 0} (P : A → B → Type 0) (xs : List A) (x : A) → Pairwise P (xs ++ x ∷ []) [] → ⊥
none_more P [] x h = h
none_more P (y ∷ xs) x h = h

one_said : (P : List ℕ → Node → Type 0) (pieces : List Piece) (page : List ℕ) (node : Node) → Pairwise P (map (λ (piece : Piece). piece.page.items) pieces ++ page ∷ []) (node ∷ []) → P page node
one_said P [] page node h = h.0
one_said P (piece ∷ pieces) page node h = absurd (none_more P (map (λ (piece : Piece). piece.page.items) pieces) page h.1)

last_long : (n : ℕ) (pages : List (List ℕ)) (page : List ℕ) → AllByRecursion (λ image. length image ≡ n) (pages ++ page ∷ []) → length page ≡ n
last_long n [] page h = h.0
last_long n (other ∷ pages) page h = last_long n pages page h.1

-- What a packed page alone says.
pub record IsOnePage (size : ℕ) (node : Node) (packed : Packed) : Type 0 where
  pub says : IsNode packed.last.items 0 node
  pub long : length packed.last.items ≡ size

-- cells that fit one page are on one
pub one_page : (size : ℕ) (rises : Bool) (cells : List (List ℕ)) (said : List Item) (number : ℕ) (packed : Packed) → Packs IndexInterior size [] rises cells (Between said number) packed → total (map cell_room cells) + 12 ≤ size
    → IsOnePage size (Between said number) packed
one_page size rises cells said number packed packs fit =
    let none : packs.counts ≡ [] = packs.cut.one (omega (arith, fit)) in
    let says = subst (λ (counts : List ℕ). Pairwise (λ image part. IsNode image (packing.start_of [] counts) part) (images packed) (nodes_of counts (Between said number))) none packs.say in
    record {
      says = one_said (λ image part. IsNode image 0 part) packed.pieces.items packed.last.items (Between said number) says;
      long = last_long size (map (λ (piece : Piece). piece.page.items) packed.pieces.items) packed.last.items packs.sized;
    }

module _ (page : List ℕ) (place : ℕ) (said : List Item) (last : ℕ) (is : IsNode page 0 (Between said last)) (usual : IsUsual page 0) (lt : place < length said) where
  count : length is.cells ≡ length said
  count = same_length (IsBetweenCell (length page)) is.cells said is.say.0

  abbrev cells : List (List ℕ)
  cells = spliced place 1 [] is.cells

  are : AreOf IndexInterior (length page) (to_be_bytes w32 last) cells (Between (without_at place said) last)
  are = record {
    kind_is = refl;
    right_is = refl;
    say = (subst (λ (items : List Item). Pairwise (IsBetweenCell (length page)) cells items) (none_in place said) (pairwise_spliced (IsBetweenCell (length page)) place 1 is.cells [] said [] is.say.0 tt), is.say.1);
  }

  fit : total (map cell_room cells) + 12 ≤ length page
  fit =
      let whole = cells_fit 2 page 0 (to_be_bytes w32 last) is.cells is.page_is in
      let sum = room_swapped cell_room place [] is.cells [] (let n = count in omega (arith, n, lt)) in
      let child : length (to_be_bytes w32 last) ≡ 4 = refl in
      omega (arith, whole, sum, child)

  -- the page without the cell at the place
  pub one_less : (result : Result Packed Fault) → Splices page 0 place 1 [] (to_be_bytes w32 last) result
      → MatchResult result (IsOnePage (length page) (Between (without_at place said) last)) (λ fault. fault ≡ Memory)
  one_less (Ok packed) splices =
      one_page (length page) (place + 1 == length is.cells) cells (without_at place said) last packed
      (splices IndexInterior (Between said last) (Between (without_at place said) last) is usual refl (let n = count in omega (arith, n, lt)) are) fit
  one_less (Err fault) splices = splices IndexInterior (Between said last) (Between (without_at place said) last) is usual refl (let n = count in omega (arith, n, lt)) are

  -- and with the fan
  pub two_fanned : (packed : Packed) → IsOnePage (length page) (Between (without_at place said) last) packed → (fan : Fan) (news : List Item) → fan.last < 2 ^ 32 → Pairwise (IsBetweenCell (length page)) (cells_of fan) news
      → length news ≤ 2 → (result : Result Packed Fault) → Fans packed.last.items place fan result
      → MatchResult result (IsFanned page (replaced place (news, fan.last) (without_at place said) last) fan) (λ fault. fault ≡ Memory)
  two_fanned packed one fan news near pair few result fans = by result
      (fans (without_at place said) news last one.says
      (record { least = (let a = usual.least in let e = one.long in omega (arith, a, e)); addressed = (let a = usual.addressed in let e = one.long in omega (arith, a, e)); near = usual.near })
      (let e = without_len place said lt in omega (arith, e, lt)) near (subst (λ (n : ℕ). Pairwise (IsBetweenCell n) (cells_of fan) news) (sym one.long) pair) few)
    where
      by : (result : Result Packed Fault) → MatchResult result (IsFanned packed.last.items (replaced place (news, fan.last) (without_at place said) last) fan) (λ fault. fault ≡ Memory) → MatchResult result (IsFanned page (replaced place (news, fan.last) (without_at place said) last) fan) (λ fault. fault ≡ Memory)
      by (Err fault) f = f
      by (Ok p) f = record {
        rises = f.rises;
        cells = f.cells;
        packs = subst (λ (n : ℕ). Packs IndexInterior n [] f.rises f.cells (Between (replaced place (news, fan.last) (without_at place said) last).0 (replaced place (news, fan.last) (without_at place said) last).1) p) one.long f.packs;
        say = subst (λ (n : ℕ). Pairwise (IsBetweenCell n) f.cells (replaced place (news, fan.last) (without_at place said) last).0) one.long f.say;
        room = (let r = f.room in let e = one.long in omega (arith, r, e));
        few = f.few;
      }
