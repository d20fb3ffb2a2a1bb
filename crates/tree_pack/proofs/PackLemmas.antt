-- What the pages of a node are.
use Rattle.std.proofs.Common.{◌≡◌, ◌-◌, ℕ, Bool, List, [], ◌∷◌, ◌++◌, length, map, Result, Ok, Err, IfOk, refl, sym, ap, subst, ◌∙◌, arith}
use Rattle.std.specs.List.{AllByRecursion}
use Rattle.tree_page.specs.Cells.{Pairwise}
use Rattle.tree_page.specs.Node.{Node, IsNode}
use Rattle.tree_page.specs.declared.items.Kind.{Kind}
use Rattle.tree_pack.specs.declared.spreading.Piece.{Piece}
use Rattle.tree_pack.specs.declared.spreading.Packed.{Packed}
use Rattle.tree_pack.specs.Parts.{IsCut}
use Rattle.tree_pack.specs.Building.{Fits, cell_room, right_room, after_front, page_of}
use Rattle.tree_pack.specs.Packing.{up_of, CanPack, AreOf, nodes_of, images, divider_bytes, Divide, dividers_of, Packs}
use Rattle.tree_pack.specs.Spreading.{pages_of, dividing}
use Rattle.tree_pack.proofs.BuildingLemmas.{page_built}
use Rattle.tree_pack.proofs.SpreadLemmas.{cut_parts_fit}
use Rattle.tree_pack.proofs.DividingLemmas.{several_divided, none_divide}
use Rattle.tree_pack.proofs.SayLemmas.{several_say, one_says, pages_sized}

-- a page begins with what stands before its header
begins : (front : List ℕ) (n : ℕ) (kind : Kind) (right : List ℕ) (cells : List (List ℕ)) → (rest : List ℕ) × (page_of front n kind right cells ≡ front ++ rest)
unfolding page_of
begins front n kind right cells = (after_front (length front) n kind right cells, refl)

-- all cells on one page
pub packs_one : (front : List ℕ) (kind : Kind) (n : ℕ) (rises : Bool) (right : List ℕ) (cells : List (List ℕ)) (node : Node) (packed : Packed) → Fits n (length front) (length right) cells
    → IsCut (up_of kind) (n - length front - 8 - right_room kind) rises (map cell_room cells) [] → packed.pieces.items ≡ [] → packed.last.items ≡ page_of front n kind right cells → AreOf kind n right cells node
    → Packs kind n front rises cells node packed
packs_one front kind n rises right cells node packed fits cut none_before last is =
    let pages : images packed ≡ page_of front n kind right cells ∷ [] =
    ap (λ (pieces : List Piece). map (λ (piece : Piece). piece.page.items) pieces ++ packed.last.items ∷ []) none_before ∙ ap (λ (page : List ℕ). page ∷ []) last in
    let first = begins front n kind right cells in
    record {
      counts = [];
      cut = cut;
      say = subst (λ (pages : List (List ℕ)). Pairwise (λ image part. IsNode image (length front) part) pages (nodes_of [] node)) (sym pages) (one_says front kind n right cells node fits is);
      sized = subst (λ (pages : List (List ℕ)). AllByRecursion (λ (image : List ℕ). length image ≡ n) pages) (sym pages) ((page_built front n kind right cells fits).1, tt);
      front_is = λ alone. (first.0, last ∙ first.1);
      divide = subst (λ (ends : List (List ℕ)). Divide n ends (dividers_of [] node)) (sym (ap (λ (pieces : List Piece). map (λ (piece : Piece). piece.divider.items) pieces) none_before)) (none_divide n node);
    }

-- the cells on several pages
pub packs_several : (front : List ℕ) (kind : Kind) (n : ℕ) (rises : Bool) (right counts : List ℕ) (cells : List (List ℕ)) (node : Node) (packed : Packed) → CanPack n (length front) kind cells → length right ≡ right_room kind
    → IsCut (up_of kind) (n - length front - 8 - right_room kind) rises (map cell_room cells) counts → (counts ≡ [] → ⊥) → images packed ≡ pages_of kind n right counts cells
    → divider_bytes packed ≡ dividing kind counts cells → AreOf kind n right cells node → Packs kind n front rises cells node packed
packs_several front kind n rises right [] cells node packed can len cut some pages ends is = absurd (some refl)
packs_several front kind n rises right (count ∷ counts) cells node packed can len cut some pages ends is =
    let near = can.addressed in
    let header = can.header in
    let fit = cut_parts_fit kind n (length front) rises cells (count ∷ counts) can cut in
    record {
      counts = count ∷ counts;
      cut = cut;
      say =
          subst (λ (pages : List (List ℕ)). Pairwise (λ image part. IsNode image 0 part) pages (nodes_of (count ∷ counts) node)) (sym pages)
          (several_say kind n (n - length front - 8 - right_room kind) rises right (count ∷ counts) cells node near (omega (arith, header)) is fit cut);
      sized =
          subst (λ (pages : List (List ℕ)). AllByRecursion (λ (image : List ℕ). length image ≡ n) pages) (sym pages)
          (pages_sized kind n right (count ∷ counts) cells near (omega (arith, header)) (omega (arith, len)) can.some fit.fit);
      front_is = λ alone. absurd (some alone);
      divide =
          subst (λ (ends : List (List ℕ)). Divide n ends (dividers_of (count ∷ counts) node)) (sym ends)
          (several_divided kind n (n - length front - 8 - right_room kind) rises right (count ∷ counts) cells node is fit.within cut);
    }

-- ---- what the code knows of a cut

pub cut_of : (kind : Kind) (n start up right : ℕ) (rises : Bool) (sizes counts : List ℕ) → up ≡ up_of kind → right ≡ right_room kind → IsCut up (n - start - 8 - right) rises sizes counts
    → IsCut (up_of kind) (n - start - 8 - right_room kind) rises sizes counts
cut_of kind n start up right rises sizes counts u r cut =
    subst (λ (m : ℕ). IsCut m (n - start - 8 - right_room kind) rises sizes counts) u (subst (λ (m : ℕ). IsCut up (n - start - 8 - m) rises sizes counts) r cut)

pub none_is : (counts : List ℕ) → length counts ≡ 0 → counts ≡ []
none_is [] e = refl
none_is (count ∷ counts) e = absurd (omega (arith, e))

-- two facts of a call's value give a third
pub if_both : {X Y : Type 0} (r : Result X Y) (P Q S : X → Type 0) → ((x : X) → P x → Q x → S x) → IfOk r P → IfOk r Q → IfOk r S
if_both (Ok x) P Q S go p q = go x p q
if_both (Err e) P Q S go p q = tt
