-- The parts of an interior page's children, and the subtrees under them.
use Rattle.std.proofs.Common.{◌≡◌, ℕ, zero, suc, ℤ, List, [], ◌∷◌, ◌++◌, map, take, drop, refl, sym, ap, subst, ◌∙◌, append_assoc}
use Rattle.pages.specs.Map.{PageMap}
use Rattle.tree_page.specs.Cells.{Pairwise}
use Rattle.tree_page.specs.Node.{Node, Keys, IsNode}
use Rattle.tree_pack.specs.Lists.{entry_parts, with_key, put_first, between, sides_of, side_parts, all_sides}
use Rattle.tree_pack.proofs.Joins.{entries_joined}
use Rattle.tree_store.specs.Sides.{Side, children, each_of, nothing, Each, Parted}
use Rattle.tree_store.proofs.Windows.{each_window}
use Rattle.tree_table.specs.Growing.{IsTop, all_of}
use Rattle.tree_table.specs.Tree.{Tree, top, IsSorted, Lies}
use Rattle.tree_table.proofs.Holes.{Kids, keys_of, seen}

-- parts of children, each with the one that goes up
abbrev pub Cut : Type 0 → Type 0
Cut T = List (List (T × ℤ) × (T × ℤ))

module _ {T : Type 0} (page : T → ℕ) where
  abbrev shown : Cut T → Cut ℕ
  shown parts = map (λ part. (children page part.0, (page part.1.0, part.1.1))) parts

  children_take : (n : ℕ) (kids : List (T × ℤ)) → take n (children page kids) ≡ children page (take n kids)
  children_take zero kids = refl
  children_take (suc n) [] = refl
  children_take (suc n) (kid ∷ kids) = ap (λ (cells : List (ℕ × ℤ)). (page kid.0, kid.1) ∷ cells) (children_take n kids)

  children_drop : (n : ℕ) (kids : List (T × ℤ)) → drop n (children page kids) ≡ children page (drop n kids)
  children_drop zero kids = refl
  children_drop (suc n) [] = refl
  children_drop (suc n) (kid ∷ kids) = children_drop n kids

  abbrev Seen : List (List (T × ℤ) × (T × ℤ)) × List (T × ℤ) → Cut ℕ × List (ℕ × ℤ)
  Seen cut = (shown cut.0, children page cut.1)

  seen_step : (counts : List ℕ) (whole front rest : List (T × ℤ)) → ((xs : List (T × ℤ)) → entry_parts counts (children page xs) ≡ Seen (entry_parts counts xs))
      → with_key (children page whole) (children page front) (children page rest) (λ xs. entry_parts counts xs) ≡ Seen (with_key whole front rest (λ xs. entry_parts counts xs))
  seen_step counts whole front [] more = refl
  seen_step counts whole front (kid ∷ rest) more = ap (λ (cut : Cut ℕ × List (ℕ × ℤ)). put_first (children page front, (page kid.0, kid.1)) cut) (more rest)

  -- what is seen of the parts are the parts of what is seen
  pub parts_seen : (counts : List ℕ) (kids : List (T × ℤ)) → entry_parts counts (children page kids) ≡ Seen (entry_parts counts kids)
  parts_seen [] kids = refl
  parts_seen (count ∷ counts) kids =
      ap (λ (xs : List (ℕ × ℤ)). with_key (children page kids) xs (drop count (children page kids)) (λ ys. entry_parts counts ys)) (children_take count kids)
      ∙ ap (λ (xs : List (ℕ × ℤ)). with_key (children page kids) (children page (take count kids)) xs (λ ys. entry_parts counts ys)) (children_drop count kids)
      ∙ seen_step counts kids (take count kids) (drop count kids) (λ xs. parts_seen counts xs)

-- ---- subtrees under the parts

abbrev pub branch : (depth : ℕ) → Kids depth → Tree depth → Tree (suc depth)
branch depth kids last = record { page = 0; kids = kids; last = last }

abbrev pub branches : (depth : ℕ) → Cut (Tree depth) → Kids (suc depth)
branches depth parts = map (λ part. (branch depth part.0 part.1.0, part.1.1)) parts

parted_split : {T : Type 0} (P : ℤ → T → ℤ → Type 0) (low : ℤ) (kids : List (T × ℤ)) (t : T) (key : ℤ) (rest : List (T × ℤ)) (last : T) (high : ℤ)
    → Parted P low (kids ++ (t, key) ∷ rest) last high → Parted P low kids t key × Parted P key rest last high
parted_split P low [] t key rest last high h = h
parted_split P low (kid ∷ kids) t key rest last high (h, r) = let s = parted_split P kid.1 kids t key rest last high r in ((h, s.0), s.1)

pub each_split : {T X : Type 0} (f : T → List X) (kids : List (T × ℤ)) (t : T) (key : ℤ) (rest : List (T × ℤ)) (last : T)
    → each_of f nothing (kids ++ (t, key) ∷ rest) last ≡ each_of f nothing kids t ++ each_of f nothing rest last
each_split f [] t key rest last = refl
each_split f (kid ∷ kids) t key rest last =
    ap (λ xs. f kid.0 ++ xs) (each_split f kids t key rest last) ∙ sym (append_assoc (f kid.0) (each_of f nothing kids t) (each_of f nothing rest last))

pub branches_sorted : (depth : ℕ) (low : ℤ) (parts : Cut (Tree depth)) (rest : Kids depth) (last : Tree depth) (high : ℤ)
    → Parted (IsSorted depth) low (between parts rest) last high → Parted (IsSorted (suc depth)) low (branches depth parts) (branch depth rest last) high
branches_sorted depth low [] rest last high h = h
branches_sorted depth low (part ∷ parts) rest last high h =
    let s = parted_split (IsSorted depth) low part.0 part.1.0 part.1.1 (between parts rest) last high h in
    (s.0, branches_sorted depth part.1.1 parts rest last high s.1)

pub branches_give : {X : Type 0} (depth : ℕ) (f : Tree depth → List X) (parts : Cut (Tree depth)) (rest : Kids depth) (last : Tree depth)
    → each_of f nothing (between parts rest) last ≡ each_of (λ (b : Tree (suc depth)). each_of f nothing b.kids b.last) nothing (branches depth parts) (branch depth rest last)
branches_give depth f [] rest last = refl
branches_give depth f (part ∷ parts) rest last =
    each_split f part.0 part.1.0 part.1.1 (between parts rest) last ∙ ap (λ xs. each_of f nothing part.0 part.1.0 ++ xs) (branches_give depth f parts rest last)

pub branch_keys : (depth : ℕ) (parts : Cut (Tree depth)) → map (λ (part : Side ℕ ℤ × ℤ). part.1) (sides_of (shown (top depth) parts)) ≡ keys_of (branches depth parts)
branch_keys depth [] = refl
branch_keys depth (part ∷ parts) = ap (λ (keys : List ℤ). part.1.1 ∷ keys) (branch_keys depth parts)

abbrev side_nodes : List (Side ℕ ℤ) → List Node
side_nodes sides = map (λ side. Keys side.0 side.1) sides

module _ (map' : PageMap) (size depth start : ℕ) where
  abbrev Says : List ℕ → Node → Type 0
  Says image node = IsNode image start node

  top_is : (image : List ℕ) (kids : Kids depth) (last : Tree depth) → IsNode image start (Keys (children (top depth) kids) (top depth last)) → Each (Lies map' size depth) kids last
      → IsTop map' size (suc depth) start image (branch depth kids last)
  top_is image kids last says lies = record { node = Keys (children (top depth) kids) (top depth last); says = says; shows = (refl, lies) }

  -- pages that say the parts are the tops of subtrees under them
  pub branch_tops : (parts : Cut (Tree depth)) (rest : Kids depth) (last : Tree depth) (pages : List (List ℕ)) → Each (Lies map' size depth) (between parts rest) last
      → Pairwise Says pages (side_nodes (all_sides (sides_of (shown (top depth) parts)) (children (top depth) rest, top depth last)))
      → Pairwise (IsTop map' size (suc depth) start) pages (all_of (branches depth parts) (branch depth rest last))
  branch_tops [] rest last [] lies says = absurd says
  branch_tops [] rest last (page ∷ []) lies says = (top_is page rest last says.0 lies, tt)
  branch_tops [] rest last (page ∷ other ∷ pages) lies says = absurd says.1
  branch_tops (part ∷ parts) rest last [] lies says = absurd says
  branch_tops (part ∷ parts) rest last (page ∷ pages) lies says =
      let s = each_window (Lies map' size depth) part.0 part.1.0 part.1.1 (between parts rest) last lies in
      (top_is page part.0 part.1.0 says.0 s.0, branch_tops parts rest last pages s.1 says.1)

-- ---- all of it

-- Pages that say the parts of what is seen of a side are the tops of subtrees, with the keys that go up.
pub record IsCutInto (map' : PageMap) (size depth start : ℕ) (low high : ℤ) (side : Side (Tree depth) ℤ) (counts : List ℕ) (pages : List (List ℕ)) : Type 1 where
  pub kids : Kids (suc depth)
  pub last : Tree (suc depth)
  pub tops : Pairwise (IsTop map' size (suc depth) start) pages (all_of kids last)
  pub keys_are : map (λ part. part.1) (side_parts counts (seen (top depth) side)).0 ≡ keys_of kids
  pub sorted : Parted (IsSorted (suc depth)) low kids last high
  pub gives : {X : Type 0} (f : Tree depth → List X) → each_of f nothing side.0 side.1 ≡ each_of (λ (b : Tree (suc depth)). each_of f nothing b.kids b.last) nothing kids last

pub cut_into : (map' : PageMap) (size depth start : ℕ) (low high : ℤ) (kids : Kids depth) (last : Tree depth) (counts : List ℕ) (pages : List (List ℕ))
    → Each (Lies map' size depth) kids last → Parted (IsSorted depth) low kids last high
    → Pairwise (λ image node. IsNode image start node) pages (map (λ side. Keys side.0 side.1) (all_sides (side_parts counts (children (top depth) kids, top depth last)).0 (side_parts counts (children (top depth) kids, top depth last)).1))
    → IsCutInto map' size depth start low high (kids, last) counts pages
cut_into map' size depth start low high kids last counts pages lies sorted says =
    let parts = (entry_parts counts kids).0 in
    let rest = (entry_parts counts kids).1 in
    let whole : between parts rest ≡ kids = entries_joined counts kids in
    let cut = parts_seen (top depth) counts kids in
    let says_now = subst (λ (c : Cut ℕ × List (ℕ × ℤ)). Pairwise (λ image node. IsNode image start node) pages (side_nodes (all_sides (sides_of c.0) (c.1, top depth last)))) cut says in
    record {
      kids = branches depth parts;
      last = branch depth rest last;
      tops = branch_tops map' size depth start parts rest last pages (subst (λ (ks : Kids depth). Each (Lies map' size depth) ks last) (sym whole) lies) says_now;
      keys_are = ap (λ (c : Cut ℕ × List (ℕ × ℤ)). map (λ (part : Side ℕ ℤ × ℤ). part.1) (sides_of c.0)) cut ∙ branch_keys depth parts;
      sorted = branches_sorted depth low parts rest last high (subst (λ (ks : Kids depth). Parted (IsSorted depth) low ks last high) (sym whole) sorted);
      gives = λ f. ap (λ (ks : Kids depth). each_of f nothing ks last) (sym whole) ∙ branches_give depth f parts rest last;
    }
