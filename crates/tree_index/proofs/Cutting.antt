-- The parts of what a page says, and the subtrees under them.
use Rattle.std.proofs.Common.{◌≡◌, refl, sym, ◌∙◌, ap, subst, ℕ, zero, suc, List, [], ◌∷◌, ◌++◌, map, take, drop}
use Rattle.std.proofs.lemmas.List.{map-append}
use Rattle.std.proofs.lemmas.List.Concat.{flat_map-append}
use Rattle.pages.specs.Map.{PageMap}
use Rattle.tree_page.specs.Cells.{Pairwise}
use Rattle.tree_page.specs.Node.{Local, Entries, Between, IsNode, IsEntryCell}
use Rattle.tree_pack.specs.Lists.{pieces, entry_parts, with_key, between, sides_of, side_parts, all_sides}
use Rattle.tree_pack.proofs.Joins.{entries_joined}
use Rattle.tree_pack.proofs.SayLemmas.{pairwise_take, pairwise_drop}
use Rattle.tree_store.specs.Frames.{goes}
use Rattle.tree_store.specs.Sides.{Each, children, each_of}
use Rattle.tree_store.proofs.Windows.{frame_gives, each_window}
use Rattle.tree_index.specs.Entries.{Entry}
use Rattle.tree_index.specs.Freeing.{chains_of, all_of, below_of}
use Rattle.tree_index.specs.Growing.{IsTop, IsDivider, entries_in}
use Rattle.tree_index.specs.Tree.{Held, IsHeldAs, IsKidAs, Leaf, Tree, top, Lies}

-- ---- parts of lists that pair

abbrev pub Cut : Type 0 → Type 0
Cut A = List (List A × A) × List A

module _ {A B : Type 0} (P : A → B → Type 0) where
  abbrev pub PairPart : List A × A → List B × B → Type 0
  PairPart a b = Pairwise P a.0 b.0 × P a.1 b.1

  abbrev pub PairCut : Cut A → Cut B → Type 0
  PairCut a b = Pairwise PairPart a.0 b.0 × Pairwise P a.1 b.1

  step : (counts : List ℕ) (wa fa ra : List A) (wb fb rb : List B) → Pairwise P wa wb → Pairwise P fa fb → Pairwise P ra rb
      → ((xs : List A) (ys : List B) → Pairwise P xs ys → PairCut (entry_parts counts xs) (entry_parts counts ys))
      → PairCut (with_key wa fa ra (λ xs. entry_parts counts xs)) (with_key wb fb rb (λ ys. entry_parts counts ys))
  step counts wa fa [] wb fb [] w f r more = (tt, w)
  step counts wa fa [] wb fb (b ∷ rb) w f r more = absurd r
  step counts wa fa (a ∷ ra) wb fb [] w f r more = absurd r
  step counts wa fa (a ∷ ra) wb fb (b ∷ rb) w f r more = (let rest = more ra rb r.1 in (((f, r.0), rest.0), rest.1))

  -- lists that pair are cut into parts that pair
  pub pair_parts : (counts : List ℕ) (xs : List A) (ys : List B) → Pairwise P xs ys → PairCut (entry_parts counts xs) (entry_parts counts ys)
  pair_parts [] xs ys all = (tt, all)
  pair_parts (count ∷ counts) xs ys all =
      step counts xs (take count xs) (drop count xs) ys (take count ys) (drop count ys) all (pairwise_take P count xs ys all) (pairwise_drop P count xs ys all) (λ us vs pair. pair_parts counts us vs pair)

-- ---- leaves

abbrev pub leaf : List Held → Leaf
leaf held = record { page = 0; entries = held }

abbrev pub leaves : List (List Held × Held) → List (Leaf × Held)
leaves parts = map (λ part. (leaf part.0, part.1)) parts

abbrev pub values : List Held → List Entry
values held = map (λ h. h.entry) held

leaf_gives : (parts : List (List Held × Held)) (rest : List Held) → entries_in zero (leaves parts) (leaf rest) ≡ values (between parts rest)
leaf_gives [] rest = refl
leaf_gives (part ∷ parts) rest =
    ap (λ (es : List Entry). values part.0 ++ part.1.entry ∷ es) (leaf_gives parts rest) ∙ sym (map-append (λ (h : Held). h.entry) part.0 (part.1 ∷ between parts rest))

leaf_chains : (parts : List (List Held × Held)) (rest : List Held) → each_of (below_of zero) (λ (h : Held). h.pages) (leaves parts) (leaf rest) ≡ chains_of (between parts rest)
leaf_chains [] rest = refl
leaf_chains (part ∷ parts) rest =
    ap (λ (pages : List ℕ). chains_of part.0 ++ (part.1.pages ++ pages)) (leaf_chains parts rest) ∙ sym (flat_map-append (λ (h : Held). h.pages) part.0 (part.1 ∷ between parts rest))

module _ (m : PageMap) (size : ℕ) where
  leaf_tops : (said : List (List Local × Local)) (last : List Local) (parts : List (List Held × Held)) (rest : List Held) (images : List (List ℕ)) → PairCut (IsHeldAs m size) (said, last) (parts, rest)
      → Pairwise (λ image node. IsNode image 0 node) images (map (λ part. Entries part) (pieces said last)) → Pairwise (IsTop m size zero) images (all_of (leaves parts) (leaf rest))
  leaf_tops [] last [] rest [] pair says = absurd says
  leaf_tops [] last [] rest (image ∷ []) pair says = (record { node = Entries last; says = says.0; shows = (last, refl, pair.1) }, tt)
  leaf_tops [] last [] rest (image ∷ other ∷ images) pair says = absurd says.1
  leaf_tops [] last (part ∷ parts) rest images pair says = absurd pair.0
  leaf_tops (it ∷ said) last [] rest images pair says = absurd pair.0
  leaf_tops (it ∷ said) last (part ∷ parts) rest [] pair says = absurd says
  leaf_tops (it ∷ said) last (part ∷ parts) rest (image ∷ images) pair says =
      (record { node = Entries it.0; says = says.0; shows = (it.0, refl, pair.0.0.0) }, leaf_tops said last parts rest images (pair.0.1, pair.1) says.1)

  leaf_dividers : (bytes : List (List ℕ)) (said : List (List Local × Local)) (parts : List (List Held × Held)) → Pairwise (IsEntryCell size) bytes (map (λ part. part.1) said)
      → Pairwise (PairPart (IsHeldAs m size)) said parts → Pairwise (IsDivider m size) bytes (map (λ kid. kid.1) (leaves parts))
  leaf_dividers [] [] [] divide pair = tt
  leaf_dividers [] [] (part ∷ parts) divide pair = absurd pair
  leaf_dividers [] (it ∷ said) parts divide pair = absurd divide
  leaf_dividers (one ∷ bytes) [] parts divide pair = absurd divide
  leaf_dividers (one ∷ bytes) (it ∷ said) [] divide pair = absurd pair
  leaf_dividers (one ∷ bytes) (it ∷ said) (part ∷ parts) divide pair = (record { said = it.1; cell = divide.0; is = pair.0.1 }, leaf_dividers bytes said parts divide.1 pair.1)

  -- Pages that say the parts of entries are leaves of these.
  pub record AreLeaves (held : List Held) (images bytes : List (List ℕ)) : Type 0 where
    pub kids : List (Leaf × Held)
    pub last : Leaf
    pub tops : Pairwise (IsTop m size zero) images (all_of kids last)
    pub divide : Pairwise (IsDivider m size) bytes (map (λ kid. kid.1) kids)
    pub entries_are : entries_in zero kids last ≡ values held
    pub chains_are : each_of (below_of zero) (λ (h : Held). h.pages) kids last ≡ chains_of held

  pub cut_leaf : (counts : List ℕ) (said : List Local) (held : List Held) (images bytes : List (List ℕ)) → Pairwise (IsHeldAs m size) said held
      → Pairwise (λ image node. IsNode image 0 node) images (map (λ part. Entries part) (pieces (entry_parts counts said).0 (entry_parts counts said).1))
      → Pairwise (IsEntryCell size) bytes (map (λ part. part.1) (entry_parts counts said).0) → AreLeaves held images bytes
  cut_leaf counts said held images bytes hold says divide =
      let parts = (entry_parts counts held).0 in
      let rest = (entry_parts counts held).1 in
      let pair = pair_parts (IsHeldAs m size) counts said held hold in
      record {
        kids = leaves parts;
        last = leaf rest;
        tops = leaf_tops (entry_parts counts said).0 (entry_parts counts said).1 parts rest images pair says;
        divide = leaf_dividers bytes (entry_parts counts said).0 parts divide pair.0;
        entries_are = leaf_gives parts rest ∙ ap values (entries_joined counts held);
        chains_are = leaf_chains parts rest ∙ ap chains_of (entries_joined counts held);
      }

-- ---- interior pages

abbrev pub branch : (depth : ℕ) → List (Tree depth × Held) → Tree depth → Tree (suc depth)
branch depth kids last = record { page = 0; kids = kids; last = last }

abbrev pub branches : (depth : ℕ) → List (List (Tree depth × Held) × (Tree depth × Held)) → List (Tree (suc depth) × Held)
branches depth parts = map (λ part. (branch depth part.0 part.1.0, part.1.1)) parts

-- what a page says of a subtree and the entry after it
abbrev pub IsSaidOf : PageMap → ℕ → (depth : ℕ) → ℕ × Local → Tree depth × Held → Type 0
IsSaidOf m size depth it kid = IsKidAs m size it (top depth kid.0, kid.1)

pub unshown : (m : PageMap) (size depth : ℕ) (said : List (ℕ × Local)) (kids : List (Tree depth × Held)) → Pairwise (IsKidAs m size) said (children (top depth) kids) → Pairwise (IsSaidOf m size depth) said kids
unshown m size depth [] [] all = tt
unshown m size depth [] (kid ∷ kids) all = absurd all
unshown m size depth (it ∷ said) [] all = absurd all
unshown m size depth (it ∷ said) (kid ∷ kids) all = (all.0, unshown m size depth said kids all.1)

shown : (m : PageMap) (size depth : ℕ) (said : List (ℕ × Local)) (kids : List (Tree depth × Held)) → Pairwise (IsSaidOf m size depth) said kids → Pairwise (IsKidAs m size) said (children (top depth) kids)
shown m size depth [] [] all = tt
shown m size depth [] (kid ∷ kids) all = absurd all
shown m size depth (it ∷ said) [] all = absurd all
shown m size depth (it ∷ said) (kid ∷ kids) all = (all.0, shown m size depth said kids all.1)

branch_gives : {X : Type 0} (depth : ℕ) (f : Tree depth → List X) (b : Held → List X) (parts : List (List (Tree depth × Held) × (Tree depth × Held))) (rest : List (Tree depth × Held)) (last : Tree depth)
    → each_of f b (between parts rest) last ≡ each_of (λ (t : Tree (suc depth)). each_of f b t.kids t.last) b (branches depth parts) (branch depth rest last)
branch_gives depth f b [] rest last = refl
branch_gives {X} depth f b (part ∷ parts) rest last =
    frame_gives f b (goes [] part.1.1 (between parts rest, last)) (part.0, part.1.0)
    ∙ ap (λ (xs : List X). each_of f b part.0 part.1.0 ++ (b part.1.1 ++ xs)) (branch_gives depth f b parts rest last)

module _ (m : PageMap) (size depth : ℕ) where
  abbrev Side' : Type 0
  Side' = List (ℕ × Local) × ℕ

  branch_tops : (said : List (List (ℕ × Local) × (ℕ × Local))) (more : List (ℕ × Local)) (number : ℕ) (parts : List (List (Tree depth × Held) × (Tree depth × Held))) (rest : List (Tree depth × Held)) (last : Tree depth)
      (images : List (List ℕ)) → PairCut (IsSaidOf m size depth) (said, more) (parts, rest) → number ≡ top depth last → Each (Lies m size depth) (between parts rest) last
      → Pairwise (λ image node. IsNode image 0 node) images (map (λ side. Between side.0 side.1) (all_sides (sides_of said) (more, number)))
      → Pairwise (IsTop m size (suc depth)) images (all_of (branches depth parts) (branch depth rest last))
  branch_tops [] more number [] rest last [] pair same lies says = absurd says
  branch_tops [] more number [] rest last (image ∷ []) pair same lies says =
      (record { node = Between more number; says = says.0; shows = (more, ap (λ (n : ℕ). Between more n) same, shown m size depth more rest pair.1, lies) }, tt)
  branch_tops [] more number [] rest last (image ∷ other ∷ images) pair same lies says = absurd says.1
  branch_tops [] more number (part ∷ parts) rest last images pair same lies says = absurd pair.0
  branch_tops (it ∷ said) more number [] rest last images pair same lies says = absurd pair.0
  branch_tops (it ∷ said) more number (part ∷ parts) rest last [] pair same lies says = absurd says
  branch_tops (it ∷ said) more number (part ∷ parts) rest last (image ∷ images) pair same lies says =
      let s = each_window (Lies m size depth) part.0 part.1.0 part.1.1 (between parts rest) last lies in (
        record { node = Between it.0 it.1.0; says = says.0; shows = (it.0, ap (λ (n : ℕ). Between it.0 n) pair.0.0.1.0, shown m size depth it.0 part.0 pair.0.0.0, s.0) },
        branch_tops said more number parts rest last images (pair.0.1, pair.1) same s.1 says.1,
      )

  branch_dividers : (bytes : List (List ℕ)) (said : List (List (ℕ × Local) × (ℕ × Local))) (parts : List (List (Tree depth × Held) × (Tree depth × Held))) → Pairwise (IsEntryCell size) bytes (map (λ part. part.1) (sides_of said))
      → Pairwise (PairPart (IsSaidOf m size depth)) said parts → Pairwise (IsDivider m size) bytes (map (λ kid. kid.1) (branches depth parts))
  branch_dividers [] [] [] divide pair = tt
  branch_dividers [] [] (part ∷ parts) divide pair = absurd pair
  branch_dividers [] (it ∷ said) parts divide pair = absurd divide
  branch_dividers (one ∷ bytes) [] parts divide pair = absurd divide
  branch_dividers (one ∷ bytes) (it ∷ said) [] divide pair = absurd pair
  branch_dividers (one ∷ bytes) (it ∷ said) (part ∷ parts) divide pair = (record { said = it.1.1; cell = divide.0; is = pair.0.1.1 }, branch_dividers bytes said parts divide.1 pair.1)

  -- Pages that say the parts of children are the tops of subtrees over these.
  pub record AreBranches (kids : List (Tree depth × Held)) (last : Tree depth) (images bytes : List (List ℕ)) : Type 1 where
    pub tops_of : List (Tree (suc depth) × Held)
    pub last_of : Tree (suc depth)
    pub tops : Pairwise (IsTop m size (suc depth)) images (all_of tops_of last_of)
    pub divide : Pairwise (IsDivider m size) bytes (map (λ kid. kid.1) tops_of)
    pub gives : {X : Type 0} (f : Tree depth → List X) (b : Held → List X) → each_of f b kids last ≡ each_of (λ (t : Tree (suc depth)). each_of f b t.kids t.last) b tops_of last_of

  pub cut_branch : (counts : List ℕ) (said : List (ℕ × Local)) (number : ℕ) (kids : List (Tree depth × Held)) (last : Tree depth) (images bytes : List (List ℕ))
      → Pairwise (IsKidAs m size) said (children (top depth) kids) → number ≡ top depth last → Each (Lies m size depth) kids last
      → Pairwise (λ image node. IsNode image 0 node) images (map (λ side. Between side.0 side.1) (all_sides (side_parts counts (said, number)).0 (side_parts counts (said, number)).1))
      → Pairwise (IsEntryCell size) bytes (map (λ part. part.1) (side_parts counts (said, number)).0) → AreBranches kids last images bytes
  cut_branch counts said number kids last images bytes hold same lies says divide =
      let parts = (entry_parts counts kids).0 in
      let rest = (entry_parts counts kids).1 in
      let whole : between parts rest ≡ kids = entries_joined counts kids in
      let pair = pair_parts (IsSaidOf m size depth) counts said kids (unshown m size depth said kids hold) in
      record {
        tops_of = branches depth parts;
        last_of = branch depth rest last;
        tops = branch_tops (entry_parts counts said).0 (entry_parts counts said).1 number parts rest last images pair same
            (subst (λ (ks : List (Tree depth × Held)). Each (Lies m size depth) ks last) (sym whole) lies) says;
        divide = branch_dividers bytes (entry_parts counts said).0 parts divide pair.0;
        gives = λ f b. ap (λ (ks : List (Tree depth × Held)). each_of f b ks last) (sym whole) ∙ branch_gives depth f b parts rest last;
      }
