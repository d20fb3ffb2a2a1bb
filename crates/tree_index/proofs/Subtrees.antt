-- The pages and entries of a tree, by its top.
use Rattle.std.proofs.Common.{◌≡◌, ◌<◌, ◌+◌, ℕ, zero, suc, List, [], ◌∷◌, ◌++◌, length, map, slice_index_or, refl, ap, subst, arith}
use Rattle.std.specs.List.{flat_map}
use Rattle.std.proofs.lemmas.List.{append-nil}
use Rattle.pages.specs.Counting.{occurs}
use Rattle.pages.specs.Map.{PageMap, Has}
use Rattle.pages.proofs.Moving.{occurs_append}
use Rattle.tree_page.specs.Cells.{Pairwise}
use Rattle.tree_page.specs.Node.{Local, Node, Entries, Between}
use Rattle.tree_store.specs.Saying.{Says}
use Rattle.tree_store.specs.Sides.{Each, children, each_of}
use Rattle.tree_index.specs.Comparing.{HasEntries, child_at}
use Rattle.tree_index.specs.Freeing.{chains_of, all_of, below_of}
use Rattle.tree_index.specs.Tree.{Held, IsHeldAs, IsKidAs, Tree, top, pages_of, Lies}
use Rattle.tree_index.proofs.Shares.{AreUpTo, up_cons, up_append, up_none, chain_up}

-- ---- the top

pub pages_split : (depth : ℕ) (t : Tree depth) → pages_of depth t ≡ top depth t ∷ below_of depth t
pages_split zero t = refl
pages_split (suc depth) t = refl

-- the entries on the page at the top
abbrev pub entries_at : (depth : ℕ) → Tree depth → List Held
entries_at zero t = t.entries
entries_at (suc depth) t = map (λ kid. kid.1) t.kids

abbrev pub entries_between : {T : Type 0} → List (T × Held) → List Held
entries_between kids = map (λ kid. kid.1) kids

pub held_between : {T : Type 0} (m : PageMap) (size : ℕ) (page : T → ℕ) (said : List (ℕ × Local)) (kids : List (T × Held)) → Pairwise (IsKidAs m size) said (children page kids)
    → Pairwise (IsHeldAs m size) (map (λ it. it.1) said) (entries_between kids)
held_between m size page [] [] all = tt
held_between m size page [] (kid ∷ kids) all = absurd all
held_between m size page (it ∷ said) [] all = absurd all
held_between m size page (it ∷ said) (kid ∷ kids) all = (all.0.1, held_between m size page said kids all.1)

pub tops_between : {T : Type 0} (m : PageMap) (size : ℕ) (page : T → ℕ) (said : List (ℕ × Local)) (kids : List (T × Held)) → Pairwise (IsKidAs m size) said (children page kids)
    → Pairwise (λ it kid. it.0 ≡ page kid.0) said kids
tops_between m size page [] [] all = tt
tops_between m size page [] (kid ∷ kids) all = absurd all
tops_between m size page (it ∷ said) [] all = absurd all
tops_between m size page (it ∷ said) (kid ∷ kids) all = (all.0.0, tops_between m size page said kids all.1)

-- What the page at the top of a tree says.
pub record IsTold (m : PageMap) (size number depth : ℕ) (t : Tree depth) : Type 0 where
  pub node : Node
  pub has : HasEntries m size number node (entries_at depth t)

abbrev pub told : (m : PageMap) (size number depth : ℕ) (t : Tree depth) → top depth t ≡ number → Lies m size depth t → IsTold m size number depth t
told m size number zero t at lies = record {
  node = Entries lies.said;
  has = record { says = subst (λ (n : ℕ). Says m n (Entries lies.said)) at lies.says; ours = tt; held = lies.entries };
}
told m size number (suc depth) t at lies = record {
  node = Between lies.0.said (top depth t.last);
  has = record {
    says = subst (λ (n : ℕ). Says m n (Between lies.0.said (top depth t.last))) at lies.0.says;
    ours = tt;
    held = held_between m size (top depth) lies.0.said t.kids lies.0.children;
  };
}

pub top_there : (m : PageMap) (size depth : ℕ) (t : Tree depth) → Lies m size depth t → Has m (top depth t)
top_there m size zero t lies = lies.says.has
top_there m size (suc depth) t lies = lies.0.says.has

-- ---- all subtrees of a row

pub all_counted : {T K : Type 0} (kids : List (T × K)) (last : T) → length (all_of kids last) ≡ suc (length kids)
all_counted [] last = refl
all_counted (kid ∷ kids) last = ap suc (all_counted kids last)

pub each_at : {T K : Type 0} (P : T → Type 0) (kids : List (T × K)) (last d : T) (place : ℕ) → place < suc (length kids) → Each P kids last → P (slice_index_or (all_of kids last) place d)
each_at P [] last d zero lt all = all
each_at P [] last d (suc place) lt all = absurd (omega (arith, lt))
each_at P (kid ∷ kids) last d zero lt all = all.0
each_at P (kid ∷ kids) last d (suc place) lt all = each_at P kids last d place (omega (arith, lt)) all.1

pub child_is : {T : Type 0} (page : T → ℕ) (said : List (ℕ × Local)) (kids : List (T × Held)) (last d : T) (place : ℕ) → Pairwise (λ it kid. it.0 ≡ page kid.0) said kids → place < suc (length kids)
    → child_at place said (page last) ≡ page (slice_index_or (all_of kids last) place d)
child_is page [] [] last d zero tops lt = refl
child_is page [] [] last d (suc place) tops lt = absurd (omega (arith, lt))
child_is page [] (kid ∷ kids) last d place tops lt = absurd tops
child_is page (it ∷ said) [] last d place tops lt = absurd tops
child_is page (it ∷ said) (kid ∷ kids) last d zero tops lt = tops.0
child_is page (it ∷ said) (kid ∷ kids) last d (suc place) tops lt = child_is page said kids last d place tops.1 (omega (arith, lt))

-- the pages of a row are those of its subtrees, and those of the entries between them
pub row_pages : {T : Type 0} (pages : T → List ℕ) (n : ℕ) (kids : List (T × Held)) (last : T)
    → occurs n (each_of pages (λ held. held.pages) kids last) ≡ occurs n (chains_of (entries_between kids)) + occurs n (flat_map pages (all_of kids last))
row_pages pages n [] last = (let e = ap (occurs n) (append-nil (pages last)) in omega (arith, e))
row_pages pages n (kid ∷ kids) last =
    let rest = row_pages pages n kids last in
    let one = occurs_append n (pages kid.0) (kid.1.pages ++ each_of pages (λ (held : Held). held.pages) kids last) in
    let two = occurs_append n kid.1.pages (each_of pages (λ (held : Held). held.pages) kids last) in
    let three = occurs_append n kid.1.pages (chains_of (entries_between kids)) in
    let four = occurs_append n (pages kid.0) (flat_map pages (all_of kids last)) in
    omega (arith, rest, one, two, three, four)

-- ---- the pages of a tree are there

pub entries_up : (m : PageMap) (size : ℕ) (said : List Local) (entries : List Held) → Pairwise (IsHeldAs m size) said entries → AreUpTo (length m) (chains_of entries)
entries_up m size [] [] all = up_none (length m)
entries_up m size [] (held ∷ entries) all = absurd all
entries_up m size (it ∷ said) [] all = absurd all
entries_up m size (it ∷ said) (held ∷ entries) all = up_append (length m) held.pages (chains_of entries) (chain_up m size _ held.pages all.0.payload.chain) (entries_up m size said entries all.1)

each_up : {T : Type 0} (most : ℕ) (pages : T → List ℕ) (P : T → Type 0) → ((u : T) → P u → AreUpTo most (pages u)) → (kids : List (T × Held)) (last : T) → Each P kids last → AreUpTo most (flat_map pages (all_of kids last))
each_up most pages P go [] last h = up_append most (pages last) [] (go last h) (up_none most)
each_up most pages P go (kid ∷ kids) last h = up_append most (pages kid.0) (flat_map pages (all_of kids last)) (go kid.0 h.0) (each_up most pages P go kids last h.1)

-- and those of a row
pub row_up : {T : Type 0} (m : PageMap) (size : ℕ) (page : T → ℕ) (pages : T → List ℕ) (P : T → Type 0) → ((u : T) → P u → AreUpTo (length m) (pages u)) → (said : List (ℕ × Local)) (kids : List (T × Held)) (last : T)
    → Pairwise (IsKidAs m size) said (children page kids) → Each P kids last → AreUpTo (length m) (each_of pages (λ held. held.pages) kids last)
row_up m size page pages P go said kids last shown lies n some =
    let chains = entries_up m size (map (λ it. it.1) said) (entries_between kids) (held_between m size page said kids shown) in
    up_append (length m) (chains_of (entries_between kids)) (flat_map pages (all_of kids last)) chains (each_up (length m) pages P go kids last lies) n
    (let row = row_pages pages n kids last in let both = occurs_append n (chains_of (entries_between kids)) (flat_map pages (all_of kids last)) in omega (arith, row, both, some))

pub tree_up : (m : PageMap) (size depth : ℕ) (t : Tree depth) → Lies m size depth t → AreUpTo (length m) (pages_of depth t)
tree_up m size zero t lies = up_cons (length m) t.page (chains_of t.entries) lies.says.has.last (entries_up m size lies.said t.entries lies.entries)
tree_up m size (suc depth) t lies =
    up_cons (length m) t.page (below_of (suc depth) t) lies.0.says.has.last
    (row_up m size (top depth) (pages_of depth) (Lies m size depth) (tree_up m size depth) lies.0.said t.kids t.last lies.0.children lies.1)

pub below_up : (m : PageMap) (size depth : ℕ) (t : Tree depth) → Lies m size depth t → AreUpTo (length m) (below_of depth t)
below_up m size depth t lies n some = tree_up m size depth t lies n (let e = ap (occurs n) (pages_split depth t) in omega (arith, e, some))
