-- Pages are shared again where some trees gave way to others.
use Rattle.std.proofs.Common.{◌≡◌, ◌⊎◌, inl, inr, ◌≤◌, ◌+◌, ℕ, zero, suc, sym, ◌∙◌, ap, subst, arith, List, [], ◌∷◌, ◌++◌, length}
use Rattle.std.proofs.lemmas.Grind.{common_steps}
use Rattle.std.specs.List.{AllByRecursion}
use Rattle.sqlval.specs.declared.collation.Collation.{Collation}
use Rattle.tree_leaf.specs.Leaf.{Entry}
use Rattle.pages.specs.Counting.{occurs, fresh}
use Rattle.pages.specs.Map.{PageMap}
use Rattle.tree_store.specs.Staying.{AreKept}
use Rattle.tree_store.proofs.Staying.{occurs_both, occurs_here, kept_of}
use Rattle.tree_table.specs.Tree.{IsTableTree, Tree, top, pages_of}
use Rattle.tree_table.proofs.KeptTrees as tables
use Rattle.tree_index.specs.Entries.{Entry as IndexEntry}
use Rattle.tree_index.specs.Tree as index
use Rattle.tree_index.proofs.Staying as indexes
use Rattle.db_layout.specs.Layout.{Content, OfRows, OfEntries, Owner, HoldsUnder, IsTree, used_by, AreShared, IndexTreesStand, ReplacesTrees, TreesStand}

pub used_both : (n : ℕ) (xs ys : List Owner) → occurs n (used_by (xs ++ ys)) ≡ occurs n (used_by xs) + occurs n (used_by ys)
used_both n [] ys = omega arith
used_both n (x ∷ xs) ys =
    let e = used_both n xs ys in let a = occurs_both n x.used (used_by (xs ++ ys)) in let b = occurs_both n x.used (used_by xs) in omega arith

all_in_front : {A : Type 0} (P : A → Type 0) (xs ys : List A) → AllByRecursion P (xs ++ ys) → AllByRecursion P xs
all_in_front P [] ys h = tt
all_in_front P (x ∷ xs) ys h = (h.0, all_in_front P xs ys h.1)

all_after : {A : Type 0} (P : A → Type 0) (xs ys : List A) → AllByRecursion P (xs ++ ys) → AllByRecursion P ys
all_after P [] ys h = h
all_after P (x ∷ xs) ys h = all_after P xs ys h.1

all_join : {A : Type 0} (P : A → Type 0) (xs ys : List A) → AllByRecursion P xs → AllByRecursion P ys → AllByRecursion P (xs ++ ys)
all_join P [] ys h k = k
all_join P (x ∷ xs) ys h k = (h.0, all_join P xs ys h.1 k)

fresh_twice : (a b n : ℕ) → a ≤ b → fresh 0 a n + fresh a b n ≡ fresh 0 b n
fresh_twice a b n h = grind (arith, common_steps)

fresh_once : (a b n : ℕ) → fresh a b n ≤ 1
fresh_once a b n = grind (arith, common_steps)

holds_stays : (old new : PageMap) (size root : ℕ) (used : List ℕ) (content : Content) → AreKept old new size used → HoldsUnder old size root used content → HoldsUnder new size root used content
holds_stays old new size root used (OfRows rows) kept tree = (tables.trees_stay old new size root rows used kept tree).0
holds_stays old new size root used (OfEntries columns entries) kept tree = indexes.trees_stay old new size root columns entries used kept tree

trees_stay : (old new : PageMap) (size : ℕ) (owners : List Owner) → AreKept old new size (used_by owners) → AllByRecursion (IsTree old size) owners → AllByRecursion (IsTree new size) owners
trees_stay old new size [] kept all = tt
trees_stay old new size (owner ∷ owners) kept all =
    let both = λ (n : ℕ). occurs_both n owner.used (used_by owners) in (
      holds_stays old new size owner.root owner.used owner.content
          (kept_of old new size (used_by (owner ∷ owners)) owner.used (λ n some. (let b = both n in omega (arith, b, some))) kept) all.0,
      trees_stay old new size owners (kept_of old new size (used_by (owner ∷ owners)) (used_by owners) (λ n some. (let b = both n in omega (arith, b, some))) kept) all.1,
    )

pub replaces_trees : ReplacesTrees
replaces_trees old new size before olds news after free now_free shared moves trees has =
    let sum = λ (n : ℕ). used_both n before (olds ++ after) in
    let rest = λ (n : ℕ). used_both n olds after in
    let whole = moves.whole size shared.whole in
    let apart : (n : ℕ) → 1 ≤ occurs n (used_by before) + occurs n (used_by after) → occurs n (used_by olds) + occurs n free ≡ 0 = λ n some.
    (let o = shared.once n in let a = sum n in let b = rest n in let s = fresh_once 0 (length old) n in omega (arith, o, a, b, s, some)) in
    let kept : (part : List ℕ) → ((n : ℕ) → 1 ≤ occurs n part → 1 ≤ occurs n (used_by before) + occurs n (used_by after)) → AreKept old new size part = λ part within.
    record { whole = shared.whole; whole_now = whole; longer = moves.longer; same = λ n there some. moves.keeps n there.first there.last (apart n (within n some)) } in
    let front = trees_stay old new size before (kept (used_by before) (λ n some. omega (arith, some))) (all_in_front (IsTree old size) before (olds ++ after) shared.trees) in
    let back = trees_stay old new size after (kept (used_by after) (λ n some. omega (arith, some)))
    (all_after (IsTree old size) olds after (all_after (IsTree old size) before (olds ++ after) shared.trees)) in
    record {
      trees = all_join (IsTree new size) before (news ++ after) front (all_join (IsTree new size) news after trees back);
      has = has;
      whole = whole;
      once = λ n. (let o = shared.once n in let a = sum n in let b = rest n in let c = moves.counts n in let d = fresh_twice (length old) (length new) n moves.longer in
          let e = used_both n before (news ++ after) in let f = used_both n news after in omega (arith, o, a, b, c, d, e, f));
    }

-- ---- a tree among others

top_first : (depth : ℕ) (t : Tree depth) → 1 ≤ occurs (top depth t) (pages_of depth t)
top_first zero t = occurs_here t.page _
top_first (suc depth) t = occurs_here t.page _

uses_root : (map : PageMap) (size root : ℕ) (rows : List Entry) (used : List ℕ) → IsTableTree map size root rows used → 1 ≤ occurs root used
uses_root map size root rows used tree =
    subst (λ (pages : List ℕ). 1 ≤ occurs root pages) tree.used_are
    (subst (λ (n : ℕ). 1 ≤ occurs n (pages_of tree.depth tree.tree)) tree.root_is (top_first tree.depth tree.tree))

index_top_first : (depth : ℕ) (t : index.Tree depth) → 1 ≤ occurs (index.top depth t) (index.pages_of depth t)
index_top_first zero t = occurs_here t.page _
index_top_first (suc depth) t = occurs_here t.page _

pub owner_uses_root : (map : PageMap) (size root : ℕ) (used : List ℕ) (content : Content) → HoldsUnder map size root used content → 1 ≤ occurs root used
owner_uses_root map size root used (OfRows rows) tree = uses_root map size root rows used tree
owner_uses_root map size root used (OfEntries columns entries) tree =
    subst (λ (pages : List ℕ). 1 ≤ occurs root pages) tree.used_are
    (subst (λ (n : ℕ). 1 ≤ occurs n (index.pages_of tree.depth tree.tree)) tree.root_is (index_top_first tree.depth tree.tree))

cons_first : {A : Type 0} (x y : A) (xs ys : List A) → x ∷ xs ≡ y ∷ ys → x ≡ y
cons_first x y xs ys e = cc

cons_rest : {A : Type 0} (x y : A) (xs ys : List A) → x ∷ xs ≡ y ∷ ys → xs ≡ ys
cons_rest x y xs ys e = cc

abbrev table : ℕ → List Entry → List ℕ → Owner
table root rows used = record { root = root; content = OfRows rows; used = used }

-- page 1 is the root of the first tree alone
first_alone : (map : PageMap) (size : ℕ) (schema : Owner) (owners before after : List Owner) (root : ℕ) (rows : List Entry) (used free : List ℕ)
    → AreShared map size (schema ∷ owners) free → schema.root ≡ 1 → schema ∷ owners ≡ before ++ (table root rows used ∷ after)
    → (root ≡ 1) ⊎ (occurs 1 used ≡ 0)
first_alone map size schema owners [] after root rows used free shared is_root split =
    inl (ap (λ (o : Owner). o.root) (sym (cons_first schema (table root rows used) owners after split)) ∙ is_root)
first_alone map size schema owners (first ∷ before) after root rows used free shared is_root split =
    let same = cons_rest schema first owners (before ++ (table root rows used ∷ after)) split in
    let all = ap (λ (os : List Owner). occurs 1 (used_by os)) same ∙ used_both 1 before (table root rows used ∷ after) in
    let own = occurs_both 1 used (used_by after) in
    let some : 1 ≤ occurs 1 schema.used = subst (λ (n : ℕ). 1 ≤ occurs n schema.used) is_root (owner_uses_root map size schema.root schema.used schema.content shared.trees.0) in
    let both = occurs_both 1 schema.used (used_by owners) in
    let once = shared.once 1 in
    let most = fresh_once 0 (length map) 1 in
    inr (omega (arith, all, own, some, both, once, most))

pub trees_stand : TreesStand
trees_stand map size schema owners before after root rows used free shared is_root split sized =
    let sum = λ (n : ℕ). ap (λ (os : List Owner). occurs n (used_by os)) split ∙ used_both n before (table root rows used ∷ after) in
    let own = λ (n : ℕ). occurs_both n used (used_by after) in
    let some : 1 ≤ occurs 1 schema.used = subst (λ (n : ℕ). 1 ≤ occurs n schema.used) is_root (owner_uses_root map size schema.root schema.used schema.content shared.trees.0) in
    let both = occurs_both 1 schema.used (used_by owners) in
    record {
      tree = (all_after (IsTree map size) before (table root rows used ∷ after) (subst (λ (os : List Owner). AllByRecursion (IsTree map size) os) split shared.trees)).0;
      free_are = record {
        has = shared.has;
        once = record { once = λ n. (let once = shared.once n in let most = fresh_once 0 (length map) n in omega (arith, once, most)) };
        behind = (let once = shared.once 1 in let most = fresh_once 0 (length map) 1 in omega (arith, once, most, some, both));
        whole = shared.whole;
      };
      apart = λ n. (let once = shared.once n in let most = fresh_once 0 (length map) n in let s = sum n in let o = own n in omega (arith, once, most, s, o));
      first = first_alone map size schema owners before after root rows used free shared is_root split;
      sized = sized;
    }

abbrev index_owner : ℕ → List Collation → List IndexEntry → List ℕ → Owner
index_owner root columns entries used = record { root = root; content = OfEntries columns entries; used = used }

pub index_trees_stand : IndexTreesStand
index_trees_stand map size schema before after root columns entries used free shared is_root sized =
    let owner = index_owner root columns entries used in
    let sum = λ (n : ℕ). used_both n before (owner ∷ after) in
    let own = λ (n : ℕ). occurs_both n used (used_by after) in
    let some : 1 ≤ occurs 1 schema.used = subst (λ (n : ℕ). 1 ≤ occurs n schema.used) is_root (owner_uses_root map size schema.root schema.used schema.content shared.trees.0) in
    let both = λ (n : ℕ). occurs_both n schema.used (used_by (before ++ (owner ∷ after))) in
    record {
      tree = (all_after (IsTree map size) before (owner ∷ after) shared.trees.1).0;
      free_are = record {
        has = shared.has;
        once = record { once = λ n. (let once = shared.once n in let most = fresh_once 0 (length map) n in omega (arith, once, most)) };
        behind = (let once = shared.once 1 in let most = fresh_once 0 (length map) 1 in let b = both 1 in omega (arith, once, most, some, b));
        whole = shared.whole;
      };
      apart = λ n. (let once = shared.once n in let most = fresh_once 0 (length map) n in let s = sum n in let o = own n in let b = both n in omega (arith, once, most, s, o, b));
      first = (let once = shared.once 1 in let most = fresh_once 0 (length map) 1 in let s = sum 1 in let o = own 1 in let b = both 1 in omega (arith, once, most, s, o, b, some));
      sized = sized;
    }
