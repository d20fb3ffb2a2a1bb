-- A tree stays where what trees see of its pages stays.
use Rattle.std.proofs.Common.{ℕ, zero, suc, List, [], ◌∷◌, ◌++◌, subst, sym, arith}
use Rattle.std.specs.List.{flat_map}
use Rattle.pages.specs.Map.{PageMap}
use Rattle.tree_page.specs.Cells.{Pairwise}
use Rattle.tree_page.specs.Node.{Local, Entries, Between}
use Rattle.tree_page.specs.Payload.{index_most}
use Rattle.tree_overflow.proofs.Staying.{payload_kept}
use Rattle.tree_store.specs.Sides.{children, each_of}
use Rattle.tree_store.specs.Staying.{AreKept}
use Rattle.tree_store.proofs.Staying.{occurs_both, occurs_here, kept_of, says_kept, each_kept}
use Rattle.tree_index.specs.Tree.{Held, IsHeldAs, IsKidAs, Tree, top, pages_of, Lies}
use Rattle.tree_index.specs.Laws.{TreesStay}

pub entry_kept : (old new : PageMap) (size : ℕ) (said : Local) (held : Held) → AreKept old new size held.pages → IsHeldAs old size said held → IsHeldAs new size said held
entry_kept old new size said held kept is = record {
  size = is.size;
  payload = payload_kept old new size (index_most size) said.bytes held.payload held.pages kept.longer kept.same is.payload;
  record_is = is.record_is;
}

pub entries_kept : (old new : PageMap) (size : ℕ) (said : List Local) (entries : List Held) → AreKept old new size (flat_map (λ held. held.pages) entries)
    → Pairwise (IsHeldAs old size) said entries → Pairwise (IsHeldAs new size) said entries
entries_kept old new size [] [] kept all = tt
entries_kept old new size [] (held ∷ entries) kept all = absurd all
entries_kept old new size (item ∷ said) [] kept all = absurd all
entries_kept old new size (item ∷ said) (held ∷ entries) kept all =
    let rest = flat_map (λ (other : Held). other.pages) entries in
    let both = λ (n : ℕ). occurs_both n held.pages rest in (
      entry_kept old new size item held (kept_of old new size (held.pages ++ rest) held.pages (λ n some. (let b = both n in omega (arith, b, some))) kept) all.0,
      entries_kept old new size said entries (kept_of old new size (held.pages ++ rest) rest (λ n some. (let b = both n in omega (arith, b, some))) kept) all.1,
    )

-- the entries between children, whose pages are among those of the children and the entries together
pub between_kept : {T : Type 0} (old new : PageMap) (size : ℕ) (top_of : T → ℕ) (pages : T → List ℕ) (said : List (ℕ × Local)) (kids : List (T × Held)) (last : T)
    → AreKept old new size (each_of pages (λ held. held.pages) kids last)
    → Pairwise (IsKidAs old size) said (children top_of kids) → Pairwise (IsKidAs new size) said (children top_of kids)
between_kept old new size top_of pages [] [] last kept all = tt
between_kept old new size top_of pages [] (kid ∷ kids) last kept all = absurd all
between_kept old new size top_of pages (item ∷ said) [] last kept all = absurd all
between_kept old new size top_of pages (item ∷ said) (kid ∷ kids) last kept all =
    let rest = each_of pages (λ (held : Held). held.pages) kids last in
    let both = λ (n : ℕ). occurs_both n (pages kid.0) (kid.1.pages ++ rest) in
    let more = λ (n : ℕ). occurs_both n kid.1.pages rest in
    let its = all.0 in (
      (
        its.0,
        entry_kept old new size item.1 kid.1
            (kept_of old new size (pages kid.0 ++ (kid.1.pages ++ rest)) kid.1.pages (λ n some. (let b = both n in let m = more n in omega (arith, b, m, some))) kept) its.1,
      ),
      between_kept old new size top_of pages said kids last
          (kept_of old new size (pages kid.0 ++ (kid.1.pages ++ rest)) rest (λ n some. (let b = both n in let m = more n in omega (arith, b, m, some))) kept) all.1,
    )

pub lies_kept : (old new : PageMap) (size : ℕ) (depth : ℕ) (t : Tree depth) → AreKept old new size (pages_of depth t) → Lies old size depth t → Lies new size depth t
lies_kept old new size zero t kept lies =
    let chains = flat_map (λ (held : Held). held.pages) t.entries in
    record {
      said = lies.said;
      says = says_kept old new size t.page (t.page ∷ chains) (Entries lies.said) kept (occurs_here t.page chains) lies.says;
      entries = entries_kept old new size lies.said t.entries (kept_of old new size (t.page ∷ chains) chains (λ n some. omega (arith, some)) kept) lies.entries;
    }
lies_kept old new size (suc depth) t kept lies =
    let below = each_of (pages_of depth) (λ (held : Held). held.pages) t.kids t.last in
    let kept_below = kept_of old new size (t.page ∷ below) below (λ n some. omega (arith, some)) kept in
    let page = lies.0 in (
      record {
        said = page.said;
        says = says_kept old new size t.page (t.page ∷ below) (Between page.said (top depth t.last)) kept (occurs_here t.page below) page.says;
        children = between_kept old new size (top depth) (pages_of depth) page.said t.kids t.last kept_below page.children;
      },
      each_kept (Lies old size depth) (Lies new size depth) (pages_of depth) (λ held. held.pages) old new size (λ kid its. lies_kept old new size depth kid its) t.kids t.last
          kept_below lies.1,
    )

pub trees_stay : TreesStay
trees_stay old new size root columns entries used kept tree = record {
  depth = tree.depth;
  tree = tree.tree;
  shallow = tree.shallow;
  root_is = tree.root_is;
  lies = lies_kept old new size tree.depth tree.tree (subst (λ (pages : List ℕ). AreKept old new size pages) (sym tree.used_are) kept) tree.lies;
  entries_are = tree.entries_are;
  sorted = tree.sorted;
  used_are = tree.used_are;
  once = tree.once;
}
