-- A tree stays where what trees see of its pages stays.
use Rattle.std.proofs.Common.{refl, ℕ, zero, suc, ℤ, List, [], ◌∷◌, ◌++◌, subst, sym, arith}
use Rattle.std.specs.List.{flat_map}
use Rattle.pages.specs.Map.{PageMap}
use Rattle.tree_page.specs.Cells.{Pairwise}
use Rattle.tree_page.specs.Node.{Local, Rows, Keys}
use Rattle.tree_page.specs.Payload.{table_most}
use Rattle.tree_overflow.proofs.Staying.{payload_kept}
use Rattle.tree_store.specs.Sides.{children, each_of, nothing}
use Rattle.tree_store.specs.Staying.{AreKept}
use Rattle.tree_store.proofs.Staying.{occurs_both, occurs_here, kept_of, says_kept, each_kept}
use Rattle.tree_leaf.specs.Leaf.{Entry}
use Rattle.tree_table.specs.Tree.{Held, IsHeldAs, IsTableTree, Tree, top, pages_of, Lies}
use Rattle.tree_table.specs.Laws.{TreesStay}

held_kept : (old new : PageMap) (size : ℕ) (said : List (ℤ × Local)) (rows : List Held) → AreKept old new size (flat_map (λ held. held.pages) rows)
    → Pairwise (IsHeldAs old size) said rows → Pairwise (IsHeldAs new size) said rows
held_kept old new size [] [] kept all = tt
held_kept old new size [] (row ∷ rows) kept all = absurd all
held_kept old new size (item ∷ said) [] kept all = absurd all
held_kept old new size (item ∷ said) (row ∷ rows) kept all =
    let rest = flat_map (λ (held : Held). held.pages) rows in
    let both = λ (n : ℕ). occurs_both n row.pages rest in
    let first = all.0 in (
      record {
        rowid = first.rowid;
        size = first.size;
        payload = payload_kept old new size (table_most size) item.1.bytes row.row.payload row.pages kept.longer
            (λ n has some. kept.same n has (let b = both n in omega (arith, b, some))) first.payload;
      },
      held_kept old new size said rows (kept_of old new size (row.pages ++ rest) rest (λ n some. (let b = both n in omega (arith, b, some))) kept) all.1,
    )

pub lies_kept : (old new : PageMap) (size : ℕ) (depth : ℕ) (t : Tree depth) → AreKept old new size (pages_of depth t) → Lies old size depth t → Lies new size depth t
lies_kept old new size zero t kept lies =
    let chains = flat_map (λ (held : Held). held.pages) t.rows in
    record {
      said = lies.said;
      says = says_kept old new size t.page (t.page ∷ chains) (Rows lies.said) kept (occurs_here t.page chains) lies.says;
      rows = held_kept old new size lies.said t.rows (kept_of old new size (t.page ∷ chains) chains (λ n some. omega (arith, some)) kept) lies.rows;
    }
lies_kept old new size (suc depth) t kept lies =
    let below = each_of (pages_of depth) nothing t.kids t.last in (
      says_kept old new size t.page (t.page ∷ below) (Keys (children (top depth) t.kids) (top depth t.last)) kept (occurs_here t.page below) lies.0,
      each_kept (Lies old size depth) (Lies new size depth) (pages_of depth) nothing old new size (λ kid its. lies_kept old new size depth kid its) t.kids t.last
          (kept_of old new size (t.page ∷ below) below (λ n some. omega (arith, some)) kept) lies.1,
    )

abbrev stay : (old new : PageMap) (size root : ℕ) (rows : List Entry) (used : List ℕ) → AreKept old new size used → IsTableTree old size root rows used → IsTableTree new size root rows used
stay old new size root rows used kept tree = record {
  depth = tree.depth;
  tree = tree.tree;
  low = tree.low;
  high = tree.high;
  shallow = tree.shallow;
  root_is = tree.root_is;
  lies = lies_kept old new size tree.depth tree.tree (subst (λ (pages : List ℕ). AreKept old new size pages) (sym tree.used_are) kept) tree.lies;
  sorted = tree.sorted;
  rows_are = tree.rows_are;
  used_are = tree.used_are;
  once = tree.once;
}

pub trees_stay : TreesStay
trees_stay old new size root rows used kept tree = (stay old new size root rows used kept tree, refl)
