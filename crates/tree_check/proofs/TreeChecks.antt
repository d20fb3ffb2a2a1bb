-- The check of a whole tree.
use Rattle.std.proofs.Common.{◌≡◌, ◌≤◌, ◌<◌, ℕ, ℤ, Bool, false, true, List, slice_index_or, refl, sym, ap, subst, arith, Ok, Err, if◌then◌else◌}
use Rattle.std.specs.Prelude.{⊤, Result, IsErrAnd, IfErr, OnOk}
use Rattle.sqlval.specs.declared.fault.Fault.{Fault}
use Rattle.sqlval.specs.Faults.{IsOutside}
use Rattle.pages.specs.Counting.{occurs}
use Rattle.pages.specs.Map.{PageMap}
use Rattle.tree_table.specs.Tree.{rows_of, pages_of}
use Rattle.tree_check.specs.Checks.{IsChecked, IsUnmarked, MarksTree}
use Rattle.tree_check.specs.Exact.{Checks}
use Rattle.tree_check.specs.Subtrees.{IsSubtree, FindsDepth}
use Rattle.tree_check.proofs.LeftEdge.{table_edge}
use Rattle.tree_check.proofs.Bounds.{before_all, last_rowid, within_all}

pub at_most_one : (b : Bool) → (if b then 1 else 0) ≤ 1
at_most_one true = omega arith
at_most_one false = omega arith

-- what was found under a root is a table's tree
pub tree_found : (map : PageMap) (size root depth : ℕ) (low high : ℤ) (old new : List Bool) (result : Result ⊤ Fault) → depth < 20 → Checks (IsSubtree map size root depth low high) (pages_of depth) old new result
    → OnOk result (IsChecked map size root old new)
tree_found map size root depth low high old new (Ok done) few check =
    let t = check.0.it in
    let is = check.0.is in
    record {
      rows = rows_of depth t;
      used = pages_of depth t;
      tree = record {
        depth = depth;
        tree = t;
        low = low;
        high = high;
        shallow = few;
        root_is = is.top_is;
        lies = is.lies;
        sorted = is.sorted;
        rows_are = refl;
        used_are = refl;
        once = record { once = λ n. let u = check.0.marks.marks n in let v = at_most_one (slice_index_or new n false) in omega (arith, u, v) };
      };
      marks = check.0.marks;
    }
tree_found map size root depth low high old new (Err fault) few check = tt

-- where a tree that isn't marked lies under the root, the check is refused for nothing else
pub tree_only : (map : PageMap) (size root depth : ℕ) (old new : List Bool) (result : Result ⊤ Fault) → FindsDepth map root (Ok depth)
    → Checks (IsSubtree map size root depth before_all last_rowid) (pages_of depth) old new result → IsUnmarked map size root old → IfErr result IsOutside
tree_only map size root depth old new (Ok done) finds check is = tt
tree_only map size root depth old new (Err fault) finds check is =
    let t = is.tree in
    let same : depth ≡ t.depth = finds t.depth t.shallow (table_edge map size root t.depth t.tree t.root_is t.lies) in
    let there = subst (λ (d : ℕ). Checks (IsSubtree map size root d before_all last_rowid) (pages_of d) old new (Err fault)) same check in
    there t.tree (record { top_is = t.root_is; lies = t.lies; sorted = within_all map size t.depth t.low t.high t.tree t.lies t.sorted })
    (λ n. let u = is.apart n in let e = ap (occurs n) t.used_are in omega (arith, u, e))

pub depth_refused : (map : PageMap) (size root : ℕ) (old : List Bool) (fault : Fault) (result : Result ⊤ Fault) → FindsDepth map root (Err fault) → IsUnmarked map size root old → IsErrAnd result (λ e. e ≡ fault) → IfErr result IsOutside
depth_refused map size root old fault (Ok done) finds is refused = absurd refused
depth_refused map size root old fault (Err e) finds is refused = (let t = is.tree in subst IsOutside (sym refused) (finds t.depth t.shallow (table_edge map size root t.depth t.tree t.root_is t.lies)))

-- of any tree under the root none of whose pages was marked these are the pages
pub tree_same : (map : PageMap) (size root depth : ℕ) (old new : List Bool) (result : Result ⊤ Fault) → FindsDepth map root (Ok depth)
    → Checks (IsSubtree map size root depth before_all last_rowid) (pages_of depth) old new result → OnOk result (MarksTree map size root old new)
tree_same map size root depth old new (Err fault) finds check = tt
tree_same map size root depth old new (Ok done) finds check = λ rows used tree free.
    (let same : depth ≡ tree.depth = finds tree.depth tree.shallow (table_edge map size root tree.depth tree.tree tree.root_is tree.lies) in
    let there = subst (λ (d : ℕ). Checks (IsSubtree map size root d before_all last_rowid) (pages_of d) old new (Ok tt)) same check in
    let marked = there.1 tree.tree (record { top_is = tree.root_is; lies = tree.lies; sorted = within_all map size tree.depth tree.low tree.high tree.tree tree.lies tree.sorted })
    (λ n. let u = free n in let e = ap (occurs n) tree.used_are in omega (arith, u, e)) in
    record { long = marked.long; marks = λ n. let v = marked.marks n in let e = ap (occurs n) tree.used_are in omega (arith, v, e) })
