-- The check of a whole index's tree.
use Rattle.std.proofs.Common.{◌≡◌, ◌+◌, ◌<◌, ℕ, Bool, true, false, ◌&&◌, List, [], ◌∷◌, length, slice_index_or, refl, sym, ap, subst, ◌∙◌, arith, Ok, Err}
use Rattle.std.specs.Prelude.{⊤, Result, IsErrAnd, IfErr, OnOk}
use Rattle.std.specs.List.{AllByRecursion}
use Rattle.std.specs.Ordering.{is_lt}
use Rattle.std.specs.declared.cmp.Ordering.{Ordering}
use Rattle.std.specs.declared.cmp.Ordering.TheVariants.{Less, Equal, Greater}
use Rattle.sqlval.specs.declared.collation.Collation.{Collation}
use Rattle.sqlval.specs.declared.fault.Fault.{Fault}
use Rattle.sqlval.specs.declared.value.Value.{Value}
use Rattle.sqlval.specs.Faults.{IsOutside}
use Rattle.sqlval.specs.Lists.{is_rising}
use Rattle.pages.specs.Counting.{occurs}
use Rattle.pages.specs.Map.{PageMap}
use Rattle.tree_index.specs.Entries.{Entry, AreEntries, entry_cmp}
use Rattle.tree_index.specs.Tree.{entries_of, pages_of}
use Rattle.tree_check.specs.Checks.{IsCheckedIndex, IsUnmarkedIndex, MarksIndex}
use Rattle.tree_check.specs.InOrder.{Follow}
use Rattle.tree_check.specs.Subtrees.{FindsDepth}
use Rattle.tree_check.proofs.LeftEdge.{index_edge}
use Rattle.tree_check.proofs.OrderedTrees.{ChecksUnder}
use Rattle.tree_check.proofs.TreeChecks.{at_most_one}

-- ---- entries in rising order

whole_if : (columns : List Collation) (last now : List Value) (entries : List Entry) → Follow columns last entries now → AllByRecursion (λ entry. length entry ≡ length columns + 1) entries
whole_if columns last now [] follow = tt
whole_if columns last now (entry ∷ entries) follow = (follow.0.0, whole_if columns entry now entries follow.1)

less_and : (a b : Entry) (columns : List Collation) (rest : Bool) → entry_cmp columns a b ≡ Less → rest ≡ true → is_lt (entry_cmp columns a b) && rest ≡ true
less_and a b columns rest less is = ap (λ (o : Ordering). is_lt o && rest) less ∙ is

rises_if : (columns : List Collation) (last now : List Value) (entries : List Entry) → Follow columns last entries now → is_rising (entry_cmp columns) entries ≡ true
rises_if columns last now [] follow = refl
rises_if columns last now (entry ∷ []) follow = refl
rises_if columns last now ([] ∷ next ∷ entries) follow = absurd (let none = follow.0.0 in omega (arith, none))
rises_if columns last now ((value ∷ values) ∷ next ∷ entries) follow =
    less_and (value ∷ values) next columns (is_rising (entry_cmp columns) (next ∷ entries)) follow.1.0.1 (rises_if columns (value ∷ values) now (next ∷ entries) follow.1)

-- entries that follow are those of an index
entries_if : (columns : List Collation) (now : List Value) (entries : List Entry) → Follow columns [] entries now → AreEntries columns entries
entries_if columns now entries follow = record { whole = whole_if columns [] now entries follow; rising = rises_if columns [] now entries follow }

less_is : (o : Ordering) (rest : Bool) → is_lt o && rest ≡ true → (o ≡ Less) × (rest ≡ true)
less_is Less rest is = (refl, is)
less_is Equal rest is = absurd cc
less_is Greater rest is = absurd cc

-- an entry comes after the one before it
follow_after : (columns : List Collation) (entry : Entry) (entries : List Entry) → length entry ≡ length columns + 1 → AllByRecursion (λ entry. length entry ≡ length columns + 1) entries
    → is_rising (entry_cmp columns) (entry ∷ entries) ≡ true → (now : List Value) × Follow columns entry entries now
follow_after columns entry [] long whole rising = (entry, refl)
follow_after columns [] (next ∷ entries) long whole rising = absurd (omega (arith, long))
follow_after columns (value ∷ values) (next ∷ entries) long whole rising =
    let both = less_is (entry_cmp columns (value ∷ values) next) (is_rising (entry_cmp columns) (next ∷ entries)) rising in
    let rest = follow_after columns next entries whole.0 whole.1 both.1 in
    (rest.0, ((whole.0, both.0), rest.1))

-- the entries of an index follow
follow_if : (columns : List Collation) (entries : List Entry) → AreEntries columns entries → (now : List Value) × Follow columns [] entries now
follow_if columns [] are = ([], refl)
follow_if columns (entry ∷ entries) are =
    let rest = follow_after columns entry entries are.whole.0 are.whole.1 are.rising in
    (rest.0, ((are.whole.0, tt), rest.1))

-- ---- the tree

-- what was found under a root is an index's tree
pub index_found : (map : PageMap) (size root depth : ℕ) (columns : List Collation) (now : List Value) (old new : List Bool) (result : Result ⊤ Fault) → depth < 20
    → ChecksUnder map size root depth columns [] now old new result → OnOk result (IsCheckedIndex map size root columns old new)
index_found map size root depth columns now old new (Ok done) few check =
    let t = check.0.0.it in
    let is = check.0.0.is in
    record {
      entries = entries_of depth t;
      used = pages_of depth t;
      tree = record {
        depth = depth;
        tree = t;
        shallow = few;
        root_is = is.top_is;
        lies = is.lies;
        entries_are = refl;
        sorted = entries_if columns now (entries_of depth t) (check.1 t is);
        used_are = refl;
        once = record { once = λ n. let u = check.0.0.marks.marks n in let v = at_most_one (slice_index_or new n false) in omega (arith, u, v) };
      };
      marks = check.0.0.marks;
    }
index_found map size root depth columns now old new (Err fault) few check = tt

-- where one that isn't marked lies under the root, the check is refused for nothing else
pub index_only : (map : PageMap) (size root depth : ℕ) (columns : List Collation) (now : List Value) (old new : List Bool) (result : Result ⊤ Fault) → FindsDepth map root (Ok depth)
    → ChecksUnder map size root depth columns [] now old new result → IsUnmarkedIndex map size root columns old → IfErr result IsOutside
index_only map size root depth columns now old new (Ok done) finds check is = tt
index_only map size root depth columns now old new (Err fault) finds check is =
    let t = is.tree in
    let same : depth ≡ t.depth = finds t.depth t.shallow (index_edge map size root t.depth t.tree t.root_is t.lies) in
    let there = subst (λ (d : ℕ). ChecksUnder map size root d columns [] now old new (Err fault)) same check in
    let follow = follow_if columns is.entries t.sorted in
    there t.tree follow.0 (record { top_is = t.root_is; lies = t.lies }) (λ n. let u = is.apart n in let e = ap (occurs n) t.used_are in omega (arith, u, e))
    (subst (λ (l : List Entry). Follow columns [] l follow.0) (sym t.entries_are) follow.1)

pub index_refused : (map : PageMap) (size root : ℕ) (columns : List Collation) (old : List Bool) (fault : Fault) (result : Result ⊤ Fault) → FindsDepth map root (Err fault)
    → IsUnmarkedIndex map size root columns old → IsErrAnd result (λ e. e ≡ fault) → IfErr result IsOutside
index_refused map size root columns old fault (Ok done) finds is refused = absurd refused
index_refused map size root columns old fault (Err e) finds is refused =
    (let t = is.tree in subst IsOutside (sym refused) (finds t.depth t.shallow (index_edge map size root t.depth t.tree t.root_is t.lies)))

-- of any index's tree under the root none of whose pages was marked these are the pages
pub index_same : (map : PageMap) (size root depth : ℕ) (columns : List Collation) (now : List Value) (old new : List Bool) (result : Result ⊤ Fault) → FindsDepth map root (Ok depth)
    → ChecksUnder map size root depth columns [] now old new result → OnOk result (MarksIndex map size root columns old new)
index_same map size root depth columns now old new (Err fault) finds check = tt
index_same map size root depth columns now old new (Ok done) finds check = λ entries used tree free.
    (let same : depth ≡ tree.depth = finds tree.depth tree.shallow (index_edge map size root tree.depth tree.tree tree.root_is tree.lies) in
    let there = subst (λ (d : ℕ). ChecksUnder map size root d columns [] now old new (Ok tt)) same check in
    let marked = there.0.1 tree.tree (record { top_is = tree.root_is; lies = tree.lies }) (λ n. let u = free n in let e = ap (occurs n) tree.used_are in omega (arith, u, e)) in
    record { long = marked.long; marks = λ n. let v = marked.marks n in let e = ap (occurs n) tree.used_are in omega (arith, v, e) })
