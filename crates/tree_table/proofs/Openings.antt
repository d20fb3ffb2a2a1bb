-- Subtrees that stand side by side give way to their children.
use Rattle.std.proofs.Common.{◌≡◌, ◌≤◌, ◌<◌, ◌+◌, ◌∙◌, ap, refl, sym, subst, ℕ, suc, ℤ, List, [], ◌∷◌, ◌++◌, length, map, append_assoc, arith}
use Rattle.std.specs.List.{AllByRecursion}
use Rattle.std.specs.Prelude.{⊤, Result, Ok, Err, MatchResult}
use Rattle.sqlval.specs.Faults.{IsOutside}
use Rattle.sqlval.specs.declared.fault.Fault.{Fault}
use Rattle.tree_leaf.specs.Leaf.{Entry}
use Rattle.pages.specs.Counting.{occurs}
use Rattle.pages.specs.Map.{PageMap, Has}
use Rattle.pages.proofs.Moving.{occurs_append}
use Rattle.tree_page.specs.Cells.{Pairwise}
use Rattle.tree_page.specs.Node.{Keys, IsKeyCell}
use Rattle.tree_store.specs.Saying.{Says}
use Rattle.tree_store.specs.Sides.{Side, Each, Parted, children, each_of, nothing}
use Rattle.tree_store.specs.Steps.{AreGiven, GivesAll}
use Rattle.tree_store.specs.Storing.{AreOlds, cells_of}
use Rattle.tree_store.specs.declared.storing.Fan.{Fan}
use Rattle.tree_store.proofs.PutPages.{fresh_same}
use Rattle.tree_store.proofs.Windows.{each_join}
use Rattle.tree_table.specs.Flattening.{LeadsTo, all_kids, IsFanOf, ReadsBelow, AreBeside, BecomeBeside}
use Rattle.tree_table.specs.Tree.{Tree, top, rows_of, pages_of, IsSorted, Lies}
use Rattle.tree_table.proofs.Clearing.{after_first}
use Rattle.tree_table.proofs.Cutting.{each_split}
use Rattle.tree_table.proofs.Holes.{Kids, pages_in, children_append, each_stays, parted_join}
use Rattle.tree_table.proofs.Passing.{beside_used, others_seen}
use Rattle.tree_table.proofs.Staying.{lies_stays}

-- ---- what the pages say

-- the children of each subtree, with the key after it
abbrev pub sides_of : (depth : ℕ) → Kids (suc depth) → List (Side ℕ ℤ × ℤ)
sides_of depth kids = map (λ kid. ((children (top depth) kid.0.kids, top depth kid.0.last), kid.1)) kids

pub leads : (m : PageMap) (size depth : ℕ) (kids : Kids (suc depth)) (last : Tree (suc depth)) (cells : List (List ℕ)) → Pairwise IsKeyCell cells (children (top (suc depth)) kids) → Each (Lies m size (suc depth)) kids last
    → Pairwise (LeadsTo m) cells (sides_of depth kids)
leads m size depth [] last [] say lies = tt
leads m size depth [] last (cell ∷ cells) say lies = absurd say
leads m size depth (kid ∷ kids) last [] say lies = absurd say
leads m size depth (kid ∷ kids) last (cell ∷ cells) say lies = (
  record { number = kid.0.page; cell_is = say.0; says = lies.0.0 },
  leads m size depth kids last cells say.1 lies.1,
)

pub last_lies : {T : Type 0} (P : T → Type 0) (kids : List (T × ℤ)) (last : T) → Each P kids last → P last
last_lies P [] last h = h
last_lies P (kid ∷ kids) last h = last_lies P kids last h.1

-- ---- the row of children

-- the children of all subtrees before these
abbrev pub opened : (depth : ℕ) → Kids (suc depth) → Kids depth → Kids depth
opened depth [] rest = rest
opened depth (kid ∷ kids) rest = kid.0.kids ++ (kid.0.last, kid.1) ∷ opened depth kids rest

pub opened_shown : (depth : ℕ) (kids : Kids (suc depth)) (rest : Kids depth) → children (top depth) (opened depth kids rest) ≡ all_kids (sides_of depth kids) ++ children (top depth) rest
opened_shown depth [] rest = refl
opened_shown depth (kid ∷ kids) rest =
    let mine = children (top depth) kid.0.kids in
    let more = all_kids (sides_of depth kids) in
    let moved : ℕ × ℤ = (top depth kid.0.last, kid.1) in
    children_append (top depth) kid.0.kids ((kid.0.last, kid.1) ∷ opened depth kids rest)
    ∙ ap (λ (xs : List (ℕ × ℤ)). mine ++ moved ∷ xs) (opened_shown depth kids rest)
    ∙ sym (append_assoc mine (moved ∷ []) (more ++ children (top depth) rest))
    ∙ sym (append_assoc (mine ++ moved ∷ []) more (children (top depth) rest))

pub opened_gives : {X : Type 0} (depth : ℕ) (f : Tree depth → List X) (kids : Kids (suc depth)) (last : Tree (suc depth))
    → each_of f nothing (opened depth kids last.kids) last.last ≡ each_of (λ (b : Tree (suc depth)). each_of f nothing b.kids b.last) nothing kids last
opened_gives depth f [] last = refl
opened_gives depth f (kid ∷ kids) last =
    each_split f kid.0.kids kid.0.last kid.1 (opened depth kids last.kids) last.last ∙ ap (λ xs. each_of f nothing kid.0.kids kid.0.last ++ xs) (opened_gives depth f kids last)

pub opened_sorted : (depth : ℕ) (low : ℤ) (kids : Kids (suc depth)) (last : Tree (suc depth)) (high : ℤ) → Parted (IsSorted (suc depth)) low kids last high
    → Parted (IsSorted depth) low (opened depth kids last.kids) last.last high
opened_sorted depth low [] last high h = h
opened_sorted depth low (kid ∷ kids) last high h =
    parted_join (IsSorted depth) low kid.0.kids kid.0.last kid.1 (opened depth kids last.kids) last.last high h.0 (opened_sorted depth kid.1 kids last high h.1)

pub opened_lies : (m : PageMap) (size depth : ℕ) (kids : Kids (suc depth)) (last : Tree (suc depth)) → Each (Lies m size (suc depth)) kids last → Each (Lies m size depth) (opened depth kids last.kids) last.last
opened_lies m size depth [] last h = h.1
opened_lies m size depth (kid ∷ kids) last h =
    each_join (Lies m size depth) kid.0.kids kid.0.last kid.1 (opened depth kids last.kids) last.last h.0.1 (opened_lies m size depth kids last h.1)

-- ---- their pages

-- the pages at the tops
abbrev pub tops : (depth : ℕ) → Kids depth → Tree depth → List ℕ
tops depth kids last = map (λ (kid : ℕ × ℤ). kid.0) (children (top depth) kids) ++ top depth last ∷ []

pub opened_pages : (depth n : ℕ) (kids : Kids (suc depth)) (last : Tree (suc depth))
    → occurs n (pages_in (suc depth) kids last) ≡ occurs n (tops (suc depth) kids last) + occurs n (pages_in depth (opened depth kids last.kids) last.last)
opened_pages depth n [] last = omega arith
opened_pages depth n (kid ∷ kids) last =
    let rest = opened_pages depth n kids last in
    let mine = pages_in depth kid.0.kids kid.0.last in
    let one = occurs_append n (kid.0.page ∷ mine) (pages_in (suc depth) kids last) in
    let split = ap (occurs n) (each_split (pages_of depth) kid.0.kids kid.0.last kid.1 (opened depth kids last.kids) last.last) in
    let two = occurs_append n mine (pages_in depth (opened depth kids last.kids) last.last) in
    omega (arith, rest, one, split, two)

pub tops_there : (m : PageMap) (size depth : ℕ) (kids : Kids (suc depth)) (last : Tree (suc depth)) → Each (Lies m size (suc depth)) kids last → AllByRecursion (Has m) (tops (suc depth) kids last)
tops_there m size depth [] last h = (h.0.has, tt)
tops_there m size depth (kid ∷ kids) last h = (h.0.0.has, tops_there m size depth kids last h.1)

all_after : (m : PageMap) (pages : List ℕ) → AllByRecursion (Has m) pages → occurs 1 pages ≡ 0 → AllByRecursion (λ page. 1 < page) pages
all_after m [] there none = tt
all_after m (page ∷ pages) there none = (after_first m page pages there.0 none, all_after m pages there.1 (omega (arith, none)))

-- ---- the subtrees give way to their children

module _ (old : PageMap) (size depth : ℕ) (low high : ℤ) (rows : List Entry) (used free : List ℕ) (fan : Fan) (is : AreBeside old size (suc depth) low high rows used free fan) where
  abbrev now_kids : Kids depth
  now_kids = opened depth is.kids is.last.kids

  abbrev now_last : Tree depth
  now_last = is.last.last

  abbrev now_pages : List ℕ
  now_pages = pages_in depth now_kids now_last

  abbrev pub gone : List ℕ
  gone = tops (suc depth) is.kids is.last

  counted : (n : ℕ) → occurs n used ≡ occurs n gone + occurs n now_pages
  counted n = (let e = ap (occurs n) is.used_are in let all = opened_pages depth n is.kids is.last in omega (arith, e, all))

  -- their pages can be given back
  pub can_give : AreOlds old free gone
  can_give =
      let there = tops_there old size depth is.kids is.last is.lies in
      record {
        there = there;
        after = all_after old gone there (let none = is.first in let all = counted 1 in omega (arith, none, all));
        once = record { once = λ n. (let all = counted n in let most = is.apart n in let both = occurs_append n gone free in omega (arith, all, most, both)) };
      }

  -- what is read of them
  pub below_read : (result : Result Fan Fault) → ReadsBelow old size fan result
      → MatchResult result (IsFanOf (children (top depth) now_kids) (top depth now_last)) IsOutside
  below_read result reads =
      let last = last_lies (Lies old size (suc depth)) is.kids is.last is.lies in
      let says = subst (λ (n : ℕ). Says old n (Keys (children (top depth) is.last.kids) (top depth is.last.last))) (sym is.fan_is.last_is) last.0 in
      subst (λ (kids : List (ℕ × ℤ)). MatchResult result (IsFanOf kids (top depth now_last)) IsOutside) (sym (opened_shown depth is.kids is.last.kids))
      (reads (sides_of depth is.kids) (children (top depth) is.last.kids, top depth is.last.last) is.free_are.whole (leads old size depth is.kids is.last (cells_of fan) is.fan_is.cells is.lies) says)

  -- once they are given back, the children stand side by side
  pub opened_beside : (new : PageMap) (numbers : List ℕ) (below : Fan) → numbers ≡ gone → AreGiven old new size free numbers → IsFanOf (children (top depth) now_kids) (top depth now_last) below
      → BecomeBeside old new size depth low high rows used free below
  opened_beside new numbers below numbers_are given fan_is =
      let moved = given.moved in
      let moves = moved.moves in
      let fresh = λ (n : ℕ). fresh_same (length old) (length new) n given.same in
      let same = λ (n : ℕ). ap (occurs n) numbers_are in
      let apart : (n : ℕ) → occurs n now_pages + occurs n given.now_free ≤ 1 =
      λ n. (let at = moves.counts n in let none = fresh n in let e = same n in let all = counted n in let most = is.apart n in omega (arith, at, none, e, all, most)) in
      record {
        now_used = now_pages;
        now_free = given.now_free;
        beside = record {
          kids = now_kids;
          last = now_last;
          fan_is = fan_is;
          lies = each_stays depth (Lies old size depth) (Lies new size depth) now_kids now_last
              (λ u some k. lies_stays old new moves.longer size is.free_are.whole (moves.whole size is.free_are.whole) depth u
              (others_seen old new numbers free [] given.now_free (pages_of depth u) moves
              (λ n one. (let part = some n in let e = same n in let all = counted n in let most = is.apart n in omega (arith, part, e, all, most, one)))) k)
              (opened_lies old size depth is.kids is.last is.lies);
          sorted = opened_sorted depth low is.kids is.last high is.sorted;
          rows_are = opened_gives depth (rows_of depth) is.kids is.last ∙ is.rows_are;
          used_are = refl;
          apart = apart;
          first = (let none = is.first in let all = counted 1 in omega (arith, none, all));
          free_are = record {
            has = moved.has;
            once = record { once = λ n. (let both = apart n in omega (arith, both)) };
            behind = (let at = moves.counts 1 in let none = fresh 1 in let e = same 1 in let all = counted 1 in let first = is.first in let behind = is.free_are.behind in omega (arith, at, none, e, all, first, behind));
            whole = moves.whole size is.free_are.whole;
          };
          sized = is.sized;
        };
        moves = beside_used old new numbers free [] given.now_free now_pages used now_pages moves (λ n. (let e = same n in let all = counted n in omega (arith, e, all))) (λ n. omega arith);
        header = moved.header;
      }

  pub opened_or : (new : PageMap) (numbers : List ℕ) (below : Fan) (result : Result ⊤ Fault) → numbers ≡ gone → GivesAll old new size numbers result → IsFanOf (children (top depth) now_kids) (top depth now_last) below
      → MatchResult result (λ done. BecomeBeside old new size depth low high rows used free below) IsOutside
  opened_or new numbers below result numbers_are gives fan_is = by result (gives free is.free_are (subst (AreOlds old free) (sym numbers_are) can_give))
    where
      by : (result : Result ⊤ Fault) → MatchResult result (λ done. AreGiven old new size free numbers) IsOutside → MatchResult result (λ done. BecomeBeside old new size depth low high rows used free below) IsOutside
      by (Ok done) given = opened_beside new numbers below numbers_are given fan_is
      by (Err fault) outside = outside
