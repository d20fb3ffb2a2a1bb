-- Subtrees that stand in a row give way to their children.
use Rattle.std.proofs.Common.{◌≡◌, ◌≤◌, ◌<◌, ◌+◌, ◌∙◌, ap, refl, sym, subst, ℕ, suc, List, [], ◌∷◌, ◌++◌, length, map, append_assoc, arith}
use Rattle.std.specs.List.{AllByRecursion}
use Rattle.std.specs.Prelude.{⊤, Result, Ok, Err, MatchResult}
use Rattle.sqlval.specs.Faults.{IsOutside}
use Rattle.sqlval.specs.declared.fault.Fault.{Fault}
use Rattle.pages.specs.Counting.{occurs}
use Rattle.pages.specs.Map.{PageMap, Has}
use Rattle.pages.proofs.Moving.{occurs_append}
use Rattle.tree_page.specs.Cells.{Pairwise}
use Rattle.tree_page.specs.Node.{Local, Between, IsBetweenCell}
use Rattle.tree_pack.proofs.Splices.{pairwise_append}
use Rattle.tree_store.specs.Frames.{goes}
use Rattle.tree_store.specs.Saying.{Says}
use Rattle.tree_store.specs.Sides.{Side, Each, children, each_of}
use Rattle.tree_store.specs.Staying.{AreKept}
use Rattle.tree_store.specs.Steps.{AreGiven, GivesAll}
use Rattle.tree_store.specs.Storing.{AreOlds, cells_of}
use Rattle.tree_store.specs.declared.storing.Fan.{Fan}
use Rattle.tree_store.proofs.PutPages.{fresh_same}
use Rattle.tree_store.proofs.Staying.{each_kept}
use Rattle.tree_store.proofs.Windows.{frame_gives, each_join}
use Rattle.tree_index.specs.Entries.{Entry}
use Rattle.tree_index.specs.Flattening.{LeadsTo, all_kids, IsFanOf, ReadsBelow, AreInRow, BecomeRow}
use Rattle.tree_index.specs.Tree.{Held, IsKidAs, Tree, top, entries_of, pages_of, Lies}
use Rattle.tree_index.proofs.Growth.{chain, pages_in}
use Rattle.tree_index.proofs.Rows.{children_append}
use Rattle.tree_index.proofs.Shares.{after_first, beside_used, others_kept}
use Rattle.tree_index.proofs.Staying.{between_kept, lies_kept}

-- ---- what the pages say

abbrev pub Kids : ℕ → Type 0
Kids depth = List (Tree depth × Held)

pub last_holds : {T K : Type 0} (P : T → Type 0) (kids : List (T × K)) (last : T) → Each P kids last → P last
last_holds P [] last h = h
last_holds P (kid ∷ kids) last h = last_holds P kids last h.1

module _ (m : PageMap) (size depth : ℕ) where
  -- what the page of each subtree says, with the entry after it
  abbrev pub sides_of : (kids : Kids (suc depth)) (last : Tree (suc depth)) → Each (Lies m size (suc depth)) kids last → List (ℕ × Local) → List (Side ℕ Local × Local)
  sides_of [] last lies said = []
  sides_of (kid ∷ kids) last lies [] = []
  sides_of (kid ∷ kids) last lies (it ∷ said) = ((lies.0.0.said, top depth kid.0.last), it.1) ∷ sides_of kids last lies.1 said

  pub leads : (kids : Kids (suc depth)) (last : Tree (suc depth)) (lies : Each (Lies m size (suc depth)) kids last) (cells : List (List ℕ)) (said : List (ℕ × Local)) → Pairwise (IsBetweenCell size) cells said
      → Pairwise (IsKidAs m size) said (children (top (suc depth)) kids) → Pairwise (LeadsTo m size) cells (sides_of kids last lies said)
  leads [] last lies [] said say shown = tt
  leads [] last lies (cell ∷ cells) [] say shown = absurd say
  leads [] last lies (cell ∷ cells) (it ∷ said) say shown = absurd shown
  leads (kid ∷ kids) last lies [] [] say shown = absurd shown
  leads (kid ∷ kids) last lies [] (it ∷ said) say shown = absurd say
  leads (kid ∷ kids) last lies (cell ∷ cells) [] say shown = absurd say
  leads (kid ∷ kids) last lies (cell ∷ cells) (it ∷ said) say shown = (
    record { number = kid.0.page; cell_is = subst (λ (n : ℕ). IsBetweenCell size cell (n, it.1)) shown.0.0 say.0; says = lies.0.0.says },
    leads kids last lies.1 cells said say.1 shown.1,
  )

  -- ---- the row of children

  -- the children of all subtrees before these
  abbrev pub opened : Kids (suc depth) → Kids depth → Kids depth
  opened [] rest = rest
  opened (kid ∷ kids) rest = kid.0.kids ++ (kid.0.last, kid.1) ∷ opened kids rest

  pub opened_shown : (kids : Kids (suc depth)) (last : Tree (suc depth)) (lies : Each (Lies m size (suc depth)) kids last) (said : List (ℕ × Local)) (rest : Kids depth) (ends : List (ℕ × Local))
      → Pairwise (IsKidAs m size) said (children (top (suc depth)) kids) → Pairwise (IsKidAs m size) ends (children (top depth) rest)
      → Pairwise (IsKidAs m size) (all_kids (sides_of kids last lies said) ++ ends) (children (top depth) (opened kids rest))
  opened_shown [] last lies said rest ends shown more = more
  opened_shown (kid ∷ kids) last lies [] rest ends shown more = absurd shown
  opened_shown (kid ∷ kids) last lies (it ∷ said) rest ends shown more =
      let mine = lies.0.0.said in
      let moved : ℕ × Local = (top depth kid.0.last, it.1) in
      let others = all_kids (sides_of kids last lies.1 said) in
      let later = opened_shown kids last lies.1 said rest ends shown.1 more in
      let all = pairwise_append (IsKidAs m size) mine (moved ∷ others ++ ends) (children (top depth) kid.0.kids) ((top depth kid.0.last, kid.1) ∷ children (top depth) (opened kids rest)) lies.0.0.children ((refl, shown.0.1), later) in
      let left : mine ++ (moved ∷ others ++ ends) ≡ ((mine ++ moved ∷ []) ++ others) ++ ends = (
      sym (append_assoc mine (moved ∷ []) (others ++ ends)) ∙ sym (append_assoc (mine ++ moved ∷ []) others ends)) in
      let right = children_append (top depth) kid.0.kids ((kid.0.last, kid.1) ∷ opened kids rest) in
      subst (λ (xs : List (ℕ × Local)). Pairwise (IsKidAs m size) xs (children (top depth) (kid.0.kids ++ (kid.0.last, kid.1) ∷ opened kids rest))) left
      (subst (λ (ys : List (ℕ × Held)). Pairwise (IsKidAs m size) (mine ++ (moved ∷ others ++ ends)) ys) (sym right) all)

  pub opened_lies : (kids : Kids (suc depth)) (last : Tree (suc depth)) → Each (Lies m size (suc depth)) kids last → Each (Lies m size depth) (opened kids last.kids) last.last
  opened_lies [] last h = h.1
  opened_lies (kid ∷ kids) last h = each_join (Lies m size depth) kid.0.kids kid.0.last kid.1 (opened kids last.kids) last.last h.0.1 (opened_lies kids last h.1)

  pub opened_gives : {X : Type 0} (f : Tree depth → List X) (b : Held → List X) (kids : Kids (suc depth)) (last : Tree (suc depth))
      → each_of f b (opened kids last.kids) last.last ≡ each_of (λ (t : Tree (suc depth)). each_of f b t.kids t.last) b kids last
  opened_gives f b [] last = refl
  opened_gives {X} f b (kid ∷ kids) last =
      frame_gives f b (goes [] kid.1 (opened kids last.kids, last.last)) (kid.0.kids, kid.0.last)
      ∙ ap (λ (xs : List X). each_of f b kid.0.kids kid.0.last ++ (b kid.1 ++ xs)) (opened_gives f b kids last)

  -- ---- their pages

  -- the pages at the tops
  abbrev pub tops : Kids (suc depth) → Tree (suc depth) → List ℕ
  tops kids last = map (λ (kid : ℕ × Held). kid.0) (children (top (suc depth)) kids) ++ top (suc depth) last ∷ []

  pub opened_pages : (n : ℕ) (kids : Kids (suc depth)) (last : Tree (suc depth)) → occurs n (pages_in (suc depth) kids last) ≡ occurs n (tops kids last) + occurs n (pages_in depth (opened kids last.kids) last.last)
  opened_pages n [] last = (let both = occurs_append n (last.page ∷ []) (pages_in depth last.kids last.last) in omega (arith, both))
  opened_pages n (kid ∷ kids) last =
      let rest = opened_pages n kids last in
      let mine = pages_in depth kid.0.kids kid.0.last in
      let others = pages_in (suc depth) kids last in
      let later = pages_in depth (opened kids last.kids) last.last in
      let one = occurs_append n (kid.0.page ∷ mine) (kid.1.pages ++ others) in
      let two = occurs_append n kid.1.pages others in
      let split = ap (occurs n) (frame_gives (pages_of depth) chain (goes [] kid.1 (opened kids last.kids, last.last)) (kid.0.kids, kid.0.last)) in
      let three = occurs_append n mine (kid.1.pages ++ later) in
      let four = occurs_append n kid.1.pages later in
      let five = occurs_append n (kid.0.page ∷ []) mine in
      let six = occurs_append n (kid.0.page ∷ []) (tops kids last) in
      omega (arith, rest, one, two, split, three, four, five, six)

  pub tops_there : (kids : Kids (suc depth)) (last : Tree (suc depth)) → Each (Lies m size (suc depth)) kids last → AllByRecursion (Has m) (tops kids last)
  tops_there [] last h = (h.0.says.has, tt)
  tops_there (kid ∷ kids) last h = (h.0.0.says.has, tops_there kids last h.1)

  -- what the fan says of them
  pub tops_said : (said : List (ℕ × Local)) (kids : Kids (suc depth)) → Pairwise (IsKidAs m size) said (children (top (suc depth)) kids)
      → map (λ (kid : ℕ × Local). kid.0) said ≡ map (λ (kid : ℕ × Held). kid.0) (children (top (suc depth)) kids)
  tops_said [] [] shown = refl
  tops_said [] (kid ∷ kids) shown = absurd shown
  tops_said (it ∷ said) [] shown = absurd shown
  tops_said (it ∷ said) (kid ∷ kids) shown = (let rest = tops_said said kids shown.1 in let first = shown.0.0 in cc)

  all_after : (pages : List ℕ) → AllByRecursion (Has m) pages → occurs 1 pages ≡ 0 → AllByRecursion (λ page. 1 < page) pages
  all_after [] there none = tt
  all_after (page ∷ pages) there none = (after_first m page pages there.0 none, all_after pages there.1 (let both = occurs_append 1 (page ∷ []) pages in omega (arith, none, both)))

-- ---- the subtrees give way to their children

module _ (old : PageMap) (size depth : ℕ) (entries : List Entry) (used free : List ℕ) (fan : Fan) (is : AreInRow old size (suc depth) entries used free fan) where
  abbrev now_kids : Kids depth
  now_kids = opened old size depth is.kids is.last.kids

  abbrev now_last : Tree depth
  now_last = is.last.last

  abbrev now_pages : List ℕ
  now_pages = pages_in depth now_kids now_last

  abbrev pub gone : List ℕ
  gone = tops old size depth is.kids is.last

  abbrev last_lies : Lies old size (suc depth) is.last
  last_lies = last_holds (Lies old size (suc depth)) is.kids is.last is.lies

  abbrev pub now_said : List (ℕ × Local)
  now_said = all_kids (sides_of old size depth is.kids is.last is.lies is.said) ++ last_lies.0.said

  counted : (n : ℕ) → occurs n used ≡ occurs n gone + occurs n now_pages
  counted n = (let e = ap (occurs n) is.used_are in let all = opened_pages old size depth n is.kids is.last in omega (arith, e, all))

  -- their numbers are those that the fan has
  pub numbers_gone : (numbers : List ℕ) → numbers ≡ map (λ (kid : ℕ × Local). kid.0) is.said ++ fan.last ∷ [] → numbers ≡ gone
  numbers_gone numbers are = (let said = tops_said old size depth is.said is.kids is.shown in let last = is.fan_is.last_is in cc)

  -- their pages can be given back
  pub can_give : AreOlds old free gone
  can_give =
      let there = tops_there old size depth is.kids is.last is.lies in
      record {
        there = there;
        after = all_after old size depth gone there (let none = is.first in let all = counted 1 in omega (arith, none, all));
        once = record { once = λ n. (let all = counted n in let most = is.apart n in let both = occurs_append n gone free in omega (arith, all, most, both)) };
      }

  -- what is read of them
  pub below_read : (result : Result Fan Fault) → ReadsBelow old size fan result → MatchResult result (IsFanOf size now_said (top depth now_last)) IsOutside
  below_read result reads =
      let says = subst (λ (n : ℕ). Says old n (Between last_lies.0.said (top depth is.last.last))) (sym is.fan_is.last_is) last_lies.0.says in
      reads (sides_of old size depth is.kids is.last is.lies is.said) (last_lies.0.said, top depth is.last.last) is.free_are.whole
      (leads old size depth is.kids is.last is.lies (cells_of fan) is.said is.fan_is.cells is.shown) says

  -- once they are given back, the children stand in a row
  pub opened_row : (new : PageMap) (numbers : List ℕ) (below : Fan) → numbers ≡ gone → AreGiven old new size free numbers → IsFanOf size now_said (top depth now_last) below
      → BecomeRow old new size depth entries used free below
  opened_row new numbers below numbers_are given fan_is =
      let moved = given.moved in
      let moves = moved.moves in
      let fresh = λ (n : ℕ). fresh_same (length old) (length new) n given.same in
      let same = λ (n : ℕ). ap (occurs n) numbers_are in
      let apart : (n : ℕ) → occurs n now_pages + occurs n given.now_free ≤ 1 =
      λ n. (let at = moves.counts n in let none = fresh n in let e = same n in let all = counted n in let most = is.apart n in omega (arith, at, none, e, all, most)) in
      let kept : AreKept old new size now_pages = others_kept old new size numbers free [] given.now_free now_pages is.free_are.whole moves
      (λ n some. (let e = same n in let all = counted n in let most = is.apart n in omega (arith, some, e, all, most))) in
      record {
        now_used = now_pages;
        now_free = given.now_free;
        row = record {
          kids = now_kids;
          last = now_last;
          said = now_said;
          fan_is = fan_is;
          shown = between_kept old new size (top depth) (pages_of depth) now_said now_kids now_last kept
              (opened_shown old size depth is.kids is.last is.lies is.said is.last.kids last_lies.0.said is.shown last_lies.0.children);
          lies = each_kept (Lies old size depth) (Lies new size depth) (pages_of depth) chain old new size (λ u k its. lies_kept old new size depth u k its) now_kids now_last kept
              (opened_lies old size depth is.kids is.last is.lies);
          entries_are = opened_gives old size depth (entries_of depth) (λ (held : Held). held.entry ∷ []) is.kids is.last ∙ is.entries_are;
          used_are = refl;
          apart = apart;
          first = (let none = is.first in let all = counted 1 in omega (arith, none, all));
          free_are = record {
            has = moved.has;
            once = record { once = λ n. (let both = apart n in omega (arith, both)) };
            behind = (let at = moves.counts 1 in let none = fresh 1 in let e = same 1 in let all = counted 1 in let first = is.first in let behind = is.free_are.behind in omega (arith, at, none, e, all, first, behind));
            whole = moves.whole size is.free_are.whole;
          };
          sized = is.sized;
        };
        moves = beside_used old new numbers free [] given.now_free now_pages used now_pages moves (λ n. (let e = same n in let all = counted n in omega (arith, e, all))) (λ n. omega arith);
        header = moved.header;
      }

  pub opened_or : (new : PageMap) (numbers : List ℕ) (below : Fan) (result : Result ⊤ Fault) → numbers ≡ gone → GivesAll old new size numbers result → IsFanOf size now_said (top depth now_last) below
      → MatchResult result (λ done. BecomeRow old new size depth entries used free below) IsOutside
  opened_or new numbers below result numbers_are gives fan_is = by result (gives free is.free_are (subst (AreOlds old free) (sym numbers_are) can_give))
    where
      by : (result : Result ⊤ Fault) → MatchResult result (λ done. AreGiven old new size free numbers) IsOutside → MatchResult result (λ done. BecomeRow old new size depth entries used free below) IsOutside
      by (Ok done) given = opened_row new numbers below numbers_are given fan_is
      by (Err fault) outside = outside
