-- The pages of a tree are given back, child by child.
use Rattle.std.proofs.Common.{◌≡◌, refl, sym, ◌∙◌, ap, subst, ℕ, zero, suc, ◌<◌, ◌≤◌, ◌+◌, ◌-◌, ◌^◌, Bool, true, false, not, IsTrue, Ok, Err, Some, None, Option, List, [], ◌∷◌, ◌++◌, length, slice_index_or, arith}
use Rattle.std.specs.List.{flat_map}
use Rattle.std.specs.Prelude.{⊤, Result, MatchResult, min}
use Rattle.sqlval.specs.Faults.{IsOutside}
use Rattle.sqlval.specs.declared.fault.Fault.{Fault}
use Rattle.pages.specs.Calls.{Limits, Causes}
use Rattle.pages.specs.Counting.{occurs}
use Rattle.pages.specs.Map.{PageMap, page_at, Has}
use Rattle.pages.proofs.Moving.{occurs_append, not_fresh}
use Rattle.freelist.specs.Calls.{IsGiven, Gives}
use Rattle.tree_page.specs.Cells.{Pairwise}
use Rattle.tree_page.specs.Node.{Between, IsBetweenCell}
use Rattle.tree_store.specs.Saying.{Says}
use Rattle.tree_store.specs.Sides.{Each}
use Rattle.tree_store.specs.Staying.{AreKept}
use Rattle.std.specs.Option.{is_some}
use Rattle.tree_store.proofs.Staying.{says_kept, occurs_here, kept_of}
use Rattle.tree_index.specs.Calls.{AreGivenBack}
use Rattle.tree_index.specs.Comparing.{FindsChild, child_at, child_of}
use Rattle.tree_index.specs.Freeing.{chains_of, all_of, below_of, HoldEntries, HoldKids, StandsUnder, FreesKids, FreesBelow}
use Rattle.tree_index.specs.Tree.{Held, Tree, top, pages_of, Lies}
use Rattle.tree_index.proofs.Givings.{none_given, given_as, given_then, given_by, up_to, up_to_more, up_to_all, among, after_part}
use Rattle.tree_index.proofs.Shares.{up_cons, up_none, self_once, not_there, other_or_none, after_first}
use Rattle.tree_index.proofs.Staying.{lies_kept}
use Rattle.tree_index.proofs.Subtrees.{pages_split, entries_at, entries_between, told, top_there, all_counted, each_at, child_is, row_pages, tops_between}

-- ---- a tree whose other pages were given back

-- Its top is there still, and isn't free.
pub record IsLeftOver (mid : PageMap) (number : ℕ) (now_free : List ℕ) : Type 0 where
  pub has : Has mid number
  pub other : occurs number now_free ≡ 0

-- the pages of a tree are its top and those below
pub top_and_below : (m : PageMap) (size number ways depth : ℕ) (t : Tree depth) (free : List ℕ) → StandsUnder m size number ways depth t free → pages_of depth t ≡ number ∷ below_of depth t
top_and_below m size number ways depth t free is = pages_split depth t ∙ ap (λ (page : ℕ). page ∷ below_of depth t) is.top_is

pub left_over : (old mid : PageMap) (size number ways depth : ℕ) (t : Tree depth) (free : List ℕ) → StandsUnder old size number ways depth t free → (given : AreGivenBack old mid size (below_of depth t) free)
    → IsLeftOver mid number given.now_free
left_over old mid size number ways depth t free is given =
    let has : Has old number = subst (λ (n : ℕ). Has old n) is.top_is (top_there old size depth t is.lies) in
    let most = is.apart number in
    let parts = ap (occurs number) (top_and_below old size number ways depth t free is) in
    let self = self_once number (below_of depth t) in
    let at = (given.moves).counts number in
    let none = not_fresh (length old) (length mid) number has.last in
    record { has = record { first = has.first; last = (let last = has.last in let same = given.same in omega (arith, last, same)) }; other = omega (arith, most, parts, self, at, none) }

pub number_far : (old : PageMap) (size number ways depth : ℕ) (t : Tree depth) (free : List ℕ) → StandsUnder old size number ways depth t free → 1 < number
number_far old size number ways depth t free is =
    after_first old number (below_of depth t) (subst (λ (n : ℕ). Has old n) is.top_is (top_there old size depth t is.lies))
    (let parts = ap (occurs 1) (top_and_below old size number ways depth t free is) in let none = is.first in omega (arith, parts, none))

-- where its top is given back too, the whole tree is
pub whole_given : (old mid new : PageMap) (size number ways depth : ℕ) (t : Tree depth) (free : List ℕ) (result : Result ⊤ Fault) → StandsUnder old size number ways depth t free
    → (given : AreGivenBack old mid size (below_of depth t) free) → Gives mid new size number result → MatchResult result (λ done. AreGivenBack old new size (pages_of depth t) free) IsOutside
whole_given old mid new size number ways depth t free result is given gives = by_result result (gives given.now_free given.free_are far there other)
  where
    far : 1 < number
    far = number_far old size number ways depth t free is

    over : IsLeftOver mid number given.now_free
    over = left_over old mid size number ways depth t free is given

    there : Has mid number
    there = over.has

    split : (n : ℕ) → occurs n (pages_of depth t) ≡ occurs n (number ∷ below_of depth t)
    split n = ap (occurs n) (top_and_below old size number ways depth t free is)

    other : occurs number given.now_free ≡ 0
    other = over.other

    up : (n : ℕ) → 1 ≤ occurs n (number ∷ []) → n ≤ length mid
    up = up_cons (length mid) number [] there.last (up_none (length mid))

    first_none : occurs 1 (number ∷ []) ≡ 0
    first_none = not_there 1 number (λ same. omega (arith, far, same))

    by_result : (result : Result ⊤ Fault) → MatchResult result (λ done. IsGiven mid new size given.now_free number) IsOutside → MatchResult result (λ done. AreGivenBack old new size (pages_of depth t) free) IsOutside
    by_result (Ok done) it =
        let top_given = given_by mid new size (number ∷ []) given.now_free it.now_free given.free_are up (λ n. other_or_none n number given.now_free other (((given.free_are).once).once n)) first_none it.has it.moves it.header it.same in
        given_as old new size (below_of depth t ++ number ∷ []) (pages_of depth t) free (λ n. (let parts = split n in let both = occurs_append n (below_of depth t) (number ∷ []) in omega (arith, parts, both)))
        (given_then old mid new size (below_of depth t) (number ∷ []) free given top_given)
    by_result (Err fault) outside = outside

-- ---- the child at a place

some_is : (a b : ℕ) → Some a ≡ Some b → a ≡ b
some_is a b e = cc

pub none_some : (a : ℕ) → None ≡ Some a → ⊥
none_some a e = cc

module _ (old : PageMap) (size number ways depth : ℕ) (kids : List (Tree depth × Held)) (last : Tree depth) (free : List ℕ) (is : HoldKids old size number ways depth kids last free) where
  abbrev kid_at : ℕ → Tree depth
  kid_at place = slice_index_or (all_of kids last) place last

  abbrev pub kids_up_to : ℕ → List ℕ
  kids_up_to place = up_to (pages_of depth) place (all_of kids last)

  -- The child at a place is a tree, where those before it were given back.
  pub record IsNextKid (now : PageMap) (now_free : List ℕ) (place : ℕ) : Type 0 where
    pub says : Says now number (Between is.said (top depth last))
    pub child : child_at place is.said (top depth last) ≡ top depth (kid_at place)
    pub beside : StandsUnder now size (top depth (kid_at place)) (ways - 1) depth (kid_at place) now_free

  pub next_kid : (now : PageMap) (place : ℕ) → place < suc (length kids) → (given : AreGivenBack old now size (kids_up_to place) free) → IsNextKid now given.now_free place
  next_kid now place lt given =
      let kid = kid_at place in
      let here = number ∷ pages_of depth kid in
      let within : place < length (all_of kids last) = (let all = all_counted kids last in omega (arith, all, lt)) in
      let past = after_part old now size (kids_up_to place) here free is.free_are (λ n. (let part = among (pages_of depth) place (all_of kids last) last n within in let most = is.apart n in omega (arith, part, most))) given in
      record {
        says = says_kept old now size number here (Between is.said (top depth last)) past.kept (occurs_here number (pages_of depth kid)) is.says;
        child = child_is (top depth) is.said kids last last place is.tops lt;
        beside = record {
          top_is = refl;
          lies = lies_kept old now size depth kid (kept_of old now size here (pages_of depth kid) (λ n some. omega (arith, some)) past.kept) (each_at (Lies old size depth) kids last last place lt is.lies);
          shallow = (let few = is.shallow in omega (arith, few));
          apart = λ n. (let most = past.apart n in omega (arith, most));
          first = (let part = among (pages_of depth) place (all_of kids last) last 1 within in let none = is.first in omega (arith, part, none));
          free_are = given.free_are;
        };
      }

  -- where its pages are given back, the children up to it are
  kid_given : (now new : PageMap) (place : ℕ) (result : Result ⊤ Fault) → place < suc (length kids) → (given : AreGivenBack old now size (kids_up_to place) free)
      → MatchResult result (λ done. AreGivenBack now new size (pages_of depth (kid_at place)) given.now_free) IsOutside → MatchResult result (λ done. AreGivenBack old new size (kids_up_to (place + 1)) free) IsOutside
  kid_given now new place (Ok done) lt given more =
      subst (λ (pages : List ℕ). AreGivenBack old new size pages free) (sym (up_to_more (pages_of depth) place (all_of kids last) last (let all = all_counted kids last in omega (arith, all, lt))))
      (given_then old now new size (kids_up_to place) (pages_of depth (kid_at place)) free given more)
  kid_given now new place (Err fault) lt given outside = outside

  pub child_read : (now : PageMap) (place : ℕ) (result : Result (Option ℕ) Fault) → place < suc (length kids) → AreGivenBack old now size (kids_up_to place) free → FindsChild now size number place result
      → MatchResult result (λ child. child ≡ Some (top depth (kid_at place))) IsOutside
  child_read now place result lt given reads = by_result result (reads (Between is.said (top depth last)) (given.free_are).whole next.says tt)
    where
      next : IsNextKid now given.now_free place
      next = next_kid now place lt given

      by_result : (result : Result (Option ℕ) Fault) → MatchResult result (λ child. child ≡ Some (child_at place is.said (top depth last))) IsOutside
          → MatchResult result (λ child. child ≡ Some (top depth (kid_at place))) IsOutside
      by_result (Ok child) same = same ∙ ap (λ (n : ℕ). Some n) next.child
      by_result (Err fault) outside = outside

  pub child_below : (now mid : PageMap) (place child : ℕ) (result : Result ⊤ Fault) → place < suc (length kids) → (given : AreGivenBack old now size (kids_up_to place) free) → Some child ≡ Some (top depth (kid_at place))
      → FreesBelow now mid size child (ways - 1) result → MatchResult result (λ done. AreGivenBack now mid size (below_of depth (kid_at place)) given.now_free) IsOutside
  child_below now mid place child result lt given same frees =
      subst (λ (n : ℕ). FreesBelow now mid size n (ways - 1) result) (some_is _ _ same) frees depth (kid_at place) given.now_free (next_kid now place lt given).beside

  pub child_given : (now mid new : PageMap) (place child : ℕ) (result : Result ⊤ Fault) → place < suc (length kids) → (given : AreGivenBack old now size (kids_up_to place) free) → Some child ≡ Some (top depth (kid_at place))
      → AreGivenBack now mid size (below_of depth (kid_at place)) given.now_free → Gives mid new size child result → MatchResult result (λ done. AreGivenBack old new size (kids_up_to (place + 1)) free) IsOutside
  child_given now mid new place child result lt given same under gives =
      let next = next_kid now place lt given in
      kid_given now new place result lt given
      (whole_given now mid new size (top depth (kid_at place)) (ways - 1) depth (kid_at place) given.now_free result next.beside under (subst (λ (n : ℕ). Gives mid new size n result) (some_is _ _ same) gives))

-- ---- the children up to a place

-- what a call says of as many bytes a page as stand below it, it says of those below the pages before
pub with_limits : {P K : Type 0} (below : P → K) (tells : K → Bool) (limits : K → Limits) (F : ℕ → Type 0) (old mid : P) → below mid ≡ below old → (IsTrue (tells (below mid)) → F (limits (below mid)).page)
    → IsTrue (tells (below old)) → F (limits (below old)).page
with_limits {P} {K} below tells limits F old mid kept says told = subst (λ (k : K). F (limits k).page) kept (says (subst (λ (k : K). IsTrue (tells k)) (sym kept) told))

module _ {P K : Type 0} (below : P → K) (tells : K → Bool) (limits : K → Limits) (map : P → PageMap) (failures : P → ℕ × ℕ) where
  -- The children of a page up to a place were given back.
  pub record HasGivenKids (old now : P) (number ways count place : ℕ) : Type 0 where
    pub kept : below now ≡ below old
    pub causes : Causes {T = ⊤} (Ok tt) (failures old) (failures now) ⊥
    pub given : IsTrue (tells (below old)) → (depth : ℕ) (kids : List (Tree depth × Held)) (last : Tree depth) (free : List ℕ) → HoldKids (map old) (limits (below old)).page number ways depth kids last free
        → count ≡ suc (length kids) → AreGivenBack (map old) (map now) (limits (below old)).page (up_to (pages_of depth) place (all_of kids last)) free

  pub no_kid_given : (old : P) (number ways count : ℕ) → HasGivenKids old old number ways count 0
  no_kid_given old number ways count = record {
    kept = refl;
    causes = record { db = omega arith; log = omega arith; why = tt };
    given = λ told depth kids last free is counted. none_given (map old) (limits (below old)).page free is.free_are;
  }

  module _ (old now : P) (number ways count place : ℕ) (has : HasGivenKids old now number ways count place) (lt : place < count) (told : IsTrue (tells (below old))) (depth : ℕ) (kids : List (Tree depth × Held))
      (last : Tree depth) (free : List ℕ) (is : HoldKids (map old) (limits (below old)).page number ways depth kids last free) (counted : count ≡ suc (length kids)) where
    abbrev size : ℕ
    size = (limits (below old)).page

    within : place < suc (length kids)
    within = omega (arith, lt, counted)

    abbrev before : AreGivenBack (map old) (map now) size (up_to (pages_of depth) place (all_of kids last)) free
    before = has.given told depth kids last free is counted

    read : (result : Result (Option ℕ) Fault) → (IsTrue (tells (below now)) → FindsChild (map now) (limits (below now)).page number place result)
        → MatchResult result (λ child. child ≡ Some (top depth (slice_index_or (all_of kids last) place last))) IsOutside
    read result reads =
        child_read (map old) size number ways depth kids last free is (map now) place result within before
        (with_limits below tells limits (λ (n : ℕ). FindsChild (map now) n number place result) old now has.kept reads told)

    pub turn_unread : (fault : Fault) → (IsTrue (tells (below now)) → FindsChild (map now) (limits (below now)).page number place (Err fault)) → IsOutside fault
    turn_unread fault reads = read (Err fault) reads

    pub turn_some : (child : Option ℕ) → (IsTrue (tells (below now)) → FindsChild (map now) (limits (below now)).page number place (Ok child))
        → child ≡ Some (top depth (slice_index_or (all_of kids last) place last))
    turn_some child reads = read (Ok child) reads

    module _ (seen mid : P) (child : ℕ) (reads : IsTrue (tells (below now)) → FindsChild (map now) (limits (below now)).page number place (Ok (Some child))) (kept : below seen ≡ below now) (same : map seen ≡ map now) where
      under : (result : Result ⊤ Fault) → (IsTrue (tells (below seen)) → FreesBelow (map seen) (map mid) (limits (below seen)).page child (ways - 1) result)
          → MatchResult result (λ done. AreGivenBack (map now) (map mid) size (below_of depth (slice_index_or (all_of kids last) place last)) before.now_free) IsOutside
      under result frees =
          child_below (map old) size number ways depth kids last free is (map now) (map mid) place child result within before (read (Ok (Some child)) reads)
          (subst (λ (m : PageMap). FreesBelow m (map mid) size child (ways - 1) result) same
          (with_limits below tells limits (λ (n : ℕ). FreesBelow (map seen) (map mid) n child (ways - 1) result) old seen (kept ∙ has.kept) frees told))

      pub turn_unfreed : (fault : Fault) → (IsTrue (tells (below seen)) → FreesBelow (map seen) (map mid) (limits (below seen)).page child (ways - 1) (Err fault)) → IsOutside fault
      turn_unfreed fault frees = under (Err fault) frees

      -- where the child at a place is given back, the children up to it are
      pub turn : (new : P) (result : Result ⊤ Fault) → (IsTrue (tells (below seen)) → FreesBelow (map seen) (map mid) (limits (below seen)).page child (ways - 1) (Ok tt)) → below mid ≡ below seen
          → (IsTrue (tells (below mid)) → Gives (map mid) (map new) (limits (below mid)).page child result)
          → MatchResult result (λ done. AreGivenBack (map old) (map new) size (up_to (pages_of depth) (place + 1) (all_of kids last)) free) IsOutside
      turn new result frees stays gives =
          child_given (map old) size number ways depth kids last free is (map now) (map mid) (map new) place child result within before (read (Ok (Some child)) reads) (under (Ok tt) frees)
          (with_limits below tells limits (λ (n : ℕ). Gives (map mid) (map new) n child result) old mid (stays ∙ kept ∙ has.kept) gives told)

  -- all children were given back
  pub all_gone : (old now : P) (number ways count place : ℕ) → HasGivenKids old now number ways count place → count ≤ place → IsTrue (tells (below old)) → (depth : ℕ) (kids : List (Tree depth × Held)) (last : Tree depth)
      (free : List ℕ) → HoldKids (map old) (limits (below old)).page number ways depth kids last free → count ≡ suc (length kids)
      → AreGivenBack (map old) (map now) (limits (below old)).page (flat_map (pages_of depth) (all_of kids last)) free
  all_gone old now number ways count place has le told depth kids last free is counted =
      subst (λ (pages : List ℕ). AreGivenBack (map old) (map now) (limits (below old)).page pages free)
      (up_to_all (pages_of depth) place (all_of kids last) (let all = all_counted kids last in omega (arith, all, le, counted))) (has.given told depth kids last free is counted)

-- ---- a tree under a page

true_false : true ≡ false → ⊥
true_false e = cc

pub no_child : (first : Option ℕ) (test : Bool) → is_some first ≡ not test → test ≡ true → first ≡ None
no_child None test is e = refl
no_child (Some child) test is e = absurd (true_false (is ∙ ap not e))

pub a_child : (first : Option ℕ) (test : Bool) → is_some first ≡ not test → test ≡ false → first ≡ None → ⊥
a_child None test is e none = true_false (sym (is ∙ ap not e))
a_child (Some child) test is e none = none_some child (sym none)

between_counted : {T : Type 0} (kids : List (T × Held)) → length (entries_between kids) ≡ length kids
between_counted [] = refl
between_counted (kid ∷ kids) = ap suc (between_counted kids)

paired : {A B : Type 0} (P : A → B → Type 0) (xs : List A) (ys : List B) → Pairwise P xs ys → length xs ≡ length ys
paired P [] [] all = refl
paired P [] (y ∷ ys) all = absurd all
paired P (x ∷ xs) [] all = absurd all
paired P (x ∷ xs) (y ∷ ys) all = ap suc (paired P xs ys all.1)

module _ (old : PageMap) (size number ways : ℕ) where
  -- the entries of the page at the top
  pub hold_entries : (depth : ℕ) (t : Tree depth) (free : List ℕ) (is : StandsUnder old size number ways depth t free)
      → HoldEntries old size number (told old size number depth t is.top_is is.lies).node (entries_at depth t) free
  hold_entries depth t free is = record {
    has = (told old size number depth t is.top_is is.lies).has;
    apart = λ n. (let most = is.apart n in let parts = ap (occurs n) (top_and_below old size number ways depth t free is) in let le = chains_among depth t n in omega (arith, most, parts, le));
    first = (let none = is.first in let parts = ap (occurs 1) (top_and_below old size number ways depth t free is) in let le = chains_among depth t 1 in omega (arith, none, parts, le));
    free_are = is.free_are;
  }
    where
      chains_among : (depth : ℕ) (t : Tree depth) (n : ℕ) → occurs n (chains_of (entries_at depth t)) ≤ occurs n (below_of depth t)
      chains_among zero t n = omega arith
      chains_among (suc depth) t n = (let row = row_pages (pages_of depth) n t.kids t.last in omega (arith, row))

  -- a page without children is a leaf
  pub leaf_given : (mid : PageMap) (depth : ℕ) (t : Tree depth) (free : List ℕ) (is : StandsUnder old size number ways depth t free) → None ≡ child_of 0 (told old size number depth t is.top_is is.lies).node
      → AreGivenBack old mid size (chains_of (entries_at depth t)) free → AreGivenBack old mid size (below_of depth t) free
  leaf_given mid zero t free is none given = given
  leaf_given mid (suc depth) t free is none given = absurd (none_some _ none)

  -- one with children isn't
  pub not_leaf : (depth : ℕ) (t : Tree depth) (free : List ℕ) (is : StandsUnder old size number ways depth t free) → (child_of 0 (told old size number depth t is.top_is is.lies).node ≡ None → ⊥) → ways ≡ 0 → ⊥
  not_leaf zero t free is some none = some refl
  not_leaf (suc depth) t free is some none = (let few = is.shallow in omega (arith, few, none))

  pub few_kids : (depth : ℕ) (t : Tree (suc depth)) (free : List ℕ) → StandsUnder old size number ways (suc depth) t free → length t.kids < 2 ^ 16
  few_kids depth t free is =
      let page = is.lies.0 in
      let node = page.says.node_is in
      let one = paired (IsBetweenCell (length (page_at old t.page))) node.cells page.said node.say.0 in
      let two = paired (λ it kid. it.0 ≡ top depth kid.0) page.said t.kids (tops_between old size (top depth) page.said t.kids page.children) in
      let few = node.page_is.few in
      omega (arith, one, two, few)

  hold_kids : (mid : PageMap) (depth : ℕ) (t : Tree (suc depth)) (free : List ℕ) (is : StandsUnder old size number ways (suc depth) t free)
      (given : AreGivenBack old mid size (chains_of (entries_between t.kids)) free) → HoldKids mid size number ways depth t.kids t.last given.now_free
  hold_kids mid depth t free is given =
      let below = flat_map (pages_of depth) (all_of t.kids t.last) in
      let here = number ∷ below in
      let parts = λ (n : ℕ). ap (occurs n) (top_and_below old size number ways (suc depth) t free is) in
      let row = λ (n : ℕ). row_pages (pages_of depth) n t.kids t.last in
      let past = after_part old mid size (chains_of (entries_between t.kids)) here free is.free_are (λ n. (let most = is.apart n in let p = parts n in let r = row n in omega (arith, most, p, r))) given in
      let page = is.lies.0 in
      record {
        said = page.said;
        says = says_kept old mid size number here (Between page.said (top depth t.last)) past.kept (occurs_here number below)
            (subst (λ (n : ℕ). Says old n (Between page.said (top depth t.last))) is.top_is page.says);
        tops = tops_between old size (top depth) page.said t.kids page.children;
        lies = row_kept mid depth t.kids t.last (kept_of old mid size here below (λ n some. omega (arith, some)) past.kept) is.lies.1;
        shallow = (let few = is.shallow in omega (arith, few));
        apart = past.apart;
        first = (let none = is.first in let p = parts 1 in let r = row 1 in omega (arith, none, p, r));
        free_are = given.free_are;
      }
    where
      row_kept : (mid : PageMap) (depth : ℕ) (kids : List (Tree depth × Held)) (last : Tree depth) → AreKept old mid size (flat_map (pages_of depth) (all_of kids last)) → Each (Lies old size depth) kids last → Each (Lies mid size depth) kids last
      row_kept mid depth [] last kept lies =
          lies_kept old mid size depth last (kept_of old mid size (flat_map (pages_of depth) (last ∷ [])) (pages_of depth last) (λ n some. (let e = occurs_append n (pages_of depth last) [] in omega (arith, e, some))) kept) lies
      row_kept mid depth (kid ∷ kids) last kept lies =
          let rest = flat_map (pages_of depth) (all_of kids last) in (
            lies_kept old mid size depth kid.0 (kept_of old mid size (pages_of depth kid.0 ++ rest) (pages_of depth kid.0) (λ n some. (let e = occurs_append n (pages_of depth kid.0) rest in omega (arith, e, some))) kept) lies.0,
            row_kept mid depth kids last (kept_of old mid size (pages_of depth kid.0 ++ rest) rest (λ n some. (let e = occurs_append n (pages_of depth kid.0) rest in omega (arith, e, some))) kept) lies.1,
          )

  -- where the children of a page are given back too, all below it is
  pub kids_given : (mid new : PageMap) (len count depth : ℕ) (t : Tree depth) (free : List ℕ) (result : Result ⊤ Fault) (is : StandsUnder old size number ways depth t free)
      → (child_of 0 (told old size number depth t is.top_is is.lies).node ≡ None → ⊥) → len ≡ length (entries_at depth t) → count ≡ min (len + 1) (2 ^ 64 - 1)
      → AreGivenBack old mid size (chains_of (entries_at depth t)) free → FreesKids mid new size number count ways result → MatchResult result (λ done. AreGivenBack old new size (below_of depth t) free) IsOutside
  kids_given mid new len count zero t free result is some counted sum given frees = absurd (some refl)
  kids_given mid new len count (suc depth) t free result is some counted sum given frees =
      let few = few_kids depth t free is in
      let all = between_counted t.kids in
      by_result result (frees depth t.kids t.last given.now_free (hold_kids mid depth t free is given) (omega (arith, counted, sum, few, all)))
    where
      by_result : (result : Result ⊤ Fault) → MatchResult result (λ done. AreGivenBack mid new size (flat_map (pages_of depth) (all_of t.kids t.last)) given.now_free) IsOutside
          → MatchResult result (λ done. AreGivenBack old new size (below_of (suc depth) t) free) IsOutside
      by_result (Ok done) more =
          let below = flat_map (pages_of depth) (all_of t.kids t.last) in
          let chains = chains_of (entries_between t.kids) in
          given_as old new size (chains ++ below) (below_of (suc depth) t) free (λ n. (let row = row_pages (pages_of depth) n t.kids t.last in let both = occurs_append n chains below in omega (arith, row, both)))
          (given_then old mid new size chains below free given more)
      by_result (Err fault) outside = outside
