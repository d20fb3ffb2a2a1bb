-- The pages of a tree are given back, child by child.
use Rattle.std.proofs.Common.{◌≡◌, refl, sym, ◌∙◌, ap, subst, ℕ, zero, suc, ◌<◌, ◌≤◌, ◌+◌, ◌-◌, ℤ, pos, Bool, IsTrue, Ok, Err, List, [], ◌∷◌, ◌++◌, length, slice_index_or, inl, inr, arith}
use Rattle.std.proofs.lemmas.Bool.{cases_lt}
use Rattle.std.proofs.lemmas.Grind.{common_steps}
use Rattle.std.proofs.lemmas.List.{append-nil}
use Rattle.std.specs.List.{flat_map}
use Rattle.std.specs.Prelude.{⊤, Result, MatchResult, OnOk, IfErr}
use Rattle.sqlval.specs.Faults.{IsOutside}
use Rattle.sqlval.specs.declared.fault.Fault.{Fault}
use Rattle.pages.specs.Calls.{Limits, Causes}
use Rattle.tree_leaf.specs.Leaf.{Entry, IsTableLeaf}
use Rattle.pages.specs.Counting.{occurs, start_of, Moves}
use Rattle.pages.specs.Map.{PageMap, Has, IsThere, with_page}
use Rattle.pages.proofs.Moving.{in_sequence, occurs_append, not_fresh}
use Rattle.freelist.specs.Calls.{IsGiven, Gives}
use Rattle.tree_overflow.proofs.Laying.{keeps_then}
use Rattle.tree_page.specs.Node.{Node, Rows, Keys}
use Rattle.tree_store.specs.Saying.{Says}
use Rattle.tree_store.specs.Sides.{Each, children, each_of, nothing}
use Rattle.tree_store.specs.Storing.{CanStand}
use Rattle.tree_table.specs.Calls.{Stands}
use Rattle.tree_table.specs.Freeing.{IsCleared, AreGivenBack, StandsUnder, IsOfTable, FindsParts, FreesRows, FreesBelow, ReadsChild}
use Rattle.tree_table.specs.Growing.{below_of, all_of}
use Rattle.tree_table.specs.Stepping.{child_at}
use Rattle.tree_table.specs.Tree.{Tree, top, pages_of, Lies}
use Rattle.tree_table.specs.declared.freeing.Parts.{Parts}
use Rattle.tree_table.specs.declared.freeing.Parts.TheVariants.{Cells, Children}
use Rattle.tree_table.proofs.Emptied.{other_or_none, emptied}
use Rattle.tree_table.proofs.Givings.{given_as, given_then, given_by, up_to, up_to_more, up_to_all, among, after_part}
use Rattle.tree_table.proofs.LeafRows.{said_counted}
use Rattle.tree_table.proofs.Passing.{beside_used, up_cons, up_none, top_there}
use Rattle.tree_table.proofs.Planting.{pages_split}
use Rattle.tree_table.proofs.Roots.{root_under}
use Rattle.tree_table.proofs.Staying.{first_of, says_stays, lies_stays}

-- ---- what the page at the top says

-- what a page at the top of a tree says
pub record IsTold (m : PageMap) (number : ℕ) : Type 0 where
  pub node : Node
  pub says : Says m number node
  pub ours : IsOfTable node

abbrev pub told_of : (m : PageMap) (size number ways depth : ℕ) (t : Tree depth) (free : List ℕ) → StandsUnder m size number ways depth t free → IsTold m number
told_of m size number ways zero t free is = record { node = Rows (is.lies).said; says = subst (λ (n : ℕ). Says m n (Rows (is.lies).said)) is.top_is (is.lies).says; ours = tt }
told_of m size number ways (suc depth) t free is = record {
  node = Keys (children (top depth) t.kids) (top depth t.last);
  says = subst (λ (n : ℕ). Says m n (Keys (children (top depth) t.kids) (top depth t.last))) is.top_is is.lies.0;
  ours = tt;
}

pub parts_refused : (m : PageMap) (size number ways depth : ℕ) (t : Tree depth) (free : List ℕ) (fault : Fault) → StandsUnder m size number ways depth t free → FindsParts m size number (Err fault) → IsOutside fault
parts_refused m size number ways depth t free fault is finds = (let told = told_of m size number ways depth t free is in finds told.node (is.free_are).whole told.says told.ours)

pub not_children : (a b : ℕ) → Cells a ≡ Children b → ⊥
not_children a b e = cc

same_cells : (a b : ℕ) → Cells a ≡ Cells b → a ≡ b
same_cells a b e = cc

same_children : (a b : ℕ) → Children a ≡ Children b → a ≡ b
same_children a b e = cc

-- ---- a leaf

pub leaf_given : (old new : PageMap) (size number ways count depth : ℕ) (t : Tree depth) (free : List ℕ) (parts : Parts) (result : Result ⊤ Fault) → StandsUnder old size number ways depth t free
    → FindsParts old size number (Ok parts) → parts ≡ Cells count → FreesRows old new size number count result → MatchResult result (λ done. AreGivenBack old new size (below_of depth t) free) IsOutside
leaf_given old new size number ways count zero t free parts result is finds cells frees =
    let told = told_of old size number ways zero t free is in
    let same = same_cells count (length (is.lies).said) (sym cells ∙ finds told.node (is.free_are).whole told.says told.ours) in
    frees ways t free is (same ∙ said_counted old size (is.lies).said t.rows (is.lies).rows)
leaf_given old new size number ways count (suc depth) t free parts result is finds cells frees =
    let told = told_of old size number ways (suc depth) t free is in
    absurd (not_children count (suc (length (children (top depth) t.kids))) (sym cells ∙ finds told.node (is.free_are).whole told.says told.ours))

children_counted : {T K : Type 0} (page : T → ℕ) (kids : List (T × K)) → length (children page kids) ≡ length kids
children_counted page [] = refl
children_counted page (kid ∷ kids) = ap suc (children_counted page kids)

-- a page with children stands above a leaf
pub way_long : (old : PageMap) (size number ways count depth : ℕ) (t : Tree depth) (free : List ℕ) (parts : Parts) → StandsUnder old size number ways depth t free → FindsParts old size number (Ok parts) → parts ≡ Children count → ways ≡ 0 → ⊥
way_long old size number ways count zero t free parts is finds kids none =
    let told = told_of old size number ways zero t free is in
    not_children (length (is.lies).said) count (sym (sym kids ∙ finds told.node (is.free_are).whole told.says told.ours))
way_long old size number ways count (suc depth) t free parts is finds kids none = (let few = is.shallow in omega (arith, few, none))

-- a page with children is the top of a tree of several pages
pub by_kids : (old : PageMap) (size number ways count depth : ℕ) (t : Tree depth) (free : List ℕ) (parts : Parts) (Goal : (depth : ℕ) → Tree depth → Type 0) → StandsUnder old size number ways depth t free
    → FindsParts old size number (Ok parts) → parts ≡ Children count
    → ((less : ℕ) (u : Tree (suc less)) → StandsUnder old size number ways (suc less) u free → count ≡ suc (length u.kids) → Goal (suc less) u) → Goal depth t
by_kids old size number ways count zero t free parts Goal is finds kids so =
    let told = told_of old size number ways zero t free is in
    absurd (not_children (length (is.lies).said) count (sym (sym kids ∙ finds told.node (is.free_are).whole told.says told.ours)))
by_kids old size number ways count (suc depth) t free parts Goal is finds kids so =
    let told = told_of old size number ways (suc depth) t free is in
    let same = same_children count (suc (length (children (top depth) t.kids))) (sym kids ∙ finds told.node (is.free_are).whole told.says told.ours) in
    so depth t is (same ∙ ap suc (children_counted (top depth) t.kids))

-- ---- all children

pub all_counted : {T K : Type 0} (kids : List (T × K)) (last : T) → length (all_of kids last) ≡ suc (length kids)
all_counted [] last = refl
all_counted (kid ∷ kids) last = ap suc (all_counted kids last)

pub each_at : {T K : Type 0} (P : T → Type 0) (kids : List (T × K)) (last d : T) (place : ℕ) → place < suc (length kids) → Each P kids last → P (slice_index_or (all_of kids last) place d)
each_at P [] last d zero lt all = all
each_at P [] last d (suc place) lt all = absurd (omega (arith, lt))
each_at P (kid ∷ kids) last d zero lt all = all.0
each_at P (kid ∷ kids) last d (suc place) lt all = each_at P kids last d place (omega (arith, lt)) all.1

pub child_is : {T : Type 0} (page : T → ℕ) (kids : List (T × ℤ)) (last d : T) (place : ℕ) → place < suc (length kids) → child_at place (children page kids) (page last) ≡ page (slice_index_or (all_of kids last) place d)
child_is page [] last d zero lt = refl
child_is page [] last d (suc place) lt = absurd (omega (arith, lt))
child_is page (kid ∷ kids) last d zero lt = refl
child_is page (kid ∷ kids) last d (suc place) lt = child_is page kids last d place (omega (arith, lt))

-- their pages, one after the other
each_flat : {T K : Type 0} (pages : T → List ℕ) (kids : List (T × K)) (last : T) → flat_map pages (all_of kids last) ≡ each_of pages nothing kids last
each_flat pages [] last = append-nil (pages last)
each_flat pages (kid ∷ kids) last = ap (λ (l : List ℕ). pages kid.0 ++ l) (each_flat pages kids last)

-- a page that is there, where page 1 isn't among these, is after page 1
pub after_first : (m : PageMap) (page : ℕ) (pages : List ℕ) → Has m page → occurs 1 (page ∷ pages) ≡ 0 → 1 < page
after_first m page pages has none = elim (cases_lt 1 page) [
  | inl lt ↦ lt
  | inr ge ↦ (let from = has.first in let same : page ≡ 1 = omega (arith, from, ge) in let some = subst (λ (k : ℕ). 1 ≤ occurs k (page ∷ pages)) same (first_of page pages) in absurd (omega (arith, some, none)))
]

-- ---- a tree whose other pages were given back

-- Its top is there still, and isn't free.
pub record IsLeftOver (mid : PageMap) (number : ℕ) (now_free : List ℕ) : Type 0 where
  pub has : Has mid number
  pub other : occurs number now_free ≡ 0

-- the pages of a tree are its top and those below
pub top_and_below : (m : PageMap) (size number ways depth : ℕ) (t : Tree depth) (free : List ℕ) → StandsUnder m size number ways depth t free → pages_of depth t ≡ number ∷ below_of depth t
top_and_below m size number ways depth t free is = pages_split depth t ∙ ap (λ (page : ℕ). page ∷ below_of depth t) is.top_is

pub left_over : (old mid : PageMap) (size number ways depth : ℕ) (t : Tree depth) (free : List ℕ) → StandsUnder old size number ways depth t free → (given : AreGivenBack old mid size (below_of depth t) free)
    → IsLeftOver mid number given.now_free
left_over old mid size number ways depth t free is given =
    let has : Has old number = subst (λ (n : ℕ). Has old n) is.top_is (top_there old size depth t is.lies) in
    let most = is.apart number in
    let parts = ap (occurs number) (top_and_below old size number ways depth t free is) in
    let self = first_of number (below_of depth t) in
    let first = first_of number [] in
    let at = (given.moves).counts number in
    let none = not_fresh (length old) (length mid) number has.last in
    record { has = record { first = has.first; last = (let last = has.last in let same = given.same in omega (arith, last, same)) }; other = omega (arith, most, parts, self, first, at, none) }

-- where its top is given back too, the whole tree is
pub whole_given : (old mid new : PageMap) (size number ways depth : ℕ) (t : Tree depth) (free : List ℕ) (result : Result ⊤ Fault) → StandsUnder old size number ways depth t free → 1 < number
    → (given : AreGivenBack old mid size (below_of depth t) free) → Gives mid new size number result → MatchResult result (λ done. AreGivenBack old new size (pages_of depth t) free) IsOutside
whole_given old mid new size number ways depth t free result is behind given gives = by_result result (gives given.now_free given.free_are behind there other)
  where
    over : IsLeftOver mid number given.now_free
    over = left_over old mid size number ways depth t free is given

    there : Has mid number
    there = over.has

    split : (n : ℕ) → occurs n (pages_of depth t) ≡ occurs n (number ∷ below_of depth t)
    split n = ap (occurs n) (top_and_below old size number ways depth t free is)

    other : occurs number given.now_free ≡ 0
    other = over.other

    up : (n : ℕ) → 1 ≤ occurs n (number ∷ []) → n ≤ length mid
    up = up_cons (length mid) number [] there.last (up_none (length mid))

    first_none : occurs 1 (number ∷ []) ≡ 0
    first_none = grind (arith, common_steps)

    by_result : (result : Result ⊤ Fault) → MatchResult result (λ done. IsGiven mid new size given.now_free number) IsOutside → MatchResult result (λ done. AreGivenBack old new size (pages_of depth t) free) IsOutside
    by_result (Ok done) it =
        let top_given = given_by mid new size (number ∷ []) given.now_free it.now_free given.free_are up (λ n. other_or_none n number given.now_free other (((given.free_are).once).once n)) first_none it.has it.moves it.header it.same in
        given_as old new size (below_of depth t ++ number ∷ []) (pages_of depth t) free (λ n. (let parts = split n in let both = occurs_append n (below_of depth t) (number ∷ []) in omega (arith, parts, both)))
        (given_then old mid new size (below_of depth t) (number ∷ []) free given top_given)
    by_result (Err fault) outside = outside

-- ---- the child at a place

module _ (old : PageMap) (size number ways depth : ℕ) (t : Tree (suc depth)) (free : List ℕ) (is : StandsUnder old size number ways (suc depth) t free) where
  abbrev kid_at : ℕ → Tree depth
  kid_at place = slice_index_or (all_of t.kids t.last) place t.last

  abbrev pub kids_up_to : ℕ → List ℕ
  kids_up_to place = up_to (pages_of depth) place (all_of t.kids t.last)

  -- The child at a place is a tree, where those before it were given back.
  pub record IsNextKid (now : PageMap) (now_free : List ℕ) (place : ℕ) : Type 0 where
    pub says : Says now number (Keys (children (top depth) t.kids) (top depth t.last))
    pub child : child_at place (children (top depth) t.kids) (top depth t.last) ≡ top depth (kid_at place)
    pub beside : StandsUnder now size (top depth (kid_at place)) (ways - 1) depth (kid_at place) now_free
    pub behind : 1 < top depth (kid_at place)

  kids_within : (place n : ℕ) → place < suc (length t.kids) → occurs n (kids_up_to place) + occurs n (pages_of depth (kid_at place)) ≤ occurs n (below_of (suc depth) t)
  kids_within place n lt =
      let part = among (pages_of depth) place (all_of t.kids t.last) t.last n (let all = all_counted t.kids t.last in omega (arith, all, lt)) in
      let flat = ap (occurs n) (each_flat (pages_of depth) t.kids t.last) in
      omega (arith, part, flat)

  pub next_kid : (now : PageMap) (place : ℕ) → place < suc (length t.kids) → (given : AreGivenBack old now size (kids_up_to place) free) → IsNextKid now given.now_free place
  next_kid now place lt given =
      let kid = kid_at place in
      let here = t.page ∷ pages_of depth kid in
      let past = after_part old now size (kids_up_to place) here free is.free_are (λ n. (let part = kids_within place n lt in let most = is.apart n in omega (arith, part, most))) given in
      let says = is.lies.0 in
      let none : occurs 1 (pages_of depth kid) ≡ 0 = (let part = kids_within place 1 lt in let first = is.first in omega (arith, part, first)) in
      let split = pages_split depth kid in
      let lies = lies_stays old now past.longer size past.whole past.whole_now depth kid (record { same = λ n from to some. (past.seen).same n from to (omega (arith, some)) })
      (each_at (Lies old size depth) t.kids t.last t.last place lt is.lies.1) in
      record {
        says = subst (λ (n : ℕ). Says now n (Keys (children (top depth) t.kids) (top depth t.last))) is.top_is
            (says_stays old now past.longer size past.whole past.whole_now t.page (Keys (children (top depth) t.kids) (top depth t.last))
            ((past.seen).same t.page (says.has).first (says.has).last (first_of t.page (pages_of depth kid))) says);
        child = child_is (top depth) t.kids t.last t.last place lt;
        beside = record {
          top_is = refl;
          lies = lies;
          shallow = (let few = is.shallow in omega (arith, few));
          apart = λ n. (let most = past.apart n in omega (arith, most));
          first = (let parts = ap (occurs 1) split in omega (arith, parts, none));
          free_are = given.free_are;
        };
        behind = after_first now (top depth kid) (below_of depth kid) (top_there now size depth kid lies) (let parts = ap (occurs 1) split in omega (arith, parts, none));
      }

  -- where its pages are given back, the children up to it are
  pub kid_given : (now new : PageMap) (place : ℕ) (result : Result ⊤ Fault) → place < suc (length t.kids) → (given : AreGivenBack old now size (kids_up_to place) free)
      → MatchResult result (λ done. AreGivenBack now new size (pages_of depth (kid_at place)) given.now_free) IsOutside → MatchResult result (λ done. AreGivenBack old new size (kids_up_to (place + 1)) free) IsOutside
  kid_given now new place (Ok done) lt given more =
      subst (λ (pages : List ℕ). AreGivenBack old new size pages free) (sym (up_to_more (pages_of depth) place (all_of t.kids t.last) t.last (let all = all_counted t.kids t.last in omega (arith, all, lt))))
      (given_then old now new size (kids_up_to place) (pages_of depth (kid_at place)) free given more)
  kid_given now new place (Err fault) lt given outside = outside

  pub all_given : (now : PageMap) (place : ℕ) → suc (length t.kids) ≤ place → AreGivenBack old now size (kids_up_to place) free → AreGivenBack old now size (below_of (suc depth) t) free
  all_given now place le given =
      subst (λ (pages : List ℕ). AreGivenBack old now size pages free)
      (up_to_all (pages_of depth) place (all_of t.kids t.last) (let all = all_counted t.kids t.last in omega (arith, all, le)) ∙ each_flat (pages_of depth) t.kids t.last) given

  pub child_read : (now : PageMap) (place : ℕ) (result : Result ℕ Fault) → place < suc (length t.kids) → AreGivenBack old now size (kids_up_to place) free → ReadsChild now size number place result
      → MatchResult result (λ child. child ≡ top depth (kid_at place)) IsOutside
  child_read now place result lt given reads = by_result result (reads (children (top depth) t.kids) (top depth t.last) (given.free_are).whole (next_kid now place lt given).says)
    where
      by_result : (result : Result ℕ Fault) → MatchResult result (λ child. child ≡ child_at place (children (top depth) t.kids) (top depth t.last)) IsOutside
          → MatchResult result (λ child. child ≡ top depth (kid_at place)) IsOutside
      by_result (Ok child) same = same ∙ (next_kid now place lt given).child
      by_result (Err fault) outside = outside

  pub child_below : (now mid : PageMap) (place child : ℕ) (result : Result ⊤ Fault) → place < suc (length t.kids) → (given : AreGivenBack old now size (kids_up_to place) free) → child ≡ top depth (kid_at place)
      → FreesBelow now mid size child (ways - 1) result → MatchResult result (λ done. AreGivenBack now mid size (below_of depth (kid_at place)) given.now_free) IsOutside
  child_below now mid place child result lt given same frees =
      subst (λ (n : ℕ). FreesBelow now mid size n (ways - 1) result) same frees depth (kid_at place) given.now_free (next_kid now place lt given).beside

  pub child_given : (now mid new : PageMap) (place child : ℕ) (result : Result ⊤ Fault) → place < suc (length t.kids) → (given : AreGivenBack old now size (kids_up_to place) free) → child ≡ top depth (kid_at place)
      → AreGivenBack now mid size (below_of depth (kid_at place)) given.now_free → Gives mid new size child result → MatchResult result (λ done. AreGivenBack old new size (kids_up_to (place + 1)) free) IsOutside
  child_given now mid new place child result lt given same under gives =
      let next = next_kid now place lt given in
      kid_given now new place result lt given
      (whole_given now mid new size (top depth (kid_at place)) (ways - 1) depth (kid_at place) given.now_free result next.beside next.behind under (subst (λ (n : ℕ). Gives mid new size n result) same gives))

-- ---- the children up to a place

-- what a call says of as many bytes a page as stand below it, it says of those below the pages before
pub with_limits : {P K : Type 0} (below : P → K) (tells : K → Bool) (limits : K → Limits) (F : ℕ → Type 0) (old mid : P) → below mid ≡ below old → (IsTrue (tells (below mid)) → F (limits (below mid)).page)
    → IsTrue (tells (below old)) → F (limits (below old)).page
with_limits {P} {K} below tells limits F old mid kept says told = subst (λ (k : K). F (limits k).page) kept (says (subst (λ (k : K). IsTrue (tells k)) (sym kept) told))

module _ {P K : Type 0} (below : P → K) (tells : K → Bool) (limits : K → Limits) (map : P → PageMap) (failures : P → ℕ × ℕ) where
  -- The children of a page up to a place were given back.
  pub record HasGivenKids (old now : P) (number ways count place : ℕ) : Type 0 where
    pub kept : below now ≡ below old
    pub causes : Causes {T = ⊤} (Ok tt) (failures old) (failures now) ⊥
    pub given : IsTrue (tells (below old)) → (depth : ℕ) (t : Tree (suc depth)) (free : List ℕ) → StandsUnder (map old) (limits (below old)).page number ways (suc depth) t free → count ≡ suc (length t.kids)
        → AreGivenBack (map old) (map now) (limits (below old)).page (up_to (pages_of depth) place (all_of t.kids t.last)) free

  module _ (old now : P) (number ways count place : ℕ) (has : HasGivenKids old now number ways count place) (lt : place < count) (told : IsTrue (tells (below old))) (depth : ℕ) (t : Tree (suc depth)) (free : List ℕ)
      (is : StandsUnder (map old) (limits (below old)).page number ways (suc depth) t free) (counted : count ≡ suc (length t.kids)) where
    abbrev size : ℕ
    size = (limits (below old)).page

    within : place < suc (length t.kids)
    within = omega (arith, lt, counted)

    abbrev before : AreGivenBack (map old) (map now) size (up_to (pages_of depth) place (all_of t.kids t.last)) free
    before = has.given told depth t free is counted

    read : (result : Result ℕ Fault) → (IsTrue (tells (below now)) → ReadsChild (map now) (limits (below now)).page number place result)
        → MatchResult result (λ child. child ≡ top depth (slice_index_or (all_of t.kids t.last) place t.last)) IsOutside
    read result reads =
        child_read (map old) size number ways depth t free is (map now) place result within before
        (with_limits below tells limits (λ (n : ℕ). ReadsChild (map now) n number place result) old now has.kept reads told)

    pub turn_unread : (fault : Fault) → (IsTrue (tells (below now)) → ReadsChild (map now) (limits (below now)).page number place (Err fault)) → IsOutside fault
    turn_unread fault reads = read (Err fault) reads

    module _ (seen mid : P) (child : ℕ) (reads : IsTrue (tells (below now)) → ReadsChild (map now) (limits (below now)).page number place (Ok child)) (kept : below seen ≡ below now) (same : map seen ≡ map now) where
      under : (result : Result ⊤ Fault) → (IsTrue (tells (below seen)) → FreesBelow (map seen) (map mid) (limits (below seen)).page child (ways - 1) result)
          → MatchResult result (λ done. AreGivenBack (map now) (map mid) size (below_of depth (slice_index_or (all_of t.kids t.last) place t.last)) before.now_free) IsOutside
      under result frees =
          child_below (map old) size number ways depth t free is (map now) (map mid) place child result within before (read (Ok child) reads)
          (subst (λ (m : PageMap). FreesBelow m (map mid) size child (ways - 1) result) same
          (with_limits below tells limits (λ (n : ℕ). FreesBelow (map seen) (map mid) n child (ways - 1) result) old seen (kept ∙ has.kept) frees told))

      pub turn_unfreed : (fault : Fault) → (IsTrue (tells (below seen)) → FreesBelow (map seen) (map mid) (limits (below seen)).page child (ways - 1) (Err fault)) → IsOutside fault
      turn_unfreed fault frees = under (Err fault) frees

      -- where the child at a place is given back, the children up to it are
      pub turn : (new : P) (result : Result ⊤ Fault) → (IsTrue (tells (below seen)) → FreesBelow (map seen) (map mid) (limits (below seen)).page child (ways - 1) (Ok tt)) → below mid ≡ below seen
          → (IsTrue (tells (below mid)) → Gives (map mid) (map new) (limits (below mid)).page child result)
          → MatchResult result (λ done. AreGivenBack (map old) (map new) size (up_to (pages_of depth) (place + 1) (all_of t.kids t.last)) free) IsOutside
      turn new result frees stays gives =
          child_given (map old) size number ways depth t free is (map now) (map mid) (map new) place child result within before (read (Ok child) reads) (under (Ok tt) frees)
          (with_limits below tells limits (λ (n : ℕ). Gives (map mid) (map new) n child result) old mid (stays ∙ kept ∙ has.kept) gives told)

  -- all children were given back
  pub all_gone : (old now : P) (number ways count place : ℕ) → HasGivenKids old now number ways count place → count ≤ place → IsTrue (tells (below old)) → (depth : ℕ) (t : Tree (suc depth)) (free : List ℕ)
      → StandsUnder (map old) (limits (below old)).page number ways (suc depth) t free → count ≡ suc (length t.kids) → AreGivenBack (map old) (map now) (limits (below old)).page (below_of (suc depth) t) free
  all_gone old now number ways count place has le told depth t free is counted =
      all_given (map old) (limits (below old)).page number ways depth t free is (map now) place (omega (arith, le, counted)) (has.given told depth t free is counted)

-- ---- a tree that stands

pub standing : (old : PageMap) (size root : ℕ) (rows : List Entry) (used free : List ℕ) (is : Stands old size root rows used free) → StandsUnder old size root 19 is.tree.depth is.tree.tree free
standing old size root rows used free is =
    let under = root_under old size root (pos 0) rows used free is in
    record { top_is = under.top_is; lies = under.lies; shallow = under.shallow; apart = under.apart; first = under.first; free_are = under.free_are }

-- its root is there, also where its other pages were given back
pub root_left : (old mid : PageMap) (size root : ℕ) (rows : List Entry) (used free : List ℕ) (is : Stands old size root rows used free) → AreGivenBack old mid size (below_of is.tree.depth is.tree.tree) free → IsThere mid size root
root_left old mid size root rows used free is given =
    let over = left_over old mid size root 19 is.tree.depth is.tree.tree free (standing old size root rows used free is) given in
    record { has = over.has; whole = (given.free_are).whole root over.has }

-- where all pages but the root's were given back, and that is a leaf without rows, the tree was cleared
pub cleared : (old mid new : PageMap) (size root : ℕ) (rows : List Entry) (used free bytes : List ℕ) (is : Stands old size root rows used free) → AreGivenBack old mid size (below_of is.tree.depth is.tree.tree) free
    → CanStand mid size root bytes → IsTableLeaf bytes (start_of root) [] → new ≡ with_page mid root bytes → IsCleared old new size root used free
cleared old mid new size root rows used free bytes is given can leaf put =
    let depth = is.tree.depth in
    let tree = is.tree.tree in
    let beside = standing old size root rows used free is in
    let over = left_over old mid size root 19 depth tree free beside given in
    let done = emptied mid new size root bytes given.now_free is.sized given.free_are over.has over.other can leaf put in
    let split : used ≡ root ∷ below_of depth tree = sym is.tree.used_are ∙ top_and_below old size root 19 depth tree free beside in
    let first : Moves old mid (root ∷ below_of depth tree) free (root ∷ []) given.now_free =
    beside_used old mid (below_of depth tree) free [] given.now_free (root ∷ []) (root ∷ below_of depth tree) (root ∷ []) given.moves
    (λ n. (let both = occurs_append n (root ∷ []) (below_of depth tree) in omega (arith, both))) (λ n. omega arith) in
    record {
      now_free = given.now_free;
      stands = done.stands;
      moves = subst (λ (pages : List ℕ). Moves old new pages free (root ∷ []) given.now_free) (sym split)
          (in_sequence old mid new (root ∷ below_of depth tree) free (root ∷ []) given.now_free (root ∷ []) given.now_free first done.moves);
      header = keeps_then old mid new given.header done.header;
      same = done.same ∙ given.same;
    }

pub put_cleared : (old mid new : PageMap) (size root : ℕ) (rows : List Entry) (used free bytes : List ℕ) (result : Result ⊤ Fault) (is : Stands old size root rows used free)
    → AreGivenBack old mid size (below_of is.tree.depth is.tree.tree) free → CanStand mid size root bytes → IsTableLeaf bytes (start_of root) [] → OnOk result (new ≡ with_page mid root bytes)
    → (IsThere mid size root → length bytes ≡ size → IfErr result IsOutside) → MatchResult result (λ done. IsCleared old new size root used free) IsOutside
put_cleared old mid new size root rows used free bytes (Ok done) is given can leaf put refusal = cleared old mid new size root rows used free bytes is given can leaf put
put_cleared old mid new size root rows used free bytes (Err fault) is given can leaf put refusal = refusal (root_left old mid size root rows used free is given) can.sized
