-- A page is a leaf without entries.
use Rattle.std.proofs.Common.{◌≡◌, refl, sym, ◌∙◌, ap, subst, ℕ, ◌<◌, ◌≤◌, ◌-◌, ◌^◌, ◌⊎◌, inl, inr, List, [], ◌∷◌, length, take, arith}
use Rattle.std.proofs.Math.Nat.{pow-le-pow_right}
use Rattle.std.proofs.lemmas.List.{length-set}
use Rattle.std.specs.Prelude.{⊤, Result, Ok, Err, MatchResult, OnOk, IfErr}
use Rattle.sqlval.specs.Faults.{IsOutside}
use Rattle.sqlval.specs.PageSizes.{IsPageSize}
use Rattle.sqlval.specs.declared.collation.Collation.{Collation}
use Rattle.sqlval.specs.declared.fault.Fault.{Fault}
use Rattle.pages.specs.Counting.{occurs, start_of, Moves}
use Rattle.pages.specs.Map.{PageMap, page_at, with_page, Has, IsThere}
use Rattle.pages.proofs.Moving.{in_sequence, occurs_append}
use Rattle.freelist.specs.Calls.{AreFree, IsTaken, KeepsHeader}
use Rattle.tree_overflow.proofs.Laying.{keeps_then, taken_from}
use Rattle.tree_pack.specs.Building.{Fits}
use Rattle.tree_page.specs.Cells.{IsTreePage}
use Rattle.tree_page.specs.Node.{Entries, IsNode}
use Rattle.tree_store.specs.Storing.{CanStand}
use Rattle.tree_store.proofs.PutPages.{is_put, put_there}
use Rattle.tree_index.specs.Calls.{Stands, IsNewTree, AreGivenBack, IsCleared}
use Rattle.tree_index.specs.Entries.{Entry}
use Rattle.tree_index.specs.Freeing.{IsEmptyPage, StandsUnder, below_of}
use Rattle.tree_index.specs.Tree.{IsIndexTree}
use Rattle.tree_index.proofs.Clearing.{left_over, top_and_below, number_far}
use Rattle.tree_index.proofs.Shares.{other_or_none, not_there, start_after, beside_used}

-- ---- its bytes

-- the sizes of pages
pub large_size : (size : ℕ) → IsPageSize size → (512 ≤ size) × (size ≤ 2 ^ 16)
large_size size is =
    let low : 2 ^ 9 ≤ 2 ^ is.exponent = pow-le-pow_right {n = 2} (omega arith) is.low in
    let high : 2 ^ is.exponent ≤ 2 ^ 16 = pow-le-pow_right {n = 2} (omega arith) is.high in
    let e = is.power in
    (omega (arith, e, low), omega (arith, e, high))

-- no entries fit each page
pub none_fit : (size : ℕ) → IsPageSize size → Fits size 0 0 []
none_fit size is = (let large = large_size size is in record { addressed = omega (arith, large.1); some = tt; room = omega (arith, large.0) })

pub empty_page : (size : ℕ) (page : List ℕ) → IsTreePage 10 page 0 [] [] → length page ≡ size → IsEmptyPage size page
empty_page size page is sized = record { node = record { cells = []; page_is = is; say = tt }; sized = sized }

-- ---- where it stands

-- The page is a tree without entries, and what is used and free is so still.
pub record IsEmptied (old new : PageMap) (size root : ℕ) (columns : List Collation) (free : List ℕ) : Type 0 where
  pub stands : Stands new size root columns [] (root ∷ []) free
  pub moves : Moves old new (root ∷ []) free (root ∷ []) free
  pub header : KeepsHeader old new
  pub same : length new ≡ length old

pub can_stand : (mid : PageMap) (size root : ℕ) (bytes : List ℕ) → 1 < root → length bytes ≡ size → CanStand mid size root bytes
can_stand mid size root bytes far long = record { sized = long; front = subst (λ (n : ℕ). take n bytes ≡ take n (page_at mid root)) (sym (start_after root far)) refl }

pub emptied : (mid new : PageMap) (size root : ℕ) (columns : List Collation) (bytes free : List ℕ) → IsPageSize size → AreFree mid size free → Has mid root → occurs root free ≡ 0 → 1 < root
    → IsEmptyPage size bytes → new ≡ with_page mid root bytes → IsEmptied mid new size root columns free
emptied mid new size root columns bytes free sized are has none far page is = subst (λ (m : PageMap). IsEmptied mid m size root columns free) (sym is) (
    let put = is_put mid size free root bytes are has none (can_stand mid size root bytes far page.sized) in
    let there = put_there mid root bytes has in
    let long = length-set mid (root - 1) bytes in
    let now = with_page mid root bytes in
    let has_now : Has now root = record { first = has.first; last = (let last = has.last in omega (arith, long, last)) } in
    let node = subst (λ (them : List ℕ). IsNode them (start_of root) (Entries [])) (sym there) (subst (λ (n : ℕ). IsNode bytes n (Entries [])) (sym (start_after root far)) page.node) in
    let tree : IsIndexTree now size root columns [] (root ∷ []) = record {
      depth = 0;
      tree = record { page = root; entries = [] };
      shallow = omega arith;
      root_is = refl;
      lies = record { said = []; says = record { has = has_now; node_is = node }; entries = tt };
      entries_are = refl;
      sorted = record { whole = tt; rising = refl };
      used_are = refl;
      once = record { once = λ n. (let o = other_or_none n root free none ((are.once).once n) in omega (arith, o)) };
    } in
    record {
      stands = record {
        tree = tree;
        free_are = record { has = put.has; once = are.once; behind = are.behind; whole = (put.moves).whole size are.whole };
        apart = λ n. other_or_none n root free none ((are.once).once n);
        first = not_there 1 root (λ same. omega (arith, far, same));
        sized = sized;
      };
      moves = put.moves;
      header = put.header;
      same = long;
    })

-- ---- on a page that was taken

grown_or : (old mid new : PageMap) (free now_free : List ℕ) → length new ≡ length mid → (length mid ≡ length old) ⊎ ((free ≡ []) × (now_free ≡ [])) → (length new ≡ length old) ⊎ (now_free ≡ [])
grown_or old mid new free now_free same (inl kept) = inl (same ∙ kept)
grown_or old mid new free now_free same (inr none) = inr none.1

pub made_on : (old mid new : PageMap) (size root : ℕ) (columns : List Collation) (bytes free : List ℕ) → IsPageSize size → AreFree old size free → IsTaken old mid size free root
    → IsEmptyPage size bytes → new ≡ with_page mid root bytes → IsNewTree old new size columns free root
made_on old mid new size root columns bytes free sized are t page is =
    let from = taken_from old mid size free root are t in
    let done = emptied mid new size root columns bytes t.now_free sized from.are from.there from.other t.behind page is in
    record {
      now_free = t.now_free;
      stands = done.stands;
      moves = in_sequence old mid new [] free (root ∷ []) t.now_free (root ∷ []) t.now_free t.moves done.moves;
      header = keeps_then old mid new t.header done.header;
      rule = grown_or old mid new free t.now_free done.same t.rule;
    }

-- ---- a tree that stands

pub standing : (old : PageMap) (size root : ℕ) (columns : List Collation) (entries : List Entry) (used free : List ℕ) (is : Stands old size root columns entries used free)
    → StandsUnder old size root 19 is.tree.depth is.tree.tree free
standing old size root columns entries used free is = record {
  top_is = is.tree.root_is;
  lies = is.tree.lies;
  shallow = (let lt = is.tree.shallow in omega (arith, lt));
  apart = λ n. (let most = is.apart n in let e = ap (occurs n) is.tree.used_are in omega (arith, most, e));
  first = (let none = is.first in let e = ap (occurs 1) is.tree.used_are in omega (arith, none, e));
  free_are = is.free_are;
}

-- its root is there, also where its other pages were given back
pub root_left : (old mid : PageMap) (size root : ℕ) (columns : List Collation) (entries : List Entry) (used free : List ℕ) (is : Stands old size root columns entries used free)
    → AreGivenBack old mid size (below_of is.tree.depth is.tree.tree) free → IsThere mid size root
root_left old mid size root columns entries used free is given =
    let over = left_over old mid size root 19 is.tree.depth is.tree.tree free (standing old size root columns entries used free is) given in
    record { has = over.has; whole = (given.free_are).whole root over.has }

-- where all pages but the root's were given back, and that is a leaf without entries, the tree was cleared
cleared : (old mid new : PageMap) (size root : ℕ) (columns : List Collation) (entries : List Entry) (used free bytes : List ℕ) (is : Stands old size root columns entries used free)
    → AreGivenBack old mid size (below_of is.tree.depth is.tree.tree) free → IsEmptyPage size bytes → new ≡ with_page mid root bytes → IsCleared old new size root columns used free
cleared old mid new size root columns entries used free bytes is given page put =
    let depth = is.tree.depth in
    let tree = is.tree.tree in
    let beside = standing old size root columns entries used free is in
    let over = left_over old mid size root 19 depth tree free beside given in
    let done = emptied mid new size root columns bytes given.now_free is.sized given.free_are over.has over.other (number_far old size root 19 depth tree free beside) page put in
    let split : used ≡ root ∷ below_of depth tree = sym is.tree.used_are ∙ top_and_below old size root 19 depth tree free beside in
    let first : Moves old mid (root ∷ below_of depth tree) free (root ∷ []) given.now_free =
    beside_used old mid (below_of depth tree) free [] given.now_free (root ∷ []) (root ∷ below_of depth tree) (root ∷ []) given.moves
    (λ n. (let both = occurs_append n (root ∷ []) (below_of depth tree) in omega (arith, both))) (λ n. omega arith) in
    record {
      now_free = given.now_free;
      stands = done.stands;
      moves = subst (λ (pages : List ℕ). Moves old new pages free (root ∷ []) given.now_free) (sym split)
          (in_sequence old mid new (root ∷ below_of depth tree) free (root ∷ []) given.now_free (root ∷ []) given.now_free first done.moves);
      header = keeps_then old mid new given.header done.header;
      same = done.same ∙ given.same;
    }

pub put_cleared : (old mid new : PageMap) (size root : ℕ) (columns : List Collation) (entries : List Entry) (used free bytes : List ℕ) (result : Result ⊤ Fault) (is : Stands old size root columns entries used free)
    → AreGivenBack old mid size (below_of is.tree.depth is.tree.tree) free → IsEmptyPage size bytes → OnOk result (new ≡ with_page mid root bytes)
    → (IsThere mid size root → length bytes ≡ size → IfErr result IsOutside) → MatchResult result (λ done. IsCleared old new size root columns used free) IsOutside
put_cleared old mid new size root columns entries used free bytes (Ok done) is given page put refusal = cleared old mid new size root columns entries used free bytes is given page put
put_cleared old mid new size root columns entries used free bytes (Err fault) is given page put refusal = refusal (root_left old mid size root columns entries used free is given) page.sized
