-- What pages say stays where what trees see of them stays.
use Rattle.std.proofs.Common.{◌≡◌, ◌≤◌, ◌+◌, ℕ, List, [], ◌∷◌, ◌++◌, sym, ◌∙◌, arith}
use Rattle.pages.specs.Map.{PageMap, page_at, Has}
use Rattle.pages.specs.Counting.{occurs, start_of}
use Rattle.tree_page.specs.Node.{Node}
use Rattle.tree_page.proofs.AfterFront.{stays_after_front}
use Rattle.tree_store.specs.Saying.{Says}
use Rattle.tree_store.specs.Sides.{Each, each_of}
use Rattle.tree_store.specs.Staying.{AreKept}

pub occurs_both : (n : ℕ) (xs ys : List ℕ) → occurs n (xs ++ ys) ≡ occurs n xs + occurs n ys
occurs_both n [] ys = omega arith
occurs_both n (x ∷ xs) ys = let rest = occurs_both n xs ys in omega arith

pub occurs_here : (n : ℕ) (xs : List ℕ) → 1 ≤ occurs n (n ∷ xs)
occurs_here n xs = grind (arith)

-- with some of the pages alone
pub kept_of : (old new : PageMap) (size : ℕ) (all part : List ℕ) → ((n : ℕ) → 1 ≤ occurs n part → 1 ≤ occurs n all) → AreKept old new size all → AreKept old new size part
kept_of old new size all part within kept = record {
  whole = kept.whole;
  whole_now = kept.whole_now;
  longer = kept.longer;
  same = λ n has some. kept.same n has (within n some);
}

pub says_kept : (old new : PageMap) (size number : ℕ) (used : List ℕ) (node : Node) → AreKept old new size used → 1 ≤ occurs number used → Says old number node → Says new number node
says_kept old new size number used node kept some says =
    let has : Has new number = record { first = says.has.first; last = (let longer = kept.longer in let last = says.has.last in omega (arith, longer, last)) } in
    record {
      has = has;
      node_is = stays_after_front (page_at old number) (page_at new number) (start_of number) node (kept.same number says.has some) (kept.whole_now number has ∙ sym (kept.whole number says.has)) says.node_is;
    }

-- each subtree stays, where a subtree does whose pages are kept
pub each_kept : {T K : Type 0} (P Q : T → Type 0) (pages_of : T → List ℕ) (between : K → List ℕ) (old new : PageMap) (size : ℕ)
    → ((t : T) → AreKept old new size (pages_of t) → P t → Q t) → (kids : List (T × K)) (last : T)
    → AreKept old new size (each_of pages_of between kids last) → Each P kids last → Each Q kids last
each_kept P Q pages_of between old new size one [] last kept all = one last kept all
each_kept P Q pages_of between old new size one (kid ∷ kids) last kept all =
    let rest = each_of pages_of between kids last in
    let both = λ (n : ℕ). occurs_both n (pages_of kid.0) (between kid.1 ++ rest) in
    let more = λ (n : ℕ). occurs_both n (between kid.1) rest in (
      one kid.0 (kept_of old new size (pages_of kid.0 ++ (between kid.1 ++ rest)) (pages_of kid.0) (λ n some. (let b = both n in omega (arith, b, some))) kept) all.0,
      each_kept P Q pages_of between old new size one kids last
          (kept_of old new size (pages_of kid.0 ++ (between kid.1 ++ rest)) rest (λ n some. (let b = both n in let m = more n in omega (arith, b, m, some))) kept) all.1,
    )
