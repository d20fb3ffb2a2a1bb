-- A page is a leaf without rows.
use Rattle.std.proofs.Common.{◌≡◌, refl, sym, ◌∙◌, ap, subst, ℕ, ◌<◌, ◌≤◌, ◌+◌, ◌-◌, ◌⊎◌, inl, inr, List, [], ◌∷◌, length, take, arith}
use Rattle.std.proofs.lemmas.Bool.{cases_eq}
use Rattle.std.proofs.lemmas.Grind.{common_steps}
use Rattle.std.proofs.lemmas.List.{length-set}
use Rattle.std.specs.Prelude.{Result, Ok, Err, IfErr}
use Rattle.sqlval.specs.PageSizes.{IsPageSize}
use Rattle.sqlval.specs.declared.fault.Fault.{Fault}
use Rattle.sqlval.specs.declared.fault.Fault.TheVariants.{Memory, TooLong}
use Rattle.tree_leaf.specs.Leaf.{IsTableLeaf}
use Rattle.tree_leaf.specs.Writing.{Fits}
use Rattle.pages.specs.Counting.{occurs, start_of, Moves}
use Rattle.pages.specs.Map.{PageMap, page_at, with_page, Has}
use Rattle.pages.proofs.Moving.{in_sequence}
use Rattle.freelist.specs.Calls.{AreFree, IsTaken, KeepsHeader}
use Rattle.tree_overflow.proofs.Laying.{keeps_then, taken_from}
use Rattle.tree_store.specs.Storing.{CanStand}
use Rattle.tree_store.proofs.PutPages.{is_put, put_there}
use Rattle.tree_table.specs.Calls.{Stands}
use Rattle.tree_table.specs.Freeing.{IsNewTree}
use Rattle.tree_table.specs.SingleLeaf.{IsSingleLeaf}
use Rattle.tree_table.specs.Tree.{IsTableTree}
use Rattle.tree_table.proofs.Few.{large_size}
use Rattle.tree_table.proofs.SinglePages.{own_tree}

-- ---- its bytes

start_le : (n : ℕ) → start_of n ≤ 100
start_le n = grind (arith, common_steps)

pub start_after : (n : ℕ) → 1 < n → start_of n ≡ 0
start_after n after = grind (arith, common_steps)

-- no rows fit each page
pub none_fit : (size start : ℕ) → IsPageSize size → start ≤ 100 → Fits size start []
none_fit size start is le = (let large = large_size size is in record { addressed = omega (arith, large.1); whole = tt; room = omega (arith, large.0, le) })

pub refused_memory : (size page_size number : ℕ) (fault : Fault) → IsPageSize size → page_size ≡ size
    → (fault ≡ Memory) ⊎ ((fault ≡ TooLong) × (Fits page_size (start_of number) [] → ⊥)) → fault ≡ Memory
refused_memory size page_size number fault is same (inl memory) = memory
refused_memory size page_size number fault is same (inr room) = absurd (room.1 (subst (λ (n : ℕ). Fits n (start_of number) []) (sym same) (none_fit size (start_of number) is (start_le number))))

pub no_start : (size number start : ℕ) → IsPageSize size → start ≡ start_of number → size < start → ⊥
no_start size number start is same lt = (let large = large_size size is in let le = start_le number in omega (arith, large.0, le, same, lt))

pub memory_alone : {T : Type 0} (result : Result T Fault) (size number start : ℕ) → start ≡ start_of number
    → IfErr result (λ fault. (fault ≡ Memory) ⊎ ((fault ≡ TooLong) × (Fits size start [] → ⊥))) → IfErr result (λ fault. IsPageSize size → fault ≡ Memory)
memory_alone (Ok x) size number start same refused = tt
memory_alone (Err fault) size number start same refused = λ sized.
    refused_memory size size number fault sized refl (subst (λ (n : ℕ). (fault ≡ Memory) ⊎ ((fault ≡ TooLong) × (Fits size n [] → ⊥))) same refused)

-- ---- where it stands

-- The page is a tree without rows, and what is used and free is so still.
pub record IsEmptied (old new : PageMap) (size root : ℕ) (free : List ℕ) : Type 0 where
  pub stands : Stands new size root [] (root ∷ []) free
  pub moves : Moves old new (root ∷ []) free (root ∷ []) free
  pub header : KeepsHeader old new
  pub same : length new ≡ length old

pub other_or_none : (n root : ℕ) (free : List ℕ) → occurs root free ≡ 0 → occurs n free ≤ 1 → occurs n (root ∷ []) + occurs n free ≤ 1
other_or_none n root free none once = elim (cases_eq root n) [
  | inl same ↦ (let gone = subst (λ (k : ℕ). occurs k free ≡ 0) same none in let self = at_most n root in omega (arith, gone, self))
  | inr other ↦ (let gone = not_there n root other in omega (arith, gone, once))
]
  where
    at_most : (n root : ℕ) → occurs n (root ∷ []) ≤ 1
    at_most n root = grind (arith, common_steps)

    not_there : (n root : ℕ) → (root ≡ n → ⊥) → occurs n (root ∷ []) ≡ 0
    not_there n root other = grind (arith, common_steps)

first_or : (root : ℕ) → (root ≡ 1) ⊎ (occurs 1 (root ∷ []) ≡ 0)
first_or root = elim (cases_eq root 1) [
  | inl same ↦ inl same
  | inr other ↦ inr (grind (arith, common_steps))
]

pub emptied : (mid new : PageMap) (size root : ℕ) (bytes free : List ℕ) → IsPageSize size → AreFree mid size free → Has mid root → occurs root free ≡ 0 → CanStand mid size root bytes
    → IsTableLeaf bytes (start_of root) [] → new ≡ with_page mid root bytes → IsEmptied mid new size root free
emptied mid new size root bytes free sized are has none can leaf is = subst (λ (m : PageMap). IsEmptied mid m size root free) (sym is) (
    let put = is_put mid size free root bytes are has none can in
    let there = put_there mid root bytes has in
    let long = length-set mid (root - 1) bytes in
    let now = with_page mid root bytes in
    let single_leaf : IsSingleLeaf (page_at now root) root [] = record {
      leaf = subst (λ (page : List ℕ). IsTableLeaf page (start_of root) []) (sym there) leaf;
      rising = λ i d from lt. absurd (omega (arith, lt));
    } in
    let tree = own_tree now root [] (record { first = has.first; last = (let last = has.last in omega (arith, long, last)) }) single_leaf in
    record {
      stands = record {
        tree = subst (λ (n : ℕ). IsTableTree now n root [] (root ∷ [])) (ap length there ∙ can.sized) tree;
        free_are = record { has = put.has; once = are.once; behind = are.behind; whole = (put.moves).whole size are.whole };
        apart = λ n. other_or_none n root free none ((are.once).once n);
        first = first_or root;
        sized = sized;
      };
      moves = put.moves;
      header = put.header;
      same = long;
    })

-- ---- on a page that was taken

grown_or : (old mid new : PageMap) (free now_free : List ℕ) → length new ≡ length mid → (length mid ≡ length old) ⊎ ((free ≡ []) × (now_free ≡ [])) → (length new ≡ length old) ⊎ (now_free ≡ [])
grown_or old mid new free now_free same (inl kept) = inl (same ∙ kept)
grown_or old mid new free now_free same (inr none) = inr none.1

pub made_on : (old mid new : PageMap) (size root : ℕ) (bytes free : List ℕ) → IsPageSize size → AreFree old size free → IsTaken old mid size free root → length bytes ≡ size
    → IsTableLeaf bytes 0 [] → new ≡ with_page mid root bytes → IsNewTree old new size free root
made_on old mid new size root bytes free sized are t long leaf is =
    let from = taken_from old mid size free root are t in
    let zero_is = start_after root t.behind in
    let can : CanStand mid size root bytes = record { sized = long; front = subst (λ (n : ℕ). take n bytes ≡ take n (page_at mid root)) (sym zero_is) refl } in
    let done = emptied mid new size root bytes t.now_free sized from.are from.there from.other can (subst (λ (n : ℕ). IsTableLeaf bytes n []) (sym zero_is) leaf) is in
    record {
      now_free = t.now_free;
      after = t.behind;
      stands = done.stands;
      moves = in_sequence old mid new [] free (root ∷ []) t.now_free (root ∷ []) t.now_free t.moves done.moves;
      header = keeps_then old mid new t.header done.header;
      rule = grown_or old mid new free t.now_free done.same t.rule;
    }
