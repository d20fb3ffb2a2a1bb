-- Refusals that are passed on, and pages that are read in place.
use Rattle.std.proofs.Common.{◌≡◌, ◌≤◌, ◌<◌, ℕ, zero, suc, ℤ, Bool, true, false, List, [], ◌∷◌, ◌++◌, length, take, slice_index_or, refl, sym, ap, subst, ◌∙◌, inl, inr, ◌⊎◌, arith, pos, ◌+◌, Ok, Err, Some, None, Option}
use Rattle.std.specs.Prelude.{Result, IsErrAnd, IfErr, MatchResult}
use Rattle.sqlval.specs.declared.fault.Fault.{Fault}
use Rattle.sqlval.specs.declared.fault.Fault.TheVariants.{Memory}
use Rattle.sqlval.specs.Faults.{IsOutside}
use Rattle.sqlval.specs.Gives.{Refuses}
use Rattle.tree_page.specs.Node.{Local, Node, Rows, Keys, Entries, Between, IsNode, code_of}
use Rattle.tree_page.specs.Reading.{Place, Answers, key_of, between_of, count_of, last_of, type_of}
use Rattle.tree_page.specs.declared.items.Kind.{Kind}
use Rattle.tree_page.specs.declared.items.Kind.TheVariants.{TableLeaf, TableInterior, IndexLeaf, IndexInterior}
use Rattle.tree_page.specs.declared.items.Key.{Key}
use Rattle.tree_page.specs.declared.items.Between.{Between as Child}
use Rattle.tree_table.specs.SingleLeaf.{placed}
use Rattle.tree_check.specs.Subtrees.{keys_in, first_child}

pub passed_memory : {T : Type 0} (result : Result T Fault) (fault : Fault) → IsErrAnd result (λ e. e ≡ fault) → fault ≡ Memory → IfErr result (λ e. e ≡ Memory)
passed_memory (Ok x) fault is memory = absurd is
passed_memory (Err e) fault is memory = is ∙ memory

pub outside_placed : (number : ℕ) (fault is : Fault) → is ≡ placed number fault → fault ≡ Memory → IsOutside is
outside_placed number fault is same memory = inl (same ∙ ap (placed number) memory)

-- the page that is read in place
pub on_page : (page : Place) (bytes : List ℕ) (start at : ℕ) (node : Node) → page ≡ record { bytes = bytes; start = at } → at ≡ start → IsNode bytes start node → IsNode page.bytes page.start node
on_page page bytes start at node is begins it =
    subst (λ (p : Place). IsNode p.bytes p.start node) (sym is) (subst (λ (n : ℕ). IsNode bytes n node) (sym begins) it)

-- ---- children

pub keys_more : (keys : List Key) (key : Key) (all : List Key) (kids : List (ℕ × ℤ)) (index : ℕ) → all ≡ keys ++ key ∷ [] → keys_in keys ≡ take index kids → index < length kids
    → ((d : ℕ × ℤ) → key_of key ≡ slice_index_or kids index d) → keys_in all ≡ take (index + 1) kids
keys_more keys key all kids index all_are are lt is =
    ap keys_in all_are ∙ (appended keys key ∙ (ap (λ (l : List (ℕ × ℤ)). l ++ key_of key ∷ []) are ∙ (ap (λ (k : ℕ × ℤ). take index kids ++ k ∷ []) (is (0, pos 0)) ∙ sym (ap (λ (n : ℕ). take n kids) next ∙ taken kids index (0, pos 0) lt))))
  where
    next : index + 1 ≡ suc index
    next = omega arith

    appended : (keys : List Key) (key : Key) → keys_in (keys ++ key ∷ []) ≡ keys_in keys ++ key_of key ∷ []
    appended [] key = refl
    appended (first ∷ keys) key = ap (λ (l : List (ℕ × ℤ)). key_of first ∷ l) (appended keys key)

    taken : (kids : List (ℕ × ℤ)) (index : ℕ) (d : ℕ × ℤ) → index < length kids → take (suc index) kids ≡ take index kids ++ slice_index_or kids index d ∷ []
    taken [] index d lt = absurd (omega (arith, lt))
    taken (kid ∷ kids) zero d lt = refl
    taken (kid ∷ kids) (suc index) d lt = ap (λ (l : List (ℕ × ℤ)). kid ∷ l) (taken kids index d (omega (arith, lt)))

pub keys_all : (kids : List (ℕ × ℤ)) (index : ℕ) → length kids ≤ index → take index kids ≡ kids
keys_all [] zero le = refl
keys_all [] (suc index) le = refl
keys_all (kid ∷ kids) zero le = absurd (omega (arith, le))
keys_all (kid ∷ kids) (suc index) le = ap (λ (l : List (ℕ × ℤ)). kid ∷ l) (keys_all kids index (omega (arith, le)))

other_type : (kind other : Kind) (code : ℕ) → kind ≡ other → type_of kind ≡ code → type_of other ≡ code
other_type kind other code is of = sym (ap type_of is) ∙ of

-- the first child of an interior page that has more than the last
pub left_key : (bytes : List ℕ) (start : ℕ) (node : Node) → IsNode bytes start node → 5 ≡ code_of node → (count_of node ≡ 0 → ⊥)
    → (result : Result Key Fault) → ((kids : List (ℕ × ℤ)) (last : ℕ) (d : ℕ × ℤ) → IsNode bytes start (Keys kids last) → 0 < length kids → Answers key_of result (slice_index_or kids 0 d))
    → MatchResult result (λ key. Some key.child ≡ first_child node) (λ fault. ⊥)
left_key bytes start (Rows rows) is code some result only = absurd (omega (arith, code))
left_key bytes start (Entries entries) is code some result only = absurd (omega (arith, code))
left_key bytes start (Between kids last) is code some result only = absurd (omega (arith, code))
left_key bytes start (Keys [] last) is code some result only = absurd (some refl)
left_key bytes start (Keys (kid ∷ kids) last) is code some (Ok key) only = ap (λ (k : ℕ × ℤ). Some k.0) (only (kid ∷ kids) last kid is (omega arith))
left_key bytes start (Keys (kid ∷ kids) last) is code some (Err fault) only = absurd (only (kid ∷ kids) last kid is (omega arith))

pub left_between : (bytes : List ℕ) (start : ℕ) (node : Node) → IsNode bytes start node → 2 ≡ code_of node → (count_of node ≡ 0 → ⊥)
    → (result : Result Child Fault) → ((kids : List (ℕ × Local)) (last : ℕ) (d : ℕ × Local) → IsNode bytes start (Between kids last) → 0 < length kids → Answers between_of result (slice_index_or kids 0 d))
    → MatchResult result (λ kid. Some kid.child ≡ first_child node) (λ fault. ⊥)
left_between bytes start (Rows rows) is code some result only = absurd (omega (arith, code))
left_between bytes start (Entries entries) is code some result only = absurd (omega (arith, code))
left_between bytes start (Keys kids last) is code some result only = absurd (omega (arith, code))
left_between bytes start (Between [] last) is code some result only = absurd (some refl)
left_between bytes start (Between (kid ∷ kids) last) is code some (Ok key) only = ap (λ (k : ℕ × Local). Some k.0) (only (kid ∷ kids) last kid is (omega arith))
left_between bytes start (Between (kid ∷ kids) last) is code some (Err fault) only = absurd (only (kid ∷ kids) last kid is (omega arith))

-- a page without cells has its last child alone, or none
pub last_first : (node : Node) → count_of node ≡ 0 → last_of node ≡ first_child node
last_first (Rows rows) none = refl
last_first (Entries entries) none = refl
last_first (Keys [] last) none = refl
last_first (Keys (kid ∷ kids) last) none = absurd (omega (arith, none))
last_first (Between [] last) none = refl
last_first (Between (kid ∷ kids) last) none = absurd (omega (arith, none))

-- a leaf has no first child
pub leaf_first : (node : Node) (kind : Kind) → type_of kind ≡ code_of node → (kind ≡ TableLeaf) ⊎ (kind ≡ IndexLeaf) → None ≡ first_child node
leaf_first (Rows rows) kind code of = refl
leaf_first (Entries entries) kind code of = refl
leaf_first (Keys kids last) kind code (inl is) = absurd (let e = other_type kind TableLeaf 5 is code in omega (arith, e))
leaf_first (Keys kids last) kind code (inr is) = absurd (let e = other_type kind IndexLeaf 5 is code in omega (arith, e))
leaf_first (Between kids last) kind code (inl is) = absurd (let e = other_type kind TableLeaf 2 is code in omega (arith, e))
leaf_first (Between kids last) kind code (inr is) = absurd (let e = other_type kind IndexLeaf 2 is code in omega (arith, e))

-- ---- kinds

pub no_leaf : (kind : Kind) → (kind ≡ TableInterior) ⊎ ((kind ≡ IndexLeaf) ⊎ (kind ≡ IndexInterior)) → type_of kind ≡ 13 → ⊥
no_leaf kind (inl is) of = (let e = other_type kind TableInterior 13 is of in omega (arith, e))
no_leaf kind (inr (inl is)) of = (let e = other_type kind IndexLeaf 13 is of in omega (arith, e))
no_leaf kind (inr (inr is)) of = (let e = other_type kind IndexInterior 13 is of in omega (arith, e))

pub no_branch : (kind : Kind) → (kind ≡ TableLeaf) ⊎ ((kind ≡ IndexLeaf) ⊎ (kind ≡ IndexInterior)) → type_of kind ≡ 5 → ⊥
no_branch kind (inl is) of = (let e = other_type kind TableLeaf 5 is of in omega (arith, e))
no_branch kind (inr (inl is)) of = (let e = other_type kind IndexLeaf 5 is of in omega (arith, e))
no_branch kind (inr (inr is)) of = (let e = other_type kind IndexInterior 5 is of in omega (arith, e))

-- ---- answers

pub not_refused : {X : Type 0} (fault : Fault) (x : X) → ◌≡◌ {A = Result X Fault} (Err fault) (Ok x) → ⊥
not_refused fault x e = cc

same_ok : {X : Type 0} (x y : X) → ◌≡◌ {A = Result X Fault} (Ok x) (Ok y) → x ≡ y
same_ok x y e = cc

-- what was read is what is there
pub read_is : {X : Type 0} (x y : X) → ◌≡◌ {A = Result X Fault} (Ok y) (Ok x) → y ≡ x
read_is x y e = same_ok y x e

-- only short memory refuses what is there
pub memory_alone : {X : Type 0} (fault : Fault) (x : X) → Refuses fault (Ok x) → fault ≡ Memory
memory_alone Memory x refuses = refl
memory_alone fault x refuses = absurd (not_refused fault x (sym refuses))

pub not_both : (b : Bool) → b ≡ true → b ≡ false → ⊥
not_both b is isnt = cc

pub one_some : {X : Type 0} (found : Option X) (a b : X) → found ≡ Some a → found ≡ Some b → a ≡ b
one_some found a b some other = cc

pub some_none : {X : Type 0} (found : Option X) (a : X) → found ≡ Some a → found ≡ None → ⊥
some_none found a some none = cc
