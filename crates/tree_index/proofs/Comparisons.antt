-- Comparing value by value.
use Rattle.std.proofs.Common.{◌≡◌, refl, sym, ◌∙◌, ap, subst, IsTrue, ℕ, zero, suc, ◌<◌, ◌≤◌, ◌+◌, Bool, true, false, inl, inr, List, [], ◌∷◌, ◌++◌, length, drop, slice_index_or, Result, Ok, Err, arith}
use Rattle.std.specs.declared.cmp.Ordering.{Ordering}
use Rattle.std.specs.declared.cmp.Ordering.TheVariants.{Less, Equal, Greater}
use Rattle.std.specs.Ordering.{is_ne, ordering_then}
use Rattle.std.specs.Prelude.{⊤, min, MatchResult}
use Rattle.std.proofs.lemmas.Bool.{cases_lt}
use Rattle.std.proofs.lemmas.List.{length-drop}
use Rattle.sqlval.specs.Faults.{IsOutside}
use Rattle.sqlval.specs.Gives.{Refuses}
use Rattle.sqlval.specs.Lists.{SortKey, keys_cmp}
use Rattle.sqlval.specs.Order.{order}
use Rattle.sqlval.specs.declared.collation.Collation.{Collation}
use Rattle.sqlval.specs.declared.collation.Collation.TheVariants.{Binary}
use Rattle.sqlval.specs.declared.fault.Fault.{Fault}
use Rattle.sqlval.specs.declared.fault.Fault.TheVariants.{Memory}
use Rattle.sqlval.specs.declared.value.Value.{Value}
use Rattle.sqlval.specs.declared.value.Value.TheVariants.{Null}
use Rattle.pages.specs.Calls.{Limits}
use Rattle.pages.specs.Map.{PageMap, AreWhole}
use Rattle.tree_overflow.specs.Calls.{Reads}
use Rattle.tree_overflow.specs.Chains.{IsPayload}
use Rattle.tree_page.specs.Node.{Local, Node}
use Rattle.tree_page.specs.Payload.{index_most}
use Rattle.tree_index.specs.Comparing.{collation_for, locals_of, HasEntries}
use Rattle.tree_index.specs.Tree.{Held, IsHeldAs}
use Rattle.tree_index.proofs.Readings.{said_there, since}
use Rattle.tree_index.specs.Entries.{keys_of, entry_cmp}

-- the keys from a place on compare the values from there on
abbrev pub From : List Collation → List Value → List Value → ℕ → Ordering
From columns key entry place = keys_cmp (drop place (keys_of columns)) (drop place key) (drop place entry)

key_at : (columns : List Collation) (place : ℕ) → place ≤ length columns → (d : SortKey) → (drop place (keys_of columns) ≡ record { collation = collation_for place columns; descending = false } ∷ drop (suc place) (keys_of columns))
key_at [] zero le d = refl
key_at [] (suc place) le d = absurd (omega (arith, le))
key_at (c ∷ columns) zero le d = refl
key_at (c ∷ columns) (suc place) le d = key_at columns place (omega (arith, le)) d

pub value_at : {A : Type 0} (xs : List A) (place : ℕ) (d : A) → place < length xs → drop place xs ≡ slice_index_or xs place d ∷ drop (suc place) xs
value_at [] place d lt = absurd (omega (arith, lt))
value_at (x ∷ xs) zero d lt = refl
value_at (x ∷ xs) (suc place) d lt = value_at xs place d (omega (arith, lt))

three_is : (ks ls : List SortKey) (a b c d : List Value) → ks ≡ ls → a ≡ b → c ≡ d → keys_cmp ks a c ≡ keys_cmp ls b d
three_is ks ls a b c d e f g = cc

-- one value, and the others
pub one_more : (columns : List Collation) (key entry : List Value) (place : ℕ) (d : Value) → place ≤ length columns → place < length key → place < length entry
    → From columns key entry place ≡ ordering_then (order (collation_for place columns) (slice_index_or key place d) (slice_index_or entry place d)) (From columns key entry (place + 1))
one_more columns key entry place d le lt more =
    let s : place + 1 ≡ suc place = omega arith in
    three_is _ _ _ _ _ _ (key_at columns place le (record { collation = collation_for place columns; descending = false })) (value_at key place d lt) (value_at entry place d more)
    ∙ ap (λ (n : ℕ). ordering_then (order (collation_for place columns) (slice_index_or key place d) (slice_index_or entry place d)) (From columns key entry n)) (sym s)

pub collation_there : (columns : List Collation) (place : ℕ) (found : Collation) → place < length columns → found ≡ slice_index_or columns place Binary → found ≡ collation_for place columns
collation_there [] place found lt is = absurd (omega (arith, lt))
collation_there (c ∷ columns) zero found lt is = is
collation_there (c ∷ columns) (suc place) found lt is = collation_there columns place found (omega (arith, lt)) is

pub collation_last : (columns : List Collation) (place : ℕ) → length columns ≤ place → Binary ≡ collation_for place columns
collation_last [] place le = refl
collation_last (c ∷ columns) zero le = absurd (omega (arith, le))
collation_last (c ∷ columns) (suc place) le = collation_last columns place (omega (arith, le))

-- ---- the loop over values

pub differs : (o rest : Ordering) → is_ne o ≡ true → ordering_then o rest ≡ o
differs Less rest e = refl
differs Equal rest e = absurd (false_true e) where
  false_true : false ≡ true → ⊥
  false_true e = cc
differs Greater rest e = refl

pub equals : (o rest : Ordering) → is_ne o ≡ false → ordering_then o rest ≡ rest
equals Less rest e = absurd (true_false e) where
  true_false : true ≡ false → ⊥
  true_false e = cc
equals Equal rest e = refl
equals Greater rest e = absurd (true_false e) where
  true_false : true ≡ false → ⊥
  true_false e = cc

-- after the last value of a key or an entry all is equal
none_key : (ks : List SortKey) (a b : List Value) → length a ≡ 0 → keys_cmp ks a b ≡ Equal
none_key [] a b e = refl
none_key (k ∷ ks) [] b e = refl
none_key (k ∷ ks) (v ∷ a) b e = absurd (omega (arith, e))

none_entry : (ks : List SortKey) (a b : List Value) → length b ≡ 0 → keys_cmp ks a b ≡ Equal
none_entry [] a b e = refl
none_entry (k ∷ ks) [] b e = refl
none_entry (k ∷ ks) (v ∷ a) [] e = refl
none_entry (k ∷ ks) (v ∷ a) (w ∷ b) e = absurd (omega (arith, e))

none_keys : (ks : List SortKey) (a b : List Value) → length ks ≡ 0 → keys_cmp ks a b ≡ Equal
none_keys [] a b e = refl
none_keys (k ∷ ks) a b e = absurd (omega (arith, e))

keys_counted : (columns : List Collation) → length (keys_of columns) ≡ length columns + 1
keys_counted [] = refl
keys_counted (c ∷ columns) = (let e = keys_counted columns in omega (arith, e))

pub past_keys : (columns : List Collation) (key entry : List Value) (place : ℕ) → length columns < place → From columns key entry place ≡ Equal
past_keys columns key entry place lt =
    (let left = length-drop place (keys_of columns) in let count = keys_counted columns in none_keys (drop place (keys_of columns)) (drop place key) (drop place entry) (omega (arith, left, count, lt)))

pub past_values : (columns : List Collation) (key entry : List Value) (place : ℕ) → min (length key) (length entry) ≤ place → From columns key entry place ≡ Equal
past_values columns key entry place le = elim (cases_lt place (length key)) [
  | inl lt ↦ (let left = length-drop place entry in none_entry (drop place (keys_of columns)) (drop place key) (drop place entry) (omega (arith, left, lt, le)))
  | inr ge ↦ (let left = length-drop place key in none_key (drop place (keys_of columns)) (drop place key) (drop place entry) (omega (arith, left, ge)))
]

any_default : {A : Type 0} (xs : List A) (place : ℕ) (d e : A) → place < length xs → slice_index_or xs place d ≡ slice_index_or xs place e
any_default [] place d e lt = absurd (omega (arith, lt))
any_default (x ∷ xs) zero d e lt = refl
any_default (x ∷ xs) (suc place) d e lt = any_default xs place d e (omega (arith, lt))

-- the next value differs, or is equal
module _ (columns : List Collation) (key entry : List Value) (place : ℕ) (le : place ≤ length columns) (lt : place < length key) (more : place < length entry) (collation : Collation)
    (is_collation : collation ≡ collation_for place columns) (value held d : Value) (value_is : value ≡ slice_index_or key place d) (held_is : held ≡ slice_index_or entry place Null)
    (o : Ordering) (o_is : o ≡ order collation value held) (before : From columns key entry place ≡ entry_cmp columns key entry) where
  next : o ≡ order (collation_for place columns) (slice_index_or key place Null) (slice_index_or entry place Null)
  next = o_is ∙ ap (λ (c : Collation). order c value held) is_collation ∙ ap (λ (v : Value). order (collation_for place columns) v held) (value_is ∙ any_default key place d Null lt)
      ∙ ap (λ (v : Value). order (collation_for place columns) (slice_index_or key place Null) v) held_is

  step : entry_cmp columns key entry ≡ ordering_then o (From columns key entry (place + 1))
  step = sym before ∙ one_more columns key entry place Null le lt more ∙ ap (λ (p : Ordering). ordering_then p (From columns key entry (place + 1))) (sym next)

  pub found_other : is_ne o ≡ true → o ≡ entry_cmp columns key entry
  found_other e = sym (step ∙ differs o (From columns key entry (place + 1)) e)

  pub goes_on : is_ne o ≡ false → From columns key entry (place + 1) ≡ entry_cmp columns key entry
  goes_on e = sym (step ∙ equals o (From columns key entry (place + 1)) e)

-- ---- a payload

not_ok : {Y : Type 0} (f : Fault) (y : Y) → ◌≡◌ {A = Result Y Fault} (Ok y) (Err f) → ⊥
not_ok f y e = cc

-- only short memory refuses what is there
pub memory_alone : {Y : Type 0} (f : Fault) (y : Y) → Refuses f (Ok y) → f ≡ Memory
memory_alone Memory y h = refl
memory_alone f y h = absurd (not_ok f y h)

same_ok : {Y : Type 0} (x y : Y) → ◌≡◌ {A = Result Y Fault} (Ok x) (Ok y) → x ≡ y
same_ok x y e = cc

-- what was read is the entry
pub entry_is : (row entry : List Value) → ◌≡◌ {A = Result (List Value) Fault} (Ok entry) (Ok row) → row ≡ entry
entry_is row entry e = sym (same_ok entry row e)

-- ---- the entry at a place of a page

pub nothing : Local
nothing = record { size = 0; bytes = [] }

module _ (pages : PageMap) (size number place : ℕ) (node : Node) (entries : List Held) (d : Held) (has : HasEntries pages size number node entries) (lt : place < length entries) where
  pub local_within : place < length (locals_of node)
  local_within = (said_there pages size (locals_of node) entries place nothing d has.held lt).0

  pub held_at : (local : Local) → local ≡ slice_index_or (locals_of node) place local → IsHeldAs pages size local (slice_index_or entries place d)
  held_at local same = subst (λ (l : Local). IsHeldAs pages size l (slice_index_or entries place d)) (sym same) (said_there pages size (locals_of node) entries place local d has.held lt).1

module _ {P K : Type 0} (below : P → K) (tells : K → Bool) (limits : K → Limits) (map' : P → PageMap) where
  -- the payload of an entry was read over the pages after its page
  pub payload_read : (old mid : P) (most : ℕ) (local : Local) (before after held : List ℕ) (result : Result ⊤ Fault) (it : Held) → below mid ≡ below old → map' mid ≡ map' old
      → most ≡ index_most (limits (below mid)).page → held ≡ local.bytes → AreWhole (limits (below old)).page (map' old) → IsHeldAs (map' old) (limits (below old)).page local it
      → (IsTrue (tells (below mid)) → Reads (map' mid) (limits (below mid)).page most held local.size before after result) → IsTrue (tells (below old))
      → MatchResult result (λ done. after ≡ before ++ it.payload) IsOutside
  payload_read old mid most local before after held result it kept same is_most is_held whole is reads told =
      let size = (limits (below old)).page in
      let most_is : most ≡ index_most size = is_most ∙ ap (λ (k : K). index_most (limits k).page) kept in
      let begun = subst (λ (n : ℕ). IsPayload (map' old) size n held it.payload it.pages) (sym most_is)
      (subst (λ (them : List ℕ). IsPayload (map' old) size (index_most size) them it.payload it.pages) (sym is_held) is.payload) in
      since below tells limits map' (λ (m : PageMap) (n : ℕ). Reads m n most held local.size before after result) old mid kept same reads told it.payload it.pages whole begun (sym is.size)
