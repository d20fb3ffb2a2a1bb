-- Another row's key is seen by the first entries from the key on.
use Rattle.std.proofs.Common.{◌≡◌, refl, sym, ap, ◌∙◌, ℕ, zero, suc, ◌+◌, Bool, true, false, not, cond, ◌&&◌, ◌||◌, List, [], ◌∷◌, length, take, if◌then◌else◌}
use mathlib.Core.Bool.{true≢false}
use Rattle.std.specs.List.{AllByRecursion}
use Rattle.std.specs.Ordering.{is_eq, is_gt, is_lt, ordering_reverse, ordering_then}
use Rattle.std.specs.declared.cmp.Ordering.{Ordering}
use Rattle.std.specs.declared.cmp.Ordering.TheVariants.{Less, Equal, Greater}
use Rattle.sqlval.specs.Lists.{SortKey, is_rising, key_cmp, keys_cmp}
use Rattle.sqlval.specs.Order.{order}
use Rattle.sqlval.specs.declared.collation.Collation.{Collation}
use Rattle.sqlval.specs.declared.value.Value.{Value}
use Rattle.sqlval.proofs.Ordering.{alike_is_equal}
use Rattle.tree_index.specs.Entries.{AreEntries, Entry, entries_from, entry_cmp, has_entry, key_in, keys_of, with_entry}
use Rattle.tree_index.proofs.Inserts.{first_decide, gt_not_eq, lt_not_eq, neither_lt}
use Rattle.tree_index.proofs.Orders.{after_equal, after_one, greater_first, not_less, not_less_first}
use Rattle.index_entries.specs.Others.{begins_with}

-- ---- tests

both_true : (a b : Bool) → a && b ≡ true → (a ≡ true) × (b ≡ true)
both_true true b e = (refl, e)
both_true false b e = absurd (true≢false (sym e))

neither : (a b : Bool) → a || b ≡ false → (a ≡ false) × (b ≡ false)
neither false b e = (refl, e)
neither true b e = absurd (true≢false e)

isnt : (b : Bool) → not b ≡ false → b ≡ true
isnt true e = refl
isnt false e = absurd (true≢false e)

eq_not_gt : (o : Ordering) → is_eq o ≡ true → is_gt o ≡ false
eq_not_gt Less e = refl
eq_not_gt Equal e = refl
eq_not_gt Greater e = absurd (true≢false (sym e))

eq_not_lt : (o : Ordering) → is_eq o ≡ true → is_lt o ≡ false
eq_not_lt Less e = absurd (true≢false (sym e))
eq_not_lt Equal e = refl
eq_not_lt Greater e = refl

gt_not_lt : (o : Ordering) → is_gt o ≡ true → is_lt o ≡ false
gt_not_lt Less e = absurd (true≢false (sym e))
gt_not_lt Equal e = refl
gt_not_lt Greater e = refl

-- ---- an entry and its own key

key_itself : (k : SortKey) (v : Value) → key_cmp k v v ≡ Equal
key_itself k v = by k.descending (order k.collation v v) (alike_is_equal k.collation v v refl) where
  by : (b : Bool) (o : Ordering) → o ≡ Equal → (if b then ordering_reverse o else o) ≡ Equal
  by true o e = ap ordering_reverse e
  by false o e = e

front_itself : (ks : List SortKey) (n : ℕ) (x : List Value) → is_eq (keys_cmp ks (take n x) x) ≡ true
front_itself [] n x = refl
front_itself (k ∷ ks) zero x = refl
front_itself (k ∷ ks) (suc n) [] = refl
front_itself (k ∷ ks) (suc n) (v ∷ x) = ap (λ (o : Ordering). is_eq (ordering_then o (keys_cmp ks (take n x) x))) (key_itself k v) ∙ front_itself ks n x

all_itself : (ks : List SortKey) (x : List Value) → is_eq (keys_cmp ks x x) ≡ true
all_itself [] x = refl
all_itself (k ∷ ks) [] = refl
all_itself (k ∷ ks) (v ∷ x) = ap (λ (o : Ordering). is_eq (ordering_then o (keys_cmp ks x x))) (key_itself k v) ∙ all_itself ks x

-- ---- among entries

rest_are : (cs : List Collation) (y : Entry) (ys : List Entry) → AreEntries cs (y ∷ ys) → AreEntries cs ys
rest_are cs y [] are = record { whole = tt; rising = refl }
rest_are cs y (z ∷ zs) are = record { whole = are.whole.1; rising = (both_true (is_lt (entry_cmp cs y z)) (is_rising (entry_cmp cs) (z ∷ zs)) are.rising).1 }

module _ (cs : List Collation) (x : Entry) where
  abbrev key : List Value
  key = key_in cs x

  abbrev cmp : List Value → Entry → Ordering
  cmp = entry_cmp cs

  -- what isn't of the key stands to the entry as to the key
  decides : (e : Entry) → is_eq (cmp key e) ≡ false → cmp x e ≡ cmp key e
  decides e differs = first_decide (keys_of cs) (length cs) x e differs

  none_behind : (e : Entry) (es : List Entry) → AreEntries cs (e ∷ es) → is_lt (cmp key e) ≡ true → has_entry cs key es ≡ false
  none_behind e es are lt = none es (after_one (not_less cs key) e es (not_less_first cs key (e ∷ es) are) (ap not lt)).1 where
    none : (es : List Entry) → AllByRecursion (λ (y : Entry). not_less cs key y ≡ false) es → has_entry cs key es ≡ false
    none [] all = refl
    none (y ∷ ys) all = ap (λ (b : Bool). b || has_entry cs key ys) (lt_not_eq (cmp key y) all.0) ∙ none ys all.1

  -- the entries from the key on, and those after the entry
  abbrev on : List Entry → List Entry
  on es = entries_from false cs key es

  abbrev after : List Entry → List Entry
  after es = entries_from true cs x es

  stays_on : (e : Entry) (es : List Entry) → is_gt (cmp key e) ≡ false → on (e ∷ es) ≡ e ∷ on es
  stays_on e es h = ap (λ (b : Bool). cond (not b) (e ∷ on es) (on es)) h

  goes_on : (e : Entry) (es : List Entry) → is_gt (cmp key e) ≡ true → on (e ∷ es) ≡ on es
  goes_on e es h = ap (λ (b : Bool). cond (not b) (e ∷ on es) (on es)) h

  stays_after : (e : Entry) (es : List Entry) → is_lt (cmp x e) ≡ true → after (e ∷ es) ≡ e ∷ after es
  stays_after e es h = ap (λ (b : Bool). cond (not (not b)) (e ∷ after es) (after es)) h

  goes_after : (e : Entry) (es : List Entry) → is_lt (cmp x e) ≡ false → after (e ∷ es) ≡ after es
  goes_after e es h = ap (λ (b : Bool). cond (not (not b)) (e ∷ after es) (after es)) h

  -- the first from the key on is another, or the first after the entry has the key
  abbrev pub seen : List Entry → Bool
  seen es = not (begins_with cs x (on es)) || begins_with cs key (after es)

  own_first : (es : List Entry) → seen (x ∷ es) ≡ begins_with cs key (after es)
  own_first es =
      ap (λ (l : List Entry). not (begins_with cs x l) || begins_with cs key (after (x ∷ es))) (stays_on x es (eq_not_gt (cmp key x) (front_itself (keys_of cs) (length cs) x)))
      ∙ ap (λ (b : Bool). not b || begins_with cs key (after (x ∷ es))) (all_itself (keys_of cs) x)
      ∙ ap (begins_with cs key) (goes_after x es (eq_not_lt (cmp x x) (all_itself (keys_of cs) x)))

  pub others_seen : (es : List Entry) → AreEntries cs es → has_entry cs x es ≡ false → has_entry cs key es ≡ seen (with_entry cs x es)
  others_seen [] are none = sym (own_first [])
  others_seen (y ∷ ys) are none = by (others_seen ys (rest_are cs y ys are) tests.1) (is_gt (cmp x y)) refl where
    tests : (is_eq (cmp x y) ≡ false) × (has_entry cs x ys ≡ false)
    tests = neither (is_eq (cmp x y)) (has_entry cs x ys) none

    -- where another stands before the entry
    before : has_entry cs key ys ≡ seen (with_entry cs x ys) → is_gt (cmp x y) ≡ true → (b : Bool) → is_eq (cmp key y) ≡ b → b || has_entry cs key ys ≡ seen (y ∷ with_entry cs x ys)
    before more up true e = sym (
        ap (λ (l : List Entry). not (begins_with cs x l) || begins_with cs key (after (y ∷ with_entry cs x ys))) (stays_on y (with_entry cs x ys) (eq_not_gt (cmp key y) e))
        ∙ ap (λ (b : Bool). not b || begins_with cs key (after (y ∷ with_entry cs x ys))) (gt_not_eq (cmp x y) up))
    before more up false e =
        more
        ∙ sym (ap (λ (l : List Entry). not (begins_with cs x l) || begins_with cs key (after (y ∷ with_entry cs x ys))) (goes_on y (with_entry cs x ys) (sym (ap is_gt (decides y e)) ∙ up))
        ∙ ap (λ (l : List Entry). not (begins_with cs x (on (with_entry cs x ys))) || begins_with cs key l) (goes_after y (with_entry cs x ys) (gt_not_lt (cmp x y) up)))

    -- where all others stand after it
    behind : is_lt (cmp x y) ≡ true → (b : Bool) → is_eq (cmp key y) ≡ b → b || has_entry cs key ys ≡ b
    behind down true e = refl
    behind down false e = none_behind y ys are (sym (ap is_lt (decides y e)) ∙ down)

    by : has_entry cs key ys ≡ seen (with_entry cs x ys) → (b : Bool) → is_gt (cmp x y) ≡ b → is_eq (cmp key y) || has_entry cs key ys ≡ seen (cond b (y ∷ with_entry cs x ys) (x ∷ y ∷ ys))
    by more true up = before more up (is_eq (cmp key y)) refl
    by more false up =
        let down = isnt (is_lt (cmp x y)) (neither_lt (cmp x y) up tests.0) in
        behind down (is_eq (cmp key y)) refl ∙ sym (own_first (y ∷ ys) ∙ ap (begins_with cs key) (stays_after y ys down))

  on_all : (es : List Entry) → AllByRecursion (λ (e : Entry). is_gt (cmp key e) ≡ false) es → on es ≡ es
  on_all [] all = refl
  on_all (e ∷ es) all = stays_on e es all.0 ∙ ap (λ (l : List Entry). e ∷ l) (on_all es all.1)

  after_all : (es : List Entry) → AllByRecursion (λ (e : Entry). not_less cs x e ≡ false) es → after es ≡ es
  after_all [] all = refl
  after_all (e ∷ es) all = stays_after e es (isnt (is_lt (cmp x e)) all.0) ∙ ap (λ (l : List Entry). e ∷ l) (after_all es all.1)

  -- where the entry is the first from its key on, those after it are the others
  pub next_after : (es : List Entry) → AreEntries cs es → length x ≡ length cs + 1 → (first : Entry) (rest : List Entry) → on es ≡ first ∷ rest → is_eq (cmp x first) ≡ true → after es ≡ rest
  next_after [] are long first rest split same = absurd (not_cons split) where
    not_cons : ◌≡◌ {A = List Entry} [] (first ∷ rest) → ⊥
    not_cons e = cc
  next_after (y ∷ ys) are long first rest split same = by (λ more. next_after ys (rest_are cs y ys are) long first rest more same) (is_gt (cmp key y)) refl where
    head_is : (a b : Entry) (es fs : List Entry) → ◌≡◌ {A = List Entry} (a ∷ es) (b ∷ fs) → a ≡ b
    head_is a b es fs e = cc

    tail_is : (a b : Entry) (es fs : List Entry) → ◌≡◌ {A = List Entry} (a ∷ es) (b ∷ fs) → es ≡ fs
    tail_is a b es fs e = cc

    by : (on ys ≡ first ∷ rest → after ys ≡ rest) → (b : Bool) → is_gt (cmp key y) ≡ b → after (y ∷ ys) ≡ rest
    by more true up =
        let over = ap is_gt (decides y (gt_not_eq (cmp key y) up)) ∙ up in
        goes_after y ys (gt_not_lt (cmp x y) over) ∙ more (sym (goes_on y ys up) ∙ split)
    by more false up =
        let all = (greater_first cs key (y ∷ ys) are).0 up in
        let is : y ∷ ys ≡ first ∷ rest = ap (λ (l : List Entry). y ∷ l) (sym (on_all ys all)) ∙ sym (stays_on y ys up) ∙ split in
        let equal : is_eq (cmp x y) ≡ true = ap (λ (e : Entry). is_eq (cmp x e)) (head_is y first ys rest is) ∙ same in
        goes_after y ys (eq_not_lt (cmp x y) equal) ∙ after_all ys (after_equal cs x long y ys are equal) ∙ tail_is y first ys rest is
