-- An entry among rising ones: whether it is there, and the entries with it.
use Rattle.std.proofs.Common.{◌≡◌, refl, sym, ◌∙◌, ap, subst, ℕ, zero, suc, ◌<◌, ◌+◌, Bool, true, false, not, ◌&&◌, ◌||◌, List, [], ◌∷◌, ◌++◌, length, map, take, drop, slice_index_or, if◌then◌else◌, arith}
use Rattle.std.specs.declared.cmp.Ordering.{Ordering}
use Rattle.std.specs.declared.cmp.Ordering.TheVariants.{Less, Equal, Greater}
use Rattle.std.specs.List.{AllByRecursion}
use Rattle.std.specs.Ordering.{is_lt, is_eq, is_gt, ordering_then, ordering_reverse}
use Rattle.sqlval.specs.Lists.{SortKey, key_cmp, keys_cmp, is_rising}
use Rattle.sqlval.specs.Order.{order}
use Rattle.sqlval.specs.declared.collation.Collation.{Collation}
use Rattle.sqlval.specs.declared.collation.Collation.TheVariants.{Binary}
use Rattle.sqlval.specs.declared.value.Value.{Value}
use Rattle.sqlval.proofs.Ordering.{total}
use Rattle.tree_store.specs.Sides.{each_of}
use Rattle.tree_index.specs.Comparing.{ComeFirst, front_count, is_less}
use Rattle.tree_index.specs.Entries.{Entry, keys_of, rising_key, entry_cmp, AreEntries, has_entry, key_in, put_before, with_entry, LeadsTo}
use Rattle.tree_index.specs.Growing.{IsEqualAt}
use Rattle.tree_index.specs.Tree.{Held}
use Rattle.tree_index.proofs.Orders.{greater, not_less, after_one, count_more, count_none}

pub nothing : Held
nothing = record { entry = []; payload = []; pages = [] }

true_false : true ≡ false → ⊥
true_false e = cc

-- ---- one of three

-- the order of a key and an entry by its three tests
pub gt_not_eq : (o : Ordering) → is_gt o ≡ true → is_eq o ≡ false
gt_not_eq Less e = absurd (true_false (sym e))
gt_not_eq Equal e = absurd (true_false (sym e))
gt_not_eq Greater e = refl

pub lt_not_eq : (o : Ordering) → not (is_lt o) ≡ false → is_eq o ≡ false
lt_not_eq Less e = refl
lt_not_eq Equal e = absurd (true_false e)
lt_not_eq Greater e = absurd (true_false e)

lt_not_gt : (o : Ordering) → not (is_lt o) ≡ false → is_gt o ≡ false
lt_not_gt Less e = refl
lt_not_gt Equal e = absurd (true_false e)
lt_not_gt Greater e = absurd (true_false e)

pub neither_lt : (o : Ordering) → is_gt o ≡ false → is_eq o ≡ false → not (is_lt o) ≡ false
neither_lt Less e f = refl
neither_lt Equal e f = absurd (true_false f)
neither_lt Greater e f = absurd (true_false e)

pub by_bool : (b : Bool) (P : Type 0) → (b ≡ true → P) → (b ≡ false → P) → P
by_bool true P yes_so no_so = yes_so refl
by_bool false P yes_so no_so = no_so refl

-- ---- what was compared

pub found_equal : (columns : List Collation) (key : List Value) (entries : List Held) (place : ℕ) (o : Ordering) (same : Bool) → same ≡ is_eq o → place < length entries
    → ((d : Held) → o ≡ entry_cmp columns key (slice_index_or entries place d).entry) → (same ≡ true → IsEqualAt columns key entries place) × (same ≡ false → IsEqualAt columns key entries place → ⊥)
found_equal columns key entries place o same is lt asks = (
  λ e. (lt, λ d. ap is_eq (sym (asks d)) ∙ sym is ∙ e),
  λ e equal. true_false (sym (equal.1 nothing) ∙ ap is_eq (sym (asks nothing)) ∙ sym is ∙ e),
)

module _ (columns : List Collation) (x : Entry) where
  abbrev cmp : Entry → Entry → Ordering
  cmp = entry_cmp columns

  abbrev More : List Entry → Type 0
  More = AllByRecursion (λ e. greater columns x e ≡ true)

  abbrev Fewer : List Entry → Type 0
  Fewer = AllByRecursion (λ e. not_less columns x e ≡ false)

  -- ---- whether it is there

  any_more : (xs ys : List Entry) → More xs → has_entry columns x (xs ++ ys) ≡ has_entry columns x ys
  any_more [] ys all = refl
  any_more (e ∷ xs) ys all = ap (λ (b : Bool). b || has_entry columns x (xs ++ ys)) (gt_not_eq (cmp x e) all.0) ∙ any_more xs ys all.1

  any_fewer : (xs ys : List Entry) → Fewer ys → has_entry columns x (xs ++ ys) ≡ has_entry columns x xs
  any_fewer [] [] all = refl
  any_fewer [] (e ∷ ys) all = ap (λ (b : Bool). b || has_entry columns x ys) (lt_not_eq (cmp x e) all.0) ∙ any_fewer [] ys all.1
  any_fewer (e ∷ xs) ys all = ap (λ (b : Bool). is_eq (cmp x e) || b) (any_fewer xs ys all)

  -- neither what comes before nor what comes after matters
  pub has_within : (left mid right : List Entry) → More left → Fewer right → has_entry columns x (left ++ (mid ++ right)) ≡ has_entry columns x mid
  has_within left mid right more fewer = any_more left (mid ++ right) more ∙ any_fewer mid right fewer

  pub has_one : (left : List Entry) (e : Entry) (right : List Entry) → is_eq (cmp x e) ≡ true → has_entry columns x (left ++ e ∷ right) ≡ true
  has_one [] e right same = ap (λ (b : Bool). b || has_entry columns x right) same
  has_one (f ∷ left) e right same = ap (λ (b : Bool). is_eq (cmp x f) || b) (has_one left e right same) ∙ or_true (is_eq (cmp x f)) where
    or_true : (b : Bool) → b || true ≡ true
    or_true true = refl
    or_true false = refl

  -- ---- the entries with it

  module _ (y : Entry) where
    placed_more : (xs ys : List Entry) → More xs → put_before columns x y (xs ++ ys) ≡ xs ++ put_before columns x y ys
    placed_more [] ys all = refl
    placed_more (e ∷ xs) ys all = ap (λ (b : Bool). if b then e ∷ put_before columns x y (xs ++ ys) else y ∷ e ∷ (xs ++ ys)) all.0 ∙ ap (λ (zs : List Entry). e ∷ zs) (placed_more xs ys all.1)

    placed_fewer : (xs ys : List Entry) → Fewer ys → put_before columns x y (xs ++ ys) ≡ put_before columns x y xs ++ ys
    placed_fewer [] [] all = refl
    placed_fewer [] (e ∷ ys) all = ap (λ (b : Bool). if b then e ∷ put_before columns x y ys else y ∷ e ∷ ys) (lt_not_gt (cmp x e) all.0)
    placed_fewer (e ∷ xs) ys all = ap (λ (zs : List Entry). if is_gt (cmp x e) then e ∷ zs else y ∷ e ∷ (xs ++ ys)) (placed_fewer xs ys all) ∙ either (is_gt (cmp x e)) where
      either : (b : Bool) → (if b then e ∷ (put_before columns x y xs ++ ys) else y ∷ e ∷ (xs ++ ys)) ≡ (if b then e ∷ put_before columns x y xs else y ∷ e ∷ xs) ++ ys
      either true = refl
      either false = refl

    pub with_within : (left mid right : List Entry) → More left → Fewer right → put_before columns x y (left ++ (mid ++ right)) ≡ left ++ (put_before columns x y mid ++ right)
    with_within left mid right more fewer = placed_more left (mid ++ right) more ∙ ap (λ (zs : List Entry). left ++ zs) (placed_fewer mid right fewer)

  -- ---- on a leaf

  abbrev Test : Held → Bool
  Test = is_less columns x

  abbrev values : List Held → List Entry
  values held = map (λ h. h.entry) held

  -- an entry is put at its place
  pub put_at : (y : Entry) (held : List Held) → put_before columns x y (values held) ≡ take (front_count Test held) (values held) ++ (y ∷ drop (front_count Test held) (values held))
  put_at y [] = refl
  put_at y (h ∷ held) = by (is_gt (cmp x h.entry)) (put_at y held) where
    by : (b : Bool) → put_before columns x y (values held) ≡ take (front_count Test held) (values held) ++ (y ∷ drop (front_count Test held) (values held))
        → (if b then h.entry ∷ put_before columns x y (values held) else y ∷ h.entry ∷ values held)
        ≡ take (if b then suc (front_count Test held) else 0) (h.entry ∷ values held) ++ (y ∷ drop (if b then suc (front_count Test held) else 0) (h.entry ∷ values held))
    by true rest = ap (λ (zs : List Entry). h.entry ∷ zs) rest
    by false rest = refl

  fewer_none : (ys : List Entry) → Fewer ys → has_entry columns x ys ≡ false
  fewer_none ys all = any_fewer [] ys all

  -- it isn't there where the entry at its place is another
  pub leaf_absent : (held : List Held) → ComeFirst (not_less columns x) (values held) → (IsEqualAt columns x held (front_count Test held) → ⊥) → has_entry columns x (values held) ≡ false
  leaf_absent [] first other = refl
  leaf_absent (h ∷ held) first other = by (is_gt (cmp x h.entry)) refl (λ more. leaf_absent held first.1 more) where
    by : (b : Bool) → is_gt (cmp x h.entry) ≡ b → ((IsEqualAt columns x held (front_count Test held) → ⊥) → has_entry columns x (values held) ≡ false) → has_entry columns x (h.entry ∷ values held) ≡ false
    by true e rest =
        ap (λ (b : Bool). b || has_entry columns x (values held)) (gt_not_eq (cmp x h.entry) e)
        ∙ rest (λ equal. other (subst (λ (n : ℕ). IsEqualAt columns x (h ∷ held) n) (sym (count_more Test h held e)) (omega (arith, equal.0), equal.1)))
    by false e rest = by_bool (is_eq (cmp x h.entry)) (has_entry columns x (h.entry ∷ values held) ≡ false)
        (λ same. absurd (other (subst (λ (n : ℕ). IsEqualAt columns x (h ∷ held) n) (sym (count_none Test h held e)) (omega arith, λ d. same))))
        (λ differs. fewer_none (h.entry ∷ values held) (after_one (not_less columns x) h.entry (values held) first (neither_lt (cmp x h.entry) e differs)))

  -- where the entry at a place is equal, it is there
  pub leaf_there : (held : List Held) (place : ℕ) → IsEqualAt columns x held place → has_entry columns x (values held) ≡ true
  leaf_there [] place equal = absurd (let lt = equal.0 in omega (arith, lt))
  leaf_there (h ∷ held) zero equal = has_one [] h.entry (values held) (equal.1 nothing)
  leaf_there (h ∷ held) (suc place) equal = ap (λ (b : Bool). is_eq (cmp x h.entry) || b) (leaf_there held place ((let lt = equal.0 in omega (arith, lt)), equal.1)) ∙ or_true (is_eq (cmp x h.entry)) where
    or_true : (b : Bool) → b || true ≡ true
    or_true true = refl
    or_true false = refl

-- ---- keys that lead to an entry's place

-- an entry leads to its own place
pub leads_itself : (columns : List Collation) (x : Entry) → LeadsTo columns x x
leads_itself columns x entries none = (none, same entries) where
  same : (entries : List Entry) → put_before columns x x entries ≡ with_entry columns x entries
  same [] = refl
  same (e ∷ entries) = ap (λ (zs : List Entry). if is_gt (entry_cmp columns x e) then e ∷ zs else x ∷ e ∷ entries) (same entries)

-- Where the first values of an entry decide, the entry compares as they do.
pub first_decide : (ks : List SortKey) (n : ℕ) (x e : List Value) → is_eq (keys_cmp ks (take n x) e) ≡ false → keys_cmp ks x e ≡ keys_cmp ks (take n x) e
first_decide [] n x e differs = absurd (true_false differs)
first_decide (k ∷ ks) zero x e differs = absurd (true_false differs)
first_decide (k ∷ ks) (suc n) [] e differs = refl
first_decide (k ∷ ks) (suc n) (v ∷ x) [] differs = absurd (true_false differs)
first_decide (k ∷ ks) (suc n) (v ∷ x) (w ∷ e) differs = by (key_cmp k v w) differs (first_decide ks n x e) where
  by : (o : Ordering) → is_eq (ordering_then o (keys_cmp ks (take n x) e)) ≡ false → (is_eq (keys_cmp ks (take n x) e) ≡ false → keys_cmp ks x e ≡ keys_cmp ks (take n x) e)
      → ordering_then o (keys_cmp ks x e) ≡ ordering_then o (keys_cmp ks (take n x) e)
  by Less d rest = refl
  by Equal d rest = rest d
  by Greater d rest = refl

-- So do the values of its columns, without the rowid.
pub leads_first : (columns : List Collation) (x : Entry) → LeadsTo columns (key_in columns x) x
leads_first columns x [] none = (refl, refl)
leads_first columns x (e ∷ entries) none =
    let tests = parted (is_eq (entry_cmp columns (key_in columns x) e)) (has_entry columns (key_in columns x) entries) none in
    let same = first_decide (keys_of columns) (length columns) x e tests.0 in
    let rest = leads_first columns x entries tests.1 in (
      ap (λ (o : Ordering). is_eq o || has_entry columns x entries) same ∙ ap (λ (b : Bool). b || has_entry columns x entries) tests.0 ∙ rest.0,
      ap (λ (zs : List Entry). if is_gt (entry_cmp columns (key_in columns x) e) then e ∷ zs else x ∷ e ∷ entries) rest.1
          ∙ ap (λ (o : Ordering). if is_gt o then e ∷ with_entry columns x entries else x ∷ e ∷ entries) (sym same),
    )
  where
    parted : (a b : Bool) → a || b ≡ false → (a ≡ false) × (b ≡ false)
    parted false b d = (refl, d)
    parted true b d = absurd (true_false d)

-- ---- entries that rise still do

reversed : (ks : List Collation) (a b : List Value) → keys_cmp (map rising_key ks) a b ≡ ordering_reverse (keys_cmp (map rising_key ks) b a)
reversed [] a b = refl
reversed (c ∷ ks) [] [] = refl
reversed (c ∷ ks) [] (w ∷ b) = refl
reversed (c ∷ ks) (v ∷ a) [] = refl
reversed (c ∷ ks) (v ∷ a) (w ∷ b) = both (order c v w) (order c w v) ((total c).antisymm v w) (reversed ks a b) where
  both : (p q : Ordering) → p ≡ ordering_reverse q → keys_cmp (map rising_key ks) a b ≡ ordering_reverse (keys_cmp (map rising_key ks) b a)
      → ordering_then p (keys_cmp (map rising_key ks) a b) ≡ ordering_reverse (ordering_then q (keys_cmp (map rising_key ks) b a))
  both p Less e rest = ap (λ (o : Ordering). ordering_then o (keys_cmp (map rising_key ks) a b)) e
  both p Equal e rest = ap (λ (o : Ordering). ordering_then o (keys_cmp (map rising_key ks) a b)) e ∙ rest
  both p Greater e rest = ap (λ (o : Ordering). ordering_then o (keys_cmp (map rising_key ks) a b)) e

-- entries compare the other way round when they are turned
pub turn : (columns : List Collation) (a b : Entry) → entry_cmp columns a b ≡ ordering_reverse (entry_cmp columns b a)
turn columns a b = ap (λ (ks : List SortKey). keys_cmp ks a b) (same columns) ∙ reversed (columns ++ Binary ∷ []) a b ∙ ap (λ (ks : List SortKey). ordering_reverse (keys_cmp ks b a)) (sym (same columns))
  where
    same : (cs : List Collation) → keys_of cs ≡ map rising_key (cs ++ Binary ∷ [])
    same [] = refl
    same (c ∷ cs) = ap (λ (ks : List SortKey). rising_key c ∷ ks) (same cs)

module _ (columns : List Collation) (x : Entry) where
  abbrev before : Entry → Entry → Bool
  before a b = is_lt (entry_cmp columns a b)

  turned : (a b : Entry) → is_gt (entry_cmp columns a b) ≡ true → before b a ≡ true
  turned a b e = by (entry_cmp columns a b) (entry_cmp columns b a) (turn columns b a) e where
    by : (o p : Ordering) → p ≡ ordering_reverse o → is_gt o ≡ true → is_lt p ≡ true
    by Less p is e = absurd (true_false (sym e))
    by Equal p is e = absurd (true_false (sym e))
    by Greater p is e = ap is_lt is

  lt_of : (o : Ordering) → is_gt o ≡ false → is_eq o ≡ false → is_lt o ≡ true
  lt_of Less e f = refl
  lt_of Equal e f = absurd (true_false f)
  lt_of Greater e f = absurd (true_false e)

  and_both : (a b : Bool) → a && b ≡ true → (a ≡ true) × (b ≡ true)
  and_both true b e = (refl, e)
  and_both false b e = absurd (true_false (sym e))

  or_both : (a b : Bool) → a || b ≡ false → (a ≡ false) × (b ≡ false)
  or_both false b e = (refl, e)
  or_both true b e = absurd (true_false e)

  both_and : (a b : Bool) → a ≡ true → b ≡ true → a && b ≡ true
  both_and true b e f = f
  both_and false b e f = absurd (true_false (sym e))

  -- it rises from an entry that is less on
  rises_from : (y : Entry) (entries : List Entry) → before y x ≡ true → is_rising (entry_cmp columns) (y ∷ entries) ≡ true → has_entry columns x entries ≡ false
      → is_rising (entry_cmp columns) (y ∷ with_entry columns x entries) ≡ true
  rises_from y [] less rises none = both_and (before y x) true less refl
  rises_from y (z ∷ entries) less rises none = by (is_gt (entry_cmp columns x z)) refl (λ l. rises_from z entries l tail.1 tests.1) where
    tail : (before y z ≡ true) × (is_rising (entry_cmp columns) (z ∷ entries) ≡ true)
    tail = and_both (before y z) (is_rising (entry_cmp columns) (z ∷ entries)) rises

    tests : (is_eq (entry_cmp columns x z) ≡ false) × (has_entry columns x entries ≡ false)
    tests = or_both (is_eq (entry_cmp columns x z)) (has_entry columns x entries) none

    by : (b : Bool) → is_gt (entry_cmp columns x z) ≡ b → (before z x ≡ true → is_rising (entry_cmp columns) (z ∷ with_entry columns x entries) ≡ true)
        → is_rising (entry_cmp columns) (y ∷ (if b then z ∷ with_entry columns x entries else x ∷ z ∷ entries)) ≡ true
    by true e more = both_and (before y z) (is_rising (entry_cmp columns) (z ∷ with_entry columns x entries)) tail.0 (more (turned x z e))
    by false e more =
        both_and (before y x) (is_rising (entry_cmp columns) (x ∷ z ∷ entries)) less
        (both_and (before x z) (is_rising (entry_cmp columns) (z ∷ entries)) (lt_of (entry_cmp columns x z) e tests.0) tail.1)

  all_placed : (P : Entry → Type 0) (entries : List Entry) → P x → AllByRecursion P entries → AllByRecursion P (with_entry columns x entries)
  all_placed P [] one all = (one, tt)
  all_placed P (z ∷ entries) one all = by (is_gt (entry_cmp columns x z)) (all_placed P entries one all.1) where
    by : (b : Bool) → AllByRecursion P (with_entry columns x entries) → AllByRecursion P (if b then z ∷ with_entry columns x entries else x ∷ z ∷ entries)
    by true more = (all.0, more)
    by false more = (one, all)

  pub still_rise : (entries : List Entry) → AreEntries columns entries → has_entry columns x entries ≡ false → length x ≡ length columns + 1 → AreEntries columns (with_entry columns x entries)
  still_rise entries are none long = record { whole = all_placed (λ e. length e ≡ length columns + 1) entries long are.whole; rising = rise entries are.rising none } where
    rise : (entries : List Entry) → is_rising (entry_cmp columns) entries ≡ true → has_entry columns x entries ≡ false → is_rising (entry_cmp columns) (with_entry columns x entries) ≡ true
    rise [] rises none = refl
    rise (z ∷ entries) rises none = by (is_gt (entry_cmp columns x z)) refl where
      tests : (is_eq (entry_cmp columns x z) ≡ false) × (has_entry columns x entries ≡ false)
      tests = or_both (is_eq (entry_cmp columns x z)) (has_entry columns x entries) none

      by : (b : Bool) → is_gt (entry_cmp columns x z) ≡ b → is_rising (entry_cmp columns) (if b then z ∷ with_entry columns x entries else x ∷ z ∷ entries) ≡ true
      by true e = rises_from z entries (turned x z e) rises tests.1
      by false e = both_and (before x z) (is_rising (entry_cmp columns) (z ∷ entries)) (lt_of (entry_cmp columns x z) e tests.0) rises

-- ---- parts of rising entries

pub entries_part : (columns : List Collation) (left mid right : List Entry) → AreEntries columns (left ++ (mid ++ right)) → AreEntries columns mid
entries_part columns left mid right are = front mid right (back left (mid ++ right) are) where
  rest_rises : (e : Entry) (rest : List Entry) → is_rising (entry_cmp columns) (e ∷ rest) ≡ true → is_rising (entry_cmp columns) rest ≡ true
  rest_rises e [] rises = refl
  rest_rises e (f ∷ rest) rises = and_right (is_lt (entry_cmp columns e f)) (is_rising (entry_cmp columns) (f ∷ rest)) rises where
    and_right : (a b : Bool) → a && b ≡ true → b ≡ true
    and_right true b e = e
    and_right false b e = absurd (true_false (sym e))

  back : (left rest : List Entry) → AreEntries columns (left ++ rest) → AreEntries columns rest
  back [] rest are = are
  back (e ∷ left) rest are = back left rest (record { whole = are.whole.1; rising = rest_rises e (left ++ rest) are.rising })

  all_front : (P : Entry → Type 0) (mid right : List Entry) → AllByRecursion P (mid ++ right) → AllByRecursion P mid
  all_front P [] right all = tt
  all_front P (e ∷ mid) right all = (all.0, all_front P mid right all.1)

  front_rises : (mid right : List Entry) → is_rising (entry_cmp columns) (mid ++ right) ≡ true → is_rising (entry_cmp columns) mid ≡ true
  front_rises [] right rises = refl
  front_rises (e ∷ []) right rises = refl
  front_rises (e ∷ f ∷ mid) right rises = step (is_lt (entry_cmp columns e f)) rises (λ more. front_rises (f ∷ mid) right more) where
    step : (b : Bool) → b && is_rising (entry_cmp columns) (f ∷ (mid ++ right)) ≡ true → (is_rising (entry_cmp columns) (f ∷ (mid ++ right)) ≡ true → is_rising (entry_cmp columns) (f ∷ mid) ≡ true)
        → b && is_rising (entry_cmp columns) (f ∷ mid) ≡ true
    step true e more = more e
    step false e more = absurd (true_false (sym e))

  front : (mid right : List Entry) → AreEntries columns (mid ++ right) → AreEntries columns mid
  front mid right are = record { whole = all_front (λ e. length e ≡ length columns + 1) mid right are.whole; rising = front_rises mid right are.rising }

-- ---- entries between subtrees

module _ {T : Type 0} (f : T → List Entry) (columns : List Collation) (x : Entry) where
  has_right : (xs ys : List Entry) → has_entry columns x ys ≡ true → has_entry columns x (xs ++ ys) ≡ true
  has_right [] ys is = is
  has_right (e ∷ xs) ys is = ap (λ (b : Bool). is_eq (entry_cmp columns x e) || b) (has_right xs ys is) ∙ or_true (is_eq (entry_cmp columns x e)) where
    or_true : (b : Bool) → b || true ≡ true
    or_true true = refl
    or_true false = refl

  -- where the entry between two subtrees is equal, it is there
  pub between_there : (kids : List (T × Held)) (last : T) (place : ℕ) → IsEqualAt columns x (map (λ kid. kid.1) kids) place → has_entry columns x (each_of f (λ held. held.entry ∷ []) kids last) ≡ true
  between_there [] last place equal = absurd (let lt = equal.0 in omega (arith, lt))
  between_there (kid ∷ kids) last zero equal = has_one columns x (f kid.0) kid.1.entry (each_of f (λ held. held.entry ∷ []) kids last) (equal.1 nothing)
  between_there (kid ∷ kids) last (suc place) equal =
      has_right (f kid.0) (kid.1.entry ∷ each_of f (λ held. held.entry ∷ []) kids last)
      (has_right (kid.1.entry ∷ []) (each_of f (λ held. held.entry ∷ []) kids last) (between_there kids last place ((let lt = equal.0 in omega (arith, lt)), equal.1)))
