-- Indexes by rising name: whether one has a name, more among them, some of them, and those of another table in the place of one.
use Rattle.std.proofs.Common.{◌≡◌, refl, sym, ap, ◌∙◌, ℕ, zero, suc, ◌<◌, Bool, true, false, not, cond, List, [], ◌∷◌, length, slice_index_or, arith}
use Rattle.std.specs.Prelude.{Result, Ok, Err, IfOk, IfErr, ◌||◌, take}
use Rattle.std.specs.List.{insert, list_any}
use Rattle.std.specs.List.Sorted.{IsSearchInRange}
use Rattle.std.specs.Result.{is_ok}
use Rattle.std.specs.declared.alloc.Global.{Global}
use Rattle.std.specs.declared.rc.Rc.{Rc}
use Rattle.sqlval.specs.Names.{is_same_name}
use Rattle.catalog.specs.ByIndex.{AreIndexesByName, AreMore, any_handle, any_index, any_of, index_name, indexes_elsewhere, name_at}
use Rattle.catalog.specs.ByName.{HasNameAt, IsGapOfName, RiseBy, in_handles}
use Rattle.catalog.specs.Database.{Name}
use Rattle.catalog.specs.Listed.{has_index, is_table, with_replaced, without_table}
use Rattle.catalog.specs.declared.by_index.IndexHandle.{IndexHandle}
use Rattle.catalog.specs.declared.tables.Index.{Index as ListedIndex}
use Rattle.catalog.specs.declared.tables.Table.{Table}
use Rattle.catalog.proofs.Rising.{gap_rest, greater_differs, less_differs, rise_insert, rise_left, shared_insert}

abbrev Handle : Type 0
Handle = Rc IndexHandle Global

-- whether a handle stands for an index of this name
abbrev pub is_named : Name → IndexHandle → Bool
is_named name handle = is_same_name (index_name handle) name

-- ---- what is found

or_true : (b : Bool) → (b || true) ≡ true
or_true true = refl
or_true false = refl

or_false : (b : Bool) → (b || false) ≡ b
or_false true = refl
or_false false = refl

or_or : (a b c : Bool) → (a || b || c) ≡ (a || (b || c))
or_or true b c = refl
or_or false b c = refl

-- one is found, where one at a place has the name
any_at : (name : Name) (hs : List Handle) (i : ℕ) (d : Handle) → i < length hs → is_same_name (index_name (slice_index_or hs i d).value) name ≡ true → list_any (is_named name) (in_handles hs) ≡ true
any_at name [] i d lt e = absurd (omega (arith, lt))
any_at name (h ∷ hs) zero d lt e = ap (λ b. b || list_any (is_named name) (in_handles hs)) e
any_at name (h ∷ hs) (suc i) d lt e = ap (λ b. is_named name h.value || b) (any_at name hs i d (omega (arith, lt)) e) ∙ or_true (is_named name h.value)

-- none is found, where the name has a gap
none_at : (name : Name) (hs : List Handle) (i : ℕ) → IsGapOfName index_name name hs i → list_any (is_named name) (in_handles hs) ≡ false
none_at name [] i is = refl
none_at name (h ∷ hs) zero is =
    ap (λ b. b || list_any (is_named name) (in_handles hs)) (greater_differs (index_name h.value) name (is.1 0 h (omega arith) (omega arith)))
    ∙ none_at name hs zero (λ k d low lt. absurd (omega (arith, lt)), λ k d low lt. is.1 (suc k) d (omega arith) (omega (arith, lt)))
none_at name (h ∷ hs) (suc i) is =
    ap (λ b. b || list_any (is_named name) (in_handles hs)) (less_differs (index_name h.value) name (is.0 0 h (omega arith) (omega arith)))
    ∙ none_at name hs i (gap_rest index_name name h hs i is)

-- ---- one more

-- a test of one more item
any_insert : {A : Type 0} (p : A → Bool) (x : A) (xs : List A) (i : ℕ) → list_any p (insert xs i x) ≡ (list_any p xs || p x)
any_insert p x [] zero = or_false (p x)
any_insert p x [] (suc i) = or_false (p x)
any_insert p x (y ∷ ys) zero = by (p x) (list_any p (y ∷ ys))
  where
    by : (a b : Bool) → (a || b) ≡ (b || a)
    by true b = sym (or_true b)
    by false b = sym (or_false b)
any_insert p x (y ∷ ys) (suc i) = ap (λ b. p y || b) (any_insert p x ys i) ∙ sym (or_or (p y) (list_any p ys) (p x))

pub one_more : (hs : List Handle) (i : ℕ) (h : Handle) → (RiseBy index_name (in_handles hs) → IsGapOfName index_name (index_name h.value) hs i)
    → AreMore (λ test. test h.value.table.value (index_name h.value)) (in_handles hs) (in_handles (insert hs i h))
one_more hs i h is = record {
  rise = λ rise. rise_insert index_name hs i h (is rise) rise;
  same = λ test. ap (any_handle test) (shared_insert hs i h) ∙ any_insert (λ (k : IndexHandle). test k.table.value (index_name k)) h.value (in_handles hs) i;
}

-- ---- those of a table

pub none_more : (t : Table) (hs : List IndexHandle) → AreMore (λ test. any_of test t []) hs hs
none_more t hs = record { rise = λ rise. rise; same = λ test. sym (or_false (any_handle test hs)) }

any_next : (test : Table → Name → Bool) (t : Table) (indexes : List ListedIndex) (n : ℕ) → n < length indexes
    → any_of test t (take (suc n) indexes) ≡ (any_of test t (take n indexes) || test t (name_at indexes n))
any_next test t [] n lt = absurd (omega (arith, lt))
any_next test t (x ∷ xs) zero lt = or_false (test t x.name)
any_next test t (x ∷ xs) (suc n) lt = ap (λ b. test t x.name || b) (any_next test t xs n (omega (arith, lt))) ∙ sym (or_or (test t x.name) (any_of test t (take n xs)) (test t (name_at xs n)))

pub next_more : (t : Table) (h : IndexHandle) (n : ℕ) (old now new : List IndexHandle) → h.table.value ≡ t → h.place ≡ n → n < length t.indexes
    → AreMore (λ test. any_of test t (take n t.indexes)) old now → AreMore (λ test. test h.table.value (index_name h)) now new → AreMore (λ test. any_of test t (take (suc n) t.indexes)) old new
next_more t h n old now new table place lt before more = record {
  rise = λ rise. more.rise (before.rise rise);
  same = λ test. more.same test
      ∙ ((λ i. before.same test i || test (table i) (name_at (table i).indexes (place i)))
      ∙ (or_or (any_handle test old) (any_of test t (take n t.indexes)) (test t (name_at t.indexes n))
      ∙ ap (λ b. any_handle test old || b) (sym (any_next test t t.indexes n lt))));
}

-- ---- one more table

pub more_by_index : (ts : List Table) (place : ℕ) (t : Table) (old new : List IndexHandle) → AreIndexesByName ts old → AreMore (λ test. any_of test t t.indexes) old new
    → AreIndexesByName (insert ts place t) new
more_by_index ts place t old new are more = record {
  rise = more.rise are.rise;
  same = λ test. more.same test
      ∙ (ap (λ b. b || any_of test t t.indexes) (are.same test) ∙ sym (any_insert (λ (u : Table). any_of test u u.indexes) t ts place));
}

-- ---- those of other tables

-- a test of tables of other names
abbrev elsewhere : Name → (Table → Name → Bool) → Table → Name → Bool
elsewhere name test t n = cond (is_table name t) false (test t n)

any_left : (name : Name) (test : Table → Name → Bool) (hs : List IndexHandle) → any_handle test (indexes_elsewhere name hs) ≡ any_handle (elsewhere name test) hs
any_left name test [] = refl
any_left name test (h ∷ hs) = by (is_table name h.table.value) (any_left name test hs)
  where
    by : (b : Bool) → any_handle test (indexes_elsewhere name hs) ≡ any_handle (elsewhere name test) hs
        → any_handle test (cond (not b) (h ∷ indexes_elsewhere name hs) (indexes_elsewhere name hs)) ≡ (cond b false (test h.table.value (index_name h)) || any_handle (elsewhere name test) hs)
    by true rest = rest
    by false rest = ap (λ b. test h.table.value (index_name h) || b) rest

any_none : (indexes : List ListedIndex) → list_any (λ (i : ListedIndex). false) indexes ≡ false
any_none [] = refl
any_none (i ∷ indexes) = any_none indexes

any_tables_left : (name : Name) (test : Table → Name → Bool) (ts : List Table) → any_index (elsewhere name test) ts ≡ any_index test (without_table name ts)
any_tables_left name test [] = refl
any_tables_left name test (t ∷ ts) = by (is_table name t) (any_tables_left name test ts)
  where
    by : (b : Bool) → any_index (elsewhere name test) ts ≡ any_index test (without_table name ts)
        → (list_any (λ i. cond b false (test t i.name)) t.indexes || any_index (elsewhere name test) ts) ≡ any_index test (cond (not b) (t ∷ without_table name ts) (without_table name ts))
    by true rest = ap (λ b. b || any_index (elsewhere name test) ts) (any_none t.indexes) ∙ rest
    by false rest = ap (λ b. any_of test t t.indexes || b) rest

pub less_by_index : (name : Name) (ts : List Table) (hs : List IndexHandle) → AreIndexesByName ts hs → AreIndexesByName (without_table name ts) (indexes_elsewhere name hs)
less_by_index name ts hs are = record {
  rise = rise_left index_name (λ h. not (is_table name h.table.value)) hs are.rise;
  same = λ test. any_left name test hs ∙ (are.same (elsewhere name test) ∙ any_tables_left name test ts);
}

-- ---- another table in the place of one

put_in_place : (new : Table) (test : Table → Name → Bool) (ts : List Table)
    → (any_index test (without_table new.name ts) || cond (list_any (is_table new.name) ts) (any_of test new new.indexes) false) ≡ any_index test (with_replaced new ts)
put_in_place new test [] = refl
put_in_place new test (t ∷ ts) = by (is_table new.name t) (put_in_place new test ts)
  where
    replaced : (w l a r : Bool) → (w || cond l a false) ≡ r → (w || a) ≡ (a || r)
    replaced true l true r e = refl
    replaced true l false r e = e
    replaced false l true r e = refl
    replaced false true false r e = e
    replaced false false false r e = e

    by : (b : Bool) → (any_index test (without_table new.name ts) || cond (list_any (is_table new.name) ts) (any_of test new new.indexes) false) ≡ any_index test (with_replaced new ts)
        → (any_index test (cond (not b) (t ∷ without_table new.name ts) (without_table new.name ts)) || cond (b || list_any (is_table new.name) ts) (any_of test new new.indexes) false)
        ≡ any_index test (cond b new t ∷ with_replaced new ts)
    by true rest = replaced (any_index test (without_table new.name ts)) (list_any (is_table new.name) ts) (any_of test new new.indexes) (any_index test (with_replaced new ts)) rest
    by false rest =
        or_or (any_of test t t.indexes) (any_index test (without_table new.name ts)) (cond (list_any (is_table new.name) ts) (any_of test new new.indexes) false)
        ∙ ap (λ b. any_of test t t.indexes || b) rest

pub replaced_by_index : (new : Table) (ts : List Table) (old hs : List IndexHandle) → list_any (is_table new.name) ts ≡ true → AreIndexesByName ts old
    → AreMore (λ test. any_of test new new.indexes) (indexes_elsewhere new.name old) hs → AreIndexesByName (with_replaced new ts) hs
replaced_by_index new ts old hs there are more = record {
  rise = more.rise (less_by_index new.name ts old are).rise;
  same = λ test. more.same test
      ∙ (ap (λ b. b || any_of test new new.indexes) ((less_by_index new.name ts old are).same test)
      ∙ (ap (λ b. any_index test (without_table new.name ts) || cond b (any_of test new new.indexes) false) (sym there)
      ∙ put_in_place new test ts));
}

-- ---- what the search answers

pub has_answer : (name : Name) (ts : List Table) (hs : List Handle) (r : Result ℕ ℕ) → AreIndexesByName ts (in_handles hs) → IsSearchInRange r (length hs)
    → IfOk r (HasNameAt index_name name hs) → (RiseBy index_name (in_handles hs) → IfErr r (IsGapOfName index_name name hs)) → is_ok r ≡ list_any (has_index name) ts
has_answer name ts [] (Ok at) are within has gap = absurd (omega (arith, within))
has_answer name ts (h ∷ hs) (Ok at) are within has gap = sym (any_at name (h ∷ hs) at h within (has h)) ∙ are.same (λ t n. is_same_name n name)
has_answer name ts hs (Err at) are within has gap = sym (none_at name hs at (gap are.rise)) ∙ are.same (λ t n. is_same_name n name)
