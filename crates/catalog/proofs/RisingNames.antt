-- Tables by rising name: the one that has a name, one more among them, some of them, and others in their place.
use Rattle.std.proofs.Common.{◌≡◌, refl, sym, ap, ◌∙◌, subst, ℕ, zero, suc, ◌<◌, Bool, true, false, not, cond, List, [], ◌∷◌, length, slice_index_or, Some, None, arith}
use Rattle.std.specs.Prelude.{option_map}
use Rattle.std.specs.List.{AllByRecursion, find, insert}
use Rattle.std.specs.Str.{bytes_eq}
use Rattle.std.specs.declared.alloc.Global.{Global}
use Rattle.std.specs.declared.cmp.Ordering.TheVariants.{Less}
use Rattle.std.specs.declared.rc.Rc.{Rc}
use Rattle.sqlval.specs.Names.{folded, is_same_name}
use Rattle.catalog.specs.ByName.{AreByName, IsGapOfName, Rise, compared_names, in_handles, table_name}
use Rattle.catalog.specs.Database.{Name, name_order}
use Rattle.catalog.specs.Listed.{is_shared, is_table, replaced_by, with_replaced, without_table}
use Rattle.catalog.specs.declared.tables.Table.{Table}
use Rattle.catalog.proofs.Rising.{gap_rest, less_differs, greater_differs, rise_insert, rise_left, same_folded, shared_insert}
use Rattle.catalog.proofs.Sharing.{handle_value, shared_found}

abbrev Handle : Type 0
Handle = Rc Table Global

-- ---- what is found

less_at : (h : Handle) (hs : List Handle) (i : ℕ) (d : Handle) → AllByRecursion (λ u. compared_names h.value.name u.name ≡ Less) (in_handles hs) → i < length hs
    → compared_names h.value.name (slice_index_or hs i d).value.name ≡ Less
less_at h [] i d all lt = absurd (omega (arith, lt))
less_at h (k ∷ hs) zero d all lt = all.0
less_at h (k ∷ hs) (suc i) d all lt = less_at h hs i d all.1 (omega (arith, lt))

other : (name : Name) (h k : Handle) → compared_names h.value.name k.value.name ≡ Less → is_same_name k.value.name name ≡ true → is_same_name h.value.name name ≡ false
other name h k less e =
    less_differs h.value.name name (subst (λ (m : List ℕ). name_order (folded h.value.name) m ≡ Less) (same_folded k.value.name name e) less)

-- the one at a place that has the name
pub found_is : (name : Name) (hs : List Handle) (i : ℕ) (d : Handle) → Rise (in_handles hs) → i < length hs → is_same_name (slice_index_or hs i d).value.name name ≡ true
    → find (is_shared name) hs ≡ Some (slice_index_or hs i d)
found_is name [] i d rise lt e = absurd (omega (arith, lt))
found_is name (h ∷ hs) zero d rise lt e = ap (λ b. cond b (Some h) (find (is_shared name) hs)) e
found_is name (h ∷ hs) (suc i) d rise lt e =
    ap (λ b. cond b (Some h) (find (is_shared name) hs)) (other name h (slice_index_or hs i d) (less_at h hs i d rise.0 (omega (arith, lt))) e)
    ∙ found_is name hs i d rise.1 (omega (arith, lt)) e

-- none, where the name has a gap
pub none_is : (name : Name) (hs : List Handle) (i : ℕ) → IsGapOfName table_name name hs i → find (is_shared name) hs ≡ None
none_is name [] i is = refl
none_is name (h ∷ hs) zero is =
    ap (λ b. cond b (Some h) (find (is_shared name) hs)) (greater_differs h.value.name name (is.1 0 h (omega arith) (omega arith)))
    ∙ none_is name hs zero (λ k d low lt. absurd (omega (arith, lt)), λ k d low lt. is.1 (suc k) d (omega arith) (omega (arith, lt)))
none_is name (h ∷ hs) (suc i) is =
    ap (λ b. cond b (Some h) (find (is_shared name) hs)) (less_differs h.value.name name (is.0 0 h (omega arith) (omega arith)))
    ∙ none_is name hs i (gap_rest table_name name h hs i is)

-- one name in other letters
same_find : (a b : Name) (ts : List Table) → folded a ≡ folded b → find (is_table a) ts ≡ find (is_table b) ts
same_find a b ts e = ap (λ (m : List ℕ). find (λ (t : Table). bytes_eq (folded t.name) m) ts) e

-- ---- one more

find_past : (p : Table → Bool) (x : Table) (xs : List Table) (i : ℕ) → p x ≡ false → find p (insert xs i x) ≡ find p xs
find_past p x [] zero e = ap (λ b. cond b (Some x) None) e
find_past p x [] (suc i) e = ap (λ b. cond b (Some x) None) e
find_past p x (y ∷ ys) zero e = ap (λ b. cond b (Some x) (find p (y ∷ ys))) e
find_past p x (y ∷ ys) (suc i) e = ap (λ r. cond (p y) (Some y) r) (find_past p x ys i e)

find_new : (p : Table → Bool) (x : Table) (xs : List Table) (i : ℕ) → p x ≡ true → find p xs ≡ None → find p (insert xs i x) ≡ Some x
find_new p x [] zero e none = ap (λ b. cond b (Some x) None) e
find_new p x [] (suc i) e none = ap (λ b. cond b (Some x) None) e
find_new p x (y ∷ ys) zero e none = ap (λ b. cond b (Some x) (find p (y ∷ ys))) e
find_new p x (y ∷ ys) (suc i) e none = by (p y) none (λ less. find_new p x ys i e less)
  where
    by : (b : Bool) → cond b (Some y) (find p ys) ≡ None → (find p ys ≡ None → find p (insert ys i x) ≡ Some x) → cond b (Some y) (find p (insert ys i x)) ≡ Some x
    by true n rest = absurd cc
    by false n rest = rest n

first_more : (tables ts : List Table) (t : Table) (i place : ℕ) → ((name : Name) → find (is_table name) ts ≡ find (is_table name) tables) → find (is_table t.name) ts ≡ None
    → (name : Name) → find (is_table name) (insert ts i t) ≡ find (is_table name) (insert tables place t)
first_more tables ts t i place first none name = by (is_same_name t.name name) refl
  where
    by : (b : Bool) → is_same_name t.name name ≡ b → find (is_table name) (insert ts i t) ≡ find (is_table name) (insert tables place t)
    by true e =
        let gone : find (is_table name) ts ≡ None = same_find name t.name ts (sym (same_folded t.name name e)) ∙ none in
        find_new (is_table name) t ts i e gone ∙ sym (find_new (is_table name) t tables place e (sym (first name) ∙ gone))
    by false e = find_past (is_table name) t ts i e ∙ (first name ∙ sym (find_past (is_table name) t tables place e))

pub more_by_name : (hs : List Handle) (i : ℕ) (h : Handle) → (Rise (in_handles hs) → IsGapOfName table_name h.value.name hs i) → (tables : List Table) (place : ℕ) → AreByName tables (in_handles hs)
    → AreByName (insert tables place h.value) (in_handles (insert hs i h))
more_by_name hs i h is tables place are =
    let none : find (is_table h.value.name) (in_handles hs) ≡ None = sym (shared_found (is_table h.value.name) hs) ∙ ap (option_map handle_value) (none_is h.value.name hs i (is are.rise)) in
    record {
      rise = rise_insert table_name hs i h (is are.rise) are.rise;
      first = λ name. ap (find (is_table name)) (shared_insert hs i h) ∙ first_more tables (in_handles hs) h.value i place are.first none name;
    }

-- ---- those of other names

none_left : (name : Name) (ts : List Table) → find (is_table name) (without_table name ts) ≡ None
none_left name [] = refl
none_left name (t ∷ ts) = by (is_same_name t.name name) refl (none_left name ts)
  where
    by : (b : Bool) → is_same_name t.name name ≡ b → find (is_table name) (without_table name ts) ≡ None
        → find (is_table name) (cond (not b) (t ∷ without_table name ts) (without_table name ts)) ≡ None
    by true e rest = rest
    by false e rest = ap (λ b. cond b (Some t) (find (is_table name) (without_table name ts))) e ∙ rest

others_left : (name n : Name) (ts : List Table) → is_same_name name n ≡ false → find (is_table n) (without_table name ts) ≡ find (is_table n) ts
others_left name n [] other = refl
others_left name n (t ∷ ts) other = by (is_same_name t.name name) refl (others_left name n ts other)
  where
    by : (b : Bool) → is_same_name t.name name ≡ b → find (is_table n) (without_table name ts) ≡ find (is_table n) ts
        → find (is_table n) (cond (not b) (t ∷ without_table name ts) (without_table name ts)) ≡ find (is_table n) (t ∷ ts)
    by true e rest =
        rest ∙ sym (ap (λ b. cond b (Some t) (find (is_table n) ts)) (ap (λ (m : List ℕ). bytes_eq m (folded n)) (same_folded t.name name e) ∙ other))
    by false e rest = ap (λ r. cond (is_table n t) (Some t) r) rest

pub less_by_name : (name : Name) (tables ts : List Table) → AreByName tables ts → AreByName (without_table name tables) (without_table name ts)
less_by_name name tables ts are = record {
  rise = rise_left table_name (λ (t : Table). not (is_table name t)) ts are.rise;
  first = λ n. by n (is_same_name name n) refl;
}
  where
    by : (n : Name) (b : Bool) → is_same_name name n ≡ b → find (is_table n) (without_table name ts) ≡ find (is_table n) (without_table name tables)
    by n true e =
        let none : (us : List Table) → find (is_table n) (without_table name us) ≡ None = λ us. same_find n name (without_table name us) (sym (same_folded name n e)) ∙ none_left name us in
        none ts ∙ sym (none tables)
    by n false e = others_left name n ts e ∙ (are.first n ∙ sym (others_left name n tables e))

-- ---- another in the place of one

replaced_folded : (new t : Table) → folded (replaced_by new t).name ≡ folded t.name
replaced_folded new t = by (is_same_name t.name new.name) refl
  where
    by : (b : Bool) → is_same_name t.name new.name ≡ b → folded (cond b new t).name ≡ folded t.name
    by true e = sym (same_folded t.name new.name e)
    by false e = refl

all_replaced : (new t : Table) (ts : List Table) → AllByRecursion (λ u. compared_names t.name u.name ≡ Less) ts
    → AllByRecursion (λ u. compared_names (replaced_by new t).name u.name ≡ Less) (with_replaced new ts)
all_replaced new t [] all = tt
all_replaced new t (u ∷ ts) all = ((λ i. name_order (replaced_folded new t i) (replaced_folded new u i)) ∙ all.0, all_replaced new t ts all.1)

rise_replaced : (new : Table) (ts : List Table) → Rise ts → Rise (with_replaced new ts)
rise_replaced new [] rise = tt
rise_replaced new (t ∷ ts) rise = (all_replaced new t ts rise.0, rise_replaced new ts rise.1)

find_replaced : (new : Table) (n : Name) (ts : List Table) → find (is_table n) (with_replaced new ts) ≡ option_map (replaced_by new) (find (is_table n) ts)
find_replaced new n [] = refl
find_replaced new n (t ∷ ts) =
    ap (λ (m : List ℕ). cond (bytes_eq m (folded n)) (Some (replaced_by new t)) (find (is_table n) (with_replaced new ts))) (replaced_folded new t)
    ∙ by (is_table n t) (find_replaced new n ts)
  where
    by : (b : Bool) → find (is_table n) (with_replaced new ts) ≡ option_map (replaced_by new) (find (is_table n) ts)
        → cond b (Some (replaced_by new t)) (find (is_table n) (with_replaced new ts)) ≡ option_map (replaced_by new) (cond b (Some t) (find (is_table n) ts))
    by true rest = refl
    by false rest = rest

pub replaced_by_name : (new : Table) (tables ts : List Table) → AreByName tables ts → AreByName (with_replaced new tables) (with_replaced new ts)
replaced_by_name new tables ts are = record {
  rise = rise_replaced new ts are.rise;
  first = λ n. find_replaced new n ts ∙ (ap (option_map (replaced_by new)) (are.first n) ∙ sym (find_replaced new n tables));
}
