-- The table that an INSERT names, and its list of columns.
use Rattle.std.proofs.Common.{◌≡◌, refl, sym, ap, ◌∙◌, ◌⊎◌, inl, inr, ℕ, ◌+◌, ◌<◌, Bool, true, false, ◌||◌, cond, List, [], ◌∷◌, ◌++◌, length, take, map, get_or, Option, Some, None, arith}
use Rattle.std.specs.List.{find, list_any, position_from, range_with_len}
use Rattle.std.proofs.lemmas.List.{take_more, map-append}
use Rattle.std.proofs.lemmas.List.FromFn.{map-range_with_len_more}
use Rattle.std.specs.Prelude.{is_none}
use Rattle.sqlval.specs.Names.{is_same_name}
use Rattle.sqlval.specs.Refusals.{refusal_of, NoSuch}
use Rattle.sqlval.specs.declared.fault.Fault.{Fault}
use Rattle.sqlval.specs.declared.fault.Fault.TheVariants as fault
use Rattle.sql_syntax.specs.declared.change.Insert.{Insert}
use Rattle.catalog.specs.Listed.{place_named, table_named}
use Rattle.catalog.specs.declared.tables.Column.{Column}
use Rattle.catalog.specs.declared.tables.Table.{Table}
use Rattle.query_names.specs.Inserts.{IsListRefusal, IsTargetFault, has_unknown, places_in}

-- ---- the first item that passes

some_by : {A : Type 0} (x y : A) (o : Option A) (c b : Bool) → (o ≡ Some x → c ≡ true) → cond b (Some y) o ≡ Some x → (b || c) ≡ true
some_by x y o c true f h = refl
some_by x y o c false f h = f h

pub found_some : {A : Type 0} (p : A → Bool) (xs : List A) (x : A) → find p xs ≡ Some x → list_any p xs ≡ true
found_some p [] x h = absurd (some_none x h)
  where
    some_none : {A : Type 0} (x : A) → None ≡ Some x → ⊥
    some_none x h = absurd cc
found_some p (y ∷ ys) x h = some_by x y (find p ys) (list_any p ys) (p y) (found_some p ys x) h

none_by : {A : Type 0} (y : A) (o : Option A) (c b : Bool) → (o ≡ None → c ≡ false) → cond b (Some y) o ≡ None → (b || c) ≡ false
none_by y o c true f h = absurd cc
none_by y o c false f h = f h

pub found_none : {A : Type 0} (p : A → Bool) (xs : List A) → find p xs ≡ None → list_any p xs ≡ false
found_none p [] h = refl
found_none p (y ∷ ys) h = none_by y (find p ys) (list_any p ys) (p y) (found_none p ys) h

-- a name that no column has
pub unknown_found : (columns : List Column) (names : List (List ℕ)) (name : List ℕ) → Some name ≡ find (λ name. is_none (place_named name columns)) names → has_unknown columns names ≡ true
unknown_found columns names name h = found_some (λ name. is_none (place_named name columns)) names name (sym h)

-- there is none
pub unknown_not_found : (columns : List Column) (names : List (List ℕ)) → None ≡ find (λ name. is_none (place_named name columns)) names → has_unknown columns names ≡ false
unknown_not_found columns names h = found_none (λ name. is_none (place_named name columns)) names (sym h)

-- what is missing is refused so
pub no_such : (w : Fault) (A B : Type 0) → (w ≡ fault.Memory) ⊎ (refusal_of w ≡ NoSuch) → A → (w ≡ fault.Memory) ⊎ (refusal_of w ≡ NoSuch) × A ⊎ B
no_such w A B (inl h) a = inl h
no_such w A B (inr h) a = inr (inl (h, a))

-- ---- places

-- one more column's own place
pub own_next : (places longer : List (Option ℕ)) (n : ℕ) → longer ≡ places ++ Some n ∷ [] → places ≡ map Some (range_with_len 0 n) → longer ≡ map Some (range_with_len 0 (n + 1))
own_next places longer n more h = more ∙ (ap (λ ps. ps ++ Some n ∷ []) h ∙ sym (map-range_with_len_more Some 0 n n (omega arith)))

-- one more column's place in the list
pub listed_next : (names : List (List ℕ)) (columns : List Column) (i : ℕ) (c : Column) (place : Option ℕ) (places longer : List (Option ℕ)) → i < length columns → c ≡ get_or columns i c
    → longer ≡ places ++ place ∷ [] → place ≡ position_from (λ name. is_same_name name c.name) 0 names → places ≡ places_in (take i columns) (Some names) → longer ≡ places_in (take (i + 1) columns) (Some names)
listed_next names columns i c place places longer lt e more p h =
    more ∙ (ap (λ ps. ps ++ place ∷ []) h ∙ (ap (λ q. places_in (take i columns) (Some names) ++ q ∷ []) p
    ∙ (sym (map-append (λ column. position_from (λ name. is_same_name name column.name) 0 names) (take i columns) (c ∷ []))
    ∙ ap (λ cs. places_in cs (Some names)) (sym (take_more columns i c lt ∙ ap (λ z. take i columns ++ z ∷ []) (sym e))))))

-- ---- the insertion

-- a list that is refused
pub columns_refused : (tables : List Table) (i : Insert) (t : Table) → table_named i.table tables ≡ Some t → (f : Fault) → (f ≡ fault.Memory) ⊎ IsListRefusal t.columns i.columns (refusal_of f) → IsTargetFault tables i f
columns_refused tables i t named f (inl memory) = inl memory
columns_refused tables i t named f (inr why) = inr (inr (t, named, why))
