-- What a condition asks the most of is one of the indexes, and it asks nothing of it only where it asks for no index's first column.
use Rattle.std.proofs.Common.{◌≡◌, refl, sym, ap, ◌∙◌, subst, ℕ, suc, ◌+◌, Bool, true, false, not, ◌&&◌, ◌||◌, ◌==◌, cond, List, [], ◌∷◌, length, nat_lt, Option, None, Some, inl, inr, ◌⊎◌, arith}
use mathlib.Core.Bool.{true≢false}
use Rattle.std.proofs.lemmas.Bool.{eqb-true}
use Rattle.std.proofs.lemmas.Bool.Decides.{nat_tests}
use Rattle.std.specs.Option.{option_or}
use Rattle.std.specs.Prelude.{IfNone, IfSome, option_map, slice_get}
use Rattle.sqlval.specs.declared.value.Value.{Value}
use Rattle.catalog.specs.declared.tables.Index.{Index}
use Rattle.catalog.specs.declared.tables.IndexColumn.{IndexColumn}
use Rattle.query_terms.specs.Terms.{Term}
use Rattle.query_terms.specs.declared.tree.Comparison.{Comparison}
use Rattle.query_names.specs.Calm.{is_calm}
use Rattle.query_plan.specs.Asking.{IsNotAsked, asks_less, asks_nothing, candidate_of, end_at, end_in, ends_in, key_in, more_asked, most_asked, range_in, search_by}
use Rattle.query_plan.specs.Keys.{AreAsked, of_column}
use Rattle.query_plan.specs.Ranges.{AreEnds, IsBoundOf, SeeksRange, has_ends, high_comparison, low_comparison}
use Rattle.query_plan.specs.Searching.{IsSought}
use Rattle.query_plan.specs.declared.keys.Wanted.{Wanted}
use Rattle.query_plan.specs.declared.ranges.Range.{Range}
use Rattle.query_plan.specs.declared.searching.Candidate.{Candidate}
use Rattle.query_plan.specs.declared.searching.Search.TheVariants.{Key, Range as InRange}
use Rattle.query_plan.proofs.Asked.{half_asks, parts_ask}
use Rattle.query_plan.proofs.Parts.{left}

-- ---- where nothing is asked

none_below : (n : ℕ) → nat_lt n 0 ≡ false
none_below n = grind (arith, nat_tests)

some_above : (n : ℕ) → nat_lt 0 (n + 1) ≡ true
some_above n = grind (arith, nat_tests)

none_longer : (n : ℕ) (key : List Value) → key ≡ [] → nat_lt n (length key) ≡ true → ⊥
none_longer n key none is = true≢false (sym is ∙ (ap (λ k. nat_lt n (length k)) none ∙ none_below n))

not_longer : (key : List Value) → nat_lt 0 (length key) ≡ false → key ≡ []
not_longer [] e = refl
not_longer (k ∷ key) e = absurd (true≢false (sym (some_above (length key)) ∙ (ap (nat_lt 0) one_more ∙ e))) where
  one_more : length key + 1 ≡ length (k ∷ key)
  one_more = omega arith

empty : (key : List Value) → length key ≡ 0 → key ≡ []
empty [] e = refl
empty (k ∷ key) e = absurd (omega (arith, e))

first_of : (x y : Bool) → x || y ≡ false → x ≡ false
first_of true y e = e
first_of false y e = refl

neither : (x y : Candidate) → (more_asked x y).key ≡ [] → (x.key ≡ []) × (y.key ≡ [])
neither x y e = by (asks_less x y) refl e where
  less : (longer : Bool) → nat_lt (length x.key) (length y.key) ≡ longer → longer || (length x.key == length y.key && (not (has_ends x.range) && has_ends y.range)) ≡ true → y.key ≡ [] → x.key ≡ []
  less true is h e = absurd (none_longer (length x.key) y.key e is)
  less false is h e = empty x.key (eqb-true (length x.key) (length y.key) (left (length x.key == length y.key) (not (has_ends x.range) && has_ends y.range) h) ∙ ap length e)

  by : (test : Bool) → asks_less x y ≡ test → (cond test y x).key ≡ [] → (x.key ≡ []) × (y.key ≡ [])
  by true is e = (less (nat_lt (length x.key) (length y.key)) refl is e, e)
  by false is e =
      (let not_less = first_of (nat_lt (length x.key) (length y.key)) (length x.key == length y.key && (not (has_ends x.range) && has_ends y.range)) is in
      (e, not_longer y.key (sym (ap (λ key. nat_lt (length key) (length y.key)) e) ∙ not_less)))

-- ---- where an end is found, it is asked for

pub end_asked : (w : Wanted) (by : Bool → Comparison) (t : Term) → IfSome (end_in w (by true) (by false) t) (IsBoundOf w by t)
end_asked w by t = of (key_in w (by true) t) (key_in w (by false) t) refl refl where
  of : (x y : Option Value) → key_in w (by true) t ≡ x → key_in w (by false) t ≡ y → IfSome (option_or (option_map (end_at true) x) (option_map (end_at false) y)) (IsBoundOf w by t)
  of (Some v) y is other = half_asks w (by true) v t is
  of None (Some v) is other = half_asks w (by false) v t other
  of None None is other = tt

pub ends_asked : (w : Wanted) (t : Term) → has_ends (ends_in w t) ≡ true → AreEnds w t (ends_in w t)
ends_asked w t some = record { low = end_asked w low_comparison t; high = end_asked w high_comparison t; some = some }

-- ---- of several indexes

module _ (n : ℕ) (t : Term) where
  none_asked : (place : ℕ) (found : Candidate) (indexes : List Index) → (most_asked n t place found indexes).key ≡ [] → (found.key ≡ []) × IsNotAsked n t indexes
  none_asked place found [] e = (e, tt)
  none_asked place found (index ∷ indexes) e =
      (let rest = none_asked (place + 1) (more_asked found (candidate_of n t place index.columns)) indexes e in
      let two = neither found (candidate_of n t place index.columns) rest.0 in
      (two.0, (two.1, rest.1)))

  -- what is asked of one of these indexes, whose places begin here
  abbrev IsOfIndex : ℕ → List Index → Candidate → Type 0
  IsOfIndex place indexes it = (j : ℕ) × (index : Index) × (slice_get indexes j ≡ Some index) × (it ≡ candidate_of n t (place + j) index.columns)

  most_is : (place : ℕ) (found : Candidate) (indexes : List Index) → (most_asked n t place found indexes ≡ found) ⊎ IsOfIndex place indexes (most_asked n t place found indexes)
  most_is place found [] = inl refl
  most_is place found (index ∷ indexes) = by (asks_less found here) refl (most_is (place + 1) (more_asked found here) indexes) where
    here : Candidate
    here = candidate_of n t place index.columns

    it : Candidate
    it = most_asked n t (place + 1) (more_asked found here) indexes

    by : (test : Bool) → asks_less found here ≡ test → (it ≡ more_asked found here) ⊎ IsOfIndex (place + 1) indexes it → (it ≡ found) ⊎ IsOfIndex place (index ∷ indexes) it
    by test is (inr (j, other, at, same)) = inr (suc j, other, at, same ∙ ap (λ k. candidate_of n t k other.columns) (omega arith))
    by true is (inl same) = inr (0, index, refl, same ∙ (ap (λ test. cond test here found) is ∙ ap (λ k. candidate_of n t k index.columns) (omega arith)))
    by false is (inl same) = inl (same ∙ ap (λ test. cond test here found) is)

module _ (n : ℕ) (t : Term) (indexes : List Index) (it : Candidate) (calm : is_calm t ≡ true) (is : it ≡ most_asked n t 0 asks_nothing indexes) where
  -- it is asked of the index at its place
  abbrev IsOfPlace : Index → Type 0
  IsOfPlace index = (slice_get indexes it.place ≡ Some index) × (it ≡ candidate_of n t it.place index.columns)

  of_place : (it ≡ asks_nothing → ⊥) → (index : Index) × IsOfPlace index
  of_place some = by (most_is n t 0 asks_nothing indexes) where
    by : (most_asked n t 0 asks_nothing indexes ≡ asks_nothing) ⊎ IsOfIndex n t 0 indexes (most_asked n t 0 asks_nothing indexes) → (index : Index) × IsOfPlace index
    by (inl none) = absurd (some (is ∙ none))
    by (inr (j, index, at, same)) =
        (let place = ap (λ (c : Candidate). c.place) (is ∙ same) in (
          index,
          (ap (slice_get indexes) (place ∙ omega arith) ∙ at, is ∙ (same ∙ ap (λ (k : ℕ). candidate_of n t k index.columns) (sym place))),
        ))

  key_asked : (index : Index) → it ≡ candidate_of n t it.place index.columns → AreAsked n index.columns it.key t
  key_asked index same = subst (λ (c : Candidate). AreAsked n index.columns c.key t) (sym same) (parts_ask n t index.columns)

  -- where there is a key, it is sought of its index
  sought_key : (it.key ≡ [] → ⊥) → IsSought indexes n t (Key it.place it.key)
  sought_key some =
      (let of = of_place (λ e. some (ap (λ (c : Candidate). c.key) e)) in (
        of.0,
        of.1.0,
        record { calm = calm; asked = key_asked of.0 of.1.1; some = some },
      ))

  range_sought : (index : Index) (range : Range) → it.range ≡ range → range ≡ range_in n (slice_get index.columns (length it.key)) t → has_ends range ≡ true → AreAsked n index.columns it.key t
      → SeeksRange n t index.columns it.key range
  range_sought index range same found some asked = by (slice_get index.columns (length it.key)) refl found where
    by : (next : Option IndexColumn) → slice_get index.columns (length it.key) ≡ next → range ≡ range_in n next t → SeeksRange n t index.columns it.key range
    by None at found = absurd (true≢false (sym some ∙ ap has_ends found))
    by (Some column) at found =
        record {
          calm = calm;
          asked = asked;
          column = column;
          next = at;
          ends = subst (AreEnds (of_column n column) t) (sym found) (ends_asked (of_column n column) t (sym (ap has_ends found) ∙ some));
        }

  -- where there is a range, it is
  sought_range : has_ends it.range ≡ true → IsSought indexes n t (InRange it.place it.key it.range)
  sought_range some =
      (let of = of_place (λ e. true≢false (sym some ∙ ap (λ (c : Candidate). has_ends c.range) e)) in (
        of.0,
        of.1.0,
        range_sought of.0 it.range refl
            (ap (λ (c : Candidate). c.range) of.1.1 ∙ ap (λ (key : List Value). range_in n (slice_get (of.0).columns (length key)) t) (sym (ap (λ (c : Candidate). c.key) of.1.1)))
            some (key_asked of.0 of.1.1),
      ))

  -- where there is neither, no index's first column is asked for
  no_key : length it.key ≡ 0 → IsNotAsked n t indexes
  no_key none = (none_asked n t 0 asks_nothing indexes (ap (λ (c : Candidate). c.key) (sym is) ∙ empty it.key none)).1

  -- ---- the search by it

  some_in : length it.key == 0 ≡ false → it.key ≡ [] → ⊥
  some_in e none = true≢false (sym (ap (λ (key : List Value). length key == 0) none) ∙ e)

  -- where there is one, it is sought
  pub found_by : IfSome (search_by it) (IsSought indexes n t)
  found_by = by (has_ends it.range) refl where
    keyed : (none : Bool) → length it.key == 0 ≡ none → IfSome (cond none None (Some (Key it.place it.key))) (IsSought indexes n t)
    keyed true e = tt
    keyed false e = sought_key (some_in e)

    by : (ranged : Bool) → has_ends it.range ≡ ranged → IfSome (cond ranged (Some (InRange it.place it.key it.range)) (cond (length it.key == 0) None (Some (Key it.place it.key)))) (IsSought indexes n t)
    by true e = sought_range e
    by false e = keyed (length it.key == 0) refl

  -- where there is none, no index's first column is asked for
  pub none_by : IfNone (search_by it) (IsNotAsked n t indexes)
  none_by = by (has_ends it.range) where
    keyed : (none : Bool) → length it.key == 0 ≡ none → IfNone (cond none None (Some (Key it.place it.key))) (IsNotAsked n t indexes)
    keyed true e = no_key (eqb-true (length it.key) 0 e)
    keyed false e = tt

    by : (ranged : Bool) → IfNone (cond ranged (Some (InRange it.place it.key it.range)) (cond (length it.key == 0) None (Some (Key it.place it.key)))) (IsNotAsked n t indexes)
    by true = tt
    by false = keyed (length it.key == 0) refl
