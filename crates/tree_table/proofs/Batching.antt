-- A batch is read leaf by leaf, until one has rows.
use Rattle.std.proofs.Common.{◌≡◌, refl, sym, ◌∙◌, ap, subst, ℕ, suc, ◌+◌, ◌-◌, ◌^◌, Bool, ℤ, pos, negsuc, List, [], ◌++◌, Option, Some, None, ◌⊎◌, inl, inr, Ok, Err, IsTrue, arith}
use Rattle.std.proofs.lemmas.Int.{ints}
use Rattle.std.specs.Prelude.{⊤, Result, MatchResult}
use Rattle.sqlval.specs.Faults.{IsOutside}
use Rattle.sqlval.specs.declared.fault.Fault.{Fault}
use Rattle.tree_leaf.specs.Leaf.{Entry}
use Rattle.pages.specs.Calls.{Limits, Stays}
use Rattle.pages.specs.Map.{PageMap, AreWhole}
use Rattle.tree_table.specs.Rows.{rows_from}
use Rattle.tree_table.specs.Scanning.{GivesLeaf, IsForward}
use Rattle.tree_table.specs.Tree.{IsTableTree}
use Rattle.tree_table.proofs.FoundRows.{since}

-- how many rowids may come yet
abbrev pub left_from : Option ℤ → ℕ
left_from None = 0
left_from (Some (pos n)) = suc (2 ^ 63 - n)
left_from (Some (negsuc n)) = suc (2 ^ 63 + suc n)

forward_on : (old mid new : Option ℤ) → IsForward old mid → IsForward mid new → IsForward old new
forward_on old mid None first more = tt
forward_on old None (Some z) first more = absurd more
forward_on None (Some y) (Some z) first more = absurd first
forward_on (Some x) (Some y) (Some z) first more = (let a = first.0 in let b = more.0 in (omega (arith, ints, a, b), more.1))

-- it is where it was, or farther on
abbrev pub IsOn : Option ℤ → Option ℤ → Type 0
IsOn old new = (new ≡ old) ⊎ IsForward old new

pub on_forward : (old mid new : Option ℤ) (z : ℤ) → IsOn old mid → mid ≡ Some z → IsForward (Some z) new → IsForward old new
on_forward old mid new z (inl same) is more = subst (λ (from : Option ℤ). IsForward from new) (sym is ∙ same) more
on_forward old mid new z (inr first) is more = forward_on old mid new first (subst (λ (from : Option ℤ). IsForward from new) (sym is) more)

module _ {P K : Type 0} (below : P → K) (tells : K → Bool) (limits : K → Limits) (map : P → PageMap) (count : P → ℕ) (failures : P → ℕ × ℕ) where
  -- No row was passed up to here.
  pub record HasPassed (old new : P) (root now_root : ℕ) (next now_next : Option ℤ) (batch : List Entry) : Type 0 where
    pub stays : Stays below map count failures {T = ⊤} (Ok tt) old new
    pub same_root : now_root ≡ root
    pub on : IsOn next now_next
    pub empty : batch ≡ []
    pub all : IsTrue (tells (below old)) → (rows : List Entry) (used : List ℕ) → AreWhole (limits (below old)).page (map old) → IsTableTree (map old) (limits (below old)).page root rows used
        → rows_from next rows ≡ rows_from now_next rows

  -- what the next leaf gives comes next from the first place on too
  pub given_since : (old mid : P) (root now_root : ℕ) (next now_next : Option ℤ) (before batch : List Entry) (z again : ℤ) (result : Result (Option ℤ) Fault) → HasPassed old mid root now_root next now_next before
      → now_next ≡ Some z → again ≡ z → (IsTrue (tells (below mid)) → GivesLeaf (map mid) (limits (below mid)).page now_root again batch result) → IsTrue (tells (below old))
      → (rows : List Entry) (used : List ℕ) → AreWhole (limits (below old)).page (map old) → IsTableTree (map old) (limits (below old)).page root rows used
      → MatchResult result (λ later. rows_from next rows ≡ batch ++ rows_from later rows) IsOutside
  given_since old mid root now_root next now_next before batch z again result has is plain gives told rows used whole tree =
      let given = since below tells limits map (λ (m : PageMap) (n : ℕ). GivesLeaf m n now_root again batch result) old mid has.stays.kept has.stays.same gives told in
      by_result result (subst (λ (r : ℕ). GivesLeaf (map old) (limits (below old)).page r z batch result) has.same_root
      (subst (λ (y : ℤ). GivesLeaf (map old) (limits (below old)).page now_root y batch result) plain given) rows used whole tree)
    where
      by_result : (answer : Result (Option ℤ) Fault) → MatchResult answer (λ later. rows_from (Some z) rows ≡ batch ++ rows_from later rows) IsOutside
          → MatchResult answer (λ later. rows_from next rows ≡ batch ++ rows_from later rows) IsOutside
      by_result (Ok later) so = has.all told rows used whole tree ∙ ap (λ (from : Option ℤ). rows_from from rows) is ∙ so
      by_result (Err fault) so = so

-- a place that isn't there is none
pub no_place : (place : Option ℤ) → ((z : ℤ) → place ≡ Some z → ⊥) → place ≡ None
no_place None not_some = refl
no_place (Some z) not_some = absurd (not_some z refl)
