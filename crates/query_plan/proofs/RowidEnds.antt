-- The rowids that a range of them gives are asked for.
use Rattle.std.proofs.Common.{◌≡◌, sym, ap, subst, ℕ, ℤ, pos, negsuc, ◌^◌, ◌-◌, ◌+ℤ◌, ◌-ℤ◌, Bool, true, false, cond, Option, Some, None, inl, inr, arith}
use Rattle.std.specs.Option.{option_and_then}
use Rattle.std.specs.Prelude.{IfSome}
use Rattle.std.proofs.lemmas.Int.{ints}
use Rattle.std.proofs.lemmas.Option.{none-some}
use Rattle.sqlval.specs.Conversion.{is_word}
use Rattle.sqlval.specs.declared.value.Value.{Value}
use Rattle.sqlval.specs.declared.value.Value.TheVariants.{Int}
use Rattle.query_terms.specs.Terms.{Term}
use Rattle.query_names.specs.Calm.{is_calm}
use Rattle.query_plan.specs.Asking.{at_or_after, at_or_before, ends_in, first_rowid, from_to, last_rowid, rowid_of, rowids_in}
use Rattle.query_plan.specs.Ranges.{AsksAbove, AsksBelow, AsksFrom, AsksTo, IsBoundOf, SeeksRowids, high_comparison, low_comparison, of_rowid}
use Rattle.query_plan.specs.declared.ranges.Bound.{Bound}
use Rattle.query_plan.proofs.Most.{end_asked}

number_is : (x y : ℤ) → Some x ≡ Some y → x ≡ y
number_is x y e = ap (λ o. elim o [ None ↦ x | Some z ↦ z ]) e

word_is : (x y : ℤ) → rowid_of x ≡ Some y → x ≡ y
word_is x y e = by (is_word x) e where
  by : (test : Bool) → cond test (Some x) None ≡ Some y → x ≡ y
  by true e = number_is x y e
  by false e = absurd (none-some y e)

one_less : (n low : ℤ) → (n +ℤ pos 1) ≡ low → n ≡ (low -ℤ pos 1)
one_less n low e = grind (arith, ints)

one_more : (n high : ℤ) → (n -ℤ pos 1) ≡ high → n ≡ (high +ℤ pos 1)
one_more n high e = grind (arith, ints)

module _ (n : ℕ) (t : Term) where
  low_asks : (number : ℤ) (within : Bool) (low : ℤ) → AsksAbove n t within number → at_or_after within number ≡ Some low → AsksFrom n t low
  low_asks number true low asked e = inl (subst (AsksAbove n t true) (number_is number low e) asked)
  low_asks number false low asked e = inr (subst (AsksAbove n t false) (one_less number low (word_is (number +ℤ pos 1) low e)) asked)

  high_asks : (number : ℤ) (within : Bool) (high : ℤ) → AsksBelow n t within number → at_or_before within number ≡ Some high → AsksTo n t high
  high_asks number true high asked e = inl (subst (AsksBelow n t true) (number_is number high e) asked)
  high_asks number false high asked e = inr (subst (AsksBelow n t false) (one_more number high (word_is (number -ℤ pos 1) high e)) asked)

  first_asks : (end : Option Bound) → IfSome end (IsBoundOf (of_rowid n) low_comparison t) → (low : ℤ) → option_and_then first_rowid end ≡ Some low → AsksFrom n t low
  first_asks None asked low e = absurd (none-some low e)
  first_asks (Some end) asked low e = by end.value end.within asked e where
    by : (v : Value) (within : Bool) → IsBoundOf (of_rowid n) low_comparison t (record { value = v; within = within }) → first_rowid (record { value = v; within = within }) ≡ Some low → AsksFrom n t low
    by (Int number) within asked e = low_asks number within low asked e
    by _ within asked e = absurd (none-some low e)

  last_asks : (end : Option Bound) → IfSome end (IsBoundOf (of_rowid n) high_comparison t) → (high : ℤ) → option_and_then last_rowid end ≡ Some high → AsksTo n t high
  last_asks None asked high e = absurd (none-some high e)
  last_asks (Some end) asked high e = by end.value end.within asked e where
    by : (v : Value) (within : Bool) → IsBoundOf (of_rowid n) high_comparison t (record { value = v; within = within }) → last_rowid (record { value = v; within = within }) ≡ Some high → AsksTo n t high
    by (Int number) within asked e = high_asks number within high asked e
    by _ within asked e = absurd (none-some high e)

  -- from the one to the other
  pub rowids_asked : (low high : ℤ) → is_calm t ≡ true → rowids_in n t ≡ Some (low, high) → SeeksRowids n t low high
  rowids_asked low high calm e =
      by (option_and_then first_rowid (ends_in (of_rowid n) t).low) (option_and_then last_rowid (ends_in (of_rowid n) t).high)
      (first_asks (ends_in (of_rowid n) t).low (end_asked (of_rowid n) low_comparison t)) (last_asks (ends_in (of_rowid n) t).high (end_asked (of_rowid n) high_comparison t)) e
    where
      first_is : (a b : ℤ) → ◌≡◌ {A = Option (ℤ × ℤ)} (Some (a, b)) (Some (low, high)) → a ≡ low
      first_is a b e = ap (λ (o : Option (ℤ × ℤ)). elim o [ None ↦ a | Some p ↦ p.0 ]) e

      second_is : (a b : ℤ) → ◌≡◌ {A = Option (ℤ × ℤ)} (Some (a, b)) (Some (low, high)) → b ≡ high
      second_is a b e = ap (λ (o : Option (ℤ × ℤ)). elim o [ None ↦ b | Some p ↦ p.1 ]) e

      by : (x y : Option ℤ) → ((l : ℤ) → x ≡ Some l → AsksFrom n t l) → ((h : ℤ) → y ≡ Some h → AsksTo n t h) → from_to x y ≡ Some (low, high) → SeeksRowids n t low high
      by None None first last e = absurd (none-some (low, high) e)
      by (Some l) None first last e =
          (let asks = first low (ap Some (first_is l (pos (2 ^ 63 - 1)) e)) in
          record { calm = calm; from = inr asks; to = inl (sym (second_is l (pos (2 ^ 63 - 1)) e)); some = inl asks })
      by None (Some h) first last e =
          (let asks = last high (ap Some (second_is (negsuc (2 ^ 63 - 1)) h e)) in
          record { calm = calm; from = inl (sym (first_is (negsuc (2 ^ 63 - 1)) h e)); to = inr asks; some = inr asks })
      by (Some l) (Some h) first last e =
          (let asks = first low (ap Some (first_is l h e)) in
          record { calm = calm; from = inr asks; to = inr (last high (ap Some (second_is l h e))); some = inl asks })
