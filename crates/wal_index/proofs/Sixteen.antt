-- What the marks of all connections say.
use Rattle.std.proofs.Common.{◌≡◌, inl, inr, ◌<◌, ◌≤◌, ◌+◌, ◌-◌, ℕ, List, Option, Some, None, true, false, length, get_or, sym, ◌∙◌, ap, arith}
use Rattle.std.specs.Prelude.{MatchOption, IfSome, is_some}
use Rattle.std.proofs.lemmas.List.{get_or_past}
use Rattle.std.proofs.lemmas.Bool.{cases_lt}
use Rattle.wal_index.specs.declared.marks.Marks.{Marks}
use Rattle.wal_index.specs.Marks.{mark_of, IsLeast}

-- the least of the first marks
abbrev pub IsLeastOf : List (Option ℕ) → ℕ → Option ℕ → Type 0
IsLeastOf marks n least = MatchOption least ((k : ℕ) → k < n → get_or marks k None ≡ None)
    (λ mark. (place : ℕ) × (place < n) × (get_or marks place None ≡ Some mark) × ((k other : ℕ) → k < n → get_or marks k None ≡ Some other → mark ≤ other))

no_mark : (other : ℕ) (A : Type 0) (found : Option ℕ) → found ≡ None → found ≡ Some other → A
no_mark other A found none some = absurd (let bad : false ≡ true = sym (ap is_some none) ∙ ap is_some some in cc)

pub least_is : (marks : Marks) (n : ℕ) (least : Option ℕ) → length marks.marks ≤ n → IsLeastOf marks.marks n least → IfSome least (λ mark. IsLeast marks mark)
least_is marks n None few is = tt
least_is marks n (Some mark) few is = record {
  connection = is.0 + 1;
  known = omega arith;
  is = ap (λ (k : ℕ). get_or marks.marks k None) (let e : is.0 + 1 - 1 ≡ is.0 = omega arith in e) ∙ is.2;
  least = λ c other known found. elim (cases_lt (c - 1) n) [
    | inl lt ↦ is.3 (c - 1) other lt found
    | inr past ↦ no_mark other (mark ≤ other) (mark_of marks c) (get_or_past marks.marks (c - 1) None (omega (arith, past, few))) found
  ];
}
