-- Values as literals, one after another.
use Rattle.std.proofs.Common.{◌≡◌, refl, sym, ap, ◌∙◌, ◌<◌, ◌≤◌, ◌+◌, ℕ, zero, suc, List, [], ◌∷◌, ◌++◌, append_assoc, length, drop, slice_index_or, arith}
use Rattle.std.proofs.lemmas.List.{append-nil, drop_more}
use Rattle.sqlval.specs.declared.value.Value.{Value}
use Rattle.query_terms.specs.Terms.{Const, Term}
use Rattle.executor.specs.Rows.{literals}

pub one_more : (values : List Value) (at : ℕ) (value : Value) (term : Term) (sets now : List (ℕ × Term)) → at < length values → value ≡ slice_index_or values at value → term ≡ Const value
    → sets ++ literals at (drop at values) ≡ literals 0 values → now ≡ sets ++ (at, term) ∷ [] → now ++ literals (at + 1) (drop (at + 1) values) ≡ literals 0 values
one_more values at value term sets now lt is as_term so now_is =
    let next : suc at ≡ at + 1 = omega arith in
    ap (λ (ss : List (ℕ × Term)). ss ++ literals (at + 1) (drop (at + 1) values)) now_is
    ∙ (append_assoc sets ((at, term) ∷ []) (literals (at + 1) (drop (at + 1) values))
    ∙ (ap (λ (x : Term). sets ++ (at, x) ∷ literals (at + 1) (drop (at + 1) values)) (as_term ∙ ap Const is)
    ∙ (ap (λ (n : ℕ). sets ++ (at, Const (slice_index_or values at value)) ∷ literals n (drop (at + 1) values)) (sym next)
    ∙ (sym (ap (λ (vs : List Value). sets ++ literals at vs) (drop_more values at value lt)) ∙ so))))

pub all_made : (values : List Value) (at : ℕ) (sets : List (ℕ × Term)) → length values ≤ at → sets ++ literals at (drop at values) ≡ literals 0 values → sets ≡ literals 0 values
all_made values at sets le so = sym (append-nil sets) ∙ (ap (λ (vs : List Value). sets ++ literals at vs) (sym (none_from values at le)) ∙ so)
  where
    none_from : (vs : List Value) (n : ℕ) → length vs ≤ n → drop n vs ≡ []
    none_from [] zero le = refl
    none_from [] (suc n) le = refl
    none_from (v ∷ vs) zero le = absurd (omega (arith, le))
    none_from (v ∷ vs) (suc n) le = none_from vs n (omega (arith, le))
