-- Keys in terms: where there are none, nothing is marked.
use Rattle.std.proofs.Common.{◌≡◌, refl, ap, ◌∙◌, List, [], ◌∷◌}
use Rattle.std.specs.Prelude.{map}
use Rattle.query_terms.specs.Terms.{Term, Terms, Const, Digits, Cell, Key, Apply, Total, One, Two, Collate, In, Between, Raise, End, More, terms}
use Rattle.query_names.specs.Grouping.{keyed, keyed_all}

mutual
  pub unmarked : (t : Term) → keyed [] t ≡ t
  unmarked (Const v) = refl
  unmarked (Digits n) = refl
  unmarked (Cell s p a c) = refl
  unmarked (Key k e) = refl
  unmarked (Apply f es) = ap (Apply f) (all_unmarked es)
  unmarked (Total g e) = refl
  unmarked (One o e) = ap (One o) (unmarked e)
  unmarked (Two o a b) = ap (λ x. Two o x (keyed [] b)) (unmarked a) ∙ ap (Two o a) (unmarked b)
  unmarked (Collate c e) = ap (Collate c) (unmarked e)
  unmarked (In n a bs) = ap (λ x. In n x (keyed_all [] bs)) (unmarked a) ∙ ap (In n a) (all_unmarked bs)
  unmarked (Between n a b c) = ap (λ x. Between n x (keyed [] b) (keyed [] c)) (unmarked a) ∙ (ap (λ x. Between n a x (keyed [] c)) (unmarked b) ∙ ap (Between n a b) (unmarked c))
  unmarked (Raise k t) = refl

  all_unmarked : (es : Terms) → keyed_all [] es ≡ es
  all_unmarked End = refl
  all_unmarked (More e es) = ap (λ x. More x (keyed_all [] es)) (unmarked e) ∙ ap (More e) (all_unmarked es)

-- the terms of a list, one by one
pub all_keyed : (ks es : List Term) → terms (map (keyed ks) es) ≡ keyed_all ks (terms es)
all_keyed ks [] = refl
all_keyed ks (e ∷ es) = ap (More (keyed ks e)) (all_keyed ks es)
