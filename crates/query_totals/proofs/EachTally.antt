-- Each aggregate in its turn, with one more row.
use Rattle.std.proofs.Common.{◌≡◌, ℕ, zero, suc, ◌+◌, ◌<◌, refl, sym, ap, ◌∙◌, subst, List, [], ◌∷◌, ◌++◌, take, drop, set, get_or, length, take-append-drop, take-suc-set, drop-set-lt, drop-cons, Ok, Err, arith}
use Rattle.std.proofs.lemmas.List.{take_at}
use Rattle.sqlval.specs.Refusals.{Answer, ◌then◌}
use Rattle.sqlval.specs.declared.fault.Fault.{Fault}
use Rattle.query_terms.specs.Outcome.{IsRefusedBy}
use Rattle.query_terms.specs.Terms.{Term}
use Rattle.query_terms.specs.Values.{Environment}
use Rattle.query_terms.proofs.InOrder.{refuses_on, with_front}
use Rattle.query_totals.specs.Tallies.{tally_with}
use Rattle.query_totals.specs.Totals.{argument_in, tallies_with}
use Rattle.query_totals.specs.declared.tally.Tally.{Tally}

abbrev pub done : List Tally → Answer (List Tally)
done ks = Ok ks

module _ (env : Environment) where
  -- those before a place have the row, and those from it on are still to have it
  abbrev pub under_way : List Term → List Tally → ℕ → Answer (List Tally)
  under_way left ks i = with_front (take i ks) (tallies_with left env (drop i ks))

  next : (i : ℕ) → suc i ≡ i + 1
  next i = omega arith

  front_on : (front : List Tally) (n : Tally) (rest : Answer (List Tally)) → with_front front (rest then λ ns. Ok (n ∷ ns)) ≡ with_front (front ++ n ∷ []) rest
  front_on front n (Ok ns) = ap done (regrouped front)
    where
      regrouped : (ms : List Tally) → ms ++ n ∷ ns ≡ (ms ++ n ∷ []) ++ ns
      regrouped [] = refl
      regrouped (m ∷ ms) = ap (λ (ls : List Tally). m ∷ ls) (regrouped ms)
  front_on front n (Err r) = refl

  -- one more has the row
  pub one_on : (t : Term) (rest : List Term) (ks : List Tally) (i : ℕ) (k n : Tally) → i < length ks → get_or ks i k ≡ k → (argument_in t env then tally_with k) ≡ Ok n → under_way (t ∷ rest) ks i ≡ under_way rest (set ks i n) (i + 1)
  one_on t rest ks i k n lt same h =
      ap (λ (ls : List Tally). with_front (take i ks) (tallies_with (t ∷ rest) env ls)) (drop-cons ks i k lt ∙ ap (λ (m : Tally). m ∷ drop (suc i) ks) same)
      ∙ (ap (λ (a : Answer Tally). with_front (take i ks) (a then λ m. tallies_with rest env (drop (suc i) ks) then λ ms. done (m ∷ ms))) h
      ∙ (front_on (take i ks) n (tallies_with rest env (drop (suc i) ks))
      ∙ (ap (λ (ms : List Tally). with_front ms (tallies_with rest env (drop (suc i) ks))) (sym (take-suc-set ks i n lt))
      ∙ (ap (λ (ms : List Tally). with_front (take (suc i) (set ks i n)) (tallies_with rest env ms)) (sym (drop-set-lt (suc i) ks i n (omega arith)))
      ∙ ap (under_way rest (set ks i n)) (next i)))))

  -- one is refused, and so is all
  pub one_refused : (t : Term) (rest : List Term) (ks : List Tally) (i : ℕ) (k : Tally) (fault : Fault) → i < length ks → get_or ks i k ≡ k → IsRefusedBy (argument_in t env then tally_with k) fault → IsRefusedBy (under_way (t ∷ rest) ks i) fault
  one_refused t rest ks i k fault lt same h =
      subst (λ (ls : List Tally). IsRefusedBy (with_front (take i ks) (tallies_with (t ∷ rest) env ls)) fault) (sym (drop-cons ks i k lt ∙ ap (λ (m : Tally). m ∷ drop (suc i) ks) same))
      (refuses_on fault (tallies_with (t ∷ rest) env (k ∷ drop (suc i) ks)) (λ ms. done (take i ks ++ ms))
      (refuses_on fault (argument_in t env then tally_with k) (λ m. tallies_with rest env (drop (suc i) ks) then λ ms. done (m ∷ ms)) h))

  -- none is left
  pub all_on : (ks : List Tally) (i : ℕ) → under_way [] ks i ≡ Ok ks
  all_on ks i = ap done (take-append-drop i ks)

  last_on : (left : List Term) → tallies_with left env [] ≡ Ok []
  last_on [] = refl
  last_on (t ∷ ts) = refl

  pub past_all : (left : List Term) (ks : List Tally) (i : ℕ) → drop i ks ≡ [] → under_way left ks i ≡ Ok ks
  past_all left ks i e =
      ap (λ (ms : List Tally). with_front (take i ks) (tallies_with left env ms)) e
      ∙ (ap (with_front (take i ks)) (last_on left)
      ∙ (ap (λ (ms : List Tally). done (take i ks ++ ms)) (sym e) ∙ ap done (take-append-drop i ks)))

-- ---- what the vector has then

pub none_is : (ts : List Term) → length ts ≡ 0 → ts ≡ []
none_is [] h = refl
none_is (t ∷ ts) h = absurd (some_more (length ts) h)
  where
    some_more : (n : ℕ) → suc n ≡ 0 → ⊥
    some_more n e = omega (arith, e)

pub set_own : (ks : List Tally) (i : ℕ) (d : Tally) → set ks i (get_or ks i d) ≡ ks
set_own [] zero d = refl
set_own [] (suc i) d = refl
set_own (k ∷ ks) zero d = refl
set_own (k ∷ ks) (suc i) d = ap (λ (ls : List Tally). k ∷ ls) (set_own ks i d)

pub kept_all : (ks old : List Tally) (n : ℕ) → length ks ≡ n → ks ≡ take n (ks ++ drop (length ks) old)
kept_all ks old n e = sym (take_at ks (drop (length ks) old) n e)
