-- A page has the bytes of another one, which is given back.
use Rattle.std.proofs.Common.{◌≡◌, ◌-◌, ℕ, List, [], ◌∷◌, length, take, sym, ap, ◌∙◌, arith}
use Rattle.std.proofs.lemmas.Grind.{common_steps}
use Rattle.std.proofs.lemmas.List.{get_or-set_same}
use Rattle.std.specs.Prelude.{⊤, Result, Ok, Err, MatchResult}
use Rattle.sqlval.specs.declared.fault.Fault.{Fault}
use Rattle.sqlval.specs.Faults.{IsOutside}
use Rattle.pages.specs.Counting.{occurs}
use Rattle.pages.specs.Map.{PageMap, page_at, Has, IsThere}
use Rattle.pages.proofs.Moving.{in_sequence, occurs_append}
use Rattle.freelist.specs.Calls.{AreFree, Gives, IsGiven}
use Rattle.tree_overflow.proofs.Laying.{beside, keeps_then, whole_body}
use Rattle.tree_store.specs.Storing.{CanStand, IsRewritten, Rewrites}
use Rattle.tree_index.specs.Lowering.{IsTakenOver, AreApart}
use Rattle.tree_index.proofs.Shares.{beside_used, start_after}

-- ---- the bytes

module _ (old : PageMap) (size number child : ℕ) (free : List ℕ) (are : AreFree old size free) (two : AreApart old free number child) where
  pub child_there : IsThere old size child
  child_there = record { has = two.second; whole = are.whole child two.second }

  can : (bytes : List ℕ) → bytes ≡ page_at old child → CanStand old size number bytes
  can bytes is = record {
    sized = ap length is ∙ are.whole child two.second;
    front = (let none = start_after number two.after_first in ap (λ (n : ℕ). take n bytes) none ∙ sym (ap (λ (n : ℕ). take n (page_at old number)) none));
  }

  here : occurs number free ≡ 0
  here = (let once = two.once number in let e = occurs_append number (number ∷ []) (child ∷ []) in let s = self number in omega (arith, once, e, s))
    where
      self : (n : ℕ) → occurs n (n ∷ []) ≡ 1
      self n = grind (arith, common_steps)

  there : occurs child free ≡ 0
  there = (let once = two.once child in let e = occurs_append child (number ∷ []) (child ∷ []) in let s = self child in omega (arith, once, e, s))
    where
      self : (n : ℕ) → occurs n (n ∷ []) ≡ 1
      self n = grind (arith, common_steps)

  other : occurs number (child ∷ []) ≡ 0
  other = (let once = two.once number in let e = occurs_append number (number ∷ []) (child ∷ []) in let s = self number in omega (arith, once, e, s))
    where
      self : (n : ℕ) → occurs n (n ∷ []) ≡ 1
      self n = grind (arith, common_steps)

  pub put_or : (mid : PageMap) (bytes : List ℕ) (result : Result ⊤ Fault) → bytes ≡ page_at old child → Rewrites old mid size number bytes result
      → MatchResult result (λ done. IsRewritten old mid size free number bytes) IsOutside
  put_or mid bytes result is rewrites = rewrites free are two.first here (can bytes is)

  module _ (mid : PageMap) (bytes : List ℕ) (is : bytes ≡ page_at old child) (r : IsRewritten old mid size free number bytes) where
    free_mid : AreFree mid size free
    free_mid = record { has = r.has; once = are.once; behind = are.behind; whole = (r.moves).whole size are.whole }

    has_child : Has mid child
    has_child = (let last = (two.second).last in let longer = (r.moves).longer in record { first = (two.second).first; last = omega (arith, last, longer) })

    has_number : Has mid number
    has_number = (let last = (two.first).last in let longer = (r.moves).longer in record { first = (two.first).first; last = omega (arith, last, longer) })

    put_is : page_at mid number ≡ page_at old child
    put_is = ap (λ (m : PageMap). page_at m number) r.is ∙ get_or-set_same old (number - 1) bytes [] (let a = (two.first).first in let b = (two.first).last in omega (arith, a, b)) ∙ is

    over : (new : PageMap) → IsGiven mid new size free child → IsTakenOver old new size free number child
    over new g = record {
      now_free = g.now_free;
      is = whole_body mid new number two.after_first ((g.moves).keeps number (has_number.first) (has_number.last) (let a = other in let b = here in omega (arith, a, b))) ∙ put_is;
      has = g.has;
      moves = in_sequence old mid new (number ∷ child ∷ []) free (number ∷ child ∷ []) free (number ∷ []) g.now_free
          (beside_used old mid (number ∷ []) free (number ∷ []) free (child ∷ []) (number ∷ child ∷ []) (number ∷ child ∷ []) r.moves
          (λ n. occurs_append n (number ∷ []) (child ∷ [])) (λ n. occurs_append n (number ∷ []) (child ∷ [])))
          (beside mid new (child ∷ []) free [] g.now_free number g.moves);
      header = keeps_then old mid new r.header g.header;
    }

    pub over_or : (new : PageMap) (result : Result ⊤ Fault) → Gives mid new size child result → MatchResult result (λ done. IsTakenOver old new size free number child) IsOutside
    over_or new result gives = by result (gives free free_mid two.after_second has_child there)
      where
        by : (result : Result ⊤ Fault) → MatchResult result (λ done. IsGiven mid new size free child) IsOutside → MatchResult result (λ done. IsTakenOver old new size free number child) IsOutside
        by (Ok done) g = over new g
        by (Err fault) outside = outside
