-- A payload that goes on over overflow pages.
use Rattle.std.proofs.Common.{◌≡◌, ℕ, ◌-◌, ◌^◌, ◌<◌, ◌≤◌, List, [], ◌∷◌, ◌++◌, length, take, drop, sym, ap, subst, ◌∙◌, arith}
use Rattle.std.proofs.lemmas.List.{append-nil, take-append-drop, length-drop, length-take-le, take_at, drop_at}
use Rattle.std.specs.Int.{w32, to_be_bytes}
use Rattle.std.specs.Prelude.{⊤, Result, MatchResult, min}
use Rattle.sqlval.specs.declared.fault.Fault.{Fault}
use Rattle.sqlval.specs.Faults.{IsOutside}
use Rattle.pages.specs.Map.{PageMap, AreWhole}
use Rattle.tree_page.specs.Payload.{local_size}
use Rattle.tree_overflow.specs.Chains.{IsChain, IsPayload, first_link, next_of}
use Rattle.tree_overflow.specs.Links.{ReadsChain}
use Rattle.tree_overflow.proofs.ReadChains.{chain_near, matched, joined}

-- Where a payload goes on after so many bytes: its bytes in the cell, and the chain of the others.
pub record GoesOn (map : PageMap) (usable local : ℕ) (held payload chain : List ℕ) : Type 0 where
  pub near : next_of chain < 2 ^ 32
  pub front : take local held ≡ take local payload
  pub back : drop local held ≡ to_be_bytes w32 (next_of chain) ++ []
  pub is : IsChain map usable (drop local payload) chain

linked : (map : PageMap) (usable : ℕ) (bytes chain : List ℕ) → IsChain map usable bytes chain → 1 ≤ length bytes → first_link chain ≡ to_be_bytes w32 (next_of chain) ++ []
linked map usable bytes [] is some = absurd (let none = ap length is in omega (arith, none, some))
linked map usable bytes (page ∷ pages) is some = sym (append-nil (to_be_bytes w32 page))

pub goes_on : (map : PageMap) (usable most size local : ℕ) (held payload chain : List ℕ) → IsPayload map usable most held payload chain → length payload ≡ size
    → local ≡ min (local_size usable most size) size → local < size → GoesOn map usable local held payload chain
goes_on map usable most size local held payload chain is long local_is less =
    let all : local_size usable most (length payload) ≡ local = ap (local_size usable most) long ∙ least_is (local_size usable most size) local_is in
    let parts : held ≡ take local payload ++ first_link chain = subst (λ (n : ℕ). held ≡ take n payload ++ first_link chain) all is.parts in
    let rest : IsChain map usable (drop local payload) chain = subst (λ (n : ℕ). IsChain map usable (drop n payload) chain) all is.chain in
    let here : length (take local payload) ≡ local = length-take-le local payload (omega (arith, long, less)) in
    let left = length-drop local payload in
    let some : 1 ≤ length (drop local payload) = omega (arith, left, long, less) in
    record {
      near = chain_near map usable (drop local payload) chain rest;
      front = ap (take local) parts ∙ take_at (take local payload) (first_link chain) local here;
      back = ap (drop local) parts ∙ drop_at (take local payload) (first_link chain) local here ∙ linked map usable (drop local payload) chain rest some;
      is = rest;
    } where
      least_is : (n : ℕ) → local ≡ min n size → n ≡ local
      least_is n is_least = omega (arith, is_least, less)

-- its bytes in the cell were read, and then those on its chain
pub read_on : (map : PageMap) (usable most size local first : ℕ) (held payload chain out mid after : List ℕ) (result : Result ⊤ Fault) → AreWhole usable map → length payload ≡ size → local < size
    → GoesOn map usable local held payload chain → next_of chain ≡ first → mid ≡ out ++ take local held → ReadsChain map usable first (size - local) mid after result → MatchResult result (λ done. after ≡ out ++ payload) IsOutside
read_on map usable most size local first held payload chain out mid after result whole long less on first_is mid_is reads =
    matched (after ≡ mid ++ drop local payload) (after ≡ out ++ payload) result
    (λ same. joined after out mid (take local payload) (drop local payload) payload (mid_is ∙ ap (λ (l : List ℕ). out ++ l) on.front) (take-append-drop local payload) same)
    (reads (drop local payload) chain whole on.is first_is (length-drop local payload ∙ ap (λ (n : ℕ). n - local) long))
