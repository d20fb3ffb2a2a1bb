-- A chain of overflow pages is read, page by page.
use Rattle.std.proofs.Common.{◌≡◌, inl, inr, ℕ, ◌-◌, ◌^◌, ◌<◌, ◌≤◌, List, [], ◌∷◌, ◌++◌, length, take, drop, sym, ap, subst, ◌∙◌, arith}
use Rattle.std.proofs.lemmas.Bool.{cases_lt}
use Rattle.std.proofs.lemmas.List.{append_assoc, append-nil, nil_from_length, take-append-drop, length-drop}
use Rattle.std.specs.Prelude.{⊤, Bool, Result, Ok, Err, MatchResult, IsTrue, IsErrAnd, max}
use Rattle.sqlval.specs.declared.fault.Fault.{Fault}
use Rattle.sqlval.specs.Faults.{IsOutside}
use Rattle.pages.specs.Calls.{Limits, Stays}
use Rattle.pages.specs.Map.{PageMap}
use Rattle.freelist.proofs.Causing.{causes_after}
use Rattle.tree_overflow.specs.Chains.{IsLink, IsChain, next_of}
use Rattle.tree_overflow.specs.Links.{ReadsLink, ReadsChain}

-- the first page of a chain has a number of four bytes, and so has 0
pub chain_near : (map : PageMap) (usable : ℕ) (bytes chain : List ℕ) → IsChain map usable bytes chain → next_of chain < 2 ^ 32
chain_near map usable bytes [] is = omega arith
chain_near map usable bytes (page ∷ pages) is = (is.0).near

-- where overflow pages have no room, none goes on
no_chain : (map : PageMap) (usable : ℕ) (bytes chain : List ℕ) → usable - 4 ≡ 0 → IsChain map usable bytes chain → 1 ≤ length bytes → ⊥
no_chain map usable bytes [] none is some = (let long = ap length is in omega (arith, long, some))
no_chain map usable bytes (page ∷ pages) none is some =
    (let left = length-drop (usable - 4) bytes in no_chain map usable (drop (usable - 4) bytes) pages none is.1 (omega (arith, left, none, some)))

-- what is so where a call was done follows where something else was so
pub matched : (A B : Type 0) (result : Result ⊤ Fault) → (A → B) → MatchResult result (λ done. A) IsOutside → MatchResult result (λ done. B) IsOutside
matched A B (Ok done) so is = so is
matched A B (Err fault) so is = is

-- bytes that were put behind others in two parts
pub joined : (after out mid front rest whole : List ℕ) → mid ≡ out ++ front → front ++ rest ≡ whole → after ≡ mid ++ rest → after ≡ out ++ whole
joined after out mid front rest whole mid_is whole_is is = is ∙ ap (λ (l : List ℕ). l ++ rest) mid_is ∙ append_assoc out front rest ∙ ap (λ (l : List ℕ). out ++ l) whole_is

-- what is left of a chain after its first page was read decides
pub step : (map : PageMap) (usable page left room next : ℕ) (out mid : List ℕ) → 0 < left → room ≡ max (usable - 4) 1 → ReadsLink map usable page left out mid (Ok next)
    → (after : List ℕ) (result : Result ⊤ Fault) → ReadsChain map usable next (left - room) mid after result → ReadsChain map usable page left out after result
step map usable page left room next out mid some room_is link after result rest bytes [] whole is first long = absurd (let none = ap length is in omega (arith, none, long, some))
step map usable page left room next out mid some room_is link after result rest bytes (p ∷ ps) whole is first long =
    let here : IsLink map usable page bytes (next_of ps) = subst (λ (n : ℕ). IsLink map usable n bytes (next_of ps)) first is.0 in
    let got = link bytes (next_of ps) whole (chain_near map usable (drop (usable - 4) bytes) ps is.1) here long in
    let large : 1 ≤ usable - 4 = elim (cases_lt 0 (usable - 4)) [
      | inl lt ↦ omega (arith, lt)
      | inr ge ↦ absurd (no_chain map usable bytes (p ∷ ps) (omega (arith, ge)) is (omega (arith, long, some)))
    ] in
    let room_all : room ≡ usable - 4 = omega (arith, room_is, large) in
    let rest_long : length (drop (usable - 4) bytes) ≡ left - room = length-drop (usable - 4) bytes ∙ omega (arith, long, room_all) in
    let ended = rest (drop (usable - 4) bytes) ps whole is.1 (sym got.0) rest_long in
    matched (after ≡ mid ++ drop (usable - 4) bytes) (after ≡ out ++ bytes) result
    (λ same. joined after out mid (take (usable - 4) bytes) (drop (usable - 4) bytes) bytes got.1 (take-append-drop (usable - 4) bytes) same) ended

-- at a chain's end nothing is left to read
pub ended : (map : PageMap) (usable page left : ℕ) (out : List ℕ) → left ≡ 0 → ReadsChain map usable page left out out (Ok tt)
ended map usable page left out none bytes chain whole is first long = sym (ap (λ (l : List ℕ). out ++ l) (nil_from_length bytes (long ∙ none)) ∙ append-nil out)

-- a page of a chain wasn't read
pub stopped : (map : PageMap) (usable page left : ℕ) (out mid : List ℕ) (fault : Fault) → 0 < left → ReadsLink map usable page left out mid (Err fault)
    → (after : List ℕ) (result : Result ⊤ Fault) → IsErrAnd result (λ e. e ≡ fault) → ReadsChain map usable page left out after result
stopped map usable page left out mid fault some link after result is bytes [] whole chain first long = absurd (let none = ap length chain in omega (arith, none, long, some))
stopped map usable page left out mid fault some link after (Ok done) is bytes (p ∷ ps) whole chain first long = absurd is
stopped map usable page left out mid fault some link after (Err e) is bytes (p ∷ ps) whole chain first long =
    let here : IsLink map usable page bytes (next_of ps) = subst (λ (n : ℕ). IsLink map usable n bytes (next_of ps)) first chain.0 in
    subst IsOutside (sym is) (link bytes (next_of ps) whole (chain_near map usable (drop (usable - 4) bytes) ps chain.1) here long)

-- no call was refused yet
abbrev pub unrefused : Result ⊤ Fault
unrefused = Ok tt

-- two calls that read, one after the other, leave what one leaves
pub stays_after : {P K S T : Type 0} (below : P → K) (map : P → PageMap) (count : P → ℕ) (failures : P → ℕ × ℕ) (before : Result S Fault) (result : Result T Fault) (a b c : P)
    → Stays below map count failures before a b → Stays below map count failures result b c → Stays below map count failures result a c
stays_after below map count failures before result a b c first then = record {
  kept = then.kept ∙ first.kept;
  same = then.same ∙ first.same;
  counted = then.counted ∙ first.counted;
  causes = causes_after before result (failures a) (failures b) (failures c) ⊥ ⊥ first.causes then.causes;
}

-- what a call left stays where it was done
pub stays_done : {P K S : Type 0} (below : P → K) (map : P → PageMap) (count : P → ℕ) (failures : P → ℕ × ℕ) (result : Result S Fault) (a b : P)
    → Stays below map count failures result a b → Stays below map count failures unrefused a b
stays_done below map count failures result a b stays = record { kept = stays.kept; same = stays.same; counted = stays.counted; causes = record { db = stays.causes.db; log = stays.causes.log; why = tt } }

-- and where its refusal is passed on
pub stays_refused : {P K S : Type 0} (below : P → K) (map : P → PageMap) (count : P → ℕ) (failures : P → ℕ × ℕ) (fault : Fault) (result : Result ⊤ Fault) (a b : P)
    → Stays below map count failures {T = S} (Err fault) a b → IsErrAnd result (λ e. e ≡ fault) → Stays below map count failures result a b
stays_refused below map count failures fault (Ok done) a b stays is = absurd is
stays_refused below map count failures fault (Err e) a b stays is = record {
  kept = stays.kept;
  same = stays.same;
  counted = stays.counted;
  causes = record { db = stays.causes.db; log = stays.causes.log; why = record { io = λ io. stays.causes.why.io (sym is ∙ io); full = λ full. stays.causes.why.full (sym is ∙ full) } };
}

-- What of a chain was read up to here: what is left to read decides.
pub record HasRead {P K : Type 0} (below : P → K) (tells : K → Bool) (limits : K → Limits) (map : P → PageMap) (count : P → ℕ) (failures : P → ℕ × ℕ) (old new : P) (first size page left : ℕ) (before out : List ℕ) : Type 0 where
  pub stays : Stays below map count failures unrefused old new
  pub read : IsTrue (tells (below old)) → (after : List ℕ) (result : Result ⊤ Fault) → ReadsChain (map old) (limits (below old)).page page left out after result
      → ReadsChain (map old) (limits (below old)).page first size before after result

-- what a call on one of its pages does, it does from before the first call
pub link_since : {P K : Type 0} (below : P → K) (tells : K → Bool) (limits : K → Limits) (map : P → PageMap) (old mid : P) (page left : ℕ) (out after : List ℕ) (result : Result ℕ Fault) → below mid ≡ below old → map mid ≡ map old
    → (IsTrue (tells (below mid)) → ReadsLink (map mid) (limits (below mid)).page page left out after result) → IsTrue (tells (below old)) → ReadsLink (map old) (limits (below old)).page page left out after result
link_since {P} {K} below tells limits map old mid page left out after result kept same link told =
    subst (λ (k : K). ReadsLink (map old) (limits k).page page left out after result) kept
    (subst (λ (m : PageMap). ReadsLink m (limits (below mid)).page page left out after result) same (link (subst (λ (k : K). IsTrue (tells k)) (sym kept) told)))
