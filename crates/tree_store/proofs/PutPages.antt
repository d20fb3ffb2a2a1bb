-- A page was written that isn't free.
use Rattle.std.proofs.Common.{◌≡◌, inl, inr, ℕ, ◌+◌, ◌-◌, ◌≤◌, List, [], ◌∷◌, ◌++◌, length, take, drop, refl, sym, ap, subst, ◌∙◌, arith}
use Rattle.std.proofs.lemmas.Grind.{common_steps}
use Rattle.std.proofs.lemmas.Bool.{cases_eq}
use Rattle.std.proofs.lemmas.List.{get_or-set_other, get_or-set_same, length-set}
use Rattle.std.specs.Prelude.{⊤, Result, Ok, Err, OnOk, IfErr}
use Rattle.sqlval.specs.declared.fault.Fault.{Fault}
use Rattle.sqlval.specs.Faults.{IsOutside}
use Rattle.db_header.proofs.Fronts.{header_moves}
use Rattle.pages.specs.Counting.{occurs, fresh, start_of}
use Rattle.pages.specs.Map.{PageMap, page_at, with_page, AreWhole, Has, IsThere}
use Rattle.freelist.specs.Freelist.{Trunk, IsTrunk, AreTrunks, first_of, pages_of}
use Rattle.freelist.specs.Calls.{AreFree}
use Rattle.freelist.proofs.Lists.{occurs_here, occurs_both, all_has, occurs_self}
use Rattle.tree_store.specs.Storing.{CanStand, IsRewritten, Rewrites}

-- the other pages are as they were
pub others_stay : (old : PageMap) (number n : ℕ) (bytes : List ℕ) → 1 ≤ number → 1 ≤ n → (n ≡ number → ⊥) → page_at (with_page old number bytes) n ≡ page_at old n
others_stay old number n bytes there from other = get_or-set_other old (number - 1) (n - 1) bytes [] (λ same. absurd (other (omega (arith, same, there, from))))

pub put_there : (old : PageMap) (number : ℕ) (bytes : List ℕ) → Has old number → page_at (with_page old number bytes) number ≡ bytes
put_there old number bytes has = (let first = has.first in let last = has.last in get_or-set_same old (number - 1) bytes [] (omega (arith, first, last)))

trunk_stays : (old : PageMap) (size number : ℕ) (bytes : List ℕ) (t : Trunk) (next : ℕ) → 1 ≤ number → (t.page ≡ number → ⊥) → IsTrunk old size t next → IsTrunk (with_page old number bytes) size t next
trunk_stays old size number bytes t next there other trunk =
    let same = length-set old (number - 1) bytes in
    let first = (trunk.has).first in
    let last = (trunk.has).last in
    record {
      has = record { first = first; last = omega (arith, same, last) };
      near = trunk.near;
      rest = trunk.rest;
      parts = others_stay old number t.page bytes there first other ∙ trunk.parts;
      few = trunk.few;
      leaves = all_has old (with_page old number bytes) t.leaves same trunk.leaves;
      leaves_near = trunk.leaves_near;
    }

trunks_stay : (old : PageMap) (size number : ℕ) (bytes : List ℕ) (ts : List Trunk) → 1 ≤ number → occurs number (pages_of ts) ≡ 0 → AreTrunks old size ts → AreTrunks (with_page old number bytes) size ts
trunks_stay old size number bytes [] there none are = tt
trunks_stay old size number bytes (t ∷ ts) there none are = (
  trunk_stays old size number bytes t (first_of ts) there (λ same. occurs_here number t.page (t.leaves ++ pages_of ts) none same) are.0,
  trunks_stay old size number bytes ts there (let both = occurs_both number (t.page ∷ t.leaves) (pages_of ts) in omega (arith, both, none)) are.1,
)

start_one : (number : ℕ) → number ≡ 1 → start_of number ≡ 100
start_one number is = grind (arith, common_steps)

-- what stands before the tree's part of page 1 stays
fronts_stay : (old : PageMap) (size number : ℕ) (bytes : List ℕ) → Has old number → CanStand old size number bytes → take 100 (page_at old 1) ≡ take 100 (page_at (with_page old number bytes) 1)
fronts_stay old size number bytes has can = elim (cases_eq number 1) [
  | inl one ↦ (let written = put_there old number bytes has in
      let front : take 100 bytes ≡ take 100 (page_at old number) = subst (λ (k : ℕ). take k bytes ≡ take k (page_at old number)) (start_one number one) can.front in
      subst (λ (k : ℕ). take 100 (page_at old k) ≡ take 100 (page_at (with_page old number bytes) k)) one (sym (ap (take 100) written ∙ front)))
  | inr other ↦ ap (take 100) (sym (others_stay old number 1 bytes has.first (omega arith) (λ same. other (sym same))))
]

fresh_none : (a n : ℕ) → fresh a a n ≡ 0
fresh_none a n = grind (arith, common_steps)

pub fresh_same : (a b n : ℕ) → b ≡ a → fresh a b n ≡ 0
fresh_same a b n same = subst (λ (k : ℕ). fresh a k n ≡ 0) (sym same) (fresh_none a n)

not_it : (n number : ℕ) (free : List ℕ) → occurs n (number ∷ []) + occurs n free ≡ 0 → n ≡ number → ⊥
not_it n number free none same = (let gone : occurs number (number ∷ []) ≡ 0 = subst (λ (k : ℕ). occurs k (number ∷ []) ≡ 0) same (omega (arith, none)) in let self = occurs_self number in omega (arith, gone, self))

still_whole : (old : PageMap) (size number : ℕ) (bytes : List ℕ) → Has old number → length bytes ≡ size → AreWhole size old → (other : ℕ) → AreWhole other old → AreWhole other (with_page old number bytes)
still_whole old size number bytes has sized whole other all n there = elim (cases_eq n number) [
  | inl same ↦ subst (λ (k : ℕ). length (page_at (with_page old number bytes) k) ≡ other) (sym same) (ap length (put_there old number bytes has) ∙ sized ∙ sym (whole number has) ∙ all number has)
  | inr differs ↦ (let long = length-set old (number - 1) bytes in let last = there.last in
      ap length (others_stay old number n bytes has.first there.first differs) ∙ all n (record { first = there.first; last = omega (arith, long, last) }))
]

-- a page has these bytes now, and what is used and free is so still
pub is_put : (old : PageMap) (size : ℕ) (free : List ℕ) (number : ℕ) (bytes : List ℕ) → AreFree old size free → Has old number → occurs number free ≡ 0 → CanStand old size number bytes → IsRewritten old (with_page old number bytes) size free number bytes
is_put old size free number bytes are has none can =
    let had = are.has in
    let fronts = fronts_stay old size number bytes has can in
    let same = length-set old (number - 1) bytes in
    record {
      is = refl;
      has = record {
        header = had.header;
        header_is = header_moves (page_at old 1) (page_at (with_page old number bytes) 1) had.header fronts had.header_is;
        trunks = had.trunks;
        listed = (let listed = had.listed in record {
          first_is = listed.first_is;
          trunks_are = trunks_stay old size number bytes had.trunks has.first (had.free_is number ∙ none) listed.trunks_are;
          count_is = listed.count_is;
        });
        free_is = had.free_is;
      };
      moves = record {
        longer = omega (arith, same);
        counts = λ n. (let fresh_is = fresh_same (length old) (length (with_page old number bytes)) n same in omega (arith, fresh_is));
        keeps = λ n from to none_there. ap (drop (start_of n)) (others_stay old number n bytes has.first from (not_it n number free none_there));
        whole = still_whole old size number bytes has can.sized are.whole;
      };
      header = λ header said. (header.freelist_trunk, header.freelist_count, header_moves (page_at old 1) (page_at (with_page old number bytes) 1) header fronts said);
    }

pub put_or : (old new : PageMap) (size number : ℕ) (bytes : List ℕ) (result : Result ⊤ Fault) → OnOk result (new ≡ with_page old number bytes)
    → (IsThere old size number → length bytes ≡ size → IfErr result IsOutside) → Rewrites old new size number bytes result
put_or old new size number bytes (Ok done) is refusal free are has none can =
    subst (λ (m : PageMap). IsRewritten old m size free number bytes) (sym is) (is_put old size free number bytes are has none can)
put_or old new size number bytes (Err fault) is refusal free are has none can = refusal (record { has = has; whole = are.whole number has }) can.sized
