-- The places of a run are found one after another.
use Rattle.std.proofs.Common.{◌≡◌, ◌≤◌, ◌<◌, ◌+◌, ◌-◌, ℕ, suc, ℤ, List, [], ◌∷◌, ◌++◌, length, map, take, min, slice_index_or, Option, Some, None, refl, sym, ap, subst, ◌∙◌, arith}
use Rattle.std.proofs.lemmas.Bool.Decides.{nat_tests}
use Rattle.std.proofs.lemmas.List.{take_more, map-append, length-append}
use Rattle.std.specs.Global.{Vec}
use Rattle.tree_page.specs.Node.{Local}
use Rattle.tree_pack.specs.Parts.{total}
use Rattle.tree_table.specs.Runs.{IsFirst, IsRun, IsRunIn, room_for}
use Rattle.tree_table.specs.Stepping.{HasRowid}
use Rattle.tree_table.specs.declared.changing.RowChange.{RowChange}
use Rattle.tree_table.proofs.NewCells.{total_join}

-- the place after these
abbrev pub next : ℕ → List ℕ → ℕ
next from [] = from
next from (place ∷ places) = next (suc place) places

next_more : (from : ℕ) (places : List ℕ) (place : ℕ) → next from (places ++ place ∷ []) ≡ suc place
next_more from [] place = refl
next_more from (first ∷ places) place = next_more (suc first) places place

run_more : (said : List (ℤ × Local)) (from : ℕ) (changes : List RowChange) (places : List ℕ) (place : ℕ) (d : RowChange) → IsRun from said changes places → length places < length changes
    → HasRowid (slice_index_or changes (length places) d).rowid said place → next from places ≤ place → IsRun from said changes (places ++ place ∷ [])
run_more said from [] places place d run lt has le = absurd (omega (arith, lt))
run_more said from (change ∷ changes) [] place d run lt has le = (le, has, tt)
run_more said from (change ∷ changes) (first ∷ places) place d run lt has le =
    (run.0, run.1, run_more said (suc first) changes places place d run.2 (omega (arith, lt)) has le)

room_by : (size : ℕ) (rowid : ℤ) (payload : Option (Vec ℕ)) → room_for size (record { rowid = rowid; payload = payload }) ≤ size - 35 + 24
room_by size rowid None = omega arith
room_by size rowid (Some payload) = (let le : min (length payload.items) (size - 35) ≤ size - 35 = grind (arith, nat_tests) in omega (arith, le))

room_le : (size : ℕ) (change : RowChange) → room_for size change ≤ size - 35 + 24
room_le size change = room_by size change.rowid change.payload

-- What is so after some places of a run were found.
pub record RunSoFar (size : ℕ) (said : List (ℤ × Local)) (changes : List RowChange) (places : List ℕ) (last room : ℕ) : Type 0 where
  pub run : IsRun 0 said changes places
  pub behind : next 0 places ≡ suc last
  pub fits : 512 ≤ size → room + total (map (room_for size) (take (length places) changes)) ≤ size

pub run_one : (size : ℕ) (said : List (ℤ × Local)) (changes : List RowChange) (first : RowChange) (rest : List RowChange) (place room : ℕ) (rowid : ℤ) → changes ≡ first ∷ rest
    → IsFirst rowid changes → HasRowid rowid said place → room ≡ size - room_for size first → RunSoFar size said changes (place ∷ []) place room
run_one size said changes first rest place room rowid is its has left =
    subst (λ (cs : List RowChange). RunSoFar size said cs (place ∷ []) place room) (sym is) (record {
      run = (omega arith, subst (λ (z : ℤ). HasRowid z said place) (sym (subst (IsFirst rowid) is its)) has, tt);
      behind = refl;
      fits = λ big. (let le = room_le size first in omega (arith, big, le, left));
    })

sum_more : (size : ℕ) (changes : List RowChange) (n : ℕ) (d : RowChange) → n < length changes
    → total (map (room_for size) (take (n + 1) changes)) ≡ total (map (room_for size) (take n changes)) + room_for size (slice_index_or changes n d)
sum_more size changes n d lt =
    let one = ap (λ (cs : List RowChange). total (map (room_for size) cs)) (take_more changes n d lt) in
    let two = ap total (map-append (room_for size) (take n changes) (slice_index_or changes n d ∷ [])) in
    let three = total_join (map (room_for size) (take n changes)) (map (room_for size) (slice_index_or changes n d ∷ [])) in
    omega (arith, one, two, three)

pub run_step : (size : ℕ) (said : List (ℤ × Local)) (changes : List RowChange) (first : RowChange) (rest : List RowChange) (i : ℕ) (places : List ℕ) (last room place left : ℕ) (change : RowChange) → changes ≡ first ∷ rest
    → RunSoFar size said changes places last room → length places ≡ suc i → i < length rest → change ≡ slice_index_or rest i change → last < place → HasRowid change.rowid said place
    → room_for size change ≤ room → left ≡ room - room_for size change → RunSoFar size said changes (places ++ place ∷ []) place left
run_step size said changes first rest i places last room place left change is so count lt item after has fits now =
    let slot : slice_index_or changes (length places) change ≡ change = ap (λ (cs : List RowChange). slice_index_or cs (length places) change) is ∙ ap (λ (n : ℕ). slice_index_or (first ∷ rest) n change) count ∙ sym item in
    let within : length places < length changes = (let e = ap length is in omega (arith, e, count, lt)) in
    let behind = so.behind in
    record {
      run = run_more said 0 changes places place change so.run within (subst (λ (c : RowChange). HasRowid c.rowid said place) (sym slot) has) (omega (arith, behind, after));
      behind = next_more 0 places place;
      fits = λ big. (let sum = sum_more size changes (length places) change within in let e = ap (λ (c : RowChange). room_for size c) slot in
          let long = ap (λ (n : ℕ). total (map (room_for size) (take n changes))) (length-append places (place ∷ [])) in
          let was = so.fits big in omega (arith, sum, e, long, was, fits, now));
    }

pub run_found : (size : ℕ) (said : List (ℤ × Local)) (changes : List RowChange) (places : List ℕ) (last room : ℕ) → RunSoFar size said changes places last room → IsRunIn size said changes places
run_found size said changes places last room so = record { run = so.run; room = λ big. (let le = so.fits big in omega (arith, le)) }
