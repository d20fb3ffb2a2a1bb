-- What is left of a chain to be written decides.
use Rattle.std.proofs.Common.{◌≡◌, ◌⊎◌, inl, inr, refl, ℕ, ◌-◌, ◌^◌, ◌<◌, ◌≤◌, List, [], ◌∷◌, ◌++◌, length, take, drop, sym, ap, subst, ◌∙◌, arith}
use Rattle.std.proofs.lemmas.List.{length-drop, length-set, length-take-le, take_all, drop_all}
use Rattle.std.specs.Int.{w32, to_be_bytes}
use Rattle.std.specs.Prelude.{⊤, Bool, IsTrue, Result, Ok, Err, MatchResult, IsErrAnd, max}
use Rattle.sqlval.specs.declared.fault.Fault.{Fault}
use Rattle.sqlval.specs.Faults.{IsOutside}
use Rattle.pages.specs.Calls.{Limits, Causes, IsOutsideOrFull}
use Rattle.pages.specs.Counting.{occurs}
use Rattle.pages.specs.Map.{PageMap, page_at, Has}
use Rattle.pages.proofs.Moving.{in_sequence, not_fresh}
use Rattle.freelist.specs.Calls.{AreFree, IsTaken, Takes}
use Rattle.freelist.proofs.Lists.{occurs_self}
use Rattle.tree_overflow.specs.Chains.{IsChain}
use Rattle.tree_overflow.specs.Writing.{IsPut, PutsLink, IsLaid, Lays, LaysAnew}
use Rattle.tree_overflow.proofs.Growing.{grew_then}
use Rattle.tree_overflow.proofs.Laying.{IsTakenFrom, taken_from, put_free, put_moves, put_keeps, as_put, keeps_then, beside, whole_body, large}
use Rattle.tree_overflow.proofs.ReadChains.{unrefused}

-- a page that is written stays among as many
put_long : (old new : PageMap) (page next : ℕ) (bytes : List ℕ) → IsPut old new page next bytes → length new ≡ length old
put_long old new page next bytes put = ap length put.2 ∙ length-set old (page - 1) (to_be_bytes w32 next ++ (bytes ++ put.0))

-- a page was taken, and another written
taken_grew : (old mid new : PageMap) (mid_free free : List ℕ) → length new ≡ length mid → (length mid ≡ length old) ⊎ ((free ≡ []) × (mid_free ≡ []))
    → (length new ≡ length old) ⊎ (mid_free ≡ [])
taken_grew old mid new mid_free free same (inl long) = inl (same ∙ long)
taken_grew old mid new mid_free free same (inr none) = inr none.1

-- the last page of a chain was written
last_laid : (old new : PageMap) (usable page : ℕ) (free left : List ℕ) → AreFree old usable free → 1 < page → page < 2 ^ 32 → Has old page → occurs page free ≡ 0 → 1 ≤ length left → length left ≤ usable - 4
    → IsPut old new page 0 left → IsLaid old new usable free left page
last_laid old new usable page free left are behind near has other some fits put =
    let moves = put_moves old new usable free (page ∷ []) page 0 left are behind has (let self = occurs_self page in omega (arith, self)) put in
    record {
      others = [];
      now_free = free;
      is = (
        record {
          has = (let last = has.last in let longer = moves.longer in record { first = omega (arith, behind); last = omega (arith, last, longer) });
          behind = behind;
          near = near;
          some = some;
          rest = put.0;
          parts = as_put old new page 0 left behind has put ∙ ap (λ (l : List ℕ). to_be_bytes w32 0 ++ (l ++ put.0)) (sym (take_all (usable - 4) left fits));
        },
        drop_all (usable - 4) left fits,
      );
      has = put_free old new usable free page 0 left are behind has other put;
      moves = moves;
      header = put_keeps old new page 0 left behind put;
      rule = inl (put_long old new page 0 left put);
    }

-- the next page was taken, this one was written, and the others were laid
next_laid : (old mid put_map new : PageMap) (usable page next : ℕ) (free left here rest : List ℕ) → AreFree old usable free → 1 < page → page < 2 ^ 32 → Has old page → occurs page free ≡ 0 → usable - 4 < length left
    → here ≡ take (usable - 4) left → rest ≡ drop (usable - 4) left → (t : IsTaken old mid usable free next) → IsTakenFrom mid usable t.now_free next → IsPut mid put_map page next here
    → IsLaid put_map new usable t.now_free rest next → IsLaid old new usable free left page
next_laid old mid put_map new usable page next free left here rest are behind near has other much here_is rest_is t from put laid =
    let free_now = t.now_free in
    let taken_counts = (t.moves).counts page in
    let taken_longer = (t.moves).longer in
    let last = has.last in
    let not_new = not_fresh (length old) (length mid) page last in
    let apart : occurs page (next ∷ []) ≡ 0 = omega (arith, taken_counts, not_new, other) in
    let still : occurs page free_now ≡ 0 = omega (arith, taken_counts, not_new, other) in
    let has_mid : Has mid page = record { first = has.first; last = omega (arith, last, taken_longer) } in
    let first_move = beside old mid [] free (next ∷ []) free_now page t.moves in
    let second_move = put_moves mid put_map usable free_now (page ∷ next ∷ []) page next here from.are behind has_mid (let self = occurs_self page in omega (arith, self)) put in
    let third_move = beside put_map new (next ∷ []) free_now (next ∷ laid.others) laid.now_free page laid.moves in
    let all_moves = in_sequence old mid new (page ∷ []) free (page ∷ next ∷ []) free_now (page ∷ next ∷ laid.others) laid.now_free first_move
    (in_sequence mid put_map new (page ∷ next ∷ []) free_now (page ∷ next ∷ []) free_now (page ∷ next ∷ laid.others) laid.now_free second_move third_move) in
    let put_longer = second_move.longer in
    let new_longer = all_moves.longer in
    let stays : page_at new page ≡ page_at put_map page
    = whole_body put_map new page behind ((laid.moves).keeps page (omega (arith, behind)) (omega (arith, last, taken_longer, put_longer)) (omega (arith, apart, still))) in
    record {
      others = next ∷ laid.others;
      now_free = laid.now_free;
      is = (
        record {
          has = record { first = has.first; last = omega (arith, last, new_longer) };
          behind = behind;
          near = near;
          some = omega (arith, much);
          rest = put.0;
          parts = stays ∙ as_put mid put_map page next here behind has_mid put ∙ ap (λ (l : List ℕ). to_be_bytes w32 next ++ (l ++ put.0)) here_is;
        },
        subst (λ (l : List ℕ). IsChain new usable l (next ∷ laid.others)) rest_is laid.is,
      );
      has = laid.has;
      moves = all_moves;
      header = keeps_then old mid new t.header (keeps_then mid put_map new (put_keeps mid put_map page next here behind put) laid.header);
      rule = grew_then old put_map new (next ∷ []) (next ∷ laid.others) free_now laid.now_free
          (taken_grew old mid put_map free_now free (put_long mid put_map page next here put) t.rule) (λ n. omega arith) laid.moves laid.rule;
    }

matched_full : {T : Type 0} (A B : Type 0) (result : Result T Fault) → (A → B) → MatchResult result (λ done. A) IsOutsideOrFull → MatchResult result (λ done. B) IsOutsideOrFull
matched_full A B (Ok done) so is = so is
matched_full A B (Err fault) so is = is

put_or : (A B : Type 0) (result : Result ⊤ Fault) → (A → B) → MatchResult result (λ done. A) IsOutside → MatchResult result (λ done. B) IsOutsideOrFull
put_or A B (Ok done) so is = so is
put_or A B (Err fault) so is = inl is

-- the room of an overflow page, where pages are as large as a header
pub room_is : (usable room : ℕ) → 100 ≤ usable → room ≡ max (usable - 4) 1 → room ≡ usable - 4
room_is usable room big is = omega (arith, big, is)

-- where the last page is written, the chain is laid
pub lays_last : (old new : PageMap) (usable page room : ℕ) (link left : List ℕ) (result : Result ⊤ Fault) → length link ≡ usable → room ≡ max (usable - 4) 1 → length left ≤ room
    → PutsLink old new usable link page 0 left result → Lays old new usable page left result
lays_last old new usable page room link left result long room_all fits puts free are behind near has other some =
    let big = large old usable free are in
    let little : length left ≤ usable - 4 = (let is = room_is usable room big room_all in omega (arith, fits, is)) in
    put_or (IsPut old new page 0 left) (IsLaid old new usable free left page) result (λ put. last_laid old new usable page free left are behind near has other some little put)
    (puts are.whole has long (omega (arith, little, big)))

-- where the next page is taken and this one is written, what is left decides
pub lays_next : (old mid put_map new : PageMap) (usable page next room : ℕ) (link left here rest : List ℕ) (result : Result ⊤ Fault) → length link ≡ usable → room ≡ max (usable - 4) 1 → room < length left
    → here ≡ take room left → rest ≡ drop room left → next < 2 ^ 32 → Takes old mid usable (Ok next) → PutsLink mid put_map usable link page next here (Ok tt)
    → Lays put_map new usable next rest result → Lays old new usable page left result
lays_next old mid put_map new usable page next room link left here rest result long room_all much here_is rest_is next_near takes puts lays free are behind near has other some =
    let big = large old usable free are in
    let is = room_is usable room big room_all in
    let t = takes free are in
    let from = taken_from old mid usable free next are t in
    let has_mid : Has mid page = (let last = has.last in let longer = (t.moves).longer in record { first = has.first; last = omega (arith, last, longer) }) in
    let here_all : here ≡ take (usable - 4) left = here_is ∙ ap (λ (n : ℕ). take n left) is in
    let rest_all : rest ≡ drop (usable - 4) left = rest_is ∙ ap (λ (n : ℕ). drop n left) is in
    let here_long : length here ≡ room = ap length here_is ∙ length-take-le room left (omega (arith, much)) in
    let rest_long : length rest ≡ length left - room = ap length rest_is ∙ length-drop room left in
    let put = puts (from.are).whole has_mid long (omega (arith, here_long, is, big)) in
    let taken_counts = (t.moves).counts page in
    let last = has.last in
    let not_new = not_fresh (length old) (length mid) page last in
    let still : occurs page t.now_free ≡ 0 = omega (arith, taken_counts, not_new, other) in
    let now_free = put_free mid put_map usable t.now_free page next here from.are behind has_mid still put in
    let moved = put_moves mid put_map usable t.now_free (page ∷ []) page next here from.are behind has_mid (let self = occurs_self page in omega (arith, self)) put in
    let are_now : AreFree put_map usable t.now_free = record { has = now_free; once = (from.are).once; behind = (from.are).behind; whole = moved.whole usable (from.are).whole } in
    let next_there : Has put_map next = (let there = from.there in let end = there.last in let longer = moved.longer in record { first = there.first; last = omega (arith, end, longer) }) in
    matched_full (IsLaid put_map new usable t.now_free rest next) (IsLaid old new usable free left page) result
    (λ laid. next_laid old mid put_map new usable page next free left here rest are behind near has other (omega (arith, much, is)) here_all rest_all t from put laid)
    (lays t.now_free are_now t.behind next_near next_there from.other (omega (arith, rest_long, much)))

-- the next page wasn't taken
pub lays_untaken : (old new any : PageMap) (usable page : ℕ) (left : List ℕ) (fault : Fault) (result : Result ⊤ Fault) → Takes old new usable (Err fault) → IsErrAnd result (λ e. e ≡ fault) → Lays old any usable page left result
lays_untaken old new any usable page left fault (Ok done) takes is free are behind near has other some = absurd is
lays_untaken old new any usable page left fault (Err e) takes is free are behind near has other some = subst IsOutsideOrFull (sym is) (takes free are)

-- the page wasn't written
pub lays_unput : (old mid put_map any : PageMap) (usable page next room : ℕ) (link left here : List ℕ) (fault : Fault) (result : Result ⊤ Fault) → length link ≡ usable → room ≡ max (usable - 4) 1 → room < length left
    → here ≡ take room left → Takes old mid usable (Ok next) → PutsLink mid put_map usable link page next here (Err fault) → IsErrAnd result (λ e. e ≡ fault) → Lays old any usable page left result
lays_unput old mid put_map any usable page next room link left here fault (Ok done) long room_all much here_is takes puts is free are behind near has other some = absurd is
lays_unput old mid put_map any usable page next room link left here fault (Err e) long room_all much here_is takes puts is free are behind near has other some =
    let big = large old usable free are in
    let room_now = room_is usable room big room_all in
    let t = takes free are in
    let from = taken_from old mid usable free next are t in
    let has_mid : Has mid page = (let last = has.last in let longer = (t.moves).longer in record { first = has.first; last = omega (arith, last, longer) }) in
    let here_long : length here ≡ room = ap length here_is ∙ length-take-le room left (omega (arith, much)) in
    inl (subst IsOutside (sym is) (puts (from.are).whole has_mid long (omega (arith, here_long, room_now, big))))

-- What of a chain was laid up to here: what is left decides.
pub record HasLaid {P K : Type 0} (below : P → K) (tells : K → Bool) (limits : K → Limits) (map : P → PageMap) (failures : P → ℕ × ℕ) (old now : P) (first page : ℕ) (bytes left link : List ℕ) : Type 0 where
  pub kept : below now ≡ below old
  pub long : length link ≡ (limits (below old)).page
  pub causes : Causes unrefused (failures old) (failures now) ⊥
  pub laid : IsTrue (tells (below old)) → (new : PageMap) (result : Result ⊤ Fault) → Lays (map now) new (limits (below old)).page page left result → Lays (map old) new (limits (below old)).page first bytes result

-- what taking a page does, it does from before the first call
pub takes_since : {P K : Type 0} (below : P → K) (tells : K → Bool) (limits : K → Limits) (old mid : P) (m new : PageMap) (result : Result ℕ Fault) → below mid ≡ below old
    → (IsTrue (tells (below mid)) → Takes m new (limits (below mid)).page result) → IsTrue (tells (below old)) → Takes m new (limits (below old)).page result
takes_since {P} {K} below tells limits old mid m new result kept takes told =
    subst (λ (k : K). Takes m new (limits k).page result) kept (takes (subst (λ (k : K). IsTrue (tells k)) (sym kept) told))

-- and so does writing one
pub puts_since : {P K : Type 0} (below : P → K) (tells : K → Bool) (limits : K → Limits) (old mid : P) (m new : PageMap) (page next : ℕ) (link bytes : List ℕ) (result : Result ⊤ Fault) → below mid ≡ below old
    → (IsTrue (tells (below mid)) → PutsLink m new (limits (below mid)).page link page next bytes result) → IsTrue (tells (below old)) → PutsLink m new (limits (below old)).page link page next bytes result
puts_since {P} {K} below tells limits old mid m new page next link bytes result kept puts told =
    subst (λ (k : K). PutsLink m new (limits k).page link page next bytes result) kept (puts (subst (λ (k : K). IsTrue (tells k)) (sym kept) told))

-- the first page was taken, and a chain was laid from it on
pub laid_anew : (old mid new : PageMap) (usable first : ℕ) (bytes : List ℕ) → first < 2 ^ 32 → Takes old mid usable (Ok first) → Lays mid new usable first bytes (Ok tt) → LaysAnew old new usable bytes (Ok first)
laid_anew old mid new usable first bytes near takes lays free are some =
    let t = takes free are in
    let from = taken_from old mid usable free first are t in
    let laid = lays t.now_free from.are t.behind near from.there from.other some in
    record {
      others = laid.others;
      now_free = laid.now_free;
      is = laid.is;
      has = laid.has;
      moves = in_sequence old mid new [] free (first ∷ []) t.now_free (first ∷ laid.others) laid.now_free t.moves laid.moves;
      header = keeps_then old mid new t.header laid.header;
      rule = grew_then old mid new (first ∷ []) (first ∷ laid.others) t.now_free laid.now_free (taken_grew old mid mid t.now_free free refl t.rule) (λ n. omega arith) laid.moves laid.rule;
    }

-- the first page was taken, and the chain wasn't laid
pub unlaid : (old mid new any : PageMap) (usable first : ℕ) (bytes : List ℕ) (fault : Fault) (result : Result ℕ Fault) → first < 2 ^ 32 → Takes old mid usable (Ok first) → Lays mid new usable first bytes (Err fault)
    → IsErrAnd result (λ e. e ≡ fault) → LaysAnew old any usable bytes result
unlaid old mid new any usable first bytes fault (Ok n) near takes lays is free are some = absurd is
unlaid old mid new any usable first bytes fault (Err e) near takes lays is free are some =
    let t = takes free are in
    let from = taken_from old mid usable free first are t in
    subst IsOutsideOrFull (sym is) (lays t.now_free from.are t.behind near from.there from.other some)

-- and so does laying the rest of a chain
pub lays_since : {P K : Type 0} (below : P → K) (tells : K → Bool) (limits : K → Limits) (old mid : P) (m new : PageMap) (page : ℕ) (bytes : List ℕ) (result : Result ⊤ Fault) → below mid ≡ below old
    → (IsTrue (tells (below mid)) → Lays m new (limits (below mid)).page page bytes result) → IsTrue (tells (below old)) → Lays m new (limits (below old)).page page bytes result
lays_since {P} {K} below tells limits old mid m new page bytes result kept lays told =
    subst (λ (k : K). Lays m new (limits k).page page bytes result) kept (lays (subst (λ (k : K). IsTrue (tells k)) (sym kept) told))
