-- Pages are written one after the other, and given back one after the other: what is left decides.
use Rattle.std.proofs.Common.{◌≡◌, ℕ, ◌+◌, ◌-◌, ◌^◌, ◌<◌, List, [], ◌∷◌, ◌++◌, length, length-append, map, take, refl, sym, ap, subst, ◌∙◌, arith}
use Rattle.std.proofs.lemmas.Grind.{common_steps}
use Rattle.std.proofs.lemmas.List.{length-set, length-map}
use Rattle.std.specs.Prelude.{⊤, Bool, IsTrue, Result, Ok, Err, MatchResult, IsErrAnd}
use Rattle.sqlval.specs.declared.fault.Fault.{Fault}
use Rattle.sqlval.specs.Faults.{IsOutside}
use Rattle.pages.specs.Calls.{Limits, Causes}
use Rattle.pages.specs.Counting.{occurs, start_of}
use Rattle.pages.specs.Map.{PageMap, page_at, Has}
use Rattle.pages.proofs.Moving.{occurs_append}
use Rattle.freelist.specs.Calls.{Gives, IsGiven}
use Rattle.freelist.proofs.Lists.{occurs_self}
use Rattle.tree_store.specs.Storing.{IsOn, AreOlds, IsRewritten, CanStand, Rewrites}
use Rattle.tree_store.specs.Steps.{HasMoved, AreWritten, WritesAll, AreGiven, GivesAll}
use Rattle.tree_store.proofs.PutPages.{put_there}
use Rattle.tree_store.proofs.MovedPages.{free_now, olds_now, olds_part, moved_then, moved_beside, none_moved, on_still}

pub matched : (A B : Type 0) (result : Result ⊤ Fault) → (A → B) → MatchResult result (λ done. A) IsOutside → MatchResult result (λ done. B) IsOutside
matched A B (Ok done) so is = so is
matched A B (Err fault) so is = is

-- no call was refused yet
abbrev pub unrefused : Result ⊤ Fault
unrefused = Ok tt

-- ---- writing

start_behind : (n : ℕ) → 1 < n → start_of n ≡ 0
start_behind n behind = grind (arith, common_steps)

-- after page 1 any bytes can stand
can_stand : (map : PageMap) (size number : ℕ) (bytes : List ℕ) → 1 < number → length bytes ≡ size → CanStand map size number bytes
can_stand map size number bytes behind sized = record {
  sized = sized;
  front = subst (λ (k : ℕ). take k bytes ≡ take k (page_at map number)) (sym (start_behind number behind)) refl;
}

apart_from : (map : PageMap) (free rest : List ℕ) (number : ℕ) → AreOlds map free (number ∷ rest) → occurs number rest + occurs number free ≡ 0
apart_from map free rest number olds = (let most = (olds.once).once number in let both = occurs_append number (number ∷ rest) free in let self = occurs_self number in omega (arith, most, both, self))

pub written_is : (old new : PageMap) (size : ℕ) (free : List ℕ) (number : ℕ) (bytes : List ℕ) → IsRewritten old new size free number bytes → HasMoved old new size (number ∷ []) free (number ∷ []) free
written_is old new size free number bytes put = record { has = put.has; moves = put.moves; header = put.header }

put_on : (old new : PageMap) (size : ℕ) (free : List ℕ) (number : ℕ) (bytes : List ℕ) → number < 2 ^ 32 → 1 < number → Has old number → IsRewritten old new size free number bytes → IsOn new number bytes
put_on old new size free number bytes near behind has put =
    let longer = (put.moves).longer in
    let last = has.last in
    record {
      has = record { first = has.first; last = omega (arith, longer, last) };
      after = behind;
      near = near;
      is = ap (λ (m : PageMap). page_at m number) put.is ∙ put_there old number bytes has;
    }

pub put_same : (old new : PageMap) (size : ℕ) (free : List ℕ) (number : ℕ) (bytes : List ℕ) → IsRewritten old new size free number bytes → length new ≡ length old
put_same old new size free number bytes put = ap length put.is ∙ length-set old (number - 1) bytes

-- the last page was written
pub writes_last : (old new : PageMap) (size number : ℕ) (bytes : List ℕ) (result : Result ⊤ Fault) → number < 2 ^ 32 → Rewrites old new size number bytes result → WritesAll old new size (number ∷ []) (bytes ∷ []) result
writes_last old new size number bytes result near puts free are olds sized long =
    let has = (olds.there).0 in
    let behind = (olds.after).0 in
    let apart = apart_from old free [] number olds in
    matched (IsRewritten old new size free number bytes) (AreWritten old new size free (number ∷ []) (bytes ∷ [])) result
    (λ put. record { on = (put_on old new size free number bytes near behind has put, tt); moved = written_is old new size free number bytes put; same = put_same old new size free number bytes put })
    (puts free are has (omega (arith, apart)) (can_stand old size number bytes behind sized.0))

-- one page was written, and then the others
pub writes_next : (old mid new : PageMap) (size number : ℕ) (bytes : List ℕ) (numbers : List ℕ) (images : List (List ℕ)) (result : Result ⊤ Fault) → number < 2 ^ 32 → Rewrites old mid size number bytes (Ok tt)
    → WritesAll mid new size numbers images result → WritesAll old new size (number ∷ numbers) (bytes ∷ images) result
writes_next old mid new size number bytes numbers images result near puts rest free are olds sized long =
    let has = (olds.there).0 in
    let behind = (olds.after).0 in
    let apart = apart_from old free numbers number olds in
    let put = puts free are has (omega (arith, apart)) (can_stand old size number bytes behind sized.0) in
    let alone = written_is old mid size free number bytes put in
    let first = moved_beside old mid size (number ∷ []) free (number ∷ []) free numbers (number ∷ numbers) (number ∷ numbers) alone (λ n. omega arith) (λ n. omega arith) in
    let are_now = free_now old mid size (number ∷ numbers) free (number ∷ numbers) free are olds first in
    let olds_all = olds_now old mid size (number ∷ numbers) free (number ∷ numbers) free are olds first in
    let olds_left = olds_part mid free numbers (number ∷ numbers) (λ n. omega arith) olds_all in
    let same = put_same old mid size free number bytes put in
    let on = put_on old mid size free number bytes near behind has put in
    matched (AreWritten mid new size free numbers images) (AreWritten old new size free (number ∷ numbers) (bytes ∷ images)) result
    (λ done. record {
      on = (on_still mid new size numbers free numbers free number bytes done.moved apart on, done.on);
      moved = moved_then old mid new size (number ∷ numbers) free (number ∷ numbers) free (number ∷ numbers) free first
          (moved_beside mid new size numbers free numbers free (number ∷ []) (number ∷ numbers) (number ∷ numbers) done.moved (λ n. omega arith) (λ n. omega arith));
      same = done.same ∙ same;
    })
    (rest free are_now olds_left sized.1 (omega (arith, long)))

-- a page wasn't written
pub writes_unput : (old mid any : PageMap) (size number : ℕ) (bytes : List ℕ) (numbers : List ℕ) (images : List (List ℕ)) (fault : Fault) (result : Result ⊤ Fault) → Rewrites old mid size number bytes (Err fault) → IsErrAnd result (λ e. e ≡ fault)
    → WritesAll old any size (number ∷ numbers) (bytes ∷ images) result
writes_unput old mid any size number bytes numbers images fault (Ok done) puts is free are olds sized long = absurd is
writes_unput old mid any size number bytes numbers images fault (Err e) puts is free are olds sized long =
    let apart = apart_from old free numbers number olds in
    subst IsOutside (sym is) (puts free are (olds.there).0 (omega (arith, apart)) (can_stand old size number bytes (olds.after).0 sized.0))

-- ---- giving back

-- nothing was left to give back
pub gives_none : (map : PageMap) (size : ℕ) → GivesAll map map size [] (Ok tt)
gives_none map size free are olds = record { now_free = free; moved = none_moved map size free are.has; same = refl }

given_is : (old mid : PageMap) (size : ℕ) (free : List ℕ) (page : ℕ) → (t : IsGiven old mid size free page) → HasMoved old mid size (page ∷ []) free [] t.now_free
given_is old mid size free page t = record { has = t.has; moves = t.moves; header = t.header }

-- one page was given back, and then the others
pub gives_next : (old mid new : PageMap) (size page : ℕ) (spare : List ℕ) (result : Result ⊤ Fault) → Gives old mid size page (Ok tt) → GivesAll mid new size spare result → GivesAll old new size (page ∷ spare) result
gives_next old mid new size page spare result gives rest free are olds =
    let apart = apart_from old free spare page olds in
    let t = gives free are (olds.after).0 (olds.there).0 (omega (arith, apart)) in
    let first = moved_beside old mid size (page ∷ []) free [] t.now_free spare (page ∷ spare) spare (given_is old mid size free page t) (λ n. omega arith) (λ n. omega arith) in
    let are_now = free_now old mid size (page ∷ spare) free spare t.now_free are olds first in
    let olds_left = olds_now old mid size (page ∷ spare) free spare t.now_free are olds first in
    let same = t.same in
    matched (AreGiven mid new size t.now_free spare) (AreGiven old new size free (page ∷ spare)) result
    (λ given. record {
      now_free = given.now_free;
      moved = moved_then old mid new size (page ∷ spare) free spare t.now_free [] given.now_free first given.moved;
      same = given.same ∙ same;
    })
    (rest t.now_free are_now olds_left)

-- a page wasn't given back
pub gives_ungiven : (old mid any : PageMap) (size page : ℕ) (spare : List ℕ) (fault : Fault) (result : Result ⊤ Fault) → Gives old mid size page (Err fault) → IsErrAnd result (λ e. e ≡ fault) → GivesAll old any size (page ∷ spare) result
gives_ungiven old mid any size page spare fault (Ok done) gives is free are olds = absurd is
gives_ungiven old mid any size page spare fault (Err e) gives is free are olds =
    let apart = apart_from old free spare page olds in
    subst IsOutside (sym is) (gives free are (olds.after).0 (olds.there).0 (omega (arith, apart)))

-- What was given back up to here: what is left decides.
pub record HasGiven {P K : Type 0} (below : P → K) (tells : K → Bool) (limits : K → Limits) (map : P → PageMap) (failures : P → ℕ × ℕ) (old now : P) (spare left : List ℕ) : Type 0 where
  pub kept : below now ≡ below old
  pub causes : Causes unrefused (failures old) (failures now) ⊥
  pub given : IsTrue (tells (below old)) → (new : PageMap) (result : Result ⊤ Fault) → GivesAll (map now) new (limits (below old)).page left result → GivesAll (map old) new (limits (below old)).page spare result

-- What was written up to here: what is left decides.
pub record HasWritten {P K : Type 0} (below : P → K) (tells : K → Bool) (limits : K → Limits) (map : P → PageMap) (failures : P → ℕ × ℕ) (old now : P) (last : ℕ) (end : List ℕ) (numbers left : List ℕ) (images rest : List (List ℕ)) : Type 0 where
  pub kept : below now ≡ below old
  pub causes : Causes unrefused (failures old) (failures now) ⊥
  pub written : IsTrue (tells (below old)) → (new : PageMap) (result : Result ⊤ Fault) → WritesAll (map now) new (limits (below old)).page (left ++ last ∷ []) (rest ++ end ∷ []) result
      → WritesAll (map old) new (limits (below old)).page (numbers ++ last ∷ []) (images ++ end ∷ []) result

-- what giving a page back does, it does from before the first call
pub gives_since : {P K : Type 0} (below : P → K) (tells : K → Bool) (limits : K → Limits) (old mid : P) (m new : PageMap) (page : ℕ) (result : Result ⊤ Fault) → below mid ≡ below old
    → (IsTrue (tells (below mid)) → Gives m new (limits (below mid)).page page result) → IsTrue (tells (below old)) → Gives m new (limits (below old)).page page result
gives_since {P} {K} below tells limits old mid m new page result kept gives told =
    subst (λ (k : K). Gives m new (limits k).page page result) kept (gives (subst (λ (k : K). IsTrue (tells k)) (sym kept) told))

-- and so does writing one
pub puts_since : {P K : Type 0} (below : P → K) (tells : K → Bool) (limits : K → Limits) (old mid : P) (m new : PageMap) (number : ℕ) (bytes : List ℕ) (result : Result ⊤ Fault) → below mid ≡ below old
    → (IsTrue (tells (below mid)) → Rewrites m new (limits (below mid)).page number bytes result) → IsTrue (tells (below old)) → Rewrites m new (limits (below old)).page number bytes result
puts_since {P} {K} below tells limits old mid m new number bytes result kept puts told =
    subst (λ (k : K). Rewrites m new (limits k).page number bytes result) kept (puts (subst (λ (k : K). IsTrue (tells k)) (sym kept) told))

-- where there are fewer numbers than pages, nothing is claimed
pub writes_unequal : {A : Type 0} (f : A → List ℕ) (old any : PageMap) (size last : ℕ) (end : List ℕ) (left : List ℕ) (rest : List A) (result : Result ⊤ Fault) → length left < length rest
    → WritesAll old any size (left ++ last ∷ []) (map f rest ++ end ∷ []) result
writes_unequal f old any size last end left rest result less free are olds sized long =
    absurd (let a = length-append left (last ∷ []) in let b = length-append (map f rest) (end ∷ []) in let c = length-map rest f in omega (arith, a, b, c, long, less))

-- the pages before the last were written, and then the last
pub writes_end : {A : Type 0} (f : A → List ℕ) (old new : PageMap) (size last : ℕ) (end : List ℕ) (left : List ℕ) (rest : List A) (result : Result ⊤ Fault) → length rest ≡ 0 → last < 2 ^ 32 → Rewrites old new size last end result
    → WritesAll old new size (left ++ last ∷ []) (map f rest ++ end ∷ []) result
writes_end f old new size last end left (x ∷ xs) result none near puts free are olds sized long = absurd (omega (arith, none))
writes_end f old new size last end [] [] result none near puts free are olds sized long = writes_last old new size last end result near puts free are olds sized long
writes_end f old new size last end (y ∷ ys) [] result none near puts free are olds sized long = absurd (let a = length-append ys (last ∷ []) in omega (arith, a, long))
