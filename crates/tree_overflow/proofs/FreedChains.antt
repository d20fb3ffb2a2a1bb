-- A chain of overflow pages is given back, page by page.
use Rattle.std.proofs.Common.{◌≡◌, ℕ, ◌+◌, ◌-◌, ◌<◌, ◌≤◌, List, [], ◌∷◌, ◌++◌, length, drop, refl, sym, ap, subst, ◌∙◌, arith}
use Rattle.std.proofs.lemmas.Grind.{common_steps}
use Rattle.std.proofs.lemmas.List.{length-drop}
use Rattle.std.specs.Prelude.{⊤, Bool, IsTrue, Result, Ok, Err, MatchResult, IsErrAnd, max}
use Rattle.sqlval.specs.declared.fault.Fault.{Fault}
use Rattle.sqlval.specs.Faults.{IsOutside}
use Rattle.pages.specs.Calls.{Limits, Causes}
use Rattle.pages.specs.Counting.{occurs, fresh, IsOnce, Moves}
use Rattle.pages.specs.Map.{PageMap, page_at, AreWhole}
use Rattle.pages.proofs.Moving.{in_sequence, occurs_append}
use Rattle.freelist.specs.Calls.{AreFree, IsGiven, Gives}
use Rattle.freelist.proofs.Lists.{occurs_self}
use Rattle.tree_overflow.specs.Calls.{IsFreed}
use Rattle.tree_overflow.specs.Chains.{IsLink, IsChain, next_of}
use Rattle.tree_overflow.specs.Freeing.{FindsNext, FreesChain}
use Rattle.tree_overflow.proofs.Laying.{keeps_then, same_keeps, whole_body, large}
use Rattle.tree_overflow.proofs.LayingChains.{room_is}
use Rattle.tree_overflow.proofs.ReadChains.{chain_near, matched, unrefused}

fresh_none : (a n : ℕ) → fresh a a n ≡ 0
fresh_none a n = grind (arith, common_steps)

fresh_same : (a b n : ℕ) → b ≡ a → fresh a b n ≡ 0
fresh_same a b n same = subst (λ (k : ℕ). fresh a k n ≡ 0) (sym same) (fresh_none a n)

not_one : (page : ℕ) → 1 < page → occurs 1 (page ∷ []) ≡ 0
not_one page behind = grind (arith, common_steps)

-- pages that moved move beside others that are used before and after
beside_all : (old new : PageMap) (used free now_used now_free others : List ℕ) → Moves old new used free now_used now_free → Moves old new (used ++ others) free (now_used ++ others) now_free
beside_all old new used free now_used now_free others moves = record {
  longer = moves.longer;
  counts = λ n. (let at = moves.counts n in let before = occurs_append n used others in let after = occurs_append n now_used others in omega (arith, at, before, after));
  keeps = λ n from to none. (let before = occurs_append n used others in moves.keeps n from to (omega (arith, none, before)));
  whole = moves.whole;
}

-- no page moved
none_moved : (map : PageMap) (free : List ℕ) → Moves map map [] free [] free
none_moved map free = record {
  longer = omega arith;
  counts = λ n. (let none = fresh_none (length map) n in omega (arith, none));
  keeps = λ n from to none. refl;
  whole = λ size whole. whole;
}

-- pages that were neither used nor free go on as a chain
chain_stays : (old new : PageMap) (usable : ℕ) (used free now_used now_free bytes chain : List ℕ) → Moves old new used free now_used now_free → ((n : ℕ) → 1 ≤ occurs n chain → occurs n used + occurs n free ≡ 0)
    → IsChain old usable bytes chain → IsChain new usable bytes chain
chain_stays old new usable used free now_used now_free bytes [] moves apart is = is
chain_stays old new usable used free now_used now_free bytes (page ∷ pages) moves apart is =
    let link = is.0 in
    let last = (link.has).last in
    let longer = moves.longer in
    let self : 1 ≤ occurs page (page ∷ pages) = (let one = occurs_self page in omega (arith, one)) in
    let behind = link.behind in
    let same : page_at new page ≡ page_at old page = whole_body old new page behind (moves.keeps page (omega (arith, behind)) last (apart page self)) in (
      record {
        has = record { first = (link.has).first; last = omega (arith, last, longer) };
        behind = behind;
        near = link.near;
        some = link.some;
        rest = link.rest;
        parts = same ∙ link.parts;
      },
      chain_stays old new usable used free now_used now_free (drop (usable - 4) bytes) pages moves (λ n some. apart n (omega (arith, some))) is.1,
    )

-- at a chain's end no page is left
pub freed_none : (map : PageMap) (usable page left : ℕ) → left ≡ 0 → FreesChain map map usable page left (Ok tt)
freed_none map usable page left none bytes [] free are once is first long = record { now_free = free; has = are.has; moves = none_moved map free; header = same_keeps map map refl; same = refl }
freed_none map usable page left none bytes (p ∷ ps) free are once is first long = absurd (let some = (is.0).some in omega (arith, some, long, none))

-- one page of a chain was given back, and then the others
given_then : (old mid new : PageMap) (usable page : ℕ) (free pages : List ℕ) → (t : IsGiven old mid usable free page) → IsFreed mid new usable pages t.now_free → IsFreed old new usable (page ∷ pages) free
given_then old mid new usable page free pages t rest = record {
  now_free = rest.now_free;
  has = rest.has;
  moves = in_sequence old mid new (page ∷ pages) free pages t.now_free [] rest.now_free (beside_all old mid (page ∷ []) free [] t.now_free pages t.moves) rest.moves;
  header = keeps_then old mid new t.header rest.header;
  same = rest.same ∙ t.same;
}

-- where a page of a chain is given back, what is left decides
pub frees_next : (old mid new : PageMap) (usable page left room next : ℕ) (result : Result ⊤ Fault) → 0 < left → room ≡ max (usable - 4) 1 → (AreWhole usable old → FindsNext old usable page (Ok next)) → Gives old mid usable page (Ok tt)
    → FreesChain mid new usable next (left - room) result → FreesChain old new usable page left result
frees_next old mid new usable page left room next result some room_all finds gives rest bytes [] free are once is first long = absurd (let none = ap length is in omega (arith, none, long, some))
frees_next old mid new usable page left room next result some room_all finds gives rest bytes (p ∷ ps) free are once is first long =
    let here : IsLink old usable page bytes (next_of ps) = subst (λ (n : ℕ). IsLink old usable n bytes (next_of ps)) first is.0 in
    let next_is : next ≡ next_of ps = finds are.whole bytes (next_of ps) (chain_near old usable (drop (usable - 4) bytes) ps is.1) here in
    let all : (n : ℕ) → occurs n (page ∷ []) + occurs n ps + occurs n free ≤ 1
    = λ n. subst (λ (q : ℕ). occurs n (q ∷ []) + occurs n ps + occurs n free ≤ 1) first (let most = once.once n in let both = occurs_append n (p ∷ ps) free in omega (arith, most, both)) in
    let behind = here.behind in
    let self = occurs_self page in
    let other : occurs page free ≡ 0 = (let most = all page in omega (arith, most, self)) in
    let t = gives free are behind here.has other in
    let same = t.same in
    let counts : (n : ℕ) → occurs n t.now_free ≡ occurs n (page ∷ []) + occurs n free
    = λ n. (let at = (t.moves).counts n in let none = fresh_same (length old) (length mid) n same in omega (arith, at, none)) in
    let are_now : AreFree mid usable t.now_free = record {
      has = t.has;
      once = record { once = λ n. (let most = all n in let at = counts n in omega (arith, most, at)) };
      behind = (let at = counts 1 in let none = are.behind in let far = not_one page behind in omega (arith, at, none, far));
      whole = (t.moves).whole usable are.whole;
    } in
    let once_now : IsOnce (ps ++ t.now_free) = record { once = λ n. (let most = all n in let at = counts n in let both = occurs_append n ps t.now_free in omega (arith, most, at, both)) } in
    let chain_now : IsChain mid usable (drop (usable - 4) bytes) ps
    = chain_stays old mid usable (page ∷ []) free [] t.now_free (drop (usable - 4) bytes) ps t.moves (λ n one. (let most = all n in omega (arith, most, one))) is.1 in
    let room_now : room ≡ usable - 4 = room_is usable room (large old usable free are) room_all in
    let rest_long : length (drop (usable - 4) bytes) ≡ left - room = (let cut = length-drop (usable - 4) bytes in omega (arith, cut, long, room_now)) in
    subst (λ (q : ℕ). MatchResult result (λ done. IsFreed old new usable (q ∷ ps) free) IsOutside) (sym first)
    (matched (IsFreed mid new usable ps t.now_free) (IsFreed old new usable (page ∷ ps) free) result (λ freed. given_then old mid new usable page free ps t freed)
    (rest (drop (usable - 4) bytes) ps t.now_free are_now once_now chain_now (sym next_is) rest_long))

-- the next page wasn't found
pub frees_unfound : (old any : PageMap) (usable page left : ℕ) (fault : Fault) (result : Result ⊤ Fault) → 0 < left → (AreWhole usable old → FindsNext old usable page (Err fault)) → IsErrAnd result (λ e. e ≡ fault)
    → FreesChain old any usable page left result
frees_unfound old any usable page left fault (Ok done) some finds is bytes chain free are once chained first long = absurd is
frees_unfound old any usable page left fault (Err e) some finds is bytes [] free are once chained first long = absurd (let none = ap length chained in omega (arith, none, long, some))
frees_unfound old any usable page left fault (Err e) some finds is bytes (p ∷ ps) free are once chained first long =
    let here : IsLink old usable page bytes (next_of ps) = subst (λ (n : ℕ). IsLink old usable n bytes (next_of ps)) first chained.0 in
    subst IsOutside (sym is) (finds are.whole bytes (next_of ps) (chain_near old usable (drop (usable - 4) bytes) ps chained.1) here)

-- the page wasn't given back
pub frees_ungiven : (old mid any : PageMap) (usable page left : ℕ) (fault : Fault) (result : Result ⊤ Fault) → 0 < left → Gives old mid usable page (Err fault) → IsErrAnd result (λ e. e ≡ fault) → FreesChain old any usable page left result
frees_ungiven old mid any usable page left fault (Ok done) some gives is bytes chain free are once chained first long = absurd is
frees_ungiven old mid any usable page left fault (Err e) some gives is bytes [] free are once chained first long = absurd (let none = ap length chained in omega (arith, none, long, some))
frees_ungiven old mid any usable page left fault (Err e) some gives is bytes (p ∷ ps) free are once chained first long =
    let here : IsLink old usable page bytes (next_of ps) = subst (λ (n : ℕ). IsLink old usable n bytes (next_of ps)) first chained.0 in
    let most : occurs page (page ∷ []) + occurs page ps + occurs page free ≤ 1
    = subst (λ (q : ℕ). occurs page (q ∷ []) + occurs page ps + occurs page free ≤ 1) first (let most = once.once page in let both = occurs_append page (p ∷ ps) free in omega (arith, most, both)) in
    let self = occurs_self page in
    subst IsOutside (sym is) (gives free are here.behind here.has (omega (arith, most, self)))

-- What of a chain was given back up to here: what is left decides.
pub record HasFreed {P K : Type 0} (below : P → K) (tells : K → Bool) (limits : K → Limits) (map : P → PageMap) (count : P → ℕ) (failures : P → ℕ × ℕ) (old now : P) (first size page left : ℕ) : Type 0 where
  pub kept : below now ≡ below old
  pub counted : count now ≡ count old
  pub causes : Causes unrefused (failures old) (failures now) ⊥
  pub freed : IsTrue (tells (below old)) → (new : PageMap) (result : Result ⊤ Fault) → FreesChain (map now) new (limits (below old)).page page left result → FreesChain (map old) new (limits (below old)).page first size result

-- what reading the next page's number does, it does from before the first call
pub finds_since : {P K : Type 0} (below : P → K) (tells : K → Bool) (limits : K → Limits) (old mid : P) (m : PageMap) (page : ℕ) (result : Result ℕ Fault) → below mid ≡ below old
    → (IsTrue (tells (below mid)) → AreWhole (limits (below mid)).page m → FindsNext m (limits (below mid)).page page result) → IsTrue (tells (below old)) → AreWhole (limits (below old)).page m → FindsNext m (limits (below old)).page page result
finds_since {P} {K} below tells limits old mid m page result kept finds told =
    subst (λ (k : K). AreWhole (limits k).page m → FindsNext m (limits k).page page result) kept (finds (subst (λ (k : K). IsTrue (tells k)) (sym kept) told))

-- and so does giving a page back
pub gives_since : {P K : Type 0} (below : P → K) (tells : K → Bool) (limits : K → Limits) (old mid : P) (m n new : PageMap) (page : ℕ) (result : Result ⊤ Fault) → below mid ≡ below old → n ≡ m
    → (IsTrue (tells (below mid)) → Gives n new (limits (below mid)).page page result) → IsTrue (tells (below old)) → Gives m new (limits (below old)).page page result
gives_since {P} {K} below tells limits old mid m n new page result kept same gives told =
    subst (λ (k : K). Gives m new (limits k).page page result) kept
    (subst (λ (k : PageMap). Gives k new (limits (below mid)).page page result) same (gives (subst (λ (k : K). IsTrue (tells k)) (sym kept) told)))
