-- Chains of overflow pages, link by link.
use Rattle.std.proofs.Common.{◌≡◌, ◌+◌, ◌-◌, ◌≤◌, ◌<◌, ◌^◌, ℕ, Bool, List, [], ◌∷◌, ◌++◌, length, take, drop, slice_index_or, refl, sym, ap, subst, ◌∙◌, arith, inl, inr, ◌⊎◌, Ok, Err}
use Rattle.std.proofs.Math.Nat.{pow-le-pow_right}
use Rattle.std.proofs.lemmas.Bool.{cases_lt}
use Rattle.std.proofs.lemmas.List.{append-nil, nil_from_length, take-append-drop, length-drop, length-take, length-append, take_at, drop_at, take_all, drop_all}
use Rattle.std.specs.Int.{w32, to_be_bytes}
use Rattle.std.specs.Prelude.{⊤, Result, IsErrAnd, max}
use Rattle.sqlval.specs.declared.fault.Fault.{Fault}
use Rattle.sqlval.specs.Faults.{IsOutside}
use Rattle.sqlval.specs.PageSizes.{IsPageSize}
use Rattle.pages.specs.Counting.{occurs}
use Rattle.pages.specs.Map.{PageMap, Has, page_at}
use Rattle.tree_overflow.specs.Chains.{IsLink, IsChain, next_of}
use Rattle.tree_overflow.proofs.ReadChains.{chain_near}
use Rattle.tree_check.specs.Checks.{CanMark}
use Rattle.tree_check.specs.Exact.{Checks, IsThisPage, alone}
use Rattle.tree_check.specs.Marks.{Marks, AreUnmarked}
use Rattle.tree_check.specs.Tails.{Chain, IsChainFrom, IsLinked, ChecksLink}
use Rattle.tree_check.proofs.Parting.{IsBoth, IsOf, then_checks, nothing_left, refused}

-- no page is small, and none is larger than its offsets
pub large_size : (size : ℕ) → IsPageSize size → (512 ≤ size) × (size ≤ 2 ^ 16)
large_size size is =
    let low : 2 ^ 9 ≤ 2 ^ is.exponent = pow-le-pow_right {n = 2} (omega arith) is.low in
    let high : 2 ^ is.exponent ≤ 2 ^ 16 = pow-le-pow_right {n = 2} (omega arith) is.high in
    let e = is.power in
    (omega (arith, e, low), omega (arith, e, high))

-- four bytes tell one number
pub one_number : (a b : ℕ) (xs ys : List ℕ) → a < 2 ^ 32 → b < 2 ^ 32 → to_be_bytes w32 a ++ xs ≡ to_be_bytes w32 b ++ ys → a ≡ b
one_number a b xs ys near also e =
    let first = ap (λ (l : List ℕ). slice_index_or l 0 0) e in
    let second = ap (λ (l : List ℕ). slice_index_or l 1 0) e in
    let third = ap (λ (l : List ℕ). slice_index_or l 2 0) e in
    let fourth = ap (λ (l : List ℕ). slice_index_or l 3 0) e in
    omega (arith, near, also, first, second, third, fourth)

-- ---- one link

-- a page isn't marked, or isn't read
pub link_refused : (map : PageMap) (size page : ℕ) (old new : List Bool) (fault : Fault) (result : Result ℕ Fault) → IsErrAnd result (λ e. e ≡ fault)
    → (Has map page → AreUnmarked old (alone page) → IsOutside fault) → ChecksLink map size page old new result
link_refused map size page old new fault (Ok next) is why = absurd is
link_refused map size page old new fault (Err e) is why = λ has behind free. subst IsOutside (sym is) (why has free)

-- a page that was marked is a link
pub linked : (map : PageMap) (size page next : ℕ) (old new : List Bool) (bytes : List ℕ) → (page ≡ 1 → ⊥) → page < 2 ^ 32 → Checks (IsThisPage map page) alone old new (Ok tt) → next < 2 ^ 32
    → bytes ≡ page_at map page → to_be_bytes w32 next ≡ take 4 (drop 0 bytes) → ChecksLink map size page old new (Ok next)
linked map size page next old new bytes other page_near check near read number =
    let has : Has map page = subst (Has map) check.0.is.is check.0.is.has in
    let parts : page_at map page ≡ to_be_bytes w32 next ++ drop 4 bytes = sym read ∙ (sym (take-append-drop 4 bytes) ∙ ap (λ (l : List ℕ). l ++ drop 4 bytes) (sym number)) in (
      record { has = has; behind = omega (arith, other, has.first); page_near = page_near; near = near; rest = drop 4 bytes; parts = parts },
      subst (λ (n : ℕ). Marks old new (alone n)) check.0.is.is check.0.marks,
    )

-- ---- a chain

-- this link, which tells the next
abbrev IsThisLink : PageMap → ℕ → ℕ → ℕ → ℕ → Type 0
IsThisLink map size page next number = (number ≡ page) × IsLinked map size page next

link_checks : (map : PageMap) (size page next : ℕ) (old new : List Bool) → ChecksLink map size page old new (Ok next) → Checks (IsThisLink map size page next) alone old new (Ok tt)
link_checks map size page next old new check = (
  record { it = page; is = (refl, check.0); marks = check.1 },
  λ n is free. subst (λ (p : ℕ). Marks old new (alone p)) (sym is.0) check.1,
)

-- the pages of a chain
abbrev pub pages_on : Chain → List ℕ
pages_on chain = chain.pages

-- a chain of no bytes has no pages
pub none_left : (map : PageMap) (size : ℕ) (bytes pages : List ℕ) → IsChain map size bytes pages → length bytes ≡ 0 → pages ≡ []
none_left map size bytes [] is none = refl
none_left map size bytes (page ∷ pages) is none = absurd (omega (arith, is.0.some, none))

-- a chain of bytes is a link and a shorter chain
chain_apart : (map : PageMap) (size page next left : ℕ) → 0 < left → IsLinked map size page next → (bytes pages : List ℕ) → IsChainFrom map size page left (record { bytes = bytes; pages = pages })
    → IsBoth (IsThisLink map size page next) (IsChainFrom map size next (left - (size - 4))) alone pages_on pages
chain_apart map size page next left some link bytes [] whole = absurd (let none = ap length whole.is in let long = whole.long in omega (arith, some, none, long))
chain_apart map size page next left some link bytes (p ∷ ps) whole =
    let here : IsLink map size page bytes (next_of ps) = subst (λ (n : ℕ). IsLink map size n bytes (next_of ps)) whole.first_is whole.is.0 in
    let same : next_of ps ≡ next = one_number (next_of ps) next _ _ (chain_near map size (drop (size - 4) bytes) ps whole.is.1) link.near (sym here.parts ∙ link.parts) in
    let shorter = length-drop (size - 4) bytes in
    let long = whole.long in
    record {
      one = page;
      other = record { bytes = drop (size - 4) bytes; pages = ps };
      is = (refl, link);
      also = record { is = whole.is.1; first_is = same; long = shorter ∙ ap (λ (n : ℕ). n - (size - 4)) long };
      both = λ n. let first = whole.first_is in let e = ap (λ (q : ℕ). occurs n (alone q)) first in omega (arith, e);
    }

-- the first bytes, and those behind them, where these are all that a page holds or nothing is behind
front_of : (k : ℕ) (front rest : List ℕ) → (length front ≡ k) ⊎ ((length front ≤ k) × (rest ≡ [])) → (take k (front ++ rest) ≡ front) × (drop k (front ++ rest) ≡ rest)
front_of k front rest (inl full) = (take_at front rest k full, drop_at front rest k full)
front_of k front rest (inr last) =
    let all : front ++ rest ≡ front = ap (λ (l : List ℕ). front ++ l) last.1 ∙ append-nil front in
    (ap (take k) all ∙ take_all k front last.0, ap (drop k) all ∙ drop_all k front last.0 ∙ sym last.1)

-- a link and a shorter chain are a chain
chain_together : (map : PageMap) (size page next left : ℕ) → 0 < left → length (page_at map page) ≡ size → (number : ℕ) (chain : Chain) → IsThisLink map size page next number
    → IsChainFrom map size next (left - (size - 4)) chain → IsOf (IsChainFrom map size page left) pages_on (alone number) (chain.pages)
chain_together map size page next left some sized number chain is rest =
    let link = is.1 in
    let whole_long : length (to_be_bytes w32 next ++ link.rest) ≡ size = sym (ap length link.parts) ∙ sized in
    let long : 4 + length link.rest ≡ size = omega (arith, whole_long) in
    let front = take left link.rest in
    let held = length-take left link.rest in
    let parts : (length front ≡ size - 4) ⊎ ((length front ≤ size - 4) × (chain.bytes ≡ [])) = elim (cases_lt (size - 4) left) [
      | inl lt ↦ inl (omega (arith, held, long, lt))
      | inr ge ↦ inr (omega (arith, held, long, ge), nil_from_length chain.bytes (let l = rest.long in omega (arith, l, ge)))
    ] in
    let cut = front_of (size - 4) front chain.bytes parts in
    let whole : link.rest ≡ take (size - 4) (front ++ chain.bytes) ++ drop left link.rest = sym (take-append-drop left link.rest) ∙ ap (λ (l : List ℕ). l ++ drop left link.rest) (sym cut.0) in
    let all = length-append front chain.bytes in
    let behind = rest.long in
    record {
      it = record { bytes = front ++ chain.bytes; pages = page ∷ chain.pages };
      is = record {
        is = (
          record {
            has = link.has;
            behind = link.behind;
            near = link.page_near;
            some = omega (arith, all, held, behind, long, some);
            rest = drop left link.rest;
            parts = link.parts ∙ (ap (λ (n : ℕ). to_be_bytes w32 n ++ link.rest) (sym rest.first_is) ∙ ap (λ (l : List ℕ). to_be_bytes w32 (next_of chain.pages) ++ l) whole);
          },
          subst (λ (l : List ℕ). IsChain map size l chain.pages) (sym cut.1) rest.is,
        );
        first_is = refl;
        long = omega (arith, all, held, behind, long, some);
      };
      both = λ n. let e = ap (λ (q : ℕ). occurs n (alone q)) is.0 in omega (arith, e);
    }

-- what is left of a chain after a link decides
pub link_then : (map : PageMap) (size page next left room : ℕ) (old mid : List Bool) → CanMark map size old → 0 < left → room ≡ max (size - 4) 1 → ChecksLink map size page old mid (Ok next)
    → (new : List Bool) (result : Result ⊤ Fault) → Checks (IsChainFrom map size next (left - room)) pages_on mid new result → Checks (IsChainFrom map size page left) pages_on old new result
link_then map size page next left room old mid can some room_is check new result rest =
    let large = (large_size size can.sized).0 in
    let all : room ≡ size - 4 = omega (arith, room_is, large) in
    then_checks (IsThisLink map size page next) (IsChainFrom map size next (left - (size - 4))) (IsChainFrom map size page left) alone pages_on pages_on
    (λ chain whole. chain_apart map size page next left some check.0 chain.bytes chain.pages whole)
    (chain_together map size page next left some (can.whole page check.0.has)) old mid new result
    (link_checks map size page next old mid check)
    (subst (λ (n : ℕ). Checks (IsChainFrom map size next (left - n)) pages_on mid new result) all rest)

-- a link is refused
pub link_stops : (map : PageMap) (size page left : ℕ) (old mid new : List Bool) (fault : Fault) (result : Result ⊤ Fault) → 0 < left → ChecksLink map size page old mid (Err fault) → IsErrAnd result (λ e. e ≡ fault)
    → Checks (IsChainFrom map size page left) pages_on old new result
link_stops map size page left old mid new fault result some check is =
    refused (IsChainFrom map size page left) pages_on old new fault result is (λ chain whole free. by chain.bytes chain.pages whole free)
  where
    by : (bytes pages : List ℕ) → IsChainFrom map size page left (record { bytes = bytes; pages = pages }) → AreUnmarked old pages → IsOutside fault
    by bytes [] whole free = absurd (let none = ap length whole.is in let long = whole.long in omega (arith, some, none, long))
    by bytes (p ∷ ps) whole free =
        let first = whole.first_is in
        check (subst (Has map) first whole.is.0.has) (subst (λ (n : ℕ). 1 < n) first whole.is.0.behind)
        (λ n. let h = free n in let e = ap (λ (q : ℕ). occurs n (alone q)) first in omega (arith, h, e))

-- a chain ends with its bytes
pub chain_ends : (map : PageMap) (size page left : ℕ) (marks : List Bool) → left ≡ 0 → page ≡ 0 → Checks (IsChainFrom map size page left) pages_on marks marks (Ok tt)
chain_ends map size page left marks none last =
    nothing_left (IsChainFrom map size page left) pages_on marks (record { bytes = []; pages = [] }) (record { is = refl; first_is = sym last; long = sym none })
    (λ chain whole n. ap (occurs n) (none_left map size chain.bytes chain.pages whole.is (whole.long ∙ none)))

pub chain_goes_on : (map : PageMap) (size page left : ℕ) (old new : List Bool) (fault : Fault) → left ≡ 0 → (page ≡ 0 → ⊥) → Checks (IsChainFrom map size page left) pages_on old new (Err fault)
chain_goes_on map size page left old new fault none more chain whole free =
    absurd (more (sym whole.first_is ∙ ap next_of (none_left map size chain.bytes chain.pages whole.is (whole.long ∙ none))))
