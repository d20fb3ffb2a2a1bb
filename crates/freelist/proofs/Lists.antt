-- What a freelist of pages has, and what stays of it when two pages are written.
use Rattle.std.proofs.Common.{◌≡◌, inl, inr, ℕ, ◌+◌, ◌-◌, ◌<◌, ◌≤◌, List, [], ◌∷◌, ◌++◌, length, drop, sym, ap, subst, ◌∙◌, arith}
use Rattle.std.proofs.lemmas.Grind.{common_steps}
use Rattle.std.proofs.lemmas.Bool.{cases_lt, cases_eq}
use Rattle.std.proofs.lemmas.List.{get_or-set_other, get_or-set_same, length-set}
use Rattle.std.specs.List.{AllByRecursion}
use Rattle.db_header.specs.Header.{IsHeader}
use Rattle.db_header.specs.declared.fields.Header.{Header}
use Rattle.pages.specs.Counting.{occurs, fresh, Moves, body_at, start_of}
use Rattle.pages.specs.Map.{PageMap, page_at, with_page, AreWhole, Has}
use Rattle.freelist.specs.Freelist.{Trunk, IsTrunk, AreTrunks, first_of, pages_of}
use Rattle.freelist.specs.Calls.{KeepsHeader}
use Rattle.freelist.specs.PageBytes.{Reheads, listing}

-- A page after page 1 was written, with as many bytes as it had, and then page 1's header.
pub record IsRewritten (old new : PageMap) (number : ℕ) (header : Header) : Type 0 where
  pub long : length new ≡ length old
  pub front : Reheads (page_at old 1) (page_at new 1) header
  pub page : length (page_at new number) ≡ length (page_at old number)
  pub others : (n : ℕ) → 1 < n → (n ≡ number → ⊥) → page_at new n ≡ page_at old n

pub occurs_here : (n x : ℕ) (xs : List ℕ) → occurs n (x ∷ xs) ≡ 0 → x ≡ n → ⊥
occurs_here n x xs none same = (let once : occurs n (n ∷ xs) ≡ 0 = subst (λ (k : ℕ). occurs n (k ∷ xs) ≡ 0) same none in not_here n xs once) where
  not_here : (n : ℕ) (xs : List ℕ) → occurs n (n ∷ xs) ≡ 0 → ⊥
  not_here n xs none = grind (arith, common_steps)

pub occurs_later : (n x : ℕ) (xs : List ℕ) → occurs n (x ∷ xs) ≡ 0 → occurs n xs ≡ 0
occurs_later n x xs none = omega (arith, none)

pub occurs_both : (n : ℕ) (xs ys : List ℕ) → occurs n (xs ++ ys) ≡ occurs n xs + occurs n ys
occurs_both n [] ys = omega arith
occurs_both n (x ∷ xs) ys = let rest = occurs_both n xs ys in omega (arith, rest)

pub occurs_self : (n : ℕ) → occurs n (n ∷ []) ≡ 1
occurs_self n = grind (arith, common_steps)

pub all_has : (old new : PageMap) (xs : List ℕ) → length new ≡ length old → AllByRecursion (Has old) xs → AllByRecursion (Has new) xs
all_has old new [] same all = tt
all_has old new (x ∷ xs) same all = (record { first = (all.0).first; last = omega (arith, same, (all.0).last) }, all_has old new xs same all.1)

pub trunk_stays : (old new : PageMap) (size number : ℕ) (header : Header) (t : Trunk) (next : ℕ) → IsRewritten old new number header → (t.page ≡ 1 → ⊥) → (t.page ≡ number → ⊥) → IsTrunk old size t next → IsTrunk new size t next
trunk_stays old new size number header t next change not_one not_it trunk =
    let one = trunk.has.first in
    let behind : 1 < t.page = elim (cases_lt 1 t.page) [ inl lt ↦ lt | inr ge ↦ absurd (not_one (omega (arith, one, ge))) ] in
    record {
      has = record { first = trunk.has.first; last = omega (arith, change.long, trunk.has.last) };
      near = trunk.near;
      rest = trunk.rest;
      parts = change.others t.page behind not_it ∙ trunk.parts;
      few = trunk.few;
      leaves = all_has old new t.leaves change.long trunk.leaves;
      leaves_near = trunk.leaves_near;
    }

pub trunks_stay : (old new : PageMap) (size number : ℕ) (header : Header) (ts : List Trunk) → IsRewritten old new number header → occurs 1 (pages_of ts) ≡ 0 → occurs number (pages_of ts) ≡ 0 → AreTrunks old size ts → AreTrunks new size ts
trunks_stay old new size number header [] change one none are = tt
trunks_stay old new size number header (t ∷ ts) change one none are = (
  trunk_stays old new size number header t (first_of ts) change (λ same. occurs_here 1 t.page (t.leaves ++ pages_of ts) one same) (λ same. occurs_here number t.page (t.leaves ++ pages_of ts) none same) are.0,
  trunks_stay old new size number header ts change
      (let a = occurs_both 1 (t.page ∷ t.leaves) (pages_of ts) in omega (arith, a, one))
      (let a = occurs_both number (t.page ∷ t.leaves) (pages_of ts) in omega (arith, a, none)) are.1,
)

fresh_same : (a n : ℕ) → fresh a a n ≡ 0
fresh_same a n = grind (arith, common_steps)

first_body : (old new : PageMap) (header : Header) → Reheads (page_at old 1) (page_at new 1) header → (n : ℕ) → n ≡ 1 → body_at new n ≡ body_at old n
first_body old new header front n is = subst (λ (k : ℕ). body_at new k ≡ body_at old k) (sym is) front.rest

other_body : (old new : PageMap) (n : ℕ) → 1 < n → page_at new n ≡ page_at old n → body_at new n ≡ body_at old n
other_body old new n lt same = ap (λ (l : List ℕ). drop (start_of n) l) same

bodies_stay : (old new : PageMap) (number : ℕ) (header : Header) → IsRewritten old new number header → (n : ℕ) → 1 ≤ n → (n ≡ number → ⊥) → body_at new n ≡ body_at old n
bodies_stay old new number header change n from other = elim (cases_lt 1 n) [
  | inl lt ↦ other_body old new n lt (change.others n lt other)
  | inr ge ↦ first_body old new header change.front n (omega (arith, from, ge))
]

stays_whole : (old new : PageMap) (number : ℕ) (header : Header) → IsRewritten old new number header → (size : ℕ) → AreWhole size old → AreWhole size new
stays_whole old new number header change size whole n has = elim (cases_lt 1 n) [
  | inl lt ↦ elim (cases_eq n number) [
    | inl same ↦ subst (λ (k : ℕ). length (page_at new k) ≡ size) (sym same) (change.page ∙ whole number (subst (λ (k : ℕ). Has old k) same was))
    | inr other ↦ ap length (change.others n lt other) ∙ whole n was
  ]
  | inr ge ↦ (let one : 1 ≡ n = omega (arith, has.first, ge) in subst (λ (k : ℕ). length (page_at new k) ≡ size) one (change.front.same ∙ whole 1 (record { first = omega arith; last = omega (arith, has.last, has.first, change.long) })))
] where
  was : Has old n
  was = record { first = has.first; last = omega (arith, has.last, change.long) }

pub pages_moved : (old new : PageMap) (number : ℕ) (header : Header) (used free now_used now_free : List ℕ) → IsRewritten old new number header
    → ((n : ℕ) → occurs n now_used + occurs n now_free ≡ occurs n used + occurs n free) → 1 ≤ occurs number used + occurs number free → Moves old new used free now_used now_free
pages_moved old new number header used free now_used now_free change counts among = record {
  longer = omega (arith, change.long);
  counts = λ n. (let none = subst (λ (k : ℕ). fresh (length old) k n ≡ 0) (sym change.long) (fresh_same (length old) n) in omega (arith, counts n, none));
  keeps = λ n from to none. bodies_stay old new number header change n from (λ same. absurd (not_it n same none));
  whole = stays_whole old new number header change;
} where
  not_it : (n : ℕ) → n ≡ number → occurs n used + occurs n free ≡ 0 → ⊥
  not_it n same none = (let gone : occurs number used + occurs number free ≡ 0 = subst (λ (k : ℕ). occurs k used + occurs k free ≡ 0) same none in omega (arith, among, gone))

pub header_kept : (old new : PageMap) (header : Header) (trunk count : ℕ) → ((other : Header) → IsHeader (page_at old 1) other → header ≡ other) → IsHeader (page_at new 1) (listing header trunk count) → KeepsHeader old new
header_kept old new header trunk count only now other is = (trunk, count, subst (λ (h : Header). IsHeader (page_at new 1) (listing h trunk count)) (only other is) now)

-- a page and page 1 were written
pub rewritten : (old new : PageMap) (number : ℕ) (page first : List ℕ) (header : Header) → 1 < number → number ≤ length old → length page ≡ length (page_at old number) → Reheads (page_at old 1) first header
    → new ≡ with_page (with_page old number page) 1 first → IsRewritten old new number header
rewritten old new number page first header lt le long front is =
    subst (λ (m : PageMap). IsRewritten old m number header) (sym is) (record {
      long = length-set mid 0 first ∙ length-set old (number - 1) page;
      front = subst (λ (l : List ℕ). Reheads (page_at old 1) l header) (sym (get_or-set_same mid 0 first [] room)) front;
      page = ap length (get_or-set_other mid 0 (number - 1) first [] (λ same. absurd (omega (arith, same, lt))) ∙ get_or-set_same old (number - 1) page [] (omega (arith, lt, le))) ∙ long;
      others = λ n far other. get_or-set_other mid 0 (n - 1) first [] (λ same. absurd (omega (arith, same, far))) ∙ get_or-set_other old (number - 1) (n - 1) page [] (λ same. absurd (other (omega (arith, same, far, lt))));
    }) where
      mid : PageMap
      mid = with_page old number page

      room : 0 < length mid
      room = omega (arith, length-set old (number - 1) page, lt, le)

pub as_written : (old new : PageMap) (number : ℕ) (page first : List ℕ) → 1 < number → number ≤ length old → new ≡ with_page (with_page old number page) 1 first → page_at new number ≡ page
as_written old new number page first lt le is =
    ap (λ (m : PageMap). page_at m number) is ∙ get_or-set_other (with_page old number page) 0 (number - 1) first [] (λ same. absurd (omega (arith, same, lt))) ∙ get_or-set_same old (number - 1) page [] (omega (arith, lt, le))
