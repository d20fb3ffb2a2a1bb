-- A chain of overflow pages is written, page by page.
use Rattle.std.proofs.Common.{◌≡◌, inl, inr, ℕ, ◌+◌, ◌-◌, ◌<◌, ◌≤◌, List, [], ◌∷◌, ◌++◌, length, drop, refl, sym, ap, subst, ◌∙◌, arith}
use Rattle.std.proofs.lemmas.Grind.{common_steps}
use Rattle.std.proofs.lemmas.Bool.{cases_lt, cases_eq}
use Rattle.std.proofs.lemmas.List.{get_or-set_other, get_or-set_same, length-set}
use Rattle.std.specs.Int.{w32, to_be_bytes}
use Rattle.std.specs.List.{AllByRecursion}
use Rattle.db_header.specs.Header.{IsHeader}
use Rattle.db_header.specs.declared.fields.Header.{Header}
use Rattle.pages.specs.Counting.{occurs, fresh, Moves, body_at, start_of}
use Rattle.pages.specs.Map.{PageMap, page_at, with_page, Has}
use Rattle.pages.proofs.Moving.{not_fresh}
use Rattle.freelist.specs.Freelist.{Trunk, AreTrunks, pages_of}
use Rattle.freelist.specs.Calls.{AreFree, HasFree, IsTaken, KeepsHeader}
use Rattle.freelist.proofs.Lists.{IsRewritten, occurs_self, trunks_stay, pages_moved}
use Rattle.freelist.proofs.Taken.{one_there}
use Rattle.tree_overflow.specs.Writing.{IsPut}

not_first : (n x : ℕ) (xs : List ℕ) → (x ≡ n → ⊥) → 1 ≤ occurs n (x ∷ xs) → 1 ≤ occurs n xs
not_first n x xs other some = grind (arith, common_steps)

-- a page that stands in a list of pages is as each of them is
in_all : (p : ℕ → Type 0) (n : ℕ) (xs : List ℕ) → AllByRecursion p xs → 1 ≤ occurs n xs → p n
in_all p n [] all some = absurd (omega (arith, some))
in_all p n (x ∷ xs) all some = elim (cases_eq x n) [
  | inl same ↦ subst p same all.0
  | inr other ↦ in_all p n xs all.1 (not_first n x xs other some)
]

all_both : (p : ℕ → Type 0) (xs ys : List ℕ) → AllByRecursion p xs → AllByRecursion p ys → AllByRecursion p (xs ++ ys)
all_both p [] ys a b = b
all_both p (x ∷ xs) ys a b = (a.0, all_both p xs ys a.1 b)

trunks_have : (map : PageMap) (size : ℕ) (ts : List Trunk) → AreTrunks map size ts → AllByRecursion (Has map) (pages_of ts)
trunks_have map size [] are = tt
trunks_have map size (t ∷ ts) are = ((are.0).has, all_both (Has map) t.leaves (pages_of ts) (are.0).leaves (trunks_have map size ts are.1))

-- free pages are there
pub free_there : (map : PageMap) (size : ℕ) (free : List ℕ) (n : ℕ) → HasFree map size free → 1 ≤ occurs n free → Has map n
free_there map size free n has some = in_all (Has map) n (pages_of has.trunks) (trunks_have map size has.trunks (has.listed).trunks_are) (let same = has.free_is n in omega (arith, same, some))

-- A page was taken, and the other free pages stay so.
pub record IsTakenFrom (new : PageMap) (size : ℕ) (now_free : List ℕ) (page : ℕ) : Type 0 where
  pub are : AreFree new size now_free
  pub there : Has new page
  pub other : occurs page now_free ≡ 0

fresh_there : (a b n : ℕ) → 1 ≤ fresh a b n → n ≤ b
fresh_there a b n some = grind (arith, common_steps)

fresh_once : (a b n : ℕ) → fresh a b n ≤ 1
fresh_once a b n = grind (arith, common_steps)

pub taken_from : (old new : PageMap) (size : ℕ) (free : List ℕ) (page : ℕ) → AreFree old size free → (t : IsTaken old new size free page) → IsTakenFrom new size t.now_free page
taken_from old new size free page are t =
    let counts = (t.moves).counts in
    let longer = (t.moves).longer in
    let once : (n : ℕ) → occurs n free + fresh (length old) (length new) n ≤ 1
    = λ n. elim (cases_lt 0 (occurs n free)) [
      | inl lt ↦ (let last = (free_there old size free n are.has (omega (arith, lt))).last in let none = not_fresh (length old) (length new) n last in let most = (are.once).once n in omega (arith, none, most))
      | inr ge ↦ (let one = fresh_once (length old) (length new) n in omega (arith, ge, one))
    ] in
    let self = occurs_self page in
    let at_page = counts page in
    let at_one = counts 1 in
    let first = ((one_there old size free are).has).last in
    let none_one = not_fresh (length old) (length new) 1 first in
    let behind = are.behind in
    let from = t.behind in
    record {
      are = record {
        has = t.has;
        once = record { once = λ n. (let both = once n in let at = counts n in omega (arith, both, at)) };
        behind = omega (arith, at_one, none_one, behind);
        whole = (t.moves).whole size are.whole;
      };
      there = record {
        first = omega (arith, from);
        last = elim (cases_lt 0 (occurs page free)) [
          | inl lt ↦ (let last = (free_there old size free page are.has (omega (arith, lt))).last in omega (arith, last, longer))
          | inr ge ↦ fresh_there (length old) (length new) page (omega (arith, at_page, self, ge))
        ];
      };
      other = (let most = once page in omega (arith, at_page, self, most));
    }

-- a page that isn't free was written, and the free pages stay so
pub put_change : (old new : PageMap) (size : ℕ) (free : List ℕ) (page next : ℕ) (bytes : List ℕ) (header : Header) → IsHeader (page_at old 1) header → 1 < page → Has old page → IsPut old new page next bytes → IsRewritten old new page header
put_change old new size free page next bytes header said behind has put =
    let written = to_be_bytes w32 next ++ (bytes ++ put.0) in
    let last = has.last in
    subst (λ (m : PageMap). IsRewritten old m page header) (sym put.2) (record {
      long = length-set old (page - 1) written;
      front = (let same : page_at (with_page old page written) 1 ≡ page_at old 1 = get_or-set_other old (page - 1) 0 written [] (λ same. absurd (omega (arith, same, behind))) in
          record { header_is = subst (λ (l : List ℕ). IsHeader l header) (sym same) said; rest = ap (drop 100) same; same = ap length same });
      page = ap length (get_or-set_same old (page - 1) written [] (omega (arith, behind, last))) ∙ put.1;
      others = λ n far other. get_or-set_other old (page - 1) (n - 1) written [] (λ same. absurd (other (omega (arith, same, far, behind))));
    })

pub as_put : (old new : PageMap) (page next : ℕ) (bytes : List ℕ) → 1 < page → Has old page → (put : IsPut old new page next bytes) → page_at new page ≡ to_be_bytes w32 next ++ (bytes ++ put.0)
as_put old new page next bytes behind has put = (let last = has.last in
    ap (λ (m : PageMap). page_at m page) put.2 ∙ get_or-set_same old (page - 1) (to_be_bytes w32 next ++ (bytes ++ put.0)) [] (omega (arith, behind, last)))

pub put_free : (old new : PageMap) (size : ℕ) (free : List ℕ) (page next : ℕ) (bytes : List ℕ) → AreFree old size free → 1 < page → Has old page → occurs page free ≡ 0 → IsPut old new page next bytes → HasFree new size free
put_free old new size free page next bytes are behind has other put =
    let had = are.has in
    let change = put_change old new size free page next bytes had.header had.header_is behind has put in
    let listed = had.listed in
    let none_one : occurs 1 (pages_of had.trunks) ≡ 0 = (let same = had.free_is 1 in let none = are.behind in omega (arith, same, none)) in
    let none_it : occurs page (pages_of had.trunks) ≡ 0 = (let same = had.free_is page in omega (arith, same, other)) in
    record {
      header = had.header;
      header_is = (change.front).header_is;
      trunks = had.trunks;
      listed = record { first_is = listed.first_is; trunks_are = trunks_stay old new size page had.header had.trunks change none_one none_it listed.trunks_are; count_is = listed.count_is };
      free_is = had.free_is;
    }

pub put_moves : (old new : PageMap) (size : ℕ) (free used : List ℕ) (page next : ℕ) (bytes : List ℕ) → AreFree old size free → 1 < page → Has old page → 1 ≤ occurs page used → IsPut old new page next bytes → Moves old new used free used free
put_moves old new size free used page next bytes are behind has among put =
    let had = are.has in
    pages_moved old new page had.header used free used free (put_change old new size free page next bytes had.header had.header_is behind has put) (λ n. refl) (omega (arith, among))

-- what the header says stays where page 1 does
pub same_keeps : (old new : PageMap) → page_at new 1 ≡ page_at old 1 → KeepsHeader old new
same_keeps old new same header is = (header.freelist_trunk, header.freelist_count, subst (λ (l : List ℕ). IsHeader l header) (sym same) is)

pub put_keeps : (old new : PageMap) (page next : ℕ) (bytes : List ℕ) → 1 < page → IsPut old new page next bytes → KeepsHeader old new
put_keeps old new page next bytes behind put = same_keeps old new (ap (λ (m : PageMap). page_at m 1) put.2 ∙ get_or-set_other old (page - 1) 0 (to_be_bytes w32 next ++ (bytes ++ put.0)) [] (λ same. absurd (omega (arith, same, behind))))

pub keeps_then : (a b c : PageMap) → KeepsHeader a b → KeepsHeader b c → KeepsHeader a c
keeps_then a b c first then header is = (let now = first header is in then (record header { freelist_trunk = now.0; freelist_count = now.1 }) now.2)

-- pages that moved move beside one more that is used
pub beside : (old new : PageMap) (used free now_used now_free : List ℕ) (page : ℕ) → Moves old new used free now_used now_free → Moves old new (page ∷ used) free (page ∷ now_used) now_free
beside old new used free now_used now_free page moves = record {
  longer = moves.longer;
  counts = λ n. (let at = moves.counts n in omega (arith, at));
  keeps = λ n from to none. moves.keeps n from to (omega (arith, none));
  whole = moves.whole;
}

start_behind : (n : ℕ) → 1 < n → start_of n ≡ 0
start_behind n behind = grind (arith, common_steps)

-- of a page after page 1 trees see the whole
pub whole_body : (old new : PageMap) (n : ℕ) → 1 < n → body_at new n ≡ body_at old n → page_at new n ≡ page_at old n
whole_body old new n behind same = subst (λ (k : ℕ). drop k (page_at new n) ≡ drop k (page_at old n)) (start_behind n behind) same

-- pages are large enough for a header, and so for a link
pub large : (map : PageMap) (size : ℕ) (free : List ℕ) → AreFree map size free → 100 ≤ size
large map size free are = (let long = ((are.has).header_is).long in let whole = (one_there map size free are).whole in omega (arith, long, whole))
