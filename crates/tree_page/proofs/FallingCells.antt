-- Cells that lie one below the other are claimed, whatever was marked.
use Rattle.std.proofs.Common.{◌≡◌, ◌≤◌, ◌<◌, ◌+◌, ◌-◌, ℕ, Bool, false, true, List, ◌++◌, length, get_or, take, drop, replicate, slice_range, Some, refl, sym, ap, subst, ◌∙◌, arith}
use Rattle.std.proofs.lemmas.List.{get_or-take, get_or_append_left, length-take, length-take-le}
use Rattle.std.specs.List.{list_any}
use Rattle.record.proofs.VarintLemmas.{AreBytes}
use Rattle.tree_page.specs.declared.items.Kind.{Kind}
use Rattle.tree_page.specs.Cells.{Span}
use Rattle.tree_page.specs.Bytes.{header_on}
use Rattle.tree_page.specs.Checking.{IsSaid, front_end, taken_up_to, claimed, ends_on, claimed_from}
use Rattle.tree_page.proofs.Claims.{with_claim, length-with_claim, length-taken_up_to, none_from, part_at, taken_first, covers_above}
use Rattle.tree_page.proofs.SaidPages.{claims_step, front_within, said_by}

-- none of the bytes from one offset up to another is taken
abbrev pub AreFree : List Bool → ℕ → ℕ → Type 0
AreFree taken front low = (k : ℕ) → front ≤ k → k < low → get_or taken k false ≡ false

-- bytes that are free can be claimed
free_claimed : (taken : List Bool) (span : Span) (front low : ℕ) → front ≤ span.from → span.to ≤ low → AreFree taken front low → claimed taken span.from span.to ≡ Some (with_claim taken span)
unfolding claimed
free_claimed taken span front low above below free =
    let part = slice_range taken span.from span.to in
    let len : length part ≤ span.to - span.from = omega (arith, length-take (span.to - span.from) (drop span.from taken)) in
    let none : list_any (λ byte. byte) part ≡ false = none_from part (λ i lt.
    let place : span.from + i - span.from ≡ i = omega arith in
    ap (λ (n : ℕ). get_or part n false) (sym place) ∙ part_at taken span (span.from + i) (omega arith) (omega arith) ∙ free (span.from + i) (omega arith) (omega arith)) in
    rw none refl

-- the bytes below a span that was claimed stay free
free_below : (taken : List Bool) (span : Span) (front low : ℕ) → span.from ≤ length taken → span.from ≤ low → AreFree taken front low → AreFree (with_claim taken span) front span.from
free_below taken span front low within below free k from less =
    let long : length (take span.from taken) ≡ span.from = length-take-le span.from taken within in
    get_or_append_left (take span.from taken) (replicate (span.to - span.from) true ++ drop span.to taken) false k (omega (arith, long)) ∙ get_or-take span.from taken k false less ∙ free k from (omega (arith, less, below))

-- the bytes after the pointers are free
free_first : (front size : ℕ) → AreFree (taken_up_to front size) front size
free_first front size k from less =
    let first : Span = record { from = 0; to = front } in
    taken_first front size k ∙ rw (covers_above first k from) refl

-- The cells before one index are claimed, and the bytes between the pointers and the last of them are free.
pub record AreLeft (page : List ℕ) (start : ℕ) (header : Kind × ℕ) (front low index : ℕ) : Type 0 where
  pub taken : List Bool
  pub few : index ≤ header.1
  pub long : length taken ≡ length page
  pub inside : low ≤ length page
  pub free : AreFree taken front low
  pub claims : claimed_from page start header taken index (header.1 - index) ≡ claimed_from page start header (taken_up_to (front_end start header) (length page)) 0 header.1

-- at first none is
pub none_claimed : (page : List ℕ) (start : ℕ) (header : Kind × ℕ) (front : ℕ) → AreBytes page → header_on page start ≡ Some header → front ≡ front_end start header → AreLeft page start header front (length page) 0
none_claimed page start header front fits e is =
    let size = length page in
    let all : header.1 - 0 ≡ header.1 = omega arith in
    record {
      taken = taken_up_to (front_end start header) size;
      few = omega arith;
      long = length-taken_up_to (front_end start header) size (front_within page start header fits e);
      inside = omega arith;
      free = subst (λ (n : ℕ). AreFree (taken_up_to (front_end start header) size) n size) (sym is) (free_first (front_end start header) size);
      claims = ap (claimed_from page start header (taken_up_to (front_end start header) size) 0) all;
    }

-- a cell below the last one is claimed
pub one_claimed : (page : List ℕ) (start : ℕ) (header : Kind × ℕ) (front low index from to : ℕ) → index < header.1 → from ≤ to → front ≤ from → to ≤ low → ends_on page start header index ≡ Some (from, to) → AreLeft page start header front low index
    → AreLeft page start header front from (index + 1)
one_claimed page start header front low index from to less ordered above below ends left =
    let span : Span = record { from = from; to = to } in
    let claim = free_claimed left.taken span front low above below left.free in
    let within : to ≤ length left.taken = omega (arith, left.long, left.inside, below) in
    record {
      taken = with_claim left.taken span;
      few = omega (arith, less);
      long = length-with_claim left.taken span ordered within ∙ left.long;
      inside = omega (arith, left.inside, below, ordered);
      free = free_below left.taken span front low (omega (arith, within, ordered)) (omega (arith, ordered, below)) left.free;
      claims = claims_step page start header left.taken (with_claim left.taken span) index header.1 from to less ends claim ∙ left.claims;
    }

-- a page says something once all are
pub all_claimed : (page : List ℕ) (start : ℕ) (header : Kind × ℕ) (front low index : ℕ) → AreBytes page → header_on page start ≡ Some header → header.1 ≤ index → AreLeft page start header front low index
    → IsSaid (record { bytes = page; start = start })
all_claimed page start header front low index fits e all left =
    let none : header.1 - index ≡ 0 = omega (arith, all) in
    let claims = sym left.claims ∙ ap (claimed_from page start header left.taken index) none in
    said_by page start header (taken_up_to (front_end start header) (length page)) left.taken fits e refl claims
