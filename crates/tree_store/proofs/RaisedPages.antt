-- A root is made an interior page over pages that were stored.
use Rattle.std.proofs.Common.{◌≡◌, ℕ, List, length, map, take, sym, ap, subst, ◌∙◌}
use Rattle.std.proofs.Math.Seq.{take-append_seam}
use Rattle.std.specs.Int.{w32, to_be_bytes}
use Rattle.std.specs.Prelude.{⊤, Bool, IsTrue, Result, MatchResult}
use Rattle.sqlval.specs.declared.fault.Fault.{Fault}
use Rattle.sqlval.specs.Faults.{IsOutside}
use Rattle.pages.specs.Calls.{Limits}
use Rattle.pages.specs.Counting.{occurs, start_of}
use Rattle.pages.specs.Map.{PageMap, page_at, Has}
use Rattle.freelist.specs.Calls.{AreFree}
use Rattle.tree_page.specs.Cells.{IsTreePage}
use Rattle.tree_page.specs.Reading.{type_of}
use Rattle.tree_page.specs.declared.items.Kind.{Kind}
use Rattle.tree_pack.specs.Building.{page_of, after_front}
use Rattle.tree_store.specs.Storing.{IsRewritten, CanStand, Rewrites}
use Rattle.tree_store.specs.Steps.{IsRaised}
use Rattle.tree_store.proofs.PutPages.{put_there, others_stay}
use Rattle.tree_store.proofs.WrittenPages.{matched, written_is, put_same}

-- the page that is built begins with what stood before the header
front_stands : (front : List ℕ) (size : ℕ) (kind : Kind) (right : List ℕ) (cells : List (List ℕ)) → take (length front) (page_of front size kind right cells) ≡ front
unfolding page_of
front_stands front size kind right cells = take-append_seam front (after_front (length front) size kind right cells)

-- the page that was built can stand there
pub built_stands : (map : PageMap) (size root : ℕ) (kind : Kind) (front right page : List ℕ) (cells : List (List ℕ)) → front ≡ take (start_of root) (page_at map root) → length front ≡ start_of root → length page ≡ size
    → page ≡ page_of front size kind right cells → CanStand map size root page
built_stands map size root kind front right page cells front_is long sized is = record {
  sized = sized;
  front = ap (λ (n : ℕ). take n page) (sym long) ∙ ap (take (length front)) is ∙ front_stands front size kind right cells ∙ front_is;
}

raised_is : (old new : PageMap) (size root : ℕ) (kind : Kind) (free : List ℕ) (last : ℕ) (page : List ℕ) (cells : List (List ℕ)) → Has old root → IsTreePage (type_of kind) page (start_of root) (to_be_bytes w32 last) cells
    → IsRewritten old new size free root page → IsRaised old new size root kind free last cells
raised_is old new size root kind free last page cells has tree put = record {
  root_is = subst (λ (l : List ℕ). IsTreePage (type_of kind) l (start_of root) (to_be_bytes w32 last) cells) (sym (ap (λ (m : PageMap). page_at m root) put.is ∙ put_there old root page has)) tree;
  others = λ number from other. ap (λ (m : PageMap). page_at m number) put.is ∙ others_stay old root number page has.first from other;
  moved = written_is old new size free root page put;
  same = put_same old new size free root page put;
}

pub raised_or : (old new : PageMap) (size root : ℕ) (kind : Kind) (free : List ℕ) (last : ℕ) (front page : List ℕ) (built cells : List (List ℕ)) (result : Result ⊤ Fault) → AreFree old size free → Has old root → occurs root free ≡ 0
    → front ≡ take (start_of root) (page_at old root) → length front ≡ start_of root → length page ≡ size → page ≡ page_of front size kind (to_be_bytes w32 last) built
    → IsTreePage (type_of kind) page (length front) (to_be_bytes w32 last) built → built ≡ cells → Rewrites old new size root page result → MatchResult result (λ done. IsRaised old new size root kind free last cells) IsOutside
raised_or old new size root kind free last front page built cells result are has none front_is long sized is tree same puts =
    let told : IsTreePage (type_of kind) page (start_of root) (to_be_bytes w32 last) cells
    = subst (λ (n : ℕ). IsTreePage (type_of kind) page n (to_be_bytes w32 last) cells) long (subst (λ (l : List (List ℕ)). IsTreePage (type_of kind) page (length front) (to_be_bytes w32 last) l) same tree) in
    matched (IsRewritten old new size free root page) (IsRaised old new size root kind free last cells) result
    (λ put. raised_is old new size root kind free last page cells has told put)
    (puts free are has none (built_stands old size root kind front (to_be_bytes w32 last) page built front_is long sized is))

-- what writing a page does after a call that reads, it does from before that one
pub puts_after : {P K : Type 0} (below : P → K) (tells : K → Bool) (limits : K → Limits) (old mid : P) (m n new : PageMap) (number : ℕ) (bytes : List ℕ) (result : Result ⊤ Fault) → below mid ≡ below old → n ≡ m
    → (IsTrue (tells (below mid)) → Rewrites n new (limits (below mid)).page number bytes result) → IsTrue (tells (below old)) → Rewrites m new (limits (below old)).page number bytes result
puts_after {P} {K} below tells limits old mid m n new number bytes result kept same puts told =
    subst (λ (k : K). Rewrites m new (limits k).page number bytes result) kept
    (subst (λ (k : PageMap). Rewrites k new (limits (below mid)).page number bytes result) same (puts (subst (λ (k : K). IsTrue (tells k)) (sym kept) told)))
