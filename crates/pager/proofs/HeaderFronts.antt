-- A page whose header was written anew.
use Rattle.std.proofs.Common.{◌≡◌, ℕ, ◌≤◌, List, ◌++◌, length, take, drop, sym, ap, subst, ◌∙◌, arith}
use Rattle.std.proofs.lemmas.List.{take-take, take-append-drop}
use Rattle.std.specs.Prelude.{Result, Ok, Err, IfOk}
use Rattle.sqlval.specs.declared.fault.Fault.{Fault}
use Rattle.db_header.specs.declared.fields.Header.{Header}
use Rattle.db_header.specs.Header.{IsHeader}
use Rattle.db_header.specs.Writing.{IsBytes}
use Rattle.db_header.proofs.Fronts.{header_moves, header_before, behind_header, long_header}
use Rattle.pager.specs.Writers.{IsHeaded}
use Rattle.pager.proofs.PageReads.{filled}

-- the front of a page has the page's header
pub front_of : (page front : List ℕ) → front ≡ take 100 page → take 100 front ≡ take 100 page
front_of page front is = ap (take 100) is ∙ take-take 100 100 page (omega arith)

-- the one spelling of a header
abbrev pub IsOnly : List ℕ → Header → Type 0
IsOnly front h = (other : List ℕ) → IsBytes other → IsHeader other h → take 100 other ≡ front

only_page : (front old : List ℕ) (h : Header) → IsOnly front h → (other : List ℕ) → IsBytes other → IsHeader other h → drop 100 other ≡ drop 100 old → other ≡ front ++ drop 100 old
only_page front old h only other bytes is behind =
    sym (take-append-drop 100 other) ∙ ap (λ (l : List ℕ). l ++ drop 100 other) (only other bytes is) ∙ ap (λ (l : List ℕ). front ++ l) behind

pub headed : (front old new : List ℕ) (h : Header) → length front ≡ 100 → IsHeader front h → IsOnly front h → 100 ≤ length old → new ≡ front ++ drop 100 old → IsHeaded old new h
headed front old new h len header only long is = subst (λ (l : List ℕ). IsHeaded old l h) (sym is) (record { header_is = header_before front old h len header; only = only_page front old h only; behind = behind_header front old len; long = long_header front old len long })

pub header_found : (front page : List ℕ) → front ≡ take 100 page → (result : Result Header Fault) → IfOk result (λ header. IsHeader front header) → IfOk result (λ header. IsHeader page header)
header_found front page is (Ok header) there = header_moves front page header (front_of page front is) there
header_found front page is (Err fault) there = tt

pub given : (front page items new : List ℕ) → length front ≡ 100 → page ≡ items → (length front ≤ length page → new ≡ front ++ drop (length front) page) → 100 ≤ length page → new ≡ front ++ drop 100 items
given front page items new hundred is put long =
    put (omega (arith, hundred, long)) ∙ ap (λ (n : ℕ). front ++ drop n page) hundred ∙ ap (λ (l : List ℕ). front ++ drop 100 l) is

pub filled_page : (front items new : List ℕ) (len : ℕ) (h : Header) → length front ≡ 100 → IsHeader front h → IsOnly front h → 100 ≤ length items → new ≡ front ++ drop 100 items → length items ≡ len
    → IsHeaded items (take len (new ++ drop (length new) items)) h
filled_page front items new len h hundred header only long is whole =
    let same : length new ≡ len = ap length is ∙ long_header front items hundred long ∙ whole in
    headed front items (take len (new ++ drop (length new) items)) h hundred header only long (filled new items len same ∙ is)
