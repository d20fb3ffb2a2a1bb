-- A payload stays where what trees see of its overflow pages stays.
use Rattle.std.proofs.Common.{◌≡◌, ◌≤◌, ◌-◌, ℕ, List, [], ◌∷◌, length, drop, ◌∙◌, arith}
use Rattle.pages.specs.Map.{PageMap, page_at, Has}
use Rattle.pages.specs.Counting.{occurs, body_at}
use Rattle.tree_page.specs.Payload.{local_size}
use Rattle.tree_overflow.specs.Chains.{IsChain, IsPayload}
use Rattle.tree_overflow.proofs.Laying.{whole_body}

occurs_first : (n : ℕ) (xs : List ℕ) → 1 ≤ occurs n (n ∷ xs)
occurs_first n xs = grind (arith)

pub chain_kept : (old new : PageMap) (usable : ℕ) (bytes chain : List ℕ) → length old ≤ length new
    → ((n : ℕ) → Has old n → 1 ≤ occurs n chain → body_at new n ≡ body_at old n) → IsChain old usable bytes chain → IsChain new usable bytes chain
chain_kept old new usable bytes [] longer same is = is
chain_kept old new usable bytes (page ∷ pages) longer same is =
    let link = is.0 in
    let last = link.has.last in
    let here : page_at new page ≡ page_at old page = whole_body old new page link.behind (same page link.has (occurs_first page pages)) in (
      record {
        has = record { first = link.has.first; last = omega (arith, last, longer) };
        behind = link.behind;
        near = link.near;
        some = link.some;
        rest = link.rest;
        parts = here ∙ link.parts;
      },
      chain_kept old new usable (drop (usable - 4) bytes) pages longer (λ n has some. same n has (omega (arith, some))) is.1,
    )

pub payload_kept : (old new : PageMap) (usable most : ℕ) (bytes payload chain : List ℕ) → length old ≤ length new
    → ((n : ℕ) → Has old n → 1 ≤ occurs n chain → body_at new n ≡ body_at old n) → IsPayload old usable most bytes payload chain → IsPayload new usable most bytes payload chain
payload_kept old new usable most bytes payload chain longer same is = record {
  parts = is.parts;
  chain = chain_kept old new usable (drop (local_size usable most (length payload)) payload) chain longer same is.chain;
}
