-- A tree of whose pages trees see what they saw is there as before.
use Rattle.std.proofs.Common.{◌≡◌, ◌≤◌, ◌-◌, ℕ, zero, suc, ℤ, List, [], ◌∷◌, ◌++◌, length, drop, sym, ◌∙◌, arith}
use Rattle.std.proofs.lemmas.Grind.{common_steps}
use Rattle.std.specs.List.{flat_map}
use Rattle.pages.specs.Counting.{occurs, body_at, start_of}
use Rattle.pages.specs.Map.{PageMap, page_at, Has, AreWhole}
use Rattle.pages.proofs.Moving.{occurs_append}
use Rattle.tree_page.specs.Cells.{Pairwise}
use Rattle.tree_page.specs.Node.{Local, Node}
use Rattle.tree_page.specs.Payload.{local_size, table_most}
use Rattle.tree_page.proofs.AfterFront.{stays_after_front}
use Rattle.tree_overflow.specs.Chains.{IsLink, IsChain, IsPayload, next_of}
use Rattle.tree_overflow.proofs.Laying.{whole_body}
use Rattle.tree_store.specs.Saying.{Says}
use Rattle.tree_table.specs.Growing.{below_of, Shows}
use Rattle.tree_table.specs.Tree.{Held, IsHeldAs, Tree, pages_of, Lies}
use Rattle.tree_table.proofs.Holes.{each_stays}

-- of these pages trees see what they saw
pub record AreSeen (old new : PageMap) (pages : List ℕ) : Type 0 where
  pub same : (n : ℕ) → 1 ≤ n → n ≤ length old → 1 ≤ occurs n pages → body_at new n ≡ body_at old n

-- the pages of the second list are among those of the first
abbrev Among : List ℕ → List ℕ → Type 0
Among pages part = (n : ℕ) → occurs n part ≤ occurs n pages

seen_among : (old new : PageMap) (pages part : List ℕ) → Among pages part → AreSeen old new pages → AreSeen old new part
seen_among old new pages part among are = record { same = λ n from to some. are.same n from to (let m = among n in omega (arith, m, some)) }

pub first_of : (page : ℕ) (pages : List ℕ) → 1 ≤ occurs page (page ∷ pages)
first_of page pages = grind (arith, common_steps)

module _ (old new : PageMap) (longer : length old ≤ length new) where
  has_stays : (n : ℕ) → Has old n → Has new n
  has_stays n has = record { first = has.first; last = (let last = has.last in omega (arith, last, longer)) }

  link_stays : (usable page : ℕ) (bytes : List ℕ) (next : ℕ) → body_at new page ≡ body_at old page → IsLink old usable page bytes next → IsLink new usable page bytes next
  link_stays usable page bytes next same is = record {
    has = has_stays page is.has;
    behind = is.behind;
    near = is.near;
    some = is.some;
    rest = is.rest;
    parts = whole_body old new page is.behind same ∙ is.parts;
  }

  chain_stays : (usable : ℕ) (bytes chain : List ℕ) → AreSeen old new chain → IsChain old usable bytes chain → IsChain new usable bytes chain
  chain_stays usable bytes [] are h = h
  chain_stays usable bytes (page ∷ chain) are h = (
    link_stays usable page bytes (next_of chain) (are.same page h.0.has.first h.0.has.last (first_of page chain)) h.0,
    chain_stays usable (drop (usable - 4) bytes) chain (seen_among old new (page ∷ chain) chain (λ n. omega arith) are) h.1,
  )

  pub payload_stays : (usable most : ℕ) (bytes payload chain : List ℕ) → AreSeen old new chain → IsPayload old usable most bytes payload chain → IsPayload new usable most bytes payload chain
  payload_stays usable most bytes payload chain are is = record {
    parts = is.parts;
    chain = chain_stays usable (drop (local_size usable most (length payload)) payload) chain are is.chain;
  }

  pub rows_stay : (usable : ℕ) (said : List (ℤ × Local)) (rows : List Held) → AreSeen old new (flat_map (λ (held : Held). held.pages) rows)
      → Pairwise (IsHeldAs old usable) said rows → Pairwise (IsHeldAs new usable) said rows
  rows_stay usable [] [] are h = tt
  rows_stay usable [] (held ∷ rows) are h = absurd h
  rows_stay usable (row ∷ said) [] are h = absurd h
  rows_stay usable (row ∷ said) (held ∷ rows) are h =
      let all = held.pages ++ flat_map (λ (held : Held). held.pages) rows in
      let both = λ (n : ℕ). occurs_append n held.pages (flat_map (λ (held : Held). held.pages) rows) in (
        record {
          rowid = h.0.rowid;
          size = h.0.size;
          payload = payload_stays usable (table_most usable) row.1.bytes held.row.payload held.pages (seen_among old new all held.pages (λ n. (let e = both n in omega (arith, e))) are) h.0.payload;
        },
        rows_stay usable said rows (seen_among old new all (flat_map (λ (held : Held). held.pages) rows) (λ n. (let e = both n in omega (arith, e))) are) h.1,
      )

  module _ (size : ℕ) (whole : AreWhole size old) (whole_now : AreWhole size new) where
    pub says_stays : (page : ℕ) (node : Node) → body_at new page ≡ body_at old page → Says old page node → Says new page node
    says_stays page node same is = record {
      has = has_stays page is.has;
      node_is = stays_after_front (page_at old page) (page_at new page) (start_of page) node same (whole_now page (has_stays page is.has) ∙ sym (whole page is.has)) is.node_is;
    }

    pub lies_stays : (depth : ℕ) (t : Tree depth) → AreSeen old new (pages_of depth t) → Lies old size depth t → Lies new size depth t
    lies_stays zero t are lies =
        let says = lies.says in
        record {
          said = lies.said;
          says = says_stays t.page _ (are.same t.page says.has.first says.has.last (first_of t.page _)) says;
          rows = rows_stay size lies.said t.rows (seen_among old new (pages_of zero t) (below_of zero t) (λ n. omega arith) are) lies.rows;
        }
    lies_stays (suc depth) t are lies = (
      says_stays t.page _ (are.same t.page lies.0.has.first lies.0.has.last (first_of t.page _)) lies.0,
      each_stays depth (Lies old size depth) (Lies new size depth) t.kids t.last
          (λ u some k. lies_stays depth u (seen_among old new (pages_of (suc depth) t) (pages_of depth u) (λ n. (let m = some n in omega (arith, m))) are) k) lies.1,
    )

    pub shows_stays : (depth : ℕ) (t : Tree depth) (node : Node) → AreSeen old new (below_of depth t) → Shows old size depth t node → Shows new size depth t node
    shows_stays zero t node are shows = (shows.0, shows.1, rows_stay size shows.0 t.rows are shows.2)
    shows_stays (suc depth) t node are shows = (
      shows.0,
      each_stays depth (Lies old size depth) (Lies new size depth) t.kids t.last
          (λ u some k. lies_stays depth u (seen_among old new (below_of (suc depth) t) (pages_of depth u) some are) k) shows.1,
    )
