-- A leaf whose page says other rows, over the same overflow pages.
use Rattle.std.proofs.Common.{◌≡◌, ◌≤◌, ◌+◌, ℕ, zero, ℤ, List, [], ◌∷◌, sym, ap, subst, ◌∙◌, arith}
use Rattle.pages.specs.Counting.{occurs, start_of}
use Rattle.pages.specs.Laws.{IsJoined}
use Rattle.pages.specs.Map.{PageMap, page_at, Has}
use Rattle.pages.proofs.Moving.{occurs_append}
use Rattle.freelist.proofs.Lists.{occurs_self}
use Rattle.tree_leaf.specs.Leaf.{Entry}
use Rattle.tree_page.specs.Cells.{Pairwise}
use Rattle.tree_page.specs.Node.{Local, Rows, IsNode}
use Rattle.tree_store.specs.Saying.{Says}
use Rattle.tree_store.specs.Storing.{IsRewritten}
use Rattle.tree_store.proofs.PutPages.{put_there}
use Rattle.tree_table.specs.Growing.{IsPut, IsUnder}
use Rattle.tree_table.specs.Tree.{Held, IsHeldAs, Leaf, Rises, pages_of}
use Rattle.tree_table.proofs.Leaves.{chains_of}
use Rattle.tree_table.proofs.Orders.{rows_in}
use Rattle.tree_table.proofs.Passing.{beside_used, others_seen}
use Rattle.tree_table.proofs.Staying.{rows_stay}

module _ (old : PageMap) (size number ways : ℕ) (rowid low : ℤ) (t : Leaf) (high : ℤ) (free : List ℕ) (under : IsUnder old size number ways rowid zero low t high free)
    (others : List Held) (chains_same : (n : ℕ) → occurs n (chains_of others) ≡ occurs n (chains_of t.rows)) where
  has_old : Has old number
  has_old = subst (λ (n : ℕ). Has old n) under.top_is (under.lies).says.has

  was : IsJoined (number ∷ []) (chains_of others) (pages_of zero t)
  was n =
      let top = ap (λ (m : ℕ). occurs n (m ∷ chains_of t.rows)) under.top_is in
      let both = occurs_append n (number ∷ []) (chains_of t.rows) in
      let e = chains_same n in
      omega (arith, top, both, e)

  now : IsJoined (number ∷ []) (chains_of others) (t.page ∷ chains_of others)
  now n =
      let top = ap (λ (m : ℕ). occurs n (m ∷ chains_of others)) under.top_is in
      let both = occurs_append n (number ∷ []) (chains_of others) in
      omega (arith, top, both)

  -- its page isn't free
  pub unfree : occurs number free ≡ 0
  unfree = (let once = under.apart number in let all = was number in let self = occurs_self number in omega (arith, once, all, self))

  unused : (n : ℕ) → 1 ≤ occurs n (chains_of others) → occurs n (number ∷ []) + occurs n free ≡ 0
  unused n some = (let once = under.apart n in let all = was n in omega (arith, once, all, some))

  -- where the page says these rows now, the tree has them
  pub leaf_put : (said : List (ℤ × Local)) (rows : List Entry) → Pairwise (IsHeldAs old size) said others → Rises low others high → rows_in others ≡ rows
      → (new : PageMap) (image : List ℕ) → IsNode image (start_of number) (Rows said) → IsRewritten old new size free number image
      → IsPut old new size number zero low high rows (pages_of zero t) free
  leaf_put said rows held sorted rows_are new image is rewritten =
      let moves = rewritten.moves in
      let has : Has new number = record { first = has_old.first; last = (let last = has_old.last in let longer = moves.longer in omega (arith, last, longer)) } in
      let bytes : page_at new number ≡ image = ap (λ (m : PageMap). page_at m number) rewritten.is ∙ put_there old number image has_old in
      let says : Says new number (Rows said) = record { has = has; node_is = subst (λ (l : List ℕ). IsNode l (start_of number) (Rows said)) (sym bytes) is } in
      record {
        tree = record { page = t.page; rows = others };
        top_is = under.top_is;
        lies = record {
          said = said;
          says = subst (λ (n : ℕ). Says new n (Rows said)) (sym under.top_is) says;
          rows = rows_stay old new moves.longer size said others (others_seen old new (number ∷ []) free (number ∷ []) free (chains_of others) moves unused) held;
        };
        sorted = sorted;
        rows_are = rows_are;
        now_free = free;
        has = rewritten.has;
        moves = beside_used old new (number ∷ []) free (number ∷ []) free (chains_of others) (pages_of zero t) (t.page ∷ chains_of others) moves was now;
        header = rewritten.header;
      }
