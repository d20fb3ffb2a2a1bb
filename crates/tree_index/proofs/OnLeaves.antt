-- A leaf whose page got other cells in its place.
use Rattle.std.proofs.Common.{◌≡◌, ◌≤◌, ◌+◌, ℕ, zero, true, List, [], ◌∷◌, refl, sym, ap, subst, ◌∙◌, arith}
use Rattle.pages.specs.Counting.{occurs, start_of, Moves}
use Rattle.pages.specs.Laws.{IsJoined}
use Rattle.pages.specs.Map.{PageMap, page_at, Has, AreWhole}
use Rattle.pages.proofs.Moving.{in_sequence, occurs_append}
use Rattle.freelist.specs.Calls.{KeepsHeader}
use Rattle.tree_page.specs.Cells.{Pairwise}
use Rattle.tree_page.specs.Node.{Local, Entries, IsNode}
use Rattle.tree_overflow.proofs.Laying.{keeps_then}
use Rattle.tree_store.specs.Saying.{Says}
use Rattle.tree_store.specs.Storing.{IsPlacedOn}
use Rattle.tree_store.proofs.PutPages.{put_there}
use Rattle.tree_index.specs.Freeing.{chains_of}
use Rattle.tree_index.specs.Growing.{IsPut}
use Rattle.tree_index.specs.Tree.{Held, IsHeldAs}
use Rattle.tree_index.proofs.Cutting.{values}
use Rattle.tree_index.proofs.Shares.{beside_used, others_kept, self_once}
use Rattle.tree_index.proofs.Staying.{entries_kept}

module _ (old mid : PageMap) (size number : ℕ) (used free mid_free : List ℕ) (said : List Local) (entries : List Held) (whole : AreWhole size mid) (has : Has mid number)
    (holds : Pairwise (IsHeldAs mid size) said entries) (moves : Moves old mid used free (number ∷ chains_of entries) mid_free)
    (once : (n : ℕ) → occurs n (number ∷ chains_of entries) + occurs n mid_free ≤ 1) (header : KeepsHeader old mid) where
  joined : IsJoined (number ∷ []) (chains_of entries) (number ∷ chains_of entries)
  joined n = occurs_append n (number ∷ []) (chains_of entries)

  pub unfree : occurs number mid_free ≡ 0
  unfree = (let most = once number in let self = self_once number (chains_of entries) in omega (arith, most, self))

  -- the tree under the page has these entries then
  pub put_on : (new : PageMap) (cells : List (List ℕ)) → IsPlacedOn mid new size mid_free number cells (Entries said) true → IsPut old new size number zero (values entries) used free
  put_on new cells (image, placed, rewritten) =
      let there = rewritten.moves in
      let has_now : Has new number = record { first = has.first; last = (let last = has.last in let longer = there.longer in omega (arith, last, longer)) } in
      let bytes : page_at new number ≡ image = ap (λ (m : PageMap). page_at m number) rewritten.is ∙ put_there mid number image has in
      let says : Says new number (Entries said) = record { has = has_now; node_is = subst (λ (l : List ℕ). IsNode l (start_of number) (Entries said)) (sym bytes) placed.is } in
      let unused : (n : ℕ) → 1 ≤ occurs n (chains_of entries) → occurs n (number ∷ []) + occurs n mid_free ≡ 0 = λ n some. (let most = once n in let both = joined n in omega (arith, most, both, some)) in
      record {
        tree = record { page = number; entries = entries };
        top_is = refl;
        lies = record {
          said = said;
          says = says;
          entries = entries_kept mid new size said entries (others_kept mid new size (number ∷ []) mid_free (number ∷ []) mid_free (chains_of entries) whole there unused) holds;
        };
        entries_are = refl;
        now_free = mid_free;
        has = rewritten.has;
        moves = in_sequence old mid new used free (number ∷ chains_of entries) mid_free (number ∷ chains_of entries) mid_free moves
            (beside_used mid new (number ∷ []) mid_free (number ∷ []) mid_free (chains_of entries) (number ∷ chains_of entries) (number ∷ chains_of entries) there joined joined);
        header = keeps_then old mid new header rewritten.header;
      }
