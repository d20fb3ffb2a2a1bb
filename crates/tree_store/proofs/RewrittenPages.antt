-- A payload is written over that of a row, in its page.
use Rattle.std.proofs.Common.{◌≡◌, ◌<◌, ℕ, ℤ, List, length, sym, subst, ◌∙◌}
use Rattle.std.specs.Prelude.{true, Ok}
use Rattle.pages.specs.Counting.{start_of}
use Rattle.pages.specs.Map.{PageMap, page_at, with_page, written_over}
use Rattle.tree_page.specs.Node.{Local, Rows, IsNode}
use Rattle.tree_pack.specs.Rewriting as rewriting
use Rattle.tree_store.specs.Storing.{IsRewritten, RewritesOn}
use Rattle.tree_store.proofs.PutPages.{is_put}

-- the row at a place of the page can have the payload, from this offset on
abbrev pub CanRewrite : List ℕ → ℕ → ℕ → List ℕ → ℕ → Type 0
CanRewrite page start place payload at = (said : List (ℤ × Local)) (is : IsNode page start (Rows said)) → place < length is.cells
    → rewriting.IsRewritten page start said is place payload (written_over at payload page)

-- the row has it
pub rewritten_on : (old new : PageMap) (size number place : ℕ) (payload : List ℕ) (at : ℕ) → CanRewrite (page_at old number) (start_of number) place payload at
    → new ≡ with_page old number (written_over at payload (page_at old number)) → RewritesOn old new size number place payload (Ok true)
rewritten_on old new size number place payload at can written free are has none said is lt =
    let image = written_over at payload (page_at old number) in
    let row = can said is lt in (
      image,
      row,
      subst (λ (m : PageMap). IsRewritten old m size free number image) (sym written)
          (is_put old size free number image are has none (record { sized = row.long ∙ are.whole number has; front = row.front })),
    )
