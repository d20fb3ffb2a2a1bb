-- Two trees side by side that are joined along their seam.
use Rattle.std.proofs.Common.{◌≡◌, ℕ, zero, suc, List, [], ◌∷◌, sym, subst, ◌∙◌}
use Rattle.std.specs.Prelude.{Result, Ok, Err, MatchResult}
use Rattle.sqlval.specs.Faults.{IsOutside}
use Rattle.sqlval.specs.declared.fault.Fault.{Fault}
use Rattle.pages.specs.Calls.{IsOutsideOrFull}
use Rattle.pages.specs.Map.{PageMap}
use Rattle.tree_pack.specs.declared.spreading.Packed.{Packed}
use Rattle.tree_store.specs.Storing.{IsStored, Stores}
use Rattle.tree_store.specs.declared.storing.Fan.{Fan}
use Rattle.tree_index.specs.Growing.{IsPlanned}
use Rattle.tree_index.specs.Joining.{AreBeside, Unites, FindsKid, FindsLastKid}
use Rattle.tree_index.specs.Tree.{Tree, top}
use Rattle.tree_index.proofs.Beside.{right_says, said_left, said_right}
use Rattle.tree_index.proofs.Rows.{child_there}
use Rattle.tree_index.proofs.Seams.{first_tree, tops_in, belows_in, joined_entries, inner_beside, store_in}
use Rattle.tree_index.proofs.Spreading.{stores_two}
use Rattle.tree_index.proofs.Subtrees.{told, entries_between}
use Rattle.tree_index.proofs.Widening.{kids_alike}

module _ (old : PageMap) (size left right depth : ℕ) (a b : Tree (suc depth)) (free : List ℕ) (is : AreBeside old size left right (suc depth) a b free) where
  pub last_unread : (fault : Fault) → FindsLastKid old size left (Err fault) → IsOutside fault
  last_unread fault finds =
      finds (said_left old size left right depth a b free is) (top depth a.last) (entries_between a.kids) (is.free_are).whole (told old size left (suc depth) a is.left_is is.lies_left).has

  pub last_read : (child : ℕ) → FindsLastKid old size left (Ok child) → child ≡ top depth a.last
  last_read child finds =
      finds (said_left old size left right depth a b free is) (top depth a.last) (entries_between a.kids) (is.free_are).whole (told old size left (suc depth) a is.left_is is.lies_left).has

  pub first_unread : (fault : Fault) → FindsKid old size right 0 (Err fault) → IsOutside fault
  first_unread fault finds = finds (said_right old size left right depth a b free is) (top depth b.last) (is.free_are).whole (right_says old size left right depth a b free is)

  pub first_read : (child : ℕ) → FindsKid old size right 0 (Ok child) → child ≡ top depth (first_tree old size left right depth a b free is)
  first_read child finds =
      finds (said_right old size left right depth a b free is) (top depth b.last) (is.free_are).whole (right_says old size left right depth a b free is)
      ∙ kids_alike (top depth) old size zero (said_right old size left right depth a b free is) b.kids (top depth b.last) (is.lies_right.0).children ∙ child_there (top depth) zero b.kids b.last

  module _ (last first : ℕ) (last_is : last ≡ top depth a.last) (first_is : first ≡ top depth (first_tree old size left right depth a b free is)) where
    inner_now : AreBeside old size last first depth a.last (first_tree old size left right depth a b free is) free
    inner_now = subst (λ (n : ℕ). AreBeside old size n first depth a.last (first_tree old size left right depth a b free is) free) (sym last_is)
        (subst (λ (n : ℕ). AreBeside old size (top depth a.last) n depth a.last (first_tree old size left right depth a b free is) free) (sym first_is) (inner_beside old size left right depth a b free is))

    -- the two subtrees at the seam are joined
    pub inner_or : (mid : PageMap) (result : Result Packed Fault) → Unites old mid size last first depth result
        → MatchResult result (IsPlanned old mid size depth (joined_entries old size left right depth a b free is) (belows_in old size left right depth a b free is) free) IsOutsideOrFull
    inner_or mid result unites = unites a.last (first_tree old size left right depth a b free is) free inner_now

    -- and stored
    pub stored_or : (mid : PageMap) (packed : Packed) (plan : IsPlanned old mid size depth (joined_entries old size left right depth a b free is) (belows_in old size left right depth a b free is) free packed) (new : PageMap)
        (result : Result Fan Fault) → Stores mid new size (last ∷ first ∷ []) packed result → MatchResult result (IsStored mid new size (tops_in old size left right depth a b free is) plan.now_free packed) IsOutsideOrFull
    stored_or mid packed plan new result stores =
        store_in old size left right depth a b free is mid packed plan new result
        (stores_two mid new size (top depth a.last) (top depth (first_tree old size left right depth a b free is)) last first (sym last_is) (sym first_is) packed result stores)
