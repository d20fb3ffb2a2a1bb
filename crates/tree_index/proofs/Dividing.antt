-- The cell of an entry that stands on a page.
use Rattle.std.proofs.Common.{◌≡◌, ◌≤◌, ℕ, length, sym, ap, ◌∙◌, inl}
use Rattle.std.specs.Global.{Vec}
use Rattle.std.specs.Prelude.{Result, Ok, Err, IfOk, IfErr, MatchResult}
use Rattle.sqlval.specs.Faults.{IsOutside}
use Rattle.sqlval.specs.declared.fault.Fault.{Fault}
use Rattle.sqlval.specs.declared.fault.Fault.TheVariants.{Memory}
use Rattle.pages.specs.Map.{PageMap}
use Rattle.tree_page.specs.Node.{Local, IsEntryCell}
use Rattle.tree_page.specs.Payload.{index_most, held_size}
use Rattle.tree_index.specs.Growing.{IsDivider}
use Rattle.tree_index.specs.Tree.{Held, IsHeldAs}
use Rattle.tree_index.proofs.Leaves.{payload_held}

-- what the cell holds is as long as the format says
pub held_len : (m : PageMap) (size : ℕ) (said : Local) (held : Held) → 512 ≤ size → IsHeldAs m size said held → length said.bytes ≡ held_size size (index_most size) said.size
held_len m size said held big is = payload_held m size said.bytes held.payload held.pages big is.payload ∙ ap (held_size size (index_most size)) (sym is.size)

pub divider_or : (m : PageMap) (size : ℕ) (said : Local) (held : Held) (result : Result (Vec ℕ) Fault) → IsHeldAs m size said held → IfOk result (λ cell. IsEntryCell size cell.items said)
    → IfErr result (λ fault. fault ≡ Memory) → MatchResult result (λ cell. IsDivider m size cell.items held) IsOutside
divider_or m size said held (Ok cell) is cell_is memory = record { said = said; cell = cell_is; is = is }
divider_or m size said held (Err fault) is cell_is memory = inl memory
