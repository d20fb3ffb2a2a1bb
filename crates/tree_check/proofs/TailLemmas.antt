-- The tail of a payload, as bytes of its cell.
use Rattle.std.proofs.Common.{◌≡◌, ◌+◌, ◌-◌, ◌<◌, ◌^◌, ℕ, List, ◌++◌, length, take, drop, sym, ap, ◌∙◌, arith}
use Rattle.std.proofs.lemmas.Bool.Decides.{nat_tests}
use Rattle.std.proofs.lemmas.List.{take-append-drop, length-drop, length-take, take_all}
use Rattle.std.specs.Int.{w32, to_be_bytes}
use Rattle.tree_page.specs.Node.{Local}
use Rattle.tree_page.specs.Payload.{held_size, local_size}
use Rattle.tree_check.specs.Tails.{IsLong}
use Rattle.tree_check.specs.declared.chains.Tail.{Tail}

held_long : (usable most size : ℕ) → most < size → held_size usable most size ≡ local_size usable most size + 4
held_long usable most size lt = grind (arith, nat_tests)

-- the number of the first overflow page stands at the end of the cell
pub is_long : (usable most : ℕ) (local : Local) (here : ℕ) (tail : Tail) → most < local.size → length local.bytes ≡ held_size usable most local.size
    → here ≡ local_size usable most local.size → to_be_bytes w32 tail.first ≡ take 4 (drop here local.bytes) → tail.size ≡ local.size - here → tail.first < 2 ^ 32 → IsLong usable most local tail
is_long usable most local here tail lt held here_is number left near =
    let long = held ∙ held_long usable most local.size lt in
    let behind : length (drop here local.bytes) ≡ 4 = length-drop here local.bytes ∙ omega (arith, long, here_is) in
    let all : take 4 (drop here local.bytes) ≡ drop here local.bytes = take_all 4 (drop here local.bytes) (omega (arith, behind)) in
    let front = length-take here local.bytes in
    record {
      long = lt;
      near = near;
      here = take here local.bytes;
      parts = sym (take-append-drop here local.bytes) ∙ ap (λ (l : List ℕ). take here local.bytes ++ l) (sym (number ∙ all));
      here_is = omega (arith, front, long, here_is);
      left = left ∙ ap (λ (n : ℕ). local.size - n) here_is;
    }
