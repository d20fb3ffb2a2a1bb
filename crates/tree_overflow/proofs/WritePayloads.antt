-- A payload was written that goes on over overflow pages.
use Rattle.std.proofs.Common.{◌≡◌, ℕ, ◌-◌, ◌≤◌, List, ◌∷◌, ◌++◌, length, take, drop, ap, subst, ◌∙◌, arith}
use Rattle.std.proofs.lemmas.List.{length-drop}
use Rattle.std.specs.Int.{w32, to_be_bytes}
use Rattle.std.specs.Prelude.{Ok, min}
use Rattle.pages.specs.Map.{PageMap}
use Rattle.tree_page.specs.Payload.{local_size}
use Rattle.freelist.specs.Calls.{AreFree}
use Rattle.tree_overflow.specs.Chains.{IsChain}
use Rattle.tree_overflow.specs.Calls.{IsWritten}
use Rattle.tree_overflow.specs.Writing.{LaysAnew}

least_is : (n size local left : ℕ) → local ≡ min n size → left ≡ size - local → 1 ≤ left → local ≡ n
least_is n size local left is long some = omega (arith, is, long, some)

-- its bytes in the cell are followed by the first page of the chain on which the others lie
pub written_on : (old new : PageMap) (usable most local first : ℕ) (free payload rest held : List ℕ) → AreFree old usable free → local ≡ min (local_size usable most (length payload)) (length payload) → rest ≡ drop local payload → 1 ≤ length rest
    → LaysAnew old new usable rest (Ok first) → held ≡ take local payload ++ to_be_bytes w32 first → IsWritten old new usable most free payload held
written_on old new usable most local first free payload rest held are local_is rest_is some lays held_is =
    let laid = lays free are some in
    let long : length rest ≡ length payload - local = ap length rest_is ∙ length-drop local payload in
    let all : local ≡ local_size usable most (length payload) = least_is (local_size usable most (length payload)) (length payload) local (length rest) local_is long some in
    record {
      chain = first ∷ laid.others;
      now_free = laid.now_free;
      is = record {
        parts = subst (λ (n : ℕ). held ≡ take n payload ++ to_be_bytes w32 first) all held_is;
        chain = subst (λ (n : ℕ). IsChain new usable (drop n payload) (first ∷ laid.others)) all (subst (λ (l : List ℕ). IsChain new usable l (first ∷ laid.others)) rest_is laid.is);
      };
      has = laid.has;
      moves = laid.moves;
      header = laid.header;
      rule = laid.rule;
    }
