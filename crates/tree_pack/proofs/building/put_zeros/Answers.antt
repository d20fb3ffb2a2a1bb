use Rattle.std.proofs.Common.{◌≡◌, ◌≤◌, ◌+◌, ◌-◌, ◌++◌, ◌∙◌, ℕ, List, replicate, take, ap, append_assoc, arith}
use Rattle.std.specs.Prelude.{⊤, if◌then◌else◌, is_ok, OnOk, Result, Ok, Err}
use Rattle.std.specs.declared.alloc.AllocError.{AllocError}
use Rattle.std.proofs.lemmas.List.{replicate-append-replicate, take-replicate}
use Rattle.tree_pack.proofs.building.put_zeros.Goals as goal

-- zeros after zeros
zeros_more : (out before : List ℕ) (done more all : ℕ) → out ≡ before ++ replicate done 0 → done + more ≡ all → out ++ replicate more 0 ≡ before ++ replicate all 0
zeros_more out before done more all is sum =
    ap (λ (x : List ℕ). x ++ replicate more 0) is ∙ append_assoc before (replicate done 0) (replicate more 0)
    ∙ ap (λ (x : List ℕ). before ++ x) (replicate-append-replicate done more 0 ∙ ap (λ (n : ℕ). replicate n 0) sum)

at_end : (result : Result ⊤ AllocError) (new old zeros all : List ℕ) → new ≡ (if is_ok result then old ++ zeros else old) → old ++ zeros ≡ all → OnOk result (new ≡ all)
at_end (Ok done) new old zeros all is same = is ∙ same
at_end (Err fault) new old zeros all is same = tt

pub rounds-preserved : goal.rounds-preserved
rounds-preserved c =
    let done = c.rounds.invariant in
    let le = done.0 in (
      omega (arith, le),
      c.in_ok-extend_from_slice.ensures.items ∙ zeros_more c.rounds.out.items c.args.out.now.items (c.args.count - c.rounds.left) 256 (c.args.count - (c.rounds.left - 256)) done.1 (omega (arith, le, c.rounds-test.true)),
    )

pub returns : goal.returns
returns c =
    let done = c.rounds.invariant in
    let le = done.0 in
    let few : c.rounds.left ≤ 256 = omega (arith, c.rounds-test.false) in
    at_end c.extend_from_slice-2.result c.extend_from_slice-2.new.self.items c.rounds.out.items (take c.rounds.left (replicate 256 0)) _ c.extend_from_slice-2.ensures.items
    (ap (λ (x : List ℕ). c.rounds.out.items ++ x) (take-replicate c.rounds.left 256 0 few)
    ∙ zeros_more c.rounds.out.items c.args.out.now.items (c.args.count - c.rounds.left) c.rounds.left c.args.count done.1 (omega (arith, le)))
