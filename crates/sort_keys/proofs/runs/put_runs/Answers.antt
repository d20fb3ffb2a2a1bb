use Rattle.std.proofs.Common.{◌≡◌, ◌∙◌, ◌∷◌, ◌++◌, ◌+◌, [], arith, rules, take}
use Rattle.std.proofs.lemmas.List.{take_rest}
use Rattle.sort_keys.proofs.Parts.{run_on}
use Rattle.sort_keys.proofs.runs.put_runs.Goals as goal

pub runs-preserved : goal.runs-preserved
runs-preserved c =
    let n = c.run_len-run.result in
    let rest = c.runs.rest.now in
    let first : c.extend_from_slice.new.self.items ≡ c.runs.out.items ++ take n rest = search rules in
    let both : c.extend_from_slice-in-runs.new.self.items ≡ (c.runs.out.items ++ take n rest) ++ 0 ∷ 255 ∷ [] = search (rules, first) in
    run_on c.runs.out.items rest c.extend_from_slice-in-runs.new.self.items _ n (omega (arith, c.run_len-run.ensures.small)) c.run_len-run.ensures.run (c.run_len-run.ensures.zero (omega (arith, c.run_len-run.ensures.small))) both (take_rest rest (n + 1))
    ∙ c.runs.invariant
