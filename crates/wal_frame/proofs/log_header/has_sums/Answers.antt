use Rattle.std.proofs.Common.{◌∙◌, ap, arith, take, length-take}
use Rattle.std.proofs.lemmas.List.{take_rest}
use Rattle.wal_frame.specs.declared.sums.Sum.{Sum}
use Rattle.wal_frame.specs.Log.{same_sum, sum_at}
use Rattle.wal_frame.specs.Sums.{words, carried, zero_sum}
use Rattle.wal_frame.proofs.log_header.has_sums.Goals as goal

pub slice_bounds-step-end : goal.slice_bounds-step-end
slice_bounds-step-end c = omega (arith, c.requires, length-take 24 c.args.bytes.now)

pub returns : goal.returns
returns c =
    c.eq.ensures ∙ ap (λ (s : Sum). same_sum s c.sum_in.result) c.step.ensures
    ∙ ap (same_sum (carried zero_sum (words c.args.order (take 24 c.args.bytes.now)))) (c.sum_in.ensures ∙ ap (sum_at 0) (take_rest c.args.bytes.now 24))
