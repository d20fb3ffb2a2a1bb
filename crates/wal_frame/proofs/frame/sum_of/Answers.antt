use Rattle.std.proofs.Common.{◌∙◌, ap, sym, take, drop, arith, length-take}
use Rattle.std.proofs.lemmas.List.{take_rest}
use Rattle.wal_frame.specs.declared.sums.Sum.{Sum}
use Rattle.wal_frame.specs.Sums.{words, carried}
use Rattle.wal_frame.proofs.Carrying.{carried_both}
use Rattle.wal_frame.proofs.frame.sum_of.Goals as goal

pub returns : goal.returns
returns c =
    let frame = c.args.frame.now in
    let order = c.args.log.now.order in
    c.step-2.ensures ∙ ap (λ l. carried c.step.result (words order l)) (take_rest frame 24) ∙ ap (λ (s : Sum). carried s (words order (drop 24 frame))) c.step.ensures
    ∙ sym (carried_both order 1 c.args.before (take 8 frame) (drop 24 frame) (omega (arith, c.requires, length-take 8 frame)))
