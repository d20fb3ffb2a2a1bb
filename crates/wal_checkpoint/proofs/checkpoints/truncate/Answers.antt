use Rattle.wal_checkpoint.proofs.Joining.{handed_on, joined, joined_meanwhile, may_empty, refused_later}
use Rattle.wal_checkpoint.proofs.checkpoints.truncate.Goals as goal

pub returns-in_err-cut_to_nothing-clause-crash : goal.returns-in_err-cut_to_nothing-clause-crash
returns-in_err-cut_to_nothing-clause-crash g c may =
    let first = c.in_ok-counts.ensures.done may in
    let mid = c.passive.new.log in
    joined_meanwhile c.args.log.now c.args.target mid c.cut_to_nothing.new.log first (c.passive.ensures.crash may) (c.cut_to_nothing.ensures.crash (may_empty c.args.log.now c.args.target mid first))

pub returns-clause-done : goal.returns-clause-done
returns-clause-done g c may =
    let first = c.in_ok-counts.ensures.done may in
    let mid = c.passive.new.log in
    let empty = may_empty c.args.log.now c.args.target mid first in
    joined c.args.log.now c.args.target mid c.cut_to_nothing.new.log c.args.is_alone c.if-not-is_alone.false first (c.cut_to_nothing.ensures.crash empty) (c.in_ok-cut_to_nothing.ensures.done empty)

pub returns-clause-crash : goal.returns-clause-crash
returns-clause-crash g c may =
    let first = c.in_ok-counts.ensures.done may in
    let mid = c.passive.new.log in
    joined_meanwhile c.args.log.now c.args.target mid c.cut_to_nothing.new.log first (c.passive.ensures.crash may) (c.cut_to_nothing.ensures.crash (may_empty c.args.log.now c.args.target mid first))

pub returns-in_err-counts-clause-refused : goal.returns-in_err-counts-clause-refused
returns-in_err-counts-clause-refused g c = handed_on c.args.log.now c.args.target c.passive.new.log c.from_residual.result c.in_err-counts.field-0.0 c.from_residual.ensures.1 c.in_err-counts.ensures.refused

pub returns-in_err-cut_to_nothing-clause-refused : goal.returns-in_err-cut_to_nothing-clause-refused
returns-in_err-cut_to_nothing-clause-refused g c =
    refused_later c.args.log.now c.args.target c.passive.new.log c.cut_to_nothing.new.log c.from_residual-in_err-cut_to_nothing.result c.in_err-cut_to_nothing.field-0.0 c.from_residual-in_err-cut_to_nothing.ensures.1
    c.in_err-cut_to_nothing.ensures.refused c.in_ok-counts.ensures.done
