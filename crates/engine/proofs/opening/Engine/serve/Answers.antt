use Rattle.std.proofs.Common.{rules}
use Rattle.engine.specs.Replies.{reply_of}
use Rattle.engine.proofs.Served.{begins, ended, goes_on, on_err, served_in_part, stops_short}
use Rattle.engine.proofs.opening.Engine.serve.Goals as goal

pub lines-init : goal.lines-init
lines-init g c = begins _ _ _

pub lines-preserved : goal.lines-preserved
lines-preserved g c =
    goes_on c.args.self.now c.lines.self c.answer-reply.new.self c.in_ok-read_line.field-0 (g.I.Read.remaining c.args.input.now) (g.I.Read.remaining c.lines.input) (g.I.Read.remaining c.read_line.new.input)
    (g.O.Write.contents c.args.output.now) (g.O.Write.contents c.lines.output) (g.O.Write.contents c.write_reply.new.output)
    c.read_line.new.line.items c.deref.result.now (reply_of c.answer-reply.result) (search rules) c.deref.ensures.value
    c.lines.invariant c.in_ok-read_line.ensures.read c.answer-reply.ensures c.in_ok-write_reply.ensures.written

pub returns-in_err-read_line-clause-refused : goal.returns-in_err-read_line-clause-refused
returns-in_err-read_line-clause-refused g c =
    on_err _ _ (served_in_part c.args.self.now c.lines.self (g.I.Read.remaining c.args.input.now) (g.I.Read.remaining c.lines.input) (g.O.Write.contents c.args.output.now) (g.O.Write.contents c.lines.output) c.lines.invariant)

pub returns-then-not-branch-clause-served : goal.returns-then-not-branch-clause-served
returns-then-not-branch-clause-served g c =
    ended c.args.self.now c.lines.self c.in_ok-read_line.field-0 (g.I.Read.remaining c.args.input.now) (g.I.Read.remaining c.lines.input) (g.I.Read.remaining c.read_line.new.input)
    (g.O.Write.contents c.args.output.now) (g.O.Write.contents c.lines.output) c.read_line.new.line.items (search rules) c.lines.invariant c.in_ok-read_line.ensures.read

pub returns-in_err-write_reply-clause-refused : goal.returns-in_err-write_reply-clause-refused
returns-in_err-write_reply-clause-refused g c =
    on_err _ _ (stops_short c.args.self.now c.lines.self c.answer-reply.new.self c.in_ok-read_line.field-0 (g.I.Read.remaining c.args.input.now) (g.I.Read.remaining c.lines.input) (g.I.Read.remaining c.read_line.new.input)
    (g.O.Write.contents c.args.output.now) (g.O.Write.contents c.lines.output) (g.O.Write.contents c.write_reply.new.output)
    c.read_line.new.line.items c.deref.result.now (reply_of c.answer-reply.result) (search rules) c.deref.ensures.value
    c.lines.invariant c.in_ok-read_line.ensures.read c.answer-reply.ensures c.in_err-write_reply.ensures.refused)

pub returns-clause-refused : goal.returns-clause-refused
returns-clause-refused g c =
    served_in_part c.args.self.now c.lines.self (g.I.Read.remaining c.args.input.now) (g.I.Read.remaining c.lines.input) (g.O.Write.contents c.args.output.now) (g.O.Write.contents c.lines.output) c.lines.invariant
