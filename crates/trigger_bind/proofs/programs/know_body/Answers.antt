use Rattle.std.proofs.Common.{sym, subst, ◌+◌, ◌≡◌, List, suc, take, arith}
use Rattle.sql_syntax.specs.declared.create.TriggerStatement.{TriggerStatement}
use Rattle.catalog.specs.Listed.{listed_in, triggers_in}
use Rattle.trigger_bind.specs.Choosing.{sets_off_within}
use Rattle.trigger_bind.specs.Needs.{NotesThose}
use Rattle.trigger_bind.proofs.Bodies.{AreKnown, at_index, body_faults, known_next, knows_err, noted_next, refused_in, take_all, take_next}
use Rattle.trigger_bind.proofs.programs.know_body.Goals as goal

pub returns-in_err-know_statement-clause-known : goal.returns-in_err-know_statement-clause-known
returns-in_err-know_statement-clause-known c = λ rows_at db rows outer of.
    knows_err (body_faults db (record { scope = c.args.outer.now; rows = rows }) c.args.body.now) c.in_err-know_statement.field-0.0 c.from_residual.result c.from_residual.ensures.1
    (refused_in db (record { scope = c.args.outer.now; rows = rows }) c.args.body.now c.statement-item.result c.in_err-know_statement.field-0.0
    (at_index c.args.body.now c.body.statement-index c.statement-item.result c.body-test.true c.statement-item.is) (c.in_err-know_statement.ensures.known rows_at db rows outer of))

pub body-preserved : goal.body-preserved
body-preserved c =
    let next : c.body.statement-index + 1 ≡ suc c.body.statement-index = omega arith in
    let more = take_next c.args.body.now c.body.statement-index (c.body.statement-index + 1) c.statement-item.result next c.body-test.true c.statement-item.is in (
      subst (λ (ss : List TriggerStatement). AreKnown (listed_in c.args.catalog.now) c.args.outer.now ss) (sym more)
          (known_next (listed_in c.args.catalog.now) c.args.outer.now (take c.body.statement-index c.args.body.now) c.statement-item.result c.body.invariant.0 c.in_ok-know_statement.ensures.known),
      subst (λ (ss : List TriggerStatement). NotesThose (triggers_in c.args.catalog.now) (sets_off_within ss) c.args.needs.now c.know_statement.new.needs) (sym more)
          (noted_next (triggers_in c.args.catalog.now) (take c.body.statement-index c.args.body.now) c.statement-item.result c.args.needs.now c.body.needs c.know_statement.new.needs c.body.invariant.1 c.in_ok-know_statement.ensures.noted),
    )

pub returns-clause-known : goal.returns-clause-known
returns-clause-known c = subst (λ (ss : List TriggerStatement). AreKnown (listed_in c.args.catalog.now) c.args.outer.now ss) (take_all c.args.body.now c.body.statement-index c.body-test.false) c.body.invariant.0
