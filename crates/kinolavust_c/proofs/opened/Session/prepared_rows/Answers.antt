use Rattle.std.proofs.Common.{length, ap, sym, ◌∙◌}
use Rattle.engine.specs.EngineState.{has_failed_of}
use Rattle.engine.specs.Preparing.{parameters_in}
use Rattle.kinolavust_c.specs.Slots.{RunsWith}
use Rattle.kinolavust_c.proofs.Taking.{as_many, beside, ok_is_no_err}
use Rattle.kinolavust_c.proofs.opened.Session.prepared_rows.Goals as goal

pub returns-clause-taken : goal.returns-clause-taken
returns-clause-taken c =
    let statement = c.in-Some.statement.now in
    let rows = c.in_ok-rows.rows in
    let count = as_many (has_failed_of c.args.self.now.engine) (length c.as_slice.result.now) (parameters_in statement)
    (λ has. ok_is_no_err rows _ (c.in_ok-rows.ensures.failed has).0)
    (λ hasn none. ok_is_no_err rows _ (c.in_ok-rows.ensures.numbered hasn none).0)
    (λ hasn some apart. ok_is_no_err rows _ (c.in_ok-rows.ensures.placed hasn some apart).0) in
    beside (RunsWith c.args.self.now.slots c.args.slot c.args.values.now) c.bytes_in.result
    (statement, sym c.in-Some.ensures, (c.in_ok-values.values.items, ap length (sym c.as_slice.ensures.value) ∙ count, c.in_ok-values.ensures.found))
