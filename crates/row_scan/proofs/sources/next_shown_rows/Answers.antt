use Rattle.row_scan.specs.Sources.{places_shown}
use Rattle.row_scan.proofs.SourceRows.{next_given, next_unread}
use Rattle.row_scan.proofs.sources.next_shown_rows.Goals as goal

pub returns-in_err-next_batch-clause-given : goal.returns-in_err-next_batch-clause-given
returns-in_err-next_batch-clause-given g c = λ told.
    (let gs = g.P.Pages in
    next_unread (gs.map c.args.pages.now) (gs.limits (gs.below c.args.pages.now)).page c.args.cursor.now.root (places_shown c.args.shown) c.args.own c.args.cursor.now.next c.next_batch.new.self.next c.next_batch.new.batch c.in_err-next_batch.field-0.0
    c.from_residual.result c.from_residual.ensures.1 (c.in_err-next_batch.ensures.given told))

pub returns-clause-given : goal.returns-clause-given
returns-clause-given g c = λ told.
    (let gs = g.P.Pages in
    next_given (gs.map c.args.pages.now) (gs.limits (gs.below c.args.pages.now)).page c.args.cursor.now.root (places_shown c.args.shown) c.args.own c.args.cursor.now.next c.next_batch.new.self.next c.next_batch.new.batch c.batch_rows.result
    c.batch_rows.ensures (c.in_ok-next_batch.ensures.given told))
