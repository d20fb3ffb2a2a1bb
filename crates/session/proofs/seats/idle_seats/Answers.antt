use Rattle.std.proofs.Common.{refl, sym, ap, subst, ◌∙◌, length, arith}
use Rattle.std.proofs.lemmas.List.{length_push}
use Rattle.std.specs.List.{AllByRecursion}
use Rattle.session.specs.Seats.{IsIdleSeat}
use Rattle.session.specs.declared.seats.Transaction.TheVariants as transaction
use Rattle.session.proofs.SavedStates.{all_push}
use Rattle.session.proofs.seats.idle_seats.Goals as goal

pub seats-init : goal.seats-init
seats-init c = (subst (AllByRecursion IsIdleSeat) (sym c.new-seats.ensures.items) tt, ap length c.new-seats.ensures.items)

pub seats-preserved : goal.seats-preserved
seats-preserved c = (
  subst (AllByRecursion IsIdleSeat) (sym c.in_ok-push.ensures.items) (all_push IsIdleSeat c.seats.seats.items (record { transaction = transaction.Idle; catalog = c.new.result }) c.seats.invariant.0 (record { idle = refl; all = c.new.ensures.current ∙ sym c.new.ensures.committed; savepoints = c.new.ensures.none })),
  omega (arith, ap length c.in_ok-push.ensures.items, length_push c.seats.seats.items (record { transaction = transaction.Idle; catalog = c.new.result }), c.seats.invariant.1),
)
