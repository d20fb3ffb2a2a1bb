use Rattle.std.proofs.Common.{◌≡◌, List, Ok, rules, subst, ℕ}
use Rattle.query_terms.specs.Outcome.{IsRefusedBy}
use Rattle.query_terms.specs.Terms.{Term}
use Rattle.query_terms.specs.Values.{Row}
use Rattle.trigger.specs.Effects.{view_row}
use Rattle.executor_programs.specs.Rows.{set_beside}
use Rattle.executor_programs.proofs.SeenRows.{is_updated, not_updated}
use Rattle.executor_programs.proofs.seen.updated_row.Goals as goal

pub returns-in_err-set-clause-updated : goal.returns-in_err-set-clause-updated
returns-in_err-set-clause-updated c = λ seen shows.
    not_updated (λ rows. rows.items) seen c.args.act.now.sets.items c.args.row.now c.from_residual-in_err-set.result c.in_err-set.field-0.0 c.from_residual-in_err-set.ensures.1
    (subst (λ (sets : List (ℕ × Term)). IsRefusedBy (set_beside seen sets c.args.row.now) c.in_err-set.field-0.0) c.deref.ensures.value
    (subst (λ (r : Row). IsRefusedBy (set_beside seen c.deref.result.now r) c.in_err-set.field-0.0) c.in_ok-own.ensures (c.in_err-set.ensures.set seen shows)))

pub returns-clause-updated : goal.returns-clause-updated
returns-clause-updated c = λ seen shows.
    (let new : c.made-new.result ≡ view_row c.in_ok-set.set.items = search rules in
    is_updated (λ rows. rows.items) seen c.args.act.now.sets.items c.args.row.now c.in_ok-set.set.items c.made-new.result c.in_ok-row_copy.field-0 c.both_rows.result
    (subst (λ (sets : List (ℕ × Term)). set_beside seen sets c.args.row.now ≡ Ok c.in_ok-set.set.items) c.deref.ensures.value
    (subst (λ (r : Row). set_beside seen c.deref.result.now r ≡ Ok c.in_ok-set.set.items) c.in_ok-own.ensures (c.in_ok-set.ensures.set seen shows)))
    new c.in_ok-row_copy.ensures c.both_rows.ensures)
