use Rattle.std.proofs.Common.{◌≡◌, ◌∙◌, ◌<◌, ap, rules, subst, sym, true, ℕ}
use Rattle.query_names.specs.Readings.{env_of}
use Rattle.query_terms.specs.Values.{cell}
use Rattle.executor_programs.proofs.BesideRows.{shown}
use Rattle.executor_programs.proofs.ChosenRows.{counted_outer}
use Rattle.executor_programs.proofs.Settled.{cell_settled}
use Rattle.executor_programs.proofs.seeking.settled_cell.Goals as goal

pub returns-clause-settled : goal.returns-clause-settled
returns-clause-settled c = λ seen shows before collation.
    (let stays : c.stays_beside.result ≡ true = search rules in
    let is : c.in_ok-value.value ≡ cell (env_of seen.rows) c.args.source c.args.place =
    c.in_ok-value.ensures
    ∙ (c.cell.ensures
    ∙ ap (λ env. cell env c.args.source c.args.place)
    (c.env_at.ensures ∙ ap env_of (shown c.args.outer.rows.now seen.rows c.deref.result.now shows.rows (c.deref.ensures.value ∙ c.in_ok-picked.ensures)))) in
    cell_settled seen.rows c.args.own c.in_ok-value.value c.literal.result c.literal.ensures.valued c.literal.ensures.plain c.literal.ensures.bare c.args.source c.args.place collation
    (subst (λ (n : ℕ). c.args.source < n) (sym (counted_outer c.args.outer.rows.now seen.rows shows.rows)) before) is (c.stays_beside.ensures.same stays))
