use Rattle.std.proofs.Common.{ap, sym, ◌∙◌}
use Rattle.std.specs.Prelude.{option_map}
use Rattle.query_terms.proofs.Picked.{picked_cell}
use Rattle.query_terms.specs.Values.{at_row}
use Rattle.query_terms.proofs.rows.Env.cell.Goals as goal

pub returns-in-Some : goal.returns-in-Some
returns-in-Some c =
    c.at.ensures ∙ (ap (λ o. at_row o c.args.place) (ap (option_map (λ r. r.now)) (sym c.in-Some.is) ∙ c.row.ensures) ∙ picked_cell c.args.self.now.sources.now c.args.self.now.picked.now c.args.source c.args.place)

pub returns-in-None : goal.returns-in-None
returns-in-None c =
    ap (λ o. at_row o c.args.place) (ap (option_map (λ r. r.now)) (sym c.in-None.is) ∙ c.row.ensures) ∙ picked_cell c.args.self.now.sources.now c.args.self.now.picked.now c.args.source c.args.place
