use Rattle.std.proofs.Common.{refl, sym, ◌∙◌}
use Rattle.std.proofs.lemmas.Bool.{false≢true}
use Rattle.session.proofs.transactions.Connections.begin_reading.Goals as goal

pub returns-then-is_begun : goal.returns-then-is_begun
returns-then-is_begun g c = record {
  files = refl;
  beside = refl;
  catalog = refl;
  begun = λ is. (c.begin.result, refl, record { seen = c.begin.ensures.seen; sized = c.begin.ensures.size });
  other = λ is. absurd (false≢true (sym is ∙ sym c.is_begun.ensures ∙ c.if-is_begun.true));
}
