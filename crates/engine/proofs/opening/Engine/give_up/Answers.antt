use Rattle.engine.proofs.GivenUp.{given_up_shows}
use Rattle.engine.proofs.opening.Engine.give_up.Goals as goal

pub returns : goal.returns
returns g c = record {
  files = c.give_up_all.ensures.files;
  gone = c.give_up_all.ensures.gone;
  shown = λ m. given_up_shows c.args.self.now.connections c.give_up_all.new.self c.give_up_all.ensures.files c.give_up_all.ensures.gone m;
}
