use Rattle.std.proofs.Common.{rules}
use Rattle.std.proofs.lemmas.Fn.{filter_same}
use Rattle.row_search.proofs.between.cut_off.Goals as goal

pub returns : goal.returns
returns c = filter_same _ _ _ (λ row b f' told. search rules) _ _ c.retain.ensures.filtered
