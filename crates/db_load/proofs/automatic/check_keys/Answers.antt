use Rattle.std.proofs.Common.{◌∙◌, sym}
use Rattle.std.proofs.lemmas.Bool.{false≢true}
use Rattle.db_load.specs.Reading.{has_all_keys}
use Rattle.db_load.proofs.KeyRows.{all_shared}
use Rattle.db_load.proofs.automatic.check_keys.Goals as goal

pub returns-then-have_all_keys-clause-found : goal.returns-then-have_all_keys-clause-found
returns-then-have_all_keys-clause-found c = sym (all_shared has_all_keys c.args.tables.now) ∙ (sym c.have_all_keys.ensures ∙ c.if-have_all_keys.true)

pub returns-else-have_all_keys-clause-only : goal.returns-else-have_all_keys-clause-only
returns-else-have_all_keys-clause-only c = λ all. absurd (false≢true (sym c.if-have_all_keys.false ∙ (c.have_all_keys.ensures ∙ (all_shared has_all_keys c.args.tables.now ∙ all))))
