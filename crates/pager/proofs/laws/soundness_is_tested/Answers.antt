use Rattle.pager.proofs.Sounding.{begun_is_sound, sound_from, sound_to}
use Rattle.pager.proofs.laws.soundness_is_tested.Goals as goal

pub returns-clause-tested : goal.returns-clause-tested
returns-clause-tested c = λ writer. (sound_from writer, sound_to writer)

pub returns-clause-begun : goal.returns-clause-begun
returns-clause-begun c = begun_is_sound
