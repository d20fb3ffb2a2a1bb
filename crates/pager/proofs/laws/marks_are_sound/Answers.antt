use Rattle.pager.proofs.Backing.{back_consistent, back_sees, back_sound}
use Rattle.pager.proofs.laws.marks_are_sound.Goals as goal

pub returns-clause-sound : goal.returns-clause-sound
returns-clause-sound c = λ was back same over. (back_consistent was back same over, back_sound was back same over)

pub returns-clause-sees : goal.returns-clause-sees
returns-clause-sees c = back_sees
