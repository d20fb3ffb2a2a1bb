use Rattle.wal_frame.proofs.Fronts.{accepted_stay}
use Rattle.wal_frame.proofs.appending.accepted_frames_stay.Goals as goal

pub returns : goal.returns
returns c = accepted_stay
