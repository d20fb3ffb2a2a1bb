use Rattle.wal_frame.specs.Sums.{words, zero_sum}
use Rattle.wal_frame.specs.Accepted.{summed_to}
use Rattle.wal_frame.proofs.Laws.{all_written, carried_fits, header_back, zero_fits}
use Rattle.wal_frame.proofs.appending.written_frames_are_accepted.Goals as goal

pub returns-clause-header : goal.returns-clause-header
returns-clause-header c = header_back

pub returns-clause-frames : goal.returns-clause-frames
returns-clause-frames c = λ h front n fs rest size salts all_fits start each.
    all_written h front n fs rest size salts all_fits (carried_fits zero_sum (words h.order (summed_to h front n)) zero_fits) start each
