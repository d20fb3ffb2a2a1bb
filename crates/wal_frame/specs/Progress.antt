-- What has been read of a log so far.
use Rattle.std.specs.Prelude.{◌≡◌, ◌≤◌, ◌<◌, ◌+◌, ◌==◌, ℕ, List, [], ◌∷◌, ◌++◌, length, MatchBool}
use Rattle.wal_frame.specs.declared.frame.FrameHeader.{FrameHeader}
use Rattle.wal_frame.specs.declared.log_header.LogHeader.{LogHeader}
use Rattle.wal_frame.specs.declared.progress.Progress.{Progress}
use Rattle.wal_frame.specs.declared.sums.Sum.{Sum}
use Rattle.wal_frame.specs.Accepted.{IsFrame, IsCommitted, heads_to, sum_to, frame_start, HasAccepted}

-- the committed part is as it was
pub record SamePart (old new : Progress) : Type 0 where
  pub committed : new.committed ≡ old.committed
  pub sum : new.committed_sum ≡ old.committed_sum
  pub end : new.end ≡ old.end

-- the committed part is all that was read
pub record WholePart (new : Progress) : Type 0 where
  pub committed : new.committed ≡ length new.frames.items
  pub few : length new.frames.items ≤ 1000000
  pub sum : new.committed_sum ≡ new.sum
  pub end : new.end ≡ new.at

-- one frame more was read, of so many bytes, and these are the sums carried over it
pub record Accepts (frame : FrameHeader) (sum : Sum) (size : ℕ) (old new : Progress) : Type 0 where
  pub frames : new.frames.items ≡ old.frames.items ++ frame ∷ []
  pub sums : new.sum ≡ sum
  pub at : new.at ≡ old.at + size
  pub part : MatchBool (frame.size == 0) (SamePart old new) (WholePart new)

-- the bytes that were read are those of so many frames
pub record IsMeasured (h : LogHeader) (progress : Progress) : Type 0 where
  pub at : progress.at ≡ frame_start h (length progress.frames.items)
  pub part : progress.committed ≤ length progress.frames.items
  pub few : progress.committed ≤ 1000000

-- it is what the log has
pub record IsRead (h : LogHeader) (log : List ℕ) (progress : Progress) : Type 0 where
  pub each : (k : ℕ) → k < length progress.frames.items → IsFrame h log k
  pub frames : progress.frames.items ≡ heads_to h log (length progress.frames.items)
  pub sum : progress.sum ≡ sum_to h log (length progress.frames.items)
  pub part : IsCommitted h log (length progress.frames.items) progress.committed
  pub part_sum : progress.committed_sum ≡ sum_to h log progress.committed
  pub part_end : progress.end ≡ frame_start h progress.committed

-- and no more frames are accepted
pub record IsReadWhole (h : LogHeader) (log : List ℕ) (progress : Progress) : Type 0 where
  pub read : IsRead h log progress
  pub are_accepted : HasAccepted h log (length progress.frames.items)
