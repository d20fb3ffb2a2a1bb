-- Older frames that stand after those that count (Database File Format, "WAL Reset": each header has a greater first salt than the one before it).
use Rattle.std.specs.Prelude.{◌≡◌, ◌<◌, ◌≤◌, ℕ, suc, Bool, true, false, List, length}
use Rattle.wal_frame.specs.declared.log_header.LogHeader.{LogHeader}
use Rattle.wal_frame.specs.Log.{salts_at}
use Rattle.wal_frame.specs.Accepted.{frame_start, frame_at}

-- Each whole place of a frame, from the nth on, has a smaller first salt than the header: what stands there was written under an older one.
pub record IsStaleFrom (h : LogHeader) (n : ℕ) (log : List ℕ) : Type 0 where
  pub older : (k : ℕ) → n ≤ k → frame_start h (suc k) ≤ length log → (salts_at 8 (frame_at h log k)).first < h.salts.first

-- After the committed frames of a log nothing stands but older ones, and in a log without a header nothing at all.
pub record HasCleanTail (h : LogHeader) (is_begun : Bool) (mark : ℕ) (log : List ℕ) : Type 0 where
  pub stale : is_begun ≡ true → IsStaleFrom h mark log
  pub none : is_begun ≡ false → length log ≡ 0
