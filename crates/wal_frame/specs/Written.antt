-- The frames that a writer makes (Database File Format, "WAL File Format").
use Rattle.std.specs.Prelude.{◌≡◌, ◌<◌, ◌^◌, ℕ, List, [], ◌∷◌, ◌++◌, length}
use Rattle.wal_frame.specs.declared.frame.FrameHeader.{FrameHeader}
use Rattle.wal_frame.specs.declared.log_header.LogHeader.{LogHeader}
use Rattle.wal_frame.specs.declared.log_header.Salts.{Salts}
use Rattle.wal_frame.specs.declared.sums.Sum.{Sum}
use Rattle.wal_frame.specs.Log.{frame_sum, frame_bytes}

-- a frame that is to be written
pub record Framed : Type 0 where
  pub head : FrameHeader
  pub page : List ℕ

-- the sums carried over it
abbrev pub sum_of_framed : LogHeader → Sum → Framed → Sum
sum_of_framed h before f = frame_sum h.order before f.head f.page

-- the bytes of frames, one after the other
abbrev pub written : LogHeader → Sum → List Framed → List ℕ
written h before [] = []
written h before (f ∷ fs) = frame_bytes h.salts (sum_of_framed h before f) f.head f.page ++ written h (sum_of_framed h before f) fs

-- the sums carried over all of them
abbrev pub sum_after : LogHeader → Sum → List Framed → Sum
sum_after h before [] = before
sum_after h before (f ∷ fs) = sum_after h (sum_of_framed h before f) fs

-- salts of 32 bits each
pub record SaltsFit (salts : Salts) : Type 0 where
  pub first : salts.first < 2 ^ 32
  pub second : salts.second < 2 ^ 32

-- a header whose fields have 32 bits each
pub record HeaderFits (h : LogHeader) : Type 0 where
  pub page_size : h.page_size < 2 ^ 32
  pub sequence : h.sequence < 2 ^ 32
  pub salts : SaltsFit h.salts

-- a frame whose fields have 32 bits each, and whose page has the log's size
pub record FramedFits (h : LogHeader) (f : Framed) : Type 0 where
  pub page : f.head.page < 2 ^ 32
  pub size : f.head.size < 2 ^ 32
  pub bytes : length f.page ≡ h.page_size

-- each of these frames fits
abbrev pub AllFit : LogHeader → List Framed → Type 0
AllFit h [] = Unit {0}
AllFit h (f ∷ fs) = FramedFits h f × AllFit h fs
