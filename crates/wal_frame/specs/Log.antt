-- The bytes of a log (Database File Format, "WAL File Format").
use Rattle.std.specs.Prelude.{ℕ, Bool, ◌==◌, ◌&&◌, nat_lt, if◌then◌else◌, List, ◌++◌, length, take, drop, Option, Some, None, Result, Ok, Err}
use Rattle.byteorder.specs.Endian.{big_bytes, big_number}
use Rattle.sqlval.specs.declared.fault.Fault.{Fault}
use Rattle.sqlval.specs.declared.fault.Fault.TheVariants.{Unsupported}
use Rattle.sqlval.specs.declared.fault.Feature.TheVariants.{LogFormat}
use Rattle.wal_frame.specs.declared.frame.FrameHeader.{FrameHeader}
use Rattle.wal_frame.specs.declared.log_header.LogHeader.{LogHeader}
use Rattle.wal_frame.specs.declared.log_header.Salts.{Salts}
use Rattle.wal_frame.specs.declared.sums.Sum.{Sum}
use Rattle.wal_frame.specs.declared.sums.WordOrder.{WordOrder}
use Rattle.wal_frame.specs.declared.sums.WordOrder.TheVariants.{Big, Little}
use Rattle.wal_frame.specs.Sums.{words, carried, zero_sum}

-- the number of four bytes from an offset on
abbrev pub number_at : ℕ → List ℕ → ℕ
number_at at bytes = big_number 4 (drop at bytes)

-- the sums that stand at an offset
abbrev pub sum_at : ℕ → List ℕ → Sum
sum_at at bytes = record { first = number_at 0 (drop at bytes); second = number_at 4 (drop at bytes) }

-- the salts that stand at an offset
abbrev pub salts_at : ℕ → List ℕ → Salts
salts_at at bytes = record { first = number_at 0 (drop at bytes); second = number_at 4 (drop at bytes) }

-- the number that a log of this order begins with
abbrev pub magic_told : WordOrder → ℕ
magic_told Big = 0x377f0683
magic_told Little = 0x377f0682

-- the order that it tells
abbrev pub order_told : ℕ → Option WordOrder
order_told magic = if magic == 0x377f0683 then Some Big else if magic == 0x377f0682 then Some Little else None

-- the 24 bytes of a header before its sums
abbrev pub header_front : LogHeader → List ℕ
header_front h =
    big_bytes 4 (magic_told h.order) ++ (big_bytes 4 3007000 ++ (big_bytes 4 h.page_size ++ (big_bytes 4 h.sequence ++ (big_bytes 4 h.salts.first ++ big_bytes 4 h.salts.second))))

-- the header's sums
abbrev pub header_sum : LogHeader → Sum
header_sum h = carried zero_sum (words h.order (header_front h))

-- the 8 bytes of two sums
abbrev pub sum_bytes : Sum → List ℕ
sum_bytes sum = big_bytes 4 sum.first ++ big_bytes 4 sum.second

-- the 32 bytes of a header
abbrev pub header_bytes : LogHeader → List ℕ
header_bytes h = header_front h ++ sum_bytes (header_sum h)

-- what the header's fields say
abbrev pub fields_in : WordOrder → List ℕ → LogHeader
fields_in order bytes = record { order = order; page_size = number_at 8 bytes; sequence = number_at 12 bytes; salts = salts_at 16 bytes }

-- the same sums
abbrev pub same_sum : Sum → Sum → Bool
same_sum s t = s.first == t.first && s.second == t.second

abbrev pub same_salts : Salts → Salts → Bool
same_salts s t = s.first == t.first && s.second == t.second

-- whether the sums of the first 24 bytes stand after them
abbrev pub is_summed : WordOrder → List ℕ → Bool
is_summed order bytes = same_sum (carried zero_sum (words order (take 24 bytes))) (sum_at 24 bytes)

-- the header, where it is of the one format that is supported
abbrev pub header_of_format : WordOrder → List ℕ → Result (Option LogHeader) Fault
header_of_format order bytes = if number_at 4 bytes == 3007000 then Ok (Some (fields_in order bytes)) else Err (Unsupported LogFormat)

-- the header in bytes that begin with the magic number of this order: none where the sums of the first 24 don't stand after them
abbrev pub header_by : Option WordOrder → List ℕ → Result (Option LogHeader) Fault
header_by None bytes = Ok None
header_by (Some order) bytes = if is_summed order bytes then header_of_format order bytes else Ok None

-- the header that a log begins with, where it is valid; one of another format is refused
abbrev pub header_in : List ℕ → Result (Option LogHeader) Fault
header_in bytes = if nat_lt (length bytes) 32 then Ok None else header_by (order_told (number_at 0 bytes)) bytes

-- the first 8 bytes of a frame
abbrev pub frame_front : FrameHeader → List ℕ
frame_front f = big_bytes 4 f.page ++ big_bytes 4 f.size

-- the sums carried over a frame of this page
abbrev pub frame_sum : WordOrder → Sum → FrameHeader → List ℕ → Sum
frame_sum order before f page = carried before (words order (frame_front f ++ page))

-- the 24 bytes before the page, where these are the sums carried over the frame
abbrev pub frame_head : Salts → Sum → FrameHeader → List ℕ
frame_head salts sum f = frame_front f ++ (big_bytes 4 salts.first ++ (big_bytes 4 salts.second ++ sum_bytes sum))

-- a frame's bytes
abbrev pub frame_bytes : Salts → Sum → FrameHeader → List ℕ → List ℕ
frame_bytes salts sum f page = frame_head salts sum f ++ page

-- what the first 8 bytes of a frame say
abbrev pub frame_of : List ℕ → FrameHeader
frame_of frame = record { page = number_at 0 frame; size = number_at 4 frame }

-- the part of a frame that its sums go over
abbrev pub summed : List ℕ → List ℕ
summed frame = take 8 frame ++ drop 24 frame

-- the sums that are to stand in a frame
abbrev pub sum_over : LogHeader → Sum → List ℕ → Sum
sum_over h before frame = carried before (words h.order (summed frame))

-- whether a frame has the header's salts and these sums
abbrev pub is_frame : LogHeader → Sum → List ℕ → Bool
is_frame h sum frame = same_salts (salts_at 8 frame) h.salts && same_sum (sum_at 16 frame) sum
