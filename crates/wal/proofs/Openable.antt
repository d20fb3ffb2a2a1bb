-- Why files are not opened, where the contents can be opened.
use Rattle.sqlval.proofs.PageSizeLemmas.{by_size}
use Rattle.sqlval.specs.PageSizes.{IsPageSize}
use Rattle.std.proofs.Common.{◌≡◌, inl, inr, ◌<◌, ◌/◌, ℕ, zero, suc, List, [], ◌∷◌, length, refl, sym, ◌∙◌, ap, subst, arith}
use Rattle.std.specs.Prelude.{Option, Some, None, Result, Ok, Err, MatchOption, IfErr, IsErrAnd}
use Rattle.std.proofs.Math.Nat.{mul-div_cancel}
use Rattle.std.proofs.lemmas.Bool.{cases_lt}
use Rattle.sqlval.specs.declared.fault.Fault.{Fault}
use Rattle.sqlval.specs.declared.fault.Fault.TheVariants.{Memory, Io, Damaged, Unsupported, NotADatabase, Full, Syntax, NoSuch, Exists, Ambiguous, Misuse, Busy, StaleSnapshot, NoTransaction, InTransaction, NoSavepoint, NotNull, Unique, Check, Raised, RealRefused, TypeRefused, RowidFull, RowidMismatch, TooLong, RowChangedBefore, ViewReadOnly, Blank, Journal, Failed}
use Rattle.sqlval.specs.declared.fault.Damage.TheVariants.{Header, Size, Page, Cell, FreeSpace, Record, Order, Depth, UsedTwice, Unused, Freelist, Schema, Index}
use Rattle.sqlval.specs.declared.fault.Feature.TheVariants.{Float, RealColumn, PageSize, FileVersion, ReservedBytes, SchemaFormat, Encoding, AutoVacuum, LogFormat, PageKind, ColumnCount, SchemaObject, Limit, Statement, StatementForm, Connection}
use Rattle.wal_frame.specs.declared.frame.FrameHeader.{FrameHeader}
use Rattle.wal_frame.specs.declared.log_header.LogHeader.{LogHeader}
use Rattle.wal_frame.specs.declared.progress.Scan.{Scan}
use Rattle.wal_frame.specs.Log.{header_in}
use Rattle.wal_frame.specs.Accepted.{IsScan, IsTooLong, IsScanOf, ReadsNone, heads_to}
use Rattle.wal.specs.Committed.{HasCommitted, AreCommitted}
use Rattle.wal.specs.Sizes.{IsViewSize, IsOfSize}
use Rattle.wal.specs.Opened.{CanOpen}
use Rattle.wal.specs.Refusals.{IsOpenRefusal}
use Rattle.wal.specs.View.{heads}
use Rattle.wal.proofs.Opened.{committed_read}

-- the committed frames of a log are so many and no others
committed_above : (h : LogHeader) (log : List ℕ) (m n : ℕ) → HasCommitted h log m → HasCommitted h log n → m < n → ⊥
committed_above h log m zero few many lt = absurd (omega (arith, lt))
committed_above h log m (suc k) few many lt = many.ends k refl (few.rest k (omega (arith, lt)) (λ j le. many.each j (omega (arith, le))))

pub committed_one : (h : LogHeader) (log : List ℕ) (m n : ℕ) → HasCommitted h log m → HasCommitted h log n → m ≡ n
committed_one h log m n one other = elim (cases_lt m n) [
  | inl less ↦ absurd (committed_above h log m n one other less)
  | inr no_less ↦ elim (cases_lt n m) [
    | inl greater ↦ absurd (committed_above h log n m other one greater)
    | inr no_greater ↦ omega (arith, no_less, no_greater)
  ]
]

abbrev header_told : Result (Option LogHeader) Fault → Option LogHeader
header_told (Ok header) = header
header_told (Err e) = None

-- the header that the log has
header_of_view : (page_size : ℕ) (counted : Option ℕ) (db log : List ℕ) (header : Option LogHeader) (can : CanOpen page_size counted db log) → header_in log ≡ Ok header → can.header ≡ header
header_of_view page_size counted db log header can is = ap header_told (sym can.header_is ∙ is)

-- a log of another format
pub other_format : (page_size : ℕ) (counted : Option ℕ) (db log : List ℕ) (e : Fault) → header_in log ≡ Err e → CanOpen page_size counted db log → ⊥
other_format page_size counted db log e is can = (let bad : Ok can.header ≡ Err e = sym can.header_is ∙ is in cc)

-- a log that is too long
pub too_long : (page_size : ℕ) (counted : Option ℕ) (db log : List ℕ) → IsTooLong log → CanOpen page_size counted db log → ⊥
too_long page_size counted db log long can =
    let are : AreCommitted log page_size (Some long.0) can.frames = subst (λ (o : Option LogHeader). AreCommitted log page_size o can.frames) (header_of_view page_size counted db log (Some long.0) can long.1) can.frames_are in
    long.2.ends (are.1.rest long.2.frame (omega (arith, can.few, long.2.past)) long.2.right)

-- a header of another page size
pub other_size : (page_size : ℕ) (counted : Option ℕ) (db log : List ℕ) (header : Option LogHeader) → header_in log ≡ Ok header → (IsOfSize header page_size → ⊥) → CanOpen page_size counted db log → ⊥
other_size page_size counted db log None is other can = other tt
other_size page_size counted db log (Some h) is other can =
    let are : AreCommitted log page_size (Some h) can.frames = subst (λ (o : Option LogHeader). AreCommitted log page_size o can.frames) (header_of_view page_size counted db log (Some h) can is) can.frames_are in
    other are.0

-- the frames that were read are those of the newest view
read_heads : (page_size : ℕ) (counted : Option ℕ) (db log : List ℕ) (scan : Scan) (header : Option LogHeader) (can : CanOpen page_size counted db log) → header_in log ≡ Ok header → MatchOption header (ReadsNone scan) (λ h. IsScanOf h log scan) → heads log header can.frames ≡ scan.frames.items
read_heads page_size counted db log scan None can is reads = sym reads.frames
read_heads page_size counted db log scan (Some h) can is reads =
    let are : AreCommitted log page_size (Some h) can.frames = subst (λ (o : Option LogHeader). AreCommitted log page_size o can.frames) (header_of_view page_size counted db log (Some h) can is) can.frames_are in
    let committed = committed_read h log reads.accepted (length scan.frames.items) (subst IsPageSize (sym are.0) can.page_size_is) reads.are_accepted reads.are_committed in
    ap (heads_to h log) (committed_one h log can.frames (length scan.frames.items) are.1 committed) ∙ sym reads.frames

-- so there is a size that the view has, and is supported
pub read_size : (page_size : ℕ) (counted : Option ℕ) (db log : List ℕ) (scan : Scan) (can : CanOpen page_size counted db log) → IsScan log scan → IsViewSize scan.frames.items counted (length db) page_size can.size
read_size page_size counted db log scan can scanned =
    let same : heads log can.header can.frames ≡ scan.frames.items =
    ap (λ (o : Option LogHeader). heads log o can.frames) (header_of_view page_size counted db log scan.header can scanned.0) ∙ read_heads page_size counted db log scan scan.header can scanned.0 scanned.1 in
    subst (λ (l : List FrameHeader). IsViewSize l counted (length db) page_size can.size) same can.size_is

-- and it has no other
pub one_size : (frames : List FrameHeader) (counted : Option ℕ) (db_len page_size a b : ℕ) → 0 < page_size → IsViewSize frames counted db_len page_size a → IsViewSize frames counted db_len page_size b → a ≡ b
one_size [] (Some count) db_len page_size a b some is_a is_b = is_a ∙ sym is_b
one_size [] None db_len page_size a b some is_a is_b = sym (mul-div_cancel a some) ∙ ap (λ (n : ℕ). n / page_size) (is_a ∙ sym is_b) ∙ mul-div_cancel b some
one_size (f ∷ fs) counted db_len page_size a b some is_a is_b = is_a ∙ sym is_b

-- a refusal for more reasons
pub refused_more : (A B C D : Type 0) (e : Fault) → IsOpenRefusal A B e → (A → C) → (B → D) → IsOpenRefusal C D e
refused_more A B C D Memory is call none = tt
refused_more A B C D Io is call none = call is
refused_more A B C D (Damaged Header number) is call none = (is.0, none is.1)
refused_more A B C D (Damaged Size number) is call none = (is.0, none is.1)
refused_more A B C D (Damaged Page number) is call none = absurd is
refused_more A B C D (Damaged Cell number) is call none = absurd is
refused_more A B C D (Damaged FreeSpace number) is call none = absurd is
refused_more A B C D (Damaged Record number) is call none = absurd is
refused_more A B C D (Damaged Order number) is call none = absurd is
refused_more A B C D (Damaged Depth number) is call none = absurd is
refused_more A B C D (Damaged UsedTwice number) is call none = absurd is
refused_more A B C D (Damaged Unused number) is call none = absurd is
refused_more A B C D (Damaged Freelist number) is call none = absurd is
refused_more A B C D (Damaged Schema number) is call none = absurd is
refused_more A B C D (Damaged Index number) is call none = absurd is
refused_more A B C D (Unsupported Float) is call none = absurd is
refused_more A B C D (Unsupported RealColumn) is call none = absurd is
refused_more A B C D (Unsupported PageSize) is call none = none is
refused_more A B C D (Unsupported FileVersion) is call none = absurd is
refused_more A B C D (Unsupported ReservedBytes) is call none = absurd is
refused_more A B C D (Unsupported SchemaFormat) is call none = absurd is
refused_more A B C D (Unsupported Encoding) is call none = absurd is
refused_more A B C D (Unsupported AutoVacuum) is call none = absurd is
refused_more A B C D (Unsupported LogFormat) is call none = none is
refused_more A B C D (Unsupported PageKind) is call none = absurd is
refused_more A B C D (Unsupported ColumnCount) is call none = absurd is
refused_more A B C D (Unsupported SchemaObject) is call none = absurd is
refused_more A B C D (Unsupported Limit) is call none = none is
refused_more A B C D (Unsupported Statement) is call none = absurd is
refused_more A B C D (Unsupported StatementForm) is call none = absurd is
refused_more A B C D (Unsupported Connection) is call none = absurd is
refused_more A B C D NotADatabase is call none = absurd is
refused_more A B C D Full is call none = absurd is
refused_more A B C D (Syntax at) is call none = absurd is
refused_more A B C D (NoSuch kind name) is call none = absurd is
refused_more A B C D (Exists name) is call none = absurd is
refused_more A B C D (Ambiguous name) is call none = absurd is
refused_more A B C D (Misuse misuse) is call none = absurd is
refused_more A B C D Busy is call none = absurd is
refused_more A B C D StaleSnapshot is call none = absurd is
refused_more A B C D NoTransaction is call none = absurd is
refused_more A B C D InTransaction is call none = absurd is
refused_more A B C D NoSavepoint is call none = absurd is
refused_more A B C D NotNull is call none = absurd is
refused_more A B C D Unique is call none = absurd is
refused_more A B C D Check is call none = absurd is
refused_more A B C D (Raised text) is call none = absurd is
refused_more A B C D RealRefused is call none = absurd is
refused_more A B C D TypeRefused is call none = absurd is
refused_more A B C D RowidFull is call none = absurd is
refused_more A B C D RowidMismatch is call none = absurd is
refused_more A B C D TooLong is call none = absurd is
refused_more A B C D RowChangedBefore is call none = absurd is
refused_more A B C D ViewReadOnly is call none = absurd is
refused_more A B C D Blank is call none = absurd is
refused_more A B C D Journal is call none = absurd is
refused_more A B C D Failed is call none = absurd is

-- so at a `?`
pub refused_so : {T : Type 0} (result : Result T Fault) (A B C D : Type 0) (fault : Fault) → IsErrAnd result (λ e. e ≡ fault) → IsOpenRefusal A B fault → (A → C) → (B → D) → IfErr result (λ e. IsOpenRefusal C D e)
refused_so (Ok x) A B C D fault same is call none = tt
refused_so (Err e) A B C D fault same is call none = subst (λ (f : Fault). IsOpenRefusal C D f) (sym same) (refused_more A B C D fault is call none)

pub some_size : (n : ℕ) → IsPageSize n → 0 < n
some_size = by_size (λ (n : ℕ). 0 < n) (omega arith) (omega arith) (omega arith) (omega arith) (omega arith) (omega arith) (omega arith) (omega arith)
