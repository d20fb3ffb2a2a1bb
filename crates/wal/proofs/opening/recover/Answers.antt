use Rattle.sqlval.specs.PageSizes.{is_size}
use Rattle.std.proofs.Common.{◌≡◌, ◌∙◌, List, ℕ, true, false, length, sym, ap, subst, arith, rules}
use Rattle.disk.specs.File.{File}
use Rattle.wal_frame.specs.declared.frame.FrameHeader.{FrameHeader}
use Rattle.wal_frame.specs.Accepted.{IsScan}
use Rattle.wal.specs.Indexed.{IsIndexTo, EachFrame, IsOfHead, HasEach, pages_said}
use Rattle.wal.specs.Sizes.{IsViewSize, IsSizeWithinLimits}
use Rattle.wal.specs.Stands.{LogStands}
use Rattle.sqlval.proofs.PageSizeLemmas.{size_is}
use Rattle.wal.proofs.Openable.{other_size, read_size, one_size, some_size, refused_so}
use Rattle.wal.proofs.Opened.{IsRead, opened, known_read}
use Rattle.wal.proofs.opening.recover.Goals as goal

pub returns-in_err-header-clause-refused : goal.returns-in_err-header-clause-refused
returns-in_err-header-clause-refused g c =
    refused_so c.from_residual-in_err-header.result _ _ _ _ _ c.from_residual-in_err-header.ensures.1 c.in_err-header.ensures.refused (λ none. absurd none)
    (λ other told_db told can. other_size c.args.page_size c.args.counted_size (g.D.Disk.file c.args.db.now).content (g.D.Disk.file c.args.log.now).content c.in_ok-scanned.scanned.header (c.in_ok-scanned.ensures.found told).0 other can)

pub returns-in_err-size-clause-refused : goal.returns-in_err-size-clause-refused
returns-in_err-size-clause-refused g c =
    refused_so c.from_residual-in_err-size.result _ _ _ _ _ c.from_residual-in_err-size.ensures.1 c.in_err-size.ensures.refused (λ none. absurd none)
    (λ other told_db told can.
    let db = (g.D.Disk.file c.args.db.now).content in
    let scan = c.in_ok-scanned.scanned in
    let is = read_size c.args.page_size c.args.counted_size db (g.D.Disk.file c.args.log.now).content scan can (c.in_ok-scanned.ensures.found told) in
    other can.size
    (subst (λ (l : List FrameHeader). IsViewSize l c.args.counted_size c.in_ok-db_len.db_len c.args.page_size can.size) (sym c.deref.ensures.value)
    (subst (λ (n : ℕ). IsViewSize scan.frames.items c.args.counted_size n c.args.page_size can.size) (sym (c.in_ok-db_len.ensures.length told_db)) is))
    can.served)

pub returns-then-not-is_within_limits-clause-refused : goal.returns-then-not-is_within_limits-clause-refused
returns-then-not-is_within_limits-clause-refused g c told_db told can =
    let db = (g.D.Disk.file c.args.db.now).content in
    let log = (g.D.Disk.file c.args.log.now).content in
    let scan = c.in_ok-scanned.scanned in
    let is = read_size c.args.page_size c.args.counted_size db log scan can (c.in_ok-scanned.ensures.found told) in
    let db_len : c.in_ok-db_len.db_len ≡ length db = c.in_ok-db_len.ensures.length told_db in
    let found : IsViewSize scan.frames.items c.args.counted_size (length db) c.args.page_size c.in_ok-size.size =
    subst (λ (n : ℕ). IsViewSize scan.frames.items c.args.counted_size n c.args.page_size c.in_ok-size.size) db_len
    (subst (λ (l : List FrameHeader). IsViewSize l c.args.counted_size c.in_ok-db_len.db_len c.args.page_size c.in_ok-size.size) c.deref.ensures.value c.in_ok-size.ensures.size) in
    let same : can.size ≡ c.in_ok-size.size = one_size scan.frames.items c.args.counted_size (length db) c.args.page_size can.size c.in_ok-size.size (some_size c.args.page_size can.page_size_is) is found in
    let bad : false ≡ true = sym c.if-not-is_within_limits.true ∙ c.is_within_limits.ensures.1 (subst (IsSizeWithinLimits c.args.page_size) same can.served) in
    cc

pub returns-clause-log : goal.returns-clause-log
returns-clause-log g c told =
    let scan = c.in_ok-scanned.scanned in
    let log = (g.D.Disk.file c.scan.new.disk).content in
    let told_old = sym c.in_ok-scanned.ensures.kept.tells_same ∙ told in
    let is = subst (λ (f : File). IsScan f.content scan) (sym (c.in_ok-scanned.ensures.kept.same told_old)) (c.in_ok-scanned.ensures.found told_old) in
    let read : IsRead log scan scan.header c.in_ok-header.header c.is_some-is_begun.result = record {
      header_is = is.0;
      reads = is.1;
      same = c.in_ok-header.ensures.found;
      begun = c.is_some-is_begun.ensures;
      size = size_is _ (ap is_size c.in_ok-header.ensures.size ∙ search rules);
    } in
    let frames = c.deref-2.ensures.value in
    subst (λ (n : ℕ). LogStands c.in_ok-header.header c.is_some-is_begun.result n c.sum_of.result c.in_ok-index_of.field-0 log) (omega (arith, c.len-2.ensures, c.in_ok-scanned.scanned.frames.ok)) (
    opened log scan scan.header c.in_ok-header.header c.is_some-is_begun.result c.sum_of.result c.in_ok-index_of.field-0 read c.sum_of.ensures
    (subst (λ (l : List FrameHeader). IsIndexTo (length l) c.in_ok-index_of.field-0) frames c.in_ok-index_of.ensures.indexed)
    (subst (λ (l : List FrameHeader). EachFrame (IsOfHead l) c.in_ok-index_of.field-0) frames c.in_ok-index_of.ensures.pages)
    (subst (λ (l : List FrameHeader). HasEach 0 (pages_said l) (length l) c.in_ok-index_of.field-0) frames c.in_ok-index_of.ensures.all))

pub returns-clause-view : goal.returns-clause-view
returns-clause-view g c told_db told =
    let scan = c.in_ok-scanned.scanned in
    let log = (g.D.Disk.file c.scan.new.disk).content in
    let told_old = sym c.in_ok-scanned.ensures.kept.tells_same ∙ told in
    let is = subst (λ (f : File). IsScan f.content scan) (sym (c.in_ok-scanned.ensures.kept.same told_old)) (c.in_ok-scanned.ensures.found told_old) in
    let read : IsRead log scan scan.header c.in_ok-header.header c.is_some-is_begun.result = record {
      header_is = is.0;
      reads = is.1;
      same = c.in_ok-header.ensures.found;
      begun = c.is_some-is_begun.ensures;
      size = size_is _ (ap is_size c.in_ok-header.ensures.size ∙ search rules);
    } in
    let told_db_old = sym c.len.ensures.tells ∙ told_db in
    let db_len : c.in_ok-db_len.db_len ≡ length (g.D.Disk.file c.len.new.self).content =
    c.in_ok-db_len.ensures.length told_db_old ∙ ap (λ (f : File). length f.content) (sym (c.in_ok-db_len.ensures.same told_db_old)) in
    known_read (g.D.Disk.file c.len.new.self).content log scan scan.header _ c.args.counted_size read c.in_ok-header.ensures.size (omega (arith, c.len-2.ensures, c.in_ok-scanned.scanned.frames.ok)) (omega (arith, c.len-2.ensures, c.in_ok-scanned.ensures.few, c.in_ok-scanned.scanned.frames.ok))
    (subst (λ (n : ℕ). IsViewSize scan.frames.items c.args.counted_size n c.args.page_size c.in_ok-size.size) db_len
    (subst (λ (l : List FrameHeader). IsViewSize l c.args.counted_size c.in_ok-db_len.db_len c.args.page_size c.in_ok-size.size) c.deref.ensures.value c.in_ok-size.ensures.size))
