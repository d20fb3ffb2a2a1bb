use Rattle.std.proofs.Common.{◌≡◌, ◌≤◌, ◌+◌, ◌∙◌, List, ℕ, true, ap, sym, refl, subst, arith, rules, take, drop, length}
use Rattle.std.specs.Prelude.{IsTrue}
use Rattle.std.proofs.lemmas.Grind.{common_steps}
use Rattle.disk.specs.File.{File}
use Rattle.wal_frame.specs.Accepted.{frame_start, HasTooMany}
use Rattle.wal_frame.specs.Log.{sum_over, is_frame, frame_of}
use Rattle.wal_frame.specs.Progress.{Accepts}
use Rattle.wal_frame.specs.declared.frame.FrameHeader.{FrameHeader}
use Rattle.wal_frame.proofs.Reading.{read_none, read_short, read_failed, read_more, measured_more, read_over, limit_refusal, one_too_many}
use Rattle.wal_frame.proofs.scanning.read_accepted.Goals as goal

pub returns-then-not-is_page_size-clause-found : goal.returns-then-not-is_page_size-clause-found
returns-then-not-is_page_size-clause-found g c told =
    let log = (g.D.Disk.file c.args.disk.now).content in
    record {
      read = c.start-so_far.ensures.read log;
      are_accepted = read_none c.args.header.now log c.start-so_far.result c.start-so_far.ensures.none (λ size. (let bad : true ≡ _ = sym (c.is_page_size.ensures.is.1 size) ∙ c.if-not-is_page_size.true in cc));
    }

pub frames-init : goal.frames-init
frames-init g c = record {
  kept = record { tells_same = refl; same = λ told. refl };
  counts = refl;
  size = refl;
  page = c.is_page_size.ensures.is.0 c.if-not-is_page_size.false;
  frame = first_of (search rules, grind (arith, common_steps));
  inside =
      let at : c.start-so_far.result.at ≡ 32 + 0 = c.start-so_far.ensures.measured.at ∙ ap (frame_start c.args.header.now) c.start-so_far.ensures.none ∙ omega arith in
      omega (arith, c.requires.some, at);
  measured = c.start-so_far.ensures.measured;
  read = λ told. c.start-so_far.ensures.read _;
}

pub returns-then-not-stands-clause-found : goal.returns-then-not-stands-clause-found
returns-then-not-stands-clause-found g c told =
    let h = c.args.header.now in
    let log = (g.D.Disk.file c.args.disk.now).content in
    let inv = c.frames.invariant in
    let read = inv.read told in
    let told_now : IsTrue (g.D.Disk.tells c.frames.disk) = inv.kept.tells_same ∙ told in
    let file_same = ap (λ (f : File). f.content) (inv.kept.same told) in
    let size : length c.deref_mut.result.now ≡ 24 + h.page_size = ap length c.deref_mut.ensures.value ∙ inv.frame in
    let is_read = c.in_ok-read_at.ensures.read told_now ∙ ap (λ (n : ℕ). take n (drop c.frames.so_far.at (g.D.Disk.file c.frames.disk).content)) size ∙ ap (λ (l : List ℕ). take (24 + h.page_size) (drop c.frames.so_far.at l)) file_same in
    let bytes : c.deref.result.now ≡ c.read_at.new.buf = c.deref.ensures.value ∙ read_over _ _ _ (omega (arith, c.read_at.auto.buf, c.deref_mut.ensures.len)) in
    let bytes_again : c.deref-in-frames.result.now ≡ c.read_at.new.buf = c.deref-in-frames.ensures.value ∙ read_over _ _ _ (omega (arith, c.read_at.auto.buf, c.deref_mut.ensures.len)) in
    record {
      read = read;
      are_accepted = read_failed h log c.read_at.new.buf c.sum_of-sum.result c.frames.so_far inv.page inv.measured read
          (omega (arith, c.frames-test.true, inv.inside, c.requires.told told)) is_read (c.sum_of-sum.ensures ∙ ap (sum_over h c.frames.so_far.sum) bytes)
          (ap (is_frame h c.sum_of-sum.result) (sym bytes_again) ∙ sym c.stands.ensures ∙ c.if-not-stands.true);
    }

pub returns-in_err-accept-clause-refused : goal.returns-in_err-accept-clause-refused
returns-in_err-accept-clause-refused g c =
    limit_refusal (IsTrue (g.D.Disk.tells c.args.disk.now) → HasTooMany c.args.header.now (g.D.Disk.file c.args.disk.now).content) (1000000 ≤ length c.frames.so_far.frames.items) (c.read_frame.result.size ≡ 0 → ⊥)
    c.from_residual-in_err-accept.result _ _ _ c.from_residual-in_err-accept.ensures.1 c.in_err-accept.ensures.refused
    (λ many ends told.
    let h = c.args.header.now in
    let log = (g.D.Disk.file c.args.disk.now).content in
    let inv = c.frames.invariant in
    let told_now : IsTrue (g.D.Disk.tells c.frames.disk) = inv.kept.tells_same ∙ told in
    let file_same = ap (λ (f : File). f.content) (inv.kept.same told) in
    let size : length c.deref_mut.result.now ≡ 24 + h.page_size = ap length c.deref_mut.ensures.value ∙ inv.frame in
    let kept_len : length c.read_at.new.buf ≡ c.frames.frame.len = omega (arith, c.read_at.auto.buf, c.deref_mut.ensures.len) in
    let is_read = c.in_ok-read_at.ensures.read told_now ∙ ap (λ (n : ℕ). take n (drop c.frames.so_far.at (g.D.Disk.file c.frames.disk).content)) size ∙ ap (λ (l : List ℕ). take (24 + h.page_size) (drop c.frames.so_far.at l)) file_same in
    let bytes : c.deref.result.now ≡ c.read_at.new.buf = c.deref.ensures.value ∙ read_over _ _ _ kept_len in
    let bytes_again : c.deref-in-frames.result.now ≡ c.read_at.new.buf = c.deref-in-frames.ensures.value ∙ read_over _ _ _ kept_len in
    let bytes_last : c.deref-in-frames-2.result.now ≡ c.read_at.new.buf = c.deref-in-frames-2.ensures.value ∙ read_over _ _ _ kept_len in
    one_too_many h log c.read_at.new.buf c.sum_of-sum.result c.read_frame.result c.frames.so_far inv.page inv.measured (inv.read told)
    (omega (arith, c.frames-test.true, inv.inside, c.requires.told told)) is_read (c.sum_of-sum.ensures ∙ ap (sum_over h c.frames.so_far.sum) bytes)
    (ap (is_frame h c.sum_of-sum.result) (sym bytes_again) ∙ sym c.stands.ensures ∙ c.if-not-stands.false) (c.read_frame.ensures ∙ ap frame_of bytes_last) many ends)

pub returns-clause-found : goal.returns-clause-found
returns-clause-found g c told =
    let log = (g.D.Disk.file c.args.disk.now).content in
    let inv = c.frames.invariant in
    let read = inv.read told in
    record { read = read; are_accepted = read_short c.args.header.now log c.frames.so_far inv.page inv.measured read (omega (arith, c.frames-test.false, inv.inside, c.requires.told told)) }

pub frames-preserved : goal.frames-preserved
frames-preserved g c =
    let h = c.args.header.now in
    let log = (g.D.Disk.file c.args.disk.now).content in
    let inv = c.frames.invariant in
    let size : length c.deref_mut.result.now ≡ 24 + h.page_size = ap length c.deref_mut.ensures.value ∙ inv.frame in
    let kept_len : length c.read_at.new.buf ≡ c.frames.frame.len = omega (arith, c.read_at.auto.buf, c.deref_mut.ensures.len) in
    let buf_len : length c.read_at.new.buf ≡ 24 + h.page_size = omega (arith, c.read_at.auto.buf, size) in
    let bytes : c.deref.result.now ≡ c.read_at.new.buf = c.deref.ensures.value ∙ read_over _ _ _ kept_len in
    let bytes_again : c.deref-in-frames.result.now ≡ c.read_at.new.buf = c.deref-in-frames.ensures.value ∙ read_over _ _ _ kept_len in
    let bytes_last : c.deref-in-frames-2.result.now ≡ c.read_at.new.buf = c.deref-in-frames-2.ensures.value ∙ read_over _ _ _ kept_len in
    let accepted = c.in_ok-accept.ensures.accepted in
    record {
      kept = record {
        tells_same = c.read_at.ensures.tells ∙ inv.kept.tells_same;
        same = λ told. c.read_at.ensures.same (inv.kept.tells_same ∙ told) ∙ inv.kept.same told;
      };
      counts = c.in_ok-read_at.ensures.count ∙ inv.counts;
      size = refl;
      page = inv.page;
      frame = ap length (read_over _ _ _ kept_len) ∙ buf_len;
      inside = omega (arith, accepted.at, c.frames-test.true, inv.inside);
      measured = measured_more h _ _ c.frames.so_far c.accept.new.self inv.measured accepted;
      read = λ told.
          let told_now : IsTrue (g.D.Disk.tells c.frames.disk) = inv.kept.tells_same ∙ told in
          let file_same = ap (λ (f : File). f.content) (inv.kept.same told) in
          let is_read = c.in_ok-read_at.ensures.read told_now ∙ ap (λ (n : ℕ). take n (drop c.frames.so_far.at (g.D.Disk.file c.frames.disk).content)) size ∙ ap (λ (l : List ℕ). take (24 + h.page_size) (drop c.frames.so_far.at l)) file_same in
          read_more h log c.read_at.new.buf c.sum_of-sum.result c.frames.so_far c.accept.new.self inv.page inv.measured (inv.read told)
          (omega (arith, c.frames-test.true, inv.inside, c.requires.told told)) is_read (c.sum_of-sum.ensures ∙ ap (sum_over h c.frames.so_far.sum) bytes)
          (ap (is_frame h c.sum_of-sum.result) (sym bytes_again) ∙ sym c.stands.ensures ∙ c.if-not-stands.false)
          (subst (λ (f : FrameHeader). Accepts f c.sum_of-sum.result (24 + h.page_size) c.frames.so_far c.accept.new.self) (c.read_frame.ensures ∙ ap frame_of bytes_last) accepted);
    }
