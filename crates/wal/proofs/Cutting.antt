-- A log that is cut after its committed frames.
use Rattle.std.proofs.Common.{◌≡◌, inl, inr, ◌+◌, ◌-◌, ℕ, List, [], Bool, true, false, length, take, get_or, refl, sym, ◌∙◌, ap, subst, arith}
use Rattle.std.proofs.lemmas.List.{append-nil}
use Rattle.disk.specs.File.{File, IsSynced, Always}
use Rattle.disk.proofs.Moments.{always_weaker}
use Rattle.wal_frame.specs.declared.log_header.LogHeader.{LogHeader}
use Rattle.wal_frame.specs.declared.frame.FrameHeader.{FrameHeader}
use Rattle.wal_frame.specs.declared.sums.Sum.{Sum}
use Rattle.wal_frame.specs.Log.{header_in}
use Rattle.wal_frame.specs.Accepted.{frame_start, head_at, sum_to}
use Rattle.wal_index.specs.declared.index.Index.{Index}
use Rattle.wal.specs.Committed.{HasCommits, AreCommitted, framed_to, frames_under}
use Rattle.wal.specs.Commits.{IsCut}
use Rattle.wal_index.specs.Index.{frames_of, IsPageNumber, HasFrame}
use Rattle.wal.specs.Indexed.{IsIndexTo}
use Rattle.wal.specs.LogState.{state_in}
use Rattle.wal.specs.declared.state.State.{State}
use Rattle.wal.specs.Stands.{LogStands, header_where, log_end}
use Rattle.wal.specs.Crashes.{LeavesOneOf, LeavesCommits}
use Rattle.wal.proofs.Appending.{FrontOf, front_of, no_frame_past}
use Rattle.wal.proofs.Crashing.{log_commits, cut_commits}

-- the front of a log that has a header
front_when : (h : LogHeader) (b : Bool) (mark : ℕ) (sum : Sum) (index : Index) (log : List ℕ) → LogStands h b mark sum index log → b ≡ true → FrontOf h b mark sum log
front_when h b mark sum index log stands has = front_of h b mark sum index log (λ none. (let bad : false ≡ true = sym none ∙ has in cc)) stands

pub stands_cut : (h : LogHeader) (b : Bool) (mark end : ℕ) (sum : Sum) (index : Index) (log : List ℕ) → LogStands h b mark sum index log → IsIndexTo mark index → end ≡ log_end h b mark → LogStands h b mark sum index (take end log)
stands_cut h true mark end sum index log stands indexed is_end = subst (λ (n : ℕ). LogStands h true mark sum index (take n log)) (sym is_end) (record {
  header_is = ap header_in (sym (append-nil cut)) ∙ front.is.header_is [];
  inside = λ yes. omega (arith, front.is.start);
  none = λ no. (let bad : true ≡ false = no in cc);
  committed = λ yes. record { each = front.is.each; ends = front.is.ends; rest = λ k past right. absurd (no_frame_past h cut mark k front.is.start past (right k (omega arith))) };
  sum_is = front.sum_is;
  pages = λ p k known lt.
      let bounds = indexed p k known lt in
      ap (λ (g : FrameHeader). g.page) (front.heads (get_or (frames_of index p) k 0 - 1) (omega (arith, bounds.0, bounds.1))) ∙ stands.pages p k known lt;
  all = λ k lt number missing.
      let same : (head_at h cut k).page ≡ (head_at h log k).page = ap (λ (g : FrameHeader). g.page) (front.heads k lt) in
      stands.all k lt (subst IsPageNumber same number) (λ has. missing (subst (λ (p : ℕ). HasFrame index p (k + 1)) (sym same) has));
})
  where
    cut : List ℕ
    cut = take (frame_start h mark) log

    front : FrontOf h true mark sum log
    front = front_when h true mark sum index log stands refl
stands_cut h false mark end sum index log stands indexed is_end = subst (λ (n : ℕ). LogStands h false mark sum index (take n log)) (sym is_end) (record {
  header_is = refl;
  inside = λ yes. (let bad : false ≡ true = yes in cc);
  none = stands.none;
  committed = λ yes. (let bad : false ≡ true = yes in cc);
  sum_is = stands.sum_is ∙ ap (sum_to h log) (stands.none refl) ∙ ap (sum_to h (take 0 log)) (sym (stands.none refl));
  pages = λ p k known lt. (let bounds = indexed p k known lt in absurd (omega (arith, bounds.0, bounds.1, stands.none refl)));
  all = λ k lt number missing. absurd (omega (arith, lt, stands.none refl));
})

pub cut_end : (h : LogHeader) (b : Bool) (mark end : ℕ) (sum : Sum) (index : Index) (log : List ℕ) → LogStands h b mark sum index log → end ≡ log_end h b mark → length (take end log) ≡ log_end h b mark
cut_end h true mark end sum index log stands is_end = ap (λ (n : ℕ). length (take n log)) is_end ∙ (front_when h true mark sum index log stands refl).is.start
cut_end h false mark end sum index log stands is_end = ap (λ (n : ℕ). length (take n log)) is_end

-- at each moment of the cut
pub cut_crash : (h : LogHeader) (b : Bool) (mark end page_size : ℕ) (sum : Sum) (index : Index) (old new : File) → LogStands h b mark sum index old.content → h.page_size ≡ page_size → end ≡ log_end h b mark → Always old new (LeavesOneOf old.content (take end old.content))
    → Always old new (LeavesCommits page_size (frames_under (header_where b h) old.content mark))
cut_crash h b mark end page_size sum index old new stands size is_end trimmed =
    always_weaker old new (LeavesCommits page_size (frames_under (header_where b h) old.content mark)) (LeavesOneOf old.content (take end old.content))
    (λ vs all c left. elim (all c left) [
      | inl whole ↦ subst (λ (l : List ℕ). HasCommits page_size l (frames_under (header_where b h) old.content mark)) (sym whole) (log_commits h b mark page_size sum index old.content stands size)
      | inr cut ↦ subst (λ (l : List ℕ). HasCommits page_size l (frames_under (header_where b h) old.content mark)) (sym cut)
          (cut_commits h b mark end page_size sum index old.content stands (front_when h b mark sum index old.content stands) size is_end)
    ]) trimmed

-- its committed frames are what they were
pub cut_frames : (h : LogHeader) (b : Bool) (mark end : ℕ) (sum : Sum) (index : Index) (log : List ℕ) → LogStands h b mark sum index log → end ≡ log_end h b mark → frames_under (header_where b h) (take end log) mark ≡ frames_under (header_where b h) log mark
cut_frames h true mark end sum index log stands is_end = ap (λ (n : ℕ). framed_to h (take n log) mark) is_end ∙ (front_when h true mark sum index log stands refl).frames_are
cut_frames h false mark end sum index log stands is_end = refl

pub stands_committed : (h : LogHeader) (b : Bool) (mark page_size : ℕ) (sum : Sum) (index : Index) (log : List ℕ) → LogStands h b mark sum index log → h.page_size ≡ page_size → AreCommitted log page_size (header_where b h) mark
stands_committed h true mark page_size sum index log stands size = (size, stands.committed refl)
stands_committed h false mark page_size sum index log stands size = stands.none refl

-- the log of a call that cut it
pub was_cut : (s : State) (end : ℕ) (old new : File) → LogStands s.header s.is_begun s.mark s.sum s.index old.content → end ≡ log_end s.header s.is_begun s.mark → new.content ≡ take end old.content → IsSynced new → IsCut (state_in s) old new
was_cut s end old new stands is_end is synced =
    let there : LogStands s.header s.is_begun s.mark s.sum s.index new.content = subst (λ (l : List ℕ). LogStands s.header s.is_begun s.mark s.sum s.index l) (sym is) (stands_cut s.header s.is_begun s.mark end s.sum s.index old.content stands s.indexed is_end) in
    record {
      content = is ∙ ap (λ (n : ℕ). take n old.content) is_end;
      header_is = there.header_is;
      committed = stands_committed s.header s.is_begun s.mark s.page_size s.sum s.index new.content there s.same_size;
      frames = ap (λ (l : List ℕ). frames_under (header_where s.is_begun s.header) l s.mark) is ∙ cut_frames s.header s.is_begun s.mark end s.sum s.index old.content stands is_end;
      synced = synced;
    }
