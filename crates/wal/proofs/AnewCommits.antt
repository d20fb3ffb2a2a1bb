-- A log that is begun anew with the frames of a commit: what a crash leaves meanwhile, and what it has then.
use Rattle.sqlval.specs.PageSizes.{IsPageSize, is_size}
use Rattle.sqlval.proofs.PageSizeLemmas.{size_is}
use Rattle.std.proofs.Common.{◌≡◌, ◌⊎◌, inl, inr, ◌<◌, ◌≤◌, ◌+◌, ◌^◌, ℕ, List, [], ◌++◌, Bool, true, false, length, take, drop, refl, sym, ◌∙◌, ap, subst, arith}
use Rattle.std.specs.Prelude.{Result, Ok, Err, OnOk, nat_lt, ◌==◌, if◌then◌else◌}
use Rattle.std.proofs.lemmas.List.{append_assoc, take_at}
use Rattle.disk.specs.Calls.{overwritten}
use Rattle.disk.specs.File.{File, Version, IsSynced, IsContentLeft, Always}
use Rattle.disk.proofs.Current.{synced_left}
use Rattle.disk.proofs.Moments.{always_both, always_weaker}
use Rattle.wal_frame.specs.declared.log_header.LogHeader.{LogHeader}
use Rattle.wal_frame.specs.declared.sums.Sum.{Sum}
use Rattle.wal_frame.specs.Log.{header_bytes, header_sum}
use Rattle.wal_frame.specs.Accepted.{frame_start, sum_to}
use Rattle.wal_frame.specs.Written.{Framed, written, sum_after, SaltsFit, HeaderFits, AllFit}
use Rattle.wal_frame.proofs.Laws.{header_back}
use Rattle.wal_index.specs.declared.index.Index.{Index}
use Rattle.wal_index.specs.Index.{frames_of}
use Rattle.wal.specs.declared.pages.PageImage.{PageImage}
use Rattle.wal.specs.declared.state.State.{State}
use Rattle.wal.specs.Anew.{CommitsAnew, IsRewritten, LeavesAmong, LeavesRewriting, WritesAnew, WritesOver, begins_anew}
use Rattle.wal.specs.Commits.{Commits, commits_of}
use Rattle.wal.specs.Crashes.{AreEither, LeavesCommits}
use Rattle.wal.specs.Indexed.{EachFrame, HasEach, IsIndexTo, IsOldOrNew}
use Rattle.wal.specs.LogState.{LogState, state_in}
use Rattle.wal.specs.Pages.{ArePages, framed, numbers_of}
use Rattle.wal.specs.Restarts.{LeavesOrNone, LeavesRenewed, is_copied, next_header, renewed, restarted}
use Rattle.wal.specs.Stale.{IsStaleFrom, HasCleanTail}
use Rattle.wal.specs.Stands.{LogStands, kept_at, log_front, log_end}
use Rattle.wal.specs.State.{SameState, Admits, Restarts}
use Rattle.wal.proofs.Appending.{IsFront, FrontOf, IsGrown, IsCommit, commit_of, committed, front_of, grows, commits, wrote}
use Rattle.wal.proofs.CommitCrashes.{writes_nothing}
use Rattle.wal.proofs.CommitLemmas.{framed_fits, pages_len}
use Rattle.wal.proofs.Crashing.{log_commits, still_commits, stopped}
use Rattle.wal.proofs.Renewing.{IsNext, anew_leaves, anew_stale, copied_begun, stands_anew}
use Rattle.wal.proofs.Renewing as renewing_lemmas
use Rattle.wal.proofs.Same.{reserved, stands_as}
use Rattle.wal.proofs.Staling.{IsBase, base_is, clean_as, clean_begun}

-- ---- the steps on the disk

abbrev Rewriting : LogHeader → Bool → ℕ → List ℕ → File → List Version → Type 0
Rewriting h clean end bytes old = LeavesRewriting h old.content (take end old.content) (kept_at clean end old.content) bytes

abbrev Renewal : LogHeader → Bool → ℕ → File → List Version → Type 0
Renewal h clean end old = LeavesRenewed h old.content (take end old.content) (kept_at clean end old.content)

pub renewing : (h : LogHeader) (clean : Bool) (end : ℕ) (bytes : List ℕ) (old begun : File) → Always old begun (LeavesRenewed h old.content (take end old.content) (kept_at clean end old.content))
    → Always old begun (LeavesRewriting h old.content (take end old.content) (kept_at clean end old.content) bytes)
renewing h clean end bytes old begun renewal = always_weaker old begun (Rewriting h clean end bytes old) (Renewal h clean end old) (λ vs all. inl all) renewal

pub rewriting : (h : LogHeader) (clean : Bool) (end : ℕ) (bytes : List ℕ) (old begun new : File) → Always old begun (LeavesRenewed h old.content (take end old.content) (kept_at clean end old.content)) → begun.content ≡ renewed h (kept_at clean end old.content)
    → Always begun new (AreEither begun.content (overwritten 32 bytes begun.content)) → Always old new (LeavesRewriting h old.content (take end old.content) (kept_at clean end old.content) bytes)
rewriting h clean end bytes old begun new renewal is grown =
    always_both old begun new (Rewriting h clean end bytes old) (renewing h clean end bytes old begun renewal)
    (always_weaker begun new (Rewriting h clean end bytes old) (AreEither begun.content (overwritten 32 bytes begun.content)) (λ vs all. inr (subst (λ (l : List ℕ). AreEither l (overwritten 32 bytes l) vs) is all)) grown)

pub rewritten : {T E : Type 0} (result : Result T E) (h : LogHeader) (old bytes : List ℕ) (begun new : File) → begun.content ≡ renewed h old → IsSynced begun → OnOk result (new.content ≡ overwritten 32 bytes begun.content) → OnOk result (IsSynced new)
    → OnOk result (IsRewritten h old bytes new)
rewritten (Ok x) h old bytes begun new is begun_synced content synced = record { begun = begun; begun_is = is; begun_synced = begun_synced; content = content ∙ ap (overwritten 32 bytes) is; synced = synced }
rewritten (Err e) h old bytes begun new is begun_synced content synced = tt

-- ---- the frames after the header

-- What a commit writes into a log whose frames are all copied: the next header, and the bytes of its frames under it.
pub record IsAnewCommit (known : LogState) (next : LogHeader) (clean : Bool) (end : ℕ) (sum : Sum) (index : Index) (log : List ℕ) (fs : List Framed) (out : List ℕ) : Type 0 where
  pub begun : known.has_header ≡ true
  pub stands : LogStands known.header known.has_header known.frames sum index log
  pub tail : clean ≡ true → HasCleanTail known.header known.has_header known.frames log
  pub end_is : end ≡ log_end known.header known.has_header known.frames
  pub next_is : next ≡ next_header known.header
  pub is_next : IsNext known.header next
  pub same_size : known.header.page_size ≡ known.page_size
  pub fits : HeaderFits next
  pub size : IsPageSize next.page_size
  pub salts : SaltsFit next.salts
  pub all_fit : AllFit next fs
  pub commit : IsCommit fs
  pub out_is : out ≡ written next (header_sum next) fs

pub anew_commit : (old s : State) (next : LogHeader) (end size : ℕ) (pages : List PageImage) (log out : List ℕ) → SameState old s → is_copied (state_in old) ≡ true → LogStands old.header old.is_begun old.mark old.sum old.index log → (old.is_clean ≡ true → HasCleanTail old.header old.is_begun old.mark log)
    → end ≡ log_end s.header s.is_begun s.mark → next ≡ next_header s.header → (next.salts.first ≡ 0) ⊎ (next.salts.first ≡ s.header.salts.first + 1) → HeaderFits next → SaltsFit next.salts → ArePages 0 size old.page_size pages → 0 < length pages → size < 2 ^ 32
    → out ≡ written next (header_sum next) (framed pages size) → IsAnewCommit (state_in s) next s.is_clean end s.sum s.index log (framed pages size) out
anew_commit old s next end size pages log out same copied stands tail end_is next_is first fits salts are some small out_is = record {
  begun = same.is_begun ∙ copied_begun old.is_begun (nat_lt 0 old.mark) (old.copied == old.mark) copied;
  stands = reserved old s log same stands;
  tail = λ clean. clean_as old.header s.header old.is_begun s.is_begun old.mark s.mark log same.header same.is_begun same.mark (tail (sym same.is_clean ∙ clean));
  end_is = end_is;
  next_is = next_is;
  is_next = record { page_size = page_size; first = first };
  same_size = s.same_size;
  fits = fits;
  size = size_is next.page_size (ap is_size (page_size ∙ s.same_size) ∙ s.size_is);
  salts = salts;
  all_fit = framed_fits next 0 size pages small are_now;
  commit = commit_of pages size next.page_size are_now some;
  out_is = out_is;
}
  where
    page_size : next.page_size ≡ s.header.page_size
    page_size = ap (λ (h : LogHeader). h.page_size) next_is

    are_now : ArePages 0 size next.page_size pages
    are_now = subst (λ (n : ℕ). ArePages 0 size n pages) (sym (page_size ∙ s.same_size ∙ same.page_size)) are

-- the first frame begins after the header
at_start : (next : LogHeader) → 32 ≡ frame_start next 0
at_start next = omega arith

front_anew : (next : LogHeader) → HeaderFits next → IsFront next 0 (header_bytes next)
front_anew next fits = record {
  start = omega arith;
  header_is = λ rest. header_back next rest fits;
  each = λ k lt. absurd (omega (arith, lt));
  ends = λ k last none. absurd (omega (arith, last));
}

-- the bytes of the frames, after the header
abbrev after_header : LogHeader → List ℕ → List ℕ → List ℕ
after_header next kept out = out ++ drop (32 + length out) (renewed next kept)

over_header : (next : LogHeader) (kept out : List ℕ) → overwritten 32 out (renewed next kept) ≡ header_bytes next ++ after_header next kept out
over_header next kept out =
    ap (λ (l : List ℕ). (l ++ out) ++ drop (32 + length out) (renewed next kept)) (take_at (header_bytes next) (if next.salts.first == 0 then [] else drop 32 kept) 32 refl)
    ∙ append_assoc (header_bytes next) out (drop (32 + length out) (renewed next kept))

-- While they are written a crash leaves the frames that were copied, or none, or these.
leaves_among : (next : LogHeader) (page_size : ℕ) (content cut kept out : List ℕ) (these fs : List Framed) (vs : List Version) → HeaderFits next → next.page_size ≡ page_size → IsStaleFrom next 0 (renewed next kept)
    → IsGrown next 0 (header_bytes next) fs (header_bytes next ++ after_header next kept out) → IsCommit fs → (LeavesRenewed next content cut kept vs → LeavesOrNone page_size these vs) → LeavesRewriting next content cut kept out vs → LeavesAmong page_size these [] fs vs
leaves_among next page_size content cut kept out these fs vs fits size stale grown commit or_none (inl renewal) c left chance = elim (or_none renewal c left) [
  | inl was ↦ inl was
  | inr none ↦ inr (inl none)
]
leaves_among next page_size content cut kept out these fs vs fits size stale grown commit or_none (inr either) c left chance =
    inr (stopped next 0 page_size (header_bytes next) (if next.salts.first == 0 then [] else drop 32 kept) (after_header next kept out) fs vs (front_anew next fits) size stale grown commit
    (subst (λ (l : List ℕ). AreEither (renewed next kept) l vs) (over_header next kept out) either) c left chance)

stale_of : (known : LogState) (next : LogHeader) (clean : Bool) (end : ℕ) (sum : Sum) (index : Index) (log : List ℕ) (fs : List Framed) (out : List ℕ) → IsAnewCommit known next clean end sum index log fs out → IsStaleFrom next 0 (renewed next (kept_at clean end log))
stale_of known next clean end sum index log fs out is = anew_stale known.header next known.has_header clean known.frames end sum index log is.begun is.stands is.tail is.end_is is.is_next

grown_anew : (known : LogState) (next : LogHeader) (clean : Bool) (end : ℕ) (sum : Sum) (index : Index) (log : List ℕ) (fs : List Framed) (out : List ℕ) → IsAnewCommit known next clean end sum index log fs out
    → IsGrown next 0 (header_bytes next) fs (header_bytes next ++ after_header next (kept_at clean end log) out)
grown_anew known next clean end sum index log fs out is =
    let under = renewed next (kept_at clean end log) in
    grows next 0 (header_bytes next) fs under (header_bytes next ++ after_header next (kept_at clean end log) out) (front_anew next is.fits) is.size is.salts is.all_fit is.commit (stale_of known next clean end sum index log fs out is)
    (ap (λ (l : List ℕ). header_bytes next ++ (l ++ drop (32 + length l) under)) is.out_is
    ∙ ap (λ (n : ℕ). header_bytes next ++ (written next (header_sum next) fs ++ drop (n + length (written next (header_sum next) fs)) under)) (at_start next))

pub writes_anew : (known : LogState) (next : LogHeader) (clean : Bool) (end : ℕ) (sum : Sum) (index : Index) (fs : List Framed) (out : List ℕ) (old new : File) → IsAnewCommit known next clean end sum index old.content fs out
    → Always old new (LeavesRewriting next old.content (take end old.content) (kept_at clean end old.content) out) → IsContentLeft new → WritesAnew known fs old new
writes_anew known next clean end sum index fs out old new is writing left =
    let size : next.page_size ≡ known.page_size = is.is_next.page_size ∙ is.same_size in
    record {
      among = always_weaker old new (LeavesAmong known.page_size (commits_of known old.content) [] fs) (Rewriting next clean end out old)
          (λ vs. leaves_among next known.page_size old.content (take end old.content) (kept_at clean end old.content) out (commits_of known old.content) fs vs is.fits size
          (stale_of known next clean end sum index old.content fs out is) (grown_anew known next clean end sum index old.content fs out is) is.commit
          (anew_leaves known.header next known.has_header clean known.frames end known.page_size sum index old.content vs is.begun is.stands is.tail is.end_is is.is_next is.same_size is.fits)) writing;
      left = left;
    }

-- ---- the log then

-- a log under a header, without frames, and what it is with these frames after the header
pub record IsAnewGrown (next : LogHeader) (index : Index) (fs : List Framed) (log new : List ℕ) : Type 0 where
  pub stands : LogStands next true 0 (header_sum next) index log
  pub front : FrontOf next true 0 (header_sum next) log
  pub base : IsBase next 0 (log_front next true 0 log) log log
  pub is : new ≡ log_front next true 0 log ++ (written next (sum_to next (log_front next true 0 log) 0) fs ++ drop (frame_start next 0 + length (written next (sum_to next (log_front next true 0 log) 0) fs)) log)
  pub grown : IsGrown next 0 (log_front next true 0 log) fs new

pub anew_grown : (known : LogState) (next : LogHeader) (clean : Bool) (end : ℕ) (sum : Sum) (index : Index) (log : List ℕ) (fs : List Framed) (out : List ℕ) (empty : Index) (new : File) → IsAnewCommit known next clean end sum index log fs out → ((p : ℕ) → frames_of empty p ≡ [])
    → (written : IsRewritten next (kept_at clean end log) out new) → IsAnewGrown next empty fs written.begun.content new.content
anew_grown known next clean end sum index log fs out empty new is none r = record { stands = stands; front = front; base = base; is = is_new; grown = grown }
  where
    begun : List ℕ
    begun = r.begun.content

    stale : IsStaleFrom next 0 (renewed next (kept_at clean end log))
    stale = stale_of known next clean end sum index log fs out is

    stands : LogStands next true 0 (header_sum next) empty begun
    stands = subst (LogStands next true 0 (header_sum next) empty) (sym r.begun_is) (stands_anew next (header_sum next) empty (kept_at clean end log) is.fits refl none stale)

    front : FrontOf next true 0 (header_sum next) begun
    front = front_of next true 0 (header_sum next) empty begun (λ no. absurd (let bad : true ≡ false = no in cc)) stands

    base : IsBase next 0 (log_front next true 0 begun) begun begun
    base = base_is next true true 0 (frame_start next 0) begun stands.inside stands.none (λ yes. clean_begun next 0 begun (subst (IsStaleFrom next 0) (sym r.begun_is) stale)) refl

    is_new : new.content ≡ log_front next true 0 begun ++ (written next (sum_to next (log_front next true 0 begun) 0) fs ++ drop (frame_start next 0 + length (written next (sum_to next (log_front next true 0 begun) 0) fs)) begun)
    is_new = wrote next true true 0 (frame_start next 0) (header_sum next) fs begun new.content out [] (written next (header_sum next) fs) front base (r.content ∙ ap (overwritten 32 out) (sym r.begun_is) ∙ ap (λ (n : ℕ). overwritten n out begun) (at_start next)) refl is.out_is refl refl

    grown : IsGrown next 0 (log_front next true 0 begun) fs new.content
    grown = grows next 0 (log_front next true 0 begun) fs begun new.content front.is is.size is.salts is.all_fit is.commit base.stale is_new

pub commits_anew : (known : LogState) (next : LogHeader) (clean : Bool) (end : ℕ) (sum : Sum) (index : Index) (log : List ℕ) (fs : List Framed) (out : List ℕ) (empty : Index) (new : File) → IsAnewCommit known next clean end sum index log fs out → ((p : ℕ) → frames_of empty p ≡ [])
    → IsRewritten next (kept_at clean end log) out new → length fs ≤ 1000000 → CommitsAnew known fs new
commits_anew known next clean end sum index log fs out empty new is none r few =
    let all = anew_grown known next clean end sum index log fs out empty new is none r in
    let anew : LogState = record { page_size = known.page_size; header = next; has_header = true; frames = 0; copied = 0; size = known.size; has_failed = known.has_failed } in
    let anew_is : anew ≡ restarted known = λ i. record {
      page_size = known.page_size;
      header = is.next_is i;
      has_header = sym is.begun i;
      frames = 0;
      copied = 0;
      size = known.size;
      has_failed = known.has_failed;
    } in
    record {
      begun = r.begun;
      is = renewing_lemmas.begins_anew known next (kept_at clean end log) r.begun is.next_is is.fits (is.is_next.page_size ∙ is.same_size) (stale_of known next clean end sum index log fs out is) r.begun_is r.begun_synced;
      commits = subst (λ (k : LogState). Commits k fs r.begun new) anew_is
          (commits anew (header_sum next) empty fs r.begun.content r.begun new all.stands all.front all.base is.all_fit all.grown all.is r.synced (omega (arith, few)));
    }

-- what the state says then
pub anew_stands : (next : LogHeader) (size : ℕ) (after : Sum) (pages : List PageImage) (old r made : State) (log new : List ℕ) → Restarts next true old r → Admits pages size after r made → after ≡ sum_after next (header_sum next) (framed pages size)
    → IsAnewGrown next r.index (framed pages size) log new → LogStands made.header made.is_begun made.mark made.sum made.index new
anew_stands next size after pages old r made log new restarts admits after_is all =
    stands_as next made.header true made.is_begun (0 + length pages) made.mark after made.sum made.index new (admits.header ∙ restarts.header_is) (admits.is_begun ∙ restarts.is_begun) (admits.mark ∙ ap (λ (n : ℕ). n + length pages) restarts.mark) admits.sum_is
    (committed next true 0 size (header_sum next) after r.index made.index pages log new all.stands all.front (subst (λ (n : ℕ). IsIndexTo n r.index) restarts.mark r.indexed) all.grown after_is
    (subst (λ (n : ℕ). EachFrame (IsOldOrNew n pages (length pages) r.index) made.index) restarts.mark admits.frames) (subst (λ (n : ℕ). HasEach n (numbers_of pages) (length pages) made.index) restarts.mark admits.added) admits.kept)

pub anew_clean : (next : LogHeader) (size : ℕ) (after : Sum) (pages : List PageImage) (old r made : State) (log new : List ℕ) → Restarts next true old r → Admits pages size after r made → IsAnewGrown next r.index (framed pages size) log new
    → HasCleanTail made.header made.is_begun made.mark new
anew_clean next size after pages old r made log new restarts admits all =
    clean_as next made.header true made.is_begun (0 + length pages) made.mark new (admits.header ∙ restarts.header_is) (admits.is_begun ∙ restarts.is_begun) (admits.mark ∙ ap (λ (n : ℕ). n + length pages) restarts.mark)
    (clean_begun next (0 + length pages) new (subst (λ (n : ℕ). IsStaleFrom next (0 + n) new) (pages_len pages size) all.grown.stale))

-- the committed frames end within a log
pub end_within : (h : LogHeader) (b : Bool) (mark end : ℕ) (sum : Sum) (index : Index) (log : List ℕ) → LogStands h b mark sum index log → end ≡ log_end h b mark → end ≤ length log
end_within h true mark end sum index log stands is = omega (arith, is, stands.inside refl)
end_within h false mark end sum index log stands is = omega (arith, is)

-- ---- where nothing is written

pub nothing_anew : (known : LogState) (sum : Sum) (index : Index) (fs : List Framed) (file : File) → IsSynced file → LogStands known.header known.has_header known.frames sum index file.content → known.header.page_size ≡ known.page_size → WritesAnew known fs file file
nothing_anew known sum index fs file synced stands size = record {
  among = always_weaker file file (LeavesAmong known.page_size (commits_of known file.content) [] fs) (LeavesCommits known.page_size (commits_of known file.content)) (λ vs all c left chance. inl (all c left))
      (still_commits known.page_size (commits_of known file.content) file synced (log_commits known.header known.has_header known.frames known.page_size sum index file.content stands size));
  left = synced_left file synced;
}

pub nothing_over : (known : LogState) (may_restart : Bool) (sum : Sum) (index : Index) (fs : List Framed) (file : File) → IsSynced file → LogStands known.header known.has_header known.frames sum index file.content → known.header.page_size ≡ known.page_size
    → WritesOver known may_restart fs file file
nothing_over known may_restart sum index fs file synced stands size = record { grows = λ no. writes_nothing known sum index fs file synced stands size; anew = λ yes. nothing_anew known sum index fs file synced stands size }

pub over_anew : (known : LogState) (may_restart : Bool) (fs : List Framed) (old new : File) → begins_anew known may_restart ≡ true → WritesAnew known fs old new → WritesOver known may_restart fs old new
over_anew known may_restart fs old new begins writes = record { grows = λ no. absurd (let bad : true ≡ false = sym begins ∙ no in cc); anew = λ yes. writes }
