-- Pages by the list of committed frames, for the layers above: what a snapshot sees stays, and the files' view is what was opened.
use Rattle.std.proofs.Common.{◌≡◌, inl, inr, ◌<◌, ◌≤◌, ◌+◌, ◌-◌, ℕ, zero, suc, List, [], ◌∷◌, ◌++◌, Bool, true, false, length, take, refl, sym, ◌∙◌, ap, subst, arith}
use Rattle.std.specs.Prelude.{Option, Some, None, slice_index_or, if◌then◌else◌}
use Rattle.std.proofs.lemmas.List.{take-append-le, take_all}
use Rattle.std.proofs.lemmas.Bool.{cases_lt, cases_Bool}
use Rattle.disk.specs.File.{File}
use Rattle.wal_frame.specs.declared.log_header.LogHeader.{LogHeader}
use Rattle.wal_frame.specs.Written.{Framed}
use Rattle.wal.specs.Anew.{CommitsOver, base_of, begins_anew, kept_frames}
use Rattle.wal.specs.Committed.{framed_at, framed_to, frames_under}
use Rattle.wal.specs.Commits.{Commits, commits_of, grown}
use Rattle.wal.specs.Stands.{header_where}
use Rattle.wal.specs.LogState.{LogState, header_of}
use Rattle.wal.specs.Opened.{IsStateOf}
use Rattle.wal.specs.Restarts.{next_header, restarted}
use Rattle.wal.specs.Sizes.{IsViewSize}
use Rattle.wal.specs.View.{IsPage, IsPageIn, blank_frame, IsFilesView, heads}
use Rattle.wal.proofs.Chance.{framed_get}
use Rattle.wal.proofs.FrameLists.{framed_len}

-- the page of a log is that of its frames
pub page_in : (db log : List ℕ) (page_size : ℕ) (header : Option LogHeader) (n number : ℕ) (bytes : List ℕ) → IsPage db log page_size header n number bytes → IsPageIn db page_size (frames_under header log n) number bytes
page_in db log page_size None n number bytes there = inr ((λ k lt of_page. absurd (omega (arith, lt))), there)
page_in db log page_size (Some h) n number bytes (inl newest) =
    let k = newest.0 in
    inl (
      k,
      record {
        within = omega (arith, newest.1.within, framed_len h log n);
        page = ap (λ (f : Framed). f.head.page) (framed_get h log n k blank_frame newest.1.within) ∙ newest.1.page;
        last = λ j later lt of_page.
            let within : j < n = omega (arith, lt, framed_len h log n) in
            newest.1.last j later within (ap (λ (f : Framed). f.head.page) (sym (framed_get h log n j blank_frame within)) ∙ of_page);
      },
      newest.2 ∙ ap (λ (f : Framed). f.page) (sym (framed_get h log n k blank_frame newest.1.within)),
    )
page_in db log page_size (Some h) n number bytes (inr filed) = inr (
  (λ k lt of_page.
      let within : k < n = omega (arith, lt, framed_len h log n) in
      filed.0 k within (ap (λ (f : Framed). f.head.page) (sym (framed_get h log n k blank_frame within)) ∙ of_page)),
  filed.1,
)

-- and back
pub page_from : (db log : List ℕ) (page_size : ℕ) (header : Option LogHeader) (n number : ℕ) (bytes : List ℕ) → IsPageIn db page_size (frames_under header log n) number bytes → IsPage db log page_size header n number bytes
page_from db log page_size None n number bytes (inl newest) = absurd (omega (arith, newest.1.within))
page_from db log page_size None n number bytes (inr filed) = filed.1
page_from db log page_size (Some h) n number bytes (inl newest) =
    let k = newest.0 in
    let lt : k < n = omega (arith, newest.1.within, framed_len h log n) in
    inl (
      k,
      record {
        within = lt;
        page = ap (λ (f : Framed). f.head.page) (sym (framed_get h log n k blank_frame lt)) ∙ newest.1.page;
        last = λ j later within of_page. newest.1.last j later (omega (arith, within, framed_len h log n)) (ap (λ (f : Framed). f.head.page) (framed_get h log n j blank_frame within) ∙ of_page);
      },
      newest.2 ∙ ap (λ (f : Framed). f.page) (framed_get h log n k blank_frame lt),
    )
page_from db log page_size (Some h) n number bytes (inr filed) = inr (
  (λ k lt of_page. filed.0 k (omega (arith, lt, framed_len h log n)) (ap (λ (f : Framed). f.head.page) (framed_get h log n k blank_frame lt) ∙ of_page)),
  filed.1,
)

pub framed_take : (h : LogHeader) (log : List ℕ) (m n : ℕ) → m ≤ n → take m (framed_to h log n) ≡ framed_to h log m
framed_take h log m zero le = (let z : m ≡ 0 = omega (arith, le) in subst (λ (k : ℕ). take k (framed_to h log 0) ≡ framed_to h log k) (sym z) refl)
framed_take h log m (suc n) le = elim (cases_lt n m) [
  | inl all ↦ (let is : suc n ≡ m = omega (arith, all, le) in subst (λ (k : ℕ). take k (framed_to h log (suc n)) ≡ framed_to h log k) is (take_all (suc n) (framed_to h log (suc n)) (omega (arith, framed_len h log (suc n)))))
  | inr less ↦ take-append-le m (framed_to h log n) (framed_at h log n ∷ []) (omega (arith, less, framed_len h log n)) ∙ framed_take h log m n less
]

-- after a commit a snapshot sees the frames that it saw
pub seen_by_header : (h : LogHeader) (b : Bool) (old new : List ℕ) (fs : List Framed) (n m : ℕ) → framed_to h new (n + length fs) ≡ frames_under (header_where b h) old n ++ fs → m ≤ n → framed_to h new m ≡ frames_under (header_where b h) old m
seen_by_header h true old new fs n m is le =
    sym (framed_take h new m (n + length fs) (omega (arith, le))) ∙ ap (take m) is ∙ take-append-le m (framed_to h old n) fs (omega (arith, le, framed_len h old n)) ∙ framed_take h old m n le
seen_by_header h false old new fs n m is le =
    let none : m ≡ 0 = omega (arith, le, framed_len h new (n + length fs), ap length is) in
    ap (framed_to h new) none

pub seen_stays : (known : LogState) (fs : List Framed) (old new : File) (count size m : ℕ) → Commits known fs old new → m ≤ known.frames → frames_under (header_of (grown known count size)) new.content m ≡ frames_under (header_of known) old.content m
seen_stays known fs old new count size m commits le = seen_by_header known.header known.has_header old.content new.content fs known.frames m commits.frames_are le

-- and the newest snapshot sees those and the commit's
pub seen_grows : (known : LogState) (fs : List Framed) (old new : File) (count size : ℕ) → Commits known fs old new → count ≡ length fs → frames_under (header_of (grown known count size)) new.content (known.frames + count) ≡ commits_of known old.content ++ fs
seen_grows known fs old new count size commits is = ap (λ (n : ℕ). framed_to known.header new.content (known.frames + n)) is ∙ commits.frames_are

none_under : (b : Bool) (h : LogHeader) (log : List ℕ) → frames_under (header_where b h) log 0 ≡ []
none_under true h log = refl
none_under false h log = refl

-- or the commit's alone, where the log begins anew
pub seen_over : (known : LogState) (may_restart : Bool) (fs : List Framed) (old new : File) (count size : ℕ) → CommitsOver known may_restart fs old new → count ≡ length fs
    → commits_of (grown (base_of known may_restart) count size) new.content ≡ kept_frames known may_restart old.content ++ fs
seen_over known may_restart fs old new count size over is = elim (cases_Bool (begins_anew known may_restart)) [
  | inl anew ↦ sees_by true anew (seen_grows (restarted known) fs (over.anew anew).begun new count size (over.anew anew).commits is ∙ ap (λ (l : List Framed). l ++ fs) (none_under known.has_header (next_header known.header) (over.anew anew).begun.content))
  | inr grows ↦ sees_by false grows (seen_grows known fs old new count size (over.grows grows) is)
]
  where
    sees_by : (b : Bool) → begins_anew known may_restart ≡ b → commits_of (grown (if b then restarted known else known) count size) new.content ≡ (if b then [] else commits_of known old.content) ++ fs
        → commits_of (grown (base_of known may_restart) count size) new.content ≡ kept_frames known may_restart old.content ++ fs
    sees_by b e sees = subst (λ (c : Bool). commits_of (grown (if c then restarted known else known) count size) new.content ≡ (if c then [] else commits_of known old.content) ++ fs) (sym e) sees

-- the pages that are read of an opened log are those of the files' view
pub files_view : (counted : Option ℕ) (db log : List ℕ) (known : LogState) (pages : List (List ℕ)) → IsStateOf counted db log known → length pages ≡ known.size
    → ((number : ℕ) → 1 ≤ number → number ≤ length pages → IsPage db log known.page_size (header_of known) known.frames number (slice_index_or pages (number - 1) [])) → IsFilesView known.page_size counted db log pages
files_view counted db log known pages is size each = record {
  header = header_of known;
  frames = known.frames;
  header_is = is.header_is;
  frames_are = is.frames_are;
  view = record { size = subst (IsViewSize (heads log (header_of known) known.frames) counted (length db) known.page_size) (sym size) is.size_is; each = each };
}
