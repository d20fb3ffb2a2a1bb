-- A database file that stands for itself, and its copied pages, when what is known of the files changes.
use Rattle.std.proofs.Common.{◌≡◌, ◌∙◌, ◌<◌, ◌≤◌, ◌+◌, ◌++◌, ℕ, Bool, true, false, List, length, take, refl, sym, subst, ap, arith}
use Rattle.std.specs.Prelude.{Option, Some, None, nat_lt, ◌==◌, ◌&&◌}
use Rattle.std.proofs.lemmas.Bool.{ltb-true, eqb-true}
use Rattle.wal_frame.specs.declared.log_header.LogHeader.{LogHeader}
use Rattle.wal_frame.specs.Written.{Framed}
use Rattle.wal.specs.declared.state.State.{State}
use Rattle.wal.specs.Alone.{HasCopiedPages, HasNewest, StandsAlone, StandsWhereCopied}
use Rattle.wal.specs.Committed.{framed_to, frames_under}
use Rattle.wal.specs.LogState.{LogState, header_of, state_in}
use Rattle.wal.specs.Restarts.{is_copied}
use Rattle.wal.specs.State.{SameState}
use Rattle.wal.specs.Stands.{LogStands, header_where, log_end}
use Rattle.wal.proofs.Same.{known_same}
use Rattle.wal.proofs.Cutting.{cut_frames}
use Rattle.wal.proofs.Views.{framed_take, seen_by_header}

-- what it says, of what is known
abbrev pub Copied : LogState → List ℕ → List ℕ → Type 0
Copied known db log = StandsWhereCopied known.header known.has_header known.frames known.copied known.page_size known.size db log

pub copied_same : (old new : State) (db log : List ℕ) → SameState old new → Copied (state_in old) db log → Copied (state_in new) db log
copied_same old new db log same is = subst (λ (k : LogState). Copied k db log) (sym (known_same old new same)) is

pub copied_cut : (s : State) (end : ℕ) (db log cut : List ℕ) → LogStands s.header s.is_begun s.mark s.sum s.index log → end ≡ log_end s.header s.is_begun s.mark → cut ≡ take end log → Copied (state_in s) db log → Copied (state_in s) db cut
copied_cut s end db log cut stands is_end is copied some all =
    subst (λ (fs : List Framed). StandsAlone db s.page_size fs s.size)
    (sym (ap (λ (l : List ℕ). frames_under (header_where s.is_begun s.header) l s.mark) is ∙ cut_frames s.header s.is_begun s.mark end s.sum s.index log stands is_end))
    (copied some all)

-- where not all frames are copied, or there are none, it says nothing
pub uncopied : (s : State) (db log : List ℕ) → (0 < s.mark → s.copied ≡ s.mark → ⊥) → Copied (state_in s) db log
uncopied s db log none some all = absurd (none some all)

all_three : (a b c : Bool) → (a && b && c) ≡ true → (b ≡ true) × (c ≡ true)
all_three true true true is = (refl, refl)
all_three true true false is = (refl, is)
all_three true false c is = absurd (let bad : false ≡ true = is in cc)
all_three false b c is = absurd (let bad : false ≡ true = is in cc)

-- the log has frames, and all of them are copied
pub if_copied : (known : LogState) → is_copied known ≡ true → (0 < known.frames) × (known.copied ≡ known.frames)
if_copied known is =
    let both = all_three known.has_header (nat_lt 0 known.frames) (known.copied == known.frames) is in
    (ltb-true 0 known.frames both.0, eqb-true known.copied known.frames both.1)

-- ---- the pages that were copied

abbrev pub HasCopies : State → List ℕ → List ℕ → Type 0
HasCopies s db log = HasCopiedPages s s.copied_pages db log

-- the frames that were copied
abbrev pub copied_frames : State → List ℕ → List Framed
copied_frames s log = frames_under (header_where s.is_begun s.header) log s.copied

pub copies_as : (old new : State) (db log after : List ℕ) → new.page_size ≡ old.page_size → new.copied_pages ≡ old.copied_pages → copied_frames new after ≡ copied_frames old log → HasCopies old db log → HasCopies new db after
copies_as old new db log after page_size most frames is number low high within =
    subst (λ (fs : List Framed). HasNewest db new.page_size fs number) (sym frames)
    (subst (λ (n : ℕ). HasNewest db n (copied_frames old log) number) (sym page_size) (is number low (omega (arith, high, most)) (omega (arith, within, most))))

pub copies_same : (old new : State) (db log : List ℕ) → SameState old new → HasCopies old db log → HasCopies new db log
copies_same old new db log same is =
    copies_as old new db log log same.page_size same.copied_pages (ap (λ (k : LogState). frames_under (header_of k) log k.copied) (known_same old new same)) is

fewer_frames : (header : Option LogHeader) (old new : List ℕ) (m n : ℕ) → m ≤ n → frames_under header new n ≡ frames_under header old n → frames_under header new m ≡ frames_under header old m
fewer_frames None old new m n le same = refl
fewer_frames (Some h) old new m n le same = sym (framed_take h new m n le) ∙ ap (take m) same ∙ framed_take h old m n le

-- after a commit of these frames the log has those that were copied
pub copies_after : (old new : State) (db log after : List ℕ) (fs : List Framed) → new.page_size ≡ old.page_size → new.header ≡ old.header → new.is_begun ≡ true → new.copied ≡ old.copied → new.copied_pages ≡ old.copied_pages
    → framed_to old.header after (old.mark + length fs) ≡ frames_under (header_where old.is_begun old.header) log old.mark ++ fs → HasCopies old db log → HasCopies new db after
copies_after old new db log after fs page_size header begun copied most grown is =
    copies_as old new db log after page_size most
    ((λ i. frames_under (header_where (begun i) (header i)) after (copied i)) ∙ seen_by_header old.header old.is_begun log after fs old.mark old.copied grown old.copied_few)
    is

pub copies_cut : (s : State) (end : ℕ) (db log cut : List ℕ) → LogStands s.header s.is_begun s.mark s.sum s.index log → end ≡ log_end s.header s.is_begun s.mark → cut ≡ take end log → HasCopies s db log → HasCopies s db cut
copies_cut s end db log cut stands is_end is copies =
    copies_as s s db log cut refl refl
    (fewer_frames (header_where s.is_begun s.header) log cut s.copied s.mark s.copied_few
    (ap (λ (l : List ℕ). frames_under (header_where s.is_begun s.header) l s.mark) is ∙ cut_frames s.header s.is_begun s.mark end s.sum s.index log stands is_end))
    copies

-- where none were copied, it says nothing
pub no_copies : (s : State) (db log : List ℕ) → s.copied_pages ≡ 0 → HasCopies s db log
no_copies s db log none number low high = absurd (omega (arith, low, high, none))
