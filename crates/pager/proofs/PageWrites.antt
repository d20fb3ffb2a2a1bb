-- What the writing of one page makes of a writer.
use Rattle.std.proofs.Common.{◌≡◌, inl, inr, ◌<◌, ◌≤◌, ◌+◌, ℕ, zero, suc, List, [], ◌∷◌, ◌++◌, length, get_or, set, refl, sym, ◌∙◌, ap, subst, arith, Bool, true, false}
use Rattle.std.specs.Prelude.{IfErr, Result, Ok, Err, max}
use Rattle.std.specs.List.{AllByRecursion, insert}
use Rattle.std.proofs.lemmas.Bool.{cases_lt}
use Rattle.std.proofs.lemmas.Bool.Decides.{nat_tests}
use Rattle.sqlval.specs.declared.fault.Fault.{Fault}
use Rattle.sqlval.specs.declared.fault.Fault.TheVariants.{Full}
use Rattle.wal.specs.declared.pages.PageImage.{PageImage}
use Rattle.wal.specs.LogState.{size_of}
use Rattle.wal.specs.Pages.{ArePages}
use Rattle.pager.specs.declared.writer.Writer.{Writer}
use Rattle.pager.specs.Limits.{is_too_large, one_more, pages_of, page_size_of}
use Rattle.pager.specs.Sound.{GetsPage, IsSound, KeepsRest, most_of}
use Rattle.pager.specs.Marks.{marks_of}
use Rattle.pager.specs.Views.{changes_of}
use Rattle.pager.specs.Writers.{BeginAtPageOne, DiffersInPages, IsAt, IsConsistent, IsGapFor, makes_objects, snapshot_of}
use Rattle.pager.proofs.Seeing.{inserted, replaced}
use Rattle.pager.proofs.Sounding.{AreBeside, beside_back, end_gap, insert_end, insert_sound, past_limits, push_sound, set_sound, sound_alike, sound_same, within_limits}
use Rattle.pager.proofs.WriterPages.{not_among_gap}

no_larger : (a b : ℕ) → b ≤ a → a ≡ max a b
no_larger a b le = grind (arith, nat_tests)

one_larger : (a b : ℕ) → b ≡ a + 1 → a + 1 ≡ max a b
one_larger a b is = grind (arith, nat_tests)

pub any_default : (ps : List PageImage) (i : ℕ) (a b : PageImage) → i < length ps → get_or ps i a ≡ get_or ps i b
any_default [] i a b lt = absurd (omega (arith, lt))
any_default (p ∷ ps) zero a b lt = refl
any_default (p ∷ ps) (suc i) a b lt = any_default ps i a b (omega (arith, lt))

-- each page is as long as a page is
pub page_length : (last size bytes : ℕ) (ps : List PageImage) (i : ℕ) (d : PageImage) → ArePages last size bytes ps → i < length ps → length (get_or ps i d).bytes.items ≡ bytes
page_length last size bytes [] i d are lt = absurd (omega (arith, lt))
page_length last size bytes (p ∷ ps) zero d are lt = are.2
page_length last size bytes (p ∷ ps) (suc i) d are lt = page_length p.number size bytes ps i d are.3 (omega (arith, lt))

-- what a written page made of a writer
pub record IsWritten (number : ℕ) (bytes : List ℕ) (old new : Writer) : Type 0 where
  pub rest : KeepsRest old new
  pub gets : IsConsistent old → GetsPage number bytes old new

beside_of : (old new : Writer) → DiffersInPages old new → AreBeside old new
beside_of old new rest = record { size = rest.size; page_size = rest.page_size; snapshot = rest.snapshot }

-- where not even the pages differ, nothing does
pub rest_same : (old new : Writer) → DiffersInPages old new → changes_of new ≡ changes_of old → KeepsRest old new
rest_same old new rest changes = record {
  sound = sound_same old new (sound_alike old new (beside_of old new rest) changes) (sound_alike new old (beside_back old new (beside_of old new rest)) (sym changes));
  page_size = rest.page_size;
  snapshot = rest.snapshot;
  objects = rest.objects;
  marks = rest.marks;
}

-- ---- bytes in the place of as many others

pub overwrites : (old new : Writer) (i number : ℕ) (here page : PageImage) (bytes : List ℕ) → DiffersInPages old new → changes_of new ≡ set (changes_of old) i page
    → IsAt (changes_of old) number i → here ≡ get_or (changes_of old) i here → page.number ≡ here.number → page.bytes.items ≡ bytes → length bytes ≡ page_size_of old → length here.bytes.items ≡ length bytes
    → IsWritten number bytes old new
overwrites old new i number here page bytes rest changes at here_is same bytes_are long old_long = record {
  rest = record {
    sound = set_sound old new i page (beside_of old new rest) changes there len (λ d. ap (λ (p : PageImage). length p.bytes.items) (any_default (changes_of old) i d here at.within ∙ sym here_is) ∙ old_long ∙ long);
    page_size = rest.page_size;
    snapshot = rest.snapshot;
    objects = rest.objects;
    marks = rest.marks;
  };
  gets = λ whole. record { page = page; number_is = number_is; bytes_are = bytes_are; puts = (replaced old new i page whole there len changes rest.size rest.page_size rest.snapshot rest.marks).puts };
}
  where
    number_is : page.number ≡ number
    number_is = same ∙ ap (λ (p : PageImage). p.number) here_is ∙ at.number_is here

    there : IsAt (changes_of old) page.number i
    there = record { within = at.within; number_is = λ d. at.number_is d ∙ sym number_is }

    len : length page.bytes.items ≡ page_size_of old
    len = ap length bytes_are ∙ long

-- ---- a page in its gap

pub inserts : (old new : Writer) (i : ℕ) (page : PageImage) → DiffersInPages old new → changes_of new ≡ insert (changes_of old) i page
    → 1 ≤ i → i ≤ length (changes_of old) → (IsConsistent old → IsGapFor (changes_of old) page.number i) → 1 ≤ page.number → page.number ≤ pages_of old → page.number ≤ size_of (snapshot_of old)
    → length page.bytes.items ≡ page_size_of old → IsWritten page.number page.bytes.items old new
inserts old new i page rest changes low le gap first last shown len = record {
  rest = record {
    sound = insert_sound old new i page (beside_of old new rest) changes low le gap first last shown len;
    page_size = rest.page_size;
    snapshot = rest.snapshot;
    objects = rest.objects;
    marks = rest.marks;
  };
  gets = λ whole. record {
    page = page;
    number_is = refl;
    bytes_are = refl;
    puts = (inserted old new i page whole (gap whole) first len changes (rest.size ∙ no_larger (pages_of old) page.number last) rest.page_size rest.snapshot rest.marks).puts;
  };
}

-- a sound writer has no gap before page 1, and none past its snapshot
first_is_one : (ps : List PageImage) (number : ℕ) → BeginAtPageOne ps → 1 ≤ number → AllByRecursion (λ (p : PageImage). number < p.number) ps → ⊥
first_is_one [] number begins low greater = begins
first_is_one (p ∷ ps) number begins low greater = omega (arith, begins, low, greater.0)

pub no_first_gap : (writer : Writer) (number : ℕ) → IsConsistent writer → 1 ≤ number → IsGapFor (changes_of writer) number 0 → ⊥
no_first_gap writer number whole low gap = first_is_one (changes_of writer) number whole.first low gap.greater

pub no_gap_past : (writer : Writer) (number i : ℕ) → IsSound writer → size_of (snapshot_of writer) < number → number ≤ pages_of writer → IsGapFor (changes_of writer) number i → ⊥
no_gap_past writer number i sound above below gap = sound.reaches number above below (not_among_gap (changes_of writer) number i gap)

-- ---- a page at the end

pub adds : (old new : Writer) (page : PageImage) (bytes : List ℕ) → changes_of new ≡ changes_of old ++ (page ∷ []) → pages_of new ≡ pages_of old + 1 → page_size_of new ≡ page_size_of old → snapshot_of new ≡ snapshot_of old
    → makes_objects new ≡ makes_objects old → marks_of new ≡ marks_of old → 1 ≤ length (changes_of old) → page.number ≡ pages_of old + 1 → page.bytes.items ≡ bytes → length bytes ≡ page_size_of old → pages_of old + 1 ≤ most_of (page_size_of old)
    → IsWritten (pages_of old + 1) bytes old new
adds old new page bytes changes size page_size snapshot objects marks some is bytes_are long within = record {
  rest = record {
    sound = push_sound old new page changes size page_size snapshot some is (ap length bytes_are ∙ long) within;
    page_size = page_size;
    snapshot = snapshot;
    objects = objects;
    marks = marks;
  };
  gets = λ whole. record {
    page = page;
    number_is = is;
    bytes_are = bytes_are;
    puts = (inserted old new (length (changes_of old)) page whole
        (subst (λ (n : ℕ). IsGapFor (changes_of old) n (length (changes_of old))) (sym is) (end_gap 0 (pages_of old) (page_size_of old) (changes_of old) whole.pages))
        (omega (arith, is)) (ap length bytes_are ∙ long) (changes ∙ sym (insert_end (changes_of old) page)) (size ∙ one_larger (pages_of old) page.number is) page_size snapshot marks).puts;
  };
}

-- ---- one page more

pub grown_within : (pages page_size n : ℕ) → one_more pages page_size ≡ Ok n → (n ≡ pages + 1) × (pages + 1 ≤ most_of page_size)
grown_within pages page_size n is = by_test (is_too_large (pages + 1) page_size) refl
  where
    ok : ◌≡◌ {A = Result ℕ Fault} (Ok (pages + 1)) (Ok n) → pages + 1 ≡ n
    ok same = cc

    by_test : (test : Bool) → is_too_large (pages + 1) page_size ≡ test → (n ≡ pages + 1) × (pages + 1 ≤ most_of page_size)
    by_test true large = (let bad : Err Full ≡ Ok n = sym (rw large refl) ∙ is in absurd cc)
    by_test false small = (sym (ok (sym (rw small refl) ∙ is)), within_limits (pages + 1) page_size small)

pub grown_full : (pages page_size : ℕ) (fault : Fault) → is_too_large pages page_size ≡ false → one_more pages page_size ≡ Err fault → pages ≡ most_of page_size
grown_full pages page_size fault within is = by_test (is_too_large (pages + 1) page_size) refl
  where
    by_test : (test : Bool) → is_too_large (pages + 1) page_size ≡ test → pages ≡ most_of page_size
    by_test true large = full (past_limits (pages + 1) page_size large) (within_limits pages page_size within)
      where
        full : (pages + 1 ≤ most_of page_size → ⊥) → pages ≤ most_of page_size → pages ≡ most_of page_size
        full past le = elim (cases_lt pages (most_of page_size)) [
          | inl less ↦ absurd (past (omega (arith, less)))
          | inr ge ↦ omega (arith, ge, le)
        ]
    by_test false small = (let bad : Ok (pages + 1) ≡ Err fault = sym (rw small refl) ∙ is in absurd cc)

-- what holds of each fault holds of a refusal
pub of_each : {T : Type 0} (result : Result T Fault) (P : Fault → Type 0) → ((fault : Fault) → P fault) → IfErr result P
of_each (Ok x) P each = tt
of_each (Err fault) P each = each fault
