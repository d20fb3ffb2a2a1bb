-- Why a commit is refused, and what a header on the first page changes of what a writer sees.
use Rattle.std.proofs.Common.{◌≡◌, ◌⊎◌, inl, inr, ℕ, ◌<◌, ◌++◌, suc, List, [], ◌∷◌, Bool, true, false, length, refl, sym, ◌∙◌, ap, subst, arith}
use Rattle.std.specs.Prelude.{IsTrue, IsFalse}
use Rattle.sqlval.specs.declared.fault.Fault.{Fault}
use Rattle.sqlval.specs.declared.fault.Fault.TheVariants.{Memory, Io, NotADatabase, Unsupported, Damaged, Full, Syntax, NoSuch, Exists, Ambiguous, Misuse, Busy, StaleSnapshot, NoTransaction, InTransaction, NoSavepoint, NotNull, Unique, Check, Raised, RealRefused, TypeRefused, RowidFull, RowidMismatch, TooLong, RowChangedBefore, ViewReadOnly, Failed, Blank, Journal}
use Rattle.sqlval.specs.declared.fault.Damage.TheVariants as damage
use Rattle.db_header.specs.declared.fields.Header.{Header}
use Rattle.db_header.specs.Header.{IsHeader}
use Rattle.wal.specs.declared.pages.PageImage.{PageImage}
use Rattle.wal.specs.Commits.{after_refusal}
use Rattle.wal.specs.LogState.{LogState}
use Rattle.wal.specs.Laws.{IsAmong, IsNotAmong, IsChanged}
use Rattle.wal.specs.Pages.{ArePages}
use Rattle.wal.specs.Refusals.{IsCommitRefusal}
use Rattle.pager.specs.declared.writer.Writer.{Writer}
use Rattle.pager.specs.Limits.{pages_of, page_size_of}
use Rattle.pager.specs.Views.{View, ViewHas, changes_of}
use Rattle.pager.specs.Writers.{BeginAtPageOne, FirstIsBytes, HasHeader, IsHeaded, IsConsistent, Reheads, SetsFirst, makes_objects, seen, snapshot_of}
use Rattle.pager.proofs.Seeing.{first_not_missing, seen_from, seen_to}
use Rattle.pager.proofs.WriterPages.{among_and_not, others}

-- ---- the refusals of a commit of pages, where no call has failed before

abbrev pub IsFew : Type 0 → Fault → Type 0
IsFew Within fault = (fault ≡ Memory) ⊎ ((fault ≡ Io) ⊎ ((fault ≡ Full) × (Within → ⊥)))

clash : (b : Bool) → IsFalse b → IsTrue b → ⊥
clash true f t = (let bad : true ≡ false = f in cc)
clash false f t = (let bad : false ≡ true = t in cc)

pub refusal_is_few : {D : Type 0} (has_failed : Bool) (Are Within : Type 0) (old new : D) (failed fails : ℕ) (fault : Fault) → IsFalse has_failed → Are → IsCommitRefusal has_failed Are Within old new failed fails fault → IsFew Within fault
refusal_is_few has_failed Are Within old new failed fails Memory whole are why = inl refl
refusal_is_few has_failed Are Within old new failed fails Io whole are why = inr (inl refl)
refusal_is_few has_failed Are Within old new failed fails NotADatabase whole are why = absurd why
refusal_is_few has_failed Are Within old new failed fails (Unsupported a) whole are why = absurd why
refusal_is_few has_failed Are Within old new failed fails (Damaged damage.Header n) whole are why = absurd why
refusal_is_few has_failed Are Within old new failed fails (Damaged damage.Size n) whole are why = absurd why
refusal_is_few has_failed Are Within old new failed fails (Damaged damage.Page n) whole are why = absurd (why.1 are)
refusal_is_few has_failed Are Within old new failed fails (Damaged damage.Cell n) whole are why = absurd why
refusal_is_few has_failed Are Within old new failed fails (Damaged damage.FreeSpace n) whole are why = absurd why
refusal_is_few has_failed Are Within old new failed fails (Damaged damage.Record n) whole are why = absurd why
refusal_is_few has_failed Are Within old new failed fails (Damaged damage.Order n) whole are why = absurd why
refusal_is_few has_failed Are Within old new failed fails (Damaged damage.Depth n) whole are why = absurd why
refusal_is_few has_failed Are Within old new failed fails (Damaged damage.UsedTwice n) whole are why = absurd why
refusal_is_few has_failed Are Within old new failed fails (Damaged damage.Unused n) whole are why = absurd why
refusal_is_few has_failed Are Within old new failed fails (Damaged damage.Freelist n) whole are why = absurd why
refusal_is_few has_failed Are Within old new failed fails (Damaged damage.Schema n) whole are why = absurd why
refusal_is_few has_failed Are Within old new failed fails (Damaged damage.Index n) whole are why = absurd why
refusal_is_few has_failed Are Within old new failed fails Full whole are why = inr (inr (refl, why.1))
refusal_is_few has_failed Are Within old new failed fails (Syntax a) whole are why = absurd why
refusal_is_few has_failed Are Within old new failed fails (NoSuch a b) whole are why = absurd why
refusal_is_few has_failed Are Within old new failed fails (Exists a) whole are why = absurd why
refusal_is_few has_failed Are Within old new failed fails (Ambiguous a) whole are why = absurd why
refusal_is_few has_failed Are Within old new failed fails (Misuse a) whole are why = absurd why
refusal_is_few has_failed Are Within old new failed fails Busy whole are why = absurd why
refusal_is_few has_failed Are Within old new failed fails StaleSnapshot whole are why = absurd why
refusal_is_few has_failed Are Within old new failed fails NoTransaction whole are why = absurd why
refusal_is_few has_failed Are Within old new failed fails InTransaction whole are why = absurd why
refusal_is_few has_failed Are Within old new failed fails NoSavepoint whole are why = absurd why
refusal_is_few has_failed Are Within old new failed fails NotNull whole are why = absurd why
refusal_is_few has_failed Are Within old new failed fails Unique whole are why = absurd why
refusal_is_few has_failed Are Within old new failed fails Check whole are why = absurd why
refusal_is_few has_failed Are Within old new failed fails (Raised a) whole are why = absurd why
refusal_is_few has_failed Are Within old new failed fails RealRefused whole are why = absurd why
refusal_is_few has_failed Are Within old new failed fails TypeRefused whole are why = absurd why
refusal_is_few has_failed Are Within old new failed fails RowidFull whole are why = absurd why
refusal_is_few has_failed Are Within old new failed fails RowidMismatch whole are why = absurd why
refusal_is_few has_failed Are Within old new failed fails TooLong whole are why = absurd why
refusal_is_few has_failed Are Within old new failed fails RowChangedBefore whole are why = absurd why
refusal_is_few has_failed Are Within old new failed fails ViewReadOnly whole are why = absurd why
refusal_is_few has_failed Are Within old new failed fails Failed whole are why = absurd (clash has_failed whole why.1)
refusal_is_few has_failed Are Within old new failed fails Blank whole are why = absurd why
refusal_is_few has_failed Are Within old new failed fails Journal whole are why = absurd why

pub few_keep : {D : Type 0} (has_failed : Bool) (Are Within : Type 0) (old new : D) (failed fails : ℕ) (fault : Fault) → IsFew Within fault → (fault ≡ Io → ⊥) → IsCommitRefusal has_failed Are Within old new failed fails fault → new ≡ old
few_keep has_failed Are Within old new failed fails fault (inl is) other why = subst (IsCommitRefusal has_failed Are Within old new failed fails) is why
few_keep has_failed Are Within old new failed fails fault (inr (inl is)) other why = absurd (other is)
few_keep has_failed Are Within old new failed fails fault (inr (inr is)) other why = (let at : (new ≡ old) × (Within → ⊥) = subst (IsCommitRefusal has_failed Are Within old new failed fails) is.0 why in at.0)

pub few_know : (Within : Type 0) (known new : LogState) (fault : Fault) → IsFew Within fault → (fault ≡ Io → ⊥) → new ≡ after_refusal known fault → new ≡ known
few_know Within known new fault (inl is) other after = after ∙ ap (after_refusal known) is
few_know Within known new fault (inr (inl is)) other after = absurd (other is)
few_know Within known new fault (inr (inr is)) other after = after ∙ ap (after_refusal known) is.0

-- ---- another header on the first of some pages

pub first_header : (size bytes : ℕ) (ps : List PageImage) (h : Header) (page : List ℕ) → ArePages 0 size bytes ps → BeginAtPageOne ps → HasHeader ps h → IsAmong ps 1 page → IsHeader page h
first_header size bytes [] h page are first has among = absurd among
first_header size bytes (p ∷ ps) h page are first has (inl here) = subst (λ (l : List ℕ). IsHeader l h) (sym here.1) has
first_header size bytes (p ∷ ps) h page are first has (inr rest) = absurd (among_and_not ps 1 page rest (others p.number size bytes 1 ps (omega (arith, first)) are.3))

pub has_header : (size bytes : ℕ) (ps : List PageImage) (h : Header) (page : List ℕ) → ArePages 0 size bytes ps → BeginAtPageOne ps → IsHeader page h → IsAmong ps 1 page → HasHeader ps h
has_header size bytes [] h page are first is among = absurd among
has_header size bytes (p ∷ ps) h page are first is (inl here) = subst (λ (l : List ℕ). IsHeader l h) here.1 is
has_header size bytes (p ∷ ps) h page are first is (inr rest) = absurd (among_and_not ps 1 page rest (others p.number size bytes 1 ps (omega (arith, first)) are.3))

reheads_pages : (last size bytes : ℕ) (ps qs : List PageImage) (h : Header) → Reheads ps qs h → ArePages last size bytes ps → ArePages last size bytes qs
reheads_pages last size bytes [] qs h re are = subst (ArePages last size bytes) (sym re) are
reheads_pages last size bytes (p ∷ ps) [] h re are = absurd re
reheads_pages last size bytes (p ∷ ps) (q ∷ qs) h re are = (
  omega (arith, re.0, are.0),
  omega (arith, re.0, are.1),
  re.1.long ∙ are.2,
  subst (λ (n : ℕ). ArePages n size bytes qs) (sym re.0) (subst (ArePages p.number size bytes) (sym re.2) are.3),
)

reheads_begin : (ps qs : List PageImage) (h : Header) → Reheads ps qs h → BeginAtPageOne ps → BeginAtPageOne qs
reheads_begin [] qs h re first = absurd first
reheads_begin (p ∷ ps) [] h re first = absurd re
reheads_begin (p ∷ ps) (q ∷ qs) h re first = re.0 ∙ first

pub reheads_has : (ps qs : List PageImage) (h : Header) → Reheads ps qs h → BeginAtPageOne ps → HasHeader qs h
reheads_has [] qs h re first = absurd first
reheads_has (p ∷ ps) [] h re first = absurd re
reheads_has (p ∷ ps) (q ∷ qs) h re first = re.1.header_is

pub reheads_length : (ps qs : List PageImage) (h : Header) → Reheads ps qs h → length qs ≡ length ps
reheads_length [] qs h re = ap length re
reheads_length (p ∷ ps) [] h re = absurd re
reheads_length (p ∷ ps) (q ∷ qs) h re = ap (λ (n : ℕ). suc n) (ap length re.2)

pub reheads_twice : (ps qs rs : List PageImage) (h k : Header) → Reheads ps qs h → Reheads qs rs k → BeginAtPageOne ps → Reheads ps rs k
reheads_twice [] qs rs h k a b first = absurd first
reheads_twice (p ∷ ps) [] rs h k a b first = absurd a
reheads_twice (p ∷ ps) (q ∷ qs) [] h k a b first = absurd b
reheads_twice (p ∷ ps) (q ∷ qs) (r ∷ rs) h k a b first = (b.0 ∙ a.0, record { header_is = b.1.header_is; only = λ other bytes is behind. b.1.only other bytes is (behind ∙ sym a.1.behind); behind = b.1.behind ∙ a.1.behind; long = b.1.long ∙ a.1.long }, b.2 ∙ a.2)

among_forth : (ps qs : List PageImage) (h : Header) (number : ℕ) (bytes : List ℕ) → Reheads ps qs h → BeginAtPageOne ps → (number ≡ 1 → ⊥) → IsAmong qs number bytes → IsAmong ps number bytes
among_forth [] qs h number bytes re first other among = absurd first
among_forth (p ∷ ps) [] h number bytes re first other among = absurd re
among_forth (p ∷ ps) (q ∷ qs) h number bytes re first other (inl here) = absurd (other (sym here.0 ∙ re.0 ∙ first))
among_forth (p ∷ ps) (q ∷ qs) h number bytes re first other (inr rest) = inr (subst (λ (l : List PageImage). IsAmong l number bytes) re.2 rest)

among_back : (ps qs : List PageImage) (h : Header) (number : ℕ) (bytes : List ℕ) → Reheads ps qs h → BeginAtPageOne ps → (number ≡ 1 → ⊥) → IsAmong ps number bytes → IsAmong qs number bytes
among_back [] qs h number bytes re first other among = absurd first
among_back (p ∷ ps) [] h number bytes re first other among = absurd re
among_back (p ∷ ps) (q ∷ qs) h number bytes re first other (inl here) = absurd (other (sym here.0 ∙ first))
among_back (p ∷ ps) (q ∷ qs) h number bytes re first other (inr rest) = inr (subst (λ (l : List PageImage). IsAmong l number bytes) (sym re.2) rest)

pub not_forth : (ps qs : List PageImage) (h : Header) (number : ℕ) → Reheads ps qs h → IsNotAmong qs number → IsNotAmong ps number
not_forth [] qs h number re none = tt
not_forth (p ∷ ps) [] h number re none = absurd re
not_forth (p ∷ ps) (q ∷ qs) h number re none = ((λ is. none.0 (re.0 ∙ is)), subst (λ (l : List PageImage). IsNotAmong l number) re.2 none.1)

not_back : (ps qs : List PageImage) (h : Header) (number : ℕ) → Reheads ps qs h → IsNotAmong ps number → IsNotAmong qs number
not_back [] qs h number re none = subst (λ (l : List PageImage). IsNotAmong l number) (sym re) tt
not_back (p ∷ ps) [] h number re none = absurd re
not_back (p ∷ ps) (q ∷ qs) h number re none = ((λ is. none.0 (sym re.0 ∙ is)), subst (λ (l : List PageImage). IsNotAmong l number) (sym re.2) none.1)

-- page 1 of the pages with the new header
pub record IsFirst (qs : List PageImage) (page : List ℕ) (h : Header) : Type 0 where
  pub first : List ℕ
  pub among : IsAmong qs 1 first
  pub headed : IsHeaded page first h

first_page : (size bytes : ℕ) (ps qs : List PageImage) (h : Header) (page : List ℕ) → ArePages 0 size bytes ps → BeginAtPageOne ps → Reheads ps qs h → IsAmong ps 1 page → IsFirst qs page h
first_page size bytes [] qs h page are first re among = absurd among
first_page size bytes (p ∷ ps) [] h page are first re among = absurd re
first_page size bytes (p ∷ ps) (q ∷ qs) h page are first re (inl here) = record {
  first = q.bytes.items;
  among = inl (re.0 ∙ first, refl);
  headed = subst (λ (l : List ℕ). IsHeaded l q.bytes.items h) (sym here.1) re.1;
}
first_page size bytes (p ∷ ps) (q ∷ qs) h page are first re (inr rest) = absurd (among_and_not ps 1 page rest (others p.number size bytes 1 ps (omega (arith, first)) are.3))

-- page 1 that a whole writer sees is among its changes
pub first_among : (view : View) (writer : Writer) (page : List ℕ) → IsConsistent writer → ViewHas (seen view writer) 1 page → IsAmong (changes_of writer) 1 page
first_among view writer page whole has = elim (seen_from view writer 1 page whole has) [
  | inl among ↦ among
  | inr none ↦ absurd (first_not_missing (changes_of writer) whole.first none.0)
]

-- ---- a writer with another header on page 1

pub record IsReheaded (old new : Writer) (h : Header) : Type 0 where
  pub pages : Reheads (changes_of old) (changes_of new) h
  pub rest : (pages_of new ≡ pages_of old) × (page_size_of new ≡ page_size_of old) × (snapshot_of new ≡ snapshot_of old) × (makes_objects new ≡ makes_objects old)

pub reheaded_whole : (old new : Writer) (h : Header) → IsReheaded old new h → IsConsistent old → IsConsistent new
reheaded_whole old new h re was = record {
  pages = subst (λ (n : ℕ). ArePages 0 n (page_size_of new) (changes_of new)) (sym re.rest.0)
      (subst (λ (n : ℕ). ArePages 0 (pages_of old) n (changes_of new)) (sym re.rest.1) (reheads_pages 0 (pages_of old) (page_size_of old) (changes_of old) (changes_of new) h re.pages was.pages));
  first = reheads_begin (changes_of old) (changes_of new) h re.pages was.first;
}

module _ (view : View) (old new : Writer) (h : Header) (re : IsReheaded old new h) (was : IsConsistent old) where
  abbrev pub Before : ℕ → List ℕ → Type 0
  Before number bytes = IsChanged view.db view.page_size view.frames (changes_of old) number bytes

  abbrev pub Now : ℕ → List ℕ → Type 0
  Now number bytes = IsChanged view.db view.page_size view.frames (changes_of new) number bytes

  forth : (number : ℕ) (bytes : List ℕ) → (number ≡ 1 → ⊥) → Now number bytes → Before number bytes
  forth number bytes other (inl among) = inl (among_forth (changes_of old) (changes_of new) h number bytes re.pages was.first other among)
  forth number bytes other (inr none) = inr (not_forth (changes_of old) (changes_of new) h number re.pages none.0, none.1)

  back : (number : ℕ) (bytes : List ℕ) → (number ≡ 1 → ⊥) → Before number bytes → Now number bytes
  back number bytes other (inl among) = inl (among_back (changes_of old) (changes_of new) h number bytes re.pages was.first other among)
  back number bytes other (inr none) = inr (not_back (changes_of old) (changes_of new) h number re.pages none.0, none.1)

  pub reheaded_forth : (number : ℕ) (bytes : List ℕ) → (number ≡ 1 → ⊥) → ViewHas (seen view new) number bytes → ViewHas (seen view old) number bytes
  reheaded_forth number bytes other has = seen_to view old number bytes was (forth number bytes other (seen_from view new number bytes (reheaded_whole old new h re was) has))

  pub reheaded_back : (number : ℕ) (bytes : List ℕ) → (number ≡ 1 → ⊥) → ViewHas (seen view old) number bytes → ViewHas (seen view new) number bytes
  reheaded_back number bytes other has = seen_to view new number bytes (reheaded_whole old new h re was) (back number bytes other (seen_from view old number bytes was has))

  pub reheaded_first : (page : List ℕ) → ViewHas (seen view old) 1 page → IsFirst (changes_of new) page h
  reheaded_first page has = first_page (pages_of old) (page_size_of old) (changes_of old) (changes_of new) h page was.pages was.first re.pages (first_among view old page was has)

-- a writer with the same pages
pub reheaded_same : (old mid new : Writer) (h : Header) → IsReheaded old mid h → changes_of new ≡ changes_of mid
    → (pages_of new ≡ pages_of mid) × (page_size_of new ≡ page_size_of mid) × (snapshot_of new ≡ snapshot_of mid) × (makes_objects new ≡ makes_objects mid) → IsReheaded old new h
reheaded_same old mid new h re pages rest = record {
  pages = subst (λ (ps : List PageImage). Reheads (changes_of old) ps h) (sym pages) re.pages;
  rest = (rest.0 ∙ re.rest.0, rest.1 ∙ re.rest.1, rest.2 ∙ re.rest.2, rest.3 ∙ re.rest.3);
}

-- ---- pages in pieces

pub reheads_in : (ps qs rest : List PageImage) (h : Header) → 0 < length ps → Reheads ps qs h → Reheads (ps ++ rest) (qs ++ rest) h
reheads_in [] qs rest h some re = absurd (omega (arith, some))
reheads_in (p ∷ ps) [] rest h some re = absurd re
reheads_in (p ∷ ps) (q ∷ qs) rest h some re = (re.0, re.1, ap (λ xs. xs ++ rest) re.2)

pub sets_in : (ps qs rest : List PageImage) → 0 < length ps → SetsFirst ps qs → SetsFirst (ps ++ rest) (qs ++ rest)
sets_in [] qs rest some sets = absurd (omega (arith, some))
sets_in (p ∷ ps) [] rest some sets = absurd sets
sets_in (p ∷ ps) (q ∷ qs) rest some sets = (sets.0, sets.1, ap (λ xs. xs ++ rest) sets.2)

pub header_in : (ps rest : List PageImage) (h : Header) → 0 < length ps → HasHeader (ps ++ rest) h → HasHeader ps h
header_in [] rest h some has = absurd (omega (arith, some))
header_in (p ∷ ps) rest h some has = has

pub bytes_in : (ps rest : List PageImage) → 0 < length ps → FirstIsBytes ps → FirstIsBytes (ps ++ rest)
bytes_in [] rest some are = absurd (omega (arith, some))
bytes_in (p ∷ ps) rest some are = are

pub sets_same_length : (ps qs : List PageImage) → SetsFirst ps qs → length qs ≡ length ps
sets_same_length [] qs sets = ap length sets
sets_same_length (p ∷ ps) [] sets = absurd sets
sets_same_length (p ∷ ps) (q ∷ qs) sets = ap (λ xs. suc (length xs)) sets.2
