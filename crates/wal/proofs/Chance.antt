-- That no frame is accepted by chance, said of chains, gives what is said of versions; and what holds of more versions holds of fewer.
use Rattle.std.proofs.Common.{◌≡◌, inl, inr, ◌<◌, ℕ, zero, suc, List, [], ◌∷◌, ◌++◌, get_or, sym, ◌∙◌, ap, subst, arith, length-append}
use Rattle.std.specs.Prelude.{Some, slice_get}
use Rattle.std.proofs.lemmas.List.{get_or_append_left, get_or_push, append-nil}
use Rattle.std.proofs.lemmas.Option.{slice_get_within, get_or_from_slice_get}
use Rattle.std.proofs.lemmas.Bool.{cases_lt}
use Rattle.disk.specs.File.{Version, IsLeft, version_at, blank_version}
use Rattle.disk.proofs.Moments.{left_more}
use Rattle.wal_frame.specs.declared.log_header.LogHeader.{LogHeader}
use Rattle.wal_frame.specs.Written.{Framed}
use Rattle.wal.specs.Chains.{Chained, IsChained, NoChanceMatchIn}
use Rattle.wal.specs.Committed.{IsAcceptedAt, HasCommits, framed_at, framed_to}
use Rattle.wal.specs.Crashes.{AcceptTheirChains, HasNoChance, IsVersionsFrame, LeavesEither, LeavesCommits, KeepsSynced}
use Rattle.wal.proofs.FrameLists.{framed_len}

pub framed_get : (h : LogHeader) (log : List ℕ) (n k : ℕ) (d : Framed) → k < n → get_or (framed_to h log n) k d ≡ framed_at h log k
framed_get h log zero k d lt = absurd (omega (arith, lt))
framed_get h log (suc n) k d lt = elim (cases_lt k n) [
  | inl before ↦ get_or_append_left (framed_to h log n) (framed_at h log n ∷ []) d k (omega (arith, before, framed_len h log n)) ∙ framed_get h log n k d before
  | inr past ↦ (let is : n ≡ k = omega (arith, past, lt) in get_or_push (framed_to h log n) (framed_at h log n) d k (framed_len h log n ∙ is) ∙ ap (framed_at h log) is)
]

chained_frame : (versions : List Version) (headers : List Chained) (h : LogHeader) (k : ℕ) (c : List ℕ) → AcceptTheirChains versions headers → IsChained versions headers h k (framed_at h c k) → IsVersionsFrame versions h k c
chained_frame versions headers h k c accept is =
    let i = is.is.version in
    let bytes = (version_at versions i).bytes in
    let got : slice_get (framed_to h bytes is.count) k ≡ Some (framed_at h c k) = ap (λ (l : List Framed). slice_get l k) (sym is.is.frames) ∙ is.same in
    let lt : k < is.count = omega (arith, slice_get_within (framed_to h bytes is.count) k (framed_at h c k) got, framed_len h bytes is.count) in
    record {
      version = i;
      within = is.is.is.within;
      accepted = λ j le. accept is.place (record { header = h; count = is.count }) i is.known is.is.is j (omega (arith, le, lt));
      same = sym (get_or_from_slice_get (framed_to h bytes is.count) k (framed_at h c k) (framed_at h c k) got) ∙ framed_get h bytes is.count k (framed_at h c k) lt;
    }

-- the literal premise gives the one that the contracts have
pub from_chains : (versions : List Version) (headers : List Chained) (c : List ℕ) → NoChanceMatchIn versions headers → AcceptTheirChains versions headers → IsLeft versions c → HasNoChance versions c
from_chains versions headers c free accept left h k begins right = chained_frame versions headers h k c accept (free c h k left begins right)

-- more versions have what fewer have
pub chance_more : (vs more : List Version) (c : List ℕ) → HasNoChance vs c → HasNoChance (vs ++ more) c
chance_more vs more c chance h k begins right =
    let v = chance h k begins right in
    let there : version_at (vs ++ more) v.version ≡ version_at vs v.version = get_or_append_left vs more blank_version v.version v.within in
    record {
      version = v.version;
      within = omega (arith, v.within, length-append vs more);
      accepted = subst (λ (w : Version). IsAcceptedAt h w.bytes k) (sym there) v.accepted;
      same = v.same ∙ ap (λ (w : Version). framed_at h w.bytes k) (sym there);
    }

pub either_earlier : (page_size : ℕ) (these those : List Framed) (vs more : List Version) → LeavesEither page_size these those (vs ++ more) → LeavesEither page_size these those vs
either_earlier page_size these those vs more all c left chance = all c (left_more vs more c left) (chance_more vs more c chance)

pub commits_earlier : (page_size : ℕ) (these : List Framed) (vs more : List Version) → LeavesCommits page_size these (vs ++ more) → LeavesCommits page_size these vs
commits_earlier page_size these vs more all c left = all c (left_more vs more c left)

-- during a commit the log keeps what is on the disk
pub either_keeps : (page_size : ℕ) (these fs : List Framed) (vs : List Version) → LeavesEither page_size these (these ++ fs) vs → KeepsSynced page_size these ⊥ vs
either_keeps page_size these fs vs all c left chance = elim (all c left chance) [
  | inl old ↦ inl ([], subst (HasCommits page_size c) (sym (append-nil these)) old)
  | inr new ↦ inl (fs, new)
]
