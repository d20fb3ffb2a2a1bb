-- Where the content is what a crash may leave.
use Rattle.std.proofs.Common.{◌≡◌, ◌⊎◌, inl, inr, ⊎_elim, ◌+◌, ℕ, List, [], ◌∷◌, length, refl, sym, ◌∙◌, ap, subst, arith, length-append}
use Rattle.std.proofs.lemmas.List.{get_or_append_left, get_or_at}
use Rattle.disk.specs.File.{Version, File, whole, versions, version_at, blank_version, IsLeft, IsSynced, IsCurrent, IsContentLeft}
use Rattle.disk.specs.Calls.{Gains, write_version, cut_version, Writes, FailsToWrite, CutsFile, FailsToCut, Syncs}
use Rattle.disk.proofs.Moments.{gains_versions, syncs_synced}
use Rattle.disk.proofs.More.{version_left, torn_left}

pub current_left : (file : File) → IsCurrent file → IsContentLeft file
current_left file is = subst (IsLeft (versions file)) is (version_left (versions file) (length file.later) (omega arith))

pub synced_current : (file : File) → IsSynced file → IsCurrent file
synced_current file synced = ap (λ (l : List Version). (version_at (whole file.first ∷ l) (length l)).bytes) synced.alone ∙ synced.same

pub synced_left : (file : File) → IsSynced file → IsContentLeft file
synced_left file synced = current_left file (synced_current file synced)

-- the version that a call gave is the newest
gained : (v : Version) (old new : File) → Gains v old new → version_at (versions new) (length new.later) ≡ v
gained v old new gains =
    let size : length new.later ≡ length (versions old) = omega (arith, ap length gains.later, length-append old.later (v ∷ [])) in
    ap (λ (l : List Version). version_at l (length new.later)) (gains_versions v old new gains) ∙ get_or_at (versions old) v [] blank_version (length new.later) (sym size)

pub writes_current : (at : ℕ) (bytes : List ℕ) (old new : File) → Writes at bytes old new → IsCurrent new
writes_current at bytes old new writes = ap (λ (w : Version). w.bytes) (gained _ old new writes.gains) ∙ sym writes.content

pub cuts_current : (n : ℕ) (old new : File) → CutsFile n old new → IsCurrent new
cuts_current n old new cuts = ap (λ (w : Version). w.bytes) (gained _ old new cuts.gains) ∙ sym cuts.content

pub syncs_left : (old new : File) → Syncs old new → IsContentLeft new
syncs_left old new syncs = synced_left new (syncs_synced old new syncs)

-- after a write that failed, too
pub write_left : (at : ℕ) (bytes : List ℕ) (old new : File) → IsCurrent old → (new ≡ old) ⊎ FailsToWrite at bytes old new → IsContentLeft new
write_left at bytes old new is (inl same) = subst IsContentLeft (sym same) (current_left old is)
write_left at bytes old new is (inr fails) =
    subst (λ (l : List Version). IsLeft l new.content) (sym (gains_versions _ old new fails.gains))
    (torn_left (versions old) (length old.later) (write_version at bytes old) old.content new.content (omega arith) refl is fails.content)

-- and after a cut that failed
pub cut_left : (n : ℕ) (old new : File) → IsCurrent old → (new ≡ old) ⊎ FailsToCut n old new → IsContentLeft new
cut_left n old new is (inl same) = subst IsContentLeft (sym same) (current_left old is)
cut_left n old new is (inr fails) =
    ⊎_elim
    (λ kept.
    let size : length (versions new) ≡ length old.later + 2 = omega (arith, ap length fails.gains.later, length-append old.later (cut_version n old ∷ [])) in
    let there : version_at (versions new) (length old.later) ≡ version_at (versions old) (length old.later) = ap (λ (l : List Version). version_at l (length old.later)) (gains_versions _ old new fails.gains) ∙ get_or_append_left (versions old) (cut_version n old ∷ []) blank_version (length old.later) (omega arith) in
    subst (IsLeft (versions new)) (ap (λ (w : Version). w.bytes) there ∙ is ∙ sym kept) (version_left (versions new) (length old.later) (omega (arith, size))))
    (λ cut. current_left new (ap (λ (w : Version). w.bytes) (gained _ old new fails.gains) ∙ sym cut))
    fails.content
