-- More on what a crash may leave.
use Rattle.std.proofs.Common.{◌≡◌, ⊎_elim, ◌<◌, ◌≤◌, ◌+◌, ℕ, false, List, [], ◌∷◌, ◌++◌, length, refl, sym, ◌∙◌, ap, subst, arith, length-append}
use Rattle.std.proofs.lemmas.List.{get_or_append_left, get_or_at}
use Rattle.disk.specs.File.{Version, version_at, blank_version, IsLeft, SameSector}
use Rattle.disk.specs.Calls.{IsTorn}

-- each version may be left whole
pub version_left : (vs : List Version) (i : ℕ) → i < length vs → IsLeft vs (version_at vs i).bytes
version_left vs i lt = record {
  from = i;
  within = lt;
  size = refl;
  sectors = λ k. record { source = i; within = lt; before_cut = λ m above upto. absurd (omega arith); same = λ p low high inside. refl };
}

at_front : (vs : List Version) (v : Version) (i : ℕ) → i < length vs → version_at (vs ++ v ∷ []) i ≡ version_at vs i
at_front vs v i lt = get_or_append_left vs (v ∷ []) blank_version i lt

at_end : (vs : List Version) (v : Version) → version_at (vs ++ v ∷ []) (length vs) ≡ v
at_end vs v = get_or_at vs v [] blank_version (length vs) refl

-- The content after a write that failed may be left by a crash, where the content before was the newest version.
pub torn_left : (vs : List Version) (last : ℕ) (v : Version) (before after : List ℕ) → length vs ≡ last + 1 → v.is_cut ≡ false → (version_at vs last).bytes ≡ before → IsTorn before v.bytes after → IsLeft (vs ++ v ∷ []) after
torn_left vs last v before after size no_cut newest torn = ⊎_elim (λ e. with_size last (omega arith) (omega arith) (e ∙ sym (ap length old_bytes))) (λ e. with_size (length vs) (omega arith) (omega arith) (e ∙ sym (ap (λ (w : Version). length w.bytes) (at_end vs v)))) torn.size
  where
    all : List Version
    all = vs ++ v ∷ []

    long : length all ≡ length vs + 1
    long = length-append vs (v ∷ [])

    old_bytes : (version_at all last).bytes ≡ before
    old_bytes = ap (λ (w : Version). w.bytes) (at_front vs v last (omega arith)) ∙ newest

    is_write : (m : ℕ) → m ≡ length vs → (version_at all m).is_cut ≡ false
    is_write m is = ap (λ (j : ℕ). (version_at all j).is_cut) is ∙ ap (λ (w : Version). w.is_cut) (at_end vs v) ∙ no_cut

    with_size : (from : ℕ) → last ≤ from → from ≤ length vs → length after ≡ length (version_at all from).bytes → IsLeft all after
    with_size from low high same = record {
      from = from;
      within = omega (arith, long, high);
      size = same;
      sectors = λ k. ⊎_elim
          (λ old. record { source = last; within = omega (arith, long, size); before_cut = λ m above upto. absurd (omega arith); same = subst (SameSector k after) (sym old_bytes) old })
          (λ new. record { source = length vs; within = omega (arith, long); before_cut = λ m above upto. is_write m (omega (arith, above, upto, low, size)); same = subst (λ (w : Version). SameSector k after w.bytes) (sym (at_end vs v)) new })
          (torn.sector k);
    }
