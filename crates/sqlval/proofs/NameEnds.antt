-- Names that end in different letters.
use Rattle.std.proofs.Common.{◌≡◌, ℕ, ◌-◌, Bool, true, false, List, length, slice_get, Some, refl, sym, ap, ◌∙◌, arith}
use Rattle.std.proofs.lemmas.List.{length-map}
use Rattle.std.proofs.lemmas.Option.{slice_get-map, same_Some}
use Rattle.std.proofs.lemmas.Slice.Eq.{bytes_eq-Decides}
use Rattle.std.proofs.lemmas.Grind.{common_steps}
use Rattle.std.specs.Option.{option_map}
use Rattle.std.specs.Char.{to_ascii_lowercase, eq_ignore_ascii_case}
use Rattle.sqlval.specs.Names.{folded, is_same_name}

-- the last letter in lower case
last_folded : (a : List ℕ) (x : ℕ) → Some x ≡ slice_get a (length a - 1) → slice_get (folded a) (length (folded a) - 1) ≡ Some (to_ascii_lowercase x)
last_folded a x last = ap (λ (n : ℕ). slice_get (folded a) (n - 1)) (length-map a to_ascii_lowercase) ∙ slice_get-map to_ascii_lowercase a (length a - 1) ∙ ap (option_map to_ascii_lowercase) (sym last)

pub ends_apart : (a b : List ℕ) (x y : ℕ) → Some x ≡ slice_get a (length a - 1) → Some y ≡ slice_get b (length b - 1) → eq_ignore_ascii_case x y ≡ false → is_same_name a b ≡ false
ends_apart a b x y last_a last_b apart = by (is_same_name a b) refl
  where
    by : (same : Bool) → is_same_name a b ≡ same → same ≡ false
    by false is = refl
    by true is =
        let one : folded a ≡ folded b = (bytes_eq-Decides (folded a) (folded b)).0 is in
        let both : Some (to_ascii_lowercase x) ≡ Some (to_ascii_lowercase y) = sym (last_folded a x last_a) ∙ ap (λ (xs : List ℕ). slice_get xs (length xs - 1)) one ∙ last_folded b y last_b in
        let same = same_Some (to_ascii_lowercase x) (to_ascii_lowercase y) both in
        grind (arith, common_steps, same, apart)
