-- Folded names.
use Rattle.std.proofs.Common.{◌≡◌, refl, ap, ◌∙◌, ℕ, List, [], ◌∷◌}
use Rattle.std.proofs.lemmas.Str.Ascii.{lowercase-lowercase}
use Rattle.std.specs.Str.{bytes_eq}
use Rattle.std.specs.Char.{to_ascii_lowercase}
use Rattle.sqlval.specs.Names.{folded, is_same_name}

pub folded_twice : (a : List ℕ) → folded (folded a) ≡ folded a
folded_twice [] = refl
folded_twice (c ∷ cs) = ap (λ x. x ∷ folded (folded cs)) (lowercase-lowercase c) ∙ ap (λ xs. to_ascii_lowercase c ∷ xs) (folded_twice cs)

pub same_folded : (a b : List ℕ) → is_same_name a (folded b) ≡ is_same_name a b
same_folded a b = ap (bytes_eq (folded a)) (folded_twice b)
