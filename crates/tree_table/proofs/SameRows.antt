-- A leaf of a tree has the rows of the table leaf that its page is.
use Rattle.std.proofs.Common.{◌≡◌, ℕ, refl, sym, ◌∙◌, ap, List, ◌++◌, length, take, drop}
use Rattle.std.proofs.lemmas.List.{take_at, drop_at}

-- two ways to part a list, whose first parts are of one length, are one
pub split : (a b c d : List ℕ) → length a ≡ length c → a ++ b ≡ c ++ d → (a ≡ c) × (b ≡ d)
split a b c d long e = (
  sym (take_at a b (length c) long) ∙ ap (take (length c)) e ∙ take_at c d (length c) refl,
  sym (drop_at a b (length c) long) ∙ ap (drop (length c)) e ∙ drop_at c d (length c) refl,
)
