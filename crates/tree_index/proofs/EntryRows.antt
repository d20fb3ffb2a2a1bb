-- The order of entries, by example.
use Rattle.std.specs.Prelude.{◌≡◌, refl, true, false, pos, codes, [], ◌∷◌}
use Rattle.sqlval.specs.Lists.{is_rising}
use Rattle.sqlval.specs.declared.collation.Collation.TheVariants.{Binary, NoCase}
use Rattle.sqlval.specs.declared.value.Value.TheVariants.{Null, Int, Text}
use Rattle.tree_index.specs.Entries.{entry_cmp}

pub rowid_decides : is_rising (entry_cmp (NoCase ∷ [])) ((Null ∷ Int (pos 9) ∷ []) ∷ (Text (codes "a") ∷ Int (pos 1) ∷ []) ∷ (Text (codes "A") ∷ Int (pos 2) ∷ []) ∷ []) ≡ true
rowid_decides = refl

pub letters_decide : is_rising (entry_cmp (Binary ∷ [])) ((Text (codes "a") ∷ Int (pos 1) ∷ []) ∷ (Text (codes "A") ∷ Int (pos 2) ∷ []) ∷ []) ≡ false
letters_decide = refl
