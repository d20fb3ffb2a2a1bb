-- Lists of the same items in another order.
use Rattle.std.specs.Prelude.{◌≡◌, List, [], ◌∷◌, ◌++◌}

-- each item of the first list stands somewhere in the second, beside the others
abbrev pub AreReordered : {A : Type 0} → List A → List A → Type 0
AreReordered [] ys = ys ≡ []
AreReordered {A} (x ∷ xs) ys = (before : List A) × (after : List A) × (ys ≡ before ++ x ∷ after) × AreReordered xs (before ++ after)
