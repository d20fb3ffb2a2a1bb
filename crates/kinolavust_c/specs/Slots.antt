-- Statements in slots.
use Rattle.std.specs.Prelude.{◌≡◌, ℕ, eqb, cond, map, length, List, Option, None, Some, option_map, get_or}
use Rattle.std.specs.List.{flat_map}
use Rattle.engine.specs.Preparing.{IsPrepared, parameters_in}
use Rattle.engine.specs.declared.prepared.Prepared.{Prepared}
use Rattle.kinolavust_c.specs.Replies.{value_bytes}
use Rattle.sqlval.specs.declared.value.Value.{Value}
use Rattle.kinolavust_c.specs.declared.slots.Slots.{Slots}

-- the statement that is kept in a slot; none in a free one, and past the last
abbrev pub kept_in : Slots → ℕ → Option Prepared
kept_in slots slot = get_or (map (option_map (λ kept. kept.value)) slots.slots.items) slot None

-- the slot has this now, and the others what they had
abbrev pub Puts : Slots → ℕ → Option Prepared → Slots → Type 0
Puts old slot kept new = (other : ℕ) → kept_in new other ≡ cond (eqb other slot) kept (kept_in old other)

-- a free slot has the statement that a text is now, which takes so many values
abbrev pub Prepares : Slots → List ℕ → ℕ → ℕ → Slots → Type 0
Prepares old text slot count new =
    (kept_in old slot ≡ None) × ((statement : Prepared) × IsPrepared text statement × (count ≡ parameters_in statement) × Puts old slot (Some statement) new)

-- these are the bytes of as many values as the statement of a slot takes
abbrev pub RunsWith : Slots → ℕ → List ℕ → Type 0
RunsWith slots slot bytes =
    (statement : Prepared) × (kept_in slots slot ≡ Some statement) × ((values : List Value) × (length values ≡ parameters_in statement) × (bytes ≡ flat_map value_bytes values))
