-- Literals, and what is compared with them as it stands.
use Rattle.std.specs.Prelude.{Bool, true, false, List, [], ◌∷◌, Option, Some, Ok, Err, pos, neg_ℤ}
use Rattle.std.specs.List.{list_all}
use Rattle.sqlval.specs.Conversion.{word}
use Rattle.sqlval.specs.Refusals.{Answer}
use Rattle.sqlval.specs.declared.affinity.Affinity.{Affinity}
use Rattle.sqlval.specs.declared.affinity.Affinity.TheVariants as kind
use Rattle.sqlval.specs.declared.value.Value.{Value}
use Rattle.sqlval.specs.declared.value.Value.TheVariants.{Null, Int, Text}
use Rattle.query_terms.specs.Terms.{Term, Const, Digits, One}
use Rattle.query_terms.specs.declared.tree.OneSided.TheVariants.{Negated}

-- the value, or NULL in place of a refusal
abbrev pub value_or_null : Answer Value → Value
value_or_null (Ok v) = v
value_or_null (Err r) = Null

-- the value of a literal, a number's with a minus or without; NULL of any other expression
abbrev pub literal_value : Term → Value
literal_value (Const v) = v
literal_value (Digits n) = value_or_null (word (pos n))
literal_value (One Negated (Digits n)) = value_or_null (word (neg_ℤ (pos n)))
literal_value _ = Null

-- Whether a value that isn't NULL stays as it is beside a side of an affinity (Datatypes In SQLite, "Type Conversions Prior To Comparison").
abbrev pub stays_beside : Option Affinity → Value → Bool
stays_beside a Null = false
stays_beside (Some kind.Text) (Int n) = false
stays_beside (Some kind.Integer) (Text t) = false
stays_beside (Some kind.Numeric) (Text t) = false
stays_beside a v = true

-- whether all are literals that stay as they are beside an affinity
abbrev pub are_plain : Option Affinity → List Term → Bool
are_plain a list = list_all (λ e. stays_beside a (literal_value e)) list

-- whether there is a first item, and it is so
abbrev pub first_is : {A : Type 0} → (A → Bool) → List A → Bool
first_is p [] = false
first_is p (x ∷ xs) = p x
