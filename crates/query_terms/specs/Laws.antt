-- What follows for every value.
use Rattle.std.specs.Prelude.{◌≡◌, ℤ, Ok, Err, Some, false}
use Rattle.std.specs.Ordering.{int_cmp}
use Rattle.sqlval.specs.Affinity.{Converts, IsReal}
use Rattle.sqlval.specs.Conversion.{converted}
use Rattle.sqlval.specs.Refusals.{◌then◌, RealRefused}
use Rattle.sqlval.specs.declared.affinity.Affinity.{Affinity}
use Rattle.sqlval.specs.declared.affinity.Affinity.TheVariants as to
use Rattle.sqlval.specs.declared.value.Value.{Value}
use Rattle.sqlval.specs.declared.value.Value.TheVariants.{Int}
use Rattle.query_terms.specs.TextSides.{is_text}
use Rattle.query_terms.specs.Terms.{Term, Two, affinity}
use Rattle.query_terms.specs.Values.{Environment, is_met, truth, value}
use Rattle.query_terms.specs.declared.tree.Comparison.{Comparison}
use Rattle.query_terms.specs.declared.tree.TwoSided.TheVariants.{Compare}

-- what the relation between an old and a new value gives, the function gives
abbrev pub ConvertsAsRelated : Type 0
ConvertsAsRelated = (affinity : Affinity) (old new : Value) → Converts affinity old new → converted affinity old ≡ Ok new

-- a real is refused where numbers are wanted
abbrev pub RefusesReals : Type 0
RefusesReals = (old : Value) → IsReal old → (converted to.Integer old ≡ Err RealRefused) × (converted to.Numeric old ≡ Err RealRefused)

-- two sides that are integers are compared by their order, where neither has a text's affinity (Datatypes In SQLite, "Comparison Expressions")
abbrev pub IntegersStandByOrder : Type 0
IntegersStandByOrder = (comparison : Comparison) (left right : Term) (env : Environment) (x y : ℤ) → is_text (affinity left) ≡ false
    → is_text (affinity right) ≡ false → value left env ≡ Ok (Int x) → value right env ≡ Ok (Int y)
    → (value (Two (Compare comparison) left right) env then truth) ≡ Ok (Some (is_met comparison (int_cmp x y)))
