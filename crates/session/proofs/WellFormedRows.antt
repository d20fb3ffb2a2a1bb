-- Worked examples of well-formed databases and of limits.
use Rattle.std.specs.Prelude.{◌≡◌, refl, ℕ, zero, suc, true, false, codes, List, [], ◌∷◌}
use Rattle.std.specs.Fmt.{digits}
use Rattle.std.proofs.Common.{inl, arith}
use Rattle.sqlval.specs.declared.collation.Collation.TheVariants.{Binary}
use Rattle.sql_syntax.specs.Tree.{Tree, Paren}
use Rattle.sql_syntax.specs.declared.create.ColumnDefinition.{ColumnDefinition}
use Rattle.sql_syntax.specs.declared.create.ColumnRule.TheVariants as column
use Rattle.sql_syntax.specs.declared.create.NewObject.TheVariants as new
use Rattle.sql_syntax.specs.declared.create.TableRule.TheVariants as rule
use Rattle.sql_grammar.specs.NewObjects.{is_object_within}
use Rattle.sql_grammar.specs.Within.{is_selection_within}
use Rattle.catalog.specs.Database.{Name, Database}
use Rattle.query_names.specs.Checked.{meant}
use Rattle.query_names.specs.Schema.{create_table}
use Rattle.query_names.proofs.Written.{number, select, result, column_with, table_with}
use Rattle.session.specs.WellFormed.{WellFormed}

abbrev a : Name
a = codes "a"

abbrev t : Name
t = codes "t"

abbrev unique : ColumnDefinition
unique = column_with a [] (column.Unique ∷ [])

-- ---- well formed

pub empty : WellFormed []
empty = (refl, tt)

-- CREATE TABLE t(a UNIQUE)
abbrev made : Database
made = meant (create_table [] (table_with t (unique ∷ []) []))

pub one_table : WellFormed made
unfolding digits
one_table = (
  refl,
  (
    inl (refl, _, refl),
    (
      (table_with t (unique ∷ []) [], ((0, Binary) ∷ []) ∷ [], (refl, refl), refl, refl, (((0, omega arith, refl), tt), ((0, omega arith, refl), tt))),
      tt,
    ),
  ),
)

-- ---- limits

abbrev copies : {A : Type 0} → ℕ → A → List A
copies zero x = []
copies (suc n) x = x ∷ copies n x

pub unique_64 : is_object_within (new.Table (table_with t (unique ∷ []) (rule.Unique (copies 64 a) ∷ []))) ≡ true
unique_64 = refl

pub unique_65 : is_object_within (new.Table (table_with t (unique ∷ []) (rule.Unique (copies 65 a) ∷ []))) ≡ false
unique_65 = refl

pub primary_65 : is_object_within (new.Table (table_with t (unique ∷ []) (rule.PrimaryKey (copies 65 a) ∷ []))) ≡ false
primary_65 = refl

abbrev nested : ℕ → Tree
nested zero = number 1
nested (suc n) = Paren (nested n)

pub depth_100 : is_selection_within (select (result (nested 99) ∷ []) []) ≡ true
depth_100 = refl

pub depth_101 : is_selection_within (select (result (nested 100) ∷ []) []) ≡ false
depth_101 = refl
