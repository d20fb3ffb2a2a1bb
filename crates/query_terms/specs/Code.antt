-- A code of terms, by which a proof tells them apart.
use Rattle.std.specs.Prelude.{◌≡◌, refl, ℕ, zero, suc, Bool, true, false, pos, negsuc, Option, None, Some, List, [], ◌∷◌}
use Rattle.std.proofs.Common.{ap, sym, ◌∙◌}
use base.Stored.{Gv, gnil, gnum, gcons, Coded}
use Rattle.sqlval.specs.declared.affinity.Affinity.{Affinity}
use Rattle.sqlval.specs.declared.affinity.Affinity.TheVariants as kind
use Rattle.sqlval.specs.declared.collation.Collation.{Collation}
use Rattle.sqlval.specs.declared.collation.Collation.TheVariants as col
use Rattle.sqlval.specs.declared.value.Value.{Value}
use Rattle.sqlval.specs.declared.value.Value.TheVariants as val
use Rattle.sql_syntax.specs.declared.expr.RaiseAction.{RaiseAction}
use Rattle.sql_syntax.specs.declared.expr.RaiseAction.TheVariants as raises
use Rattle.query_terms.specs.Terms.{Term, Terms, Const, Digits, Cell, Key, Apply, Total, One, Two, Collate, In, Between, Raise, End, More}
use Rattle.query_terms.specs.declared.tree.Comparison.{Comparison}
use Rattle.query_terms.specs.declared.tree.Comparison.TheVariants.{Equal, NotEqual, Less, LessOrEqual, Greater, GreaterOrEqual}
use Rattle.query_terms.specs.declared.tree.Arithmetic.{Arithmetic}
use Rattle.query_terms.specs.declared.tree.Arithmetic.TheVariants.{Add, Subtract, Multiply, Divide, Remainder}
use Rattle.query_terms.specs.declared.tree.OneSided.{OneSided}
use Rattle.query_terms.specs.declared.tree.OneSided.TheVariants.{Negated, Not}
use Rattle.query_terms.specs.declared.tree.TwoSided.{TwoSided}
use Rattle.query_terms.specs.declared.tree.TwoSided.TheVariants.{Compare, Calculate, Is, IsNot, And, Or, Concatenate}
use Rattle.query_terms.specs.declared.tree.Place.{Place}
use Rattle.query_terms.specs.declared.tree.Place.TheVariants.{RowId, At}
use Rattle.query_terms.specs.declared.tree.Function.{Function}
use Rattle.query_terms.specs.declared.tree.Function.TheVariants.{Abs, Coalesce, Length, Lower, Upper, TypeOf}
use Rattle.query_terms.specs.declared.tree.Aggregate.{Aggregate}
use Rattle.query_terms.specs.declared.tree.Aggregate.TheVariants.{CountAll, Count, Sum, Min, Max}

-- the item at a place, or another where the list is shorter
abbrev pick : {A : Type 0} → ℕ → A → List A → A
pick n other [] = other
pick zero other (x ∷ xs) = x
pick (suc n) other (x ∷ xs) = pick n other xs

abbrev number : Gv → ℕ
number (gnum n) = n
number _ = 0

abbrev first : Gv → Gv
first (gcons a b) = a
first _ = gnil

abbrev second : Gv → Gv
second (gcons a b) = b
second _ = gnil

abbrev flag : Bool → Gv
flag true = gnum 1
flag false = gnum 0

abbrev is_set : Gv → Bool
is_set (gnum zero) = false
is_set _ = true

pub flag_back : (b : Bool) → is_set (flag b) ≡ b
flag_back true = refl
flag_back false = refl

abbrev text : List ℕ → Gv
text [] = gnil
text (n ∷ ns) = gcons (gnum n) (text ns)

abbrev text_at : Gv → List ℕ
text_at (gcons a b) = number a ∷ text_at b
text_at _ = []

pub text_back : (z : List ℕ) → text_at (text z) ≡ z
text_back [] = refl
text_back (x ∷ xs) = ap (λ ys. x ∷ ys) (text_back xs)

abbrev comparison_code : Comparison → Gv
comparison_code Equal = gnum 0
comparison_code NotEqual = gnum 1
comparison_code Less = gnum 2
comparison_code LessOrEqual = gnum 3
comparison_code Greater = gnum 4
comparison_code GreaterOrEqual = gnum 5

abbrev comparison_at : Gv → Comparison
comparison_at g = pick (number g) Equal (Equal ∷ NotEqual ∷ Less ∷ LessOrEqual ∷ Greater ∷ GreaterOrEqual ∷ [])

pub comparison_back : (x : Comparison) → comparison_at (comparison_code x) ≡ x
comparison_back Equal = refl
comparison_back NotEqual = refl
comparison_back Less = refl
comparison_back LessOrEqual = refl
comparison_back Greater = refl
comparison_back GreaterOrEqual = refl

abbrev arithmetic_code : Arithmetic → Gv
arithmetic_code Add = gnum 0
arithmetic_code Subtract = gnum 1
arithmetic_code Multiply = gnum 2
arithmetic_code Divide = gnum 3
arithmetic_code Remainder = gnum 4

abbrev arithmetic_at : Gv → Arithmetic
arithmetic_at g = pick (number g) Add (Add ∷ Subtract ∷ Multiply ∷ Divide ∷ Remainder ∷ [])

pub arithmetic_back : (x : Arithmetic) → arithmetic_at (arithmetic_code x) ≡ x
arithmetic_back Add = refl
arithmetic_back Subtract = refl
arithmetic_back Multiply = refl
arithmetic_back Divide = refl
arithmetic_back Remainder = refl

abbrev onesided_code : OneSided → Gv
onesided_code Negated = gnum 0
onesided_code Not = gnum 1

abbrev onesided_at : Gv → OneSided
onesided_at g = pick (number g) Negated (Negated ∷ Not ∷ [])

pub onesided_back : (x : OneSided) → onesided_at (onesided_code x) ≡ x
onesided_back Negated = refl
onesided_back Not = refl

abbrev function_code : Function → Gv
function_code Abs = gnum 0
function_code Coalesce = gnum 1
function_code Length = gnum 2
function_code Lower = gnum 3
function_code Upper = gnum 4
function_code TypeOf = gnum 5

abbrev function_at : Gv → Function
function_at g = pick (number g) Abs (Abs ∷ Coalesce ∷ Length ∷ Lower ∷ Upper ∷ TypeOf ∷ [])

pub function_back : (x : Function) → function_at (function_code x) ≡ x
function_back Abs = refl
function_back Coalesce = refl
function_back Length = refl
function_back Lower = refl
function_back Upper = refl
function_back TypeOf = refl

abbrev aggregate_code : Aggregate → Gv
aggregate_code CountAll = gnum 0
aggregate_code Count = gnum 1
aggregate_code Sum = gnum 2
aggregate_code Min = gnum 3
aggregate_code Max = gnum 4

abbrev aggregate_at : Gv → Aggregate
aggregate_at g = pick (number g) CountAll (CountAll ∷ Count ∷ Sum ∷ Min ∷ Max ∷ [])

pub aggregate_back : (x : Aggregate) → aggregate_at (aggregate_code x) ≡ x
aggregate_back CountAll = refl
aggregate_back Count = refl
aggregate_back Sum = refl
aggregate_back Min = refl
aggregate_back Max = refl

abbrev collation_code : Collation → Gv
collation_code col.Binary = gnum 0
collation_code col.NoCase = gnum 1
collation_code col.RTrim = gnum 2

abbrev collation_at : Gv → Collation
collation_at g = pick (number g) col.Binary (col.Binary ∷ col.NoCase ∷ col.RTrim ∷ [])

pub collation_back : (x : Collation) → collation_at (collation_code x) ≡ x
collation_back col.Binary = refl
collation_back col.NoCase = refl
collation_back col.RTrim = refl

abbrev affinity_code : Affinity → Gv
affinity_code kind.Blob = gnum 0
affinity_code kind.Text = gnum 1
affinity_code kind.Numeric = gnum 2
affinity_code kind.Integer = gnum 3

abbrev affinity_at : Gv → Affinity
affinity_at g = pick (number g) kind.Blob (kind.Blob ∷ kind.Text ∷ kind.Numeric ∷ kind.Integer ∷ [])

pub affinity_back : (x : Affinity) → affinity_at (affinity_code x) ≡ x
affinity_back kind.Blob = refl
affinity_back kind.Text = refl
affinity_back kind.Numeric = refl
affinity_back kind.Integer = refl

abbrev raiseaction_code : RaiseAction → Gv
raiseaction_code raises.Abort = gnum 0
raiseaction_code raises.Rollback = gnum 1

abbrev raiseaction_at : Gv → RaiseAction
raiseaction_at g = pick (number g) raises.Abort (raises.Abort ∷ raises.Rollback ∷ [])

pub raiseaction_back : (x : RaiseAction) → raiseaction_at (raiseaction_code x) ≡ x
raiseaction_back raises.Abort = refl
raiseaction_back raises.Rollback = refl

abbrev two_code : TwoSided → Gv
two_code (Compare o) = gcons (gnum 0) (comparison_code o)
two_code (Calculate o) = gcons (gnum 1) (arithmetic_code o)
two_code Is = gcons (gnum 2) gnil
two_code IsNot = gcons (gnum 3) gnil
two_code And = gcons (gnum 4) gnil
two_code Or = gcons (gnum 5) gnil
two_code Concatenate = gcons (gnum 6) gnil

abbrev two_at : Gv → TwoSided
two_at g = pick (number (first g)) Is (Compare (comparison_at (second g)) ∷ Calculate (arithmetic_at (second g)) ∷ Is ∷ IsNot ∷ And ∷ Or ∷ Concatenate ∷ [])

pub two_back : (o : TwoSided) → two_at (two_code o) ≡ o
two_back (Compare o) = ap Compare (comparison_back o)
two_back (Calculate o) = ap Calculate (arithmetic_back o)
two_back Is = refl
two_back IsNot = refl
two_back And = refl
two_back Or = refl
two_back Concatenate = refl

abbrev place_code : Place → Gv
place_code RowId = gnil
place_code (At i) = gnum i

abbrev place_at : Gv → Place
place_at (gnum i) = At i
place_at _ = RowId

pub place_back : (p : Place) → place_at (place_code p) ≡ p
place_back RowId = refl
place_back (At i) = refl

abbrev maybe : Option Affinity → Gv
maybe None = gnil
maybe (Some a) = affinity_code a

abbrev maybe_at : Gv → Option Affinity
maybe_at (gnum n) = Some (affinity_at (gnum n))
maybe_at _ = None

pub maybe_back : (a : Option Affinity) → maybe_at (maybe a) ≡ a
maybe_back None = refl
maybe_back (Some kind.Blob) = refl
maybe_back (Some kind.Text) = refl
maybe_back (Some kind.Numeric) = refl
maybe_back (Some kind.Integer) = refl

abbrev value_code : Value → Gv
value_code val.Null = gnil
value_code (val.Int (pos n)) = gcons (gnum 0) (gnum n)
value_code (val.Int (negsuc n)) = gcons (gnum 1) (gnum n)
value_code (val.Text t) = gcons (gnum 2) (text t)
value_code (val.Blob b) = gcons (gnum 3) (text b)

abbrev value_at : Gv → Value
value_at (gcons t g) = pick (number t) val.Null (val.Int (pos (number g)) ∷ val.Int (negsuc (number g)) ∷ val.Text (text_at g) ∷ val.Blob (text_at g) ∷ [])
value_at _ = val.Null

pub value_back : (v : Value) → value_at (value_code v) ≡ v
value_back val.Null = refl
value_back (val.Int (pos n)) = refl
value_back (val.Int (negsuc n)) = refl
value_back (val.Text t) = ap val.Text (text_back t)
value_back (val.Blob b) = ap val.Blob (text_back b)

-- a tag and four parts
abbrev row : ℕ → Gv → Gv → Gv → Gv → Gv
row t a b c d = gcons (gnum t) (gcons a (gcons b (gcons c d)))

abbrev mutual
  pub code : Term → Gv
  code (Const v) = row 0 (value_code v) gnil gnil gnil
  code (Digits n) = row 1 (gnum n) gnil gnil gnil
  code (Cell s p a c) = row 2 (gnum s) (place_code p) (maybe a) (collation_code c)
  code (Key k e) = row 3 (gnum k) (code e) gnil gnil
  code (Apply f es) = row 4 (function_code f) (codes es) gnil gnil
  code (Total g e) = row 5 (aggregate_code g) (code e) gnil gnil
  code (One o e) = row 6 (onesided_code o) (code e) gnil gnil
  code (Two o a b) = row 7 (two_code o) (code a) (code b) gnil
  code (Collate c e) = row 8 (collation_code c) (code e) gnil gnil
  code (In n a es) = row 9 (flag n) (code a) (codes es) gnil
  code (Between n a b c) = row 10 (flag n) (code a) (code b) (code c)
  code (Raise k z) = row 11 (raiseaction_code k) (text z) gnil gnil

  pub codes : Terms → Gv
  codes End = gnil
  codes (More e es) = gcons (code e) (codes es)

abbrev mutual
  pub decode : Gv → Term
  decode (gcons t (gcons a (gcons b (gcons c d)))) =
      pick (number t) (Digits 0) (Const (value_at a) ∷ Digits (number a) ∷ Cell (number a) (place_at b) (maybe_at c) (collation_at d) ∷ Key (number a) (decode b)
      ∷ Apply (function_at a) (decodes b) ∷ Total (aggregate_at a) (decode b) ∷ One (onesided_at a) (decode b) ∷ Two (two_at a) (decode b) (decode c)
      ∷ Collate (collation_at a) (decode b) ∷ In (is_set a) (decode b) (decodes c) ∷ Between (is_set a) (decode b) (decode c) (decode d)
      ∷ Raise (raiseaction_at a) (text_at b) ∷ [])
  decode _ = Digits 0

  pub decodes : Gv → Terms
  decodes (gcons a b) = More (decode a) (decodes b)
  decodes _ = End

mutual
  pub back : (e : Term) → decode (code e) ≡ e
  back (Const v) = ap Const (value_back v)
  back (Digits n) = refl
  back (Cell s p a c) = λ i. Cell s (place_back p i) (maybe_back a i) (collation_back c i)
  back (Key k e) = ap (Key k) (back e)
  back (Apply f es) = λ i. Apply (function_back f i) (backs es i)
  back (Total g e) = λ i. Total (aggregate_back g i) (back e i)
  back (One o e) = λ i. One (onesided_back o i) (back e i)
  back (Two o a b) = λ i. Two (two_back o i) (back a i) (back b i)
  back (Collate c e) = λ i. Collate (collation_back c i) (back e i)
  back (In n a es) = λ i. In (flag_back n i) (back a i) (backs es i)
  back (Between n a b c) = λ i. Between (flag_back n i) (back a i) (back b i) (back c i)
  back (Raise k z) = λ i. Raise (raiseaction_back k i) (text_back z i)

  pub backs : (es : Terms) → decodes (codes es) ≡ es
  backs End = refl
  backs (More e es) = λ i. More (back e i) (backs es i)

abbrev pub tree_code : Coded Term
tree_code = record { code = code; inj = λ x y p. sym (back x) ∙ (ap decode p ∙ back y) }
