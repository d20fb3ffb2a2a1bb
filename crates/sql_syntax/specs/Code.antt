-- A code of trees, by which a proof tells them apart.
use Rattle.std.specs.Prelude.{◌≡◌, refl, ℕ, zero, suc, Bool, true, false, Option, None, Some, List, [], ◌∷◌}
use Rattle.std.proofs.Common.{ap, sym, ◌∙◌}
use base.Stored.{Gv, gnil, gnum, gcons, Coded}
use Rattle.sql_syntax.specs.declared.expr.Operator.{Operator}
use Rattle.sql_syntax.specs.declared.expr.Operator.TheVariants as op
use Rattle.sql_syntax.specs.declared.expr.RaiseAction.{RaiseAction}
use Rattle.sql_syntax.specs.declared.expr.RaiseAction.TheVariants as raises
use Rattle.sql_syntax.specs.Tree.{Tree, Trees, Null, Integer, Text, Blob, Column, Paren, Negated, Not, Binary, Between, In, Collate, Call, CallAll, Raise, End, More}

-- the item at a place, or another where the list is shorter
abbrev pick : {A : Type 0} → ℕ → A → List A → A
pick n other [] = other
pick zero other (x ∷ xs) = x
pick (suc n) other (x ∷ xs) = pick n other xs

abbrev number : Gv → ℕ
number (gnum n) = n
number _ = 0

abbrev flag : Bool → Gv
flag true = gnum 1
flag false = gnum 0

abbrev is_set : Gv → Bool
is_set (gnum zero) = false
is_set _ = true

pub flag_back : (b : Bool) → is_set (flag b) ≡ b
flag_back true = refl
flag_back false = refl

abbrev place : Operator → Gv
place op.Or = gnum 0
place op.And = gnum 1
place op.Equal = gnum 2
place op.NotEqual = gnum 3
place op.Is = gnum 4
place op.IsNot = gnum 5
place op.Less = gnum 6
place op.LessOrEqual = gnum 7
place op.Greater = gnum 8
place op.GreaterOrEqual = gnum 9
place op.Add = gnum 10
place op.Subtract = gnum 11
place op.Multiply = gnum 12
place op.Divide = gnum 13
place op.Remainder = gnum 14
place op.Concatenate = gnum 15

abbrev op_at : Gv → Operator
op_at g = pick (number g) op.Or (op.Or ∷ op.And ∷ op.Equal ∷ op.NotEqual ∷ op.Is ∷ op.IsNot ∷ op.Less ∷ op.LessOrEqual ∷ op.Greater ∷ op.GreaterOrEqual ∷ op.Add ∷ op.Subtract ∷ op.Multiply ∷ op.Divide ∷ op.Remainder ∷ op.Concatenate ∷ [])

pub op_back : (o : Operator) → op_at (place o) ≡ o
op_back op.Or = refl
op_back op.And = refl
op_back op.Equal = refl
op_back op.NotEqual = refl
op_back op.Is = refl
op_back op.IsNot = refl
op_back op.Less = refl
op_back op.LessOrEqual = refl
op_back op.Greater = refl
op_back op.GreaterOrEqual = refl
op_back op.Add = refl
op_back op.Subtract = refl
op_back op.Multiply = refl
op_back op.Divide = refl
op_back op.Remainder = refl
op_back op.Concatenate = refl

abbrev action : RaiseAction → Gv
action raises.Abort = gnum 0
action raises.Rollback = gnum 1

abbrev action_at : Gv → RaiseAction
action_at g = pick (number g) raises.Abort (raises.Abort ∷ raises.Rollback ∷ [])

pub action_back : (r : RaiseAction) → action_at (action r) ≡ r
action_back raises.Abort = refl
action_back raises.Rollback = refl

abbrev text : List ℕ → Gv
text [] = gnil
text (n ∷ ns) = gcons (gnum n) (text ns)

abbrev text_at : Gv → List ℕ
text_at (gcons a b) = number a ∷ text_at b
text_at _ = []

pub text_back : (z : List ℕ) → text_at (text z) ≡ z
text_back [] = refl
text_back (x ∷ xs) = ap (λ ys. x ∷ ys) (text_back xs)

abbrev maybe : Option (List ℕ) → Gv
maybe None = gnil
maybe (Some z) = gcons (text z) gnil

abbrev maybe_at : Gv → Option (List ℕ)
maybe_at (gcons a b) = Some (text_at a)
maybe_at _ = None

pub maybe_back : (z : Option (List ℕ)) → maybe_at (maybe z) ≡ z
maybe_back None = refl
maybe_back (Some z) = ap (λ k. Some k) (text_back z)

-- a tag and four parts
abbrev row : ℕ → Gv → Gv → Gv → Gv → Gv
row t a b c d = gcons (gnum t) (gcons a (gcons b (gcons c d)))

abbrev mutual
  pub code : Tree → Gv
  code Null = row 0 gnil gnil gnil gnil
  code (Integer n) = row 1 (gnum n) gnil gnil gnil
  code (Text z) = row 2 (text z) gnil gnil gnil
  code (Blob z) = row 3 (text z) gnil gnil gnil
  code (Column s c) = row 4 (maybe s) (text c) gnil gnil
  code (Paren e) = row 5 (code e) gnil gnil gnil
  code (Negated e) = row 6 (code e) gnil gnil gnil
  code (Not e) = row 7 (code e) gnil gnil gnil
  code (Binary o a b) = row 8 (place o) (code a) (code b) gnil
  code (Between n a b c) = row 9 (flag n) (code a) (code b) (code c)
  code (In n a es) = row 10 (flag n) (code a) (codes es) gnil
  code (Collate e c) = row 11 (code e) (text c) gnil gnil
  code (Call f es) = row 12 (text f) (codes es) gnil gnil
  code (CallAll f) = row 13 (text f) gnil gnil gnil
  code (Raise r z) = row 14 (action r) (text z) gnil gnil

  pub codes : Trees → Gv
  codes End = gnil
  codes (More e es) = gcons (code e) (codes es)

abbrev mutual
  pub decode : Gv → Tree
  decode (gcons t (gcons a (gcons b (gcons c d)))) =
      pick (number t) Null (Null ∷ Integer (number a) ∷ Text (text_at a) ∷ Blob (text_at a) ∷ Column (maybe_at a) (text_at b)
      ∷ Paren (decode a) ∷ Negated (decode a) ∷ Not (decode a) ∷ Binary (op_at a) (decode b) (decode c)
      ∷ Between (is_set a) (decode b) (decode c) (decode d) ∷ In (is_set a) (decode b) (decodes c)
      ∷ Collate (decode a) (text_at b) ∷ Call (text_at a) (decodes b) ∷ CallAll (text_at a) ∷ Raise (action_at a) (text_at b) ∷ [])
  decode _ = Null

  pub decodes : Gv → Trees
  decodes (gcons a b) = More (decode a) (decodes b)
  decodes _ = End

mutual
  pub back : (e : Tree) → decode (code e) ≡ e
  back Null = refl
  back (Integer n) = refl
  back (Text z) = ap Text (text_back z)
  back (Blob z) = ap Blob (text_back z)
  back (Column s c) = λ i. Column (maybe_back s i) (text_back c i)
  back (Paren e) = ap Paren (back e)
  back (Negated e) = ap Negated (back e)
  back (Not e) = ap Not (back e)
  back (Binary o a b) = λ i. Binary (op_back o i) (back a i) (back b i)
  back (Between n a b c) = λ i. Between (flag_back n i) (back a i) (back b i) (back c i)
  back (In n a es) = λ i. In (flag_back n i) (back a i) (backs es i)
  back (Collate e c) = λ i. Collate (back e i) (text_back c i)
  back (Call f es) = λ i. Call (text_back f i) (backs es i)
  back (CallAll f) = ap CallAll (text_back f)
  back (Raise r z) = λ i. Raise (action_back r i) (text_back z i)

  pub backs : (es : Trees) → decodes (codes es) ≡ es
  backs End = refl
  backs (More e es) = λ i. More (back e i) (backs es i)

abbrev pub tree_code : Coded Tree
tree_code = record { code = code; inj = λ x y p. sym (back x) ∙ (ap decode p ∙ back y) }
