-- The grammar of expressions: which tokens are which tree (SQL As Understood By SQLite, "expr").
use Rattle.std.specs.Prelude.{◌≡◌, ℕ, suc, Option, Some, None, List, [], ◌∷◌, ◌++◌, true, false}
use Rattle.sql_lexer.specs.declared.keyword.Keyword.TheVariants as w
use Rattle.sql_lexer.specs.declared.token.Kind.{Kind}
use Rattle.sql_lexer.specs.declared.token.Kind.TheVariants as k
use Rattle.sql_syntax.specs.declared.expr.Operator.{Operator}
use Rattle.sql_syntax.specs.declared.expr.Operator.TheVariants as op
use Rattle.sql_syntax.specs.declared.expr.RaiseAction.TheVariants as raises
use Rattle.sql_syntax.specs.Tree as tree
use Rattle.sql_syntax.specs.Tree.{Tree, Trees, trees}
use Rattle.sql_expr.specs.Symbols.{Symbol, Plain, Name, Text, Blob, word, mark}

-- The levels, from the tightest: 0 atom, 1 unary, 2 coll, 3 cat, 4 prod, 5 sum, 6 rel, 7 eq, 8 not, 9 and, 10 or.

-- the level whose chain a token goes on, and 0 where it goes on none
abbrev pub level_of : Kind → ℕ
level_of (k.Word w.Or) = 10
level_of (k.Word w.And) = 9
level_of (k.Word w.Not) = 7
level_of (k.Word w.Is) = 7
level_of (k.Word w.In) = 7
level_of (k.Word w.Between) = 7
level_of (k.Word w.Collate) = 2
level_of k.Equal = 7
level_of k.DoubleEqual = 7
level_of k.NotEqual = 7
level_of k.Less = 6
level_of k.LessOrEqual = 6
level_of k.Greater = 6
level_of k.GreaterOrEqual = 6
level_of k.Plus = 5
level_of k.Minus = 5
level_of k.Star = 4
level_of k.Slash = 4
level_of k.Percent = 4
level_of k.Bars = 3
level_of _ = 0

-- the operator that stands between two operands
abbrev pub operator : Kind → Option Operator
operator (k.Word w.Or) = Some op.Or
operator (k.Word w.And) = Some op.And
operator k.Equal = Some op.Equal
operator k.DoubleEqual = Some op.Equal
operator k.NotEqual = Some op.NotEqual
operator k.Less = Some op.Less
operator k.LessOrEqual = Some op.LessOrEqual
operator k.Greater = Some op.Greater
operator k.GreaterOrEqual = Some op.GreaterOrEqual
operator k.Plus = Some op.Add
operator k.Minus = Some op.Subtract
operator k.Star = Some op.Multiply
operator k.Slash = Some op.Divide
operator k.Percent = Some op.Remainder
operator k.Bars = Some op.Concatenate
operator _ = None

mutual
  -- the tokens are an expression of the level
  pub data At : ℕ → List Symbol → Tree → Type 0 where
    null : At 0 (word w.Null ∷ []) tree.Null
    integer : {n : ℕ} → At 0 (mark (k.Integer n) ∷ []) (tree.Integer n)
    text : {z : List ℕ} → At 0 (Text z ∷ []) (tree.Text z)
    blob : {z : List ℕ} → At 0 (Blob z ∷ []) (tree.Blob z)
    column : {c : List ℕ} → At 0 (Name c ∷ []) (tree.Column None c)
    qualified : {s c : List ℕ} → At 0 (Name s ∷ mark k.Dot ∷ Name c ∷ []) (tree.Column (Some s) c)
    paren : {ts : List Symbol} {e : Tree} → At 10 ts e → At 0 (mark k.LeftParen ∷ ts ++ mark k.RightParen ∷ []) (tree.Paren e)
    call_of_all : {f : List ℕ} → At 0 (Name f ∷ mark k.LeftParen ∷ mark k.Star ∷ mark k.RightParen ∷ []) (tree.CallAll f)
    empty_call : {f : List ℕ} → At 0 (Name f ∷ mark k.LeftParen ∷ mark k.RightParen ∷ []) (tree.Call f tree.End)
    call : {f : List ℕ} {ts : List Symbol} {es : Trees} → Items ts es → At 0 (Name f ∷ mark k.LeftParen ∷ ts ++ mark k.RightParen ∷ []) (tree.Call f es)
    abort : {z : List ℕ} → At 0 (word w.Raise ∷ mark k.LeftParen ∷ word w.Abort ∷ mark k.Comma ∷ Text z ∷ mark k.RightParen ∷ []) (tree.Raise raises.Abort z)
    rollback : {z : List ℕ} → At 0 (word w.Raise ∷ mark k.LeftParen ∷ word w.Rollback ∷ mark k.Comma ∷ Text z ∷ mark k.RightParen ∷ []) (tree.Raise raises.Rollback z)
    minus : {ts : List Symbol} {e : Tree} → At 1 ts e → At 1 (mark k.Minus ∷ ts) (tree.Negated e)
    not : {ts : List Symbol} {e : Tree} → At 8 ts e → At 8 (word w.Not ∷ ts) (tree.Not e)
    -- an expression of a tighter level
    up : {r : ℕ} {ts : List Symbol} {e : Tree} → At r ts e → At (suc r) ts e
    -- a chain that goes on
    chain : {r : ℕ} {us vs : List Symbol} {a e : Tree} → At (suc r) us a → Tail r a vs e → At (suc r) (us ++ vs) e

  -- what goes on after a left operand of the level above r, and the whole
  pub data Tail : ℕ → Tree → List Symbol → Tree → Type 0 where
    binary : {r : ℕ} {a b : Tree} {bs : List Symbol} (s : Kind) (o : Operator) → level_of s ≡ suc r → operator s ≡ Some o → At r bs b → Tail r a (Plain s ∷ bs) (tree.Binary o a b)
    is : {a b : Tree} {bs : List Symbol} → At 6 bs b → Tail 6 a (word w.Is ∷ bs) (tree.Binary op.Is a b)
    is_not : {a b : Tree} {bs : List Symbol} → At 6 bs b → Tail 6 a (word w.Is ∷ word w.Not ∷ bs) (tree.Binary op.IsNot a b)
    between : {a b c : Tree} {bs cs : List Symbol} → At 6 bs b → At 6 cs c → Tail 6 a (word w.Between ∷ bs ++ word w.And ∷ cs) (tree.Between false a b c)
    not_between : {a b c : Tree} {bs cs : List Symbol} → At 6 bs b → At 6 cs c → Tail 6 a (word w.Not ∷ word w.Between ∷ bs ++ word w.And ∷ cs) (tree.Between true a b c)
    among : {a : Tree} {ts : List Symbol} {es : Trees} → Items ts es → Tail 6 a (word w.In ∷ mark k.LeftParen ∷ ts ++ mark k.RightParen ∷ []) (tree.In false a es)
    not_among : {a : Tree} {ts : List Symbol} {es : Trees} → Items ts es → Tail 6 a (word w.Not ∷ word w.In ∷ mark k.LeftParen ∷ ts ++ mark k.RightParen ∷ []) (tree.In true a es)
    collate : {a : Tree} {c : List ℕ} → Tail 1 a (word w.Collate ∷ Name c ∷ []) (tree.Collate a c)

  -- one or more expressions with commas between
  pub data Items : List Symbol → Trees → Type 0 where
    last : {ts : List Symbol} {e : Tree} → At 10 ts e → Items ts (tree.More e tree.End)
    next : {ts us : List Symbol} {e : Tree} {es : Trees} → At 10 ts e → Items us es → Items (ts ++ mark k.Comma ∷ us) (tree.More e es)

-- an expression
abbrev pub IsExpression : List Symbol → Tree → Type 0
IsExpression ts e = At 10 ts e

-- one or more expressions with commas between
abbrev pub AreExpressions : List Symbol → List Tree → Type 0
AreExpressions ts es = Items ts (trees es)

-- a name
abbrev pub IsName : List Symbol → List ℕ → Type 0
IsName ts c = ts ≡ Name c ∷ []

-- one or more names with commas between
pub data IsNames : List Symbol → List (List ℕ) → Type 0 where
  last_name : {c : List ℕ} → IsNames (Name c ∷ []) (c ∷ [])
  next_name : {c : List ℕ} {ts : List Symbol} {cs : List (List ℕ)} → IsNames ts cs → IsNames (Name c ∷ mark k.Comma ∷ ts) (c ∷ cs)

-- a part in parentheses that are none of its own
pub data Enclosed {A : Type 0} (Part : List Symbol → A → Type 0) : List Symbol → A → Type 0 where
  enclosed : {ts : List Symbol} {a : A} → Part ts a → Enclosed Part (mark k.LeftParen ∷ ts ++ mark k.RightParen ∷ []) a

-- a part that may be left out
pub data Optional {A : Type 0} (Part : List Symbol → A → Type 0) : List Symbol → Option A → Type 0 where
  left_out : Optional Part [] None
  given : {ts : List Symbol} {a : A} → Part ts a → Optional Part ts (Some a)

-- a part after a piece
pub data Preceded {A : Type 0} (before : Symbol) (Part : List Symbol → A → Type 0) : List Symbol → A → Type 0 where
  preceded : {ts : List Symbol} {a : A} → Part ts a → Preceded before Part (before ∷ ts) a
