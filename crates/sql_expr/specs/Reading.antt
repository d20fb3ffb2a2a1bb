-- Reading from left to right, with the first refusal that is met.
use Rattle.std.specs.Prelude.{◌≡◌, ℕ, zero, suc, max, Bool, true, false, List, [], ◌∷◌, ◌++◌, length, Option, Some, None, Result, Ok, Err, nat_le, ◌==◌, if◌then◌else◌, ⊤}
use Rattle.sql_lexer.specs.declared.keyword.Keyword.{Keyword}
use Rattle.sql_lexer.specs.declared.keyword.Keyword.TheVariants as w
use Rattle.sql_lexer.specs.declared.token.Kind.{Kind}
use Rattle.sql_lexer.specs.declared.token.Kind.TheVariants as k
use Rattle.sql_lexer.specs.declared.token.Token.{Token}
use Rattle.std.specs.Borrow.{Bor}
use Rattle.sql_syntax.specs.declared.expr.Operator.{Operator}
use Rattle.sql_syntax.specs.declared.expr.Operator.TheVariants as op
use Rattle.sql_syntax.specs.declared.expr.RaiseAction.{RaiseAction}
use Rattle.sql_syntax.specs.declared.expr.RaiseAction.TheVariants as raises
use Rattle.sql_syntax.specs.Tree as tree
use Rattle.sql_syntax.specs.Tree.{Tree, Trees, trees}
use Rattle.sql_expr.specs.declared.refusal.Refusal.{Refusal}
use Rattle.sql_expr.specs.declared.refusal.Refusal.TheVariants.{Memory, Syntax, TooLong}
use Rattle.sql_expr.specs.declared.token.TokenAt.{TokenAt}
use Rattle.sql_expr.specs.Symbols.{Symbol, Plain, Name, Text, Blob, is_word, is_mark, seen}
use Rattle.sql_expr.specs.Grammar.{level_of, operator}
pub use Rattle.sql_expr.specs.declared.levels.Deep.{Deep}

-- what was read, and the pieces after it
abbrev pub Read : Type 0 → Type 0
Read A = Result (A × List Symbol) Refusal

-- one part after another, up to the first refusal
infixl 10 ◌>>=◌
abbrev pub ◌>>=◌ : {A B : Type 0} → Result A Refusal → (A → Result B Refusal) → Result B Refusal
(Ok x) >>= f = f x
(Err e) >>= f = Err e

-- a refusal that the definition has too, or the lack of memory
abbrev pub Refuses : {Y : Type 0} → Refusal → Result Y Refusal → Type 0
Refuses Memory read = ⊤
Refuses refusal read = read ≡ Err refusal

-- What a function answered, seen by `view`, is what reading gives, unless memory ran out.
abbrev pub Gives : {X Y : Type 0} → (X → Y) → Result X Refusal → Result Y Refusal → Type 0
Gives view (Ok x) read = read ≡ Ok (view x)
Gives view (Err refusal) read = Refuses refusal read

-- What a function answered of these tokens of a statement is what this reading gives, unless memory ran out: what was read,
-- and the tokens after it. The first list are all the statement's tokens.
abbrev pub ReadsBy : {A : Type 0} → List Token → List TokenAt → Result (A × Bor (List TokenAt)) Refusal → (List Symbol → Read A) → Type 0
ReadsBy whole tokens result reading = Gives (λ x. (x.0, seen whole x.1.now)) result (reading (seen whole tokens))

-- no statement goes on so, with these pieces left
abbrev pub fail : {A : Type 0} → List Symbol → Result A Refusal
fail ts = Err (Syntax (length ts))

-- ---- words and marks

-- the pieces after a word, where it comes next
unfoldable pub after_word : Keyword → List Symbol → Option (List Symbol)
after_word keyword [] = None
after_word keyword (s ∷ ts) = if is_word keyword s then Some ts else None

-- what was found, and else a refusal
abbrev pub or_fail : List Symbol → Option (List Symbol) → Result (List Symbol) Refusal
or_fail ts None = fail ts
or_fail ts (Some rest) = Ok rest

-- the pieces after a word that has to come next
unfoldable pub word_from : Keyword → List Symbol → Result (List Symbol) Refusal
word_from keyword ts = or_fail ts (after_word keyword ts)

-- what was found, and else all the pieces
abbrev pub or_all : List Symbol → Option (List Symbol) → List Symbol
or_all ts None = ts
or_all ts (Some rest) = rest

-- the pieces after a word that may come next
unfoldable pub optional_from : Keyword → List Symbol → List Symbol
optional_from keyword ts = or_all ts (after_word keyword ts)

-- the pieces after a mark that has to come next
unfoldable pub mark_from : Kind → List Symbol → Result (List Symbol) Refusal
mark_from kind [] = fail []
mark_from kind (s ∷ ts) = if is_mark kind s then Ok ts else fail (s ∷ ts)

-- the pieces after a comma, where it comes next
unfoldable pub after_comma : List Symbol → Option (List Symbol)
after_comma (Plain k.Comma ∷ ts) = Some ts
after_comma ts = None

-- the pieces after an open parenthesis, where it comes next
unfoldable pub after_paren : List Symbol → Option (List Symbol)
after_paren (Plain k.LeftParen ∷ ts) = Some ts
after_paren ts = None

-- a number
unfoldable pub integer_from : List Symbol → Read ℕ
integer_from (Plain (k.Integer n) ∷ ts) = Ok (n, ts)
integer_from ts = fail ts

-- ---- names

-- a name, where one comes next
unfoldable pub maybe_name_from : List Symbol → Read (Option (List ℕ))
maybe_name_from (Name c ∷ ts) = Ok (Some c, ts)
maybe_name_from ts = Ok (None, ts)

-- a name
unfoldable pub name_from : List Symbol → Read (List ℕ)
name_from (Name c ∷ ts) = Ok (c, ts)
name_from ts = fail ts

-- a name after a word
abbrev pub name_after_from : Keyword → List Symbol → Read (List ℕ)
name_after_from keyword ts = word_from keyword ts >>= name_from

-- on after a comma
abbrev pub next_name : (List (List ℕ) → List Symbol → Read (List (List ℕ))) → List (List ℕ) → List Symbol → Read (List (List ℕ))
next_name go found (Plain k.Comma ∷ ts) = go found ts
next_name go found ts = Ok (found, ts)

-- names with commas between, after those that are found; the number bounds the turns
unfoldable pub names_upto : ℕ → List (List ℕ) → List Symbol → Read (List (List ℕ))
names_upto zero found ts = fail ts
names_upto (suc n) found ts = do
  c ← name_from ts
  next_name (names_upto n) (found ++ c.0 ∷ []) c.1

-- one or more names with commas between
abbrev pub names_from : List Symbol → Read (List (List ℕ))
names_from ts = names_upto (length ts) [] ts

-- a part in parentheses that are none of its own
unfoldable pub enclosed_by : {A : Type 0} → (List Symbol → Read A) → List Symbol → Read A
enclosed_by part ts = do
  inside ← mark_from k.LeftParen ts
  found ← part inside
  after ← mark_from k.RightParen found.1
  Ok (found.0, after)

-- names in parentheses
abbrev pub name_row_from : List Symbol → Read (List (List ℕ))
name_row_from = enclosed_by names_from

-- names in parentheses, where a parenthesis comes next
unfoldable pub maybe_name_row_from : List Symbol → Read (Option (List (List ℕ)))
maybe_name_row_from (Plain k.LeftParen ∷ ts) = name_row_from (Plain k.LeftParen ∷ ts) >>= λ found. Ok (Some found.0, found.1)
maybe_name_row_from ts = Ok (None, ts)

-- ---- expressions

-- expressions with the greatest of their depths
pub record Deeps : Type 0 where
  pub trees : List Tree
  pub depth : ℕ

-- a tree over others of which the deepest has this depth, unless that passes the limit
unfoldable pub over : ℕ → Tree → ℕ → List Symbol → Read Deep
over room e d ts = if nat_le (suc d) room then Ok (record { tree = e; depth = suc d }, ts) else Err TooLong

-- a tree of depth 1
abbrev pub leaf : Tree → Deep
leaf e = record { tree = e; depth = 1 }

-- the level whose chain a piece goes on, and 0 where it goes on none
abbrev pub binds : Symbol → ℕ
binds (Plain kind) = level_of kind
binds _ = 0

-- whether a chain of the level goes on
unfoldable pub goes_on : ℕ → List Symbol → Bool
goes_on r [] = false
goes_on r (s ∷ ts) = binds s == r

-- the level that a token before its operand belongs to, and 0 where it is no such token
abbrev pub prefix_of : Kind → ℕ
prefix_of k.Minus = 1
prefix_of (k.Word w.Not) = 8
prefix_of _ = 0

-- the same of a piece
abbrev pub prefixes : Symbol → ℕ
prefixes (Plain kind) = prefix_of kind
prefixes _ = 0

-- whether a minus or NOT of the level comes next
unfoldable pub is_prefixed : ℕ → List Symbol → Bool
is_prefixed r [] = false
is_prefixed r (s ∷ ts) = prefixes s == r

-- the tree of a minus or NOT over its operand
abbrev pub wrap : Symbol → Tree → Tree
wrap (Plain k.Minus) e = tree.Negated e
wrap _ e = tree.Not e

-- an expression more
abbrev pub with_item : Deeps → Deep → Deeps
with_item found e = record { trees = found.trees ++ e.tree ∷ []; depth = max found.depth e.depth }

-- no expressions yet
abbrev pub no_items : Deeps
no_items = record { trees = []; depth = 0 }

-- on after a comma
abbrev pub next_item : (Deeps → List Symbol → Read Deeps) → Deeps → List Symbol → Read Deeps
next_item go found (Plain k.Comma ∷ ts) = go found ts
next_item go found ts = Ok (found, ts)

-- an integer, a text, a blob or NULL
abbrev pub literal : Symbol → Option Tree
literal (Plain (k.Word w.Null)) = Some tree.Null
literal (Plain (k.Integer n)) = Some (tree.Integer n)
literal (Text z) = Some (tree.Text z)
literal (Blob z) = Some (tree.Blob z)
literal _ = None

-- a literal, where one was found
abbrev pub by_literal : Option Tree → List Symbol → List Symbol → Read Deep
by_literal (Some e) ts all = Ok (leaf e, ts)
by_literal None ts all = fail all

-- what RAISE undoes
unfoldable pub action_from : List Symbol → Read RaiseAction
action_from (Plain (k.Word w.Abort) ∷ ts) = Ok (raises.Abort, ts)
action_from (Plain (k.Word w.Rollback) ∷ ts) = Ok (raises.Rollback, ts)
action_from ts = fail ts

-- a text
unfoldable pub text_from : List Symbol → Read (List ℕ)
text_from (Text z ∷ ts) = Ok (z, ts)
text_from ts = fail ts

-- what stands after RAISE
unfoldable pub raise_from : List Symbol → Read Deep
raise_from ts = do
  inside ← mark_from k.LeftParen ts
  action ← action_from inside
  preceded ← mark_from k.Comma action.1
  message ← text_from preceded
  after ← mark_from k.RightParen message.1
  Ok (leaf (tree.Raise action.0 message.0), after)

-- The first argument reads an expression of a level that is nested in another, the second is the depth that is left.
module _ (inner : ℕ → List Symbol → Read Deep) (room : ℕ) where
  -- expressions with commas between, after those that are found; the number bounds the turns
  unfoldable pub items_upto : ℕ → Deeps → List Symbol → Read Deeps
  items_upto zero found ts = fail ts
  items_upto (suc n) found ts = do
    e ← inner 10 ts
    next_item (items_upto n) (with_item found e.0) e.1

  -- one or more expressions with commas between
  abbrev pub items_from : List Symbol → Read Deeps
  items_from ts = items_upto (length ts) no_items ts

  -- expressions up to a closing parenthesis
  unfoldable pub items : List Symbol → Read Deeps
  items ts = do
    found ← items_from ts
    after ← mark_from k.RightParen found.1
    Ok (found.0, after)

  -- what a function is called with, after the parenthesis
  unfoldable pub call : List ℕ → List Symbol → Read Deep
  call f (Plain k.RightParen ∷ ts) = over room (tree.Call f tree.End) 0 ts
  call f (Plain k.Star ∷ ts) = mark_from k.RightParen ts >>= λ after. Ok (leaf (tree.CallAll f), after)
  call f ts = do
    found ← items ts
    over room (tree.Call f (trees found.0.trees)) found.0.depth found.1

  -- what goes on after a name
  unfoldable pub named : List ℕ → List Symbol → Read Deep
  named c (Plain k.Dot ∷ ts) = name_from ts >>= λ x. Ok (leaf (tree.Column (Some c) x.0), x.1)
  named c (Plain k.LeftParen ∷ ts) = call c ts
  named c ts = Ok (leaf (tree.Column None c), ts)

  -- an expression up to its closing parenthesis
  unfoldable pub paren : List Symbol → Read Deep
  paren ts = do
    e ← inner 10 ts
    after ← mark_from k.RightParen e.1
    over room (tree.Paren e.0.tree) e.0.depth after

  -- a literal, a column, a call, parentheses or RAISE
  unfoldable pub atom : List Symbol → Read Deep
  atom (Plain k.LeftParen ∷ ts) = paren ts
  atom (Plain (k.Word w.Raise) ∷ ts) = raise_from ts
  atom (Name c ∷ ts) = named c ts
  atom (s ∷ ts) = by_literal (literal s) ts (s ∷ ts)
  atom [] = fail []

  -- a minus or NOT and its operand
  unfoldable pub prefix : ℕ → List Symbol → Read Deep
  prefix r [] = fail []
  prefix r (s ∷ ts) = do
    e ← inner r ts
    over room (wrap s e.0.tree) e.0.depth e.1

  -- the right operand
  unfoldable pub operand : ℕ → Operator → Deep → List Symbol → Read Deep
  operand r o left ts = do
    b ← inner r ts
    over room (tree.Binary o left.tree b.0.tree) (max left.depth b.0.depth) b.1

  -- what stands after BETWEEN
  unfoldable pub between : ℕ → Bool → Deep → List Symbol → Read Deep
  between r n left ts = do
    b ← inner r ts
    after ← word_from w.And b.1
    c ← inner r after
    over room (tree.Between n left.tree b.0.tree c.0.tree) (max left.depth (max b.0.depth c.0.depth)) c.1

  -- what stands after IN
  unfoldable pub among : Bool → Deep → List Symbol → Read Deep
  among n left ts = do
    inside ← mark_from k.LeftParen ts
    found ← items inside
    over room (tree.In n left.tree (trees found.0.trees)) (max left.depth found.0.depth) found.1

  -- what stands after COLLATE
  unfoldable pub collate : Deep → List Symbol → Read Deep
  collate left ts = do
    c ← name_from ts
    over room (tree.Collate left.tree c.0) left.depth c.1

  -- a chain of binary operators
  abbrev pub by_operator : ℕ → Option Operator → Deep → List Symbol → List Symbol → Read Deep
  by_operator r (Some o) left ts all = operand r o left ts
  by_operator r None left ts all = fail all

  -- what goes on after a left operand of the level above r
  unfoldable pub tail : ℕ → Deep → List Symbol → Read Deep
  tail r left (Plain (k.Word w.Collate) ∷ ts) = collate left ts
  tail r left (Plain (k.Word w.Is) ∷ Plain (k.Word w.Not) ∷ ts) = operand r op.IsNot left ts
  tail r left (Plain (k.Word w.Is) ∷ ts) = operand r op.Is left ts
  tail r left (Plain (k.Word w.Between) ∷ ts) = between r false left ts
  tail r left (Plain (k.Word w.In) ∷ ts) = among false left ts
  tail r left (Plain (k.Word w.Not) ∷ Plain (k.Word w.Between) ∷ ts) = between r true left ts
  tail r left (Plain (k.Word w.Not) ∷ Plain (k.Word w.In) ∷ ts) = among true left ts
  tail r left (Plain (k.Word w.Not) ∷ ts) = fail ts
  tail r left (Plain s ∷ ts) = by_operator r (operator s) left ts (Plain s ∷ ts)
  tail r left ts = fail ts

  -- all that goes on after a left operand; the number bounds the turns, each of which makes the tree deeper
  unfoldable pub tails : ℕ → ℕ → Deep → List Symbol → Read Deep
  tails zero r left ts = if goes_on (suc r) ts then Err TooLong else Ok (left, ts)
  tails (suc n) r left ts = if goes_on (suc r) ts then (tail r left ts >>= λ x. tails n r x.0 x.1) else Ok (left, ts)

  -- an expression of the level, where the room is for its outermost form
  unfoldable pub ladder : ℕ → List Symbol → Read Deep
  ladder zero ts = atom ts
  ladder (suc r) ts = if is_prefixed (suc r) ts then prefix (suc r) ts else (ladder r ts >>= λ x. tails room r x.0 x.1)

-- an expression of the level, no deeper than the first number
unfoldable pub level_at : ℕ → ℕ → List Symbol → Read Deep
level_at zero r ts = Err TooLong
level_at (suc room) r ts = ladder (level_at room) (suc room) r ts

-- an expression no deeper than 100
unfoldable pub expression_from : List Symbol → Read Tree
expression_from ts = level_at 100 10 ts >>= λ x. Ok (x.0.tree, x.1)

-- one or more expressions with commas between
unfoldable pub expressions_from : List Symbol → Read (List Tree)
expressions_from ts = items_from (level_at 100) 101 ts >>= λ x. Ok (x.0.trees, x.1)

-- expressions in parentheses
abbrev pub row_from : List Symbol → Read (List Tree)
row_from = enclosed_by expressions_from

-- an expression in parentheses that are none of its own
abbrev pub enclosed_from : List Symbol → Read Tree
enclosed_from = enclosed_by expression_from

-- an expression after the word, where it was found
abbrev pub maybe_by : List Symbol → Option (List Symbol) → Read (Option Tree)
maybe_by ts None = Ok (None, ts)
maybe_by ts (Some rest) = expression_from rest >>= λ x. Ok (Some x.0, x.1)

-- an expression after a word, where the word comes next
unfoldable pub maybe_after_from : Keyword → List Symbol → Read (Option Tree)
maybe_after_from keyword ts = maybe_by ts (after_word keyword ts)
