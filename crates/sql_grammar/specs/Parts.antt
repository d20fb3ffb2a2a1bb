-- Parts of rules: which pieces are what.
use Rattle.std.specs.Prelude.{Bool, true, false, List, [], ◌∷◌, ◌++◌}
use Rattle.sql_lexer.specs.declared.token.Kind.TheVariants as k
use Rattle.sql_expr.specs.Symbols.{Symbol, mark}

-- a piece that may be left out
pub data Said (before : Symbol) : List Symbol → Bool → Type 0 where
  unsaid : Said before [] false
  said : Said before (before ∷ []) true

-- one or more parts with commas between
pub data Listed {A : Type 0} (Part : List Symbol → A → Type 0) : List Symbol → List A → Type 0 where
  last : {ts : List Symbol} {a : A} → Part ts a → Listed Part ts (a ∷ [])
  next : {ts us : List Symbol} {a : A} {xs : List A} → Part ts a → Listed Part us xs → Listed Part (ts ++ mark k.Comma ∷ us) (a ∷ xs)

-- parts one after another, or none
pub data Many {A : Type 0} (Part : List Symbol → A → Type 0) : List Symbol → List A → Type 0 where
  done_many : Many Part [] []
  further : {ts us : List Symbol} {a : A} {xs : List A} → Part ts a → Many Part us xs → Many Part (ts ++ us) (a ∷ xs)

-- one part and then another
pub data Both {A B : Type 0} (One : List Symbol → A → Type 0) (Other : List Symbol → B → Type 0) : List Symbol → A × B → Type 0 where
  pair : {us vs : List Symbol} {a : A} {b : B} → One us a → Other vs b → Both One Other (us ++ vs) (a, b)

-- a part with a piece after it
pub data Before {A : Type 0} (after : Symbol) (Part : List Symbol → A → Type 0) : List Symbol → A → Type 0 where
  before : {ts : List Symbol} {a : A} → Part ts a → Before after Part (ts ++ after ∷ []) a
