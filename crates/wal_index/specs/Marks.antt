-- What the marks of connections say (Database File Format, "WAL Read Locks": each reader has a mark, the last frame that it sees).
use Rattle.std.specs.Prelude.{◌≡◌, ◌≤◌, ◌-◌, ℕ, Option, Some, None, slice_index_or}
use Rattle.wal_index.specs.declared.marks.Marks.{Marks}

-- the mark of a connection, from 1, where it has one
abbrev pub mark_of : Marks → ℕ → Option ℕ
mark_of marks connection = slice_index_or marks.marks (connection - 1) None

-- no connection has a mark
abbrev pub HasNone : Marks → Type 0
HasNone marks = (c : ℕ) → mark_of marks c ≡ None

-- one of the sixteen connections has this mark now, or none, and the others have the marks that they had
pub record SetsMark (connection : ℕ) (mark : Option ℕ) (old new : Marks) : Type 0 where
  pub set : 1 ≤ connection → connection ≤ 16 → mark_of new connection ≡ mark
  pub others : (c : ℕ) → 1 ≤ c → (c ≡ connection → ⊥) → mark_of new c ≡ mark_of old c

-- a connection has this mark, and none has a smaller one
pub record IsLeast (marks : Marks) (mark : ℕ) : Type 0 where
  pub connection : ℕ
  pub known : 1 ≤ connection
  pub is : mark_of marks connection ≡ Some mark
  pub least : (c other : ℕ) → 1 ≤ c → mark_of marks c ≡ Some other → mark ≤ other

-- no other connection has a mark
abbrev pub IsAlone : Marks → ℕ → Type 0
IsAlone marks connection = (c : ℕ) → 1 ≤ c → (c ≡ connection → ⊥) → mark_of marks c ≡ None
