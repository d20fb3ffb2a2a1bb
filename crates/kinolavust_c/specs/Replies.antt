-- Replies as bytes. Numbers have 8 bytes, the greatest first.
use Rattle.std.specs.Prelude.{◌≡◌, ◌⊎◌, ℕ, List, [], ◌∷◌, ◌++◌, length}
use Rattle.std.specs.List.{flat_map}
use Rattle.std.specs.Int.{w64, to_be_bytes, cast_unsigned}
use Rattle.smallvec.specs.SmallVec.{SmallVec}
use Rattle.kinolavust_c.specs.Numbers.{refusal_number}
use Rattle.kinolavust_c.specs.declared.opened.Session.{Session}
use Rattle.messages.specs.Details.{HasMessage}
use Rattle.sqlval.specs.Titles.{title_of}
use Rattle.sqlval.specs.declared.fault.Fault.{Fault}
use Rattle.sqlval.specs.declared.fault.Fault.TheVariants.{Damaged, Syntax, NoSuch, Exists, Ambiguous, Raised}
use Rattle.sqlval.specs.declared.value.Value.{Value}
use Rattle.sqlval.specs.declared.value.Value.TheVariants.{Null, Int, Text, Blob}

-- bytes after their count
abbrev pub after_count : List ℕ → List ℕ
after_count bytes = to_be_bytes w64 (length bytes) ++ bytes

-- a value: its kind, and then its number, or its bytes
abbrev pub value_bytes : Value → List ℕ
value_bytes Null = 0 ∷ []
value_bytes (Int n) = 1 ∷ to_be_bytes w64 (cast_unsigned w64 n)
value_bytes (Text text) = 2 ∷ after_count text
value_bytes (Blob blob) = 3 ∷ after_count blob

-- a row: the count of its values, and these
abbrev pub row_bytes : List Value → List ℕ
row_bytes row = to_be_bytes w64 (length row) ++ flat_map value_bytes row

abbrev pub rows_bytes : List (SmallVec Value) → List ℕ
rows_bytes rows = flat_map (λ row. row_bytes row.items) rows

-- the byte where a statement leaves the grammar, or the damaged page
abbrev pub refusal_place : Fault → ℕ
refusal_place (Damaged damage page) = page
refusal_place (Syntax at) = at
refusal_place fault = 0

-- the name or the text that a refusal speaks of
abbrev pub refusal_subject : Fault → List ℕ
refusal_subject (NoSuch kind name) = name
refusal_subject (Exists name) = name
refusal_subject (Ambiguous name) = name
refusal_subject (Raised raised) = raised.text
refusal_subject fault = []

-- the bytes of a refusal: its place, what it speaks of, its number with its name, and its message
pub record AreRefusal (fault : Fault) (bytes : List ℕ) : Type 0 where
  pub message : List ℕ
  pub told : HasMessage fault [] message
  pub same : bytes ≡ to_be_bytes w64 (refusal_place fault) ++ after_count (refusal_subject fault) ++ after_count (title_of fault) ++ after_count message

-- These bytes are a reply of this number: rows of 0, and else a refusal of that number, or nothing where there was no memory for it.
abbrev pub IsReply : ℕ → List ℕ → Type 0
IsReply number bytes = ((rows : List (SmallVec Value)) × (number ≡ 0) × (bytes ≡ rows_bytes rows)) ⊎ ((fault : Fault) × (number ≡ refusal_number fault) × ((bytes ≡ []) ⊎ AreRefusal fault bytes))

-- the reply that a session keeps
abbrev pub kept_reply : Session → List ℕ
kept_reply session = session.reply.items
