-- What names, texts and blobs mean by their spelling (SQL As Understood By SQLite, "Literal Values" and "SQLite Keywords").
use Rattle.std.specs.Prelude.{ℕ, if◌then◌else◌, ◌==◌, List, [], ◌∷◌, Option, Some, None, Result, Ok, Err}
use Rattle.hex.specs.Hex.{decode_of}
use Rattle.hex.specs.declared.error.FromHexError.{FromHexError}

-- a text with a byte before it
abbrev pub with_first : ℕ → Option (List ℕ) → Option (List ℕ)
with_first b None = None
with_first b (Some z) = Some (b ∷ z)

-- the text before a quote at the end
unfoldable pub before_last : ℕ → List ℕ → Option (List ℕ)
before_last q [] = None
before_last q (b ∷ []) = if b == q then Some [] else None
before_last q (b ∷ c ∷ z) = with_first b (before_last q (c ∷ z))

-- what stands between two quotes
unfoldable pub between_quotes : ℕ → List ℕ → Option (List ℕ)
between_quotes q [] = None
between_quotes q (b ∷ z) = if b == q then before_last q z else None

-- a text with each doubled quote once
unfoldable mutual
  pub undoubled : ℕ → List ℕ → List ℕ
  undoubled q [] = []
  undoubled q (b ∷ z) = b ∷ (if b == q then after_quote q z else undoubled q z)

  -- after a quote, which another may follow
  pub after_quote : ℕ → List ℕ → List ℕ
  after_quote q [] = []
  after_quote q (b ∷ z) = if b == q then undoubled q z else b ∷ undoubled q z

-- a name by what stands between its quotes, where it has any
abbrev pub name_by : List ℕ → Option (List ℕ) → List ℕ
name_by z None = z
name_by z (Some w) = undoubled 34 w

-- the name that is spelled so, with quotes or without
unfoldable pub name_spelled : List ℕ → List ℕ
name_spelled z = name_by z (between_quotes 34 z)

-- what was found, and else the whole
abbrev pub or_whole : List ℕ → Option (List ℕ) → List ℕ
or_whole z None = z
or_whole z (Some w) = w

-- the text that is spelled so
unfoldable pub text_spelled : List ℕ → List ℕ
text_spelled z = undoubled 39 (or_whole z (between_quotes 39 z))

-- the digits of a blob
unfoldable pub blob_digits : List ℕ → Option (List ℕ)
blob_digits [] = None
blob_digits (b ∷ z) = if b == 88 then between_quotes 39 z else None

-- what was decoded, and else nothing
abbrev pub or_nothing : Result (List ℕ) FromHexError → List ℕ
or_nothing (Ok bytes) = bytes
or_nothing (Err e) = []

-- the blob that is spelled so
unfoldable pub blob_spelled : List ℕ → List ℕ
blob_spelled z = or_nothing (decode_of (or_whole [] (blob_digits z)))
