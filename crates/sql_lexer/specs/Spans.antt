-- Where tokens stand in a text.
use Rattle.std.specs.Prelude.{◌≡◌, ℕ, ◌+◌, ◌-◌, ◌⊎◌, ◌<◌, ◌≤◌, List, [], ◌∷◌, length, slice_index, slice_range}
use Rattle.std.specs.Str.{IsUtf8, IsCharBoundary}
use Rattle.sqlval.specs.declared.fault.Fault.{Fault}
use Rattle.sqlval.specs.declared.fault.Fault.TheVariants.{Memory, TooLong, Syntax, RealRefused}
use Rattle.sql_lexer.specs.declared.token.Token.{Token}

-- a place that follows a byte of ASCII
abbrev pub EndsOn : ℕ → List ℕ → ℕ → Type 0
EndsOn b z n = (0 < n) × (n ≤ length z) × (slice_index z (n - 1) ≡ b)

-- a token of this length may stand at the front
abbrev pub Ends : List ℕ → ℕ → Type 0
Ends z n = (0 < n) × (n ≤ length z) × (IsUtf8 z → IsCharBoundary z n)

-- a mark that two bytes begin may end after this many
abbrev pub EndsMark : ℕ → ℕ → ℕ → Type 0
EndsMark b c n = ((n ≡ 1) × (b < 128)) ⊎ ((n ≡ 2) × (c < 128))

-- why the token at this place is refused
abbrev pub IsTokenFault : ℕ → Fault → Type 0
IsTokenFault start (Syntax at) = at ≡ start
IsTokenFault start RealRefused = Unit {0}
IsTokenFault start _ = ⊥

-- why a text of this length is refused
abbrev pub IsLexingFault : ℕ → Fault → Type 0
IsLexingFault total Memory = Unit {0}
IsLexingFault total (Syntax at) = at < total
IsLexingFault total RealRefused = Unit {0}
IsLexingFault total TooLong = 65536 < total
IsLexingFault total _ = ⊥

abbrev pub end_of : Token → ℕ
end_of t = t.start + length t.text.now

-- some characters of a text from this place on
abbrev pub IsPart : ℕ → List ℕ → Token → Type 0
IsPart at z t = (at ≤ t.start) × (t.start < end_of t) × (t.text.now ≡ slice_range z t.start (end_of t))
    × IsCharBoundary z t.start × IsCharBoundary z (end_of t)

-- Each token is the part of the text where it stands, none before this place and none before the last one's end.
abbrev pub Stand : ℕ → List ℕ → List Token → Type 0
Stand at z [] = at ≤ length z
Stand at z (t ∷ ts) = IsPart at z t × Stand (end_of t) z ts

-- where the last of these ends
abbrev pub last_end : ℕ → List Token → ℕ
last_end at [] = at
last_end at (t ∷ ts) = last_end (end_of t) ts
