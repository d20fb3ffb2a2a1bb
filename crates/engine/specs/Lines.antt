-- The lines of an input, and what a line says.
use Rattle.std.specs.Prelude.{◌≡◌, ◌<◌, ◌≤◌, ◌⊎◌, ◌+◌, ◌-◌, ◌==◌, ◌&&◌, ℕ, nat_le, List, [], ◌∷◌, ◌++◌, length, take, decimal, Bool, true, false, ⊤, Option, Some, None, if◌then◌else◌}
use Rattle.std.specs.List.{AllByRecursion}
use Rattle.std.specs.Str.{IsUtf8}
use Rattle.std.specs.Io.KnownBytes.{Consumes}
use Rattle.engine.specs.declared.lines.Met.{Met}
use Rattle.engine.specs.declared.lines.Met.TheVariants.{Nothing, LineFeed, End}
use Rattle.sqlval.specs.declared.fault.Fault.{Fault}
use Rattle.sqlval.specs.declared.fault.Fault.TheVariants.{Io, Memory, Misuse, TooLong}
use Rattle.sqlval.specs.declared.fault.Misuse.TheVariants.{InputLine}

abbrev pub IsNoLineFeed : ℕ → Type 0
IsNoLineFeed byte = byte ≡ 10 → ⊥

-- An input's lines, without the line feeds that end them; a last one without a line feed counts where it isn't empty.
pub data AreLines : List ℕ → List (List ℕ) → Type 0 where
  no_lines : AreLines [] []
  last_line : {byte : ℕ} {line : List ℕ} → AllByRecursion IsNoLineFeed (byte ∷ line) → AreLines (byte ∷ line) ((byte ∷ line) ∷ [])
  ended_line : {line rest : List ℕ} {lines : List (List ℕ)} → AllByRecursion IsNoLineFeed line → AreLines rest lines → AreLines (line ++ 10 ∷ rest) (line ∷ lines)

-- Where the bytes that an input has left are known, they are known after it is read from, and the relation holds of both.
abbrev pub Between : (List ℕ → List ℕ → Type 0) → Option (List ℕ) → Option (List ℕ) → Type 0
Between P None new = ⊤
Between P (Some before) None = ⊥
Between P (Some before) (Some after) = P before after

-- The input began with this line, and is after it now: after its line feed, or at its end where the line isn't empty.
abbrev pub BeganWith : List ℕ → List ℕ → List ℕ → Type 0
BeganWith line before after = (before ≡ line ++ 10 ∷ after) ⊎ ((before ≡ line) × (after ≡ []) × (0 < length line))

-- what is kept of a line: the whole, or of one longer than 65,540 bytes the first 65,540
abbrev pub kept_of : List ℕ → List ℕ
kept_of line = take 65540 line

-- A line was read, and this is kept of it.
pub record HasReadLine (before after : Option (List ℕ)) (kept : List ℕ) : Type 0 where
  pub line : List ℕ
  pub one_line : AllByRecursion IsNoLineFeed line
  pub read : Between (BeganWith line) before after
  pub kept_is : kept ≡ kept_of line

-- nothing was left, and nothing is
abbrev pub IsEmptyStill : List ℕ → List ℕ → Type 0
IsEmptyStill before after = (before ≡ []) × (after ≡ [])

-- A line was read, or there was none: the input was at its end and is there still.
abbrev pub HasRead : Bool → Option (List ℕ) → Option (List ℕ) → List ℕ → Type 0
HasRead true before after kept = HasReadLine before after kept
HasRead false before after kept = Between IsEmptyStill before after

-- why an input is refused, and serving its lines: memory was short, or a call failed
abbrev pub IsInputRefusal : Fault → Type 0
IsInputRefusal fault = (fault ≡ Memory) ⊎ (fault ≡ Io)

-- the bytes of what was met after a part of a line
abbrev pub tail_of : Met → List ℕ
tail_of Nothing = []
tail_of LineFeed = 10 ∷ []
tail_of End = []

-- nothing is left where the end was met
abbrev pub IsPresent : Met → Option (List ℕ) → Option (List ℕ) → Type 0
IsPresent Nothing before after = ⊤
IsPresent LineFeed before after = ⊤
IsPresent End before after = Between (λ some none. none ≡ []) before after

-- A part of a line was read with what was met after it, and kept after what was kept before, where there was room.
pub record HasPart (met : Met) (before after : Option (List ℕ)) (kept_before kept : List ℕ) : Type 0 where
  pub part : List ℕ
  pub one_line : AllByRecursion IsNoLineFeed part
  pub read : Consumes before after (part ++ tail_of met)
  pub there : IsPresent met before after
  pub kept_is : kept ≡ kept_before ++ take (65540 - length kept_before) part

-- the line is the number of a connection, 1 to 16 in decimal, a space, and a statement
pub record IsInputLine (line : List ℕ) (connection : ℕ) (statement : List ℕ) : Type 0 where
  pub least : 1 ≤ connection
  pub greatest : connection ≤ 16
  pub spelled : line ≡ decimal connection ++ 32 ∷ statement

-- the line has no such form
abbrev pub SaysNothing : List ℕ → Type 0
SaysNothing line = (connection : ℕ) (statement : List ℕ) → IsInputLine line connection statement → ⊥

-- Why a line is refused: its statement has more than 65,536 bytes; or it has no such form, or one whose statement has no more bytes
-- and isn't UTF-8.
abbrev pub IsLineRefusal : List ℕ → Fault → Type 0
IsLineRefusal line TooLong = (connection : ℕ) × (statement : List ℕ) × IsInputLine line connection statement × (65536 < length statement)
IsLineRefusal line (Misuse InputLine) =
    SaysNothing line ⊎ ((connection : ℕ) × (statement : List ℕ) × IsInputLine line connection statement × (length statement ≤ 65536) × (IsUtf8 statement → ⊥))
IsLineRefusal line fault = ⊥

-- the number after a 1 and before a space, and what follows the space
abbrev pub second_digit : ℕ → ℕ → List ℕ → Option (ℕ × List ℕ)
second_digit a b [] = None
second_digit a b (c ∷ rest) = if a == 49 && (nat_le 48 b && (nat_le b 54 && c == 32)) then Some (10 + (b - 48), rest) else None

-- the number at the front before a space, and what follows the space
unfoldable pub line_number_at : List ℕ → Option (ℕ × List ℕ)
line_number_at [] = None
line_number_at (a ∷ []) = None
line_number_at (a ∷ b ∷ rest) = if nat_le 49 a && (nat_le a 57 && b == 32) then Some (a - 48, rest) else second_digit a b rest
