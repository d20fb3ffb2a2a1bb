-- Which token lists a text has: what stands between tokens, how each is spelled, and what may not stand after it.
use Rattle.std.specs.Prelude.{◌≡◌, ◌≢◌, ℕ, ◌+◌, ◌-◌, ◌%◌, Bool, true, false, not, ◌&&◌, if◌then◌else◌, ◌==◌, List, [], ◌∷◌, ◌++◌, length, map, Some, None}
use Rattle.sql_lexer.specs.Bytes.{is_space, begins_word, is_in}
use Rattle.sql_lexer.specs.declared.class.Class.TheVariants as class
use Rattle.sql_lexer.specs.declared.token.Kind.{Kind}
use Rattle.sql_lexer.specs.declared.token.Kind.TheVariants as k
use Rattle.sql_lexer.specs.Lex.{Text, Lexed, next_byte, word_kind, reserved, number_from, is_whole, is_minus, pair, single}

abbrev pub Every : (ℕ → Bool) → Text → Type 0
Every p [] = Unit {0}
Every p (b ∷ z) = (p b ≡ true) × Every p z

-- each quote twice
abbrev pub doubled : ℕ → Text → Text
doubled q [] = []
doubled q (b ∷ z) = if b == q then q ∷ q ∷ doubled q z else b ∷ doubled q z

abbrev pub not_line : ℕ → Bool
not_line b = not (b == 10)

-- up to the first `*/`, and that
pub data IsComment : Text → Type 0 where
  closes : IsComment (42 ∷ 47 ∷ [])
  goes : {b : ℕ} {z : Text} → (b == 42 && next_byte z == 47) ≡ false → IsComment z → IsComment (b ∷ z)

-- spaces and comments
pub data IsGap : Text → Type 0 where
  nothing : IsGap []
  space : {b : ℕ} {g : Text} → is_space b ≡ true → IsGap g → IsGap (b ∷ g)
  line : {g : Text} (z : Text) → Every not_line z → IsGap g → IsGap (45 ∷ 45 ∷ z ++ 10 ∷ g)
  block : {g : Text} (z : Text) → IsComment z → IsGap g → IsGap (47 ∷ 42 ∷ z ++ g)

-- How a token is spelled, after a minus or not, and which byte may stand after it (0 at the end).
pub data Spells : Bool → Kind → Text → ℕ → Type 0 where
  word : {m : Bool} {b next : ℕ} {z : Text} → begins_word b ≡ true → Every (is_in class.Word) z → is_in class.Word next ≡ false
      → (b == 88 && next_byte (z ++ next ∷ []) == 39) ≡ false → Spells m (word_kind (reserved (b ∷ z))) (b ∷ z) next
  number : {m : Bool} {b next : ℕ} {z : Text} → is_in class.Digit b ≡ true → Every (is_in class.Digit) z → is_in class.Word next ≡ false → next ≢ 46
      → is_whole m (number_from 0 (b ∷ z)) ≡ true → Spells m (k.Integer (number_from 0 (b ∷ z))) (b ∷ z) next
  text : {m : Bool} {next : ℕ} (z : Text) → next ≢ 39 → Spells m k.Text (39 ∷ doubled 39 z ++ 39 ∷ []) next
  name : {m : Bool} {next : ℕ} (z : Text) → next ≢ 34 → Spells m k.QuotedName (34 ∷ doubled 34 z ++ 34 ∷ []) next
  blob : {m : Bool} {next : ℕ} (z : Text) → Every (is_in class.Hex) z → length z % 2 ≡ 0 → Spells m k.Blob (88 ∷ 39 ∷ z ++ 39 ∷ []) next
  two : {m : Bool} {b c next : ℕ} {kind : Kind} → pair b c ≡ Some kind → Spells m kind (b ∷ c ∷ []) next
  one : {m : Bool} {b next : ℕ} {kind : Kind} → single b ≡ Some kind → pair b next ≡ None → (b == 47 && next == 42) ≡ false
      → (b == 45 && next == 45) ≡ false → Spells m kind (b ∷ []) next

-- the tokens of the text that begins at this place, after a minus or not
pub data Cuts : ℕ → Bool → Text → List Lexed → Type 0 where
  done : {at : ℕ} {m : Bool} {g : Text} → IsGap g → Cuts at m g []
  -- a last comment without a line feed
  ends_in_comment : {at : ℕ} {m : Bool} {g : Text} (z : Text) → IsGap g → Every not_line z → Cuts at m (g ++ 45 ∷ 45 ∷ z) []
  cut : {at : ℕ} {m : Bool} {g s rest : Text} {kind : Kind} {ts : List Lexed} → IsGap g → Spells m kind s (next_byte rest)
      → Cuts (at + length g + length s) (is_minus kind) rest ts
      → Cuts at m (g ++ (s ++ rest)) (record { kind = kind; text = s; start = at + length g } ∷ ts)

-- where the last of these tokens ends, or this place where there is none
abbrev pub end_after : ℕ → List Lexed → ℕ
end_after at [] = at
end_after at (t ∷ ts) = end_after (t.start + length t.text) ts

-- these tokens, each so much earlier
abbrev pub earlier : ℕ → List Lexed → List Lexed
earlier k ts = map (λ t. record { kind = t.kind; text = t.text; start = t.start - k }) ts
