-- Readers made of parts. A reader gives what stands at the front of the pieces, and the pieces after it, or why it refuses
-- them.
use Rattle.std.specs.Prelude.{ℕ, zero, suc, Bool, true, false, List, [], ◌∷◌, ◌++◌, length, Option, Some, None, Ok, Err}
use Rattle.sql_lexer.specs.declared.keyword.Keyword.{Keyword}
use Rattle.sql_lexer.specs.declared.token.Kind.{Kind}
use Rattle.sql_expr.specs.declared.refusal.Refusal.TheVariants.{TooLong}
use Rattle.sql_expr.specs.Symbols.{Symbol}
use Rattle.sql_expr.specs.Reading.{Read, fail, ◌>>=◌, after_comma, after_word, word_from, mark_from, optional_from}

abbrev pub Reader : Type 0 → Type 0
Reader A = List Symbol → Read A

-- nothing is read, and it stands for this
unfoldable pub yields : {A : Type 0} → A → Reader A
yields a ts = Ok (a, ts)

-- what is made of a part
unfoldable pub made : {A B : Type 0} → (A → B) → Reader A → Reader B
made f p ts = p ts >>= λ a. Ok (f a.0, a.1)

-- one part and then another
unfoldable pub both : {A B : Type 0} → Reader A → Reader B → Reader (A × B)
both p q ts = p ts >>= λ a. q a.1 >>= λ b. Ok ((a.0, b.0), b.1)

-- a part after a word
unfoldable pub preceded : {A : Type 0} → Keyword → Reader A → Reader A
preceded w p ts = word_from w ts >>= p

-- a part after a mark
unfoldable pub after_mark : {A : Type 0} → Kind → Reader A → Reader A
after_mark m p ts = mark_from m ts >>= p

-- a part with a mark after it
unfoldable pub before_mark : {A : Type 0} → Kind → Reader A → Reader A
before_mark m p ts = p ts >>= λ a. mark_from m a.1 >>= λ rest. Ok (a.0, rest)

-- a part after a word that may be left out
unfoldable pub optionally : {A : Type 0} → Keyword → Reader A → Reader A
optionally w p ts = p (optional_from w ts)

-- a part with a word after it that may be left out
unfoldable pub trailed : {A : Type 0} → Keyword → Reader A → Reader A
trailed w p ts = p ts >>= λ a. Ok (a.0, optional_from w a.1)

abbrev pub choose_by : {A : Type 0} → Reader A → Reader A → List Symbol → Option (List Symbol) → Read A
choose_by p q ts (Some rest) = p rest
choose_by p q ts None = q ts

-- the first part after a word, where the word comes next, else the second
unfoldable pub choose : {A : Type 0} → Keyword → Reader A → Reader A → Reader A
choose w p q ts = choose_by p q ts (after_word w ts)

-- the first part after a comma, where it comes next, else the second
unfoldable pub choose_comma : {A : Type 0} → Reader A → Reader A → Reader A
choose_comma p q ts = choose_by p q ts (after_comma ts)

-- a part after a word, where the word comes next
unfoldable pub maybe : {A : Type 0} → Keyword → Reader A → Reader (Option A)
maybe w p = choose w (made Some p) (yields None)

abbrev pub next_by : {A : Type 0} → (List A → Reader (List A)) → List A → List Symbol → Option (List Symbol) → Read (List A)
next_by go found ts (Some rest) = go found rest
next_by go found ts None = Ok (found, ts)

-- items with commas between, after those that are found; the number bounds the turns
unfoldable pub listed_upto : {A : Type 0} → Reader A → ℕ → List A → Reader (List A)
listed_upto p zero found ts = fail ts
listed_upto p (suc n) found ts = p ts >>= λ a. next_by (listed_upto p n) (found ++ a.0 ∷ []) a.1 (after_comma a.1)

-- one or more items with commas between
unfoldable pub listed : {A : Type 0} → Reader A → Reader (List A)
listed p ts = listed_upto p (length ts) [] ts

abbrev pub more_by : {A : Type 0} → (List A → Reader (List A)) → List A → Option A → List Symbol → Read (List A)
more_by go found (Some a) rest = go (found ++ a ∷ []) rest
more_by go found None rest = Ok (found, rest)

-- items one after another, after those that are found; the number bounds the turns
unfoldable pub many_upto : {A : Type 0} → Reader (Option A) → ℕ → List A → Reader (List A)
many_upto p zero found ts = Ok (found, ts)
many_upto p (suc n) found ts = p ts >>= λ a. more_by (many_upto p n) found a.0 a.1

-- items one after another, as many as there are
unfoldable pub many : {A : Type 0} → Reader (Option A) → Reader (List A)
many p ts = many_upto p (length ts) [] ts

abbrev pub limited_by : {A : Type 0} → A × List Symbol → Bool → Read A
limited_by a true = Ok a
limited_by a false = Err TooLong

-- a part that fits
unfoldable pub limited : {A : Type 0} → (A → Bool) → Reader A → Reader A
limited fits p ts = p ts >>= λ a. limited_by a (fits a.0)
