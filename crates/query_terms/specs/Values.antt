-- What an expression means once its names are known: a value, or the first refusal (SQL As Understood By SQLite, "SQL Language Expressions").
use Rattle.std.specs.Prelude.{ℕ, zero, ◌+◌, Bool, true, false, not, ◌&&◌, ◌||◌, List, [], ◌∷◌, ◌++◌, map, length, ℤ, pos, neg_ℤ, ◌+ℤ◌, ◌-ℤ◌, ◌*ℤ◌, int_lt, int_div, int_rem, Option, Some, None, Ok, Err, if◌then◌else◌, nat_lt, ◌==◌, codes, slice_get, unwrap_or, count_by, filter}
use Rattle.std.specs.List.{before_first}
use Rattle.std.specs.declared.cmp.Ordering.{Ordering}
use Rattle.std.specs.Ordering.{is_lt, is_gt, is_le, is_ge, is_eq, is_ne}
use Rattle.std.specs.Char.{to_ascii_lowercase, to_ascii_uppercase}
use Rattle.std.specs.Fmt.{signed_decimal}
use Rattle.sqlval.specs.Conversion.{word, converted}
use Rattle.sqlval.specs.Order.{order}
use Rattle.sqlval.specs.Refusals.{Answer, Refusal, Raised, RaisedRollback, TypeRefused, TooLong, ◌then◌, all_answers}
use Rattle.sqlval.specs.declared.affinity.Affinity.{Affinity}
use Rattle.sqlval.specs.declared.affinity.Affinity.TheVariants as kind
use Rattle.sqlval.specs.declared.collation.Collation.{Collation}
use Rattle.sqlval.specs.declared.collation.Collation.TheVariants.{Binary}
use Rattle.sqlval.specs.declared.value.Value.{Value}
use Rattle.sqlval.specs.declared.value.Value.TheVariants.{Null, Int, Text, Blob}
use Rattle.sql_syntax.specs.declared.expr.RaiseAction.{RaiseAction}
use Rattle.sql_syntax.specs.declared.expr.RaiseAction.TheVariants.{Abort, Rollback}
use Rattle.query_terms.specs.Terms.{Term, Terms, Const, Digits, Cell, Key, Apply, Total, One, Two, Collate, In, Between, Raise, End, More, affinity, collation, collation_of_two}
use Rattle.query_terms.specs.declared.tree.Comparison.{Comparison}
use Rattle.query_terms.specs.declared.tree.Comparison.TheVariants.{Equal, NotEqual, Less, LessOrEqual, Greater, GreaterOrEqual}
use Rattle.query_terms.specs.declared.tree.Arithmetic.{Arithmetic}
use Rattle.query_terms.specs.declared.tree.Arithmetic.TheVariants.{Add, Subtract, Multiply, Divide, Remainder}
use Rattle.query_terms.specs.declared.tree.OneSided.{OneSided}
use Rattle.query_terms.specs.declared.tree.OneSided.TheVariants.{Negated, Not}
use Rattle.query_terms.specs.declared.tree.TwoSided.{TwoSided}
use Rattle.query_terms.specs.declared.tree.TwoSided.TheVariants.{Compare, Calculate, Is, IsNot, And, Or, Concatenate}
use Rattle.query_terms.specs.declared.tree.Place.{Place}
use Rattle.query_terms.specs.declared.tree.Place.TheVariants.{RowId, At}
use Rattle.query_terms.specs.declared.tree.Function.{Function}
use Rattle.query_terms.specs.declared.tree.Function.TheVariants.{Abs, Coalesce, Length, Lower, Upper, TypeOf}
use Rattle.query_terms.specs.declared.tree.Aggregate.{Aggregate}
use Rattle.query_terms.specs.declared.tree.Aggregate.TheVariants.{CountAll, Count, Sum, Min, Max}

-- ---- comparison (Datatypes In SQLite, "Comparison Expressions")

-- INTEGER or NUMERIC
abbrev pub is_numeric : Option Affinity → Bool
is_numeric (Some kind.Integer) = true
is_numeric (Some kind.Numeric) = true
is_numeric _ = false

-- what is applied to a side of affinity a beside one of affinity b
abbrev pub conversion : Option Affinity → Option Affinity → Affinity
conversion None (Some kind.Text) = kind.Text
conversion a b = if is_numeric b && not (is_numeric a) then kind.Numeric else kind.Blob

-- both values as they are compared
abbrev pub both_converted : Option Affinity → Option Affinity → Value → Value → Answer (Value × Value)
both_converted a b v w = converted (conversion a b) v then λ v'. converted (conversion b a) w then λ w'. Ok (v', w')

-- whether an order is such as a comparison asks
abbrev pub is_met : Comparison → Ordering → Bool
is_met Equal o = is_eq o
is_met NotEqual o = is_ne o
is_met Less o = is_lt o
is_met LessOrEqual o = is_le o
is_met Greater o = is_gt o
is_met GreaterOrEqual o = is_ge o

-- 1 or 0
abbrev pub of_bool : Bool → Value
of_bool b = Int (pos (if b then 1 else 0))

-- 1, 0, or NULL beside a NULL
abbrev pub compared : Comparison → Collation → Value → Value → Value
compared o c Null w = Null
compared o c v Null = Null
compared o c v w = of_bool (is_met o (order c v w))

-- the two values compared after their conversion
abbrev pub compare : Comparison → Collation → Option Affinity → Option Affinity → Value → Value → Answer Value
compare o c a b v w = both_converted a b v w then λ p. Ok (compared o c p.0 p.1)

-- whether two values are one after their conversion; NULL is NULL
abbrev pub same : Collation → Option Affinity → Option Affinity → Value → Value → Answer Bool
same c a b v w = both_converted a b v w then λ p. Ok (is_eq (order c p.0 p.1))

-- ---- truth

-- of an integer, whether it is other than 0; NULL has none, and texts and blobs are refused
abbrev pub truth : Value → Answer (Option Bool)
truth Null = Ok None
truth (Int (pos zero)) = Ok (Some false)
truth (Int z) = Ok (Some true)
truth _ = Err TypeRefused

-- 1, 0 or NULL
abbrev pub of_truth : Option Bool → Value
of_truth None = Null
of_truth (Some b) = of_bool b

-- NOT
abbrev pub negated : Value → Answer Value
negated v = truth v then λ t. elim t [ None ↦ Ok Null | Some b ↦ Ok (of_bool (not b)) ]

-- the second side, where the first does not decide
abbrev pub both_hold : Option Bool → Option Bool → Option Bool
both_hold (Some true) t = t
both_hold (Some false) t = Some false
both_hold None (Some false) = Some false
both_hold None _ = None

-- the second side of OR, where the first does not decide
abbrev pub one_holds : Option Bool → Option Bool → Option Bool
one_holds (Some false) t = t
one_holds (Some true) t = Some true
one_holds None (Some true) = Some true
one_holds None _ = None

-- ---- numbers

-- a result outside 64 bits is refused; what is divided by 0 is NULL
abbrev pub arithmetic : Arithmetic → ℤ → ℤ → Answer Value
arithmetic Add x y = word (x +ℤ y)
arithmetic Subtract x y = word (x -ℤ y)
arithmetic Multiply x y = word (x *ℤ y)
arithmetic Divide x (pos zero) = Ok Null
arithmetic Divide x y = word (int_div x y)
arithmetic Remainder x (pos zero) = Ok Null
arithmetic Remainder x y = word (int_rem x y)

-- a text or a blob is refused before NULL is looked for
abbrev pub on_numbers : (ℤ → ℤ → Answer Value) → Value → Value → Answer Value
on_numbers f (Int x) (Int y) = f x y
on_numbers f Null Null = Ok Null
on_numbers f Null (Int y) = Ok Null
on_numbers f (Int x) Null = Ok Null
on_numbers f _ _ = Err TypeRefused

-- the same of one operand
abbrev pub on_number : (ℤ → Answer Value) → Value → Answer Value
on_number f Null = Ok Null
on_number f (Int x) = f x
on_number f _ = Err TypeRefused

abbrev pub absolute : ℤ → Answer Value
absolute z = word (if int_lt z (pos 0) then neg_ℤ z else z)

-- ---- texts

-- the bytes of what `||` and the letters' functions take; none for NULL
abbrev pub as_text : Value → Answer (Option (List ℕ))
as_text Null = Ok None
as_text (Int z) = Ok (Some (signed_decimal z))
as_text (Text t) = Ok (Some t)
as_text (Blob b) = Err TypeRefused

abbrev pub joined : Option (List ℕ) → Option (List ℕ) → Answer Value
joined (Some s) (Some t) = if nat_lt 1000000 (length s + length t) then Err TooLong else Ok (Text (s ++ t))
joined _ _ = Ok Null

-- `||`
abbrev pub concat : Value → Value → Answer Value
concat v w = as_text v then λ s. as_text w then λ t. joined s t

abbrev pub on_text : (List ℕ → List ℕ) → Value → Answer Value
on_text f v = as_text v then λ s. elim s [ None ↦ Ok Null | Some t ↦ Ok (Text (f t)) ]

-- a byte that begins a character
abbrev pub begins_char : ℕ → Bool
begins_char c = nat_lt c 128 || nat_lt 191 c

-- a text's characters before a NUL, a blob's bytes (Built-In Scalar SQL Functions, "length")
abbrev pub length_of : Value → Answer Value
length_of Null = Ok Null
length_of (Int z) = Ok (Int (pos (length (signed_decimal z))))
length_of (Text t) = Ok (Int (pos (count_by begins_char (before_first (λ c. c == 0) t))))
length_of (Blob b) = Ok (Int (pos (length b)))

-- what typeof gives
abbrev pub type_name : Value → List ℕ
type_name Null = codes "null"
type_name (Int z) = codes "integer"
type_name (Text t) = codes "text"
type_name (Blob b) = codes "blob"

-- ---- aggregates (Built-in Aggregate Functions), over the values of a group's rows in order

abbrev pub is_null : Value → Bool
is_null Null = true
is_null _ = false

-- an integer, and 0 for any other value
abbrev pub number_in : Value → ℤ
number_in (Int z) = z
number_in _ = pos 0

-- the sum of all integers
abbrev pub total : List Value → ℤ
total [] = pos 0
total (v ∷ vs) = number_in v +ℤ total vs

-- the first of those that none is before
abbrev pub best : (Ordering → Bool) → Collation → List Value → Value
best before c [] = Null
best before c (v ∷ vs) = choose (best before c vs)
  where
    choose : Value → Value
    choose Null = v
    choose w = if before (order c w v) then w else v

-- an aggregate's argument at a row
abbrev pub counted : Aggregate → Value → Answer Value
counted Sum (Text t) = Err TypeRefused
counted Sum (Blob b) = Err TypeRefused
counted g v = Ok v

-- what an aggregate gives over its arguments in the order of their rows
abbrev pub aggregated : Aggregate → Collation → List Value → Answer Value
aggregated CountAll c vs = word (pos (length vs))
aggregated Count c vs = word (pos (count_by (λ v. not (is_null v)) vs))
aggregated Sum c vs = if count_by (λ v. not (is_null v)) vs == 0 then Ok Null else word (total vs)
aggregated Min c vs = Ok (best is_lt c (filter (λ v. not (is_null v)) vs))
aggregated Max c vs = Ok (best is_gt c (filter (λ v. not (is_null v)) vs))

-- ---- the value of a term

-- A row of a source: its rowid, NULL where it has none, and its values.
pub record Row : Type 0 where
  pub rowid : Value
  pub values : List Value

-- what a term is evaluated over
pub record Environment : Type 0 where
  -- the row of each source
  pub rows : List Row
  -- in a query with groups: the rows of the group, and its keys
  pub group : List (List Row)
  pub keys : List Value

abbrev pub at_row : Option Row → Place → Value
at_row None p = Null
at_row (Some r) RowId = r.rowid
at_row (Some r) (At i) = unwrap_or (slice_get r.values i) Null

-- a source's value at a place, NULL where the source has no row
abbrev pub cell : Environment → ℕ → Place → Value
cell env s p = at_row (slice_get env.rows s) p

-- where the first side decides, the second isn't met
abbrev pub and_after : Option Bool → Answer Value → Answer Value
and_after (Some false) b = Ok (of_bool false)
and_after t b = b then λ w. truth w then λ u. Ok (of_truth (both_hold t u))

-- the same of OR
abbrev pub or_after : Option Bool → Answer Value → Answer Value
or_after (Some true) b = Ok (of_bool true)
or_after t b = b then λ w. truth w then λ u. Ok (of_truth (one_holds t u))

-- AND, with what the second side would answer
abbrev pub and_also : Value → Answer Value → Answer Value
and_also v b = truth v then λ t. and_after t b

-- OR, with what the second side would answer
abbrev pub or_else : Value → Answer Value → Answer Value
or_else v b = truth v then λ t. or_after t b

-- the refusal that RAISE is (SQL As Understood By SQLite, "CREATE TRIGGER", "The RAISE() function")
abbrev pub raised : RaiseAction → List ℕ → Refusal
raised Abort t = Raised t
raised Rollback t = RaisedRollback t

abbrev pub applied_to_one : Function → Value → Answer Value
applied_to_one Abs v = on_number absolute v
applied_to_one Length v = length_of v
applied_to_one Lower v = on_text (map to_ascii_lowercase) v
applied_to_one Upper v = on_text (map to_ascii_uppercase) v
applied_to_one TypeOf v = Ok (Text (type_name v))
applied_to_one Coalesce v = Ok v

-- `>= .. AND <= ..`
abbrev pub between : Term → Term → Term → Value → Answer Value → Answer Value → Answer Value
between a b c v low high =
    low then λ w. compare GreaterOrEqual (collation_of_two a b) (affinity a) (affinity b) v w
    then λ t. and_also t (high then λ u. compare LessOrEqual (collation_of_two a c) (affinity a) (affinity c) v u)

-- under NOT, where the flag is true
abbrev pub turned : Bool → Value → Answer Value
turned true v = negated v
turned false v = Ok v

abbrev of_one : OneSided → Value → Answer Value
of_one Negated v = on_number (λ z. word (neg_ℤ z)) v
of_one Not v = negated v

-- how two terms are compared: the collation, and the affinity of each
abbrev pub compared_as : Comparison → Term → Term → Value → Value → Answer Value
compared_as o a b = compare o (collation_of_two a b) (affinity a) (affinity b)

-- whether two terms are one, by IS
abbrev pub same_as : Term → Term → Value → Value → Answer Bool
same_as a b = same (collation_of_two a b) (affinity a) (affinity b)

-- the first side's value, and what the second answers
abbrev pub of_two : TwoSided → Term → Term → Value → Answer Value → Answer Value
of_two And a b v second = and_also v second
of_two Or a b v second = or_else v second
of_two Concatenate a b v second = second then concat v
of_two (Calculate o) a b v second = second then on_numbers (arithmetic o) v
of_two (Compare o) a b v second = second then compared_as o a b v
of_two Is a b v second = second then λ w. same_as a b v w then λ t. Ok (of_bool t)
of_two IsNot a b v second = second then λ w. same_as a b v w then λ t. Ok (of_bool (not t))

abbrev mutual
  pub value : Term → Environment → Answer Value
  value (Const v) env = Ok v
  value (Digits n) env = word (pos n)
  value (Cell s p a c) env = Ok (cell env s p)
  value (Key k e) env = Ok (unwrap_or (slice_get env.keys k) Null)
  value (Apply Coalesce es) env = first_value es env
  value (Apply f es) env = value_of_one es env then applied_to_one f
  value (Total CountAll e) env = aggregated CountAll Binary (map (λ r. Null) env.group)
  value (Total g e) env = all_answers (map (λ rows. value e (record { rows = rows; group = []; keys = [] })) env.group) then aggregated g (collation e)
  value (One Negated (Digits n)) env = word (neg_ℤ (pos n))
  value (One o e) env = value e env then of_one o
  value (Two o a b) env = value a env then λ v. of_two o a b v (value b env)
  value (Collate c e) env = value e env
  value (In n a bs) env = value a env then λ v. value_among a v bs env then turned n
  value (Between n a b c) env = value a env then λ v. between a b c v (value b env) (value c env) then turned n
  value (Raise k t) env = Err (raised k t)

  -- the first that isn't NULL
  pub first_value : Terms → Environment → Answer Value
  first_value End env = Ok Null
  first_value (More e es) env = value e env then elim [ Null ↦ first_value es env | v ↦ Ok v ]

  pub value_of_one : Terms → Environment → Answer Value
  value_of_one End env = Ok Null
  value_of_one (More e es) env = value e env

  -- `x = y OR ..`, the right sides without affinity and collation
  pub value_among : Term → Value → Terms → Environment → Answer Value
  value_among a v End env = Ok (of_bool false)
  value_among a v (More e es) env = value e env then λ w. compare Equal (collation a) (affinity a) None v w then λ t. or_else t (value_among a v es env)
