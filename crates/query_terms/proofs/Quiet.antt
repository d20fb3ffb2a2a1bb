-- No value is refused for a disk.
use Rattle.std.proofs.Common.{◌≡◌, subst, sym, ℕ, zero, suc, Bool, true, false, cond, List, [], ◌∷◌, ◌++◌, map, Ok, Err}
use Rattle.std.specs.Prelude.{ℤ, pos, negsuc, neg_ℤ, ◌+ℤ◌, ◌-ℤ◌, ◌*ℤ◌, int_lt, int_div, int_rem, Option, Some, None, if◌then◌else◌, nat_lt, ◌==◌, ◌+◌, length, not, count_by}
use Rattle.std.specs.Char.{to_ascii_lowercase, to_ascii_uppercase}
use Rattle.std.specs.Ordering.{is_eq}
use Rattle.sqlval.specs.Order.{order}
use Rattle.sqlval.specs.Conversion.{converted, is_word, to_number, whole, word}
use Rattle.sqlval.specs.Affinity.{is_number}
use Rattle.sqlval.specs.Faults.{IsNotDiskFault}
use Rattle.sqlval.specs.Refusals.{Answer, Refusal, Io, Full, RealRefused, TooLong, ◌then◌, all_answers, refusal_of}
use Rattle.sqlval.specs.declared.affinity.Affinity.{Affinity}
use Rattle.sqlval.specs.declared.affinity.Affinity.TheVariants as kind
use Rattle.sqlval.specs.declared.collation.Collation.{Collation}
use Rattle.sqlval.specs.declared.fault.Fault.{Fault}
use Rattle.sqlval.specs.declared.fault.Fault.TheVariants as fault
use Rattle.sqlval.specs.declared.value.Value.{Value}
use Rattle.sqlval.specs.declared.value.Value.TheVariants.{Null, Int, Text, Blob}
use Rattle.sql_syntax.specs.declared.expr.RaiseAction.TheVariants.{Abort, Rollback}
use Rattle.query_terms.specs.Terms.{Term, Terms, Const, Digits, Cell, Key, Apply, Total, One, Two, Collate, In, Between, Raise, End, More, affinity, collation, collation_of_two}
use Rattle.query_terms.specs.Values as meant
use Rattle.query_terms.specs.Values.{Row, Environment, value, first_value, value_of_one, value_among, truth}
use Rattle.query_terms.specs.declared.tree.Aggregate.{Aggregate}
use Rattle.query_terms.specs.declared.tree.Aggregate.TheVariants.{CountAll, Count, Sum, Min, Max}
use Rattle.query_terms.specs.declared.tree.Arithmetic.{Arithmetic}
use Rattle.query_terms.specs.declared.tree.Arithmetic.TheVariants.{Add, Subtract, Multiply, Divide, Remainder}
use Rattle.query_terms.specs.declared.tree.Comparison.{Comparison}
use Rattle.query_terms.specs.declared.tree.Comparison.TheVariants.{Equal, LessOrEqual, GreaterOrEqual}
use Rattle.query_terms.specs.declared.tree.Function.{Function}
use Rattle.query_terms.specs.declared.tree.Function.TheVariants.{Abs, Coalesce, Length, Lower, Upper, TypeOf}
use Rattle.query_terms.specs.declared.tree.OneSided.TheVariants.{Negated, Not}
use Rattle.query_terms.specs.declared.tree.TwoSided.{TwoSided}
use Rattle.query_terms.specs.declared.tree.TwoSided.TheVariants.{Compare, Calculate, Is, IsNot, And, Or, Concatenate}

abbrev pub Quiet : Refusal → Type 0
Quiet Io = ⊥
Quiet Full = ⊥
Quiet _ = Unit {0}

abbrev pub IsQuiet : {A : Type 0} → Answer A → Type 0
IsQuiet (Ok x) = Unit {0}
IsQuiet (Err r) = Quiet r

pub next : {A B : Type 0} (a : Answer A) (k : A → Answer B) → IsQuiet a → ((x : A) → IsQuiet (k x)) → IsQuiet (a then k)
next (Ok x) k h l = l x
next (Err r) k h l = h

pub each : {A B : Type 0} (f : A → Answer B) → ((x : A) → IsQuiet (f x)) → (xs : List A) → IsQuiet (all_answers (map f xs))
each f h [] = tt
each f h (x ∷ xs) = next (f x) (λ y. all_answers (map f xs) then λ ys. Ok (y ∷ ys)) (h x) (λ y. next (all_answers (map f xs)) (λ ys. Ok (y ∷ ys)) (each f h xs) (λ ys. tt))

-- ---- values

of_word : (z : ℤ) → IsQuiet (word z)
of_word z = by (is_word z)
  where
    by : (b : Bool) → IsQuiet {A = Value} (cond b (Ok (Int z)) (Err RealRefused))
    by true = tt
    by false = tt

of_number : (t : List ℕ) (o : Option ℤ) → IsQuiet (to_number t o)
of_number t (Some n) = of_word n
of_number t None = by (is_number t)
  where
    by : (b : Bool) → IsQuiet {A = Value} (cond b (Err RealRefused) (Ok (Text t)))
    by true = tt
    by false = tt

pub of_converted : (a : Affinity) (v : Value) → IsQuiet (converted a v)
of_converted kind.Blob Null = tt
of_converted kind.Blob (Int z) = tt
of_converted kind.Blob (Text t) = tt
of_converted kind.Blob (Blob b) = tt
of_converted kind.Text Null = tt
of_converted kind.Text (Int z) = tt
of_converted kind.Text (Text t) = tt
of_converted kind.Text (Blob b) = tt
of_converted kind.Numeric Null = tt
of_converted kind.Numeric (Int z) = tt
of_converted kind.Numeric (Text t) = of_number t (whole t)
of_converted kind.Numeric (Blob b) = tt
of_converted kind.Integer Null = tt
of_converted kind.Integer (Int z) = tt
of_converted kind.Integer (Text t) = of_number t (whole t)
of_converted kind.Integer (Blob b) = tt

of_both : (a b : Option Affinity) (v w : Value) → IsQuiet (meant.both_converted a b v w)
of_both a b v w =
    next (converted (meant.conversion a b) v) (λ v'. converted (meant.conversion b a) w then λ w'. Ok (v', w')) (of_converted (meant.conversion a b) v)
    (λ v'. next (converted (meant.conversion b a) w) (λ w'. Ok (v', w')) (of_converted (meant.conversion b a) w) (λ w'. tt))

of_comparison : (o : Comparison) (c : Collation) (a b : Option Affinity) (v w : Value) → IsQuiet (meant.compare o c a b v w)
of_comparison o c a b v w = next (meant.both_converted a b v w) (λ p. Ok (meant.compared o c p.0 p.1)) (of_both a b v w) (λ p. tt)

of_sameness : (c : Collation) (a b : Option Affinity) (v w : Value) → IsQuiet (meant.same c a b v w)
of_sameness c a b v w = by (meant.both_converted a b v w) (of_both a b v w)
  where
    by : (x : Answer (Value × Value)) → IsQuiet x → IsQuiet (x then λ p. Ok (is_eq (order c p.0 p.1)))
    by (Ok p) h = tt
    by (Err r) h = h

pub of_test : (v : Value) → IsQuiet (truth v)
of_test Null = tt
of_test (Int (pos zero)) = tt
of_test (Int (pos (suc n))) = tt
of_test (Int (negsuc n)) = tt
of_test (Text t) = tt
of_test (Blob b) = tt

of_negated : (v : Value) → IsQuiet (meant.negated v)
of_negated v = next (truth v) (λ t. elim t [ None ↦ Ok Null | Some b ↦ Ok (meant.of_bool (not b)) ]) (of_test v) by
  where
    by : (t : Option Bool) → IsQuiet {A = Value} (elim t [ None ↦ Ok Null | Some b ↦ Ok (meant.of_bool (not b)) ])
    by None = tt
    by (Some b) = tt

of_turned : (n : Bool) (v : Value) → IsQuiet (meant.turned n v)
of_turned true v = of_negated v
of_turned false v = tt

of_numbers : (f : ℤ → ℤ → Answer Value) → ((x y : ℤ) → IsQuiet (f x y)) → (v w : Value) → IsQuiet (meant.on_numbers f v w)
of_numbers f h Null Null = tt
of_numbers f h Null (Int y) = tt
of_numbers f h Null (Text u) = tt
of_numbers f h Null (Blob c) = tt
of_numbers f h (Int x) Null = tt
of_numbers f h (Int x) (Int y) = h x y
of_numbers f h (Int x) (Text u) = tt
of_numbers f h (Int x) (Blob c) = tt
of_numbers f h (Text t) Null = tt
of_numbers f h (Text t) (Int y) = tt
of_numbers f h (Text t) (Text u) = tt
of_numbers f h (Text t) (Blob c) = tt
of_numbers f h (Blob b) Null = tt
of_numbers f h (Blob b) (Int y) = tt
of_numbers f h (Blob b) (Text u) = tt
of_numbers f h (Blob b) (Blob c) = tt

of_one_number : (f : ℤ → Answer Value) → ((x : ℤ) → IsQuiet (f x)) → (v : Value) → IsQuiet (meant.on_number f v)
of_one_number f h Null = tt
of_one_number f h (Int x) = h x
of_one_number f h (Text t) = tt
of_one_number f h (Blob b) = tt

of_arithmetic : (o : Arithmetic) (x y : ℤ) → IsQuiet (meant.arithmetic o x y)
of_arithmetic Add x y = of_word (x +ℤ y)
of_arithmetic Subtract x y = of_word (x -ℤ y)
of_arithmetic Multiply x y = of_word (x *ℤ y)
of_arithmetic Divide x (pos zero) = tt
of_arithmetic Divide x (pos (suc n)) = of_word (int_div x (pos (suc n)))
of_arithmetic Divide x (negsuc n) = of_word (int_div x (negsuc n))
of_arithmetic Remainder x (pos zero) = tt
of_arithmetic Remainder x (pos (suc n)) = of_word (int_rem x (pos (suc n)))
of_arithmetic Remainder x (negsuc n) = of_word (int_rem x (negsuc n))

of_as_text : (v : Value) → IsQuiet (meant.as_text v)
of_as_text Null = tt
of_as_text (Int z) = tt
of_as_text (Text t) = tt
of_as_text (Blob b) = tt

of_joined : (s t : Option (List ℕ)) → IsQuiet (meant.joined s t)
of_joined None None = tt
of_joined None (Some t) = tt
of_joined (Some s) None = tt
of_joined (Some s) (Some t) = by (nat_lt 1000000 (length s + length t))
  where
    by : (b : Bool) → IsQuiet {A = Value} (cond b (Err TooLong) (Ok (Text (s ++ t))))
    by true = tt
    by false = tt

of_concat : (v w : Value) → IsQuiet (meant.concat v w)
of_concat v w = next (meant.as_text v) (λ s. meant.as_text w then λ t. meant.joined s t) (of_as_text v) (λ s. next (meant.as_text w) (λ t. meant.joined s t) (of_as_text w) (λ t. of_joined s t))

of_text : (f : List ℕ → List ℕ) (v : Value) → IsQuiet (meant.on_text f v)
of_text f Null = tt
of_text f (Int z) = tt
of_text f (Text t) = tt
of_text f (Blob b) = tt

of_length : (v : Value) → IsQuiet (meant.length_of v)
of_length Null = tt
of_length (Int z) = tt
of_length (Text t) = tt
of_length (Blob b) = tt

of_function : (f : Function) (v : Value) → IsQuiet (meant.applied_to_one f v)
of_function Abs v = of_one_number meant.absolute (λ z. of_word (if int_lt z (pos 0) then neg_ℤ z else z)) v
of_function Coalesce v = tt
of_function Length v = of_length v
of_function Lower v = of_text (map to_ascii_lowercase) v
of_function Upper v = of_text (map to_ascii_uppercase) v
of_function TypeOf v = tt

pub of_counted : (g : Aggregate) (v : Value) → IsQuiet (meant.counted g v)
of_counted CountAll Null = tt
of_counted CountAll (Int z) = tt
of_counted CountAll (Text t) = tt
of_counted CountAll (Blob b) = tt
of_counted Count Null = tt
of_counted Count (Int z) = tt
of_counted Count (Text t) = tt
of_counted Count (Blob b) = tt
of_counted Sum Null = tt
of_counted Sum (Int z) = tt
of_counted Sum (Text t) = tt
of_counted Sum (Blob b) = tt
of_counted Min Null = tt
of_counted Min (Int z) = tt
of_counted Min (Text t) = tt
of_counted Min (Blob b) = tt
of_counted Max Null = tt
of_counted Max (Int z) = tt
of_counted Max (Text t) = tt
of_counted Max (Blob b) = tt

of_aggregated : (g : Aggregate) (c : Collation) (vs : List Value) → IsQuiet (meant.aggregated g c vs)
of_aggregated CountAll c vs = of_word (pos (length vs))
of_aggregated Count c vs = of_word (pos (count_by (λ v. not (meant.is_null v)) vs))
of_aggregated Sum c vs = by (count_by (λ v. not (meant.is_null v)) vs == 0)
  where
    by : (b : Bool) → IsQuiet (cond b (Ok Null) (word (meant.total vs)))
    by true = tt
    by false = of_word (meant.total vs)
of_aggregated Min c vs = tt
of_aggregated Max c vs = tt

truth_after : (b : Answer Value) (f : Option Bool → Value) → IsQuiet b → IsQuiet (b then λ w. truth w then λ u. let l : Answer Value = Ok (f u) in l)
truth_after b f h = next b (λ w. truth w then λ u. Ok (f u)) h (λ w. next (truth w) (λ u. Ok (f u)) (of_test w) (λ u. tt))

of_and : (t : Option Bool) (b : Answer Value) → IsQuiet b → IsQuiet (meant.and_after t b)
of_and None b h = truth_after b (λ u. meant.of_truth (meant.both_hold None u)) h
of_and (Some false) b h = tt
of_and (Some true) b h = truth_after b (λ u. meant.of_truth (meant.both_hold (Some true) u)) h

of_or : (t : Option Bool) (b : Answer Value) → IsQuiet b → IsQuiet (meant.or_after t b)
of_or None b h = truth_after b (λ u. meant.of_truth (meant.one_holds None u)) h
of_or (Some true) b h = tt
of_or (Some false) b h = truth_after b (λ u. meant.of_truth (meant.one_holds (Some false) u)) h

and_also : (v : Value) (b : Answer Value) → IsQuiet b → IsQuiet (meant.and_also v b)
and_also v b h = next (truth v) (λ t. meant.and_after t b) (of_test v) (λ t. of_and t b h)

or_else : (v : Value) (b : Answer Value) → IsQuiet b → IsQuiet (meant.or_else v b)
or_else v b h = next (truth v) (λ t. meant.or_after t b) (of_test v) (λ t. of_or t b h)

of_between : (a b c : Term) (v : Value) (low high : Answer Value) → IsQuiet low → IsQuiet high → IsQuiet (meant.between a b c v low high)
of_between a b c v low high h k =
    next low (λ w. meant.compare GreaterOrEqual (collation_of_two a b) (affinity a) (affinity b) v w then λ t. meant.and_also t (high then λ u. meant.compare LessOrEqual (collation_of_two a c) (affinity a) (affinity c) v u)) h (λ w.
    next (meant.compare GreaterOrEqual (collation_of_two a b) (affinity a) (affinity b) v w) (λ t. meant.and_also t (high then λ u. meant.compare LessOrEqual (collation_of_two a c) (affinity a) (affinity c) v u))
    (of_comparison GreaterOrEqual (collation_of_two a b) (affinity a) (affinity b) v w) (λ t.
    and_also t (high then λ u. meant.compare LessOrEqual (collation_of_two a c) (affinity a) (affinity c) v u)
    (next high (λ u. meant.compare LessOrEqual (collation_of_two a c) (affinity a) (affinity c) v u) k (λ u. of_comparison LessOrEqual (collation_of_two a c) (affinity a) (affinity c) v u))))

of_two : (o : TwoSided) (a b : Term) (v : Value) (second : Answer Value) → IsQuiet second → IsQuiet (meant.of_two o a b v second)
of_two And a b v second h = and_also v second h
of_two Or a b v second h = or_else v second h
of_two Concatenate a b v second h = next second (meant.concat v) h (λ w. of_concat v w)
of_two (Calculate o) a b v second h = next second (meant.on_numbers (meant.arithmetic o) v) h (λ w. of_numbers (meant.arithmetic o) (of_arithmetic o) v w)
of_two (Compare o) a b v second h = next second (meant.compared_as o a b v) h (λ w. of_comparison o (collation_of_two a b) (affinity a) (affinity b) v w)
of_two Is a b v second h =
    next second (λ w. meant.same_as a b v w then λ t. Ok (meant.of_bool t)) h (λ w. next (meant.same_as a b v w) (λ t. Ok (meant.of_bool t)) (of_sameness (collation_of_two a b) (affinity a) (affinity b) v w) (λ t. tt))
of_two IsNot a b v second h =
    next second (λ w. meant.same_as a b v w then λ t. Ok (meant.of_bool (not t))) h (λ w. next (meant.same_as a b v w) (λ t. Ok (meant.of_bool (not t))) (of_sameness (collation_of_two a b) (affinity a) (affinity b) v w) (λ t. tt))

minus : (a : Answer Value) → IsQuiet a → IsQuiet (a then meant.on_number (λ z. word (neg_ℤ z)))
minus a h = next a (meant.on_number (λ z. word (neg_ℤ z))) h (λ v. of_one_number (λ z. word (neg_ℤ z)) (λ z. of_word (neg_ℤ z)) v)

over_group : (g : Aggregate) (c : Collation) (f : List Row → Answer Value) → ((rows : List Row) → IsQuiet (f rows)) → (group : List (List Row)) → IsQuiet (all_answers (map f group) then meant.aggregated g c)
over_group g c f h group = next (all_answers (map f group)) (meant.aggregated g c) (each f h group) (λ vs. of_aggregated g c vs)

first_or : (a rest : Answer Value) → IsQuiet a → IsQuiet rest → IsQuiet (a then elim [ Null ↦ rest | v ↦ Ok v ])
first_or (Ok Null) rest h k = k
first_or (Ok (Int z)) rest h k = tt
first_or (Ok (Text t)) rest h k = tt
first_or (Ok (Blob b)) rest h k = tt
first_or (Err r) rest h k = h

abbrev alone : List Row → Environment
alone rows = record { rows = rows; group = []; keys = [] }

mutual
  pub of_value : (t : Term) (env : Environment) → IsQuiet (value t env)
  of_value (Const v) env = tt
  of_value (Digits n) env = of_word (pos n)
  of_value (Cell s p a c) env = tt
  of_value (Key k e) env = tt
  of_value (Apply Abs es) env = next (value_of_one es env) (meant.applied_to_one Abs) (of_one_value es env) (λ v. of_function Abs v)
  of_value (Apply Length es) env = next (value_of_one es env) (meant.applied_to_one Length) (of_one_value es env) (λ v. of_function Length v)
  of_value (Apply Lower es) env = next (value_of_one es env) (meant.applied_to_one Lower) (of_one_value es env) (λ v. of_function Lower v)
  of_value (Apply Upper es) env = next (value_of_one es env) (meant.applied_to_one Upper) (of_one_value es env) (λ v. of_function Upper v)
  of_value (Apply TypeOf es) env = next (value_of_one es env) (meant.applied_to_one TypeOf) (of_one_value es env) (λ v. of_function TypeOf v)
  of_value (Apply Coalesce es) env = of_first es env
  of_value (Total CountAll e) env = of_word (pos (length (map (λ r. Null) env.group)))
  of_value (Total Count e) env = over_group Count (collation e) (λ rows. value e (alone rows)) (λ rows. of_value e (alone rows)) env.group
  of_value (Total Sum e) env = over_group Sum (collation e) (λ rows. value e (alone rows)) (λ rows. of_value e (alone rows)) env.group
  of_value (Total Min e) env = over_group Min (collation e) (λ rows. value e (alone rows)) (λ rows. of_value e (alone rows)) env.group
  of_value (Total Max e) env = over_group Max (collation e) (λ rows. value e (alone rows)) (λ rows. of_value e (alone rows)) env.group
  of_value (One Negated (Digits n)) env = of_word (neg_ℤ (pos n))
  of_value (One Negated (Const v)) env = minus (value (Const v) env) (of_value (Const v) env)
  of_value (One Negated (Cell s p a c)) env = minus (value (Cell s p a c) env) (of_value (Cell s p a c) env)
  of_value (One Negated (Key k e)) env = minus (value (Key k e) env) (of_value (Key k e) env)
  of_value (One Negated (Apply f es)) env = minus (value (Apply f es) env) (of_value (Apply f es) env)
  of_value (One Negated (Total g e)) env = minus (value (Total g e) env) (of_value (Total g e) env)
  of_value (One Negated (One o e)) env = minus (value (One o e) env) (of_value (One o e) env)
  of_value (One Negated (Two o a b)) env = minus (value (Two o a b) env) (of_value (Two o a b) env)
  of_value (One Negated (Collate c e)) env = minus (value (Collate c e) env) (of_value (Collate c e) env)
  of_value (One Negated (In n a bs)) env = minus (value (In n a bs) env) (of_value (In n a bs) env)
  of_value (One Negated (Between n a b c)) env = minus (value (Between n a b c) env) (of_value (Between n a b c) env)
  of_value (One Negated (Raise k t)) env = minus (value (Raise k t) env) (of_value (Raise k t) env)
  of_value (One Not e) env = next (value e env) meant.negated (of_value e env) (λ v. of_negated v)
  of_value (Two o a b) env = next (value a env) (λ v. meant.of_two o a b v (value b env)) (of_value a env) (λ v. of_two o a b v (value b env) (of_value b env))
  of_value (Collate c e) env = of_value e env
  of_value (In n a bs) env =
      next (value a env) (λ v. value_among a v bs env then meant.turned n) (of_value a env) (λ v. next (value_among a v bs env) (meant.turned n) (of_among a v bs env) (λ t. of_turned n t))
  of_value (Between n a b c) env =
      next (value a env) (λ v. meant.between a b c v (value b env) (value c env) then meant.turned n) (of_value a env) (λ v.
      next (meant.between a b c v (value b env) (value c env)) (meant.turned n) (of_between a b c v (value b env) (value c env) (of_value b env) (of_value c env)) (λ t. of_turned n t))
  of_value (Raise Abort t) env = tt
  of_value (Raise Rollback t) env = tt

  of_first : (es : Terms) (env : Environment) → IsQuiet (first_value es env)
  of_first End env = tt
  of_first (More e es) env = first_or (value e env) (first_value es env) (of_value e env) (of_first es env)

  of_one_value : (es : Terms) (env : Environment) → IsQuiet (value_of_one es env)
  of_one_value End env = tt
  of_one_value (More e es) env = of_value e env

  of_among : (a : Term) (v : Value) (es : Terms) (env : Environment) → IsQuiet (value_among a v es env)
  of_among a v End env = tt
  of_among a v (More e es) env =
      next (value e env) (λ w. meant.compare Equal (collation a) (affinity a) None v w then λ t. meant.or_else t (value_among a v es env)) (of_value e env) (λ w.
      next (meant.compare Equal (collation a) (affinity a) None v w) (λ t. meant.or_else t (value_among a v es env)) (of_comparison Equal (collation a) (affinity a) None v w) (λ t.
      or_else t (value_among a v es env) (of_among a v es env)))

-- ---- faults

pub memory_is_quiet : (f : Fault) → f ≡ fault.Memory → IsNotDiskFault f
memory_is_quiet f e = subst IsNotDiskFault (sym e) (other fault.Io tt, other fault.Full tt)
  where
    is_memory : Fault → Type 0
    is_memory fault.Memory = ⊥
    is_memory g = Unit {0}

    other : (g : Fault) → is_memory g → fault.Memory ≡ g → ⊥
    other g h k = subst is_memory (sym k) h

pub quiet_fault : (f : Fault) → Quiet (refusal_of f) → IsNotDiskFault f
quiet_fault f h = (λ e. subst (λ g. Quiet (refusal_of g)) e h, λ e. subst (λ g. Quiet (refusal_of g)) e h)
