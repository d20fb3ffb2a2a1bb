-- Aggregates over the rows of a group, with one more row.
use Rattle.std.proofs.Common.{◌≡◌, refl, sym, ap, ◌∙◌, Bool, true, false, true≢false, ◌&&◌, List, [], ◌∷◌, ◌++◌, map, Ok, Err}
use Rattle.std.specs.List.{AllByRecursion, list_all}
use Rattle.sqlval.specs.Refusals.{Answer, ◌then◌, all_answers}
use Rattle.sqlval.specs.declared.collation.Collation.{Collation}
use Rattle.sqlval.specs.declared.collation.Collation.TheVariants.{Binary}
use Rattle.sqlval.specs.declared.value.Value.{Value}
use Rattle.sqlval.specs.declared.value.Value.TheVariants.{Null, Int, Text, Blob}
use Rattle.query_terms.specs.Terms.{Term, Const, Digits, Cell, Key, Apply, Total, One, Two, Collate, In, Between, Raise, collation}
use Rattle.query_terms.specs.Values.{Environment, Row, aggregated, counted, value}
use Rattle.query_terms.specs.declared.tree.Aggregate.{Aggregate}
use Rattle.query_terms.specs.declared.tree.Aggregate.TheVariants.{CountAll, Count, Sum, Min, Max}
use Rattle.query_totals.specs.Tallies.{given_by, tally_of, tally_with}
use Rattle.query_totals.specs.Totals.{AreTaken, alone, argument_at, argument_in, arguments_at, is_total, taken_at, tallies_over, tallies_with, tally_for, tally_over}
use Rattle.query_totals.specs.declared.tally.Tally.{Tally}
use Rattle.query_totals.proofs.Kept.{given_is, tally_more}

-- ---- one more row

counted_on : (a : Answer Value) (g : Aggregate) (c : Collation) (vs : List Value) → (a then tally_with (tally_of g c vs)) ≡ ((a then counted g) then λ w. Ok (tally_of g c (vs ++ w ∷ [])))
counted_on (Ok v) g c vs = sym (tally_more g c vs v)
counted_on (Err r) g c vs = refl

null_on : (c : Collation) (vs : List Value) → tally_with (tally_of CountAll c vs) Null ≡ Ok (tally_of CountAll c (vs ++ Null ∷ []))
null_on c vs = sym (tally_more CountAll c vs Null)

-- the argument is refused or kept
argued : (t : Term) (now : List Row) (vs : List Value) → (argument_in t (alone now) then tally_with (tally_for t vs)) ≡ (argument_at t now then λ w. Ok (tally_for t (vs ++ w ∷ [])))
argued (Total CountAll e) now vs = null_on (collation e) vs
argued (Total Count e) now vs = counted_on (value e (alone now)) Count (collation e) vs
argued (Total Sum e) now vs = counted_on (value e (alone now)) Sum (collation e) vs
argued (Total Min e) now vs = counted_on (value e (alone now)) Min (collation e) vs
argued (Total Max e) now vs = counted_on (value e (alone now)) Max (collation e) vs
argued (Const v) now vs = null_on (collation (Const v)) vs
argued (Digits n) now vs = null_on (collation (Digits n)) vs
argued (Cell s p k c) now vs = null_on (collation (Cell s p k c)) vs
argued (Key k e) now vs = null_on (collation (Key k e)) vs
argued (Apply f es) now vs = null_on (collation (Apply f es)) vs
argued (One o e) now vs = null_on (collation (One o e)) vs
argued (Two o a b) now vs = null_on (collation (Two o a b)) vs
argued (Collate c e) now vs = null_on (collation (Collate c e)) vs
argued (In n a bs) now vs = null_on (collation (In n a bs)) vs
argued (Between n a b c) now vs = null_on (collation (Between n a b c)) vs
argued (Raise k t) now vs = null_on (collation (Raise k t)) vs

mapped_more : {X Y : Type 0} (f : X → Y) (xs : List X) (x : X) → map f (xs ++ x ∷ []) ≡ map f xs ++ f x ∷ []
mapped_more f [] x = refl
mapped_more {X} {Y} f (y ∷ ys) x = ap (λ (zs : List Y). f y ∷ zs) (mapped_more f ys x)

abbrev made : Term → List Value → Answer Tally
made t vs = Ok (tally_for t vs)

module _ (group : List (List Row)) (now : List Row) where
  over_more : (t : Term) → (argument_at t now then λ w. Ok (tally_for t (map (taken_at t) group ++ w ∷ []))) ≡ (argument_at t now then λ w. Ok (tally_over (group ++ now ∷ []) t))
  over_more t = by (argument_at t now) refl
    where
      taken : Answer Value → Value
      taken a = elim a [ Ok v ↦ v | Err r ↦ Null ]

      by : (a : Answer Value) → argument_at t now ≡ a → (argument_at t now then λ w. Ok (tally_for t (map (taken_at t) group ++ w ∷ []))) ≡ (argument_at t now then λ w. Ok (tally_over (group ++ now ∷ []) t))
      by (Ok v) e =
          ap (λ (a : Answer Value). a then λ w. made t (map (taken_at t) group ++ w ∷ [])) e
          ∙ (ap (λ w. made t (map (taken_at t) group ++ w ∷ [])) (sym (ap taken e))
          ∙ (ap (made t) (sym (mapped_more (taken_at t) group now)) ∙ sym (ap (λ (a : Answer Value). a then λ w. made t (map (taken_at t) (group ++ now ∷ []))) e)))
      by (Err r) e =
          ap (λ (a : Answer Value). a then λ w. made t (map (taken_at t) group ++ w ∷ [])) e
          ∙ sym (ap (λ (a : Answer Value). a then λ w. made t (map (taken_at t) (group ++ now ∷ []))) e)

  both : (a : Answer Value) (b : Answer (List Value)) (k : Tally) (ks : List Tally) → ((a then λ w. Ok k) then λ n. (b then λ ws. Ok ks) then λ ns. Ok (n ∷ ns)) ≡ ((a then λ x. b then λ xs. Ok (x ∷ xs)) then λ vs. Ok (k ∷ ks))
  both (Ok v) (Ok vs) k ks = refl
  both (Ok v) (Err r) k ks = refl
  both (Err r) b k ks = refl

  -- what is kept of each with one more row
  pub tallies_more : (ts : List Term) → (arguments_at ts now then λ vs. Ok (tallies_over (group ++ now ∷ []) ts)) ≡ tallies_with ts (alone now) (tallies_over group ts)
  tallies_more [] = refl
  tallies_more (t ∷ ts) =
      sym (ap (λ (a : Answer Tally). a then λ n. tallies_with ts (alone now) (tallies_over group ts) then λ ns. each n ns) (argued t now (map (taken_at t) group) ∙ over_more t)
      ∙ (ap (λ (b : Answer (List Tally)). (argument_at t now then λ w. one) then λ n. b then λ ns. each n ns) (sym (tallies_more ts))
      ∙ both (argument_at t now) (arguments_at ts now) (tally_over (group ++ now ∷ []) t) (tallies_over (group ++ now ∷ []) ts)))
    where
      each : Tally → List Tally → Answer (List Tally)
      each n ns = Ok (n ∷ ns)

      one : Answer Tally
      one = Ok (tally_over (group ++ now ∷ []) t)

-- ---- what they give

-- an answer that is taken is the one that it says
is_taken : (t : Term) (rows : List Row) (v : Value) → argument_at t rows ≡ Ok v → argument_at t rows ≡ Ok (taken_at t rows)
is_taken t rows v e = e ∙ ap answer (sym (ap taken e))
  where
    answer : Value → Answer Value
    answer w = Ok w

    taken : Answer Value → Value
    taken a = elim a [ Ok w ↦ w | Err r ↦ Null ]

-- where all of several are answered, each is
first_answered : (a : Answer Value) (b : Answer (List Value)) (vs : List Value) → (a then λ x. b then λ xs. Ok (x ∷ xs)) ≡ Ok vs → (v : Value) × (a ≡ Ok v)
first_answered (Ok v) b vs e = (v, refl)
first_answered (Err r) b vs e = absurd cc

rest_answered : (a : Answer Value) (b : Answer (List Value)) (vs : List Value) → (a then λ x. b then λ xs. Ok (x ∷ xs)) ≡ Ok vs → (ws : List Value) × (b ≡ Ok ws)
rest_answered (Ok v) (Ok ws) vs e = (ws, refl)
rest_answered (Ok v) (Err r) vs e = absurd cc
rest_answered (Err r) b vs e = absurd cc

-- one aggregate's argument is taken at each row
abbrev Taken : Term → List (List Row) → Type 0
Taken t [] = Unit {0}
Taken t (rows ∷ group) = (argument_at t rows ≡ Ok (taken_at t rows)) × Taken t group

first_taken : (t : Term) (ts : List Term) (group : List (List Row)) → AllByRecursion (AreTaken (t ∷ ts)) group → Taken t group
first_taken t ts [] h = tt
first_taken t ts (rows ∷ group) h =
    let one = first_answered (argument_at t rows) (arguments_at ts rows) h.0.0 h.0.1 in
    (is_taken t rows one.0 one.1, first_taken t ts group h.1)

rest_taken : (t : Term) (ts : List Term) (group : List (List Row)) → AllByRecursion (AreTaken (t ∷ ts)) group → AllByRecursion (AreTaken ts) group
rest_taken t ts [] h = tt
rest_taken t ts (rows ∷ group) h = (rest_answered (argument_at t rows) (arguments_at ts rows) h.0.0 h.0.1, rest_taken t ts group h.1)

-- what is counted is the value
counted_is : (a : Answer Value) (g : Aggregate) (w : Value) → (a then counted g) ≡ Ok w → a ≡ Ok w
counted_is (Ok v) CountAll w e = e
counted_is (Ok v) Count w e = e
counted_is (Ok Null) Sum w e = e
counted_is (Ok (Int n)) Sum w e = e
counted_is (Ok (Text t)) Sum w e = absurd cc
counted_is (Ok (Blob b)) Sum w e = absurd cc
counted_is (Ok v) Min w e = e
counted_is (Ok v) Max w e = e
counted_is (Err r) g w e = absurd cc

-- all of these are answered
all_taken : (f : List Row → Answer Value) (k : List Row → Value) (group : List (List Row)) → AllByRecursion (λ rows. f rows ≡ Ok (k rows)) group → all_answers (map f group) ≡ Ok (map k group)
all_taken f k [] h = refl
all_taken f k (rows ∷ group) h =
    ap (λ (a : Answer Value). a then λ x. all_answers (map f group) then λ xs. each x xs) h.0
    ∙ ap (λ (b : Answer (List Value)). b then λ xs. each (k rows) xs) (all_taken f k group h.1)
  where
    each : Value → List Value → Answer (List Value)
    each x xs = Ok (x ∷ xs)

module _ (g : Aggregate) (e : Term) (here : (rows : List Row) → argument_at (Total g e) rows ≡ (value e (alone rows) then counted g)) where
  values_taken : (group : List (List Row)) → Taken (Total g e) group → AllByRecursion (λ rows. value e (alone rows) ≡ Ok (taken_at (Total g e) rows)) group
  values_taken [] h = tt
  values_taken (rows ∷ group) h = (counted_is (value e (alone rows)) g (taken_at (Total g e) rows) (sym (here rows) ∙ h.0), values_taken group h.1)

  given_over : (group : List (List Row)) → Taken (Total g e) group → (all_answers (map (λ rows. value e (alone rows)) group) then aggregated g (collation e)) ≡ given_by (tally_over group (Total g e))
  given_over group h =
      ap (λ (a : Answer (List Value)). a then aggregated g (collation e)) (all_taken (λ rows. value e (alone rows)) (taken_at (Total g e)) group (values_taken group h))
      ∙ given_is g (collation e) (map (taken_at (Total g e)) group)

same_count : (e : Term) (group : List (List Row)) → aggregated CountAll Binary (map (λ r. Null) group) ≡ aggregated CountAll (collation e) (map (taken_at (Total CountAll e)) group)
same_count e group = ap (λ vs. aggregated CountAll Binary vs) (nulls group)
  where
    nulls : (rows : List (List Row)) → map (λ r. Null) rows ≡ map (taken_at (Total CountAll e)) rows
    nulls [] = refl
    nulls (r ∷ rs) = ap (λ vs. Null ∷ vs) (nulls rs)

given_at : (t : Term) (env : Environment) → is_total t ≡ true → Taken t env.group → value t env ≡ given_by (tally_over env.group t)
given_at (Total CountAll e) env i h = same_count e env.group ∙ given_is CountAll (collation e) (map (taken_at (Total CountAll e)) env.group)
given_at (Total Count e) env i h = given_over Count e (λ rows. refl) env.group h
given_at (Total Sum e) env i h = given_over Sum e (λ rows. refl) env.group h
given_at (Total Min e) env i h = given_over Min e (λ rows. refl) env.group h
given_at (Total Max e) env i h = given_over Max e (λ rows. refl) env.group h
given_at (Const v) env i h = absurd (true≢false (sym i))
given_at (Digits n) env i h = absurd (true≢false (sym i))
given_at (Cell s p k c) env i h = absurd (true≢false (sym i))
given_at (Key k e) env i h = absurd (true≢false (sym i))
given_at (Apply f es) env i h = absurd (true≢false (sym i))
given_at (One o e) env i h = absurd (true≢false (sym i))
given_at (Two o a b) env i h = absurd (true≢false (sym i))
given_at (Collate c e) env i h = absurd (true≢false (sym i))
given_at (In n a bs) env i h = absurd (true≢false (sym i))
given_at (Between n a b c) env i h = absurd (true≢false (sym i))
given_at (Raise k t) env i h = absurd (true≢false (sym i))

first_of : (a b : Bool) → (a && b) ≡ true → a ≡ true
first_of true b e = refl
first_of false b e = absurd (true≢false (sym e))

second_of : (a b : Bool) → (a && b) ≡ true → b ≡ true
second_of true b e = e
second_of false b e = absurd (true≢false (sym e))

-- what the aggregates give is what is told of each by what is kept of it
pub all_given : (ts : List Term) (env : Environment) → list_all is_total ts ≡ true → AllByRecursion (AreTaken ts) env.group → all_answers (map (λ t. value t env) ts) ≡ all_answers (map given_by (tallies_over env.group ts))
all_given [] env i h = refl
all_given (t ∷ ts) env i h =
    ap (λ (a : Answer Value). a then λ x. all_answers (map (λ u. value u env) ts) then λ xs. each x xs) (given_at t env (first_of (is_total t) (list_all is_total ts) i) (first_taken t ts env.group h))
    ∙ ap (λ (b : Answer (List Value)). given_by (tally_over env.group t) then λ x. b then λ xs. each x xs) (all_given ts env (second_of (is_total t) (list_all is_total ts) i) (rest_taken t ts env.group h))
  where
    each : Value → List Value → Answer (List Value)
    each x xs = Ok (x ∷ xs)
