-- Aggregates of the rows of one group, each by itself.
use Rattle.std.specs.Prelude.{◌≡◌, Bool, true, false, List, [], ◌∷◌, map, Ok, Err}
use Rattle.sqlval.specs.Refusals.{Answer, ◌then◌, all_answers}
use Rattle.sqlval.specs.declared.value.Value.{Value}
use Rattle.sqlval.specs.declared.value.Value.TheVariants.{Null}
use Rattle.query_terms.specs.Terms.{Term, Total, collation}
use Rattle.query_terms.specs.Values.{Environment, Row, counted, value}
use Rattle.query_terms.specs.declared.tree.Aggregate.TheVariants.{CountAll}
use Rattle.query_totals.specs.declared.tally.Tally.{Tally}
use Rattle.query_totals.specs.Tallies.{tally_of, tally_with}

-- whether an expression is an aggregate, with nothing around it
abbrev pub is_total : Term → Bool
is_total (Total g e) = true
is_total _ = false

-- what an aggregate's argument is evaluated over: one row of each source
abbrev pub alone : List Row → Environment
alone rows = record { rows = rows; group = []; keys = [] }

-- an aggregate's argument at a row; count(*) has NULL for it
abbrev pub argument_at : Term → List Row → Answer Value
argument_at (Total CountAll e) rows = Ok Null
argument_at (Total g e) rows = value e (alone rows) then counted g
argument_at _ rows = Ok Null

-- the arguments of all aggregates at a row, up to the first refusal
abbrev pub arguments_at : List Term → List Row → Answer (List Value)
arguments_at ts rows = all_answers (map (λ t. argument_at t rows) ts)

-- an aggregate's argument at a row where it isn't refused
abbrev pub taken_at : Term → List Row → Value
taken_at t rows = elim (argument_at t rows) [ Ok v ↦ v | Err r ↦ Null ]

-- what is kept of values, for the aggregate that an expression is
abbrev pub tally_for : Term → List Value → Tally
tally_for (Total g e) vs = tally_of g (collation e) vs
tally_for t vs = tally_of CountAll (collation t) vs

-- what is kept of an aggregate over the rows of a group, at none of which its argument is refused
abbrev pub tally_over : List (List Row) → Term → Tally
tally_over group t = tally_for t (map (taken_at t) group)

-- what is kept of each aggregate
abbrev pub tallies_over : List (List Row) → List Term → List Tally
tallies_over group ts = map (tally_over group) ts

-- no argument of an aggregate is refused at this row
abbrev pub AreTaken : List Term → List Row → Type 0
AreTaken ts rows = (vs : List Value) × (arguments_at ts rows ≡ Ok vs)

-- an aggregate's argument before it is counted; count(*) has NULL for it
abbrev pub argument_in : Term → Environment → Answer Value
argument_in (Total CountAll e) env = Ok Null
argument_in (Total g e) env = value e env
argument_in _ env = Ok Null

-- what is kept of each aggregate with one more row
abbrev pub tallies_with : List Term → Environment → List Tally → Answer (List Tally)
tallies_with (t ∷ ts) env (k ∷ ks) = (argument_in t env then tally_with k) then λ n. tallies_with ts env ks then λ ns. Ok (n ∷ ns)
tallies_with _ env ks = Ok ks
