-- What expressions give of a group of which this is kept.
use Rattle.std.specs.Prelude.{List, [], ◌∷◌, Ok, slice_get, unwrap_or}
use Rattle.sqlval.specs.Refusals.{Answer, ◌then◌}
use Rattle.sqlval.specs.declared.value.Value.{Value}
use Rattle.sqlval.specs.declared.value.Value.TheVariants.{Null}
use Rattle.query_terms.specs.Terms.{Term, Key}
use Rattle.query_totals.specs.Tallies.{given_by}
use Rattle.query_totals.specs.declared.tally.Tally.{Tally}

-- a key, or what the aggregate gives
abbrev pub given_of : List Value → Term → Tally → Answer Value
given_of keys (Key k e) tally = Ok (unwrap_or (slice_get keys k) Null)
given_of keys t tally = given_by tally

-- what each gives, up to the first refusal
abbrev pub given_each : List Value → List Term → List Tally → Answer (List Value)
given_each keys (t ∷ ts) (k ∷ tallies) = given_of keys t k then λ v. given_each keys ts tallies then λ vs. Ok (v ∷ vs)
given_each keys _ _ = Ok []
