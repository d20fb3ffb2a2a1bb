-- Chains of views at their limit.
use Rattle.std.specs.Prelude.{◌≡◌, refl, ℕ, zero, suc, ◌+◌, pos, Ok, Err, codes, [], ◌∷◌}
use Rattle.sqlval.specs.Refusals.{TooLong, Misuse}
use Rattle.sql_syntax.specs.declared.query.Query.{Query}
use Rattle.catalog.specs.Database.{Name, Database, AView, with_object}
use Rattle.query_names.specs.Views.{answer}
use Rattle.query_names.proofs.Written.{number, named, from, select, result, col, table, int}

abbrev a : Name
a = codes "a"

abbrev n_th : ℕ → Name
n_th n = (1000 + n) ∷ []

abbrev query_of : Name → Query
query_of n = select (result (named a) ∷ []) (from n ∷ [])

abbrev views : ℕ → Database
views zero = with_object [] (n_th 0) (table (col a ∷ []) ((pos 1, int 7 ∷ []) ∷ []))
views (suc n) = with_object (views n) (n_th (suc n)) (AView (record { columns = []; query = query_of (n_th n) }))

pub views_64 : answer (views 64) (query_of (n_th 64)) ≡ Ok ((int 7 ∷ []) ∷ [])
unfolding answer
views_64 = refl

pub views_65 : answer (views 65) (query_of (n_th 65)) ≡ Err TooLong
unfolding answer
views_65 = refl

-- the same chains over a view without FROM
abbrev bare_views : ℕ → Database
bare_views zero = with_object [] (n_th 0) (AView (record { columns = a ∷ []; query = select (result (number 7) ∷ []) [] }))
bare_views (suc n) = with_object (bare_views n) (n_th (suc n)) (AView (record { columns = []; query = query_of (n_th n) }))

pub bare_views_64 : answer (bare_views 63) (query_of (n_th 63)) ≡ Ok ((int 7 ∷ []) ∷ [])
unfolding answer
bare_views_64 = refl

pub bare_views_65 : answer (bare_views 64) (query_of (n_th 64)) ≡ Err TooLong
unfolding answer
bare_views_65 = refl

-- a view in a ring of two, and one in a ring of 66
abbrev ring : ℕ → Database
ring n = with_object (views n) (n_th 0) (AView (record { columns = []; query = query_of (n_th n) }))

pub ring_2 : answer (ring 1) (query_of (n_th 1)) ≡ Err Misuse
unfolding answer
ring_2 = refl

pub ring_66 : answer (ring 65) (query_of (n_th 65)) ≡ Err TooLong
unfolding answer
ring_66 = refl
