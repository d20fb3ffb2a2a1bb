-- Terms whose parts are marked as keys of GROUP BY (SQL As Understood By SQLite, "SELECT", "Generation of the set of result rows").
use Rattle.std.specs.Prelude.{◌≡◌, ℕ, List, Option, Some, None}
use Rattle.query_terms.specs.Terms.{Term, Apply, One, Two, Collate, In, Between, Key}
use Rattle.query_names.specs.Grouping.{keyed, keyed_all}

-- the term with the keys in its parts marked, whether or not it is a key itself
abbrev pub keyed_within : List Term → Term → Term
keyed_within ks (Apply f es) = Apply f (keyed_all ks es)
keyed_within ks (One o e) = One o (keyed ks e)
keyed_within ks (Two o a b) = Two o (keyed ks a) (keyed ks b)
keyed_within ks (Collate c e) = Collate c (keyed ks e)
keyed_within ks (In n a bs) = In n (keyed ks a) (keyed_all ks bs)
keyed_within ks (Between n a b c) = Between n (keyed ks a) (keyed ks b) (keyed ks c)
keyed_within ks e = e

-- the term is marked as the key of this place, or only its parts are
abbrev pub IsKeyOf : List Term → Term → Option ℕ → Type 0
IsKeyOf ks e None = keyed ks e ≡ keyed_within ks e
IsKeyOf ks e (Some k) = keyed ks e ≡ Key k e
