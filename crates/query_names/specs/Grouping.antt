-- What an expression has in it: aggregates, columns, and the expressions of GROUP BY (SQL As Understood By SQLite, "SELECT", "Generation of the set of result rows").
use Rattle.std.specs.Prelude.{ℕ, suc, Bool, true, false, not, ◌&&◌, ◌||◌, List, [], ◌∷◌, Option, Some, None, unwrap_or, if◌then◌else◌, nat_lt}
use Rattle.query_terms.specs.Terms.{Term, Terms, Cell, Key, Apply, Total, One, Two, Collate, In, Between, End, More, same_term}

-- some part of it, itself among them, passes the test; the arguments of aggregates only where inside is true
abbrev mutual
  pub has : Bool → (Term → Bool) → Term → Bool
  has inside p (Apply f es) = p (Apply f es) || has_in inside p es
  has inside p (Total g e) = p (Total g e) || (inside && has inside p e)
  has inside p (One o e) = p (One o e) || has inside p e
  has inside p (Two o a b) = p (Two o a b) || has inside p a || has inside p b
  has inside p (Collate c e) = p (Collate c e) || has inside p e
  has inside p (In n a bs) = p (In n a bs) || has inside p a || has_in inside p bs
  has inside p (Between n a b c) = p (Between n a b c) || has inside p a || has inside p b || has inside p c
  has inside p e = p e

  pub has_in : Bool → (Term → Bool) → Terms → Bool
  has_in inside p End = false
  has_in inside p (More e es) = has inside p e || has_in inside p es

-- the term is an aggregate
abbrev pub is_total : Term → Bool
is_total (Total g e) = true
is_total _ = false

-- a column of a source after the first n
abbrev pub is_own_cell : ℕ → Term → Bool
is_own_cell n (Cell s p a c) = not (nat_lt s n)
is_own_cell n _ = false

-- an aggregate stands in it
abbrev pub has_total : Term → Bool
has_total = has true is_total

-- the place of the first key that is this term
abbrev pub key_from : ℕ → List Term → Term → Option Term
key_from k [] e = None
key_from k (key ∷ keys) e = if same_term key e then Some (Key k e) else key_from (suc k) keys e

-- with each subtree that is a key marked so, the largest first
abbrev mutual
  pub keyed : List Term → Term → Term
  keyed ks (Apply f es) = unwrap_or (key_from 0 ks (Apply f es)) (Apply f (keyed_all ks es))
  keyed ks (One o e) = unwrap_or (key_from 0 ks (One o e)) (One o (keyed ks e))
  keyed ks (Two o a b) = unwrap_or (key_from 0 ks (Two o a b)) (Two o (keyed ks a) (keyed ks b))
  keyed ks (Collate c e) = unwrap_or (key_from 0 ks (Collate c e)) (Collate c (keyed ks e))
  keyed ks (In n a bs) = unwrap_or (key_from 0 ks (In n a bs)) (In n (keyed ks a) (keyed_all ks bs))
  keyed ks (Between n a b c) = unwrap_or (key_from 0 ks (Between n a b c)) (Between n (keyed ks a) (keyed ks b) (keyed ks c))
  keyed ks (Total g e) = Total g e
  keyed ks e = unwrap_or (key_from 0 ks e) e

  pub keyed_all : List Term → Terms → Terms
  keyed_all ks End = End
  keyed_all ks (More e es) = More (keyed ks e) (keyed_all ks es)
