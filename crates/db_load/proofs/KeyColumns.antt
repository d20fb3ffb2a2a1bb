-- The columns of keys, from their places and collations.
use Rattle.std.proofs.Common.{◌≡◌, refl, ap, ℕ, List, [], ◌∷◌, map}
use Rattle.sqlval.specs.declared.collation.Collation.{Collation}
use Rattle.catalog.specs.Listed.{key_columns}
use Rattle.catalog.specs.declared.tables.IndexColumn.{IndexColumn}

first_of : {A : Type 0} (x y : A) (xs ys : List A) → x ∷ xs ≡ y ∷ ys → x ≡ y
first_of x y xs ys h = cc

rest_of : {A : Type 0} (x y : A) (xs ys : List A) → x ∷ xs ≡ y ∷ ys → xs ≡ ys
rest_of x y xs ys h = cc

-- a column's place and collation
abbrev pair : IndexColumn → ℕ × Collation
pair c = (c.place, c.collation)

column_is : (a b : IndexColumn) → pair a ≡ pair b → a ≡ b
column_is a b h =
    let place : a.place ≡ b.place = ap (λ (p : ℕ × Collation). p.0) h in
    let collation : a.collation ≡ b.collation = ap (λ (p : ℕ × Collation). p.1) h in
    λ i. record { place = place i; collation = collation i }

-- two keys with the same places and collations are one
pub key_is : (them bs : List IndexColumn) → key_columns them ≡ key_columns bs → them ≡ bs
key_is [] [] h = refl
key_is [] (b ∷ bs) h = absurd cc
key_is (a ∷ them) [] h = absurd cc
key_is (a ∷ them) (b ∷ bs) h =
    let first = column_is a b (first_of (pair a) (pair b) (key_columns them) (key_columns bs) h) in
    let rest = key_is them bs (rest_of (pair a) (pair b) (key_columns them) (key_columns bs) h) in λ i. first i ∷ rest i

-- and so are two lists of keys
pub keys_are : (them bs : List (List IndexColumn)) → map key_columns them ≡ map key_columns bs → them ≡ bs
keys_are [] [] h = refl
keys_are [] (b ∷ bs) h = absurd cc
keys_are (a ∷ them) [] h = absurd cc
keys_are (a ∷ them) (b ∷ bs) h =
    let first = key_is a b (first_of (key_columns a) (key_columns b) (map key_columns them) (map key_columns bs) h) in
    let rest = keys_are them bs (rest_of (key_columns a) (key_columns b) (map key_columns them) (map key_columns bs) h) in λ i. first i ∷ rest i
