-- Conditions that can't be refused, so that a plan may leave rows unread.
use Rattle.std.specs.Prelude.{ℕ, Bool, true, false, ◌&&◌, ◌==◌, List, [], ◌∷◌, ◌++◌, pos, Option, None, is_ok}
use Rattle.std.specs.List.{list_any}
use Rattle.sqlval.specs.Conversion.{is_word, converted}
use Rattle.sqlval.specs.declared.affinity.Affinity.{Affinity}
use Rattle.sqlval.specs.declared.affinity.Affinity.TheVariants as kind
use Rattle.sqlval.specs.declared.collation.Collation.{Collation}
use Rattle.sqlval.specs.declared.value.Value.TheVariants.{Int}
use Rattle.query_terms.specs.Terms.{Term, Terms, Const, Digits, Cell, One, Two, In, Between, End, More, affinity}
use Rattle.query_terms.specs.declared.tree.Comparison.TheVariants.{Equal}
use Rattle.query_terms.specs.declared.tree.OneSided.TheVariants.{Not}
use Rattle.query_terms.specs.declared.tree.TwoSided.TheVariants.{Compare, Is, IsNot, And, Or}
use Rattle.query_terms.specs.declared.tree.Place.TheVariants.{RowId, At}
use Rattle.query_terms.specs.Values.{conversion}

-- a column or a literal
abbrev pub is_side : Term → Bool
is_side (Cell s p a c) = true
is_side (Const v) = true
is_side (Digits n) = is_word (pos n)
is_side _ = false

-- a literal whose conversion isn't refused
abbrev pub converts_literal : Affinity → Term → Bool
converts_literal a (Const v) = is_ok (converted a v)
converts_literal a (Digits n) = is_ok (converted a (Int (pos n)))
converts_literal a t = false

-- no conversion to this affinity, or one of such a literal
abbrev pub converts : Affinity → Term → Bool
converts kind.Blob t = true
converts a t = converts_literal a t

-- two sides that are compared, each with the affinity that it has there
abbrev pub is_calm_pair : Option Affinity → Option Affinity → Term → Term → Bool
is_calm_pair a b s t = (is_side s && converts (conversion a b) s) && (is_side t && converts (conversion b a) t)

-- two sides of a comparison that convert, if at all, literals that can be converted
abbrev pub are_calm_sides : Term → Term → Bool
are_calm_sides s t = is_calm_pair (affinity s) (affinity t) s t

-- the right sides of IN have no affinity
abbrev pub is_calm_among : Term → Terms → Bool
is_calm_among s End = is_side s
is_calm_among s (More t ts) = is_calm_pair (affinity s) None s t && is_calm_among s ts

-- a condition of comparisons over columns and literals, joined by AND, OR and NOT, in which nothing can be refused
abbrev pub is_calm : Term → Bool
is_calm (Two (Compare o) a b) = are_calm_sides a b
is_calm (Two Is a b) = are_calm_sides a b
is_calm (Two IsNot a b) = are_calm_sides a b
is_calm (Two And a b) = is_calm a && is_calm b
is_calm (Two Or a b) = is_calm a && is_calm b
is_calm (One Not e) = is_calm e
is_calm (In n a bs) = is_calm_among a bs
is_calm (Between n a b c) = are_calm_sides a b && are_calm_sides a c
is_calm _ = false

-- the parts that AND joins at the top
abbrev pub parts : Term → List Term
parts (Two And a b) = parts a ++ parts b
parts t = t ∷ []

-- `rowid = k` of the source of this number, or `c = k` where an index of that source begins with its column c, under the collation that the
-- comparison has
abbrev pub finds : ℕ → (ℕ → Collation → Bool) → Term → Bool
finds n begins (Two (Compare Equal) (Cell s RowId a c) (Digits k)) = s == n
finds n begins (Two (Compare Equal) (Cell s (At i) a c) (Digits k)) = s == n && begins i c
finds n begins (Two (Compare Equal) (Cell s (At i) a c) (Const v)) = s == n && begins i c
finds n begins _ = false

-- The plan of a SELECT from one table with this WHERE is a search. The table is the source of this number: in a trigger's program NEW
-- and OLD stand before it, and what is asked of them finds no row of the table.
abbrev pub is_search : ℕ → (ℕ → Collation → Bool) → Term → Bool
is_search n begins t = is_calm t && list_any (finds n begins) (parts t)
