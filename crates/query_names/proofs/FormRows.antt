-- Worked examples of calm conditions.
use Rattle.std.specs.Prelude.{◌≡◌, ◌==◌, refl, true, false, codes, Some}
use Rattle.sqlval.specs.Affinity.{is_number, rest_after_digits, ends_number, ends_exponent}
use Rattle.sqlval.specs.declared.affinity.Affinity.{Affinity}
use Rattle.sqlval.specs.declared.affinity.Affinity.TheVariants as kind
use Rattle.sqlval.specs.declared.collation.Collation.TheVariants.{Binary, NoCase}
use Rattle.sqlval.specs.declared.value.Value.TheVariants.{Text}
use Rattle.catalog.specs.Database.{Name}
use Rattle.query_names.specs.Calm.{is_calm, is_search}
use Rattle.query_terms.specs.Terms.{Term, Const, Digits, Cell, One, Two}
use Rattle.query_terms.specs.declared.tree.Comparison.TheVariants.{Less, Greater, Equal}
use Rattle.query_terms.specs.declared.tree.OneSided.TheVariants.{Negated}
use Rattle.query_terms.specs.declared.tree.TwoSided.TheVariants.{Compare, And}
use Rattle.query_terms.specs.declared.tree.Place.TheVariants.{At, RowId}

abbrev a : Name
a = codes "a"

-- ---- calm

abbrev cell : Affinity → Term
cell k = Cell 0 (At 0) (Some k) Binary

-- c > 5 of a column without a type would convert neither; of a TEXT column, the literal
pub calm_plain : is_calm (Two And (Two (Compare Greater) (cell kind.Blob) (Const (Text a))) (Two (Compare Equal) (cell kind.Text) (Digits 5))) ≡ true
calm_plain = refl

-- an INTEGER column beside a literal text that isn't refused, and one that is
pub calm_text : is_calm (Two (Compare Equal) (cell kind.Integer) (Const (Text (codes "12")))) ≡ true
calm_text = refl

pub not_calm_text : is_calm (Two (Compare Equal) (cell kind.Integer) (Const (Text (codes "1.5")))) ≡ false
unfolding is_number rest_after_digits ends_number ends_exponent
not_calm_text = refl

-- an INTEGER column beside a TEXT column; -1; a column as a truth value
pub not_calm_columns : is_calm (Two (Compare Equal) (cell kind.Integer) (cell kind.Text)) ≡ false
not_calm_columns = refl

pub not_calm_minus : is_calm (Two (Compare Greater) (cell kind.Integer) (One Negated (Digits 1))) ≡ false
not_calm_minus = refl

pub not_calm_truth : is_calm (Two And (cell kind.Integer) (cell kind.Integer)) ≡ false
not_calm_truth = refl

-- rowid = 5 AND b < 1 is a search; rowid = 5 AND b > -1 isn't
abbrev by_rowid : Term
by_rowid = Two (Compare Equal) (Cell 0 RowId (Some kind.Integer) Binary) (Digits 5)

pub search : is_search 0 (λ k c. false) (Two And by_rowid (Two (Compare Less) (cell kind.Blob) (Digits 1))) ≡ true
search = refl

pub no_search : is_search 0 (λ k c. false) (Two And by_rowid (Two (Compare Greater) (cell kind.Blob) (One Negated (Digits 1)))) ≡ false
no_search = refl

-- c = 5 is a search where an index begins with c
pub search_by_index : is_search 0 (λ k c. k == 0) (Two (Compare Equal) (cell kind.Blob) (Digits 5)) ≡ true
search_by_index = refl

pub search_by_text : is_search 0 (λ k c. k == 0) (Two (Compare Equal) (cell kind.Text) (Const (Text a))) ≡ true
search_by_text = refl

pub no_index : is_search 0 (λ k c. false) (Two (Compare Equal) (cell kind.Blob) (Digits 5)) ≡ false
no_index = refl

-- an index under NOCASE serves no comparison under BINARY
pub other_collation : is_search 0 (λ k c. elim c [ NoCase ↦ true | _ ↦ false ]) (Two (Compare Equal) (cell kind.Text) (Const (Text a))) ≡ false
other_collation = refl

-- in a trigger's program: SELECT a FROM t WHERE OLD.rowid = 1, and WHERE NEW.a = 5 beside an index on a, read all of t
pub no_search_by_old : is_search 1 (λ k c. true) (Two (Compare Equal) (Cell 0 RowId (Some kind.Integer) Binary) (Digits 1)) ≡ false
no_search_by_old = refl

pub no_search_by_new : is_search 1 (λ k c. true) (Two (Compare Equal) (cell kind.Blob) (Digits 5)) ≡ false
no_search_by_new = refl

-- SELECT a FROM t WHERE rowid = 1 there is a search
pub search_beside_old : is_search 1 (λ k c. false) (Two (Compare Equal) (Cell 1 RowId (Some kind.Integer) Binary) (Digits 1)) ≡ true
search_beside_old = refl
