-- What columns store of values they store as it is: a conversion that was made isn't made again.
use Rattle.std.proofs.Common.{◌≡◌, refl, sym, ap, subst, ◌∙◌, ℕ, ℤ, suc, Bool, true, false, if◌then◌else◌, List, [], ◌∷◌, length, Option, Some, None, Ok, Err, arith}
use Rattle.sqlval.specs.Affinity.{is_number}
use Rattle.sqlval.specs.Conversion.{converted, is_word, to_number, whole}
use Rattle.sqlval.specs.Refusals.{Answer, ◌then◌, RealRefused}
use Rattle.sqlval.specs.declared.affinity.Affinity.{Affinity}
use Rattle.sqlval.specs.declared.affinity.Affinity.TheVariants as to
use Rattle.sqlval.specs.declared.value.Value.{Value}
use Rattle.sqlval.specs.declared.value.Value.TheVariants.{Null, Int, Text, Blob}
use Rattle.catalog.specs.Database.{TableColumn}
use Rattle.row_change.specs.Constraints.{with_affinity}
use Rattle.executor.specs.Rows.{StoredStay}

abbrev one_value : Value → Answer Value
one_value v = Ok v

same_value : (v w : Value) → one_value v ≡ Ok w → v ≡ w
same_value v w e = cc

abbrev Again : Affinity → Value → Type 0
Again affinity v = converted affinity v ≡ Ok v

-- ---- one value

-- a value that stays stays again
kept : (affinity : Affinity) (v w : Value) → converted affinity v ≡ Ok w → v ≡ w → Again affinity w
kept affinity v w e same = ap (converted affinity) (sym same) ∙ e

-- a number of a text is kept, and so is a text of another shape
from_text : (affinity : Affinity) (text : List ℕ) (o : Option ℤ) (w : Value) → ((n : ℤ) → Again affinity (Int n)) → converted affinity (Text text) ≡ to_number text o → to_number text o ≡ Ok w → Again affinity w
from_text affinity text (Some n) w numbers is e = by (is_word n) e
  where
    by : (b : Bool) → (if b then one_value (Int n) else Err RealRefused) ≡ Ok w → Again affinity w
    by true h = subst (Again affinity) (same_value (Int n) w h) (numbers n)
    by false h = absurd cc
from_text affinity text None w numbers is e = by (is_number text) e
  where
    by : (b : Bool) → (if b then Err RealRefused else one_value (Text text)) ≡ Ok w → Again affinity w
    by true h = absurd cc
    by false h = kept affinity (Text text) w (is ∙ e) (same_value (Text text) w h)

again : (affinity : Affinity) (v w : Value) → converted affinity v ≡ Ok w → Again affinity w
again to.Integer Null w e = kept to.Integer Null w e (same_value Null w e)
again to.Integer (Int n) w e = kept to.Integer (Int n) w e (same_value (Int n) w e)
again to.Integer (Text text) w e = from_text to.Integer text (whole text) w (λ n. refl) refl e
again to.Integer (Blob b) w e = kept to.Integer (Blob b) w e (same_value (Blob b) w e)
again to.Numeric Null w e = kept to.Numeric Null w e (same_value Null w e)
again to.Numeric (Int n) w e = kept to.Numeric (Int n) w e (same_value (Int n) w e)
again to.Numeric (Text text) w e = from_text to.Numeric text (whole text) w (λ n. refl) refl e
again to.Numeric (Blob b) w e = kept to.Numeric (Blob b) w e (same_value (Blob b) w e)
again to.Text Null w e = kept to.Text Null w e (same_value Null w e)
again to.Text (Int n) w e = subst (Again to.Text) (same_value (Text _) w e) refl
again to.Text (Text text) w e = kept to.Text (Text text) w e (same_value (Text text) w e)
again to.Text (Blob b) w e = kept to.Text (Blob b) w e (same_value (Blob b) w e)
again to.Blob Null w e = kept to.Blob Null w e (same_value Null w e)
again to.Blob (Int n) w e = kept to.Blob (Int n) w e (same_value (Int n) w e)
again to.Blob (Text text) w e = kept to.Blob (Text text) w e (same_value (Text text) w e)
again to.Blob (Blob b) w e = kept to.Blob (Blob b) w e (same_value (Blob b) w e)

-- ---- a row

abbrev all_values : List Value → Answer (List Value)
all_values vs = Ok vs

same_values : (vs ws : List Value) → all_values vs ≡ Ok ws → vs ≡ ws
same_values vs ws e = cc

-- the values are stored as they are, and there is one for each of these columns
abbrev Stays : List TableColumn → List Value → Type 0
Stays columns values = (length values ≡ length columns) × (with_affinity columns values ≡ Ok values)

all_again : (columns : List TableColumn) (given values : List Value) → length given ≡ length columns → with_affinity columns given ≡ Ok values → Stays columns values
all_again [] [] values long e = subst (Stays []) (same_values [] values e) (refl, refl)
all_again [] (v ∷ given) values long e = absurd (omega (arith, long))
all_again (c ∷ columns) [] values long e = absurd (omega (arith, long))
all_again (c ∷ columns) (v ∷ given) values long e = by (λ ws h. all_again columns given ws (omega (arith, long)) h) (converted c.affinity v) refl e
  where
    joined : (w : Value) (ws : List Value) → Again c.affinity w → Stays columns ws → Stays (c ∷ columns) (w ∷ ws)
    joined w ws one rest = (
      ap suc rest.0,
      ap (λ (a : Answer Value). a then λ x. with_affinity columns ws then λ xs. Ok (x ∷ xs)) one
          ∙ ap (λ (a : Answer (List Value)). a then λ xs. Ok (w ∷ xs)) rest.1,
    )

    by_rest : ((ws : List Value) → with_affinity columns given ≡ Ok ws → Stays columns ws) → (w : Value) → converted c.affinity v ≡ Ok w → (a : Answer (List Value)) → with_affinity columns given ≡ a
        → (a then λ ws. all_values (w ∷ ws)) ≡ Ok values → Stays (c ∷ columns) values
    by_rest rest w one (Ok ws) is h = subst (Stays (c ∷ columns)) (same_values (w ∷ ws) values h) (joined w ws (again c.affinity v w one) (rest ws is))
    by_rest rest w one (Err r) is h = absurd cc

    by : ((ws : List Value) → with_affinity columns given ≡ Ok ws → Stays columns ws) → (a : Answer Value) → converted c.affinity v ≡ a
        → (a then λ w. with_affinity columns given then λ ws. all_values (w ∷ ws)) ≡ Ok values → Stays (c ∷ columns) values
    by rest (Ok w) one h = by_rest rest w one (with_affinity columns given) refl h
    by rest (Err r) one h = absurd cc

pub stored_stay : StoredStay
stored_stay t given values long e = (let all = all_again t.columns given values long e in record { full = all.0; stores = all.1 })
