-- The refusals of CREATE beside what is listed.
use Rattle.std.proofs.Common.{◌≡◌, refl, sym, ap, subst, ◌∙◌, Ok, Err, Bool, true, false, [], ◌∷◌, Option, Some, None, arith}
use Rattle.std.proofs.lemmas.Bool.{false≢true}
use Rattle.std.specs.List.{Contains}
use Rattle.std.proofs.lemmas.List.Elements.{Contains-append_right}
use Rattle.std.specs.Prelude.{IfErr, Result, is_some}
use Rattle.std.specs.Result.{IsErrAnd}
use Rattle.sqlval.specs.Refusals.{Refusal, Exists, Misuse}
use Rattle.sqlval.specs.declared.fault.Fault.{Fault}
use Rattle.catalog.specs.Database.{Name, Database, Object, with_object}
use Rattle.query_names.specs.Checked.{Checked, Meant, also, faults, good, known_map, meant, unless, ◌and_then◌}

pub nothing : (found : Option Object) → is_some found ≡ false → found ≡ None
nothing None h = refl
nothing (Some o) h = absurd (false≢true (sym h))

pub is_added : (db : Database) (name : Name) (o : Object) (reserved : Bool) (taken : Option Object) → reserved ≡ false → taken ≡ None
    → unless reserved Misuse (unless (is_some taken) Exists (known_map (with_object db name) (good o))) ≡ good (with_object db name o)
is_added db name o reserved taken free fresh =
    ap (λ b. unless b Misuse (unless (is_some taken) Exists (known_map (with_object db name) (good o)))) free
    ∙ ap (λ t. unless false Misuse (unless (is_some t) Exists (known_map (with_object db name) (good o)))) fresh

-- it is one of the refusals
pub record Has {A : Type 0} (k : Checked A) (r : Refusal) : Type 0 where
  pub among : Contains (faults k) r

pub unless_has : {A : Type 0} (b : Bool) (r : Refusal) (k : Checked A) → b ≡ true → Has (unless b r k) r
unless_has true r (Meant x ss) h = record { among = (0, omega arith, refl) }
unless_has false r k h = absurd (false≢true h)

pub unless_later : {A : Type 0} (b : Bool) (s r : Refusal) (k : Checked A) → Has k r → Has (unless b s k) r
unless_later true s r (Meant x ss) h = record { among = Contains-append_right (s ∷ []) ss r h.among }
unless_later false s r (Meant x ss) h = record { among = h.among }

pub map_has : {A B : Type 0} (f : A → B) (k : Checked A) (r : Refusal) → Has k r → Has (known_map f k) r
map_has f (Meant x rs) r h = record { among = h.among }

pub later : {A B : Type 0} (k : Checked A) (f : A → Checked B) (r : Refusal) → Has (f (meant k)) r → Has (k and_then f) r
later {B = B} (Meant x rs) f r h = onto (f x) h
  where
    onto : (k : Checked B) → Has k r → Has (also rs k) r
    onto (Meant y ss) h = record { among = Contains-append_right rs ss r h.among }

-- a fault that is handed on by `?` is so
pub refused_as : {X : Type 0} (Is : Fault → Type 0) (fault : Fault) (result : Result X Fault) → IsErrAnd result (λ e. e ≡ fault) → Is fault → IfErr result Is
refused_as Is fault (Ok x) same h = absurd same
refused_as Is fault (Err e) same h = subst Is (sym same) h
