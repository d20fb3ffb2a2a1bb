-- The names of a query's columns are those of its reading.
use Rattle.std.proofs.Common.{◌≡◌, inl, refl, sym, ap, subst, ◌∙◌, List, [], map}
use Rattle.std.specs.Prelude.{Option, Result, Ok, Err, Vec, IsErrAnd}
use Rattle.std.specs.declared.alloc.Global.{Global}
use Rattle.sqlval.specs.Faults.{IsOrMemory}
use Rattle.sqlval.specs.Refusals.{Refusal}
use Rattle.sqlval.specs.declared.fault.Fault.{Fault}
use Rattle.catalog.specs.Database.{Name}
use Rattle.query_names.specs.Bound.{IsFaultOf}
use Rattle.query_names.specs.Checked.{Checked, Meant, faults, known_map}
use Rattle.query_names.specs.Named.{NamesBy}
use Rattle.query_names.specs.declared.reading.Reading.{Reading}

abbrev pub Named : Type 0
Named = Result (Vec (Option Name) Global) Fault

abbrev pub names_in : Reading → List (Option Name)
names_in reading = map (λ column. column.name) reading.columns

-- what is meant is refused as its names are
same_faults : (k : Checked Reading) → faults (known_map names_in k) ≡ faults k
same_faults (Meant reading rs) = refl

abbrev Answers : Checked Reading → Named → Type 0
Answers k result = NamesBy (λ names. names.items) (known_map names_in k) result

pub refused_names : (k : Checked Reading) (result : Named) (f : Fault) → IsErrAnd result (λ e. e ≡ f) → IsFaultOf (faults k) f → Answers k result
refused_names k (Ok names) f is why = absurd is
refused_names k (Err e) f is why = subst (λ (x : Fault). IsFaultOf (faults (known_map names_in k)) x) (sym is) (subst (λ (rs : List Refusal). IsFaultOf rs f) (sym (same_faults k)) why)

pub names_are : (k : Checked Reading) (reading : Reading) (result : Named) → k ≡ Meant reading [] → IsOrMemory (λ names. names.items ≡ names_in reading) result → Answers k result
names_are k reading (Ok names) meant are = ap (known_map names_in) meant ∙ ap (λ (x : List (Option Name)). Meant x []) (sym are)
names_are k reading (Err e) meant memory = inl memory
