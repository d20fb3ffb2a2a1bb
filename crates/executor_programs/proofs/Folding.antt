-- Effects one after another: what becomes of the items that are left decides what becomes of all.
use Rattle.std.proofs.Common.{◌≡◌, sym, ap, subst, ℕ, List, ◌∷◌, Ok, Err, inl, inr}
use Rattle.std.specs.Prelude.{Result, ⊤, IsErrAnd, MatchResult}
use Rattle.sqlval.specs.Refusals.{Answer, ◌then◌}
use Rattle.sqlval.specs.declared.fault.Fault.{Fault}
use Rattle.pages.specs.Map.{PageMap}
use Rattle.catalog.specs.Database.{Database}
use Rattle.catalog.specs.Listed.{Listed}
use Rattle.executor.specs.Rows.{StoresWith}
use Rattle.executor_programs.specs.Running.{IsRunRefusal, Runs}

-- what becomes of the pages, where the effect on the database is this answer
abbrev pub RunsTo : PageMap → ℕ → Listed → Answer Database → Result ⊤ Fault → Type 0
RunsTo new size l answer result = MatchResult result (λ done. StoresWith new size l answer) (IsRunRefusal l answer)

-- what follows an effect that was made
pub runs_on : (new : PageMap) (size : ℕ) (l : Listed) (a : Answer Database) (made : Database) (second : Database → Answer Database) (result : Result ⊤ Fault)
    → a ≡ Ok made → RunsTo new size l (second made) result → RunsTo new size l (a then second) result
runs_on new size l a made second result is runs = subst (λ (b : Answer Database). RunsTo new size l (b then second) result) (sym is) runs

-- what follows one that was refused isn't met
pub stays_refused : {A B : Type 0} (l : Listed) (a : Answer A) (second : A → Answer B) (f : Fault) → IsRunRefusal l a f → IsRunRefusal l (a then second) f
stays_refused l a second f (inl outside) = inl outside
stays_refused l a second f (inr (inl is)) = inr (inl (ap (λ x. x then second) is))
stays_refused l a second f (inr (inr wide)) = inr (inr wide)

pub runs_then : (old mid new : PageMap) (size : ℕ) (l : Listed) (first second : Database → Answer Database) (result : Result ⊤ Fault)
    → Runs old mid size l first (Ok tt) → Runs mid new size l second result → Runs old new size l (λ db. first db then second) result
runs_then old mid new size l first second result one two db held =
    let made = one db held in runs_on new size l (first db) made.made second result made.is (two made.made made.stored)

pub runs_stop : (old mid new : PageMap) (size : ℕ) (l : Listed) (first second : Database → Answer Database) (f : Fault)
    → Runs old mid size l first (Err f) → Runs old new size l (λ db. first db then second) (Err f)
runs_stop old mid new size l first second f one db held = stays_refused l (first db) second f (one db held)

-- what a call hands on that was refused
pub handed_on : (r : Result ⊤ Fault) (f : Fault) → IsErrAnd r (λ e. e ≡ f) → Err f ≡ r
handed_on (Ok done) f is = absurd is
handed_on (Err e) f is = ap refused (sym is)
  where
    refused : Fault → Result ⊤ Fault
    refused x = Err x

pub failed : (new : PageMap) (size : ℕ) (l : Listed) (a : Answer Database) (r : Result ⊤ Fault) (f : Fault) → IsErrAnd r (λ e. e ≡ f) → IsRunRefusal l a f → RunsTo new size l a r
failed new size l a r f is refused = subst (λ (x : Result ⊤ Fault). RunsTo new size l a x) (handed_on r f is) refused

-- the loop stops at an item that is refused
pub stopped : {A : Type 0} (Becomes : List A → Result ⊤ Fault → Type 0) (item : A) (rest left : List A) (f : Fault) (r : Result ⊤ Fault) → item ∷ rest ≡ left → IsErrAnd r (λ e. e ≡ f)
    → Becomes (item ∷ rest) (Err f) → Becomes left r
stopped {A} Becomes item rest left f r same is it = subst (λ (them : List A). Becomes them r) same (subst (Becomes (item ∷ rest)) (handed_on r f is) it)
