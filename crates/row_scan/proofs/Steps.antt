-- Answers of which the first refusal counts.
use Rattle.std.proofs.Common.{◌≡◌, ◌⊎◌, inl, inr, ℕ, ◌+◌, ◌<◌, List, [], ◌∷◌, ◌++◌, length, map, drop, slice_index_or, Result, Ok, Err, refl, sym, ap, subst, ◌∙◌, append_assoc}
use Rattle.std.proofs.lemmas.List.{at_drop_more}
use Rattle.sqlval.specs.Gives.{Refuses}
use Rattle.sqlval.specs.declared.fault.Fault.{Fault}
use Rattle.sqlval.specs.declared.fault.Fault.TheVariants as f
use Rattle.row_scan.specs.Answers.{◌and◌, every, left, with_front}

-- a refusal stays what it is, whatever was to follow
pub refuses_on : {A B : Type 0} (fault : Fault) (a : Result A Fault) (k : A → Result B Fault) → Refuses fault a → Refuses fault (a and k)
refuses_on f.Memory a k e = tt
refuses_on f.Io a k e = ap (λ r. r and k) e
refuses_on f.NotADatabase a k e = ap (λ r. r and k) e
refuses_on (f.Unsupported x) a k e = ap (λ r. r and k) e
refuses_on (f.Damaged x y) a k e = ap (λ r. r and k) e
refuses_on f.Full a k e = ap (λ r. r and k) e
refuses_on (f.Syntax x) a k e = ap (λ r. r and k) e
refuses_on (f.NoSuch x y) a k e = ap (λ r. r and k) e
refuses_on (f.Exists x) a k e = ap (λ r. r and k) e
refuses_on (f.Ambiguous x) a k e = ap (λ r. r and k) e
refuses_on (f.Misuse x) a k e = ap (λ r. r and k) e
refuses_on f.Busy a k e = ap (λ r. r and k) e
refuses_on f.StaleSnapshot a k e = ap (λ r. r and k) e
refuses_on f.NoTransaction a k e = ap (λ r. r and k) e
refuses_on f.InTransaction a k e = ap (λ r. r and k) e
refuses_on f.NoSavepoint a k e = ap (λ r. r and k) e
refuses_on f.NotNull a k e = ap (λ r. r and k) e
refuses_on f.Unique a k e = ap (λ r. r and k) e
refuses_on f.Check a k e = ap (λ r. r and k) e
refuses_on (f.Raised x) a k e = ap (λ r. r and k) e
refuses_on f.RealRefused a k e = ap (λ r. r and k) e
refuses_on f.TypeRefused a k e = ap (λ r. r and k) e
refuses_on f.RowidFull a k e = ap (λ r. r and k) e
refuses_on f.RowidMismatch a k e = ap (λ r. r and k) e
refuses_on f.TooLong a k e = ap (λ r. r and k) e
refuses_on f.RowChangedBefore a k e = ap (λ r. r and k) e
refuses_on f.ViewReadOnly a k e = ap (λ r. r and k) e
refuses_on f.Failed a k e = ap (λ r. r and k) e
refuses_on f.Blank a k e = ap (λ r. r and k) e
refuses_on f.Journal a k e = ap (λ r. r and k) e

-- it is when out of memory, or what the definition refuses too
pub refused_so : {Y : Type 0} (fault : Fault) (given : Result Y Fault) → Refuses fault given → (fault ≡ f.Memory) ⊎ (given ≡ Err fault)
refused_so f.Memory given e = inl refl
refused_so f.Io given e = inr e
refused_so f.NotADatabase given e = inr e
refused_so (f.Unsupported x) given e = inr e
refused_so (f.Damaged x y) given e = inr e
refused_so f.Full given e = inr e
refused_so (f.Syntax x) given e = inr e
refused_so (f.NoSuch x y) given e = inr e
refused_so (f.Exists x) given e = inr e
refused_so (f.Ambiguous x) given e = inr e
refused_so (f.Misuse x) given e = inr e
refused_so f.Busy given e = inr e
refused_so f.StaleSnapshot given e = inr e
refused_so f.NoTransaction given e = inr e
refused_so f.InTransaction given e = inr e
refused_so f.NoSavepoint given e = inr e
refused_so f.NotNull given e = inr e
refused_so f.Unique given e = inr e
refused_so f.Check given e = inr e
refused_so (f.Raised x) given e = inr e
refused_so f.RealRefused given e = inr e
refused_so f.TypeRefused given e = inr e
refused_so f.RowidFull given e = inr e
refused_so f.RowidMismatch given e = inr e
refused_so f.TooLong given e = inr e
refused_so f.RowChangedBefore given e = inr e
refused_so f.ViewReadOnly given e = inr e
refused_so f.Failed given e = inr e
refused_so f.Blank given e = inr e
refused_so f.Journal given e = inr e

regroup : {A : Type 0} (front : List A) (x : A) (rest : Result (List A) Fault) → with_front front (rest and λ xs. Ok (x ∷ xs)) ≡ with_front (front ++ x ∷ []) rest
regroup {A} front x (Ok xs) = ap (λ (vs : List A). Ok vs) (simp append_assoc)
regroup front x (Err fault) = refl

pub one_on : {A X : Type 0} (f : X → Result A Fault) (x : X) (xs : List X) (front : List A) (y : A) → f x ≡ Ok y → left f (x ∷ xs) front ≡ left f xs (front ++ y ∷ [])
one_on f x xs front y h = rw h (regroup front y (every (map f xs)))

one_stops : {A X : Type 0} (f : X → Result A Fault) (x : X) (xs : List X) (front : List A) (fault : Fault) → Refuses fault (f x) → Refuses fault (left f (x ∷ xs) front)
one_stops f x xs front fault h = refuses_on fault (every (map f (x ∷ xs))) (λ ys. Ok (front ++ ys)) (refuses_on fault (f x) (λ y. every (map f xs) and λ ys. Ok (y ∷ ys)) h)

pub begins : {A X : Type 0} (f : X → Result A Fault) (xs : List X) → left f xs [] ≡ every (map f xs)
begins f xs = same (every (map f xs))
  where
    same : {A : Type 0} (r : Result (List A) Fault) → with_front [] r ≡ r
    same (Ok ys) = refl
    same (Err e) = refl

pub goes_on : {A X : Type 0} (f : X → Result A Fault) (xs : List X) (i : ℕ) (d : X) (front : List A) (y : A) (total : Result (List A) Fault)
    → i < length xs → f (slice_index_or xs i d) ≡ Ok y → left f (drop i xs) front ≡ total → left f (drop (i + 1) xs) (front ++ y ∷ []) ≡ total
goes_on f xs i d front y total lt h so_far = sym (one_on f (slice_index_or xs i d) (drop (i + 1) xs) front y h) ∙ (sym (at_drop_more (λ rest. left f rest front) xs i d lt) ∙ so_far)

pub stops : {A X : Type 0} (f : X → Result A Fault) (xs : List X) (i : ℕ) (d : X) (front : List A) (fault : Fault) (total : Result (List A) Fault)
    → i < length xs → Refuses fault (f (slice_index_or xs i d)) → left f (drop i xs) front ≡ total → Refuses fault total
stops f xs i d front fault total lt h so_far =
    subst (λ r. Refuses fault r) (sym (at_drop_more (λ rest. left f rest front) xs i d lt) ∙ so_far) (one_stops f (slice_index_or xs i d) (drop (i + 1) xs) front fault h)
