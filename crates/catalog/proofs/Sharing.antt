-- Tables and views that handles share.
use Rattle.std.proofs.Common.{◌∙◌, ap}
use Rattle.std.specs.Prelude.{◌≡◌, refl, is_some, Bool, true, false, List, [], ◌∷◌, Option, None, Some, option_map, if◌then◌else◌, ◌||◌}
use denote.Ref.{Bor}
use Rattle.std.specs.declared.alloc.Global.{Global}
use Rattle.std.specs.declared.rc.Rc.{Rc}
use Rattle.std.specs.List.{find, list_any}
use Rattle.catalog.specs.Listed.{shared}

abbrev pub handle_value : {A : Type 0} → Rc A Global → A
handle_value handle = handle.value

unfoldable first_by : {A : Type 0} (b : Bool) (handle : Rc A Global) (more : Option (Rc A Global)) (rest : Option A) → option_map handle_value more ≡ rest
    → option_map handle_value (if b then Some handle else more) ≡ (if b then Some handle.value else rest)
first_by true handle more rest same = refl
first_by false handle more rest same = same

-- the first of what handles share that passes a test is that of the first handle
pub shared_found : {A : Type 0} (p : A → Bool) (handles : List (Rc A Global)) → option_map handle_value (find (λ (handle : Rc A Global). p handle.value) handles) ≡ find p (shared handles)
shared_found p [] = refl
shared_found {A} p (handle ∷ handles) = first_by (p handle.value) handle (find (λ (handle : Rc A Global). p handle.value) handles) (find p (shared handles)) (shared_found p handles)

pub shared_any : {A : Type 0} (p : A → Bool) (handles : List (Rc A Global)) → list_any (λ (handle : Rc A Global). p handle.value) handles ≡ list_any p (shared handles)
shared_any p [] = refl
shared_any {A} p (handle ∷ handles) = by_test (p handle.value) (shared_any p handles)
  where
    by_test : (b : Bool) → list_any (λ (handle : Rc A Global). p handle.value) handles ≡ list_any p (shared handles)
        → (b || list_any (λ (handle : Rc A Global). p handle.value) handles) ≡ (b || list_any p (shared handles))
    by_test true e = refl
    by_test false e = e

-- what a handle that was found shares
pub found_value : {A : Type 0} (r : Option (Bor (Rc A Global))) → option_map (λ (t : Bor (Rc A Global)). t.now.value) r ≡ option_map handle_value (option_map (λ (t : Bor (Rc A Global)). t.now) r)
found_value None = refl
found_value (Some t) = refl

-- whether one passes a test, by the one that was looked for
pub any_sought : {A : Type 0} (p : A → Bool) (xs : List A) (found : Option (Bor A)) (b : Bool) → b ≡ is_some found → option_map (λ (t : Bor A). t.now) found ≡ find p xs → b ≡ list_any p xs
any_sought {A} p xs found b some is = some ∙ (shown found ∙ (ap (λ (o : Option A). is_some o) is ∙ one_of xs))
  where
    shown : (o : Option (Bor A)) → is_some o ≡ is_some (option_map (λ (t : Bor A). t.now) o)
    shown None = refl
    shown (Some t) = refl

    one_of : (ys : List A) → is_some (find p ys) ≡ list_any p ys
    one_of [] = refl
    one_of (y ∷ ys) = by_test (p y) (one_of ys)
      where
        by_test : (t : Bool) → is_some (find p ys) ≡ list_any p ys → is_some (if t then Some y else find p ys) ≡ (t || list_any p ys)
        by_test true e = refl
        by_test false e = e
