-- The tables that savepoints go back to, after changes of the list of savepoints.
use Rattle.std.proofs.Common.{◌≡◌, ◌<◌, ◌≤◌, refl, sym, ap, subst, ◌∙◌, ℕ, zero, suc, ◌+◌, ◌-◌, Bool, true, false, ◌||◌, List, [], ◌∷◌, ◌++◌, length, map, set, take, drop, get_or, arith}
use Rattle.std.proofs.lemmas.List.{drop_more, get_or-map, get_or-take, length-map, length-take-le, length_push, nil_from_length, set_at, take-take, take_all, take_at, take_more}
use Rattle.std.specs.List.{list_any}
use Rattle.std.specs.Prelude.{None, Some, Vec}
use Rattle.std.specs.declared.alloc.Global.{Global}
use Rattle.std.specs.declared.rc.Rc.{Rc}
use Rattle.sqlval.specs.Names.{is_same_name}
use Rattle.catalog.specs.Database.{Name}
use Rattle.catalog.specs.Listed.{listed_in, Listed}
use Rattle.catalog.specs.declared.tables.Catalog.{Catalog}
use Rattle.session.specs.SavedTables.{AddsSavepoint, GoesBackTo, IsNewestNamed, Rebases, ReleasesFrom, SavedTables, Savepoints, changed_to, committed_in, current_in, first_in, saved_after, savepoints_in, tables_after, unchanged}
use Rattle.session.specs.declared.savepoints.SavedCatalogs.{SavedCatalogs}
use Rattle.session.specs.declared.savepoints.Savepoint.{Savepoint}

-- ---- one more

pub after_push : (ts : Listed) (ss : List Savepoint) (s : Savepoint) → tables_after ts (ss ++ s ∷ []) ≡ changed_to (tables_after ts ss) s.changed
after_push ts [] s = refl
after_push ts (x ∷ ss) s = after_push (changed_to ts x.changed) ss s

abbrev pub saved_of : Name → Listed → SavedTables
saved_of name tables = record { name = name; tables = tables }

pub saved_push : (ts : Listed) (ss : List Savepoint) (s : Savepoint) → saved_after ts (ss ++ s ∷ []) ≡ saved_after ts ss ++ saved_of s.name (tables_after ts ss) ∷ []
saved_push ts [] s = refl
saved_push ts (x ∷ ss) s = ap (λ (ps : List SavedTables). saved_of x.name ts ∷ ps) (saved_push (changed_to ts x.changed) ss s)

-- ---- by places

pub saved_length : (ts : Listed) (ss : List Savepoint) → length (saved_after ts ss) ≡ length ss
saved_length ts [] = refl
saved_length ts (x ∷ ss) = ap suc (saved_length (changed_to ts x.changed) ss)

pub saved_names : (ts : Listed) (ss : List Savepoint) → map (λ (p : SavedTables). p.name) (saved_after ts ss) ≡ map (λ (s : Savepoint). s.name) ss
saved_names ts [] = refl
saved_names ts (x ∷ ss) = ap (λ (ns : List Name). x.name ∷ ns) (saved_names (changed_to ts x.changed) ss)

pub saved_take : (n : ℕ) (ts : Listed) (ss : List Savepoint) → saved_after ts (take n ss) ≡ take n (saved_after ts ss)
saved_take zero ts ss = refl
saved_take (suc n) ts [] = refl
saved_take (suc n) ts (x ∷ ss) = ap (λ (ps : List SavedTables). saved_of x.name ts ∷ ps) (saved_take n (changed_to ts x.changed) ss)

pub saved_at : (n : ℕ) (ts : Listed) (ss : List Savepoint) (d : SavedTables) → n < length ss → (get_or (saved_after ts ss) n d).tables ≡ tables_after ts (take n ss)
saved_at n ts [] d within = absurd (omega (arith, within))
saved_at zero ts (x ∷ ss) d within = refl
saved_at (suc n) ts (x ∷ ss) d within = saved_at n (changed_to ts x.changed) ss d (omega (arith, within))

-- ---- the newest one has other changes

-- what stands in the place of the newest one
pub newest_set : (ss : List Savepoint) (n : ℕ) (s : Savepoint) → n < length ss → set (take (n + 1) ss) n s ≡ take n ss ++ s ∷ []
newest_set ss n s within = ap (λ (xs : List Savepoint). set xs n s) (take_more ss n s within) ∙ set_at (take n ss) (get_or ss n s) [] s n (length-take-le n ss (omega (arith, within)))

-- with the name that was there it goes back to the same tables
pub saved_set : (ts : Listed) (ss : List Savepoint) (n : ℕ) (s : Savepoint) → n < length ss → s.name ≡ (get_or ss n s).name → saved_after ts (take n ss ++ s ∷ []) ≡ take (n + 1) (saved_after ts ss)
saved_set ts ss n s within same =
    saved_push ts (take n ss) s
    ∙ ap (λ name. saved_after ts (take n ss) ++ saved_of name (tables_after ts (take n ss)) ∷ []) same
    ∙ sym (saved_push ts (take n ss) (get_or ss n s))
    ∙ ap (saved_after ts) (sym (take_more ss n s within))
    ∙ saved_take (n + 1) ts ss

pub after_changed : (ts : Listed) (ss : List Savepoint) (s : Savepoint) (c : Rc Catalog Global) → s.changed ≡ Some c → tables_after ts (ss ++ s ∷ []) ≡ listed_in c.value
after_changed ts ss s c is = after_push ts ss s ∙ ap (changed_to (tables_after ts ss)) is

pub after_none : (ts : Listed) (ss : List Savepoint) (s : Savepoint) → s.changed ≡ None → tables_after ts (ss ++ s ∷ []) ≡ tables_after ts ss
after_none ts ss s is = after_push ts ss s ∙ ap (changed_to (tables_after ts ss)) is

-- the last one set
last_set : (ss : List Savepoint) (n : ℕ) (s : Savepoint) → n + 1 ≡ length ss → set ss n s ≡ take n ss ++ s ∷ []
last_set ss n s is = ap (λ (xs : List Savepoint). set xs n s) (sym (take_all (n + 1) ss (omega (arith, is)))) ∙ newest_set ss n s (omega (arith, is))

pub set_current : (ts : Listed) (ss : List Savepoint) (n : ℕ) (s : Savepoint) (c : Rc Catalog Global) → n + 1 ≡ length ss → s.changed ≡ Some c → tables_after ts (set ss n s) ≡ listed_in c.value
set_current ts ss n s c is changed = ap (tables_after ts) (last_set ss n s is) ∙ after_changed ts (take n ss) s c changed

pub set_saved : (ts : Listed) (ss : List Savepoint) (n : ℕ) (s : Savepoint) → n + 1 ≡ length ss → s.name ≡ (get_or ss n s).name → saved_after ts (set ss n s) ≡ saved_after ts ss
set_saved ts ss n s is same =
    ap (saved_after ts) (last_set ss n s is)
    ∙ saved_set ts ss n s (omega (arith, is)) same
    ∙ take_all (n + 1) (saved_after ts ss) (omega (arith, is, saved_length ts ss))

-- without the newest one
pub saved_pop : (ts : Listed) (ss : List Savepoint) (s : Savepoint) → saved_after ts ss ≡ take (length ss) (saved_after ts (ss ++ s ∷ []))
saved_pop ts ss s = sym (ap (take (length ss)) (saved_push ts ss s) ∙ take_at (saved_after ts ss) (saved_of s.name (tables_after ts ss) ∷ []) (length ss) (saved_length ts ss))

-- ---- by names

name_here : (ss : List Savepoint) (place : ℕ) (s : Savepoint) (d : Name) → 0 < place → place ≤ length ss → s ≡ get_or ss (place - 1) s → get_or (map (λ (x : Savepoint). x.name) ss) (place - 1) d ≡ s.name
name_here ss place s d above below is = get_or-map (λ (x : Savepoint). x.name) ss (place - 1) s d (omega (arith, above, below)) ∙ ap (λ (x : Savepoint). x.name) (sym is)

pub newest_here : (ts : Listed) (ss : List Savepoint) (n : Name) (place : ℕ) (s : Savepoint) → 0 < place → place ≤ length ss → list_any (λ other. is_same_name other n) (drop place (map (λ (x : Savepoint). x.name) ss)) ≡ false
    → s ≡ get_or ss (place - 1) s → is_same_name s.name n ≡ true → IsNewestNamed n (map (λ (p : SavedTables). p.name) (saved_after ts ss)) (place - 1)
newest_here ts ss n place s above below none is same =
    subst (λ (names : List Name). IsNewestNamed n names (place - 1)) (sym (saved_names ts ss)) (record {
      within = omega (arith, above, below, length-map ss (λ (x : Savepoint). x.name));
      named = λ d. ap (λ name. is_same_name name n) (name_here ss place s d above below is) ∙ same;
      last = ap (λ k. list_any (λ other. is_same_name other n) (drop k (map (λ (x : Savepoint). x.name) ss))) (omega (arith, above)) ∙ none;
    })

pub none_from_here : (ss : List Savepoint) (n : Name) (place : ℕ) (s : Savepoint) → 0 < place → place ≤ length ss → list_any (λ other. is_same_name other n) (drop place (map (λ (x : Savepoint). x.name) ss)) ≡ false
    → s ≡ get_or ss (place - 1) s → is_same_name s.name n ≡ false → (place - 1 ≤ length ss) × (list_any (λ other. is_same_name other n) (drop (place - 1) (map (λ (x : Savepoint). x.name) ss)) ≡ false)
none_from_here ss n place s above below none is other =
    let names : List Name = map (λ (x : Savepoint). x.name) ss in
    let any : List Name → Bool = list_any (λ other. is_same_name other n) in (
      omega (arith, below),
      ap any (drop_more names (place - 1) s.name (omega (arith, above, below, length-map ss (λ (x : Savepoint). x.name))))
          ∙ ap (λ b. b || any (drop (place - 1 + 1) names)) (ap (λ name. is_same_name name n) (name_here ss place s s.name above below is) ∙ other)
          ∙ ap (λ k. any (drop k names)) (omega (arith, above)) ∙ none,
    )

pub none_at_all : (ts : Listed) (ss : List Savepoint) (n : Name) (place : ℕ) → place ≤ 0 → list_any (λ other. is_same_name other n) (drop place (map (λ (x : Savepoint). x.name) ss)) ≡ false
    → list_any (λ other. is_same_name other n) (map (λ (p : SavedTables). p.name) (saved_after ts ss)) ≡ false
none_at_all ts ss n place low none =
    let start : 0 ≡ place = omega (arith, low) in
    ap (list_any (λ other. is_same_name other n)) (saved_names ts ss)
    ∙ ap (λ k. list_any (λ other. is_same_name other n) (drop k (map (λ (x : Savepoint). x.name) ss))) start ∙ none

-- ---- of the catalogs

abbrev kept_as : Bool → List SavedTables → Savepoints
kept_as began points = record { began = began; points = points }

pub adds : (old : SavedCatalogs) (v : Vec Savepoint Global) (n : Name) → v.items ≡ old.savepoints.items ++ record { name = n; changed = None } ∷ [] → AddsSavepoint n old.began old (record old { savepoints = v })
adds old v n is =
    let ts = first_in old in
    let s : Savepoint = record { name = n; changed = None } in
    record {
      current = ap (tables_after ts) is ∙ after_none ts old.savepoints.items s refl;
      committed = refl;
      savepoints = ap (kept_as old.began) (ap (saved_after ts) is ∙ saved_push ts old.savepoints.items s);
    }

pub goes_back : (old : SavedCatalogs) (v : Vec Savepoint Global) (place : ℕ) (s : Savepoint) (cut : List Savepoint) → cut ≡ take (place + 1) old.savepoints.items → v.items ≡ set cut place s → s.changed ≡ None → s.name ≡ (get_or cut place s).name
    → place < length (savepoints_in old).points → GoesBackTo place old (record old { savepoints = v })
goes_back old v place s cut taken is none same within =
    let ts = first_in old in
    let ss = old.savepoints.items in
    let below : place < length ss = omega (arith, within, saved_length ts ss) in
    let items : v.items ≡ take place ss ++ s ∷ [] = is ∙ ap (λ (xs : List Savepoint). set xs place s) taken ∙ newest_set ss place s below in
    let name : s.name ≡ (get_or ss place s).name = same ∙ ap (λ (xs : List Savepoint). (get_or xs place s).name) taken ∙ ap (λ (x : Savepoint). x.name) (get_or-take (place + 1) ss place s (omega arith)) in
    record {
      current = λ d. ap (tables_after ts) items ∙ after_none ts (take place ss) s none ∙ sym (saved_at place ts ss d below);
      committed = refl;
      savepoints = ap (kept_as old.began) (ap (saved_after ts) items ∙ saved_set ts ss place s below name);
    }

pub pops : (old : SavedCatalogs) (v : Vec Savepoint Global) (s : Savepoint) (new : SavedCatalogs) → old.savepoints.items ≡ v.items ++ s ∷ [] → current_in new ≡ changed_to (current_in (record old { savepoints = v })) s.changed
    → committed_in new ≡ committed_in old → savepoints_in new ≡ savepoints_in (record old { savepoints = v }) → ReleasesFrom (length (savepoints_in old).points - 1) old new
pops old v s new is current committed savepoints =
    let ts = first_in old in
    let count : length v.items ≡ length (savepoints_in old).points - 1 = omega (arith, saved_length ts old.savepoints.items, ap length is, length_push v.items s) in
    record {
      current = current ∙ sym (ap (tables_after ts) is ∙ after_push ts v.items s);
      committed = committed;
      savepoints = savepoints ∙ ap (kept_as old.began) (saved_pop ts v.items s ∙ ap (take (length v.items)) (ap (saved_after ts) (sym is)) ∙ ap (λ n. take n (savepoints_in old).points) count);
    }

saved_so : (s : SavedCatalogs) → length (savepoints_in s).points ≡ length s.savepoints.items
saved_so s = saved_length (first_in s) s.savepoints.items

pub released_count : (old new : SavedCatalogs) → ReleasesFrom (length (savepoints_in old).points - 1) old new → length new.savepoints.items ≡ length old.savepoints.items - 1
released_count old new is =
    let n = length (savepoints_in old).points - 1 in
    let left : length (savepoints_in new).points ≡ n = ap (λ (s : Savepoints). length s.points) is.savepoints ∙ length-take-le n (savepoints_in old).points (omega arith) in
    omega (arith, left, saved_so old, saved_so new)

pub releases_none : (s : SavedCatalogs) → ReleasesFrom (length s.savepoints.items) s s
releases_none s = record { current = refl; committed = refl; savepoints = ap (kept_as s.began) (sym (take_all (length s.savepoints.items) (savepoints_in s).points (omega (arith, saved_so s)))) }

pub releases_on : (first old new : SavedCatalogs) → ReleasesFrom (length old.savepoints.items) first old → ReleasesFrom (length (savepoints_in old).points - 1) old new → ReleasesFrom (length new.savepoints.items) first new
releases_on first old new before is =
    let n = length (savepoints_in old).points - 1 in
    let count : n ≡ length new.savepoints.items = omega (arith, released_count old new is, saved_so old) in
    record {
      current = is.current ∙ before.current;
      committed = is.committed ∙ before.committed;
      savepoints = is.savepoints ∙ ap (λ (s : Savepoints). kept_as s.began (take n s.points)) before.savepoints
          ∙ ap (kept_as first.began) (take-take n (length old.savepoints.items) (savepoints_in first).points (omega (arith, saved_so old)))
          ∙ ap (λ k. kept_as first.began (take k (savepoints_in first).points)) count;
    }

pub no_parts : (s : SavedCatalogs) → (savepoints_in s).points ≡ [] → current_in s ≡ first_in s
no_parts s none = ap (tables_after (first_in s)) (nil_from_length s.savepoints.items (sym (saved_so s) ∙ ap length none))

-- ---- other tables below savepoints after which none were changed

pub after_unchanged : (ts : Listed) (ss : List Savepoint) → tables_after ts (map unchanged ss) ≡ ts
after_unchanged ts [] = refl
after_unchanged ts (s ∷ ss) = after_unchanged ts ss

pub saved_unchanged : (base ts : Listed) (ss : List Savepoint) → saved_after ts (map unchanged ss) ≡ map (λ (p : SavedTables). record { name = p.name; tables = ts }) (saved_after base ss)
saved_unchanged base ts [] = refl
saved_unchanged base ts (s ∷ ss) = ap (λ (ps : List SavedTables). saved_of s.name ts ∷ ps) (saved_unchanged (changed_to base s.changed) ts ss)

pub rebased_is : (old new : SavedCatalogs) (newest : Rc Catalog Global) → new.committed ≡ newest → new.changed ≡ None → new.began ≡ old.began → new.savepoints.items ≡ map unchanged old.savepoints.items → Rebases (listed_in newest.value) old new
rebased_is old new newest committed changed began items =
    let ts = listed_in newest.value in
    let first : first_in new ≡ ts = ap (changed_to (committed_in new)) changed ∙ ap (λ (c : Rc Catalog Global). listed_in c.value) committed in
    record {
      current = ap (λ (xs : Listed). tables_after xs new.savepoints.items) first ∙ ap (tables_after ts) items ∙ after_unchanged ts old.savepoints.items;
      committed = ap (λ (c : Rc Catalog Global). listed_in c.value) committed;
      savepoints = ap (λ b. kept_as b (saved_after (first_in new) new.savepoints.items)) began
          ∙ ap (λ (xs : Listed). kept_as old.began (saved_after xs new.savepoints.items)) first
          ∙ ap (λ (ss : List Savepoint). kept_as old.began (saved_after ts ss)) items
          ∙ ap (kept_as old.began) (saved_unchanged (first_in old) ts old.savepoints.items);
    }

set_next : (xs : List Savepoint) (i : ℕ) (d : Savepoint) → i < length (take i (map unchanged xs) ++ drop i xs)
    → set (take i (map unchanged xs) ++ drop i xs) i (unchanged (get_or (take i (map unchanged xs) ++ drop i xs) i d)) ≡ take (suc i) (map unchanged xs) ++ drop (suc i) xs
set_next [] zero d within = absurd (omega (arith, within))
set_next [] (suc i) d within = absurd (omega (arith, within))
set_next (x ∷ xs) zero d within = refl
set_next (x ∷ xs) (suc i) d within = ap (λ (ss : List Savepoint). unchanged x ∷ ss) (set_next xs i d (omega (arith, within)))

-- a loop over savepoints that forgets the changes of each
pub forgets_next : (xs items : List Savepoint) (i : ℕ) (d : Savepoint) → i < length items → items ≡ take i (map unchanged xs) ++ drop i xs → set items i (unchanged (get_or items i d)) ≡ take (i + 1) (map unchanged xs) ++ drop (i + 1) xs
forgets_next xs items i d within is = ap (λ (ss : List Savepoint). set ss i (unchanged (get_or ss i d))) is ∙ set_next xs i d (omega (arith, within, ap length is))
    ∙ ap (λ k. take k (map unchanged xs) ++ drop k xs) (let next : suc i ≡ i + 1 = omega arith in next)

-- ---- no savepoints

pub items_none : (s : SavedCatalogs) → (savepoints_in s).points ≡ [] → s.savepoints.items ≡ []
items_none s none = nil_from_length s.savepoints.items (sym (saved_so s) ∙ ap length none)

pub unchanged_so : (s : SavedCatalogs) → s.changed ≡ None → s.savepoints.items ≡ [] → current_in s ≡ committed_in s
unchanged_so s changed items = ap (λ (ts : Listed). tables_after ts s.savepoints.items) (ap (changed_to (committed_in s)) changed) ∙ ap (tables_after (committed_in s)) items

pub none_so : (s : SavedCatalogs) → s.began ≡ false → s.savepoints.items ≡ [] → savepoints_in s ≡ record { began = false; points = [] }
none_so s began items = ap (λ b. kept_as b (saved_after (first_in s) s.savepoints.items)) began ∙ ap (λ (ss : List Savepoint). kept_as false (saved_after (first_in s) ss)) items
