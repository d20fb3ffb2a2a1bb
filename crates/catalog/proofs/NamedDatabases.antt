-- Databases whose names are in order and folded, and those of listed tables.
use Rattle.std.proofs.Common.{◌≡◌, inl, inr, refl, sym, ap, subst, ◌∙◌, ℕ, ℤ, Bool, true, false, List, [], ◌∷◌, map, Option, Some, None, cond}
use Rattle.std.proofs.lemmas.Bool.{false≢true}
use Rattle.std.proofs.lemmas.Cmp.{nat_list_cmp_total}
use Rattle.std.proofs.lemmas.Map.Lookups.{exact_bytes}
use Rattle.std.proofs.lemmas.Map.Text.{is_eq-slice_cmp}
use Rattle.std.proofs.lemmas.Map.Views.{Contains-from_any, list_any-from_Contains, tells_apart}
use Rattle.std.proofs.lemmas.Str.Ascii.{lowercase-lowercase}
use Rattle.std.specs.Char.{to_ascii_lowercase}
use Rattle.std.specs.Cmp.{eq_by_cmp_equiv, tied_itself}
use Rattle.std.specs.FinMap.Entries.{put, find, find-put, by_order, below_all, is_sorted, is_sorted-put, is_some-find, same_entries}
use Rattle.std.specs.List as list
use Rattle.std.specs.List.{AllByRecursion, list_all}
use Rattle.std.specs.Ordering.{eq_by_cmp, is_eq, is_lt}
use Rattle.std.specs.Prelude.{MatchOption, T, is_some, option_map}
use Rattle.std.specs.Str.{bytes_eq}
use Rattle.std.specs.declared.cmp.Ordering.{Ordering}
use Rattle.std.specs.declared.cmp.Ordering.TheVariants.{Less, Equal, Greater}
use Rattle.sqlval.specs.Lists.{is_rising}
use Rattle.sqlval.specs.Names.{folded, is_same_name}
use Rattle.sqlval.specs.declared.value.Value.{Value}
use Rattle.catalog.specs.Database.{Name, Database, Object, ATable, AnIndex, AView, ATrigger, object, with_object, name_order}
use Rattle.catalog.specs.Laws.{IsIndexOrNone, IsNoSource}
use Rattle.catalog.specs.Listed.{Listed, Lists, as_view, named_among, objects_of, with_rows, table_named, trigger_named, view_named}
use Rattle.catalog.specs.Named.{IsInOrder, IsNamed, KeepsNamed, ListedDatabase, ListedNames, OneDatabase}
use Rattle.catalog.specs.Rows.{are_rows, holds_rows}
use Rattle.catalog.specs.declared.tables.Table.{Table}
use Rattle.catalog.specs.declared.tables.Trigger.{Trigger}
use Rattle.catalog.specs.declared.tables.View.{View}
use Rattle.catalog.proofs.Found.{as_object, behind_found, listed_as, no_table}
use Rattle.catalog.proofs.OtherRows.{both_true, first_true, rest_true}

-- ---- rising names

less : (o : Ordering) → is_lt o ≡ true → o ≡ Less
less Less h = refl
less Equal h = absurd (false≢true h)
less Greater h = absurd (false≢true h)

holds : (b : Bool) → b ≡ true → T b
holds b h = subst T (sym h) tt

is_so : (b : Bool) → T b → b ≡ true
is_so true h = refl
is_so false h = absurd h

-- what is before a name is before those that follow it
before_all : (es : Database) (x y : Name) → name_order x y ≡ Less → below_all name_order y es ≡ true → below_all name_order x es ≡ true
before_all [] x y p h = refl
before_all (e ∷ es) x y p h =
    both_true (is_lt (name_order x e.0)) (below_all name_order x es)
    (ap is_lt (nat_list_cmp_total.trans x y e.0 p (less _ (first_true _ (below_all name_order y es) h))))
    (before_all es x y p (rest_true _ (below_all name_order y es) h))

first_below : (es : Database) (x : Name) → is_rising name_order (x ∷ map (λ o. o.0) es) ≡ true → below_all name_order x es ≡ true
first_below [] x h = refl
first_below (e ∷ es) x h =
    let lt = first_true _ (is_rising name_order (e.0 ∷ map (λ o. o.0) es)) h in
    both_true (is_lt (name_order x e.0)) (below_all name_order x es) lt
    (before_all es x e.0 (less _ lt) (first_below es e.0 (rest_true _ (is_rising name_order (e.0 ∷ map (λ o. o.0) es)) h)))

rising_rest : (names : List Name) (x : Name) → is_rising name_order (x ∷ names) ≡ true → is_rising name_order names ≡ true
rising_rest [] x h = refl
rising_rest (y ∷ names) x h = rest_true _ (is_rising name_order (y ∷ names)) h

pub in_order : (db : Database) → is_rising name_order (map (λ o. o.0) db) ≡ true → is_sorted name_order db ≡ true
in_order [] h = refl
in_order (e ∷ es) h = both_true (below_all name_order e.0 es) (is_sorted name_order es) (first_below es e.0 h) (in_order es (rising_rest (map (λ o. o.0) es) e.0 h))

pub rising : (db : Database) → is_sorted name_order db ≡ true → is_rising name_order (map (λ o. o.0) db) ≡ true
rising [] h = refl
rising (e ∷ []) h = refl
rising (e ∷ f ∷ fs) h =
    both_true (is_lt (name_order e.0 f.0)) (is_rising name_order (f.0 ∷ map (λ o. o.0) fs))
    (first_true _ (below_all name_order e.0 fs) (first_true (below_all name_order e.0 (f ∷ fs)) (is_sorted name_order (f ∷ fs)) h))
    (rising (f ∷ fs) (rest_true (below_all name_order e.0 (f ∷ fs)) (is_sorted name_order (f ∷ fs)) h))

-- ---- folded names

pub folded_twice : (a : Name) → folded (folded a) ≡ folded a
folded_twice [] = refl
folded_twice (c ∷ cs) = ap (λ x. x ∷ folded (folded cs)) (lowercase-lowercase c) ∙ ap (λ xs. to_ascii_lowercase c ∷ xs) (folded_twice cs)

abbrev pub AreFolded : Database → Type 0
AreFolded db = AllByRecursion (λ o. folded o.0 ≡ o.0) db

-- what isn't folded is no name
not_found : (db : Database) (q : Name) → (folded q ≡ q → ⊥) → AreFolded db → find name_order q db ≡ None
not_found [] q other h = refl
not_found (e ∷ es) q other h = by_test (not_found es q other h.1) (eq_by_cmp name_order q e.0) refl
  where
    by_test : find name_order q es ≡ None → (b : Bool) → eq_by_cmp name_order q e.0 ≡ b → cond b (Some e.1) (find name_order q es) ≡ None
    by_test rest true k = let same = tells_apart exact_bytes q e.0 k in absurd (other (ap folded same ∙ (h.0 ∙ sym same)))
    by_test rest false k = rest

found_folded : (db : Database) (q : Name) → AreFolded db → find name_order q db ≡ cond (bytes_eq (folded q) q) (object db q) None
found_folded db q h = by_test (bytes_eq (folded q) q) refl
  where
    by_test : (b : Bool) → bytes_eq (folded q) q ≡ b → find name_order q db ≡ cond b (object db q) None
    by_test true k = ap (λ n. find name_order n db) (sym (tells_apart exact_bytes (folded q) q (is_eq-slice_cmp (folded q) q ∙ k)))
    by_test false k = not_found db q (λ e. false≢true (sym k ∙ (sym (is_eq-slice_cmp (folded q) q) ∙ subst (λ n. eq_by_cmp name_order (folded q) n ≡ true) e (ap is_eq (tied_itself nat_list_cmp_total (folded q)))))) h

pub one_database : OneDatabase
one_database a b named others same =
    same_entries name_order nat_list_cmp_total exact_bytes a b (holds (is_sorted name_order a) (in_order a named.rising)) (holds (is_sorted name_order b) (in_order b others.rising))
    (λ q. found_folded a q named.each_folded ∙ (ap (λ o. cond (bytes_eq (folded q) q) o None) (same q) ∙ sym (found_folded b q others.each_folded)))

-- ---- with an object more

put_folded : (db : Database) (k : Name) (o : Object) → folded k ≡ k → AreFolded db → AreFolded (put name_order k o db)
put_folded [] k o e h = (e, tt)
put_folded (f ∷ fs) k o e h = by_place (put_folded fs k o e h.1) (name_order k f.0)
  where
    by_place : AreFolded (put name_order k o fs) → (r : Ordering) → AreFolded (by_order r ((k, o) ∷ f ∷ fs) ((f.0, o) ∷ fs) (f ∷ put name_order k o fs))
    by_place rest Less = (e, h)
    by_place rest Equal = h
    by_place rest Greater = (h.0, rest)

pub keeps_named : KeepsNamed
keeps_named db name o named = record {
  rising = rising (with_object db name o) (is_so (is_sorted name_order (with_object db name o)) (is_sorted-put name_order nat_list_cmp_total (folded name) o db (holds (is_sorted name_order db) (in_order db named.rising))));
  each_folded = put_folded db (folded name) o (folded_twice name) named.each_folded;
}

-- ---- listed tables

pub same_test : (a b : Name) → eq_by_cmp name_order a b ≡ bytes_eq b a
same_test a b = (eq_by_cmp_equiv nat_list_cmp_total).symm a b ∙ is_eq-slice_cmp b a

-- the first of some objects is what their database has
record IsOfObjects (objects : List (Name × Object)) (db : Database) : Type 0 where
  pub named : IsNamed db
  pub finds : (name : Name) → object db name ≡ named_among name objects

database_of : (objects : List (Name × Object)) → (db : Database) × IsOfObjects objects db
database_of [] = ([], record { named = record { rising = refl; each_folded = tt }; finds = λ name. refl })
database_of (o ∷ os) =
    let (db, is) = database_of os in (
      with_object db o.0 o.1,
      record {
        named = keeps_named db o.0 o.1 is.named;
        finds = λ name.
            find-put name_order nat_list_cmp_total (folded name) (folded o.0) o.1 db
            ∙ (ap (λ b. cond b (Some o.1) (object db name)) (same_test (folded name) (folded o.0))
            ∙ (ap (cond (is_same_name o.0 name) (Some o.1)) (is.finds name) ∙ by_test name (is_same_name o.0 name)));
      },
    )
  where
    by_test : (name : Name) (b : Bool) → cond b (Some o.1) (named_among name os)
        ≡ option_map (λ (x : Name × Object). x.1) (cond b (Some o) (list.find (λ (x : Name × Object). is_same_name x.0 name) os))
    by_test name true = refl
    by_test name false = refl

pub listed_database : ListedDatabase
listed_database rows_at l =
    let (db, is) = database_of (objects_of rows_at l) in (db, is.named, is.finds)

-- what is found at any name
found_listed : (rows_at : ℕ → List (ℤ × List Value)) (l : Listed) (db : Database) (q : Name) → AreFolded db → Lists rows_at l db
    → find name_order q db ≡ cond (bytes_eq (folded q) q) (named_among q (objects_of rows_at l)) None
found_listed rows_at l db q h lists = found_folded db q h ∙ ap (λ o. cond (bytes_eq (folded q) q) o None) (lists q)

-- a name that a test finds is the name of a listed object
named_by : (name : Name) (b : Bool) (found : Option Object) → bytes_eq (folded name) name ≡ b
    → is_some (cond b found None) ≡ true → (folded name ≡ name) × (is_some found ≡ true)
named_by name true found e h = (tells_apart exact_bytes (folded name) name (is_eq-slice_cmp (folded name) name ∙ e), h)
named_by name false found e h = absurd (false≢true h)

pub listed_names : ListedNames
listed_names rows_at l db named lists name = (
  λ contains. named_by name (bytes_eq (folded name) name) (named_among name (objects_of rows_at l)) refl
      (sym (ap is_some (found_listed rows_at l db name named.each_folded lists)) ∙ (is_some-find name_order name db
      ∙ list_any-from_Contains (eq_by_cmp_equiv nat_list_cmp_total) name (map (λ o. o.0) db) contains)),
  λ h. Contains-from_any (tells_apart exact_bytes) name (map (λ o. o.0) db) (sym (is_some-find name_order name db)
      ∙ (ap is_some (ap (λ n. find name_order n db) (sym h.0) ∙ lists name) ∙ h.1)),
)

-- ---- their rows

pub not_below : (es : Database) (q : Name) → below_all name_order q es ≡ true → find name_order q es ≡ None
not_below [] q h = refl
not_below (e ∷ es) q h =
    ap (λ r. cond (is_eq r) (Some e.1) (find name_order q es)) (less _ (first_true _ (below_all name_order q es) h))
    ∙ not_below es q (rest_true _ (below_all name_order q es) h)

some_is_none : {A : Type 0} (x : A) → Some x ≡ None → ⊥
some_is_none x e = false≢true (sym (ap is_some e))

-- what holds of each object that is found holds of all
each_found : (es : Database) → is_sorted name_order es ≡ true → ((q : Name) (o : Object) → find name_order q es ≡ Some o → holds_rows o ≡ true) → list_all (λ o. holds_rows o.1) es ≡ true
each_found [] sorted each = refl
each_found (e ∷ es) sorted each =
    both_true (holds_rows e.1) (list_all (λ o. holds_rows o.1) es)
    (each e.0 e.1 (ap (λ r. cond (is_eq r) (Some e.1) (find name_order e.0 es)) (tied_itself nat_list_cmp_total e.0)))
    (each_found es (rest_true (below_all name_order e.0 es) (is_sorted name_order es) sorted) (λ q o found. each q o (by_test q o found (eq_by_cmp name_order q e.0) refl)))
  where
    by_test : (q : Name) (o : Object) → find name_order q es ≡ Some o → (b : Bool) → eq_by_cmp name_order q e.0 ≡ b → cond b (Some e.1) (find name_order q es) ≡ Some o
    by_test q o found true k =
        absurd (some_is_none o (sym found ∙ (ap (λ n. find name_order n es) (tells_apart exact_bytes q e.0 k)
        ∙ not_below es e.0 (first_true (below_all name_order e.0 es) (is_sorted name_order es) sorted))))
    by_test q o found false k = found

same_object : (some other : Object) → Some some ≡ Some other → some ≡ other
same_object some other e = cc

-- the rows of a table that is found are such as it may hold, and no other object has rows
rows_in : (rows_at : ℕ → List (ℤ × List Value)) (behind : Option Object) (o : Object) (found : Option Table) → ((x : Object) → behind ≡ Some x → holds_rows x ≡ true)
    → ((t : Table) → found ≡ Some t → are_rows (with_rows t (rows_at t.root)) ≡ true) → as_object rows_at behind found ≡ Some o → holds_rows o ≡ true
rows_in rows_at behind o (Some t) others each h = ap holds_rows (sym (same_object (ATable (with_rows t (rows_at t.root))) o h)) ∙ each t refl
rows_in rows_at behind o None others each h = others o h

no_rows_in : (found : Option Object) → IsIndexOrNone found → (x : Object) → found ≡ Some x → holds_rows x ≡ true
no_rows_in found (inl none) x h = absurd (some_is_none x (sym h ∙ none))
no_rows_in found (inr (i, is)) x h = ap holds_rows (same_object x (AnIndex i) (sym h ∙ is))

no_source_rows : (name : Name) (l : Listed) (found : Option Object) (x : Object) → IsNoSource l name found → found ≡ Some x → holds_rows x ≡ true
no_source_rows name l found x = by_case (trigger_named name l.triggers)
  where
    by_case : (named : Option Trigger) → MatchOption named (IsIndexOrNone found) (λ t. found ≡ Some (ATrigger t.definition)) → found ≡ Some x → holds_rows x ≡ true
    by_case None none h = no_rows_in found none x h
    by_case (Some t) is h = ap holds_rows (same_object x (ATrigger t.definition) (sym h ∙ is))

no_rows_behind : (name : Name) (l : Listed) (x : Object) → behind_found name l ≡ Some x → holds_rows x ≡ true
no_rows_behind name l x h = by_case (view_named name l.views) (no_table name l)
  where
    by_case : (found : Option View) → MatchOption found (IsNoSource l name (behind_found name l)) (λ v. behind_found name l ≡ Some (AView (as_view v))) → holds_rows x ≡ true
    by_case None none = no_source_rows name l (behind_found name l) x none h
    by_case (Some v) is = ap holds_rows (same_object x (AView (as_view v)) (sym h ∙ is))

rows_by : (o : Object) (b : Bool) (found : Option Object) → (found ≡ Some o → holds_rows o ≡ true) → cond b found None ≡ Some o → holds_rows o ≡ true
rows_by o true found each h = each h
rows_by o false found each h = absurd (some_is_none o (sym h))

pub listed_in_order : IsInOrder
listed_in_order rows_at l db named lists each =
    both_true (is_rising name_order (map (λ o. o.0) db)) (list_all (λ o. holds_rows o.1) db) named.rising
    (each_found db (in_order db named.rising) (λ q o found.
    rows_by o (bytes_eq (folded q) q) (named_among q (objects_of rows_at l))
    (λ is. rows_in rows_at (behind_found q l) o (table_named q l.tables) (no_rows_behind q l) (each q) (sym (listed_as rows_at q l) ∙ is))
    (sym (found_listed rows_at l db q named.each_folded lists) ∙ found)))
