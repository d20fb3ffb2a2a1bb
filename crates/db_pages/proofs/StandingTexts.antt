-- What the CREATE of a listed table, index, view or trigger makes, and that nothing refuses it beside the other objects.
use Rattle.std.proofs.Common.{◌≡◌, ◌∙◌, refl, sym, ap, ℕ, ℤ, Bool, true, false, cond, List, [], ◌∷◌, map, Option, Some, None}
use Rattle.std.specs.Prelude.{is_some, not}
use Rattle.std.specs.FinMap.Entries.{find}
use Rattle.std.specs.Ordering.{eq_by_cmp}
use Rattle.std.proofs.lemmas.Bool.{false≢true}
use Rattle.std.proofs.lemmas.Map.Lookups.{exact_bytes}
use Rattle.std.proofs.lemmas.Map.Views.{tells_apart}
use Rattle.sqlval.specs.Names.{folded, is_same_name}
use Rattle.sqlval.specs.Refusals.{Refusal, Exists, Misuse, NoSuch}
use Rattle.sqlval.specs.declared.collation.Collation.{Collation}
use Rattle.sqlval.specs.declared.value.Value.{Value}
use Rattle.sql_syntax.specs.declared.create.IndexDefinition.{IndexDefinition}
use Rattle.sql_syntax.specs.declared.create.TableDefinition.{TableDefinition}
use Rattle.sql_syntax.specs.declared.create.TriggerDefinition.{TriggerDefinition}
use Rattle.catalog.specs.Database as database
use Rattle.catalog.specs.Database.{ATable, AnIndex, AView, ATrigger, Database, Name, Object, name_order, object, with_object}
use Rattle.catalog.specs.Listed.{is_reserved, as_index, as_view, names_listed, with_rows}
use Rattle.catalog.specs.declared.tables.Index.{Index}
use Rattle.catalog.specs.declared.tables.Table.{Table}
use Rattle.catalog.specs.declared.tables.View.{View}
use Rattle.query_names.specs.Checked.{Checked, Meant, also, faults, good, known_map, ◌and_then◌, unless}
use Rattle.query_names.specs.Schema.{automatic, create_index, create_table, create_trigger, create_view, index_made, trigger_made, view_made, with_objects}
use Rattle.query_names.specs.Scopes.{is_doubled}
use Rattle.query_names.specs.Tables.{table_made}
use Rattle.query_names.proofs.ColumnNames.{folded_twice}
use Rattle.query_bind.specs.Indexed.{key_of, names_in}
use Rattle.db_pages.specs.Language.{others}
use Rattle.db_pages.specs.Schema.{IsIndexOf}
use Rattle.db_pages.proofs.NamedObjects.{named_same, same_named}

-- ---- texts that aren't refused

then_good : {A B : Type 0} (k : Checked A) (x : A) (f : A → Checked B) → k ≡ good x → (k and_then f) ≡ f x
then_good k x f e = ap (λ k. k and_then f) e ∙ plain (f x)
  where
    plain : {B : Type 0} (l : Checked B) → also [] l ≡ l
    plain (Meant y ss) = refl

unless_false : {A : Type 0} (b : Bool) (r : Refusal) (k : Checked A) → b ≡ false → unless b r k ≡ k
unless_false true r k h = absurd (false≢true (sym h))
unless_false false r (Meant x ss) h = refl

-- ---- beside the others

-- an object whose name is free and new, and what is made of the database with it
is_added : (f : Database → Database) (db : Database) (n : Name) (o : Object) (reserved : Bool) (taken : Option Object) → reserved ≡ false → taken ≡ None
    → known_map f (unless reserved Misuse (unless (is_some taken) Exists (known_map (with_object db n) (good o)))) ≡ good (f (with_object db n o))
is_added f db n o reserved taken free fresh =
    ap (λ b. known_map f (unless b Misuse (unless (is_some taken) Exists (known_map (with_object db n) (good o))))) free
    ∙ ap (λ t. known_map f (unless false Misuse (unless (is_some t) Exists (known_map (with_object db n) (good o))))) fresh

-- the others have no object of the name
pub none_other : (db : Database) (name : Name) → object (others db name) name ≡ None
none_other [] name = refl
none_other (e ∷ es) name = by_test (none_other es name) (is_same_name name e.0) refl
  where
    own : eq_by_cmp name_order (folded name) e.0 ≡ true → is_same_name name e.0 ≡ true
    own is = same_named name e.0 (sym (folded_twice name) ∙ ap folded (tells_apart exact_bytes (folded name) e.0 is))

    by_name : find name_order (folded name) (others es name) ≡ None → is_same_name name e.0 ≡ false → (c : Bool) → eq_by_cmp name_order (folded name) e.0 ≡ c
        → cond c (Some e.1) (find name_order (folded name) (others es name)) ≡ None
    by_name rest differ true is = absurd (false≢true (sym differ ∙ own is))
    by_name rest differ false is = rest

    by_test : find name_order (folded name) (others es name) ≡ None → (b : Bool) → is_same_name name e.0 ≡ b → find name_order (folded name) (cond (not b) (e ∷ others es name) (others es name)) ≡ None
    by_test rest true is = rest
    by_test rest false is = by_name rest is (eq_by_cmp name_order (folded name) e.0) refl

-- a definition whose name isn't reserved is refused by nothing there
pub not_refused : (db : Database) (d : TableDefinition) (t : database.Table) (keys : List (List (ℕ × Collation))) → table_made d ≡ good (t, keys) → is_reserved d.name ≡ false
    → faults (create_table (others db d.name) d) ≡ []
not_refused db d t keys made free = ap faults (
    then_good (table_made d) (t, keys) _ made
    ∙ is_added (λ after. with_objects after (automatic d.name 1 keys)) (others db d.name) d.name (ATable t) (is_reserved d.name) (object (others db d.name) d.name) free (none_other db d.name))

-- the others have what another name finds
pub other_kept : (db : Database) (name q : Name) → is_same_name name q ≡ false → object (others db name) q ≡ object db q
other_kept [] name q apart = refl
other_kept (e ∷ es) name q apart = by_test (other_kept es name q apart) (is_same_name name e.0) refl
  where
    own : is_same_name name e.0 ≡ true → eq_by_cmp name_order (folded q) e.0 ≡ true → ⊥
    own is there = false≢true (sym apart ∙ same_named name q (named_same name e.0 is ∙ sym (ap folded (tells_apart exact_bytes (folded q) e.0 there)) ∙ folded_twice q))

    by_name : find name_order (folded q) (others es name) ≡ object es q → is_same_name name e.0 ≡ true → (c : Bool) → eq_by_cmp name_order (folded q) e.0 ≡ c
        → find name_order (folded q) (others es name) ≡ cond c (Some e.1) (object es q)
    by_name rest is true there = absurd (own is there)
    by_name rest is false there = rest

    by_test : find name_order (folded q) (others es name) ≡ object es q → (b : Bool) → is_same_name name e.0 ≡ b
        → find name_order (folded q) (cond (not b) (e ∷ others es name) (others es name)) ≡ object (e ∷ es) q
    by_test rest true is = by_name rest is (eq_by_cmp name_order (folded q) e.0) refl
    by_test rest false is = ap (cond (eq_by_cmp name_order (folded q) e.0) (Some e.1)) rest

-- ---- an index

abbrev index_over : IndexDefinition → List (ℕ × Collation) → Object
index_over d ks = AnIndex (record { table = folded d.table; is_unique = d.is_unique; is_automatic = false; columns = ks })

abbrev index_with : Name → Bool → Bool → List (ℕ × Collation) → Object
index_with table unique made ks = AnIndex (record { table = table; is_unique = unique; is_automatic = made; columns = ks })

-- its CREATE makes the index, whatever rows the table has
pub index_is : (db : Database) (d : IndexDefinition) (t : Table) (i : Index) (rows : List (ℤ × List Value)) → IsIndexOf d t i
    → object db t.name ≡ Some (ATable (with_rows t rows)) → index_made (object db d.table) d ≡ good (AnIndex (as_index t i))
index_is db d t i rows is on =
    ap (λ n. index_made (find name_order n db) d) is.on
    ∙ ap (λ o. index_made o d) on
    ∙ ap (known_map (index_over d)) is.columns
    ∙ ap (λ n. good (index_with n d.is_unique false (map key_of i.columns))) is.on
    ∙ ap (λ b. good (index_with (folded t.name) b false (map key_of i.columns))) (sym is.unique)
    ∙ ap (λ b. good (index_with (folded t.name) i.is_unique b (map key_of i.columns))) (sym is.written)

-- a definition whose name isn't reserved is refused by nothing there
pub index_not_refused : (db : Database) (d : IndexDefinition) (made : Object) → is_doubled (names_in d.columns) ≡ false → is_reserved d.name ≡ false
    → is_same_name d.name d.table ≡ false → index_made (object db d.table) d ≡ good made → faults (create_index (others db d.name) d) ≡ []
index_not_refused db d made once free apart is = ap faults (
    unless_false (is_doubled (names_in d.columns)) Misuse _ once
    ∙ ap (λ k. unless (is_reserved d.name) Misuse (unless (is_some (object (others db d.name) d.name)) Exists (known_map (with_object (others db d.name) d.name) k)))
    (ap (λ o. index_made o d) (other_kept db d.name d.table apart) ∙ is)
    ∙ unless_false (is_reserved d.name) Misuse _ free
    ∙ ap (λ o. unless (is_some o) Exists (known_map (with_object (others db d.name) d.name) (good made))) (none_other db d.name))

-- a table and an index have two names
pub two_names : (db : Database) (a b : Name) (i : database.Index) (t : database.Table) → object db a ≡ Some (AnIndex i) → object db b ≡ Some (ATable t) → is_same_name a b ≡ false
two_names db a b i t index table = by_test (is_same_name a b) refl
  where
    other_object : Some (AnIndex i) ≡ Some (ATable t) → ⊥
    other_object h = absurd cc

    by_test : (same : Bool) → is_same_name a b ≡ same → same ≡ false
    by_test true is = absurd (other_object (sym index ∙ ap (λ n. find name_order n db) (named_same a b is) ∙ table))
    by_test false is = refl

-- ---- a view

-- its CREATE makes the view, where no name is listed twice
pub view_is : (v : View) → is_doubled (names_listed v.definition) ≡ false → view_made v.definition ≡ good (AView (as_view v))
view_is v once = unless_false (is_doubled (names_listed v.definition)) Misuse (good (AView (as_view v))) once

-- a definition whose name isn't reserved is refused by nothing there
pub view_not_refused : (db : Database) (v : View) → is_doubled (names_listed v.definition) ≡ false → is_reserved v.definition.name ≡ false
    → faults (create_view (others db v.definition.name) v.definition) ≡ []
view_not_refused db v once free =
    let name = v.definition.name in
    ap faults (
    ap (λ k. unless (is_reserved name) Misuse (unless (is_some (object (others db name) name)) Exists (known_map (with_object (others db name) name) k))) (view_is v once)
    ∙ is_added (λ after. after) (others db name) name (AView (as_view v)) (is_reserved name) (object (others db name) name) free (none_other db name))

-- ---- a trigger

-- it isn't on itself
pub on_another : (db : Database) (d : TriggerDefinition) → object db d.name ≡ Some (ATrigger d) → trigger_made (object db d.target) d ≡ good (ATrigger d) → is_same_name d.name d.target ≡ false
on_another db d found made = by_test (is_same_name d.name d.target) refl
  where
    no_source : NoSuch ∷ [] ≡ [] → ⊥
    no_source h = absurd cc

    by_test : (same : Bool) → is_same_name d.name d.target ≡ same → same ≡ false
    by_test true is =
        let here : object db d.target ≡ Some (ATrigger d) = ap (λ n. find name_order n db) (sym (named_same d.name d.target is)) ∙ found in
        absurd (no_source (ap (faults {A = Object}) (ap (λ o. trigger_made o d) (sym here) ∙ made)))
    by_test false is = refl

-- a definition whose name isn't reserved, and that fits what its ON names, is refused by nothing there
pub trigger_not_refused : (db : Database) (d : TriggerDefinition) → is_reserved d.name ≡ false → is_same_name d.name d.target ≡ false → trigger_made (object db d.target) d ≡ good (ATrigger d)
    → faults (create_trigger (others db d.name) d) ≡ []
trigger_not_refused db d free apart made = ap faults (
    ap (λ k. unless (is_reserved d.name) Misuse (unless (is_some (object (others db d.name) d.name)) Exists (known_map (with_object (others db d.name) d.name) k)))
    (ap (λ o. trigger_made o d) (other_kept db d.name d.target apart) ∙ made)
    ∙ is_added (λ after. after) (others db d.name) d.name (ATrigger d) (is_reserved d.name) (object (others db d.name) d.name) free (none_other db d.name))
