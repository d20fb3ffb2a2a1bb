-- What the names of tables, of views, of triggers and of indexes find.
use Rattle.std.proofs.Common.{◌≡◌, inl, inr, refl, sym, ap, subst, ◌∙◌, ℕ, ℤ, Bool, true, false, List, [], ◌∷◌, ◌++◌, append_assoc, map, Option, Some, None, cond}
use Rattle.std.specs.Prelude.{flat_map, is_some, option_map, MatchOption, ◌||◌}
use Rattle.std.specs.List as list
use Rattle.std.specs.List.{list_any}
use Rattle.std.specs.declared.alloc.Global.{Global}
use Rattle.std.specs.declared.rc.Rc.{Rc}
use denote.Ref.{Bor}
use Rattle.sqlval.specs.Names.{is_same_name}
use Rattle.sqlval.specs.declared.value.Value.{Value}
use Rattle.catalog.specs.Database.{Name, Object, ATable, AnIndex, AView, ATrigger, object}
use Rattle.catalog.specs.Laws.{FindsListed, IsIndexOrNone, IsNoSource, IsNoTable, NamesListed}
use Rattle.catalog.specs.Listed.{Listed, as_view, has_index, has_table_name, index_objects, is_name_of, is_table, is_trigger, is_view, named_among, objects_of, as_index, with_rows, table_named, table_object, treeless_objects, trigger_named, trigger_object, view_named, view_object}
use Rattle.catalog.specs.declared.tables.Index.{Index as ListedIndex}
use Rattle.catalog.specs.declared.tables.Table.{Table}
use Rattle.catalog.specs.declared.tables.Trigger.{Trigger}
use Rattle.catalog.specs.declared.tables.View.{View}

-- what a name finds among the indexes of tables
abbrev pub index_found : Name → List Table → Option Object
index_found name tables = named_among name (flat_map index_objects tables)

-- what a name finds behind the views: among the triggers, or else among the indexes
abbrev pub behind_views : Name → Listed → Option Object
behind_views name l = named_among name (map trigger_object l.triggers ++ flat_map index_objects l.tables)

-- what a name finds behind the tables: among the views, or else behind them
abbrev pub behind_found : Name → Listed → Option Object
behind_found name l = named_among name (treeless_objects l ++ flat_map index_objects l.tables)

-- a table that was found as an object, or else what is found behind the tables
abbrev pub as_object : (ℕ → List (ℤ × List Value)) → Option Object → Option Table → Option Object
as_object rows_at behind None = behind
as_object rows_at behind (Some t) = Some (ATable (with_rows t (rows_at t.root)))

one_more : (name : Name) (o : Name × Object) (os : List (Name × Object)) (b : Bool) → is_same_name o.0 name ≡ b
    → named_among name (o ∷ os) ≡ cond b (Some o.1) (named_among name os)
one_more name o os true e = ap (λ b. option_map (λ (o : Name × Object). o.1) (cond b (Some o) (list.find (λ (o : Name × Object). is_same_name o.0 name) os))) e
one_more name o os false e = ap (λ b. option_map (λ (o : Name × Object). o.1) (cond b (Some o) (list.find (λ (o : Name × Object). is_same_name o.0 name) os))) e

-- objects are found as tables first, and then behind them
pub found_first : (rows_at : ℕ → List (ℤ × List Value)) (name : Name) (tables : List Table) (os : List (Name × Object))
    → named_among name (map (table_object rows_at) tables ++ os) ≡ as_object rows_at (named_among name os) (table_named name tables)
found_first rows_at name [] os = refl
found_first rows_at name (t ∷ ts) os =
    one_more name (table_object rows_at t) (map (table_object rows_at) ts ++ os) (is_table name t) refl ∙ by_test (found_first rows_at name ts os) (is_table name t)
  where
    by_test : named_among name (map (table_object rows_at) ts ++ os) ≡ as_object rows_at (named_among name os) (table_named name ts)
        → (b : Bool) → cond b (Some (ATable (with_rows t (rows_at t.root)))) (named_among name (map (table_object rows_at) ts ++ os)) ≡ as_object rows_at (named_among name os) (cond b (Some t) (table_named name ts))
    by_test rest true = refl
    by_test rest false = rest

pub listed_as : (rows_at : ℕ → List (ℤ × List Value)) (name : Name) (l : Listed)
    → named_among name (objects_of rows_at l) ≡ as_object rows_at (behind_found name l) (table_named name l.tables)
listed_as rows_at name l = found_first rows_at name l.tables (treeless_objects l ++ flat_map index_objects l.tables)

-- a view that was found as an object, or else what is found behind the views
abbrev pub as_seen : Option Object → Option View → Option Object
as_seen behind None = behind
as_seen behind (Some v) = Some (AView (as_view v))

-- objects are found as views first, and then behind them
pub views_first : (name : Name) (views : List View) (os : List (Name × Object)) → named_among name (map view_object views ++ os) ≡ as_seen (named_among name os) (view_named name views)
views_first name [] os = refl
views_first name (v ∷ vs) os = one_more name (view_object v) (map view_object vs ++ os) (is_view name v) refl ∙ by_test (views_first name vs os) (is_view name v)
  where
    by_test : named_among name (map view_object vs ++ os) ≡ as_seen (named_among name os) (view_named name vs)
        → (b : Bool) → cond b (Some (AView (as_view v))) (named_among name (map view_object vs ++ os)) ≡ as_seen (named_among name os) (cond b (Some v) (view_named name vs))
    by_test rest true = refl
    by_test rest false = rest

pub seen_first : (name : Name) (l : Listed) → behind_found name l ≡ as_seen (behind_views name l) (view_named name l.views)
seen_first name l =
    ap (named_among name) (append_assoc (map view_object l.views) (map trigger_object l.triggers) (flat_map index_objects l.tables))
    ∙ views_first name l.views (map trigger_object l.triggers ++ flat_map index_objects l.tables)

-- a trigger that was found as an object, or else what is found behind the triggers
abbrev pub as_set_off : Option Object → Option Trigger → Option Object
as_set_off behind None = behind
as_set_off behind (Some t) = Some (ATrigger t.definition)

-- objects are found as triggers first, and then behind them
pub triggers_first : (name : Name) (triggers : List Trigger) (os : List (Name × Object))
    → named_among name (map trigger_object triggers ++ os) ≡ as_set_off (named_among name os) (trigger_named name triggers)
triggers_first name [] os = refl
triggers_first name (t ∷ ts) os = one_more name (trigger_object t) (map trigger_object ts ++ os) (is_trigger name t) refl ∙ by_test (triggers_first name ts os) (is_trigger name t)
  where
    by_test : named_among name (map trigger_object ts ++ os) ≡ as_set_off (named_among name os) (trigger_named name ts)
        → (b : Bool) → cond b (Some (ATrigger t.definition)) (named_among name (map trigger_object ts ++ os)) ≡ as_set_off (named_among name os) (cond b (Some t) (trigger_named name ts))
    by_test rest true = refl
    by_test rest false = rest

-- where one of two lists has it, or else the other
index_behind : (name : Name) (t : Table) (is : List ListedIndex) (os : List (Name × Object)) → IsIndexOrNone (named_among name os)
    → IsIndexOrNone (named_among name (map (λ (i : ListedIndex). (i.name, AnIndex (as_index t i))) is ++ os))
index_behind name t [] os h = h
index_behind name t (i ∷ is) os h =
    subst IsIndexOrNone (sym (one_more name (i.name, AnIndex (as_index t i)) (map (λ (i : ListedIndex). (i.name, AnIndex (as_index t i))) is ++ os) (is_same_name i.name name) refl))
    (by_test (index_behind name t is os h) (is_same_name i.name name))
  where
    by_test : IsIndexOrNone (named_among name (map (λ (i : ListedIndex). (i.name, AnIndex (as_index t i))) is ++ os))
        → (b : Bool) → IsIndexOrNone (cond b (Some (AnIndex (as_index t i))) (named_among name (map (λ (i : ListedIndex). (i.name, AnIndex (as_index t i))) is ++ os)))
    by_test rest true = inr (as_index t i, refl)
    by_test rest false = rest

-- nothing else stands among the indexes
only_indexes : (name : Name) (tables : List Table) → IsIndexOrNone (index_found name tables)
only_indexes name [] = inl refl
only_indexes name (t ∷ ts) = index_behind name t t.indexes (flat_map index_objects ts) (only_indexes name ts)

-- neither a table nor a view stands behind the views
pub no_source : (name : Name) (l : Listed) → IsNoSource l name (behind_views name l)
no_source name l = by_case (trigger_named name l.triggers) (triggers_first name l.triggers (flat_map index_objects l.tables))
  where
    by_case : (found : Option Trigger) → behind_views name l ≡ as_set_off (index_found name l.tables) found
        → MatchOption found (IsIndexOrNone (behind_views name l)) (λ t. behind_views name l ≡ Some (ATrigger t.definition))
    by_case None e = subst IsIndexOrNone (sym e) (only_indexes name l.tables)
    by_case (Some t) e = e

-- no table stands behind the tables
pub no_table : (name : Name) (l : Listed) → IsNoTable l name (behind_found name l)
no_table name l = by_case (view_named name l.views) (seen_first name l)
  where
    by_case : (found : Option View) → behind_found name l ≡ as_seen (behind_views name l) found → MatchOption found (IsNoSource l name (behind_found name l)) (λ v. behind_found name l ≡ Some (AView (as_view v)))
    by_case None e = subst (IsNoSource l name) (sym e) (no_source name l)
    by_case (Some v) e = e

pub finds_listed : FindsListed
finds_listed rows_at l db name lists = by_case (table_named name l.tables) (lists name ∙ listed_as rows_at name l)
  where
    by_case : (found : Option Table) → object db name ≡ as_object rows_at (behind_found name l) found
        → MatchOption found (IsNoTable l name (object db name)) (λ t. object db name ≡ Some (ATable (with_rows t (rows_at t.root))))
    by_case None e = subst (IsNoTable l name) (sym e) (no_table name l)
    by_case (Some t) e = e

-- ---- names

table_any : (name : Name) (tables : List Table) → is_some (table_named name tables) ≡ list_any (is_table name) tables
table_any name [] = refl
table_any name (t ∷ ts) = by_test (table_any name ts) (is_table name t)
  where
    by_test : is_some (table_named name ts) ≡ list_any (is_table name) ts → (b : Bool) → is_some (cond b (Some t) (table_named name ts)) ≡ (b || list_any (is_table name) ts)
    by_test rest true = refl
    by_test rest false = rest

index_any : (name : Name) (t : Table) (is : List ListedIndex) (os : List (Name × Object)) → is_some (named_among name (map (λ (i : ListedIndex). (i.name, AnIndex (as_index t i))) is ++ os))
    ≡ (list_any (λ (i : ListedIndex). is_same_name i.name name) is || is_some (named_among name os))
index_any name t [] os = refl
index_any name t (i ∷ is) os =
    ap is_some (one_more name (i.name, AnIndex (as_index t i)) (map (λ (i : ListedIndex). (i.name, AnIndex (as_index t i))) is ++ os) (is_same_name i.name name) refl)
    ∙ by_test (index_any name t is os) (is_same_name i.name name)
  where
    by_test : is_some (named_among name (map (λ (i : ListedIndex). (i.name, AnIndex (as_index t i))) is ++ os)) ≡ (list_any (λ (i : ListedIndex). is_same_name i.name name) is || is_some (named_among name os))
        → (b : Bool) → is_some (cond b (Some (AnIndex (as_index t i))) (named_among name (map (λ (i : ListedIndex). (i.name, AnIndex (as_index t i))) is ++ os)))
        ≡ ((b || list_any (λ (i : ListedIndex). is_same_name i.name name) is) || is_some (named_among name os))
    by_test rest true = refl
    by_test rest false = rest

indexes_any : (name : Name) (tables : List Table) → is_some (index_found name tables) ≡ list_any (has_index name) tables
indexes_any name [] = refl
indexes_any name (t ∷ ts) = index_any name t t.indexes (flat_map index_objects ts) ∙ ap (λ b. has_index name t || b) (indexes_any name ts)

either : (a b c d : Bool) → ((a || b) || (c || d)) ≡ ((a || c) || (b || d))
either true b c d = refl
either false b true d = with_true b
  where
    with_true : (b : Bool) → (b || true) ≡ true
    with_true true = refl
    with_true false = refl
either false b false d = refl

-- a name of a table or of an index is one of the first or one of the second
pub any_either : (name : Name) (tables : List Table) → list_any (has_table_name name) tables ≡ (list_any (is_table name) tables || list_any (has_index name) tables)
any_either name [] = refl
any_either name (t ∷ ts) =
    ap (λ b. (is_table name t || has_index name t) || b) (any_either name ts)
    ∙ either (is_table name t) (has_index name t) (list_any (is_table name) ts) (list_any (has_index name) ts)

value_some : (found : Option (Bor (Rc Table Global))) → is_some found ≡ is_some (option_map (λ (t : Bor (Rc Table Global)). t.now.value) found)
value_some None = refl
value_some (Some t) = refl

-- whether a table has a name, by the table that was looked for
pub table_found : (name : Name) (tables : List Table) (found : Option (Bor (Rc Table Global))) (b : Bool) → b ≡ is_some found
    → option_map (λ (t : Bor (Rc Table Global)). t.now.value) found ≡ table_named name tables → b ≡ list_any (is_table name) tables
table_found name tables found b some is = some ∙ value_some found ∙ ap is_some is ∙ table_any name tables

-- a name of a table or of an index, by the table that was looked for
pub any_found : (name : Name) (tables : List Table) (found : Option (Bor (Rc Table Global))) (b : Bool) → b ≡ is_some found
    → option_map (λ (t : Bor (Rc Table Global)). t.now.value) found ≡ table_named name tables
    → list_any (has_table_name name) tables ≡ (b || list_any (has_index name) tables)
any_found name tables found b some is =
    any_either name tables ∙ sym (ap (λ it. it || list_any (has_index name) tables) (table_found name tables found b some is))

found_or_behind : (rows_at : ℕ → List (ℤ × List Value)) (behind : Option Object) (found : Option Table) → is_some (as_object rows_at behind found) ≡ (is_some found || is_some behind)
found_or_behind rows_at behind None = refl
found_or_behind rows_at behind (Some t) = refl

view_any : (name : Name) (views : List View) → is_some (view_named name views) ≡ list_any (is_view name) views
view_any name [] = refl
view_any name (v ∷ vs) = by_test (view_any name vs) (is_view name v)
  where
    by_test : is_some (view_named name vs) ≡ list_any (is_view name) vs → (b : Bool) → is_some (cond b (Some v) (view_named name vs)) ≡ (b || list_any (is_view name) vs)
    by_test rest true = refl
    by_test rest false = rest

seen_or_behind : (behind : Option Object) (found : Option View) → is_some (as_seen behind found) ≡ (is_some found || is_some behind)
seen_or_behind behind None = refl
seen_or_behind behind (Some v) = refl

trigger_any : (name : Name) (triggers : List Trigger) → is_some (trigger_named name triggers) ≡ list_any (is_trigger name) triggers
trigger_any name [] = refl
trigger_any name (t ∷ ts) = by_test (trigger_any name ts) (is_trigger name t)
  where
    by_test : is_some (trigger_named name ts) ≡ list_any (is_trigger name) ts → (b : Bool) → is_some (cond b (Some t) (trigger_named name ts)) ≡ (b || list_any (is_trigger name) ts)
    by_test rest true = refl
    by_test rest false = rest

set_off_or_behind : (behind : Option Object) (found : Option Trigger) → is_some (as_set_off behind found) ≡ (is_some found || is_some behind)
set_off_or_behind behind None = refl
set_off_or_behind behind (Some t) = refl

behind_views_any : (name : Name) (l : Listed) → is_some (behind_views name l) ≡ (list_any (is_trigger name) l.triggers || list_any (has_index name) l.tables)
behind_views_any name l =
    ap is_some (triggers_first name l.triggers (flat_map index_objects l.tables))
    ∙ (set_off_or_behind (index_found name l.tables) (trigger_named name l.triggers)
    ∙ (ap (λ b. b || is_some (index_found name l.tables)) (trigger_any name l.triggers)
    ∙ ap (λ b. list_any (is_trigger name) l.triggers || b) (indexes_any name l.tables)))

behind_any : (name : Name) (l : Listed) → is_some (behind_found name l) ≡ (list_any (is_view name) l.views || (list_any (is_trigger name) l.triggers || list_any (has_index name) l.tables))
behind_any name l =
    ap is_some (seen_first name l)
    ∙ (seen_or_behind (behind_views name l) (view_named name l.views)
    ∙ (ap (λ b. b || is_some (behind_views name l)) (view_any name l.views)
    ∙ ap (λ b. list_any (is_view name) l.views || b) (behind_views_any name l)))

turned : (a b c d : Bool) → (a || (b || (c || d))) ≡ ((a || d) || (b || c))
turned true b c d = refl
turned false true c true = refl
turned false true c false = refl
turned false false true true = refl
turned false false true false = refl
turned false false false true = refl
turned false false false false = refl

pub names_found : (rows_at : ℕ → List (ℤ × List Value)) (name : Name) (l : Listed) → is_some (named_among name (objects_of rows_at l)) ≡ is_name_of l name
names_found rows_at name l =
    ap is_some (listed_as rows_at name l)
    ∙ (found_or_behind rows_at (behind_found name l) (table_named name l.tables)
    ∙ (ap (λ b. b || is_some (behind_found name l)) (table_any name l.tables)
    ∙ (ap (λ b. list_any (is_table name) l.tables || b) (behind_any name l)
    ∙ (turned (list_any (is_table name) l.tables) (list_any (is_view name) l.views) (list_any (is_trigger name) l.triggers) (list_any (has_index name) l.tables)
    ∙ ap (λ b. b || (list_any (is_view name) l.views || list_any (is_trigger name) l.triggers)) (sym (any_either name l.tables))))))

pub names_listed : NamesListed
names_listed rows_at l db name lists = ap is_some (lists name) ∙ names_found rows_at name l
