-- What is known of the names of a change whose names were looked up.
use Rattle.std.proofs.Common.{◌≡◌, refl, sym, ap, subst, ◌∙◌, ℕ, Bool, false, List, [], ◌∷◌, ◌++◌, map, length, Option, Some, None}
use Rattle.std.specs.List.{AllByRecursion, list_any}
use Rattle.std.specs.FinMap.Entries.{find}
use Rattle.sqlval.specs.Names.{folded}
use Rattle.sqlval.specs.Refusals.{Misuse, Refusal, ◌then◌}
use Rattle.sql_syntax.specs.declared.change.Change.{Change}
use Rattle.sql_syntax.specs.declared.change.Change.TheVariants as text
use Rattle.sql_syntax.specs.declared.change.Delete.{Delete}
use Rattle.sql_syntax.specs.declared.change.Insert.{Insert}
use Rattle.sql_syntax.specs.declared.change.Update.{Update}
use Rattle.sql_syntax.specs.declared.change.InsertSource.{InsertSource}
use Rattle.sql_syntax.specs.declared.change.InsertSource.TheVariants as source
use Rattle.sql_syntax.specs.declared.query.Join.{Join}
use Rattle.sql_syntax.specs.declared.query.Query.{Query}
use Rattle.catalog.specs.Database.{Database, Name, name_order, object}
use Rattle.std.specs.Prelude.{⊤, Ok, not, ◌&&◌, ◌==◌, if◌then◌else◌}
use Rattle.sql_syntax.specs.Tree.{Tree}
use Rattle.query_names.specs.Readings.{rows_over}
use Rattle.query_names.specs.Checked.{known_then, Checked, Meant, good, meant, faults, noted, also, both, known_all, known_map, ◌and_then◌, unless}
use Rattle.query_names.specs.Expressions.{resolve}
use Rattle.query_names.specs.Known.{IsKnownIn}
use Rattle.query_names.specs.Queries.{Lookup, as_reading, is_open_item, resolve_filter, resolve_items, resolve_join, resolve_order, resolve_query, resolve_sources, source_name, sources_of}
use Rattle.query_names.specs.Scopes.{beside, source_of}
use Rattle.query_names.specs.Views.{all_rows, columns_of, columns_of_object, loaded, look_up, plain_rows, rows_of, rows_of_object, view_columns}
use Rattle.query_names.specs.declared.reading.Condition.{Condition}
use Rattle.query_names.specs.declared.reading.Reading.{Reading}
use Rattle.query_names.specs.declared.scope.ScopeColumn.{ScopeColumn}
use Rattle.query_names.specs.declared.scope.ScopeSource.{ScopeSource}
use Rattle.query_names.proofs.ColumnNames.{folded_twice}
use Rattle.query_terms.specs.Terms.{Term}
use Rattle.row_change.specs.Changes.{Deletes, Given, GivenQuery, GivenRows, Inserts, Outer, Resolved, Updates, insert_places, resolve_change, resolve_given, resolve_sets, target, wanted}
use Rattle.row_change.specs.RowChanges.{Deleting, Event, Inserting, Updating}
use Rattle.trigger.specs.Binding.{aim_of}
use Rattle.trigger_names.specs.Resolved.{bound_given}
use Rattle.trigger_names.specs.declared.giving.BoundRows.{BoundRows}
use Rattle.trigger_names.specs.declared.giving.BoundRows.TheVariants as rows
use Rattle.executor_programs.specs.Querying.{AreKnownSources, KnowsGiven}

abbrev Seen : Type 0
Seen = Checked (List ScopeColumn × Bool)

-- ---- parts of what isn't refused

none_left : (rs ss : List Refusal) → rs ++ ss ≡ [] → (rs ≡ []) × (ss ≡ [])
none_left [] ss h = (refl, h)
none_left (r ∷ rs) ss h = absurd cc

also_meant : {A : Type 0} (rs : List Refusal) (k : Checked A) → meant (also rs k) ≡ meant k
also_meant rs (Meant y ss) = refl

also_faults : {A : Type 0} (rs : List Refusal) (k : Checked A) → faults (also rs k) ≡ rs ++ faults k
also_faults rs (Meant y ss) = refl

pub then_meant : {A B : Type 0} (k : Checked A) (f : A → Checked B) → meant (k and_then f) ≡ meant (f (meant k))
then_meant (Meant x rs) f = also_meant rs (f x)

then_faults : {A B : Type 0} (k : Checked A) (f : A → Checked B) → faults (k and_then f) ≡ faults k ++ faults (f (meant k))
then_faults (Meant x rs) f = also_faults rs (f x)

-- a whole that isn't refused has parts that aren't
pub then_good : {A B : Type 0} (k : Checked A) (f : A → Checked B) → faults (k and_then f) ≡ [] → (faults k ≡ []) × (faults (f (meant k)) ≡ [])
then_good k f h = none_left (faults k) (faults (f (meant k))) (sym (then_faults k f) ∙ h)

both_good : {A B C : Type 0} (f : A → B → C) (a : Checked A) (b : Checked B) → faults (both f a b) ≡ [] → (faults a ≡ []) × (faults b ≡ [])
both_good f (Meant x rs) (Meant y ss) h = none_left rs ss h

both_meant : {A B C : Type 0} (f : A → B → C) (a : Checked A) (b : Checked B) → meant (both f a b) ≡ f (meant a) (meant b)
both_meant f (Meant x rs) (Meant y ss) = refl

map_good : {A B : Type 0} (f : A → B) (k : Checked A) → faults (known_map f k) ≡ [] → faults k ≡ []
map_good f (Meant x rs) h = h

map_meant : {A B : Type 0} (f : A → B) (k : Checked A) → meant (known_map f k) ≡ f (meant k)
map_meant f (Meant x rs) = refl

whole : {A : Type 0} (k : Checked A) → faults k ≡ [] → k ≡ Meant (meant k) []
whole (Meant x rs) h = ap (Meant x) h

-- ---- the sources of a query beside NEW and OLD

-- what follows a source's columns
abbrev after_source : Lookup → List ScopeSource → Join → List Join → Seen → Checked (List ScopeSource × List (Name × Condition))
after_source look before j js found =
    resolve_join (before ++ source_of (source_name j.source) found ∷ []) j.kind j.condition and_then λ c.
    known_map (λ rest. (rest.0, (folded j.source.name, c) ∷ rest.1)) (resolve_sources look (before ++ source_of (source_name j.source) found ∷ []) js)

-- what follows the sources of a query
abbrev clauses_of : List ScopeSource → Query → List ScopeSource × List (Name × Condition) → Checked Reading
clauses_of outer q s =
    resolve_filter s.0 q.condition and_then λ filter.
    known_all (map (resolve false s.0) q.groups) and_then λ keys.
    resolve_items s.0 q.results and_then λ results.
    as_reading (length outer) q (list_any (is_open_item s.0) q.results) s.1 filter keys results
    (map (λ o. (resolve_order s.0 q.results results o.expression, o.is_descending)) q.order)

abbrev outer_of : List ScopeSource → Query → List ScopeSource
outer_of outer q = beside outer (map (λ j. source_name j.source) (sources_of q))

sources_then : {A : Type 0} (k : Checked A) (f : A → Checked Reading) (ss : List (Name × Condition)) → (meant (f (meant k))).sources ≡ ss → (meant (k and_then f)).sources ≡ ss
sources_then k f ss h = ap (λ (r : Reading). r.sources) (then_meant k f) ∙ h

sources_are : (outer : List ScopeSource) (q : Query) (s : List ScopeSource × List (Name × Condition)) → (meant (clauses_of outer q s)).sources ≡ s.1
sources_are outer q s =
    sources_then (resolve_filter s.0 q.condition) _ s.1
    (sources_then (known_all (map (resolve false s.0) q.groups)) _ s.1 (sources_then (resolve_items s.0 q.results) _ s.1 refl))

query_sources : (look : Lookup) (outer : List ScopeSource) (q : Query) → (meant (resolve_query look outer q)).sources ≡ (meant (resolve_sources look (outer_of outer q) (sources_of q))).1
query_sources look outer q =
    sources_then (resolve_sources look (outer_of outer q) (sources_of q)) (clauses_of outer q) (meant (resolve_sources look (outer_of outer q) (sources_of q))).1
    (sources_are outer q (meant (resolve_sources look (outer_of outer q) (sources_of q))))

-- each source has what is so of names whose lookup isn't refused
each_source : (P : Name → Type 0) (look : Lookup) → ((k : Name) → faults (look k) ≡ [] → P (folded k)) → (js : List Join) (before : List ScopeSource)
    → faults (resolve_sources look before js) ≡ [] → AllByRecursion (λ (s : Name × Condition). P s.0) (meant (resolve_sources look before js)).1
each_source P look each [] before h = tt
each_source P look each (j ∷ js) before h =
    subst (λ (r : List ScopeSource × List (Name × Condition)). AllByRecursion (λ (s : Name × Condition). P s.0) r.1) (sym (then_meant (noted (look j.source.name)) (after_source look before j js)))
    (after (each_source P look each js) (look j.source.name) (each j.source.name (then_good (noted (look j.source.name)) (after_source look before j js) h).0)
    (then_good (noted (look j.source.name)) (after_source look before j js) h).1)
  where
    after : ((here : List ScopeSource) → faults (resolve_sources look here js) ≡ [] → AllByRecursion (λ (s : Name × Condition). P s.0) (meant (resolve_sources look here js)).1)
        → (found : Seen) → P (folded j.source.name) → faults (after_source look before j js found) ≡ []
        → AllByRecursion (λ (s : Name × Condition). P s.0) (meant (after_source look before j js found)).1
    after rest found first e =
        let here : List ScopeSource = before ++ source_of (source_name j.source) found ∷ [] in
        let onto : Condition → List ScopeSource × List (Name × Condition) → List ScopeSource × List (Name × Condition) = λ c r. (r.0, (folded j.source.name, c) ∷ r.1) in
        let join = resolve_join here j.kind j.condition in
        let good = then_good join (λ c. known_map (onto c) (resolve_sources look here js)) e in
        subst (λ (r : List ScopeSource × List (Name × Condition)). AllByRecursion (λ (s : Name × Condition). P s.0) r.1)
        (sym (then_meant join (λ c. known_map (onto c) (resolve_sources look here js)) ∙ map_meant (onto (meant join)) (resolve_sources look here js)))
        (first, rest here (map_good (onto (meant join)) (resolve_sources look here js) good.1))

-- ---- names on a database

-- a name stands for the same, whichever letters are large
pub same_look : (db : Database) (a b : Name) → folded a ≡ folded b → look_up db a ≡ look_up db b
same_look db a b same =
    ap (λ (m : Name). columns_of_object (λ v. view_columns v (resolve_query (columns_of 63 db (m ∷ [])) [] v.query)) (find name_order m db)) same

pub same_object : (db : Database) (a b : Name) → folded a ≡ folded b → object db a ≡ object db b
same_object db a b same = ap (λ (m : Name). find name_order m db) same

pub sources_in : (db : Database) (outer : List ScopeSource) (q : Query) → faults (resolve_query (look_up db) outer q) ≡ []
    → AreKnownSources db (meant (resolve_query (look_up db) outer q)).sources
sources_in db outer q h =
    subst (AllByRecursion (λ (s : Name × Condition). IsKnownIn 64 db s.0)) (sym (query_sources (look_up db) outer q))
    (each_source (IsKnownIn 64 db) (look_up db) (λ k e. ([], ap faults (same_look db (folded k) k (folded_twice k)) ∙ e)) (sources_of q) (outer_of outer q)
    (then_good (resolve_sources (look_up db) (outer_of outer q) (sources_of q)) (clauses_of outer q) h).0)

-- ---- a change that isn't refused

abbrev event_in : Resolved → Event
event_in (Inserts n places given) = Inserting
event_in (Updates n sets set w) = Updating set
event_in (Deletes n w) = Deleting

through : {A : Type 0} (k : Checked A) (f : A → Checked Resolved) (e : Event) → ((s : A) → event_in (meant (f s)) ≡ e) → event_in (meant (k and_then f)) ≡ e
through k f e each = ap event_in (then_meant k f) ∙ each (meant k)

event_of_both : {A B : Type 0} (f : A → B → Resolved) (a : Checked A) (b : Checked B) (e : Event) → ((x : A) (y : B) → event_in (f x y) ≡ e) → event_in (meant (both f a b)) ≡ e
event_of_both f a b e each = ap event_in (both_meant f a b) ∙ each (meant a) (meant b)

event_of_map : {A : Type 0} (f : A → Resolved) (k : Checked A) (e : Event) → ((x : A) → event_in (f x) ≡ e) → event_in (meant (known_map f k)) ≡ e
event_of_map f k e each = ap event_in (map_meant f k) ∙ each (meant k)

-- a change after its table or view
abbrev row_scope : Outer → ScopeSource → List ScopeSource
row_scope outer s = beside outer.scope (s.name ∷ []) ++ s ∷ []

abbrev inserts : Insert → List ℕ → Given → Resolved
inserts i places given = Inserts (folded i.table) places given

abbrev updates : Update → List (ℕ × Term) → Option Term → Resolved
updates u sets w = Updates (folded u.table) sets (map (λ x. folded x.column) u.assignments) w

abbrev deletes : Delete → Option Term → Resolved
deletes d w = Deletes (folded d.table) w

abbrev insert_after : Database → Outer → Insert → ScopeSource → Checked Resolved
insert_after db outer i s = both (inserts i) (insert_places s i.columns) (resolve_given db outer (wanted s i.columns) i.source)

abbrev update_after : Outer → Update → ScopeSource → Checked Resolved
update_after outer u s = both (updates u) (resolve_sets (row_scope outer s) s u.assignments) (resolve_filter (row_scope outer s) u.condition)

abbrev delete_after : Outer → Delete → ScopeSource → Checked Resolved
delete_after outer d s = known_map (deletes d) (resolve_filter (row_scope outer s) d.condition)

resolved_event : (db : Database) (outer : Outer) (c : Change) → event_in (meant (resolve_change db outer c)) ≡ (aim_of c).event
resolved_event db outer (text.Insert i) =
    through (target db i.table) (insert_after db outer i) Inserting
    (λ s. event_of_both (inserts i) (insert_places s i.columns) (resolve_given db outer (wanted s i.columns) i.source) Inserting (λ x y. refl))
resolved_event db outer (text.Update u) =
    let e : Event = Updating (map (λ x. folded x.column) u.assignments) in
    through (target db u.table) (update_after outer u) e
    (λ s. event_of_both (updates u) (resolve_sets (row_scope outer s) s u.assignments) (resolve_filter (row_scope outer s) u.condition) e (λ x y. refl))
resolved_event db outer (text.Delete d) =
    through (target db d.table) (delete_after outer d) Deleting (λ s. event_of_map (deletes d) (resolve_filter (row_scope outer s) d.condition) Deleting (λ x. refl))

target_known : (db : Database) (name : Name) → faults (target db name) ≡ [] → faults (look_up db name) ≡ []
target_known db name h = (then_good (noted (look_up db name)) (λ found. good (source_of (folded name) found)) h).0

module _ (db : Database) (outer : Outer) (c : Change) where
  -- what is resolved is of the change's kind
  pub of_kind : (r : Resolved) → resolve_change db outer c ≡ Meant r [] → event_in r ≡ (aim_of c).event
  of_kind r is = sym (ap (λ (k : Checked Resolved). event_in (meant k)) is) ∙ resolved_event db outer c

  -- its table or view isn't refused
  pub aim_known : faults (resolve_change db outer c) ≡ [] → faults (look_up db (aim_of c).target) ≡ []
  aim_known h = by c h
    where
      by : (c : Change) → faults (resolve_change db outer c) ≡ [] → faults (look_up db (aim_of c).target) ≡ []
      by (text.Insert i) h = ap faults (same_look db (folded i.table) i.table (folded_twice i.table)) ∙ target_known db i.table (then_good (target db i.table) (insert_after db outer i) h).0
      by (text.Update u) h = ap faults (same_look db (folded u.table) u.table (folded_twice u.table)) ∙ target_known db u.table (then_good (target db u.table) (update_after outer u) h).0
      by (text.Delete d) h = ap faults (same_look db (folded d.table) d.table (folded_twice d.table)) ∙ target_known db d.table (then_good (target db d.table) (delete_after outer d) h).0

  twice : (name : Name) → folded name ≡ (aim_of c).target → folded (aim_of c).target ≡ folded name
  twice name same = ap folded (sym same) ∙ folded_twice name

  module _ (name : Name) (same : folded name ≡ (aim_of c).target) where
    pub look_same : look_up db (aim_of c).target ≡ look_up db name
    look_same = same_look db (aim_of c).target name (twice name same)

    pub rows_same : all_rows db name ≡ all_rows db (aim_of c).target
    rows_same =
        ap (λ (m : Name). rows_of_object (λ v. known_then (resolve_query (look_up db) [] v.query) λ q. loaded (rows_of 63 db) q.sources then λ sources. rows_over q [] sources then λ rows. Ok (plain_rows rows)) (find name_order m db))
        (sym (twice name same))

    pub name_known : faults (resolve_change db outer c) ≡ [] → IsKnownIn 64 db name
    name_known h = ([], ap faults (sym look_same) ∙ aim_known h)

-- ---- the rows that an INSERT gives

-- the sources of what is given are known
abbrev KnowsRows : Database → Given → Type 0
KnowsRows db (GivenRows terms) = ⊤
KnowsRows db (GivenQuery q) = AreKnownSources db q.sources

abbrev given_in : Resolved → Given
given_in (Inserts n places given) = given
given_in _ = GivenRows []

abbrev terms_in : Outer → List (List Tree) → Checked (List (List Term))
terms_in outer terms = known_all (map (λ r. known_all (map (resolve false outer.scope) r)) terms)

abbrev differs : Option ℕ → ℕ → Bool
differs None n = false
differs (Some m) n = not (m == n)

no_sources : (db : Database) (terms : List (List Term)) → KnowsRows db (GivenRows terms)
no_sources db terms = tt

given_good : (db : Database) (outer : Outer) (w : Option ℕ) (from : InsertSource) → faults (resolve_given db outer w from) ≡ [] → KnowsRows db (meant (resolve_given db outer w from))
given_good db outer w (source.Rows terms) h =
    subst (KnowsRows db)
    (sym (also_meant (if list_any (λ r. differs w (length r)) terms then Misuse ∷ [] else []) (known_map GivenRows (terms_in outer terms)) ∙ map_meant GivenRows (terms_in outer terms)))
    (no_sources db (meant (terms_in outer terms)))
given_good db outer w (source.Query q) h =
    let k : Checked Reading = resolve_query (look_up db) outer.scope q in
    let f : Reading → Checked Given = λ r. unless (not r.is_open && differs w (length r.results)) Misuse (good (GivenQuery r)) in
    subst (KnowsRows db) (sym (then_meant k f)) (sources_in db outer.scope q (then_good k f h).0)

change_good : (db : Database) (outer : Outer) (c : Change) → faults (resolve_change db outer c) ≡ [] → KnowsRows db (given_in (meant (resolve_change db outer c)))
change_good db outer (text.Insert i) h =
    let s : ScopeSource = meant (target db i.table) in
    subst (λ (r : Resolved). KnowsRows db (given_in r))
    (sym (then_meant (target db i.table) (insert_after db outer i) ∙ both_meant (inserts i) (insert_places s i.columns) (resolve_given db outer (wanted s i.columns) i.source)))
    (given_good db outer (wanted s i.columns) i.source
    (both_good (inserts i) (insert_places s i.columns) (resolve_given db outer (wanted s i.columns) i.source) (then_good (target db i.table) (insert_after db outer i) h).1).1)
change_good db outer (text.Update u) h =
    let s : ScopeSource = meant (target db u.table) in
    subst (λ (r : Resolved). KnowsRows db (given_in r))
    (sym (then_meant (target db u.table) (update_after outer u) ∙ both_meant (updates u) (resolve_sets (row_scope outer s) s u.assignments) (resolve_filter (row_scope outer s) u.condition)))
    (no_sources db [])
change_good db outer (text.Delete d) h =
    let s : ScopeSource = meant (target db d.table) in
    subst (λ (r : Resolved). KnowsRows db (given_in r))
    (sym (then_meant (target db d.table) (delete_after outer d) ∙ map_meant (deletes d) (resolve_filter (row_scope outer s) d.condition)))
    (no_sources db [])

pub given_known : (db : Database) (outer : Outer) (c : Change) (n : Name) (places : List ℕ) (given : BoundRows) → resolve_change db outer c ≡ Meant (Inserts n places (bound_given given)) [] → KnowsGiven db given
given_known db outer c n places given is =
    known given (subst (λ (k : Checked Resolved). KnowsRows db (given_in (meant k))) is (change_good db outer c (ap faults is)))
  where
    known : (given : BoundRows) → KnowsRows db (bound_given given) → KnowsGiven db given
    known (rows.Rows terms) k = tt
    known (rows.Query reading) k = k
