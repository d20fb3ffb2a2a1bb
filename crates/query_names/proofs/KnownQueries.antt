-- What isn't refused in one place isn't refused in another, with more room and within fewer views.
use Rattle.std.proofs.Common.{◌≡◌, refl, sym, ap, subst, ◌∙◌, ℕ, zero, suc, ◌≤◌, Bool, true, false, not, ◌&&◌, ◌||◌, ◌==◌, if◌then◌else◌, List, [], ◌∷◌, ◌++◌, length, map, Option, Some, None, arith}
use Rattle.std.specs.Prelude.{nat_lt}
use Rattle.std.specs.List.{AllByRecursion, list_any}
use Rattle.std.specs.Str.{bytes_eq}
use Rattle.sqlval.specs.Names.{folded, is_same_name}
use Rattle.sqlval.specs.Refusals.{Refusal, Misuse, TooLong}
use Rattle.sql_syntax.specs.declared.query.Join.{Join}
use Rattle.sql_syntax.specs.declared.query.Query.{Query}
use Rattle.catalog.specs.Database.{Database, Name, Object, View, ATable, AnIndex, AView, ATrigger, name_order, object}
use Rattle.std.specs.FinMap.Entries.{find}
use Rattle.query_names.specs.Checked.{Checked, Meant, bad, good, meant, faults, noted, also, known_all, known_map, ◌and_then◌, unless}
use Rattle.query_names.specs.Expressions.{resolve}
use Rattle.query_names.specs.Known.{IsKnownIn}
use Rattle.query_names.specs.Laws.{SourcesAreKnown, ViewsAreKnown}
use Rattle.query_names.specs.Queries.{Lookup, as_reading, is_open_item, resolve_filter, resolve_items, resolve_join, resolve_order, resolve_query, resolve_sources, source_name, sources_of}
use Rattle.query_names.specs.Scopes.{beside, source_of}
use Rattle.query_names.specs.Views.{columns_of, columns_of_object, renamed, unless_around, view_columns}
use Rattle.query_names.specs.declared.reading.Condition.{Condition}
use Rattle.query_names.specs.declared.reading.Reading.{Reading}
use Rattle.query_names.specs.declared.scope.ScopeColumn.{ScopeColumn}
use Rattle.query_names.specs.declared.scope.ScopeSource.{ScopeSource}
use Rattle.query_names.proofs.ColumnNames.{folded_twice}

abbrev Seen : Type 0
Seen = Checked (List ScopeColumn × Bool)

-- ---- parts of what isn't refused

none_left : (rs ss : List Refusal) → rs ++ ss ≡ [] → (rs ≡ []) × (ss ≡ [])
none_left [] ss h = (refl, h)
none_left (r ∷ rs) ss h = absurd cc

also_meant : {A : Type 0} (rs : List Refusal) (k : Checked A) → meant (also rs k) ≡ meant k
also_meant rs (Meant y ss) = refl

also_faults : {A : Type 0} (rs : List Refusal) (k : Checked A) → faults (also rs k) ≡ rs ++ faults k
also_faults rs (Meant y ss) = refl

then_meant : {A B : Type 0} (k : Checked A) (f : A → Checked B) → meant (k and_then f) ≡ meant (f (meant k))
then_meant (Meant x rs) f = also_meant rs (f x)

then_faults : {A B : Type 0} (k : Checked A) (f : A → Checked B) → faults (k and_then f) ≡ faults k ++ faults (f (meant k))
then_faults (Meant x rs) f = also_faults rs (f x)

-- a whole that isn't refused has parts that aren't
then_good : {A B : Type 0} (k : Checked A) (f : A → Checked B) → faults (k and_then f) ≡ [] → (faults k ≡ []) × (faults (f (meant k)) ≡ [])
then_good k f h = none_left (faults k) (faults (f (meant k))) (sym (then_faults k f) ∙ h)

map_good : {A B : Type 0} (f : A → B) (k : Checked A) → faults (known_map f k) ≡ [] → faults k ≡ []
map_good f (Meant x rs) h = h

whole : {A : Type 0} (k : Checked A) → faults k ≡ [] → k ≡ Meant (meant k) []
whole (Meant x rs) h = ap (Meant x) h

-- ---- one lookup in place of another

-- the second lookup answers what the first does where that isn't refused
abbrev Agrees : Lookup → Lookup → Type 0
Agrees look other = (k : Name) → faults (look k) ≡ [] → other k ≡ look k

-- what follows a source's columns
abbrev after_source : Lookup → List ScopeSource → Join → List Join → Seen → Checked (List ScopeSource × List (Name × Condition))
after_source look before j js found =
    resolve_join (before ++ source_of (source_name j.source) found ∷ []) j.kind j.condition and_then λ c.
    known_map (λ rest. (rest.0, (folded j.source.name, c) ∷ rest.1)) (resolve_sources look (before ++ source_of (source_name j.source) found ∷ []) js)

-- what follows is the same where it is the same of what is meant
then_same : {A B : Type 0} (k : Checked A) (f g : A → Checked B) → f (meant k) ≡ g (meant k) → (k and_then f) ≡ (k and_then g)
then_same (Meant x rs) f g h = ap (also rs) h

same_sources : (look other : Lookup) → Agrees look other → (js : List Join) (before : List ScopeSource) → faults (resolve_sources look before js) ≡ []
    → resolve_sources other before js ≡ resolve_sources look before js
same_sources look other agrees [] before h = refl
same_sources look other agrees (j ∷ js) before h =
    ap (λ found. noted found and_then after_source other before j js) (agrees j.source.name (then_good (noted (look j.source.name)) (after_source look before j js) h).0)
    ∙ then_same (noted (look j.source.name)) (after_source other before j js) (after_source look before j js)
    (after (same_sources look other agrees js) (look j.source.name) (then_good (noted (look j.source.name)) (after_source look before j js) h).1)
  where
    after : ((here : List ScopeSource) → faults (resolve_sources look here js) ≡ [] → resolve_sources other here js ≡ resolve_sources look here js)
        → (found : Seen) → faults (after_source look before j js found) ≡ [] → after_source other before j js found ≡ after_source look before j js found
    after rest found e =
        let here : List ScopeSource = before ++ source_of (source_name j.source) found ∷ [] in
        let onto : Condition → List ScopeSource × List (Name × Condition) → List ScopeSource × List (Name × Condition) = λ c r. (r.0, (folded j.source.name, c) ∷ r.1) in
        let join = resolve_join here j.kind j.condition in
        let good = then_good join (λ c. known_map (onto c) (resolve_sources look here js)) e in
        then_same join (λ c. known_map (onto c) (resolve_sources other here js)) (λ c. known_map (onto c) (resolve_sources look here js))
        (ap (known_map (onto (meant join))) (rest here (map_good (onto (meant join)) (resolve_sources look here js) good.1)))

-- what follows the sources of a query
abbrev clauses_of : List ScopeSource → Query → List ScopeSource × List (Name × Condition) → Checked Reading
clauses_of outer q s =
    resolve_filter s.0 q.condition and_then λ filter.
    known_all (map (resolve false s.0) q.groups) and_then λ keys.
    resolve_items s.0 q.results and_then λ results.
    as_reading (length outer) q (list_any (is_open_item s.0) q.results) s.1 filter keys results
    (map (λ o. (resolve_order s.0 q.results results o.expression, o.is_descending)) q.order)

abbrev outer_of : List ScopeSource → Query → List ScopeSource
outer_of outer q = beside outer (map (λ j. source_name j.source) (sources_of q))

sources_good : (look : Lookup) (outer : List ScopeSource) (q : Query) → faults (resolve_query look outer q) ≡ [] → faults (resolve_sources look (outer_of outer q) (sources_of q)) ≡ []
sources_good look outer q h = (then_good (resolve_sources look (outer_of outer q) (sources_of q)) (clauses_of outer q) h).0

pub same_query : (look other : Lookup) → Agrees look other → (outer : List ScopeSource) (q : Query) → faults (resolve_query look outer q) ≡ []
    → resolve_query other outer q ≡ resolve_query look outer q
same_query look other agrees outer q h =
    ap (λ k. k and_then clauses_of outer q) (same_sources look other agrees (sources_of q) (outer_of outer q) (sources_good look outer q h))

-- ---- the sources of a query

sources_then : {A : Type 0} (k : Checked A) (f : A → Checked Reading) (ss : List (Name × Condition)) → (meant (f (meant k))).sources ≡ ss → (meant (k and_then f)).sources ≡ ss
sources_then k f ss h = ap (λ (r : Reading). r.sources) (then_meant k f) ∙ h

sources_are : (outer : List ScopeSource) (q : Query) (s : List ScopeSource × List (Name × Condition)) → (meant (clauses_of outer q s)).sources ≡ s.1
sources_are outer q s =
    sources_then (resolve_filter s.0 q.condition) _ s.1
    (sources_then (known_all (map (resolve false s.0) q.groups)) _ s.1 (sources_then (resolve_items s.0 q.results) _ s.1 refl))

query_sources : (look : Lookup) (outer : List ScopeSource) (q : Query) → (meant (resolve_query look outer q)).sources ≡ (meant (resolve_sources look (outer_of outer q) (sources_of q))).1
query_sources look outer q =
    sources_then (resolve_sources look (outer_of outer q) (sources_of q)) (clauses_of outer q) (meant (resolve_sources look (outer_of outer q) (sources_of q))).1
    (sources_are outer q (meant (resolve_sources look (outer_of outer q) (sources_of q))))

map_meant : {A B : Type 0} (f : A → B) (k : Checked A) → meant (known_map f k) ≡ f (meant k)
map_meant f (Meant x rs) = refl

-- each source has what is so of names whose lookup isn't refused
each_source : (P : Name → Type 0) (look : Lookup) → ((k : Name) → faults (look k) ≡ [] → P (folded k)) → (js : List Join) (before : List ScopeSource)
    → faults (resolve_sources look before js) ≡ [] → AllByRecursion (λ (s : Name × Condition). P s.0) (meant (resolve_sources look before js)).1
each_source P look each [] before h = tt
each_source P look each (j ∷ js) before h =
    subst (λ (r : List ScopeSource × List (Name × Condition)). AllByRecursion (λ (s : Name × Condition). P s.0) r.1) (sym (then_meant (noted (look j.source.name)) (after_source look before j js)))
    (after (each_source P look each js) (look j.source.name) (each j.source.name (then_good (noted (look j.source.name)) (after_source look before j js) h).0)
    (then_good (noted (look j.source.name)) (after_source look before j js) h).1)
  where
    after : ((here : List ScopeSource) → faults (resolve_sources look here js) ≡ [] → AllByRecursion (λ (s : Name × Condition). P s.0) (meant (resolve_sources look here js)).1)
        → (found : Seen) → P (folded j.source.name) → faults (after_source look before j js found) ≡ []
        → AllByRecursion (λ (s : Name × Condition). P s.0) (meant (after_source look before j js found)).1
    after rest found first e =
        let here : List ScopeSource = before ++ source_of (source_name j.source) found ∷ [] in
        let onto : Condition → List ScopeSource × List (Name × Condition) → List ScopeSource × List (Name × Condition) = λ c r. (r.0, (folded j.source.name, c) ∷ r.1) in
        let join = resolve_join here j.kind j.condition in
        let good = then_good join (λ c. known_map (onto c) (resolve_sources look here js)) e in
        subst (λ (r : List ScopeSource × List (Name × Condition)). AllByRecursion (λ (s : Name × Condition). P s.0) r.1)
        (sym (then_meant join (λ c. known_map (onto c) (resolve_sources look here js)) ∙ map_meant (onto (meant join)) (resolve_sources look here js)))
        (first, rest here (map_good (onto (meant join)) (resolve_sources look here js) good.1))

-- ---- names on a database

-- a name stands for the same, whichever letters are large
of_folded : (n : ℕ) (db : Database) (around : List Name) (name : Name) → columns_of n db around (folded name) ≡ columns_of n db around name
of_folded zero db around name =
    ap (λ m. columns_of_object (λ v. if list_any (λ b. bytes_eq m (folded b)) around then bad ([], false) Misuse else bad ([], false) TooLong) (find name_order m db)) (folded_twice name)
of_folded (suc n) db around name =
    ap (λ m. columns_of_object (λ v. if list_any (λ b. bytes_eq m (folded b)) around then bad ([], false) Misuse else view_columns v (resolve_query (columns_of n db (m ∷ around)) [] v.query)) (find name_order m db)) (folded_twice name)

sources_in : (n : ℕ) (db : Database) (around : List Name) (q : Query) → faults (resolve_query (columns_of n db around) [] q) ≡ []
    → AllByRecursion (λ (s : Name × Condition). IsKnownIn n db s.0) (meant (resolve_query (columns_of n db around) [] q)).sources
sources_in n db around q h =
    subst (AllByRecursion (λ (s : Name × Condition). IsKnownIn n db s.0)) (sym (query_sources (columns_of n db around) [] q))
    (each_source (IsKnownIn n db) (columns_of n db around) (λ k e. (around, ap faults (of_folded n db around k) ∙ e)) (sources_of q) [] (sources_good (columns_of n db around) [] q h))

pub known_sources : SourcesAreKnown
known_sources db q reading h =
    subst (λ (k : Checked Reading). AllByRecursion (λ (s : Name × Condition). IsKnownIn 64 db s.0) (meant k).sources) h (sources_in 64 db [] q (ap faults h))

-- ---- with more room, within fewer views

object_same : (view other : View → Seen) → ((v : View) → faults (view v) ≡ [] → other v ≡ view v) → (found : Option Object)
    → faults (columns_of_object view found) ≡ [] → columns_of_object other found ≡ columns_of_object view found
object_same view other each None h = refl
object_same view other each (Some (ATable t)) h = refl
object_same view other each (Some (AnIndex i)) h = refl
object_same view other each (Some (AView v)) h = each v h
object_same view other each (Some (ATrigger t)) h = refl

around_same : (b c : Bool) (k other : Seen) → (b ≡ false → c ≡ false) → (faults k ≡ [] → other ≡ k) → faults (if b then bad ([], false) Misuse else k) ≡ []
    → ◌≡◌ {A = Seen} (if c then bad ([], false) Misuse else other) (if b then bad ([], false) Misuse else k)
around_same true c k other fewer same h = absurd cc
around_same false c k other fewer same h = ap (λ (x : Bool). if x then bad ([], false) Misuse else other) (fewer refl) ∙ same h

-- the first names are among the others
abbrev Fewer : List Name → List Name → Type 0
Fewer fewer around = (k : Name) → list_any (is_same_name k) around ≡ false → list_any (is_same_name k) fewer ≡ false

one_more : (name : Name) (fewer around : List Name) → Fewer fewer around → Fewer (name ∷ fewer) (name ∷ around)
one_more name fewer around f k h = by (is_same_name k name) (list_any (is_same_name k) around) (list_any (is_same_name k) fewer) (f k) h
  where
    by : (b a c : Bool) → (a ≡ false → c ≡ false) → (b || a) ≡ false → (b || c) ≡ false
    by true a c f h = h
    by false a c f h = f h

too_deep : {A : Type 0} → faults (bad {A = List ScopeColumn × Bool} ([], false) TooLong) ≡ [] → A
too_deep h = absurd cc

-- the columns under a view's list
abbrev under_list : View → Reading → Seen
under_list v q = unless (nat_lt 0 (length v.columns) && not q.is_open && not (length v.columns == length q.columns)) Misuse (good (renamed v.columns q.columns, false))

query_good : (v : View) (k : Checked Reading) → faults (view_columns v k) ≡ [] → faults k ≡ []
query_good v k h = (then_good k (under_list v) h).0

same_view : (look other : Lookup) → Agrees look other → (v : View) → faults (view_columns v (resolve_query look [] v.query)) ≡ []
    → view_columns v (resolve_query other [] v.query) ≡ view_columns v (resolve_query look [] v.query)
same_view look other agrees v h = ap (view_columns v) (same_query look other agrees [] v.query (query_good v (resolve_query look [] v.query) h))

grows : (db : Database) (n m : ℕ) → n ≤ m → (around fewer : List Name) → Fewer fewer around → (name : Name) → faults (columns_of n db around name) ≡ []
    → columns_of m db fewer name ≡ columns_of n db around name
grows db zero zero le around fewer f name h =
    object_same (λ v. unless_around around name (bad ([], false) TooLong)) (λ v. unless_around fewer name (bad ([], false) TooLong))
    (λ v. around_same (list_any (is_same_name name) around) (list_any (is_same_name name) fewer) (bad ([], false) TooLong) (bad ([], false) TooLong) (f name) too_deep)
    (object db name) h
grows db zero (suc m) le around fewer f name h =
    object_same (λ v. unless_around around name (bad ([], false) TooLong)) (λ v. unless_around fewer name (view_columns v (resolve_query (columns_of m db (folded name ∷ fewer)) [] v.query)))
    (λ v. around_same (list_any (is_same_name name) around) (list_any (is_same_name name) fewer) (bad ([], false) TooLong) (view_columns v (resolve_query (columns_of m db (folded name ∷ fewer)) [] v.query)) (f name) too_deep)
    (object db name) h
grows db (suc n) zero le around fewer f name h = absurd (omega arith)
grows db (suc n) (suc m) le around fewer f name h =
    let look : Lookup = columns_of n db (folded name ∷ around) in
    let other : Lookup = columns_of m db (folded name ∷ fewer) in
    object_same (λ v. unless_around around name (view_columns v (resolve_query look [] v.query))) (λ v. unless_around fewer name (view_columns v (resolve_query other [] v.query)))
    (λ v. around_same (list_any (is_same_name name) around) (list_any (is_same_name name) fewer) (view_columns v (resolve_query look [] v.query)) (view_columns v (resolve_query other [] v.query)) (f name)
    (same_view look other (grows db n m (omega arith) (folded name ∷ around) (folded name ∷ fewer) (one_more (folded name) fewer around f)) v))
    (object db name) h

-- ---- views

not_around : (b : Bool) (k : Seen) → faults (if b then bad ([], false) Misuse else k) ≡ [] → faults k ≡ []
not_around true k h = absurd cc
not_around false k h = h

of_view : (view : View → Seen) (found : Option Object) (v : View) → found ≡ Some (AView v) → faults (columns_of_object view found) ≡ [] → faults (view v) ≡ []
of_view view found v is h = subst (λ (o : Option Object). faults (columns_of_object view o) ≡ []) is h

alone : (db : Database) (top n : ℕ) → n ≤ top → (around : List Name) (q : Query) → faults (resolve_query (columns_of n db around) [] q) ≡ []
    → resolve_query (columns_of top db []) [] q ≡ resolve_query (columns_of n db around) [] q
alone db top n le around q h = same_query (columns_of n db around) (columns_of top db []) (grows db n top le around [] (λ k e. refl)) [] q h

pub known_views : ViewsAreKnown
known_views zero db name v le found (around, h) =
    too_deep (not_around (list_any (is_same_name name) around) (bad ([], false) TooLong) (of_view (λ v. unless_around around name (bad ([], false) TooLong)) (object db name) v found h))
known_views (suc n) db name v le found (around, h) =
    let k : Checked Reading = resolve_query (columns_of n db (folded name ∷ around)) [] v.query in
    let seen = of_view (λ v. unless_around around name (view_columns v (resolve_query (columns_of n db (folded name ∷ around)) [] v.query))) (object db name) v found h in
    let good : faults k ≡ [] = query_good v k (not_around (list_any (is_same_name name) around) (view_columns v k) seen) in
    record {
      less = n;
      room = refl;
      reading = meant k;
      is = alone db 64 n (omega arith) (folded name ∷ around) v.query good ∙ whole k good;
      sources = sources_in n db (folded name ∷ around) v.query good;
    }
