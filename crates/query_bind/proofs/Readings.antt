-- The reading of looked up parts.
use Rattle.std.proofs.Common.{◌≡◌, refl, sym, ap, subst, ◌∙◌, inr, ℕ, suc, Bool, true, false, not, ◌&&◌, ◌||◌, if◌then◌else◌, nat_lt, List, [], ◌∷◌, ◌++◌, length, map, flat_map, Option, Some, None, arith}
use Rattle.std.specs.List.{list_any}
use Rattle.std.proofs.lemmas.Bool.{false≢true}
use Rattle.std.proofs.lemmas.Bool.Decides.{nat_tests}
use Rattle.std.proofs.lemmas.List.Folds.{list_any-append}
use Rattle.sqlval.specs.Refusals.{Refusal, Misuse, TooLong, refusal_of}
use Rattle.sqlval.specs.declared.fault.Fault.{Fault}
use Rattle.sql_syntax.specs.declared.query.Query.{Query}
use Rattle.sql_syntax.specs.declared.query.ResultItem.{ResultItem}
use Rattle.sql_syntax.specs.declared.query.ResultItem.TheVariants.{All, AllOf, Of}
use Rattle.catalog.specs.Database.{Name}
use Rattle.query_names.specs.Bound.{IsFaultOf}
use Rattle.query_names.specs.Checked.{Checked, Meant, good, meant, faults, known_all}
use Rattle.query_names.specs.Expressions.{resolve}
use Rattle.query_names.specs.Grouping.{has, has_total, is_own_cell, keyed}
use Rattle.query_names.specs.Queries.{as_reading, is_open_item, is_other, is_own, resolve_filter, resolve_items}
use Rattle.query_names.specs.declared.reading.Condition.{Condition}
use Rattle.query_names.specs.declared.reading.Reading.{Reading}
use Rattle.query_names.specs.declared.scope.ScopeColumn.{ScopeColumn}
use Rattle.query_names.specs.declared.scope.ScopeSource.{ScopeSource}
use Rattle.query_terms.specs.Terms.{Term}
use Rattle.query_bind.specs.Named.{AreTables, is_grouped_by, is_no_result, order_given, orders_checked, reading_for, resolve_clauses}
use Rattle.query_bind.specs.declared.querying.Parts.{Parts}
use Rattle.query_bind.proofs.Chains.{in_back, in_front, refused_first, refused_later, then_good}
use Rattle.query_bind.proofs.Keyless.{unmarked}

abbrev given : List (Term × Bool) → List (Checked Term × Bool)
given os = map (λ o. (good o.0, o.1)) os

-- the terms of results and ORDER BY
abbrev all_terms : List (Term × ScopeColumn) → List (Checked Term × Bool) → List Term
all_terms results orders = map (λ (r : Term × ScopeColumn). r.0) results ++ map (λ (o : Term × Bool). o.0) (map (λ (o : Checked Term × Bool). (meant o.0, o.1)) orders)

abbrev grouped : List Term → List Term → Bool
grouped keys all = list_any has_total all || nat_lt 0 (length keys)

abbrev mark : Bool → List Term → Term → Term
mark g keys t = if g then keyed keys t else t

abbrev has_bare : ℕ → Term → Bool
has_bare outer = has false (is_own_cell outer)

-- refusals for three causes, and others
abbrev pub three : Bool → Bool → Bool → List Refusal → List Refusal
three a b c fs = (if a then (Misuse ∷ []) else []) ++ ((if b then (Misuse ∷ []) else []) ++ ((if c then (TooLong ∷ []) else []) ++ (fs ++ [])))

-- ---- terms given

orders_back : (os : List (Term × Bool)) → map (λ o. (meant o.0, o.1)) (given os) ≡ os
orders_back [] = refl
orders_back (o ∷ os) = ap (λ xs. o ∷ xs) (orders_back os)

orders_clean : (os : List (Term × Bool)) → flat_map (λ o. faults o.0) (given os) ≡ []
orders_clean [] = refl
orders_clean (o ∷ os) = orders_clean os

any_map : {A B : Type 0} (p : B → Bool) (f : A → B) (xs : List A) → list_any p (map f xs) ≡ list_any (λ x. p (f x)) xs
any_map p f [] = refl
any_map p f (x ∷ xs) = ap (λ b. p (f x) || b) (any_map p f xs)

any_terms : (p : Term → Bool) (results : List (Term × ScopeColumn)) (os : List (Term × Bool))
    → list_any p (all_terms results (given os)) ≡ (list_any (λ r. p r.0) results || list_any (λ o. p o.0) os)
any_terms p results os =
    ap (λ xs. list_any p (map (λ (r : Term × ScopeColumn). r.0) results ++ map (λ (o : Term × Bool). o.0) xs)) (orders_back os)
    ∙ (list_any-append p (map (λ (r : Term × ScopeColumn). r.0) results) (map (λ (o : Term × Bool). o.0) os)
    ∙ (ap (λ b. b || list_any p (map (λ (o : Term × Bool). o.0) os)) (any_map p (λ (r : Term × ScopeColumn). r.0) results)
    ∙ ap (λ b. list_any (λ (r : Term × ScopeColumn). p r.0) results || b) (any_map p (λ (o : Term × Bool). o.0) os)))

grouped_is : (p : Parts) → grouped p.keys.items (all_terms p.results.items (given p.orders.items)) ≡ is_grouped_by p
grouped_is p = ap (λ b. b || nat_lt 0 (length p.keys.items)) (any_terms has_total p.results.items p.orders.items)

-- ---- refusals

abbrev marked_have : ℕ → List Term → List (Term × ScopeColumn) → List (Term × Bool) → Bool
marked_have outer keys results os = list_any (has_bare outer) (map (λ (r : Term × ScopeColumn). keyed keys r.0) results) || list_any (λ (o : Term × Bool). has_bare outer o.0) (map (λ (o : Term × Bool). (keyed keys o.0, o.1)) os)

mixed_at : (outer : ℕ) (g : Bool) (keys : List Term) (results : List (Term × ScopeColumn)) (os : List (Term × Bool))
    → (g && list_any (λ t. has_bare outer (mark g keys t)) (all_terms results (given os))) ≡ (g && marked_have outer keys results os)
mixed_at outer false keys results os = refl
mixed_at outer true keys results os =
    any_terms (λ t. has_bare outer (keyed keys t)) results os
    ∙ (ap (λ b. b || list_any (λ (o : Term × Bool). has_bare outer (keyed keys o.0)) os) (sym (any_map (has_bare outer) (λ (r : Term × ScopeColumn). keyed keys r.0) results))
    ∙ ap (λ b. list_any (has_bare outer) (map (λ (r : Term × ScopeColumn). keyed keys r.0) results) || b) (sym (any_map (λ (o : Term × Bool). has_bare outer o.0) (λ (o : Term × Bool). (keyed keys o.0, o.1)) os)))

-- the test of a column that is neither grouped nor in an aggregate
abbrev pub mixed : ℕ → List Term → List (Term × ScopeColumn) → List (Checked Term × Bool) → Bool
mixed n keys results orders =
    grouped keys (all_terms results orders) && list_any (λ t. has false (is_own_cell n) (mark (grouped keys (all_terms results orders)) keys t)) (all_terms results orders)

-- the test of a DISTINCT whose ORDER BY names no result
abbrev pub astray : Query → Bool → List (Term × ScopeColumn) → List (Checked Term × Bool) → Bool
astray q is_open results orders = q.is_distinct && not is_open && list_any (λ (o : Checked Term × Bool). is_other results o.0) orders

abbrev is_mixed : ℕ → Parts → Bool
is_mixed outer p = mixed outer p.keys.items p.results.items (given p.orders.items)

abbrev is_astray : Query → Parts → Bool
is_astray q p = astray q false p.results.items (given p.orders.items)

mixed_is : (outer : ℕ) (p : Parts) → is_mixed outer p ≡ (is_grouped_by p && marked_have outer p.keys.items p.results.items p.orders.items)
mixed_is outer p =
    mixed_at outer (grouped p.keys.items (all_terms p.results.items (given p.orders.items))) p.keys.items p.results.items p.orders.items
    ∙ ap (λ g. g && marked_have outer p.keys.items p.results.items p.orders.items) (grouped_is p)

astray_at : (d : Bool) (results : List (Term × ScopeColumn)) (os : List (Term × Bool))
    → (d && not false && list_any (λ o. is_other results o.0) (given os)) ≡ (d && list_any (λ o. is_no_result results o.0) os)
astray_at false results os = refl
astray_at true results os = any_map (λ (o : Checked Term × Bool). is_other results o.0) (λ (o : Term × Bool). (good o.0, o.1)) os

first_of : (a b c : Bool) (fs : List Refusal) (fault : Fault) → a ≡ true → refusal_of fault ≡ Misuse → IsFaultOf (three a b c fs) fault
first_of a b c fs fault h is = subst (λ x. IsFaultOf (three x b c fs) fault) (sym h) (inr (0, omega arith, sym is))

second_of : (a b c : Bool) (fs : List Refusal) (fault : Fault) → b ≡ true → refusal_of fault ≡ Misuse → IsFaultOf (three a b c fs) fault
second_of a b c fs fault h is =
    in_back (if a then (Misuse ∷ []) else []) ((if b then (Misuse ∷ []) else []) ++ ((if c then (TooLong ∷ []) else []) ++ (fs ++ []))) fault
    (subst (λ x. IsFaultOf ((if x then (Misuse ∷ []) else []) ++ ((if c then (TooLong ∷ []) else []) ++ (fs ++ []))) fault) (sym h) (inr (0, omega arith, sym is)))

third_of : (a b c : Bool) (fs : List Refusal) (fault : Fault) → c ≡ true → refusal_of fault ≡ TooLong → IsFaultOf (three a b c fs) fault
third_of a b c fs fault h is =
    in_back (if a then (Misuse ∷ []) else []) ((if b then (Misuse ∷ []) else []) ++ ((if c then (TooLong ∷ []) else []) ++ (fs ++ []))) fault
    (in_back (if b then (Misuse ∷ []) else []) ((if c then (TooLong ∷ []) else []) ++ (fs ++ [])) fault
    (subst (λ x. IsFaultOf ((if x then (TooLong ∷ []) else []) ++ (fs ++ [])) fault) (sym h) (inr (0, omega arith, sym is))))

none_of : (a b c : Bool) (fs : List Refusal) → a ≡ false → b ≡ false → c ≡ false → fs ≡ [] → three a b c fs ≡ []
none_of a b c fs ha hb hc hf =
    ap (λ x. three x b c fs) ha ∙ (ap (λ x. three false x c fs) hb ∙ (ap (λ x. three false false x fs) hc ∙ ap (λ xs. three false false false xs) hf))

-- the test over marked terms
pub mixed_as : (outer : ℕ) (p : Parts) (results : List Term) (orders : List (Term × Bool)) → results ≡ map (λ (r : Term × ScopeColumn). keyed p.keys.items r.0) p.results.items → orders ≡ map (λ (o : Term × Bool). (keyed p.keys.items o.0, o.1)) p.orders.items
    → (is_grouped_by p && (list_any (has_bare outer) results || list_any (λ (o : Term × Bool). has_bare outer o.0) orders)) ≡ (is_grouped_by p && marked_have outer p.keys.items p.results.items p.orders.items)
mixed_as outer p results orders hr ho =
    ap (λ rs. is_grouped_by p && (list_any (has_bare outer) rs || list_any (λ (o : Term × Bool). has_bare outer o.0) orders)) hr
    ∙ ap (λ os. is_grouped_by p && (list_any (has_bare outer) (map (λ (r : Term × ScopeColumn). keyed p.keys.items r.0) p.results.items) || list_any (λ (o : Term × Bool). has_bare outer o.0) os)) ho

pub mixed_refused : (outer : ℕ) (q : Query) (p : Parts) (fault : Fault) → (is_grouped_by p && marked_have outer p.keys.items p.results.items p.orders.items) ≡ true → refusal_of fault ≡ Misuse → IsFaultOf (faults (reading_for outer q p)) fault
mixed_refused outer q p fault h is =
    first_of (is_mixed outer p) (is_astray q p) (nat_lt 64 (length p.results.items)) (flat_map (λ o. faults o.0) (given p.orders.items)) fault (mixed_is outer p ∙ h) is

pub astray_refused : (outer : ℕ) (q : Query) (p : Parts) (fault : Fault) → (q.is_distinct && list_any (λ o. is_no_result p.results.items o.0) p.orders.items) ≡ true → refusal_of fault ≡ Misuse → IsFaultOf (faults (reading_for outer q p)) fault
astray_refused outer q p fault h is =
    second_of (is_mixed outer p) (is_astray q p) (nat_lt 64 (length p.results.items)) (flat_map (λ o. faults o.0) (given p.orders.items)) fault (astray_at q.is_distinct p.results.items p.orders.items ∙ h) is

pub many_refused : (outer : ℕ) (q : Query) (p : Parts) (fault : Fault) → nat_lt 64 (length p.results.items) ≡ true → refusal_of fault ≡ TooLong → IsFaultOf (faults (reading_for outer q p)) fault
many_refused outer q p fault h is =
    third_of (is_mixed outer p) (is_astray q p) (nat_lt 64 (length p.results.items)) (flat_map (λ o. faults o.0) (given p.orders.items)) fault h is

pub passed : (outer : ℕ) (q : Query) (p : Parts) → (is_grouped_by p && marked_have outer p.keys.items p.results.items p.orders.items) ≡ false
    → (q.is_distinct && list_any (λ o. is_no_result p.results.items o.0) p.orders.items) ≡ false → nat_lt 64 (length p.results.items) ≡ false
    → reading_for outer q p ≡ Meant (meant (reading_for outer q p)) []
passed outer q p ha hb hc =
    ap (λ rs. Meant (meant (reading_for outer q p)) rs)
    (none_of (is_mixed outer p) (is_astray q p) (nat_lt 64 (length p.results.items)) (flat_map (λ o. faults o.0) (given p.orders.items)) (mixed_is outer p ∙ ha) (astray_at q.is_distinct p.results.items p.orders.items ∙ hb) hc (orders_clean p.orders.items))

-- ---- the reading

or_true : (b : Bool) → (b || true) ≡ true
or_true true = refl
or_true false = refl

some_keys : (n : ℕ) → nat_lt 0 (suc n) ≡ true
some_keys n = grind (arith, nat_tests)

-- without groups there are no keys, and nothing to mark
mark_is : (all keys : List Term) (t : Term) → mark (grouped keys all) keys t ≡ keyed keys t
mark_is all [] t = either (grouped [] all)
  where
    either : (g : Bool) → mark g [] t ≡ keyed [] t
    either true = refl
    either false = sym (unmarked t)
mark_is all (k ∷ ks) t =
    ap (λ b. mark (list_any has_total all || b) (k ∷ ks) t) (some_keys (length ks)) ∙ ap (λ b. mark b (k ∷ ks) t) (or_true (list_any has_total all))

-- the reading of these parts, none of which is refused
pub made : (outer : ℕ) (q : Query) (p : Parts) (r : Reading) → r.sources ≡ p.joined.items → r.filter ≡ p.filter → r.is_grouped ≡ is_grouped_by p → r.keys ≡ p.keys.items
    → r.results ≡ map (λ (s : Term × ScopeColumn). keyed p.keys.items s.0) p.results.items → r.columns ≡ map (λ (s : Term × ScopeColumn). s.1) p.results.items → r.is_open ≡ false
    → r.order ≡ map (λ (o : Term × Bool). (keyed p.keys.items o.0, o.1)) p.orders.items
    → r.distinct ≡ q.is_distinct → r.limit ≡ (meant (reading_for outer q p)).limit → r.offset ≡ (meant (reading_for outer q p)).offset
    → reading_for outer q p ≡ Meant (meant (reading_for outer q p)) [] → reading_for outer q p ≡ Meant r []
made outer q p r hs hf hg hk hr hc ho hord hd hl hoff good = good ∙ ap (λ x. Meant x []) (sym whole)
  where
    marks : (λ t. mark (grouped p.keys.items (all_terms p.results.items (given p.orders.items))) p.keys.items t) ≡ keyed p.keys.items
    marks = λ i t. mark_is (all_terms p.results.items (given p.orders.items)) p.keys.items t i

    whole : r ≡ meant (reading_for outer q p)
    whole = λ i. record {
      sources = hs i;
      filter = hf i;
      is_grouped = (hg ∙ sym (grouped_is p)) i;
      keys = hk i;
      results = (hr ∙ ap (λ (m : Term → Term). map (λ (s : Term × ScopeColumn). m s.0) p.results.items) (sym marks)) i;
      columns = hc i;
      is_open = ho i;
      order = (hord ∙ (ap (λ (m : Term → Term). map (λ (o : Term × Bool). (m o.0, o.1)) p.orders.items) (sym marks)
          ∙ ap (map (λ (o : Term × Bool). (mark (grouped p.keys.items (all_terms p.results.items (given p.orders.items))) p.keys.items o.0, o.1))) (sym (orders_back p.orders.items)))) i;
      distinct = hd i;
      limit = hl i;
      offset = hoff i;
    }

-- ---- a query whose sources are looked up

none_left : (rs ss : List Refusal) → rs ++ ss ≡ [] → (rs ≡ []) × (ss ≡ [])
none_left [] ss h = (refl, h)
none_left (r ∷ rs) ss h = absurd (omega (arith, ap length h))

-- terms of ORDER BY none of which is refused
orders_are : (orders : List (Checked Term × Bool)) (os : List (Term × Bool)) → orders_checked orders ≡ Meant os [] → orders ≡ given os
orders_are [] os h = ap given (ap meant h)
orders_are ((Meant x rs, d) ∷ ks) os h =
    let none = none_left rs (faults (orders_checked ks)) (ap faults h) in
    ap (λ ss. (Meant x ss, d) ∷ ks) none.0
    ∙ (ap (λ js. (Meant x [], d) ∷ js) (orders_are ks (meant (orders_checked ks)) (ap (λ ss. Meant (meant (orders_checked ks)) ss) none.1)) ∙ ap given (ap meant h))

none_within : {A : Type 0} (p q : A → Bool) (xs : List A) → list_any q xs ≡ false → list_any (λ x. p x && q x) xs ≡ false
none_within p q [] h = refl
none_within p q (x ∷ xs) h = of_two (p x) (q x) (list_any q xs) (list_any (λ x. p x && q x) xs) h (none_within p q xs)
  where
    of_two : (a b c d : Bool) → (b || c) ≡ false → (c ≡ false → d ≡ false) → (a && b || d) ≡ false
    of_two a true c d h f = absurd (false≢true (sym h))
    of_two true false c d h f = f h
    of_two false false c d h f = f h

-- each star is of tables alone
pub closed : (scope : List ScopeSource) (items : List ResultItem) → AreTables scope → list_any (is_open_item scope) items ≡ false
closed scope [] h = refl
closed scope (All ∷ is) h = ap (λ b. b || list_any (is_open_item scope) is) (none_within (is_own None) (λ s. not s.is_known) scope h) ∙ closed scope is h
closed scope (AllOf q ∷ is) h = ap (λ b. b || list_any (is_open_item scope) is) (none_within (is_own (Some q)) (λ s. not s.is_known) scope h) ∙ closed scope is h
closed scope (Of e n ∷ is) h = closed scope is h

pub clauses_named : (outer : ℕ) (scope : List ScopeSource) (q : Query) (p : Parts) → AreTables scope
    → resolve_filter scope q.condition ≡ Meant p.filter [] → known_all (map (resolve false scope) q.groups) ≡ Meant p.keys.items [] → resolve_items scope q.results ≡ Meant p.results.items []
    → orders_checked (map (order_given scope q.results p.results.items) q.order) ≡ Meant p.orders.items []
    → resolve_clauses outer scope p.joined.items q ≡ reading_for outer q p
clauses_named outer scope q p tables hf hk hr ho =
    then_good (resolve_filter scope q.condition) _ p.filter hf
    ∙ (then_good (known_all (map (resolve false scope) q.groups)) _ p.keys.items hk
    ∙ (then_good (resolve_items scope q.results) _ p.results.items hr
    ∙ (ap (λ b. as_reading outer q b p.joined.items p.filter p.keys.items p.results.items (map (order_given scope q.results p.results.items) q.order)) (closed scope q.results tables)
    ∙ ap (λ os. as_reading outer q false p.joined.items p.filter p.keys.items p.results.items os) (orders_are (map (order_given scope q.results p.results.items) q.order) p.orders.items ho))))

pub filter_refused : (outer : ℕ) (scope : List ScopeSource) (q : Query) (joined : List (Name × Condition)) (fault : Fault) → IsFaultOf (faults (resolve_filter scope q.condition)) fault → IsFaultOf (faults (resolve_clauses outer scope joined q)) fault
filter_refused outer scope q joined fault h = refused_first (resolve_filter scope q.condition) _ fault h

pub keys_refused : (outer : ℕ) (scope : List ScopeSource) (q : Query) (joined : List (Name × Condition)) (fault : Fault) → IsFaultOf (faults (known_all (map (resolve false scope) q.groups))) fault → IsFaultOf (faults (resolve_clauses outer scope joined q)) fault
keys_refused outer scope q joined fault h =
    refused_later (resolve_filter scope q.condition) _ fault (refused_first (known_all (map (resolve false scope) q.groups)) _ fault h)

pub results_refused : (outer : ℕ) (scope : List ScopeSource) (q : Query) (joined : List (Name × Condition)) (fault : Fault) → IsFaultOf (faults (resolve_items scope q.results)) fault → IsFaultOf (faults (resolve_clauses outer scope joined q)) fault
results_refused outer scope q joined fault h =
    refused_later (resolve_filter scope q.condition) _ fault (refused_later (known_all (map (resolve false scope) q.groups)) _ fault (refused_first (resolve_items scope q.results) _ fault h))

in_orders : (a b c : Bool) (fs : List Refusal) (fault : Fault) → IsFaultOf fs fault → IsFaultOf (three a b c fs) fault
in_orders a b c fs fault h =
    in_back (if a then (Misuse ∷ []) else []) ((if b then (Misuse ∷ []) else []) ++ ((if c then (TooLong ∷ []) else []) ++ (fs ++ []))) fault
    (in_back (if b then (Misuse ∷ []) else []) ((if c then (TooLong ∷ []) else []) ++ (fs ++ [])) fault
    (in_back (if c then (TooLong ∷ []) else []) (fs ++ []) fault (in_front fs [] fault h)))

-- a refusal in ORDER BY
in_reading : (n : ℕ) (q : Query) (is_open : Bool) (joined : List (Name × Condition)) (filter : Option Term) (keys : List Term) (results : List (Term × ScopeColumn)) (orders : List (Checked Term × Bool)) (fault : Fault)
    → IsFaultOf (faults (orders_checked orders)) fault → IsFaultOf (faults (as_reading n q is_open joined filter keys results orders)) fault
in_reading n q is_open joined filter keys results orders fault h =
    in_orders (mixed n keys results orders) (astray q is_open results orders) (nat_lt 64 (length results)) (faults (orders_checked orders)) fault h

pub orders_refused : (outer : ℕ) (scope : List ScopeSource) (q : Query) (joined : List (Name × Condition)) (results : List (Term × ScopeColumn)) (fault : Fault) → resolve_items scope q.results ≡ Meant results []
    → IsFaultOf (faults (orders_checked (map (order_given scope q.results results) q.order))) fault → IsFaultOf (faults (resolve_clauses outer scope joined q)) fault
orders_refused outer scope q joined results fault hr h =
    refused_later (resolve_filter scope q.condition) _ fault (refused_later (known_all (map (resolve false scope) q.groups)) _ fault
    (refused_later (resolve_items scope q.results) _ fault
    (in_reading outer q (list_any (is_open_item scope) q.results) joined (meant (resolve_filter scope q.condition)) (meant (known_all (map (resolve false scope) q.groups))) (meant (resolve_items scope q.results))
    (map (order_given scope q.results (meant (resolve_items scope q.results))) q.order) fault
    (subst (λ k. IsFaultOf (faults (orders_checked (map (order_given scope q.results (meant k)) q.order))) fault) (sym hr) h))))
