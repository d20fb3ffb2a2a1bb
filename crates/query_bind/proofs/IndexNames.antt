-- CREATE INDEX on a listed table: what its names stand for, and what refuses it.
use Rattle.std.proofs.Common.{◌≡◌, refl, sym, ap, subst, ◌∙◌, ◌⊎◌, inl, inr, ℕ, ◌+◌, ◌<◌, ℤ, Bool, false, ◌||◌, List, [], ◌∷◌, ◌++◌, append_assoc, length, drop, map, get_or, Option, Some, None, Ok, Err, arith}
use Rattle.std.specs.List.{Contains, list_any}
use Rattle.std.proofs.lemmas.Option.{slice_get-map}
use Rattle.std.specs.Prelude.{filter_map, option_map, is_none, is_some, slice_get, unwrap_or, MatchOption}
use Rattle.sqlval.specs.Names.{folded}
use Rattle.sqlval.specs.Refusals.{Refusal, Exists, Misuse, NoSuch, refusal_of}
use Rattle.sqlval.specs.declared.collation.Collation.{Collation}
use Rattle.sqlval.specs.declared.collation.Collation.TheVariants.{Binary}
use Rattle.sqlval.specs.declared.fault.Fault.{Fault}
use Rattle.sqlval.specs.declared.fault.Fault.TheVariants as fault
use Rattle.sqlval.specs.declared.value.Value.{Value}
use Rattle.sql_syntax.specs.declared.create.IndexColumn.{IndexColumn as Written}
use Rattle.sql_syntax.specs.declared.create.IndexDefinition.{IndexDefinition}
use Rattle.sql_syntax.specs.declared.create.NewObject.TheVariants as new
use Rattle.catalog.specs.Database.{Name, Database, Object, TableColumn, ATable, AnIndex, AView, ATrigger, object, with_object}
use Rattle.catalog.specs.Laws.{FindsListed, IsIndexOrNone, IsNoSource, IsNoTable, NamesListed}
use Rattle.catalog.specs.Listed.{Listed, Lists, is_reserved, place_named, as_column, with_rows, table_named, as_view, trigger_named, view_named}
use Rattle.catalog.specs.declared.tables.Column.{Column}
use Rattle.catalog.specs.declared.tables.IndexColumn.{IndexColumn}
use Rattle.catalog.specs.declared.tables.Table.{Table}
use Rattle.catalog.specs.declared.tables.Trigger.{Trigger}
use Rattle.catalog.specs.declared.tables.View.{View}
use Rattle.query_names.specs.Bound.{IsFaultOf, is_twice_named, source_seen}
use Rattle.query_names.specs.Checked.{Checked, Meant, good, bad, both, meant, faults, known_all, known_map, ◌and_then◌, unless, onto_list}
use Rattle.query_names.specs.Expressions.{resolve_collation}
use Rattle.query_names.specs.Named.{Names}
use Rattle.query_names.specs.Schema.{create, index_made, resolve_index_column}
use Rattle.query_names.specs.Scopes.{is_doubled, place_of}
use Rattle.query_names.specs.Tables.{collation_at}
use Rattle.query_names.proofs.ColumnPlaces.{no_place, one_place}
use Rattle.query_bind.specs.Indexed.{IsIndexOn, IsIndexRefusal, MakesListedIndex, RefusesIndexAsDefined, collation_written, key_of, keys_known, names_in}
use Rattle.query_bind.proofs.Chains.{refused_first, refused_later, then_good}
use Rattle.query_bind.proofs.Grown.{next_item}
use Rattle.query_bind.proofs.Refusals.{Has, is_added, later, map_has, nothing, unless_has, unless_later}

-- ---- names

pub any_named : (p : Name → Bool) (columns : List Written) → list_any (λ c. p c.name) columns ≡ list_any p (names_in columns)
any_named p [] = refl
any_named p (c ∷ cs) = ap (λ b. p c.name || b) (any_named p cs)

-- ---- places

pub place_found : (as_name : Name) (t : Table) (name : Name) (place : ℕ) → is_twice_named t.columns ≡ false → Some place ≡ place_named name t.columns → Names (place_of (source_seen as_name t) name) (Ok place)
place_found as_name t name place once is =
    one_place as_name t once name (ap is_none (sym is)) ∙ ap (λ (o : Option ℕ). good (unwrap_or o 0)) (sym is)

pub place_missing : (as_name : Name) (t : Table) (name : Name) (f : Fault) → is_twice_named t.columns ≡ false → None ≡ place_named name t.columns → (f ≡ fault.Memory) ⊎ (refusal_of f ≡ NoSuch)
    → Names (place_of (source_seen as_name t) name) (Err f)
place_missing as_name t name f once none (inl memory) = inl memory
place_missing as_name t name f once none (inr is) =
    inr (subst (λ (rs : List Refusal). Contains rs (refusal_of f)) (sym (no_place as_name t once name (ap is_none (sym none)))) (subst (Contains (NoSuch ∷ [])) (sym is) (0, omega arith, refl)))

-- ---- collations

pub collation_found : (cs : List Column) (i : ℕ) (found : Option Column) → found ≡ slice_get cs i
    → elim found as (λ x. Collation) [ None ↦ Binary | Some c ↦ c.collation ] ≡ collation_at (map as_column cs) i
collation_found cs i found h =
    by_found found ∙ (ap (λ o. collation_in (option_map as_column o)) h ∙ sym (ap collation_in (slice_get-map as_column cs i)))
  where
    collation_in : Option TableColumn → Collation
    collation_in o = elim o as (λ x. Collation) [ None ↦ Binary | Some c ↦ c.collation ]

    by_found : (o : Option Column) → elim o as (λ x. Collation) [ None ↦ Binary | Some c ↦ c.collation ] ≡ collation_in (option_map as_column o)
    by_found None = refl
    by_found (Some c) = refl

-- ---- a column

abbrev found_key : Table → ℕ → Option Name → Checked (ℕ × Collation)
found_key t i None = good (i, collation_at (map as_column t.columns) i)
found_key t i (Some name) = known_map (λ k. (i, k)) (resolve_collation name)

pub key_found : (as_name : Name) (t : Table) (written : Written) (place : ℕ) (collation : Collation) → place_of (source_seen as_name t) written.name ≡ good place
    → collation_written t.columns place written.collation ≡ good collation → resolve_index_column as_name (with_rows t []) written ≡ good (place, collation)
key_found as_name t written place collation at named =
    then_good (place_of (source_seen as_name t) written.name) _ place at ∙ by_written written.collation named
  where
    by_written : (w : Option Name) → collation_written t.columns place w ≡ good collation → found_key t place w ≡ good (place, collation)
    by_written None h = ap (λ k. good (place, k)) (ap meant h)
    by_written (Some name) h = ap (known_map (λ k. (place, k))) h

pub place_refused : (as_name : Name) (t : Table) (written : Written) (f : Fault) → IsFaultOf (faults (place_of (source_seen as_name t) written.name)) f
    → IsFaultOf (faults (resolve_index_column as_name (with_rows t []) written)) f
place_refused as_name t written f h = refused_first (place_of (source_seen as_name t) written.name) _ f h

pub collation_refused : (as_name : Name) (t : Table) (written : Written) (place : ℕ) (f : Fault) → IsFaultOf (faults (collation_written t.columns place written.collation)) f
    → IsFaultOf (faults (resolve_index_column as_name (with_rows t []) written)) f
collation_refused as_name t written place f h =
    refused_later (place_of (source_seen as_name t) written.name) _ f (by_written written.collation h)
  where
    by_written : (w : Option Name) → IsFaultOf (faults (collation_written t.columns place w)) f → IsFaultOf (faults (found_key t (meant (place_of (source_seen as_name t) written.name)) w)) f
    by_written None h = h
    by_written (Some name) h = mapped_on (resolve_collation name) h
      where
        mapped_on : (k : Checked Collation) → IsFaultOf (faults k) f → IsFaultOf (faults {A = ℕ × Collation} (known_map (λ c. (meant (place_of (source_seen as_name t) written.name), c)) k)) f
        mapped_on (Meant x rs) h = h

-- ---- a list of columns

one_more : {A : Type 0} (found : List A) (y : A) (k : Checked (List A)) → onto_list (found ++ y ∷ []) k ≡ onto_list found (both (λ x xs. x ∷ xs) (good y) k)
one_more found y (Meant xs rs) = ap (λ zs. Meant zs rs) (append_assoc found (y ∷ []) xs)

pub item_found : {A B : Type 0} (f : B → Checked A) (xs : List B) (i : ℕ) (x : B) (found : List A) (y : A) → i < length xs → x ≡ get_or xs i x → f x ≡ good y
    → onto_list (found ++ y ∷ []) (known_all (map f (drop (i + 1) xs))) ≡ onto_list found (known_all (map f (drop i xs)))
item_found f xs i x found y lt is h =
    one_more found y (known_all (map f (drop (i + 1) xs)))
    ∙ (ap (λ k. onto_list found (both (λ z zs. z ∷ zs) k (known_all (map f (drop (i + 1) xs))))) (sym h) ∙ sym (next_item f xs i x found lt is))

-- ---- CREATE INDEX

module _ (finds : FindsListed) (names : NamesListed) (rows_at : ℕ → List (ℤ × List Value)) (l : Listed) (db : Database) (lists : Lists rows_at l db) (d : IndexDefinition) where
  abbrev index_over : List (ℕ × Collation) → Object
  index_over ks = AnIndex (record { table = folded d.table; is_unique = d.is_unique; is_automatic = false; columns = ks })

  abbrev placed : Checked Object → Checked Database
  placed o = unless (is_reserved d.name) Misuse (unless (is_some (object db d.name)) Exists (known_map (with_object db d.name) o))

  -- what stands after ON
  on_table : (t : Table) → table_named d.table l.tables ≡ Some t → object db d.table ≡ Some (ATable (with_rows t (rows_at t.root)))
  on_table t named = subst (λ (found : Option Table). MatchOption found (IsNoTable l d.table (object db d.table)) (λ t. object db d.table ≡ Some (ATable (with_rows t (rows_at t.root))))) named (finds rows_at l db d.table lists)

  on_none : table_named d.table l.tables ≡ None → IsNoTable l d.table (object db d.table)
  on_none none = subst (λ (found : Option Table). MatchOption found (IsNoTable l d.table (object db d.table)) (λ t. object db d.table ≡ Some (ATable (with_rows t (rows_at t.root))))) none (finds rows_at l db d.table lists)

  made_on : (t : Table) → table_named d.table l.tables ≡ Some t → index_made (object db d.table) d ≡ known_map index_over (keys_known t d)
  made_on t named = ap (λ o. index_made o d) (on_table t named)

  pub makes : (t : Table) (columns : List IndexColumn) → IsIndexOn l d t columns → create db (new.Index d) ≡ good (with_object db d.name (index_over (map key_of columns)))
  makes t columns is =
      ap (λ b. unless b Misuse (placed (index_made (object db d.table) d))) is.once
      ∙ (ap (λ k. unless false Misuse (placed k)) (made_on t is.on ∙ ap (known_map index_over) is.known)
      ∙ ap (unless false Misuse) (is_added db d.name (index_over (map key_of columns)) (is_reserved d.name) (object db d.name) is.free
      (nothing (object db d.name) (names rows_at l db d.name lists ∙ is.new))))

  -- ---- refusals

  in_made : (r : Refusal) → Has (index_made (object db d.table) d) r → Has (create db (new.Index d)) r
  in_made r h = unless_later _ Misuse r _ (unless_later (is_reserved d.name) Misuse r _ (unless_later (is_some (object db d.name)) Exists r _ (map_has (with_object db d.name) _ r h)))

  missing_table : table_named d.table l.tables ≡ None → Has (index_made (object db d.table) d) NoSuch
  missing_table none = by_object (object db d.table) (on_none none)
    where
      no_such : {A : Type 0} (k : Checked A) (o : Object) → Has (k and_then λ _. bad o NoSuch) NoSuch
      no_such k o = later k (λ _. bad o NoSuch) NoSuch (record { among = (0, omega arith, refl) })

      no_index : (found : Option Object) → IsIndexOrNone found → Has (index_made found d) NoSuch
      no_index found (inl is) = subst (λ (o : Option Object). Has (index_made o d) NoSuch) (sym is) (no_such (known_all (map resolve_collation (filter_map (λ c. c.collation) d.columns))) (index_over []))
      no_index found (inr (i, is)) = subst (λ (o : Option Object). Has (index_made o d) NoSuch) (sym is) (no_such (known_all (map resolve_collation (filter_map (λ c. c.collation) d.columns))) (index_over []))

      no_source : (found : Option Object) → IsNoSource l d.table found → Has (index_made found d) NoSuch
      no_source found = by_trigger (trigger_named d.table l.triggers)
        where
          by_trigger : (trigger : Option Trigger) → MatchOption trigger (IsIndexOrNone found) (λ t. found ≡ Some (ATrigger t.definition)) → Has (index_made found d) NoSuch
          by_trigger None none = no_index found none
          by_trigger (Some t) is = subst (λ (o : Option Object). Has (index_made o d) NoSuch) (sym is) (no_such (known_all (map resolve_collation (filter_map (λ c. c.collation) d.columns))) (index_over []))

      by_object : (found : Option Object) → IsNoTable l d.table found → Has (index_made found d) NoSuch
      by_object found = by_view (view_named d.table l.views)
        where
          by_view : (view : Option View) → MatchOption view (IsNoSource l d.table found) (λ v. found ≡ Some (AView (as_view v))) → Has (index_made found d) NoSuch
          by_view None none = no_source found none
          by_view (Some v) is = subst (λ (o : Option Object). Has (index_made o d) NoSuch) (sym is) (no_such (known_all (map resolve_collation (filter_map (λ c. c.collation) d.columns))) (index_over []))

  has_so : (r s : Refusal) → r ≡ s → Has (create db (new.Index d)) s → Contains (faults (create db (new.Index d))) r
  has_so r s e h = subst (Contains (faults (create db (new.Index d)))) (sym e) h.among

  pub refuses : (r : Refusal) → IsIndexRefusal l d r → Contains (faults (create db (new.Index d))) r
  refuses r (inl (e, h)) = has_so r Misuse e (unless_later _ Misuse Misuse _ (unless_has (is_reserved d.name) Misuse _ h))
  refuses r (inr (inl (e, h))) = has_so r Exists e (unless_later _ Misuse Exists _ (unless_later (is_reserved d.name) Misuse Exists _ (unless_has (is_some (object db d.name)) Exists _ (names rows_at l db d.name lists ∙ h))))
  refuses r (inr (inr (inl (e, h)))) = has_so r Misuse e (unless_has (is_doubled (names_in d.columns)) Misuse _ h)
  refuses r (inr (inr (inr (inl (e, none))))) = has_so r NoSuch e (in_made NoSuch (missing_table none))
  refuses r (inr (inr (inr (inr (t, named, has))))) = (in_made r (subst (λ (k : Checked Object). Has k r) (sym (made_on t named)) (map_has index_over (keys_known t d) r (record { among = has })))).among

pub makes_index : FindsListed → NamesListed → MakesListedIndex
makes_index finds names rows_at l db d t columns lists is = makes finds names rows_at l db lists d t columns is

pub refuses_index : FindsListed → NamesListed → RefusesIndexAsDefined
refuses_index finds names rows_at l db d r lists why = refuses finds names rows_at l db lists d r why
