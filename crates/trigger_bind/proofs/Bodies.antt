-- The statements of a program, one after another.
use Rattle.std.proofs.Common.{◌≡◌, inl, inr, refl, sym, ap, subst, ◌∙◌, ℕ, ℤ, zero, suc, ◌<◌, ◌≤◌, false, List, [], ◌∷◌, ◌++◌, append_assoc, length, take, slice_index_or, Option, Some, None, Ok, Err, arith}
use Rattle.std.proofs.lemmas.List.{append-nil}
use Rattle.std.proofs.lemmas.List.Folds.{list_any-append}
use Rattle.std.specs.List.{Contains}
use Rattle.std.specs.Prelude.{◌||◌, IfErr, MatchResult, Result, flat_map}
use Rattle.std.specs.Result.{IsErrAnd}
use Rattle.sqlval.specs.Refusals.{Refusal}
use Rattle.sqlval.specs.declared.fault.Fault.{Fault}
use Rattle.sqlval.specs.declared.fault.Fault.TheVariants.{Memory}
use Rattle.sqlval.specs.declared.value.Value.{Value}
use Rattle.sql_syntax.specs.Tree.{Tree}
use Rattle.sql_syntax.specs.declared.change.Change.{Change}
use Rattle.sql_syntax.specs.declared.create.TriggerStatement.{TriggerStatement}
use Rattle.sql_syntax.specs.declared.create.TriggerStatement.TheVariants as program
use Rattle.sql_syntax.specs.declared.query.Query.{Query}
use Rattle.catalog.specs.Database.{Database}
use Rattle.catalog.specs.Listed.{Listed}
use Rattle.catalog.specs.Named.{IsOfListed}
use Rattle.catalog.specs.declared.tables.Trigger.{Trigger}
use Rattle.query_names.specs.Bound.{IsFaultOf}
use Rattle.query_names.specs.Checked.{Checked, Meant, faults, known_map}
use Rattle.query_names.specs.Expressions.{resolve}
use Rattle.query_names.specs.Queries.{resolve_filter, resolve_query}
use Rattle.query_names.specs.Views.{look_up}
use Rattle.query_names.specs.declared.scope.ScopeSource.{ScopeSource}
use Rattle.query_bind.specs.Named.{AreOuter}
use Rattle.query_terms.specs.Terms.{Term}
use Rattle.query_terms.specs.Values.{Row}
use Rattle.row_change.specs.Changes.{Outer}
use Rattle.trigger.specs.Binding.{faults_after, statement_faults, when_faults}
use Rattle.trigger_bind.specs.Choosing.{sets_off_in, sets_off_within}
use Rattle.trigger_bind.specs.Needs.{NotesThose}
use Rattle.trigger_bind.specs.Programs.{Knows, KnowsBeside}
use Rattle.trigger_bind.specs.declared.needs.Needs.{Needs}
use Rattle.trigger_bind.proofs.Among.{flat_into}
use Rattle.trigger_bind.proofs.Noting.{notes_both}
use Rattle.trigger_bind.proofs.Tests.{or_false}

-- of a body
abbrev pub body_faults : Database → Outer → List TriggerStatement → List Refusal
body_faults db seen body = flat_map (statement_faults (faults_after 0 db) db seen) body

-- the statements have no refusals of their own
abbrev pub AreKnown : Listed → List ScopeSource → List TriggerStatement → Type 0
AreKnown l scope body = (rows_at : ℕ → List (ℤ × List Value)) (db : Database) (rows : List Row) → AreOuter scope → IsOfListed rows_at l db
    → body_faults db (record { scope = scope; rows = rows }) body ≡ []

-- ---- lists

pub take_next : {A : Type 0} (xs : List A) (i j : ℕ) (x : A) → j ≡ suc i → i < length xs → x ≡ slice_index_or xs i x → take j xs ≡ take i xs ++ x ∷ []
take_next xs i j x next lt is = ap (λ n. take n xs) next ∙ go xs i lt is
  where
    go : (xs : List _) (i : ℕ) → i < length xs → x ≡ slice_index_or xs i x → take (suc i) xs ≡ take i xs ++ x ∷ []
    go [] i lt is = absurd (omega (arith, lt))
    go (y ∷ xs) zero lt is = ap (λ z. z ∷ []) (sym is)
    go (y ∷ xs) (suc i) lt is = ap (λ l. y ∷ l) (go xs i (omega (arith, lt)) is)

pub take_all : {A : Type 0} (xs : List A) (i : ℕ) → length xs ≤ i → take i xs ≡ xs
take_all [] zero le = refl
take_all [] (suc i) le = refl
take_all (x ∷ xs) zero le = absurd (omega (arith, le))
take_all (x ∷ xs) (suc i) le = ap (λ l. x ∷ l) (take_all xs i (omega (arith, le)))

pub at_index : {A : Type 0} (xs : List A) (i : ℕ) (x : A) → i < length xs → x ≡ slice_index_or xs i x → Contains xs x
at_index xs i x lt is = (i, lt, sym is)

flat_last : {A B : Type 0} (f : A → List B) (xs : List A) (x : A) → flat_map f (xs ++ x ∷ []) ≡ flat_map f xs ++ f x
flat_last f [] x = append-nil (f x)
flat_last f (y ∷ xs) x = ap (λ zs. f y ++ zs) (flat_last f xs x) ∙ sym (append_assoc (f y) (flat_map f xs) (f x))

pub both_empty : {A : Type 0} (xs ys : List A) → xs ≡ [] → ys ≡ [] → xs ++ ys ≡ []
both_empty xs ys h k = ap (λ zs. zs ++ ys) h ∙ k

-- ---- one statement more

pub known_next : (l : Listed) (scope : List ScopeSource) (body : List TriggerStatement) (s : TriggerStatement) → AreKnown l scope body
    → KnowsBeside l scope (λ db seen. statement_faults (faults_after 0 db) db seen s) (Ok tt) → AreKnown l scope (body ++ s ∷ [])
known_next l scope body s before one rows_at db rows outer of =
    flat_last (statement_faults (faults_after 0 db) db (record { scope = scope; rows = rows })) body s
    ∙ both_empty (body_faults db (record { scope = scope; rows = rows }) body) (statement_faults (faults_after 0 db) db (record { scope = scope; rows = rows }) s) (before rows_at db rows outer of) (one rows_at db rows outer of)

pub noted_next : (ts : List Trigger) (body : List TriggerStatement) (s : TriggerStatement) (a b c : Needs) → NotesThose ts (sets_off_within body) a b → NotesThose ts (sets_off_in s) b c → NotesThose ts (sets_off_within (body ++ s ∷ [])) a c
noted_next ts body s a b c one two =
    notes_both ts (sets_off_within body) (sets_off_in s) (sets_off_within (body ++ s ∷ [])) a b c
    (λ t. list_any-append (λ (u : TriggerStatement). sets_off_in u t) body (s ∷ []) ∙ ap (λ x. sets_off_within body t || x) (or_false (sets_off_in s t))) one two

-- a refusal of one statement is one of the body's
pub refused_in : (db : Database) (seen : Outer) (body : List TriggerStatement) (s : TriggerStatement) (f : Fault) → Contains body s → IsFaultOf (statement_faults (faults_after 0 db) db seen s) f → IsFaultOf (body_faults db seen body) f
refused_in db seen body s f at (inl memory) = inl memory
refused_in db seen body s f at (inr is) = inr (flat_into (statement_faults (faults_after 0 db) db seen) _ s body at is)

-- ---- what a call says

pub knows_err : (rs : List Refusal) (fault : Fault) (result : Result (Unit {0}) Fault) → IsErrAnd result (λ e. e ≡ fault) → IsFaultOf rs fault → Knows rs result
knows_err rs fault (Ok done) same h = absurd same
knows_err rs fault (Err e) same h = subst (IsFaultOf rs) (sym same) h

pub knows_memory : (rs : List Refusal) (result : Result (Unit {0}) Fault) → rs ≡ [] → IfErr result (λ fault. fault ≡ Memory) → Knows rs result
knows_memory rs (Ok done) none memory = none
knows_memory rs (Err e) none memory = inl memory

pub knows_as : {rs ss : List Refusal} → rs ≡ ss → (result : Result (Unit {0}) Fault) → Knows ss result → Knows rs result
knows_as same result h = subst (λ xs. Knows xs result) (sym same) h

-- of a call that hands a refusal on
pub matched : {A : Type 0} (Done : Type 0) (Is : Fault → Type 0) (fault : Fault) (result : Result A Fault) → IsErrAnd result (λ e. e ≡ fault) → Is fault → MatchResult result (λ done. Done) Is
matched Done Is fault (Ok done) same h = absurd same
matched Done Is fault (Err e) same h = subst Is (sym same) h

pub when_is : (scope : List ScopeSource) (rows : List Row) (condition : Option Tree) → when_faults (record { scope = scope; rows = rows }) condition ≡ faults (resolve_filter scope condition)
when_is scope rows None = refl
when_is scope rows (Some e) = mapped (resolve false scope e)
  where
    mapped : (k : Checked Term) → faults k ≡ faults (known_map (λ t. (let o : Option Term = Some t in o)) k)
    mapped (Meant t rs) = refl

module _ (l : Listed) (scope : List ScopeSource) (s : TriggerStatement) where
  pub of_change : (c : Change) (result : Result (Unit {0}) Fault) → s ≡ program.Change c → KnowsBeside l scope (λ db seen. faults_after 0 db seen c) result
      → KnowsBeside l scope (λ db seen. statement_faults (faults_after 0 db) db seen s) result
  of_change c result is h = subst (λ u. KnowsBeside l scope (λ db seen. statement_faults (faults_after 0 db) db seen u) result) (sym is) h

  pub of_query : (q : Query) (result : Result (Unit {0}) Fault) → s ≡ program.Select q → KnowsBeside l scope (λ db seen. faults (resolve_query (look_up db) seen.scope q)) result
      → KnowsBeside l scope (λ db seen. statement_faults (faults_after 0 db) db seen s) result
  of_query q result is h = subst (λ u. KnowsBeside l scope (λ db seen. statement_faults (faults_after 0 db) db seen u) result) (sym is) h
