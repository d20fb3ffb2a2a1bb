-- Where the names of a change and of all its programs are known, those of each program are.
use Rattle.std.proofs.Common.{◌≡◌, refl, ap, subst, ℕ, zero, suc, List, [], ◌∷◌, Option, Some, None}
use Rattle.std.proofs.lemmas.List.Elements.{Contains-append_left, Contains-append_right}
use Rattle.std.specs.List.{AllByRecursion, Contains}
use Rattle.std.specs.Prelude.{flat_map}
use Rattle.sqlval.specs.Refusals.{Refusal}
use Rattle.sql_syntax.specs.Tree.{Tree}
use Rattle.sql_syntax.specs.declared.change.Change.{Change}
use Rattle.sql_syntax.specs.declared.change.Change.TheVariants.{Insert, Update, Delete}
use Rattle.sql_syntax.specs.declared.create.TriggerDefinition.{TriggerDefinition}
use Rattle.sql_syntax.specs.declared.create.TriggerStatement.{TriggerStatement}
use Rattle.sql_syntax.specs.declared.create.TriggerStatement.TheVariants as program
use Rattle.catalog.specs.Database.{Name, Database}
use Rattle.query_names.specs.Checked.{faults}
use Rattle.query_names.specs.Queries.{resolve_query}
use Rattle.query_names.specs.Views.{look_up}
use Rattle.row_change.specs.Changes.{Outer}
use Rattle.row_change.specs.RowChanges.{Firing}
use Rattle.trigger.specs.Binding.{aim_of, faults_after, program_faults, program_scope, statement_faults, triggers_for, when_faults}
use Rattle.trigger.specs.Triggers.{outer_of}
use Rattle.trigger_bind.specs.Knowing.{IsInherited, IsRowOf, KnowsAll, KnowsProgram, KnowsStatement}
use Rattle.trigger_bind.proofs.Among.{flat_into, in_here, in_there, none_left}
use Rattle.trigger_bind.proofs.Chains.{target_good}
use Rattle.trigger_bind.proofs.Scopes.{sees_rows}

-- the rows of what is around a statement have no refusals
pub faults_by_scope : (n : ℕ) (db : Database) (a b : Outer) (c : Change) → a.scope ≡ b.scope → faults_after n db a c ≡ faults_after n db b c
faults_by_scope zero db a b (Insert i) same = ap (λ s. faults_after 0 db (record { scope = s; rows = [] }) (Insert i)) same
faults_by_scope zero db a b (Update u) same = ap (λ s. faults_after 0 db (record { scope = s; rows = [] }) (Update u)) same
faults_by_scope zero db a b (Delete d) same = ap (λ s. faults_after 0 db (record { scope = s; rows = [] }) (Delete d)) same
faults_by_scope (suc n) db a b c same = refl

pub when_by_scope : (a b : Outer) (condition : Option Tree) → a.scope ≡ b.scope → when_faults a condition ≡ when_faults b condition
when_by_scope a b None same = refl
when_by_scope a b (Some e) same = ap (λ s. when_faults (record { scope = s; rows = [] }) (Some e)) same

module _ (db : Database) (outer : Outer) (c : Change) (t : Name × TriggerDefinition) (firing : Firing) (all : KnowsAll db outer c) (at : Contains (triggers_for db (aim_of c)) t) (row : IsRowOf db (aim_of c) firing) where
  seen : Outer
  seen = program_scope db (aim_of c)

  same : (outer_of firing).scope ≡ (program_scope db (aim_of c)).scope
  same = sees_rows db (aim_of c) firing (target_good db outer c (none_left (faults_after 0 db outer c) (λ r is. all 0 r is))) row.columns row.has_rowid row.has

  none_in : (n : ℕ) (r : Refusal) → Contains (program_faults (faults_after n db) db (program_scope db (aim_of c)) t.1) r → ⊥
  none_in n r is = all (suc n) r (flat_into (λ (e : Name × TriggerDefinition). program_faults (faults_after n db) db (program_scope db (aim_of c)) e.1) r t (triggers_for db (aim_of c)) at is)

  in_body : (n : ℕ) (s : TriggerStatement) (r : Refusal) → Contains t.1.body s → Contains (statement_faults (faults_after n db) db (program_scope db (aim_of c)) s) r → ⊥
  in_body n s r s_at is = none_in n r (Contains-append_right (when_faults (program_scope db (aim_of c)) t.1.condition) (flat_map (statement_faults (faults_after n db) db (program_scope db (aim_of c))) t.1.body) r
      (flat_into (statement_faults (faults_after n db) db (program_scope db (aim_of c))) r s t.1.body s_at is))

  statement : (s : TriggerStatement) → Contains t.1.body s → KnowsStatement db (outer_of firing) s
  statement (program.Change b) s_at = λ n r is. in_body n (program.Change b) r s_at (subst (λ rs. Contains rs r) (faults_by_scope n db (outer_of firing) (program_scope db (aim_of c)) b same) is)
  statement (program.Select q) s_at = none_left (faults (resolve_query (look_up db) (outer_of firing).scope q)) (λ r is. in_body 0 (program.Select q) r s_at (subst (λ s. Contains (faults (resolve_query (look_up db) s q)) r) same is))

  each : (body : List TriggerStatement) → ((s : TriggerStatement) → Contains body s → Contains t.1.body s) → AllByRecursion (KnowsStatement db (outer_of firing)) body
  each [] there = tt
  each (s ∷ body) there = (statement s (there s (in_here s body)), each body (λ u u_at. there u (in_there u s body u_at)))

  pub inherited : KnowsProgram db (outer_of firing) t.1
  inherited = record {
    condition = none_left (when_faults (outer_of firing) t.1.condition) (λ r is. none_in 0 r
        (Contains-append_left (when_faults (program_scope db (aim_of c)) t.1.condition) (flat_map (statement_faults (faults_after 0 db) db (program_scope db (aim_of c))) t.1.body) r
        (subst (λ rs. Contains rs r) (when_by_scope (outer_of firing) (program_scope db (aim_of c)) t.1.condition same) is)));
    body = each t.1.body (λ s s_at. s_at);
  }

pub is_inherited : IsInherited
is_inherited = inherited
