use Rattle.std.proofs.Common.{◌≡◌, ◌∙◌, refl, subst, sym, false}
use Rattle.std.specs.List.{list_any}
use Rattle.sqlval.specs.Names.{is_same_name}
use Rattle.sql_syntax.specs.declared.statement.Statement.TheVariants as statement
use Rattle.catalog.specs.Database.{Name}
use Rattle.session.specs.SavedTables.{IsNewestNamed, names_in, savepoints_in}
use Rattle.session.proofs.SavingSteps.{both_so, none_to_release, release_commits, released_step}
use Rattle.session.proofs.transactions.Connections.release_here.Goals as goal

pub returns-in_default-clause-step : goal.returns-in_default-clause-step
returns-in_default-clause-step g c =
    none_to_release c.args.self.now c.args.name.now (subst (λ (n : Name). list_any (λ other. is_same_name other n) (names_in c.args.self.now.catalog) ≡ false) c.as_str.ensures c.in_default.ensures.none)

pub returns-then-begins_at-clause-step : goal.returns-then-begins_at-clause-step
returns-then-begins_at-clause-step g c =
    let named = subst (λ (n : Name). IsNewestNamed n (names_in c.args.self.now.catalog) c.in-Some.place) c.as_str.ensures c.in-Some.ensures.found in
    let first = both_so c.in-Some.place (savepoints_in c.args.self.now.catalog).began (sym c.begins_at.ensures ∙ c.if-begins_at.true) in
    c.commit_here.ensures.step (statement.Release c.args.name.now) (release_commits c.args.self.now c.args.name.now c.in-Some.place named first.0 first.1)

pub returns-clause-step : goal.returns-clause-step
returns-clause-step g c =
    let named = subst (λ (n : Name). IsNewestNamed n (names_in c.args.self.now.catalog) c.in-Some.place) c.as_str.ensures c.in-Some.ensures.found in
    released_step c.args.self.now _ c.args.name.now c.in-Some.place named (sym c.begins_at.ensures ∙ c.if-begins_at.false) (record { files = refl; beside = refl }) c.release.ensures c.release-2.ensures
