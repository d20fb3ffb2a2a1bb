use Rattle.std.proofs.Common.{◌≡◌, ◌<◌, refl, subst, false, length, arith}
use Rattle.std.proofs.lemmas.List.{length-map}
use Rattle.std.specs.List.{list_any}
use Rattle.sqlval.specs.Names.{is_same_name}
use Rattle.catalog.specs.Database.{Name}
use Rattle.session.specs.SavedTables.{IsNewestNamed, SavedTables, names_in, savepoints_in}
use Rattle.session.proofs.SavingSteps.{none_to_go_back, returned_step}
use Rattle.session.proofs.transactions.Connections.rollback_to_here.Goals as goal

pub returns-in_default-clause-step : goal.returns-in_default-clause-step
returns-in_default-clause-step g c =
    none_to_go_back c.args.self.now c.args.name.now (subst (λ (n : Name). list_any (λ other. is_same_name other n) (names_in c.args.self.now.catalog) ≡ false) c.as_str.ensures c.in_default.ensures.none)

pub returns-clause-step : goal.returns-clause-step
returns-clause-step g c =
    let named = subst (λ (n : Name). IsNewestNamed n (names_in c.args.self.now.catalog) c.in-Some.place) c.as_str.ensures c.in-Some.ensures.found in
    let within : c.in-Some.place < length (savepoints_in c.args.self.now.catalog).points = omega (arith, named.within, length-map (savepoints_in c.args.self.now.catalog).points (λ (p : SavedTables). p.name)) in
    returned_step c.args.self.now _ c.args.name.now c.in-Some.place named (record { files = refl; beside = refl }) (c.back_to.ensures within) c.back_to-2.ensures
