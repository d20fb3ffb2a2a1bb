use Rattle.std.proofs.Common.{refl, ◌∙◌, ap, Bool}
use Rattle.session.specs.Representation.{Beside, beside_in}
use Rattle.std.specs.Prelude.{◌||◌}
use Rattle.session.specs.SavedTables.{current_in}
use Rattle.session.proofs.transactions.Connections.commit_writer.Goals as goal

pub returns-in-Err-clause-commits : goal.returns-in-Err-clause-commits
returns-in-Err-clause-commits g c db was whole applies stored =
    let mid = c.write_changes.new.self in
    let rest = c.write_changes.ensures.rest in
    c.in-Err.ensures.writes db was whole applies stored (record mid { has_failed = mid.has_failed || c.is_io.result }) (record {
      files_are = refl;
      beside = ap (λ (b : Beside). record b { failed = b.failed || c.is_io.result }) rest.beside ∙ ap (λ (b : Bool). record (beside_in c.args.self.now) { failed = b }) (ap (λ b. b || c.is_io.result) whole ∙ c.is_io.ensures);
      transaction = rest.transaction;
      catalog = rest.catalog;
    })

pub returns-clause-commits : goal.returns-clause-commits
returns-clause-commits g c db was whole applies stored =
    let mid = c.write_changes.new.self in
    let rest = c.write_changes.ensures.rest in
    let committed = record mid { catalog = c.commit.new.self; newest = c.commit.new.newest } in
    let has = c.in_default.ensures.writes db was whole applies stored committed (record {
      files_are = refl;
      failed = ap (λ (b : Beside). b.failed) rest.beside;
      connection = ap (λ (b : Beside). b.connection) rest.beside;
      parked = ap (λ (b : Beside). b.parked) rest.beside;
      transaction = rest.transaction;
      newest = c.commit.ensures.newest ∙ ap current_in rest.catalog;
      all = c.commit.ensures.unchanged;
      savepoints = c.commit.ensures.none;
    }) in
    (committed, has.0, has.1, c.copy_long_log.ensures.copies)
