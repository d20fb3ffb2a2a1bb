use Rattle.std.proofs.Common.{◌≡◌, refl, ap, ◌∙◌, ◌+◌, ◌-◌, length, List, Some, arith}
use Rattle.std.proofs.lemmas.List.{get_or_default}
use Rattle.session.specs.SavedTables.{SavedTables}
use Rattle.session.specs.declared.savepoints.Savepoint.{Savepoint}
use Rattle.session.proofs.SavedLists.{set_current, set_saved}
use Rattle.session.proofs.savepoints.SavedCatalogs.change.Goals as goal

pub returns-clause-current : goal.returns-clause-current
returns-clause-current c =
    let ss = c.args.self.now.savepoints in
    set_current _ ss.items _ _ c.args.catalog (omega (arith, c.len-count.ensures, c.if-count-eq0.false, ss.ok.0)) refl

pub returns-clause-savepoints : goal.returns-clause-savepoints
returns-clause-savepoints c =
    let ss = c.args.self.now.savepoints in
    let item : Savepoint = record { name = c.index_mut.result.now.name; changed = Some c.args.catalog } in
    let last : c.len-count.result - 1 + 1 ≡ length ss.items = omega (arith, c.len-count.ensures, c.if-count-eq0.false, ss.ok.0) in
    ap (λ (ps : List SavedTables). record { began = c.args.self.now.began; points = ps }) (set_saved _ ss.items (c.len-count.result - 1) item last
    (ap (λ (s : Savepoint). s.name) (c.index_mut.ensures.value ∙ get_or_default ss.items (c.len-count.result - 1) c.index_mut.result.now item (omega (arith, last)))))
