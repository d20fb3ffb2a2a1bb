use Rattle.std.proofs.Common.{ℕ, List, subst, Ok}
use Rattle.std.specs.Prelude.{Option}
use Rattle.std.specs.Global.{Vec}
use Rattle.pages.specs.Map.{PageMap}
use Rattle.tree_table.specs.declared.changing.RowChange.{RowChange}
use Rattle.row_change.specs.Keeping.{PutsKept}
use Rattle.db_write.specs.Changing.{UpdatesInTrees}
use Rattle.db_write.specs.Kept.{FindsKept}
use Rattle.db_write.specs.Reading.{LoadsEnough}
use Rattle.db_write.proofs.KeptAlone.{kept_set, none_found}
use Rattle.db_write.proofs.Looping.{after_reading}
use Rattle.db_write.proofs.updating.set_in_places.Goals as goal

pub returns-in_err-changes-clause-updated : goal.returns-in_err-changes-clause-updated
returns-in_err-changes-clause-updated g c = λ told loads.
    (let pages = g.P.Pages in
    none_found (pages.map c.args.pages.now) (pages.limits (pages.below c.args.pages.now)).page c.args.table.now c.args.condition.now c.args.sets.now c.args.rows.now loads (pages.map c.changes_alone.new.pages)
    c.in_err-changes.field-0.0 c.from_residual.result c.from_residual.ensures.1 (c.in_err-changes.ensures.found told))

pub returns-in-Some-clause-updated : goal.returns-in-Some-clause-updated
returns-in-Some-clause-updated g c = λ told loads.
    (let pages = g.P.Pages in
    let start = c.args.pages.now in
    let old = pages.map start in
    let new = pages.map c.put_changes.new.pages in
    let size = (pages.limits (pages.below start)).page in
    let table = c.args.table.now in
    let condition = c.args.condition.now in
    let sets = c.args.sets.now in
    let rows = c.args.rows.now in
    let changes = c.in-Some.changes in
    let result = c.put_changes.result in
    let stays = c.in_ok-changes.ensures.stays in
    let finds = subst (λ (found : Option (Vec RowChange)). FindsKept old size table condition sets rows (Ok found)) c.in-Some.is (c.in_ok-changes.ensures.found told) in
    let puts = after_reading pages.below pages.tells pages.limits pages.map start c.changes_alone.new.pages
    (λ (m : PageMap) (n : ℕ). PutsKept m new n table c.deref.result.now result) stays.kept stays.same c.put_changes.ensures.put told in
    kept_set old size table condition sets rows loads new changes result c.requires finds
    (subst (λ (them : List RowChange). PutsKept old new size table them result) c.deref.ensures.value puts))

pub returns-in-None-clause-updated : goal.returns-in-None-clause-updated
returns-in-None-clause-updated g c = λ told loads.
    (let pages = g.P.Pages in
    let start = c.args.pages.now in
    let new = pages.map c.set_with_entries.new.pages in
    let table = c.args.table.now in
    let condition = c.args.condition.now in
    let sets = c.args.sets.now in
    let rows = c.args.rows.now in
    let stays = c.in_ok-changes.ensures.stays in
    after_reading pages.below pages.tells pages.limits pages.map start c.changes_alone.new.pages
    (λ (m : PageMap) (n : ℕ). LoadsEnough m n table condition (Ok rows) → UpdatesInTrees m new n table condition sets c.set_with_entries.result) stays.kept stays.same c.set_with_entries.ensures.updated told loads)
