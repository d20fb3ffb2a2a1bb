use Rattle.std.proofs.Common.{ℕ, Ok}
use Rattle.pages.specs.Map.{PageMap}
use Rattle.db_write.specs.Changing.{UpdatesInTrees}
use Rattle.db_write.specs.Reading.{LoadsEnough}
use Rattle.db_write.proofs.Looping.{after_reading}
use Rattle.db_write.proofs.Updated.{none_read}
use Rattle.db_write.proofs.updating.update_rows.Goals as goal

pub returns-in_err-rows-clause-updated : goal.returns-in_err-rows-clause-updated
returns-in_err-rows-clause-updated g c = λ told.
    (let pages = g.P.Pages in
    none_read (pages.map c.args.pages.now) (pages.map c.enough_rows.new.pages) (pages.limits (pages.below c.args.pages.now)).page c.args.table.now c.args.condition.now c.args.sets.now
    c.in_err-rows.field-0.0 c.from_residual.result c.from_residual.ensures.1 (c.in_err-rows.ensures.loaded told))

pub returns-then-keeps_rowids-clause-updated : goal.returns-then-keeps_rowids-clause-updated
returns-then-keeps_rowids-clause-updated g c = λ told.
    (let pages = g.P.Pages in
    let new = pages.map c.set_in_places.new.pages in
    let table = c.args.table.now in
    let condition = c.args.condition.now in
    let rows = c.in_ok-rows.rows in
    let stays = c.in_ok-rows.ensures.stays in
    after_reading pages.below pages.tells pages.limits pages.map c.args.pages.now c.enough_rows.new.pages
    (λ (m : PageMap) (n : ℕ). LoadsEnough m n table condition (Ok rows) → UpdatesInTrees m new n table condition c.args.sets.now c.set_in_places.result) stays.kept stays.same c.set_in_places.ensures.updated told
    (c.in_ok-rows.ensures.loaded told))

pub returns-clause-updated : goal.returns-clause-updated
returns-clause-updated g c = λ told.
    (let pages = g.P.Pages in
    let new = pages.map c.set_each.new.pages in
    let table = c.args.table.now in
    let condition = c.args.condition.now in
    let rows = c.in_ok-rows.rows in
    let stays = c.in_ok-rows.ensures.stays in
    after_reading pages.below pages.tells pages.limits pages.map c.args.pages.now c.enough_rows.new.pages
    (λ (m : PageMap) (n : ℕ). LoadsEnough m n table condition (Ok rows) → UpdatesInTrees m new n table condition c.args.sets.now c.set_each.result) stays.kept stays.same c.set_each.ensures.updated told
    (c.in_ok-rows.ensures.loaded told))
