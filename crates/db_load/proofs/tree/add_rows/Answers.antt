use Rattle.std.proofs.Common.{rules, ◌≡◌, Ok, None, inl}
use Rattle.std.specs.Prelude.{⊤}
use Rattle.sqlval.specs.Faults.{IsNotDiskFault}
use Rattle.pages.specs.Calls.{Stays}
use Rattle.catalog.specs.Listed.{listed_in}
use Rattle.db_load.proofs.TreeTables.{all_loaded, all_told, at_start, batch_refused, loads_on, none_found, outside_matched, stops_there}
use Rattle.db_load.proofs.tree.add_rows.Goals as goal

pub batches-init : goal.batches-init
batches-init g c =
    let gs = g.P.Pages in
    at_start gs.below gs.tells gs.limits gs.map gs.count gs.failures c.args.tables c.args.size c.args.pages.now c.new-cursor.result.root c.new-cursor.result.next (listed_in c.args.catalog.now) c.new-cursor.ensures.root c.new-cursor.ensures.first

pub returns-in_err-next_batch-clause-loaded : goal.returns-in_err-next_batch-clause-loaded
returns-in_err-next_batch-clause-loaded g c = λ told listed rows used whole tree sound l.
    (let gs = g.P.Pages in
    outside_matched _ c.from_residual.result c.in_err-next_batch.field-0.0 c.from_residual.ensures.1
    (batch_refused gs.below gs.tells gs.limits gs.map gs.count gs.failures c.args.tables c.args.size c.args.pages.now c.batches.pages c.batches.cursor.root c.batches.cursor.next c.next_batch.new.self.next
    (listed_in c.args.catalog.now) (listed_in c.batches.catalog) c.next_batch.new.batch c.batches.invariant c.in_err-next_batch.field-0.0 c.in_err-next_batch.ensures.given told rows used whole tree))

pub returns-in_err-next_batch-clause-told : goal.returns-in_err-next_batch-clause-told
returns-in_err-next_batch-clause-told g c = λ told rows used whole tree. none_found _ c.from_residual.result c.in_err-next_batch.field-0.0 c.from_residual.ensures.1

pub batches-preserved : goal.batches-preserved
batches-preserved g c =
    let gs = g.P.Pages in
    let stays : Stays gs.below gs.map gs.count gs.failures {T = ⊤} (Ok tt) c.args.pages.now c.next_batch.new.pages = search rules in
    loads_on gs.below gs.tells gs.limits gs.map gs.count gs.failures c.args.tables c.args.size c.args.pages.now c.batches.pages c.batches.cursor.root c.batches.cursor.next c.next_batch.new.self.next
    (listed_in c.args.catalog.now) (listed_in c.batches.catalog) c.next_batch.new.batch c.batches.invariant c.next_batch.new.pages c.next_batch.new.self.root (listed_in c.add_batch.new.catalog) c.in_ok-next_batch.ensures.root stays
    c.in_ok-next_batch.ensures.given c.in_ok-add_batch.ensures.loaded c.in_ok-add_batch.ensures.told

pub returns-in_err-add_batch-clause-loaded : goal.returns-in_err-add_batch-clause-loaded
returns-in_err-add_batch-clause-loaded g c = λ told listed rows used whole tree sound l.
    (let gs = g.P.Pages in
    outside_matched _ c.from_residual-in_err-add_batch.result c.in_err-add_batch.field-0.0 c.from_residual-in_err-add_batch.ensures.1
    (inl (stops_there gs.below gs.tells gs.limits gs.map gs.count gs.failures c.args.tables c.args.size c.args.pages.now c.batches.pages c.batches.cursor.root c.batches.cursor.next c.next_batch.new.self.next
    (listed_in c.args.catalog.now) (listed_in c.batches.catalog) c.next_batch.new.batch c.batches.invariant c.in_err-add_batch.field-0.0 (listed_in c.add_batch.new.catalog) c.in_ok-next_batch.ensures.given
    c.in_err-add_batch.ensures.loaded told listed rows used whole tree sound l)))

pub returns-in_err-add_batch-clause-told : goal.returns-in_err-add_batch-clause-told
returns-in_err-add_batch-clause-told g c = λ told rows used whole tree. none_found _ c.from_residual-in_err-add_batch.result c.in_err-add_batch.field-0.0 c.from_residual-in_err-add_batch.ensures.1

pub returns-in_err-add_batch-clause-stays : goal.returns-in_err-add_batch-clause-stays
returns-in_err-add_batch-clause-stays g c =
    let calm : IsNotDiskFault c.in_err-add_batch.field-0.0 = c.in_err-add_batch.ensures.not_disk.0 in
    search rules

pub returns-clause-loaded : goal.returns-clause-loaded
returns-clause-loaded g c = λ told listed rows used whole tree sound l.
    (let gs = g.P.Pages in
    let none : c.batches.cursor.next ≡ None = search rules in
    all_loaded gs.below gs.tells gs.limits gs.map gs.count gs.failures c.args.tables c.args.size c.args.pages.now c.batches.pages c.batches.cursor.root c.batches.cursor.next c.batches.cursor.next
    (listed_in c.args.catalog.now) (listed_in c.batches.catalog) c.batches.batch c.batches.invariant none told listed rows used whole tree sound l)

pub returns-clause-told : goal.returns-clause-told
returns-clause-told g c = λ told rows used whole tree.
    (let gs = g.P.Pages in
    let none : c.batches.cursor.next ≡ None = search rules in
    all_told gs.below gs.tells gs.limits gs.map gs.count gs.failures c.args.tables c.args.size c.args.pages.now c.batches.pages c.batches.cursor.root c.batches.cursor.next c.batches.cursor.next
    (listed_in c.args.catalog.now) (listed_in c.batches.catalog) c.batches.batch c.batches.invariant none told rows used whole tree)
