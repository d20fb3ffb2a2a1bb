use Rattle.std.proofs.Common.{rules, ◌≡◌, ◌∙◌, false, sym, subst, ℕ, List, map, None, Ok, Err}
use Rattle.std.specs.List.{AllByRecursion}
use Rattle.std.specs.Prelude.{IfSome}
use Rattle.catalog.specs.declared.tables.Index.{Index}
use Rattle.catalog.specs.declared.tables.TableRow.{TableRow}
use Rattle.pages.specs.Map.{PageMap}
use Rattle.row_change.specs.Agreement.{has_unique}
use Rattle.row_change.specs.Keeping.{KeepsAll}
use Rattle.index_entries.specs.Keeping.{row_in}
use Rattle.query_terms.specs.Values.{Row}
use Rattle.db_write.specs.Kept.{KeysRise, SeeAlone, SeeApart}
use Rattle.db_write.proofs.KeptAlone.{finds_alone, finds_apart, finds_free, finds_risen, finds_unread, finds_unseen}
use Rattle.db_write.proofs.Looping.{after_reading}
use Rattle.db_write.proofs.updating.changes_alone.Goals as goal

pub returns-then-not-has_unique-clause-found : goal.returns-then-not-has_unique-clause-found
returns-then-not-has_unique-clause-found g c = λ told.
    (let pages = g.P.Pages in
    let table = c.args.table.now in
    let condition = c.args.condition.now in
    let sets = c.args.sets.now in
    let rows = c.args.rows.now in
    let keeps = subst (λ found. IfSome found (λ changes. KeepsAll table sets condition rows changes.items)) c.in-Some.is c.in_ok-changes.ensures.kept in
    let none : has_unique table ≡ false = sym c.has_unique.ensures ∙ c.if-not-has_unique.true in
    finds_free (pages.map c.args.pages.now) (pages.limits (pages.below c.args.pages.now)).page table condition sets rows c.kept_rows_stay_alone.ensures c.in-Some.changes keeps none)

pub returns-then-keys_rise-clause-found : goal.returns-then-keys_rise-clause-found
returns-then-keys_rise-clause-found g c = λ told.
    (let pages = g.P.Pages in
    let table = c.args.table.now in
    let condition = c.args.condition.now in
    let sets = c.args.sets.now in
    let rows = c.args.rows.now in
    let keeps = subst (λ found. IfSome found (λ changes. KeepsAll table sets condition rows changes.items)) c.in-Some.is c.in_ok-changes.ensures.kept in
    let none : condition ≡ None = search rules in
    let rise = subst (λ (them : List Row). AllByRecursion (KeysRise them) table.indexes) c.as_slice.ensures
    (subst (λ (indexes : List Index). AllByRecursion (KeysRise c.as_slice.result.now) indexes) c.as_slice-indexes.ensures (c.keys_rise.ensures c.if-keys_rise.true)) in
    finds_risen (pages.map c.args.pages.now) (pages.limits (pages.below c.args.pages.now)).page table condition sets rows c.kept_rows_stay_alone.ensures c.in-Some.changes keeps none rise)

pub returns-in_err-all_keys_are_apart-clause-found : goal.returns-in_err-all_keys_are_apart-clause-found
returns-in_err-all_keys_are_apart-clause-found g c = λ told.
    (let pages = g.P.Pages in
    let old = pages.map c.args.pages.now in
    let size = (pages.limits (pages.below c.args.pages.now)).page in
    let table = c.args.table.now in
    let condition = c.args.condition.now in
    let sets = c.args.sets.now in
    let rows = c.args.rows.now in
    let fault = c.in_err-all_keys_are_apart.field-0.0 in
    let keeps = subst (λ found. IfSome found (λ changes. KeepsAll table sets condition rows changes.items)) c.in-Some.is c.in_ok-changes.ensures.kept in
    let sees = subst (λ (indexes : List Index). SeeApart old size indexes (Err fault)) c.as_slice-indexes.ensures (c.in_err-all_keys_are_apart.ensures.seen told) in
    finds_unseen old size table condition sets rows c.kept_rows_stay_alone.ensures c.in-Some.changes keeps fault c.from_residual-in_err-all_keys_are_apart.result
    c.from_residual-in_err-all_keys_are_apart.ensures.1 sees)

pub returns-then-branch-clause-found : goal.returns-then-branch-clause-found
returns-then-branch-clause-found g c = λ told.
    (let pages = g.P.Pages in
    let old = pages.map c.args.pages.now in
    let size = (pages.limits (pages.below c.args.pages.now)).page in
    let table = c.args.table.now in
    let condition = c.args.condition.now in
    let sets = c.args.sets.now in
    let rows = c.args.rows.now in
    let apart = c.in_ok-all_keys_are_apart.field-0 in
    let keeps = subst (λ found. IfSome found (λ changes. KeepsAll table sets condition rows changes.items)) c.in-Some.is c.in_ok-changes.ensures.kept in
    let sees = subst (λ (indexes : List Index). SeeApart old size indexes (Ok apart)) c.as_slice-indexes.ensures (c.in_ok-all_keys_are_apart.ensures.seen told) in
    finds_apart old size table condition sets rows c.kept_rows_stay_alone.ensures c.in-Some.changes keeps apart c.if-branch.true sees)

pub returns-in_err-are_alone-clause-found : goal.returns-in_err-are_alone-clause-found
returns-in_err-are_alone-clause-found g c = λ told.
    (let pages = g.P.Pages in
    let old = pages.map c.args.pages.now in
    let size = (pages.limits (pages.below c.args.pages.now)).page in
    let table = c.args.table.now in
    let condition = c.args.condition.now in
    let sets = c.args.sets.now in
    let rows = c.args.rows.now in
    let meant = c.in_ok-meant.meant in
    let fault = c.in_err-are_alone.field-0.0 in
    let keeps = subst (λ found. IfSome found (λ changes. KeepsAll table sets condition rows changes.items)) c.in-Some.is c.in_ok-changes.ensures.kept in
    let stays = c.in_ok-all_keys_are_apart.ensures.stays in
    let sees = subst (λ (indexes : List Index). SeeAlone old size indexes (map row_in meant.items) (Err fault)) c.as_slice-indexes.ensures
    (subst (λ (them : List TableRow). SeeAlone old size c.as_slice-indexes.result.now (map row_in them) (Err fault)) c.deref.ensures.value
    (after_reading pages.below pages.tells pages.limits pages.map c.args.pages.now c.all_keys_are_apart.new.pages
    (λ (m : PageMap) (n : ℕ). SeeAlone m n c.as_slice-indexes.result.now (map row_in c.deref.result.now) (Err fault)) stays.kept stays.same c.in_err-are_alone.ensures.seen told)) in
    finds_unread old size table condition sets rows c.kept_rows_stay_alone.ensures c.in-Some.changes keeps meant c.in_ok-meant.ensures.found
    fault c.from_residual-in_err-are_alone.result c.from_residual-in_err-are_alone.ensures.1 sees)

pub returns-then-branch-2-clause-found : goal.returns-then-branch-2-clause-found
returns-then-branch-2-clause-found g c = λ told.
    (let pages = g.P.Pages in
    let old = pages.map c.args.pages.now in
    let size = (pages.limits (pages.below c.args.pages.now)).page in
    let table = c.args.table.now in
    let condition = c.args.condition.now in
    let sets = c.args.sets.now in
    let rows = c.args.rows.now in
    let meant = c.in_ok-meant.meant in
    let alone = c.in_ok-are_alone.field-0 in
    let keeps = subst (λ found. IfSome found (λ changes. KeepsAll table sets condition rows changes.items)) c.in-Some.is c.in_ok-changes.ensures.kept in
    let stays = c.in_ok-all_keys_are_apart.ensures.stays in
    let sees = subst (λ (indexes : List Index). SeeAlone old size indexes (map row_in meant.items) (Ok alone)) c.as_slice-indexes.ensures
    (subst (λ (them : List TableRow). SeeAlone old size c.as_slice-indexes.result.now (map row_in them) (Ok alone)) c.deref.ensures.value
    (after_reading pages.below pages.tells pages.limits pages.map c.args.pages.now c.all_keys_are_apart.new.pages
    (λ (m : PageMap) (n : ℕ). SeeAlone m n c.as_slice-indexes.result.now (map row_in c.deref.result.now) (Ok alone)) stays.kept stays.same c.in_ok-are_alone.ensures.seen told)) in
    finds_alone old size table condition sets rows c.kept_rows_stay_alone.ensures c.in-Some.changes keeps meant c.in_ok-meant.ensures.found alone c.if-branch-2.true sees)
