use Rattle.std.proofs.Common.{◌≡◌, ◌⊎◌, ◌∙◌, ap, sym, List, map, subst, true, Ok, Err}
use Rattle.sqlval.specs.Refusals.{Answer}
use Rattle.sqlval.specs.declared.fault.Fault.TheVariants.{Memory, TooLong}
use Rattle.tree_page.specs.Cells.{Pairwise}
use Rattle.tree_table.specs.Calls.{ChangesRows}
use Rattle.catalog.specs.Listed.{own_column}
use Rattle.catalog.specs.declared.tables.TableRow as stored
use Rattle.query_terms.specs.Outcome.{IsRefusedBy}
use Rattle.row_scan.specs.Rows.{TableRow}
use Rattle.row_change.specs.Inserting.{AllStorable}
use Rattle.row_change.specs.NewRows.{IsWritten, all_hold, entry_left, row_of}
use Rattle.row_change.proofs.Records.{all_at_own, written_back}
use Rattle.row_change.proofs.Replaced.{as_replaced}
use Rattle.row_change.proofs.SetRows.{these_changed}
use Rattle.row_change.proofs.SetTrees.{changed_hold, none_changed, none_stored, none_told, passed_on, rows_replaced, told_changed}
use Rattle.row_change.proofs.updating.set_rows_at.Goals as goal

pub returns-in_err-new-clause-set : goal.returns-in_err-new-clause-set
returns-in_err-new-clause-set g c = λ told condition meant.
    (let pages = g.P.Pages in
    let table = c.args.table.now in
    let old = pages.map c.args.pages.now in
    let fault = c.in_err-new.field-0.0 in
    none_changed table c.args.sets.now condition old old (pages.limits (pages.below c.args.pages.now)).page table.root c.args.rows.now
    fault c.from_residual.result c.from_residual.ensures.1
    (subst (λ (a : Answer (List TableRow)). IsRefusedBy a fault) (sym (these_changed table c.args.sets.now condition c.args.rows.now c.args.places.now meant)) c.in_err-new.ensures.changed))

pub returns-in_err-changes-clause-set : goal.returns-in_err-changes-clause-set
returns-in_err-changes-clause-set g c = λ told condition meant.
    (let pages = g.P.Pages in
    let table = c.args.table.now in
    let old = pages.map c.args.pages.now in
    let own = c.own_column.result in
    let fault = c.in_err-changes.field-0.0 in
    let given = map row_of c.in_ok-new.new.items in
    let changed = these_changed table c.args.sets.now condition c.args.rows.now c.args.places.now meant ∙ c.in_ok-new.ensures.changed in
    let holds = changed_hold table c.args.sets.now condition c.args.rows.now given changed in
    let why = all_at_own (λ own. (fault ≡ Memory) ⊎ ((fault ≡ TooLong) × (AllStorable given → ⊥))) own (own_column table) given c.own_column.ensures
    (subst (λ (them : List stored.TableRow). all_hold own (map row_of them) ≡ true → (fault ≡ Memory) ⊎ ((fault ≡ TooLong) × (AllStorable (map row_of them) → ⊥))) c.deref_mut.ensures.value c.in_err-changes.ensures.refused) holds in
    none_stored table c.args.sets.now condition old old (pages.limits (pages.below c.args.pages.now)).page table.root c.args.rows.now
    given changed fault c.from_residual-in_err-changes.result c.from_residual-in_err-changes.ensures.1 why)

pub returns-in_err-change_rows-clause-set : goal.returns-in_err-change_rows-clause-set
returns-in_err-change_rows-clause-set g c = λ told condition meant.
    (let pages = g.P.Pages in
    let table = c.args.table.now in
    let old = pages.map c.args.pages.now in
    let new = pages.map c.change_rows.new.pages in
    let size = (pages.limits (pages.below c.args.pages.now)).page in
    let own = c.own_column.result in
    let changes = c.in_ok-changes.changes.items in
    let fault = c.in_err-change_rows.field-0.0 in
    let given = map row_of c.in_ok-new.new.items in
    let changed = these_changed table c.args.sets.now condition c.args.rows.now c.args.places.now meant ∙ c.in_ok-new.ensures.changed in
    let holds = changed_hold table c.args.sets.now condition c.args.rows.now given changed in
    let written = all_at_own (λ own. Pairwise (IsWritten own) given (map entry_left changes)) own (own_column table) given c.own_column.ensures
    (subst (λ (them : List stored.TableRow). all_hold own (map row_of them) ≡ true → Pairwise (IsWritten own) (map row_of them) (map entry_left changes)) c.deref_mut.ensures.value c.in_ok-changes.ensures.made) holds in
    let made = subst (λ them. ChangesRows old new size table.root them (Err fault)) c.deref.ensures.value (c.in_err-change_rows.ensures.changed told) in
    passed_on table c.args.sets.now condition old new size table.root c.args.rows.now fault c.from_residual-in_err-change_rows.result c.from_residual-in_err-change_rows.ensures.1
    (rows_replaced table c.args.sets.now condition old new size table.root c.args.rows.now given changed
    (map entry_left changes) (Err fault) written (as_replaced old new size table.root changes (Err fault) c.in_ok-changes.ensures.some made)))

pub returns-clause-set : goal.returns-clause-set
returns-clause-set g c = λ told condition meant.
    (let pages = g.P.Pages in
    let table = c.args.table.now in
    let old = pages.map c.args.pages.now in
    let new = pages.map c.change_rows.new.pages in
    let size = (pages.limits (pages.below c.args.pages.now)).page in
    let own = c.own_column.result in
    let changes = c.in_ok-changes.changes.items in
    let given = map row_of c.in_ok-new.new.items in
    let changed = these_changed table c.args.sets.now condition c.args.rows.now c.args.places.now meant ∙ c.in_ok-new.ensures.changed in
    let holds = changed_hold table c.args.sets.now condition c.args.rows.now given changed in
    let written = all_at_own (λ own. Pairwise (IsWritten own) given (map entry_left changes)) own (own_column table) given c.own_column.ensures
    (subst (λ (them : List stored.TableRow). all_hold own (map row_of them) ≡ true → Pairwise (IsWritten own) (map row_of them) (map entry_left changes)) c.deref_mut.ensures.value c.in_ok-changes.ensures.made) holds in
    let made = subst (λ them. ChangesRows old new size table.root them (Ok tt)) c.deref.ensures.value (c.in_ok-change_rows.ensures.changed told) in
    rows_replaced table c.args.sets.now condition old new size table.root c.args.rows.now given changed
    (map entry_left changes) (Ok tt) written (as_replaced old new size table.root changes (Ok tt) c.in_ok-changes.ensures.some made))

pub returns-clause-rows : goal.returns-clause-rows
returns-clause-rows g c = λ condition meant.
    (let table = c.args.table.now in
    let own = c.own_column.result in
    let given = map row_of c.in_ok-new.new.items in
    let changed = these_changed table c.args.sets.now condition c.args.rows.now c.args.places.now meant ∙ c.in_ok-new.ensures.changed in
    let holds = changed_hold table c.args.sets.now condition c.args.rows.now given changed in
    let same = all_at_own (λ own. map row_of c.changes_of.new.rows ≡ given) own (own_column table) given c.own_column.ensures
    (subst (λ (them : List stored.TableRow). all_hold own (map row_of them) ≡ true → map row_of c.changes_of.new.rows ≡ map row_of them) c.deref_mut.ensures.value c.in_ok-changes.ensures.kept) holds in
    let back = written_back c.in_ok-new.new.len c.changes_of.new.rows c.in_ok-new.new.items (c.changes_of.auto.rows ∙ c.deref_mut.ensures.len) in
    told_changed table c.args.sets.now condition c.args.rows.now given _ changed (ap (map row_of) back ∙ same))

pub returns-in_err-new-clause-rows : goal.returns-in_err-new-clause-rows
returns-in_err-new-clause-rows g c = λ condition meant.
    none_told c.args.table.now c.args.sets.now condition c.args.rows.now c.in_err-new.field-0.0 c.from_residual.result c.from_residual.ensures.1

pub returns-in_err-changes-clause-rows : goal.returns-in_err-changes-clause-rows
returns-in_err-changes-clause-rows g c = λ condition meant.
    none_told c.args.table.now c.args.sets.now condition c.args.rows.now
    c.in_err-changes.field-0.0 c.from_residual-in_err-changes.result c.from_residual-in_err-changes.ensures.1

pub returns-in_err-change_rows-clause-rows : goal.returns-in_err-change_rows-clause-rows
returns-in_err-change_rows-clause-rows g c = λ condition meant.
    none_told c.args.table.now c.args.sets.now condition c.args.rows.now
    c.in_err-change_rows.field-0.0 c.from_residual-in_err-change_rows.result c.from_residual-in_err-change_rows.ensures.1
