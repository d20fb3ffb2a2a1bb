-- What each function of the ring makes of the pages.
use Rattle.std.proofs.Common.{rules, ◌≡◌, ◌∷◌, ◌∙◌, refl, sym, ap, subst, List, ℕ, ◌-◌, ◌==◌, length, take, drop, Bool, true, false, Ok, Err, Option, inl}
use Rattle.std.specs.declared.alloc.Global.{Global}
use Rattle.std.specs.declared.rc.Rc.{Rc}
use Rattle.sqlval.specs.Names.{folded}
use Rattle.sqlval.specs.Refusals.{Answer, fold_answer}
use Rattle.sqlval.specs.declared.fault.Fault.{Fault}
use Rattle.sql_syntax.specs.declared.create.TriggerStatement.{TriggerStatement}
use Rattle.sql_syntax.specs.declared.create.TriggerTime.TheVariants.{Before, After, InsteadOf}
use Rattle.pages.specs.Map.{PageMap}
use Rattle.catalog.specs.Database.{Database, Name}
use Rattle.catalog.specs.Listed.{listed_in}
use Rattle.catalog.specs.declared.tables.Trigger.{Trigger}
use Rattle.trigger.specs.Binding.{aim_of}
use Rattle.trigger.specs.Effects.{programs, change_with}
use Rattle.trigger.specs.Triggers.{fired, outer_of, when_holds, run_trigger, triggers_at}
use Rattle.db_pages.specs.Stored.{Stores}
use Rattle.db_write.proofs.Looping.{first_of, none_left, since, after_reading}
use Rattle.executor_programs.specs.Running.{Runs, running_names, KnowsBody, KnowsRows, OnEach, definitions}
use Rattle.executor_programs.specs.declared.acts.TableItem.{TableItem}
use Rattle.executor_programs.specs.declared.acts.ViewItem.{ViewItem}
use Rattle.executor_programs.proofs.Folding.{RunsTo, failed, stopped}
use Rattle.executor_programs.proofs.Going.{BodyRuns, Fires, FiresOne, OneSeenChanges, RowChanges, RowsChange, SeenChange, StatementRuns, body_done, body_goes, body_stops, fires_none, fires_on, fires_stop, rows_done, rows_go, rows_stop, seen_done, seen_go, seen_stop}
use Rattle.executor_programs.proofs.running.+run.Goals as goal
use Rattle.executor_programs.proofs.running.+run.Goals.{fire_one-then-is_running-via-then-is_running, fire_one-then-is_running-via-else-is_running+in_ok-holds_at+then-not-branch}
use Rattle.std.specs.List.{AllByRecursion}
use Rattle.sqlval.specs.declared.fault.Fault.TheVariants as fault
use Rattle.row_change.specs.RowChanges.{Firing}
use Rattle.trigger_bind.specs.Choosing.{named_definition}
use Rattle.trigger_bind.specs.Knowing.{KnowsStatement}
use Rattle.executor_programs.specs.Acts.{IsItemOf, IsSeenOf, IsWorkOf}
use Rattle.executor_programs.specs.Begun.{Finishes, IsBegunAs, IsRowOnPages}
use Rattle.executor_programs.specs.Rows.{begun, columns_listed_of, row_changed, rows_seen, seen_changed}
use Rattle.executor_programs.specs.declared.acts.Work.{Work}
use Rattle.executor_programs.specs.declared.rows.Begun.{Begun}
use Rattle.executor_programs.proofs.Beside.{as_fired, causes_none, firing_at, fires_nothing, knows_each, memory_alone, set_off_around, shows_row, shows_so}
use Rattle.executor_programs.proofs.Untouched.{stays_untouched}
use Rattle.executor_programs.proofs.WorkOf.{only_memory, same_outer}
use Rattle.query_bind.specs.Named.{AreOuter}
use Rattle.query_names.specs.Bound.{IsFaultOf}
use Rattle.query_names.specs.Checked.{faults}
use Rattle.row_change.specs.Changes.{Outer, resolve_change}
use Rattle.executor_programs.proofs.Changing.{ends, row_gone, row_unread, stops_before, stops_within}
use Rattle.executor_programs.proofs.Firing.{deep, held_of, is_running_now, isnt_true, pushed, runs_body, skips, unread, unread_of}
use Rattle.executor_programs.proofs.Reading.{changes, not_begun, reads}
use Rattle.executor_programs.proofs.RowsOfViews.{changes_seen, event_at, seen_as, seen_row}

abbrev told_so : Bool → Answer Bool
told_so b = Ok b

-- src/running.rt:285:16
pub change_one_seen-returns-in_err-rows-clause-causes :
    goal.change_one_seen-returns-in_err-rows-clause-causes
change_one_seen-returns-in_err-rows-clause-causes g t c = search rules

-- src/running.rt:290:5
pub change_one_seen-fire-requires : goal.change_one_seen-fire-requires
change_one_seen-fire-requires g t c κs within = search rules

-- src/running.rt:264:1
pub change_one_seen-returns-clause-runs : goal.change_one_seen-returns-clause-runs
change_one_seen-returns-clause-runs g t c = λ seen ch told shows is each knows db held.
    (let pages = g.P.Pages in
    let old = c.args.pages.now in
    let size = (pages.limits (pages.below old)).page in
    let room = c.args.run.room in
    let l = listed_in c.args.run.catalog.now in
    let names = running_names c.args.running.now.items in
    let fire = fired (programs room) names in
    let act = c.args.act.now in
    let item = c.args.item.now in
    let cs = columns_listed_of l (aim_of ch).target in
    let new = pages.map c.fire.new.pages in
    let s = seen_as (rows_seen seen cs act item) c.in_ok-rows.rows.items (c.in_ok-rows.ensures.shown seen cs shows is.wide) in
    let f : Firing = event_at l ch seen act item s.p in
    let row = seen_row l ch seen act item c.args.width s.p is each s.is in
    let these = subst (λ (ts : List (Rc Trigger Global)). OnEach l (λ db. definitions ts ≡ triggers_at InsteadOf (aim_of ch).event db (aim_of ch).target)) (sym c.deref-3.ensures.value) is.around.before in
    let knows1 = knows_each l ch InsteadOf c.deref-3.result.now f row these c.listed_tables_are_known.ensures knows in
    changes_seen l ch seen act item fire db new size s.p c.fire.result s.is
    (as_fired l ch InsteadOf c.deref-3.result.now f row these (pages.map old) new size (programs room) names names c.fire.result refl
    (c.fire.ensures.runs (outer_of f) told (shows_row l ch act f _ is.around row c.deref.ensures.value (c.deref-2.ensures.value ∙ s.are)) knows1) db held))

-- src/running.rt:216:23
pub change_row-returns-in_err-begun-clause-runs : goal.change_row-returns-in_err-begun-clause-runs
change_row-returns-in_err-begun-clause-runs g t c = λ seen ch told shows is each knows there db held.
    (let pages = g.P.Pages in
    let old = c.args.pages.now in
    let size = (pages.limits (pages.below old)).page in
    let room = c.args.run.room in
    let l = listed_in c.args.run.catalog.now in
    let names = running_names c.args.running.now.items in
    let fire = fired (programs room) names in
    let table = c.args.table.now in
    let act = c.args.act.now in
    let item = c.args.item.now in
    let e : Fault = c.in_err-begun.field-0.0 in
    failed (pages.map c.begin.new.pages) size l (row_changed fire seen ch act item db) c.from_residual.result e c.from_residual.ensures.1
    (row_unread fire seen ch act item db l e (c.in_err-begun.ensures.begun ch told db seen held shows is each (there db held))))

-- src/running.rt:217:9
pub change_row-returns-in_default-clause-runs : goal.change_row-returns-in_default-clause-runs
change_row-returns-in_default-clause-runs g t c = λ seen ch told shows is each knows there db held.
    (let pages = g.P.Pages in
    let old = c.args.pages.now in
    let size = (pages.limits (pages.below old)).page in
    let room = c.args.run.room in
    let l = listed_in c.args.run.catalog.now in
    let names = running_names c.args.running.now.items in
    let fire = fired (programs room) names in
    let table = c.args.table.now in
    let act = c.args.act.now in
    let item = c.args.item.now in
    record {
      made = db;
      is = row_gone fire seen ch act item db
          (subst (λ (x : Option Begun). IsBegunAs l ch table act item (begun seen ch act item db) x) c.in_default.is (c.in_ok-begun.ensures.begun ch told db seen held shows is each (there db held)));
      stored = subst (λ (m : PageMap). Stores m size l db) (sym c.in_ok-begun.ensures.stays.same) held;
    })

-- src/running.rt:216:5
pub change_row-fire_at-requires : goal.change_row-fire_at-requires
change_row-fire_at-requires g t c κs within = search rules

-- src/running.rt:216:5
pub change_row-returns-in_err-fire_at-clause-runs : goal.change_row-returns-in_err-fire_at-clause-runs
change_row-returns-in_err-fire_at-clause-runs g t c = λ seen ch told shows is each knows there db held.
    (let pages = g.P.Pages in
    let old = c.args.pages.now in
    let size = (pages.limits (pages.below old)).page in
    let room = c.args.run.room in
    let l = listed_in c.args.run.catalog.now in
    let names = running_names c.args.running.now.items in
    let fire = fired (programs room) names in
    let table = c.args.table.now in
    let act = c.args.act.now in
    let item = c.args.item.now in
    let b : Begun = c.in-Some.begun in
    let begins = subst (λ (x : Option Begun). IsBegunAs l ch table act item (begun seen ch act item db) x) c.in-Some.is (c.in_ok-begun.ensures.begun ch told db seen held shows is each (there db held)) in
    let f : Firing = begins.0 in
    let row = begins.2.row in
    let mid = c.begin.new.pages in
    let last = pages.map c.fire_at.new.pages in
    let these = set_off_around l ch Before Before act c.deref.result.now c.deref-2.result.now is.around c.deref.ensures.value (λ some alone. some (ap (λ (ts : List (Rc Trigger Global)). length ts) c.deref-2.ensures.value ∙ alone.1.0))
    (subst (λ (ts : List (Rc Trigger Global)). OnEach l (λ db. definitions ts ≡ triggers_at Before (aim_of ch).event db (aim_of ch).target)) (sym c.deref-2.ensures.value) is.around.before) in
    let e : Fault = c.in_err-fire_at.field-0.0 in
    let before = after_reading pages.below pages.tells pages.limits pages.map old mid (λ (m : PageMap) (n : ℕ). Runs m last n l (fired (programs room) names Before f) (Err e)) c.in_ok-begun.ensures.stays.kept c.in_ok-begun.ensures.stays.same
    (λ told. c.in_err-fire_at.ensures.runs ch Before f told these row begins.2.at knows) told in
    failed last size l (row_changed fire seen ch act item db) c.from_residual-in_err-fire_at.result e c.from_residual-in_err-fire_at.ensures.1 (stops_before fire seen ch act item db f begins.1 l e (before db held)))

-- src/running.rt:217:16
pub change_row-returns-in_err-now-clause-runs : goal.change_row-returns-in_err-now-clause-runs
change_row-returns-in_err-now-clause-runs g t c = λ seen ch told shows is each knows there db held.
    (let pages = g.P.Pages in
    let old = c.args.pages.now in
    let size = (pages.limits (pages.below old)).page in
    let room = c.args.run.room in
    let l = listed_in c.args.run.catalog.now in
    let names = running_names c.args.running.now.items in
    let fire = fired (programs room) names in
    let table = c.args.table.now in
    let act = c.args.act.now in
    let item = c.args.item.now in
    let b : Begun = c.in-Some.begun in
    let begins = subst (λ (x : Option Begun). IsBegunAs l ch table act item (begun seen ch act item db) x) c.in-Some.is (c.in_ok-begun.ensures.begun ch told db seen held shows is each (there db held)) in
    let f : Firing = begins.0 in
    let row = begins.2.row in
    let mid = c.begin.new.pages in
    let last = pages.map c.fire_at.new.pages in
    let these = set_off_around l ch Before Before act c.deref.result.now c.deref-2.result.now is.around c.deref.ensures.value (λ some alone. some (ap (λ (ts : List (Rc Trigger Global)). length ts) c.deref-2.ensures.value ∙ alone.1.0))
    (subst (λ (ts : List (Rc Trigger Global)). OnEach l (λ db. definitions ts ≡ triggers_at Before (aim_of ch).event db (aim_of ch).target)) (sym c.deref-2.ensures.value) is.around.before) in
    let e : Fault = c.in_err-now.field-0.0 in
    let new = pages.map c.finish.new.pages in
    let before = after_reading pages.below pages.tells pages.limits pages.map old mid (λ (m : PageMap) (n : ℕ). Runs m last n l (fired (programs room) names Before f) (Ok tt)) c.in_ok-begun.ensures.stays.kept c.in_ok-begun.ensures.stays.same
    (λ told. c.in_ok-fire_at.ensures.runs ch Before f told these row begins.2.at knows) told in
    let ran = before db held in
    let mid2 = c.fire_at.new.pages in
    let kept2 = c.in_ok-fire_at.ensures.kept ∙ c.in_ok-begun.ensures.stays.kept in
    let alone = length act.before.items == 0 in
    let still = stays_untouched seen ch act db (programs room) names l table item b f ran.made (pages.map old) size held begins.1 begins.2 is.around.before ran.is in
    let finishes = since pages.below pages.tells pages.limits old mid2 (λ (n : ℕ). Finishes (pages.map mid2) new n l ch table act item b alone (Err e)) kept2 (λ told. c.in_err-now.ensures.finished ch told) told in
    failed new size l (row_changed fire seen ch act item db) c.from_residual-in_err-now.result e c.from_residual-in_err-now.ensures.1
    (stops_within fire seen ch act item db f begins.1 ran.made ran.is l e (finishes ran.made f ran.stored is each begins.2 still)))

-- src/running.rt:219:5
pub change_row-fire_at-requires-2 : goal.change_row-fire_at-requires-2
change_row-fire_at-requires-2 g t c κs within = search rules

-- src/running.rt:195:1
pub change_row-returns-clause-runs : goal.change_row-returns-clause-runs
change_row-returns-clause-runs g t c = λ seen ch told shows is each knows there db held.
    (let pages = g.P.Pages in
    let old = c.args.pages.now in
    let size = (pages.limits (pages.below old)).page in
    let room = c.args.run.room in
    let l = listed_in c.args.run.catalog.now in
    let names = running_names c.args.running.now.items in
    let fire = fired (programs room) names in
    let table = c.args.table.now in
    let act = c.args.act.now in
    let item = c.args.item.now in
    let b : Begun = c.in-Some.begun in
    let begins = subst (λ (x : Option Begun). IsBegunAs l ch table act item (begun seen ch act item db) x) c.in-Some.is (c.in_ok-begun.ensures.begun ch told db seen held shows is each (there db held)) in
    let f : Firing = begins.0 in
    let row = begins.2.row in
    let mid = c.begin.new.pages in
    let last = pages.map c.fire_at.new.pages in
    let these = set_off_around l ch Before Before act c.deref.result.now c.deref-2.result.now is.around c.deref.ensures.value (λ some alone. some (ap (λ (ts : List (Rc Trigger Global)). length ts) c.deref-2.ensures.value ∙ alone.1.0))
    (subst (λ (ts : List (Rc Trigger Global)). OnEach l (λ db. definitions ts ≡ triggers_at Before (aim_of ch).event db (aim_of ch).target)) (sym c.deref-2.ensures.value) is.around.before) in
    let before = after_reading pages.below pages.tells pages.limits pages.map old mid (λ (m : PageMap) (n : ℕ). Runs m last n l (fired (programs room) names Before f) (Ok tt)) c.in_ok-begun.ensures.stays.kept c.in_ok-begun.ensures.stays.same
    (λ told. c.in_ok-fire_at.ensures.runs ch Before f told these row begins.2.at knows) told in
    let ran = before db held in
    let mid2 = c.fire_at.new.pages in
    let kept2 = c.in_ok-fire_at.ensures.kept ∙ c.in_ok-begun.ensures.stays.kept in
    let alone = length act.before.items == 0 in
    let still = stays_untouched seen ch act db (programs room) names l table item b f ran.made (pages.map old) size held begins.1 begins.2 is.around.before ran.is in
    let now = c.in_ok-now.now in
    let finishes = since pages.below pages.tells pages.limits old mid2 (λ (n : ℕ). Finishes (pages.map mid2) (pages.map c.finish.new.pages) n l ch table act item b alone (Ok now)) kept2 (λ told. c.in_ok-now.ensures.finished ch told) told in
    let fin = finishes ran.made f ran.stored is each begins.2 still in
    let mid3 = c.finish.new.pages in
    let kept3 = c.in_ok-now.ensures.kept ∙ kept2 in
    let new = pages.map c.fire_at-2.new.pages in
    let those = set_off_around l ch Before After act c.deref-3.result.now c.deref-4.result.now is.around c.deref-3.ensures.value (λ some alone. some (ap (λ (ts : List (Rc Trigger Global)). length ts) c.deref-4.ensures.value ∙ alone.1.1))
    (subst (λ (ts : List (Rc Trigger Global)). OnEach l (λ db. definitions ts ≡ triggers_at After (aim_of ch).event db (aim_of ch).target)) (sym c.deref-4.ensures.value) is.around.after) in
    let after = since pages.below pages.tells pages.limits old mid3 (λ (n : ℕ). Runs (pages.map mid3) new n l (fired (programs room) names After fin.f) c.fire_at-2.result) kept3
    (λ told. subst (λ (ns : List Name). Runs (pages.map mid3) new (pages.limits (pages.below mid3)).page l (fired (programs room) ns After fin.f) c.fire_at-2.result) (ap running_names c.in_ok-fire_at.ensures.running)
    (c.fire_at-2.ensures.runs ch After fin.f told those fin.row (fin.new_is, fin.old_is) knows)) told in
    ends fire seen ch act item db f begins.1 ran.made ran.is new size l fin.made fin.f c.fire_at-2.result fin.is (after fin.made fin.stored))

-- src/running.rt:240:5
pub fire_at-returns-then-is_empty-clause-runs : goal.fire_at-returns-then-is_empty-clause-runs
fire_at-returns-then-is_empty-clause-runs g t c = λ ch time f told these row at knows db held.
    (let pages = g.P.Pages in
    let old = pages.map c.args.pages.now in
    let size = (pages.limits (pages.below c.args.pages.now)).page in
    let l = listed_in c.args.run.catalog.now in
    let names = running_names c.args.running.now.items in
    let none : length c.args.triggers.now ≡ 0 = search rules in
    as_fired l ch time c.args.triggers.now f row these.those old old size (programs c.args.run.room) names names (Ok tt) refl
    (fires_nothing old size l (programs c.args.run.room) names (outer_of f) c.args.triggers.now none) db held)

-- src/running.rt:243:16
pub fire_at-returns-in_err-rows-clause-runs : goal.fire_at-returns-in_err-rows-clause-runs
fire_at-returns-in_err-rows-clause-runs g t c = λ ch time f told these row at knows db held.
    (let pages = g.P.Pages in
    let old = pages.map c.args.pages.now in
    let size = (pages.limits (pages.below c.args.pages.now)).page in
    let l = listed_in c.args.run.catalog.now in
    let names = running_names c.args.running.now.items in
    let e : Fault = c.in_err-rows.field-0.0 in
    failed old size l (fired (programs c.args.run.room) names time f db) c.from_residual.result e c.from_residual.ensures.1 (inl (inl (inl (c.in_err-rows.ensures f at)))))

-- src/running.rt:243:16
pub fire_at-returns-in_err-rows-clause-causes : goal.fire_at-returns-in_err-rows-clause-causes
fire_at-returns-in_err-rows-clause-causes g t c =
    (let pages = g.P.Pages in
    let e : Fault = c.in_err-rows.field-0.0 in
    let w = firing_at c.args.event in
    let now = c.args.pages.now in
    causes_none c.from_residual.result e (pages.failures now) (pages.failures now) (pages.count now ≡ (pages.limits (pages.below now)).most) c.from_residual.ensures.1
    (memory_alone e (c.in_err-rows.ensures w.0 w.1)) (search rules) (search rules))

-- src/running.rt:245:5
pub fire_at-fire-requires : goal.fire_at-fire-requires
fire_at-fire-requires g t c κs within = search rules

-- src/running.rt:222:1
pub fire_at-returns-clause-runs : goal.fire_at-returns-clause-runs
fire_at-returns-clause-runs g t c = λ ch time f told these row at knows db held.
    (let pages = g.P.Pages in
    let old = pages.map c.args.pages.now in
    let size = (pages.limits (pages.below c.args.pages.now)).page in
    let l = listed_in c.args.run.catalog.now in
    let names = running_names c.args.running.now.items in
    let room = c.args.run.room in
    let new = pages.map c.fire.new.pages in
    let some : length c.args.triggers.now ≡ 0 → ⊥ = λ none. absurd (search rules) in
    let known = knows_each l ch time c.args.triggers.now f row these.those c.listed_tables_are_known.ensures knows in
    as_fired l ch time c.args.triggers.now f row these.those old new size (programs room) names names c.fire.result refl
    (c.fire.ensures.runs (outer_of f) told (shows_so l ch time c.args.scope.now c.args.triggers.now f _ these some row refl (c.deref.ensures.value ∙ c.in_ok-rows.ensures f at)) known) db held)

-- src/running.rt:187:5
pub change_rows-rows-init : goal.change_rows-rows-init
change_rows-rows-init g t c = search rules

-- src/running.rt:188:9
pub change_rows-change_row-requires : goal.change_rows-change_row-requires
change_rows-change_row-requires g t c κs within = search rules

-- src/running.rt:188:9
pub change_rows-returns-in_err-change_row-clause-runs :
    goal.change_rows-returns-in_err-change_row-clause-runs
change_rows-returns-in_err-change_row-clause-runs g t c = λ seen ch told shows is each knows there.
    (let pages = g.P.Pages in
    let old = c.args.pages.now in
    let mid = c.rows.pages in
    let size = (pages.limits (pages.below old)).page in
    let room = c.args.run.room in
    let l = listed_in c.args.run.catalog.now in
    let names = running_names c.args.running.now.items in
    let o = c.args.outer in
    let left : List TableItem = c.rows.left.now in
    let item : TableItem = c.item-item.result in
    let rest : List TableItem = take (length left - 1) (drop 1 left) in
    let same : item ∷ rest ≡ left = first_of left item c.in-len1-up.len_at_least c.item-item.is in
    let new = pages.map c.change_row.new.pages in
    let f : Fault = c.in_err-change_row.field-0.0 in
    let result = c.from_residual.result in
    let ran = since pages.below pages.tells pages.limits old mid (λ (n : ℕ). RowChanges room l (running_names c.rows.running.items) o c.args.table.now c.args.act.now (pages.map mid) new n c.rows.known item (Err f)) c.rows.invariant.1.kept
    (λ told seen ch shows is each knows there. c.in_err-change_row.ensures.runs seen ch told shows is each knows there) told in
    let one = subst (λ (ns : List Name). RowChanges room l ns o c.args.table.now c.args.act.now (pages.map mid) new size c.rows.known item (Err f)) (ap running_names c.rows.invariant.0) ran in
    c.rows.invariant.1.decides told new result
    (stopped (λ (them : List TableItem). RowsChange room l names o c.args.table.now c.args.act.now (pages.map mid) new size (c.rows.known, them)) item rest left f result same c.from_residual.ensures.1
    (rows_stop room l names o (pages.map mid) new new size c.args.table.now c.args.act.now c.rows.known item rest f one)) seen ch shows is each knows there)

-- src/running.rt:188:9
pub change_rows-returns-in_err-change_row-clause-kept :
    goal.change_rows-returns-in_err-change_row-clause-kept
change_rows-returns-in_err-change_row-clause-kept g t c = search rules

-- src/running.rt:188:9
pub change_rows-returns-in_err-change_row-clause-causes :
    goal.change_rows-returns-in_err-change_row-clause-causes
change_rows-returns-in_err-change_row-clause-causes g t c = search rules

-- src/running.rt:187:5
pub change_rows-rows-smaller : goal.change_rows-rows-smaller
change_rows-rows-smaller g t c = search rules

-- src/running.rt:187:5
pub change_rows-rows-preserved : goal.change_rows-rows-preserved
change_rows-rows-preserved g t c = (
  c.in_ok-change_row.ensures.running ∙ c.rows.invariant.0,
  record {
    kept = c.in_ok-change_row.ensures.kept ∙ c.rows.invariant.1.kept;
    causes = search rules;
    decides = λ told end result others.
        (let pages = g.P.Pages in
        let old = c.args.pages.now in
        let mid = c.rows.pages in
        let size = (pages.limits (pages.below old)).page in
        let room = c.args.run.room in
        let l = listed_in c.args.run.catalog.now in
        let names = running_names c.args.running.now.items in
        let o = c.args.outer in
        let left : List TableItem = c.rows.left.now in
        let item : TableItem = c.item-item.result in
        let rest : List TableItem = take (length left - 1) (drop 1 left) in
        let same : item ∷ rest ≡ left = first_of left item c.in-len1-up.len_at_least c.item-item.is in
        let new = pages.map c.change_row.new.pages in
        let ran = since pages.below pages.tells pages.limits old mid (λ (n : ℕ). RowChanges room l (running_names c.rows.running.items) o c.args.table.now c.args.act.now (pages.map mid) new n c.rows.known item (Ok tt)) c.rows.invariant.1.kept
        (λ told seen ch shows is each knows there. c.in_ok-change_row.ensures.runs seen ch told shows is each knows there) told in
        let one = subst (λ (ns : List Name). RowChanges room l ns o c.args.table.now c.args.act.now (pages.map mid) new size c.rows.known item (Ok tt)) (ap running_names c.rows.invariant.0) ran in
        c.rows.invariant.1.decides told end result
        (subst (λ (them : List TableItem). RowsChange room l names o c.args.table.now c.args.act.now (pages.map mid) end size (c.rows.known, them) result) same
        (rows_go room l names o (pages.map mid) new end size c.args.table.now c.args.act.now c.rows.known item rest result one others)));
  },
)

-- src/running.rt:165:1
pub change_rows-returns-clause-runs : goal.change_rows-returns-clause-runs
change_rows-returns-clause-runs g t c = λ seen ch told shows is each knows there.
    (let pages = g.P.Pages in
    let old = c.args.pages.now in
    let now = pages.map c.rows.pages in
    let size = (pages.limits (pages.below old)).page in
    let room = c.args.run.room in
    let l = listed_in c.args.run.catalog.now in
    let names = running_names c.args.running.now.items in
    let o = c.args.outer in
    c.rows.invariant.1.decides told now (Ok tt)
    (subst (λ (them : List TableItem). RowsChange room l names o c.args.table.now c.args.act.now now now size (c.rows.known, them) (Ok tt)) (none_left c.rows.left.now c.in_default.len_below) (rows_done room l names o now size c.args.table.now c.args.act.now c.rows.known)) seen ch shows is each knows there)

-- src/running.rt:165:1
pub change_rows-returns-clause-running : goal.change_rows-returns-clause-running
change_rows-returns-clause-running g t c = search rules

-- src/running.rt:165:1
pub change_rows-returns-clause-kept : goal.change_rows-returns-clause-kept
change_rows-returns-clause-kept g t c = search rules

-- src/running.rt:165:1
pub change_rows-returns-clause-causes : goal.change_rows-returns-clause-causes
change_rows-returns-clause-causes g t c = search rules

-- src/running.rt:256:5
pub change_seen-rows-init : goal.change_seen-rows-init
change_seen-rows-init g t c = search rules

-- src/running.rt:257:9
pub change_seen-change_one_seen-requires : goal.change_seen-change_one_seen-requires
change_seen-change_one_seen-requires g t c κs within = search rules

-- src/running.rt:257:9
pub change_seen-returns-in_err-change_one_seen-clause-runs :
    goal.change_seen-returns-in_err-change_one_seen-clause-runs
change_seen-returns-in_err-change_one_seen-clause-runs g t c = λ seen ch told shows is each knows.
    (let pages = g.P.Pages in
    let old = c.args.pages.now in
    let mid = c.rows.pages in
    let size = (pages.limits (pages.below old)).page in
    let room = c.args.run.room in
    let l = listed_in c.args.run.catalog.now in
    let names = running_names c.args.running.now.items in
    let o = c.args.outer in
    let left : List ViewItem = c.rows.left.now in
    let item : ViewItem = c.item-item.result in
    let rest : List ViewItem = take (length left - 1) (drop 1 left) in
    let same : item ∷ rest ≡ left = first_of left item c.in-len1-up.len_at_least c.item-item.is in
    let new = pages.map c.change_one_seen.new.pages in
    let f : Fault = c.in_err-change_one_seen.field-0.0 in
    let result = c.from_residual.result in
    let ran = since pages.below pages.tells pages.limits old mid (λ (n : ℕ). OneSeenChanges room l (running_names c.rows.running.items) o c.args.width c.args.act.now (pages.map mid) new n item (Err f)) c.rows.invariant.1.kept
    (λ told seen ch shows is each knows. c.in_err-change_one_seen.ensures.runs seen ch told shows is each knows) told in
    let one = subst (λ (ns : List Name). OneSeenChanges room l ns o c.args.width c.args.act.now (pages.map mid) new size item (Err f)) (ap running_names c.rows.invariant.0) ran in
    c.rows.invariant.1.decides told new result
    (stopped (λ (them : List ViewItem). SeenChange room l names o c.args.width c.args.act.now (pages.map mid) new size them) item rest left f result same c.from_residual.ensures.1
    (seen_stop room l names o (pages.map mid) new new size c.args.width c.args.act.now item rest f one)) seen ch shows is each knows)

-- src/running.rt:257:9
pub change_seen-returns-in_err-change_one_seen-clause-kept :
    goal.change_seen-returns-in_err-change_one_seen-clause-kept
change_seen-returns-in_err-change_one_seen-clause-kept g t c = search rules

-- src/running.rt:257:9
pub change_seen-returns-in_err-change_one_seen-clause-causes :
    goal.change_seen-returns-in_err-change_one_seen-clause-causes
change_seen-returns-in_err-change_one_seen-clause-causes g t c = search rules

-- src/running.rt:256:5
pub change_seen-rows-smaller : goal.change_seen-rows-smaller
change_seen-rows-smaller g t c = search rules

-- src/running.rt:256:5
pub change_seen-rows-preserved : goal.change_seen-rows-preserved
change_seen-rows-preserved g t c = (
  c.in_ok-change_one_seen.ensures.running ∙ c.rows.invariant.0,
  record {
    kept = c.in_ok-change_one_seen.ensures.kept ∙ c.rows.invariant.1.kept;
    causes = search rules;
    decides = λ told end result others.
        (let pages = g.P.Pages in
        let old = c.args.pages.now in
        let mid = c.rows.pages in
        let size = (pages.limits (pages.below old)).page in
        let room = c.args.run.room in
        let l = listed_in c.args.run.catalog.now in
        let names = running_names c.args.running.now.items in
        let o = c.args.outer in
        let left : List ViewItem = c.rows.left.now in
        let item : ViewItem = c.item-item.result in
        let rest : List ViewItem = take (length left - 1) (drop 1 left) in
        let same : item ∷ rest ≡ left = first_of left item c.in-len1-up.len_at_least c.item-item.is in
        let new = pages.map c.change_one_seen.new.pages in
        let ran = since pages.below pages.tells pages.limits old mid (λ (n : ℕ). OneSeenChanges room l (running_names c.rows.running.items) o c.args.width c.args.act.now (pages.map mid) new n item (Ok tt)) c.rows.invariant.1.kept
        (λ told seen ch shows is each knows. c.in_ok-change_one_seen.ensures.runs seen ch told shows is each knows) told in
        let one = subst (λ (ns : List Name). OneSeenChanges room l ns o c.args.width c.args.act.now (pages.map mid) new size item (Ok tt)) (ap running_names c.rows.invariant.0) ran in
        c.rows.invariant.1.decides told end result
        (subst (λ (them : List ViewItem). SeenChange room l names o c.args.width c.args.act.now (pages.map mid) end size them result) same
        (seen_go room l names o (pages.map mid) new end size c.args.width c.args.act.now item rest result one others)));
  },
)

-- src/running.rt:234:1
pub change_seen-returns-clause-runs : goal.change_seen-returns-clause-runs
change_seen-returns-clause-runs g t c = λ seen ch told shows is each knows.
    (let pages = g.P.Pages in
    let old = c.args.pages.now in
    let now = pages.map c.rows.pages in
    let size = (pages.limits (pages.below old)).page in
    let room = c.args.run.room in
    let l = listed_in c.args.run.catalog.now in
    let names = running_names c.args.running.now.items in
    let o = c.args.outer in
    c.rows.invariant.1.decides told now (Ok tt)
    (subst (λ (them : List ViewItem). SeenChange room l names o c.args.width c.args.act.now now now size them (Ok tt)) (none_left c.rows.left.now c.in_default.len_below) (seen_done room l names o now size c.args.width c.args.act.now)) seen ch shows is each knows)

-- src/running.rt:234:1
pub change_seen-returns-clause-running : goal.change_seen-returns-clause-running
change_seen-returns-clause-running g t c = search rules

-- src/running.rt:234:1
pub change_seen-returns-clause-kept : goal.change_seen-returns-clause-kept
change_seen-returns-clause-kept g t c = search rules

-- src/running.rt:234:1
pub change_seen-returns-clause-causes : goal.change_seen-returns-clause-causes
change_seen-returns-clause-causes g t c = search rules

-- src/running.rt:313:5
pub fire-triggers-init : goal.fire-triggers-init
fire-triggers-init g t c = search rules

-- src/running.rt:314:9
pub fire-fire_one-requires : goal.fire-fire_one-requires
fire-fire_one-requires g t c κs within = search rules

-- src/running.rt:314:9
pub fire-returns-in_err-fire_one-clause-runs : goal.fire-returns-in_err-fire_one-clause-runs
fire-returns-in_err-fire_one-clause-runs g t c = λ seen told shows knows.
    (let pages = g.P.Pages in
    let old = c.args.pages.now in
    let mid = c.triggers.pages in
    let size = (pages.limits (pages.below old)).page in
    let room = c.args.run.room in
    let l = listed_in c.args.run.catalog.now in
    let names = running_names c.args.running.now.items in
    let o = c.args.outer in
    let left : List (Rc Trigger Global) = c.triggers.left.now in
    let item : (Rc Trigger Global) = c.trigger-item.result in
    let rest : List (Rc Trigger Global) = take (length left - 1) (drop 1 left) in
    let same : item ∷ rest ≡ left = first_of left item c.in-len1-up.len_at_least c.trigger-item.is in
    let new = pages.map c.fire_one.new.pages in
    let f : Fault = c.in_err-fire_one.field-0.0 in
    let result = c.from_residual.result in
    let ran = since pages.below pages.tells pages.limits old mid (λ (n : ℕ). FiresOne room l (running_names c.triggers.running.items) o (pages.map mid) new n item.value (Err f)) c.triggers.invariant.1.kept
    (λ told seen shows knows. c.in_err-fire_one.ensures.runs seen told shows knows) told in
    let one = subst (λ (ns : List Name). FiresOne room l ns o (pages.map mid) new size item.value (Err f)) (ap running_names c.triggers.invariant.0) ran in
    c.triggers.invariant.1.decides told new result
    (stopped (λ (them : List (Rc Trigger Global)). Fires room l names o (pages.map mid) new size them) item rest left f result same c.from_residual.ensures.1
    (fires_stop room l names o (pages.map mid) new new size item rest f one)) seen shows knows)

-- src/running.rt:314:9
pub fire-returns-in_err-fire_one-clause-kept : goal.fire-returns-in_err-fire_one-clause-kept
fire-returns-in_err-fire_one-clause-kept g t c = search rules

-- src/running.rt:314:9
pub fire-returns-in_err-fire_one-clause-causes : goal.fire-returns-in_err-fire_one-clause-causes
fire-returns-in_err-fire_one-clause-causes g t c = search rules

-- src/running.rt:313:5
pub fire-triggers-smaller : goal.fire-triggers-smaller
fire-triggers-smaller g t c = search rules

-- src/running.rt:313:5
pub fire-triggers-preserved : goal.fire-triggers-preserved
fire-triggers-preserved g t c = (
  c.in_ok-fire_one.ensures.running ∙ c.triggers.invariant.0,
  record {
    kept = c.in_ok-fire_one.ensures.kept ∙ c.triggers.invariant.1.kept;
    causes = search rules;
    decides = λ told end result others.
        (let pages = g.P.Pages in
        let old = c.args.pages.now in
        let mid = c.triggers.pages in
        let size = (pages.limits (pages.below old)).page in
        let room = c.args.run.room in
        let l = listed_in c.args.run.catalog.now in
        let names = running_names c.args.running.now.items in
        let o = c.args.outer in
        let left : List (Rc Trigger Global) = c.triggers.left.now in
        let item : (Rc Trigger Global) = c.trigger-item.result in
        let rest : List (Rc Trigger Global) = take (length left - 1) (drop 1 left) in
        let same : item ∷ rest ≡ left = first_of left item c.in-len1-up.len_at_least c.trigger-item.is in
        let new = pages.map c.fire_one.new.pages in
        let ran = since pages.below pages.tells pages.limits old mid (λ (n : ℕ). FiresOne room l (running_names c.triggers.running.items) o (pages.map mid) new n item.value (Ok tt)) c.triggers.invariant.1.kept
        (λ told seen shows knows. c.in_ok-fire_one.ensures.runs seen told shows knows) told in
        let one = subst (λ (ns : List Name). FiresOne room l ns o (pages.map mid) new size item.value (Ok tt)) (ap running_names c.triggers.invariant.0) ran in
        c.triggers.invariant.1.decides told end result
        (subst (λ (them : List (Rc Trigger Global)). Fires room l names o (pages.map mid) end size them result) same
        (fires_on room l names o (pages.map mid) new end size item rest result one others)));
  },
)

-- src/running.rt:294:1
pub fire-returns-clause-runs : goal.fire-returns-clause-runs
fire-returns-clause-runs g t c = λ seen told shows knows.
    (let pages = g.P.Pages in
    let old = c.args.pages.now in
    let now = pages.map c.triggers.pages in
    let size = (pages.limits (pages.below old)).page in
    let room = c.args.run.room in
    let l = listed_in c.args.run.catalog.now in
    let names = running_names c.args.running.now.items in
    let o = c.args.outer in
    c.triggers.invariant.1.decides told now (Ok tt)
    (subst (λ (them : List (Rc Trigger Global)). Fires room l names o now now size them (Ok tt)) (none_left c.triggers.left.now c.in_default.len_below) (fires_none room l names o now size)) seen shows knows)

-- src/running.rt:294:1
pub fire-returns-clause-running : goal.fire-returns-clause-running
fire-returns-clause-running g t c = search rules

-- src/running.rt:294:1
pub fire-returns-clause-kept : goal.fire-returns-clause-kept
fire-returns-clause-kept g t c = search rules

-- src/running.rt:294:1
pub fire-returns-clause-causes : goal.fire-returns-clause-causes
fire-returns-clause-causes g t c = search rules

-- src/running.rt:339:58
pub fire_one-returns-in_err-holds_at-clause-runs :
    goal.fire_one-returns-in_err-holds_at-clause-runs
fire_one-returns-in_err-holds_at-clause-runs g t c = λ seen told shows knows db held.
    (let pages = g.P.Pages in
    let old = c.args.pages.now in
    let size = (pages.limits (pages.below old)).page in
    let room = c.args.run.room in
    let l = listed_in c.args.run.catalog.now in
    let names = running_names c.args.running.now.items in
    let fire = fired (programs room) names in
    let trigger : Trigger = c.args.trigger.now.value in
    let items = c.args.running.now.items in
    let good = (knows held.rows_at db held.of_listed).0.condition in
    let free = is_running_now items c.deref.result.now c.is_running.result trigger.definition.name c.as_str.result.now c.is_running.ensures c.deref.ensures.value (c.as_str.ensures ∙ ap (λ (u : Trigger). u.definition.name) c.deref-2.ensures) ∙ c.if-is_running.false in
    let e : Fault = c.in_err-holds_at.field-0.0 in
    failed (pages.map old) size l (run_trigger (programs room) names seen db (named_definition trigger)) c.from_residual.result e c.from_residual.ensures.1
    (unread l room names seen trigger free db e (unread_of seen trigger c.deref-else-is_running.result.now e c.deref-else-is_running.ensures good (c.in_err-holds_at.ensures.answered seen shows))))

-- src/running.rt:339:58
pub fire_one-returns-in_err-holds_at-clause-causes :
    goal.fire_one-returns-in_err-holds_at-clause-causes
fire_one-returns-in_err-holds_at-clause-causes g t c = search rules

-- src/running.rt:340:9
pub fire_one-returns-then-is_running-clause-runs :
    goal.fire_one-returns-then-is_running-clause-runs
fire_one-returns-then-is_running-clause-runs g t c = λ seen told shows knows db held.
    (let pages = g.P.Pages in
    let old = c.args.pages.now in
    let size = (pages.limits (pages.below old)).page in
    let room = c.args.run.room in
    let l = listed_in c.args.run.catalog.now in
    let names = running_names c.args.running.now.items in
    let fire = fired (programs room) names in
    let trigger : Trigger = c.args.trigger.now.value in
    let items = c.args.running.now.items in
    let good = (knows held.rows_at db held.of_listed).0.condition in
    let running = λ (w : Bool). is_running_now items c.deref.result.now c.is_running.result trigger.definition.name c.as_str.result.now c.is_running.ensures c.deref.ensures.value (c.as_str.ensures ∙ ap (λ (u : Trigger). u.definition.name) c.deref-2.ensures) in
    elim c.then-is_running.branch [
      | fire_one-then-is_running-via-then-is_running w ↦ record { made = db; is = skips (programs room) names seen (named_definition trigger) db (running true ∙ w.if-is_running.true); stored = held }
      | fire_one-then-is_running-via-else-is_running+in_ok-holds_at+then-not-branch w ↦ record {
        made = db;
        is = isnt_true (programs room) names seen (named_definition trigger) db (running false ∙ w.if-is_running.false)
            (held_of seen trigger w.deref-else-is_running.result.now false w.deref-else-is_running.ensures good (λ fine. w.in_ok-holds_at.ensures.answered seen shows fine ∙ ap told_so w.if-not-branch.true));
        stored = held;
      }
    ])

-- src/running.rt:343:9
pub fire_one-returns-then-run-eq0-clause-runs : goal.fire_one-returns-then-run-eq0-clause-runs
fire_one-returns-then-run-eq0-clause-runs g t c = λ seen told shows knows db held.
    (let pages = g.P.Pages in
    let old = c.args.pages.now in
    let size = (pages.limits (pages.below old)).page in
    let room = c.args.run.room in
    let l = listed_in c.args.run.catalog.now in
    let names = running_names c.args.running.now.items in
    let fire = fired (programs room) names in
    let trigger : Trigger = c.args.trigger.now.value in
    let items = c.args.running.now.items in
    let good = (knows held.rows_at db held.of_listed).0.condition in
    let free = is_running_now items c.deref.result.now c.is_running.result trigger.definition.name c.as_str.result.now c.is_running.ensures c.deref.ensures.value (c.as_str.ensures ∙ ap (λ (u : Trigger). u.definition.name) c.deref-2.ensures) ∙ c.if-is_running.false in
    let test : when_holds seen trigger.definition.condition ≡ Ok true = held_of seen trigger c.deref-else-is_running.result.now true c.deref-else-is_running.ensures good (λ fine. c.in_ok-holds_at.ensures.answered seen shows fine ∙ ap told_so c.if-not-branch.false) in
    deep l room names seen trigger free test db fault.TooLong c.if-run-eq0.true refl)

-- src/running.rt:351:5
pub fire_one-run_program-requires : goal.fire_one-run_program-requires
fire_one-run_program-requires g t c κs within = search rules

-- src/running.rt:351:5
pub fire_one-returns-in_err-run_program-clause-runs :
    goal.fire_one-returns-in_err-run_program-clause-runs
fire_one-returns-in_err-run_program-clause-runs g t c = λ seen told shows knows db held.
    (let pages = g.P.Pages in
    let old = c.args.pages.now in
    let size = (pages.limits (pages.below old)).page in
    let room = c.args.run.room in
    let l = listed_in c.args.run.catalog.now in
    let names = running_names c.args.running.now.items in
    let fire = fired (programs room) names in
    let trigger : Trigger = c.args.trigger.now.value in
    let items = c.args.running.now.items in
    let good = (knows held.rows_at db held.of_listed).0.condition in
    let free = is_running_now items c.deref.result.now c.is_running.result trigger.definition.name c.as_str.result.now c.is_running.ensures c.deref.ensures.value (c.as_str.ensures ∙ ap (λ (u : Trigger). u.definition.name) c.deref-2.ensures) ∙ c.if-is_running.false in
    let test : when_holds seen trigger.definition.condition ≡ Ok true = held_of seen trigger c.deref-else-is_running.result.now true c.deref-else-is_running.ensures good (λ fine. c.in_ok-holds_at.ensures.answered seen shows fine ∙ ap told_so c.if-not-branch.false) in
    let e : Fault = c.in_err-run_program.field-0.0 in
    let new = pages.map c.run_program.new.pages in
    let same : running_names c.push.new.self.items ≡ folded trigger.definition.name ∷ names = pushed items c.push.new.self.items c.in_ok-clone.field-0 trigger c.in_ok-push.ensures.items c.in_ok-clone.ensures.cases in
    let body : c.as_slice.result.now ≡ trigger.definition.body = c.as_slice.ensures ∙ ap (λ (u : Trigger). u.definition.body) c.deref-3.ensures in
    let known : KnowsBody l seen c.as_slice.result.now = λ rows_at made of. subst (AllByRecursion (KnowsStatement made seen)) (sym body) (knows rows_at made of).0.body in
    let runs = runs_body l room names seen trigger free test (pages.map old) new size (running_names c.push.new.self.items) (room - 1) c.as_slice.result.now (Err e) c.if-run-eq0.false refl same body
    (c.in_err-run_program.ensures.runs seen told shows known) db held in
    failed new size l (run_trigger (programs room) names seen db (named_definition trigger)) c.from_residual-in_err-run_program.result e c.from_residual-in_err-run_program.ensures.1 runs)

-- src/running.rt:321:1
pub fire_one-returns-clause-runs : goal.fire_one-returns-clause-runs
fire_one-returns-clause-runs g t c = λ seen told shows knows db held.
    (let pages = g.P.Pages in
    let old = c.args.pages.now in
    let size = (pages.limits (pages.below old)).page in
    let room = c.args.run.room in
    let l = listed_in c.args.run.catalog.now in
    let names = running_names c.args.running.now.items in
    let fire = fired (programs room) names in
    let trigger : Trigger = c.args.trigger.now.value in
    let items = c.args.running.now.items in
    let good = (knows held.rows_at db held.of_listed).0.condition in
    let free = is_running_now items c.deref.result.now c.is_running.result trigger.definition.name c.as_str.result.now c.is_running.ensures c.deref.ensures.value (c.as_str.ensures ∙ ap (λ (u : Trigger). u.definition.name) c.deref-2.ensures) ∙ c.if-is_running.false in
    let test : when_holds seen trigger.definition.condition ≡ Ok true = held_of seen trigger c.deref-else-is_running.result.now true c.deref-else-is_running.ensures good (λ fine. c.in_ok-holds_at.ensures.answered seen shows fine ∙ ap told_so c.if-not-branch.false) in
    let new = pages.map c.run_program.new.pages in
    let same : running_names c.push.new.self.items ≡ folded trigger.definition.name ∷ names = pushed items c.push.new.self.items c.in_ok-clone.field-0 trigger c.in_ok-push.ensures.items c.in_ok-clone.ensures.cases in
    let body : c.as_slice.result.now ≡ trigger.definition.body = c.as_slice.ensures ∙ ap (λ (u : Trigger). u.definition.body) c.deref-3.ensures in
    let known : KnowsBody l seen c.as_slice.result.now = λ rows_at made of. subst (AllByRecursion (KnowsStatement made seen)) (sym body) (knows rows_at made of).0.body in
    let runs = runs_body l room names seen trigger free test (pages.map old) new size (running_names c.push.new.self.items) (room - 1) c.as_slice.result.now (Ok tt) c.if-run-eq0.false refl same body
    (c.in_ok-run_program.ensures.runs seen told shows known) db held in
    runs)

-- src/running.rt:154:11
pub run_bound-returns-in_err-table-clause-runs : goal.run_bound-returns-in_err-table-clause-runs
run_bound-returns-in_err-table-clause-runs g t c = λ seen told shows knows named db held.
    (let pages = g.P.Pages in
    let old = c.args.pages.now in
    let size = (pages.limits (pages.below old)).page in
    let room = c.args.run.room in
    let l = listed_in c.args.run.catalog.now in
    let names = running_names c.args.running.now.items in
    let fire = fired (programs room) names in
    let e : Fault = c.in_err-table.field-0.0 in
    failed (pages.map c.work_of.new.pages) size l (change_with (programs room) names seen db c.args.change.now) c.from_residual.result e c.from_residual.ensures.1
    (not_begun l seen c.args.change.now db (programs room) names e (c.in_err-table.ensures.found told db seen held shows knows named)))

-- src/running.rt:156:13
pub run_bound-change_rows-requires : goal.run_bound-change_rows-requires
run_bound-change_rows-requires g t c κs within = search rules

-- src/running.rt:159:13
pub run_bound-change_seen-requires : goal.run_bound-change_seen-requires
run_bound-change_seen-requires g t c κs within = search rules

-- src/running.rt:136:1
pub run_bound-returns-in-Table-clause-runs : goal.run_bound-returns-in-Table-clause-runs
run_bound-returns-in-Table-clause-runs g t c = λ seen told shows knows named db held.
    (let pages = g.P.Pages in
    let old = c.args.pages.now in
    let size = (pages.limits (pages.below old)).page in
    let room = c.args.run.room in
    let l = listed_in c.args.run.catalog.now in
    let names = running_names c.args.running.now.items in
    let fire = fired (programs room) names in
    let ch = c.args.change.now in
    let mid = c.work_of.new.pages in
    let stays = c.in_ok-table.ensures.stays in
    let new = pages.map c.change_rows.new.pages in
    let w = subst (λ (x : Work). IsWorkOf l seen ch db x) c.in-Table.is (c.in_ok-table.ensures.found told db seen held shows knows named) in
    let items = c.deref.ensures.value in
    let all : KnowsRows l ch = λ rows_at made of t f among row. c.programs_are_known.ensures.inherited made seen ch t f (knows rows_at made of) among row in
    let each = subst (AllByRecursion (IsItemOf ch c.in-Table.table.now c.in-Table.act)) (sym items) w.work.1 in
    let runs = after_reading pages.below pages.tells pages.limits pages.map old mid
    (λ (m : PageMap) (n : ℕ). IsRowOnPages m n l (aim_of ch).target c.in-Table.first → Runs m new n l (λ db. fold_answer (λ db i. row_changed fire seen ch c.in-Table.act i db) db c.deref.result.now) c.change_rows.result) stays.kept stays.same
    (λ told there. c.change_rows.ensures.runs seen ch told shows w.work.0 each all there) told
    (λ made at. (subst (λ (x : Work). IsWorkOf l seen ch made x) c.in-Table.is (c.in_ok-table.ensures.found told made seen at shows knows named)).first) in
    subst (λ (a : Answer Database). RunsTo new size l a c.change_rows.result) (sym (w.done (programs room) names))
    (subst (λ (is : List TableItem). RunsTo new size l (fold_answer (λ db i. row_changed fire seen ch c.in-Table.act i db) db is) c.change_rows.result) items (runs db held)))

-- src/running.rt:136:1
pub run_bound-returns-in-View-clause-runs : goal.run_bound-returns-in-View-clause-runs
run_bound-returns-in-View-clause-runs g t c = λ seen told shows knows named db held.
    (let pages = g.P.Pages in
    let old = c.args.pages.now in
    let size = (pages.limits (pages.below old)).page in
    let room = c.args.run.room in
    let l = listed_in c.args.run.catalog.now in
    let names = running_names c.args.running.now.items in
    let fire = fired (programs room) names in
    let ch = c.args.change.now in
    let mid = c.work_of.new.pages in
    let stays = c.in_ok-table.ensures.stays in
    let new = pages.map c.change_seen.new.pages in
    let w = subst (λ (x : Work). IsWorkOf l seen ch db x) c.in-View.is (c.in_ok-table.ensures.found told db seen held shows knows named) in
    let items = c.deref-in-View.ensures.value in
    let all : KnowsRows l ch = λ rows_at made of t f among row. c.programs_are_known.ensures.inherited made seen ch t f (knows rows_at made of) among row in
    let each = subst (AllByRecursion (IsSeenOf ch)) (sym items) w.work.1 in
    let cs = columns_listed_of l (aim_of ch).target in
    let runs = after_reading pages.below pages.tells pages.limits pages.map old mid
    (λ (m : PageMap) (n : ℕ). Runs m new n l (λ db. fold_answer (λ db i. seen_changed fire seen ch cs c.in-View.act i db) db c.deref-in-View.result.now) c.change_seen.result) stays.kept stays.same
    (λ told. c.change_seen.ensures.runs seen ch told shows w.work.0 each all) told in
    subst (λ (a : Answer Database). RunsTo new size l a c.change_seen.result) (sym (w.done (programs room) names))
    (subst (λ (is : List ViewItem). RunsTo new size l (fold_answer (λ db i. seen_changed fire seen ch cs c.in-View.act i db) db is) c.change_seen.result) items (runs db held)))

-- src/running.rt:150:17
pub run_change-returns-in_err-bound-clause-runs : goal.run_change-returns-in_err-bound-clause-runs
run_change-returns-in_err-bound-clause-runs g t c = λ seen told shows knows db held.
    (let pages = g.P.Pages in
    let old = pages.map c.args.pages.now in
    let size = (pages.limits (pages.below c.args.pages.now)).page in
    let l = listed_in c.args.run.catalog.now in
    let ch = c.args.change.now in
    let e : Fault = c.in_err-bound.field-0.0 in
    let why = same_outer c.args.outer.scope.now seen (λ (o : Outer). IsFaultOf (faults (resolve_change db o ch)) e) shows.scope
    (c.in_err-bound.ensures.named held.rows_at db seen.rows (subst AreOuter (sym shows.scope) shows.known) held.of_listed) in
    failed old size l (change_with (programs c.args.run.room) (running_names c.args.running.now.items) seen db ch) c.from_residual.result e c.from_residual.ensures.1
    (inl (inl (only_memory db seen ch e (knows held.rows_at db held.of_listed) why))))

-- src/running.rt:150:17
pub run_change-returns-in_err-bound-clause-causes : goal.run_change-returns-in_err-bound-clause-causes
run_change-returns-in_err-bound-clause-causes g t c =
    (let pages = g.P.Pages in
    let now = c.args.pages.now in
    let e : Fault = c.in_err-bound.field-0.0 in
    causes_none c.from_residual.result e (pages.failures now) (pages.failures now) (pages.count now ≡ (pages.limits (pages.below now)).most) c.from_residual.ensures.1 c.in_err-bound.ensures.not_disk (search rules) (search rules))

-- src/running.rt:151:5
pub run_change-run_bound-requires : goal.run_change-run_bound-requires
run_change-run_bound-requires g t c κs within = search rules

-- src/running.rt:135:1
pub run_change-returns-clause-runs : goal.run_change-returns-clause-runs
run_change-returns-clause-runs g t c = λ seen told shows knows.
    c.run_bound.ensures.runs seen told shows knows
    (record { named = λ rows_at db rows of. c.in_ok-bound.ensures.named rows_at db rows (subst AreOuter (sym shows.scope) shows.known) of; counted = c.in_ok-bound.ensures.counted })

-- src/running.rt:103:5
pub run_program-statements-init : goal.run_program-statements-init
run_program-statements-init g t c = search rules

-- src/running.rt:104:9
pub run_program-run_statement-requires : goal.run_program-run_statement-requires
run_program-run_statement-requires g t c κs within = search rules

-- src/running.rt:104:9
pub run_program-returns-in_err-run_statement-clause-runs :
    goal.run_program-returns-in_err-run_statement-clause-runs
run_program-returns-in_err-run_statement-clause-runs g t c = λ seen told shows knows.
    (let pages = g.P.Pages in
    let old = c.args.pages.now in
    let mid = c.statements.pages in
    let size = (pages.limits (pages.below old)).page in
    let room = c.args.run.room in
    let l = listed_in c.args.run.catalog.now in
    let names = running_names c.args.running.now.items in
    let o = c.args.outer in
    let left : List TriggerStatement = c.statements.left.now in
    let item : TriggerStatement = c.statement-item.result in
    let rest : List TriggerStatement = take (length left - 1) (drop 1 left) in
    let same : item ∷ rest ≡ left = first_of left item c.in-len1-up.len_at_least c.statement-item.is in
    let new = pages.map c.run_statement.new.pages in
    let f : Fault = c.in_err-run_statement.field-0.0 in
    let result = c.from_residual.result in
    let ran = since pages.below pages.tells pages.limits old mid (λ (n : ℕ). StatementRuns room l (running_names c.statements.running.items) o (pages.map mid) new n item (Err f)) c.statements.invariant.1.kept
    (λ told seen shows knows. c.in_err-run_statement.ensures.runs seen told shows knows) told in
    let one = subst (λ (ns : List Name). StatementRuns room l ns o (pages.map mid) new size item (Err f)) (ap running_names c.statements.invariant.0) ran in
    c.statements.invariant.1.decides told new result
    (stopped (λ (them : List TriggerStatement). BodyRuns room l names o (pages.map mid) new size them) item rest left f result same c.from_residual.ensures.1
    (body_stops room l names o (pages.map mid) new new size item rest f one)) seen shows knows)

-- src/running.rt:104:9
pub run_program-returns-in_err-run_statement-clause-kept :
    goal.run_program-returns-in_err-run_statement-clause-kept
run_program-returns-in_err-run_statement-clause-kept g t c = search rules

-- src/running.rt:104:9
pub run_program-returns-in_err-run_statement-clause-causes :
    goal.run_program-returns-in_err-run_statement-clause-causes
run_program-returns-in_err-run_statement-clause-causes g t c = search rules

-- src/running.rt:103:5
pub run_program-statements-smaller : goal.run_program-statements-smaller
run_program-statements-smaller g t c = search rules

-- src/running.rt:103:5
pub run_program-statements-preserved : goal.run_program-statements-preserved
run_program-statements-preserved g t c = (
  c.in_ok-run_statement.ensures.running ∙ c.statements.invariant.0,
  record {
    kept = c.in_ok-run_statement.ensures.kept ∙ c.statements.invariant.1.kept;
    causes = search rules;
    decides = λ told end result others.
        (let pages = g.P.Pages in
        let old = c.args.pages.now in
        let mid = c.statements.pages in
        let size = (pages.limits (pages.below old)).page in
        let room = c.args.run.room in
        let l = listed_in c.args.run.catalog.now in
        let names = running_names c.args.running.now.items in
        let o = c.args.outer in
        let left : List TriggerStatement = c.statements.left.now in
        let item : TriggerStatement = c.statement-item.result in
        let rest : List TriggerStatement = take (length left - 1) (drop 1 left) in
        let same : item ∷ rest ≡ left = first_of left item c.in-len1-up.len_at_least c.statement-item.is in
        let new = pages.map c.run_statement.new.pages in
        let ran = since pages.below pages.tells pages.limits old mid (λ (n : ℕ). StatementRuns room l (running_names c.statements.running.items) o (pages.map mid) new n item (Ok tt)) c.statements.invariant.1.kept
        (λ told seen shows knows. c.in_ok-run_statement.ensures.runs seen told shows knows) told in
        let one = subst (λ (ns : List Name). StatementRuns room l ns o (pages.map mid) new size item (Ok tt)) (ap running_names c.statements.invariant.0) ran in
        c.statements.invariant.1.decides told end result
        (subst (λ (them : List TriggerStatement). BodyRuns room l names o (pages.map mid) end size them result) same
        (body_goes room l names o (pages.map mid) new end size item rest result one others)));
  },
)

-- src/running.rt:84:1
pub run_program-returns-clause-runs : goal.run_program-returns-clause-runs
run_program-returns-clause-runs g t c = λ seen told shows knows.
    (let pages = g.P.Pages in
    let old = c.args.pages.now in
    let now = pages.map c.statements.pages in
    let size = (pages.limits (pages.below old)).page in
    let room = c.args.run.room in
    let l = listed_in c.args.run.catalog.now in
    let names = running_names c.args.running.now.items in
    let o = c.args.outer in
    c.statements.invariant.1.decides told now (Ok tt)
    (subst (λ (them : List TriggerStatement). BodyRuns room l names o now now size them (Ok tt)) (none_left c.statements.left.now c.in_default.len_below) (body_done room l names o now size)) seen shows knows)

-- src/running.rt:84:1
pub run_program-returns-clause-running : goal.run_program-returns-clause-running
run_program-returns-clause-running g t c = search rules

-- src/running.rt:84:1
pub run_program-returns-clause-kept : goal.run_program-returns-clause-kept
run_program-returns-clause-kept g t c = search rules

-- src/running.rt:84:1
pub run_program-returns-clause-causes : goal.run_program-returns-clause-causes
run_program-returns-clause-causes g t c = search rules

-- src/running.rt:130:45
pub run_statement-run_change-requires : goal.run_statement-run_change-requires
run_statement-run_change-requires g t c κs within = search rules

-- src/running.rt:111:1
pub run_statement-returns-in-Change-clause-runs : goal.run_statement-returns-in-Change-clause-runs
run_statement-returns-in-Change-clause-runs g t c = λ seen told shows knows.
    (let pages = g.P.Pages in
    let old = c.args.pages.now in
    changes c.args.run.room (listed_in c.args.run.catalog.now) (running_names c.args.running.now.items) seen c.args.statement.now (pages.map old) (pages.map c.run_change.new.pages) (pages.limits (pages.below old)).page c.run_change.result
    c.in-Change.change c.in-Change.is (c.run_change.ensures.runs seen told shows) knows)

-- src/running.rt:111:1
pub run_statement-returns-in-Select-clause-runs : goal.run_statement-returns-in-Select-clause-runs
run_statement-returns-in-Select-clause-runs g t c = λ seen told shows knows.
    (let pages = g.P.Pages in
    let old = c.args.pages.now in
    reads c.args.run.room (listed_in c.args.run.catalog.now) (running_names c.args.running.now.items) seen c.args.statement.now (pages.map old) (pages.map c.read_beside.new.pages) (pages.limits (pages.below old)).page c.read_beside.result
    c.in-Select.query c.in-Select.is c.read_beside.ensures.stays.same (c.read_beside.ensures.read seen told shows) knows)
