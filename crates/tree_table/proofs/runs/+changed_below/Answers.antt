use Rattle.std.proofs.Common.{◌≡◌, ◌-◌, ◌∙◌, ℕ, ℤ, suc, Bool, w64, to_z, of_z, take, IsTrue, Ok, Err, refl, sym, subst, arith}
use Rattle.std.proofs.lemmas.Int.{to_z-of_z}
use Rattle.std.specs.Prelude.{Result}
use Rattle.sqlval.specs.declared.fault.Fault.{Fault}
use Rattle.pages.specs.Map.{PageMap}
use Rattle.tree_table.specs.Growing.{IsUnder, IsThereAt, Widens}
use Rattle.tree_table.specs.Rows.{with_changes}
use Rattle.tree_table.specs.Runs.{ChangesBelow, ChangesLeaf, IsNoRun, PutsAgain, RewritesRow, TakesRow}
use Rattle.tree_table.specs.Stepping.{StepsFrom}
use Rattle.tree_table.specs.declared.descending.Step.{Step}
use Rattle.tree_table.specs.declared.growing.Change.{Change}
use Rattle.tree_table.specs.declared.growing.Change.TheVariants.{Still, Same}
use Rattle.tree_table.proofs.ComingAgain.{step_again}
use Rattle.tree_table.proofs.Descents.{since, step_refused, step_cut, step_none, down_deep, down, down_spread}
use Rattle.tree_table.proofs.Exits.{edited_ways, edited_or_ways, not_still, not_same}
use Rattle.tree_table.proofs.RowsInPlace.{IsStepRewritten, step_rewritten}
use Rattle.tree_table.proofs.RunMade.{below_refused}
use Rattle.tree_table.proofs.TakenRows.{IsStepTaken, step_taken}
use Rattle.tree_table.proofs.runs.+changed_below.Goals as goal

pub returns-in_err-place-clause-changed : goal.returns-in_err-place-clause-changed
returns-in_err-place-clause-changed g n c = λ told depth low t high free under.
    (let pages = g.P.Pages in
    let old = c.args.pages.now in
    let base = pages.map old in
    let size = (pages.limits (pages.below old)).page in
    let rowid = c.args.rowid in
    let number = c.args.number in
    let changes = c.args.changes.now in
    let plain = to_z-of_z w64 c.args.rowid c.ranges.rowid in
    let fault = c.in_err-place.field-0.0 in
    let steps = subst (λ (z : ℤ). StepsFrom base size number z (Err fault)) plain (c.in_err-place.ensures.found told) in
    below_refused base (pages.map c.step_from.new.pages) size number c.args.ways rowid changes c.from_residual.result fault c.from_residual.ensures.1
    (step_refused base size number c.args.ways rowid depth low t high free under fault steps) depth low t high free)

pub returns-in_err-rewrite_row-in-Found-clause-changed : goal.returns-in_err-rewrite_row-in-Found-clause-changed
returns-in_err-rewrite_row-in-Found-clause-changed g n c = λ told depth low t high free under.
    (let pages = g.P.Pages in
    let old = c.args.pages.now in
    let base = pages.map old in
    let size = (pages.limits (pages.below old)).page in
    let rowid = c.args.rowid in
    let number = c.args.number in
    let place = c.in-Found.place in
    let changes = c.args.changes.now in
    let plain = to_z-of_z w64 c.args.rowid c.ranges.rowid in
    let steps_any = subst (λ (z : ℤ). StepsFrom base size number z (Ok c.in_ok-place.field-0)) plain (c.in_ok-place.ensures.found told) in
    let stays = c.in_ok-place.ensures.stays in
    let steps = subst (λ (s : Step). StepsFrom base size number rowid (Ok s)) c.in-Found.is steps_any in
    let written = pages.map c.rewrite_row.new.pages in
    let fault = c.in_err-rewrite_row-in-Found.field-0.0 in
    let rewrites = since pages.below pages.tells pages.limits pages.map old c.step_from.new.pages (λ (m : PageMap) (n : ℕ). RewritesRow m written n number place changes (Err fault)) stays.kept stays.same
    c.in_err-rewrite_row-in-Found.ensures.rewritten told in
    below_refused base written size number c.args.ways rowid changes c.from_residual-in_err-rewrite_row-in-Found.result fault c.from_residual-in_err-rewrite_row-in-Found.ensures.1
    (step_rewritten base written size number c.args.ways place rowid depth low t high free under steps changes c.requires (Err fault) rewrites) depth low t high free)

pub returns-then-branch-clause-changed : goal.returns-then-branch-clause-changed
returns-then-branch-clause-changed g n c = λ told depth low t high free under.
    (let pages = g.P.Pages in
    let old = c.args.pages.now in
    let base = pages.map old in
    let size = (pages.limits (pages.below old)).page in
    let rowid = c.args.rowid in
    let number = c.args.number in
    let place = c.in-Found.place in
    let changes = c.args.changes.now in
    let plain = to_z-of_z w64 c.args.rowid c.ranges.rowid in
    let steps_any = subst (λ (z : ℤ). StepsFrom base size number z (Ok c.in_ok-place.field-0)) plain (c.in_ok-place.ensures.found told) in
    let stays = c.in_ok-place.ensures.stays in
    let steps = subst (λ (s : Step). StepsFrom base size number rowid (Ok s)) c.in-Found.is steps_any in
    let written = pages.map c.rewrite_row.new.pages in
    let rewrites = since pages.below pages.tells pages.limits pages.map old c.step_from.new.pages (λ (m : PageMap) (n : ℕ). RewritesRow m written n number place changes (Ok c.in_ok-rewrite_row-in-Found.field-0)) stays.kept stays.same
    c.in_ok-rewrite_row-in-Found.ensures.rewritten told in
    let rewritten = step_rewritten base written size number c.args.ways place rowid depth low t high free under steps changes c.requires (Ok c.in_ok-rewrite_row-in-Found.field-0) rewrites in
    subst (λ (b : Bool). IsStepRewritten base written size number c.args.ways rowid changes depth low t high free b) c.if-branch.true rewritten)

pub returns-in_err-taken_off-in-Found-clause-changed : goal.returns-in_err-taken_off-in-Found-clause-changed
returns-in_err-taken_off-in-Found-clause-changed g n c = λ told depth low t high free under.
    (let pages = g.P.Pages in
    let old = c.args.pages.now in
    let base = pages.map old in
    let size = (pages.limits (pages.below old)).page in
    let rowid = c.args.rowid in
    let number = c.args.number in
    let place = c.in-Found.place in
    let changes = c.args.changes.now in
    let plain = to_z-of_z w64 c.args.rowid c.ranges.rowid in
    let steps_any = subst (λ (z : ℤ). StepsFrom base size number z (Ok c.in_ok-place.field-0)) plain (c.in_ok-place.ensures.found told) in
    let stays = c.in_ok-place.ensures.stays in
    let steps = subst (λ (s : Step). StepsFrom base size number rowid (Ok s)) c.in-Found.is steps_any in
    let written = pages.map c.rewrite_row.new.pages in
    let rewrites = since pages.below pages.tells pages.limits pages.map old c.step_from.new.pages (λ (m : PageMap) (n : ℕ). RewritesRow m written n number place changes (Ok c.in_ok-rewrite_row-in-Found.field-0)) stays.kept stays.same
    c.in_ok-rewrite_row-in-Found.ensures.rewritten told in
    let rewritten = step_rewritten base written size number c.args.ways place rowid depth low t high free under steps changes c.requires (Ok c.in_ok-rewrite_row-in-Found.field-0) rewrites in
    let unchanged = subst (λ (b : Bool). IsStepRewritten base written size number c.args.ways rowid changes depth low t high free b) c.if-branch.false rewritten in
    let kept_first = c.in_ok-rewrite_row-in-Found.ensures.kept ∙ stays.kept in
    let mid = pages.map c.taken_off.new.pages in
    let takes = since pages.below pages.tells pages.limits pages.map old c.rewrite_row.new.pages (λ (m : PageMap) (n : ℕ). TakesRow m mid n number place changes (Err c.in_err-taken_off-in-Found.field-0.0)) kept_first unchanged
    c.in_err-taken_off-in-Found.ensures.taken told in
    let taken = step_taken base mid size number c.args.ways place rowid depth low t high free under steps changes (Err c.in_err-taken_off-in-Found.field-0.0) takes in
    below_refused base mid size number c.args.ways rowid changes c.from_residual-in_err-taken_off-in-Found.result c.in_err-taken_off-in-Found.field-0.0 c.from_residual-in_err-taken_off-in-Found.ensures.1
    taken depth low t high free)

pub returns-in_err-change-in-Found-clause-changed : goal.returns-in_err-change-in-Found-clause-changed
returns-in_err-change-in-Found-clause-changed g n c = λ told depth low t high free under.
    (let pages = g.P.Pages in
    let old = c.args.pages.now in
    let base = pages.map old in
    let size = (pages.limits (pages.below old)).page in
    let rowid = c.args.rowid in
    let number = c.args.number in
    let place = c.in-Found.place in
    let changes = c.args.changes.now in
    let plain = to_z-of_z w64 c.args.rowid c.ranges.rowid in
    let steps_any = subst (λ (z : ℤ). StepsFrom base size number z (Ok c.in_ok-place.field-0)) plain (c.in_ok-place.ensures.found told) in
    let stays = c.in_ok-place.ensures.stays in
    let steps = subst (λ (s : Step). StepsFrom base size number rowid (Ok s)) c.in-Found.is steps_any in
    let written = pages.map c.rewrite_row.new.pages in
    let rewrites = since pages.below pages.tells pages.limits pages.map old c.step_from.new.pages (λ (m : PageMap) (n : ℕ). RewritesRow m written n number place changes (Ok c.in_ok-rewrite_row-in-Found.field-0)) stays.kept stays.same
    c.in_ok-rewrite_row-in-Found.ensures.rewritten told in
    let rewritten = step_rewritten base written size number c.args.ways place rowid depth low t high free under steps changes c.requires (Ok c.in_ok-rewrite_row-in-Found.field-0) rewrites in
    let unchanged = subst (λ (b : Bool). IsStepRewritten base written size number c.args.ways rowid changes depth low t high free b) c.if-branch.false rewritten in
    let kept_first = c.in_ok-rewrite_row-in-Found.ensures.kept ∙ stays.kept in
    let mid = pages.map c.taken_off.new.pages in
    let takes = since pages.below pages.tells pages.limits pages.map old c.rewrite_row.new.pages (λ (m : PageMap) (n : ℕ). TakesRow m mid n number place changes (Ok c.in_ok-taken_off-in-Found.field-0)) kept_first unchanged
    c.in_ok-taken_off-in-Found.ensures.taken told in
    let taken = step_taken base mid size number c.args.ways place rowid depth low t high free under steps changes (Ok c.in_ok-taken_off-in-Found.field-0) takes in
    let gone = subst (λ (b : Bool). IsStepTaken base mid size number rowid changes depth low t high free b) c.if-branch-2.true taken in
    let new = pages.map c.put_again.new.pages in
    let kept = c.in_ok-taken_off-in-Found.ensures.kept ∙ kept_first in
    let told_mid = subst (λ k. IsTrue (pages.tells k)) (sym kept) told in
    let answered : Result Change Fault = Err c.in_err-change-in-Found.field-0.0 in
    let puts = subst (λ (z : ℤ). PutsAgain mid new size number place c.args.ways z changes answered) plain
    (subst (λ k. PutsAgain mid new (pages.limits k).page number place c.args.ways (to_z w64 (of_z w64 rowid)) changes answered) kept (c.in_err-change-in-Found.ensures.put told_mid)) in
    let again = step_again base mid new size number c.args.ways place rowid depth low t high free under steps changes c.requires gone answered puts in
    below_refused base new size number c.args.ways rowid changes c.from_residual-in_err-change-in-Found.result c.in_err-change-in-Found.field-0.0 c.from_residual-in_err-change-in-Found.ensures.1
    again depth low t high free)

pub returns-then-branch-2-clause-changed : goal.returns-then-branch-2-clause-changed
returns-then-branch-2-clause-changed g n c = λ told depth low t high free under.
    (let pages = g.P.Pages in
    let old = c.args.pages.now in
    let base = pages.map old in
    let size = (pages.limits (pages.below old)).page in
    let rowid = c.args.rowid in
    let number = c.args.number in
    let place = c.in-Found.place in
    let changes = c.args.changes.now in
    let plain = to_z-of_z w64 c.args.rowid c.ranges.rowid in
    let steps_any = subst (λ (z : ℤ). StepsFrom base size number z (Ok c.in_ok-place.field-0)) plain (c.in_ok-place.ensures.found told) in
    let stays = c.in_ok-place.ensures.stays in
    let steps = subst (λ (s : Step). StepsFrom base size number rowid (Ok s)) c.in-Found.is steps_any in
    let written = pages.map c.rewrite_row.new.pages in
    let rewrites = since pages.below pages.tells pages.limits pages.map old c.step_from.new.pages (λ (m : PageMap) (n : ℕ). RewritesRow m written n number place changes (Ok c.in_ok-rewrite_row-in-Found.field-0)) stays.kept stays.same
    c.in_ok-rewrite_row-in-Found.ensures.rewritten told in
    let rewritten = step_rewritten base written size number c.args.ways place rowid depth low t high free under steps changes c.requires (Ok c.in_ok-rewrite_row-in-Found.field-0) rewrites in
    let unchanged = subst (λ (b : Bool). IsStepRewritten base written size number c.args.ways rowid changes depth low t high free b) c.if-branch.false rewritten in
    let kept_first = c.in_ok-rewrite_row-in-Found.ensures.kept ∙ stays.kept in
    let mid = pages.map c.taken_off.new.pages in
    let takes = since pages.below pages.tells pages.limits pages.map old c.rewrite_row.new.pages (λ (m : PageMap) (n : ℕ). TakesRow m mid n number place changes (Ok c.in_ok-taken_off-in-Found.field-0)) kept_first unchanged
    c.in_ok-taken_off-in-Found.ensures.taken told in
    let taken = step_taken base mid size number c.args.ways place rowid depth low t high free under steps changes (Ok c.in_ok-taken_off-in-Found.field-0) takes in
    let gone = subst (λ (b : Bool). IsStepTaken base mid size number rowid changes depth low t high free b) c.if-branch-2.true taken in
    let new = pages.map c.put_again.new.pages in
    let kept = c.in_ok-taken_off-in-Found.ensures.kept ∙ kept_first in
    let told_mid = subst (λ k. IsTrue (pages.tells k)) (sym kept) told in
    let answered : Result Change Fault = Ok c.in_ok-change-in-Found.change in
    let puts = subst (λ (z : ℤ). PutsAgain mid new size number place c.args.ways z changes answered) plain
    (subst (λ k. PutsAgain mid new (pages.limits k).page number place c.args.ways (to_z w64 (of_z w64 rowid)) changes answered) kept (c.in_ok-change-in-Found.ensures.put told_mid)) in
    let again = step_again base mid new size number c.args.ways place rowid depth low t high free under steps changes c.requires gone answered puts in
    again)

pub returns-in_err-count-in-Found-clause-changed : goal.returns-in_err-count-in-Found-clause-changed
returns-in_err-count-in-Found-clause-changed g n c = λ told depth low t high free under.
    (let pages = g.P.Pages in
    let old = c.args.pages.now in
    let base = pages.map old in
    let size = (pages.limits (pages.below old)).page in
    let rowid = c.args.rowid in
    let number = c.args.number in
    let place = c.in-Found.place in
    let changes = c.args.changes.now in
    let plain = to_z-of_z w64 c.args.rowid c.ranges.rowid in
    let steps_any = subst (λ (z : ℤ). StepsFrom base size number z (Ok c.in_ok-place.field-0)) plain (c.in_ok-place.ensures.found told) in
    let stays = c.in_ok-place.ensures.stays in
    let steps = subst (λ (s : Step). StepsFrom base size number rowid (Ok s)) c.in-Found.is steps_any in
    let written = pages.map c.rewrite_row.new.pages in
    let rewrites = since pages.below pages.tells pages.limits pages.map old c.step_from.new.pages (λ (m : PageMap) (n : ℕ). RewritesRow m written n number place changes (Ok c.in_ok-rewrite_row-in-Found.field-0)) stays.kept stays.same
    c.in_ok-rewrite_row-in-Found.ensures.rewritten told in
    let rewritten = step_rewritten base written size number c.args.ways place rowid depth low t high free under steps changes c.requires (Ok c.in_ok-rewrite_row-in-Found.field-0) rewrites in
    let unchanged = subst (λ (b : Bool). IsStepRewritten base written size number c.args.ways rowid changes depth low t high free b) c.if-branch.false rewritten in
    let kept_first = c.in_ok-rewrite_row-in-Found.ensures.kept ∙ stays.kept in
    let mid = pages.map c.taken_off.new.pages in
    let takes = since pages.below pages.tells pages.limits pages.map old c.rewrite_row.new.pages (λ (m : PageMap) (n : ℕ). TakesRow m mid n number place changes (Ok c.in_ok-taken_off-in-Found.field-0)) kept_first unchanged
    c.in_ok-taken_off-in-Found.ensures.taken told in
    let taken = step_taken base mid size number c.args.ways place rowid depth low t high free under steps changes (Ok c.in_ok-taken_off-in-Found.field-0) takes in
    let same = subst (λ (b : Bool). IsStepTaken base mid size number rowid changes depth low t high free b) c.if-branch-2.false taken in
    let new = pages.map c.changed_leaf.new.pages in
    let kept = c.in_ok-taken_off-in-Found.ensures.kept ∙ kept_first in
    let cuts = since pages.below pages.tells pages.limits pages.map old c.taken_off.new.pages (λ (m : PageMap) (n : ℕ). ChangesLeaf m new n number place changes (Err c.in_err-count-in-Found.field-0.0)) kept same
    c.in_err-count-in-Found.ensures.changed told in
    below_refused base new size number c.args.ways rowid changes c.from_residual-in_err-count-in-Found.result c.in_err-count-in-Found.field-0.0 c.from_residual-in_err-count-in-Found.ensures.1
    (step_cut base new size number c.args.ways place rowid depth low t high free under steps changes c.requires (Err c.in_err-count-in-Found.field-0.0) cuts) depth low t high free)

pub returns-in-Found-clause-changed : goal.returns-in-Found-clause-changed
returns-in-Found-clause-changed g n c = λ told depth low t high free under.
    (let pages = g.P.Pages in
    let old = c.args.pages.now in
    let base = pages.map old in
    let size = (pages.limits (pages.below old)).page in
    let rowid = c.args.rowid in
    let number = c.args.number in
    let place = c.in-Found.place in
    let changes = c.args.changes.now in
    let plain = to_z-of_z w64 c.args.rowid c.ranges.rowid in
    let steps_any = subst (λ (z : ℤ). StepsFrom base size number z (Ok c.in_ok-place.field-0)) plain (c.in_ok-place.ensures.found told) in
    let stays = c.in_ok-place.ensures.stays in
    let steps = subst (λ (s : Step). StepsFrom base size number rowid (Ok s)) c.in-Found.is steps_any in
    let written = pages.map c.rewrite_row.new.pages in
    let rewrites = since pages.below pages.tells pages.limits pages.map old c.step_from.new.pages (λ (m : PageMap) (n : ℕ). RewritesRow m written n number place changes (Ok c.in_ok-rewrite_row-in-Found.field-0)) stays.kept stays.same
    c.in_ok-rewrite_row-in-Found.ensures.rewritten told in
    let rewritten = step_rewritten base written size number c.args.ways place rowid depth low t high free under steps changes c.requires (Ok c.in_ok-rewrite_row-in-Found.field-0) rewrites in
    let unchanged = subst (λ (b : Bool). IsStepRewritten base written size number c.args.ways rowid changes depth low t high free b) c.if-branch.false rewritten in
    let kept_first = c.in_ok-rewrite_row-in-Found.ensures.kept ∙ stays.kept in
    let mid = pages.map c.taken_off.new.pages in
    let takes = since pages.below pages.tells pages.limits pages.map old c.rewrite_row.new.pages (λ (m : PageMap) (n : ℕ). TakesRow m mid n number place changes (Ok c.in_ok-taken_off-in-Found.field-0)) kept_first unchanged
    c.in_ok-taken_off-in-Found.ensures.taken told in
    let taken = step_taken base mid size number c.args.ways place rowid depth low t high free under steps changes (Ok c.in_ok-taken_off-in-Found.field-0) takes in
    let same = subst (λ (b : Bool). IsStepTaken base mid size number rowid changes depth low t high free b) c.if-branch-2.false taken in
    let new = pages.map c.changed_leaf.new.pages in
    let kept = c.in_ok-taken_off-in-Found.ensures.kept ∙ kept_first in
    let cuts = since pages.below pages.tells pages.limits pages.map old c.taken_off.new.pages (λ (m : PageMap) (n : ℕ). ChangesLeaf m new n number place changes (Ok (c.in_ok-count-in-Found.count, c.in_ok-count-in-Found.packed))) kept same
    c.in_ok-count-in-Found.ensures.changed told in
    step_cut base new size number c.args.ways place rowid depth low t high free under steps changes c.requires (Ok (c.in_ok-count-in-Found.count, c.in_ok-count-in-Found.packed)) cuts)

pub returns-in-Here-clause-changed : goal.returns-in-Here-clause-changed
returns-in-Here-clause-changed g n c = λ told depth low t high free under.
    (let pages = g.P.Pages in
    let old = c.args.pages.now in
    let base = pages.map old in
    let size = (pages.limits (pages.below old)).page in
    let rowid = c.args.rowid in
    let number = c.args.number in
    let changes = c.args.changes.now in
    let plain = to_z-of_z w64 c.args.rowid c.ranges.rowid in
    let steps_any = subst (λ (z : ℤ). StepsFrom base size number z (Ok c.in_ok-place.field-0)) plain (c.in_ok-place.ensures.found told) in
    let stays = c.in_ok-place.ensures.stays in
    let steps = subst (λ (s : Step). StepsFrom base size number rowid (Ok s)) c.in-Here.is steps_any in
    ((step_none base size number c.args.ways c.in-Here.field-0 rowid depth low t high free under steps, refl), stays.same))

pub returns-then-ways-eq0-clause-changed : goal.returns-then-ways-eq0-clause-changed
returns-then-ways-eq0-clause-changed g n c = λ told depth low t high free under.
    (let pages = g.P.Pages in
    let old = c.args.pages.now in
    let base = pages.map old in
    let size = (pages.limits (pages.below old)).page in
    let rowid = c.args.rowid in
    let number = c.args.number in
    let changes = c.args.changes.now in
    let plain = to_z-of_z w64 c.args.rowid c.ranges.rowid in
    let steps_any = subst (λ (z : ℤ). StepsFrom base size number z (Ok c.in_ok-place.field-0)) plain (c.in_ok-place.ensures.found told) in
    let stays = c.in_ok-place.ensures.stays in
    let steps = subst (λ (s : Step). StepsFrom base size number rowid (Ok s)) c.in-Down.is steps_any in
    absurd (down_deep base size number c.args.ways c.in-Down.place c.in-Down.child rowid depth low t high free under steps c.if-ways-eq0.true))

pub returns-in_err-count-clause-changed : goal.returns-in_err-count-clause-changed
returns-in_err-count-clause-changed g n c = λ told depth low t high free under.
    (let pages = g.P.Pages in
    let old = c.args.pages.now in
    let base = pages.map old in
    let size = (pages.limits (pages.below old)).page in
    let rowid = c.args.rowid in
    let number = c.args.number in
    let changes = c.args.changes.now in
    let plain = to_z-of_z w64 c.args.rowid c.ranges.rowid in
    let steps_any = subst (λ (z : ℤ). StepsFrom base size number z (Ok c.in_ok-place.field-0)) plain (c.in_ok-place.ensures.found told) in
    let stays = c.in_ok-place.ensures.stays in
    let steps = subst (λ (s : Step). StepsFrom base size number rowid (Ok s)) c.in-Down.is steps_any in
    let mid = pages.map c.changed_below.new.pages in
    let fewer = c.args.ways - 1 in
    let more : c.args.ways ≡ suc fewer = omega (arith, c.if-ways-eq0.false) in
    let under_now = subst (λ (k : ℕ). IsUnder base size number k rowid depth low t high free) more under in
    let below = subst (λ (z : ℤ). ChangesBelow base mid size c.in-Down.child fewer z changes (Err c.in_err-count.field-0.0)) plain
    (since pages.below pages.tells pages.limits pages.map old c.step_from.new.pages (λ (m : PageMap) (k : ℕ). ChangesBelow m mid k c.in-Down.child fewer (to_z w64 (of_z w64 rowid)) changes (Err c.in_err-count.field-0.0)) stays.kept stays.same c.in_err-count.ensures.changed told) in
    below_refused base mid size number c.args.ways rowid changes c.from_residual-in_err-count.result c.in_err-count.field-0.0 c.from_residual-in_err-count.ensures.1
    (down base mid size number fewer c.in-Down.place c.in-Down.child rowid (with_changes (take 0 changes)) (IsNoRun 0) IsThereAt depth low t high free under_now steps (Err c.in_err-count.field-0.0) below) depth low t high free)

pub returns-in-Same-clause-changed : goal.returns-in-Same-clause-changed
returns-in-Same-clause-changed g n c = λ told depth low t high free under.
    (let pages = g.P.Pages in
    let old = c.args.pages.now in
    let base = pages.map old in
    let size = (pages.limits (pages.below old)).page in
    let rowid = c.args.rowid in
    let number = c.args.number in
    let changes = c.args.changes.now in
    let plain = to_z-of_z w64 c.args.rowid c.ranges.rowid in
    let steps_any = subst (λ (z : ℤ). StepsFrom base size number z (Ok c.in_ok-place.field-0)) plain (c.in_ok-place.ensures.found told) in
    let stays = c.in_ok-place.ensures.stays in
    let steps = subst (λ (s : Step). StepsFrom base size number rowid (Ok s)) c.in-Down.is steps_any in
    let mid = pages.map c.changed_below.new.pages in
    let fewer = c.args.ways - 1 in
    let more : c.args.ways ≡ suc fewer = omega (arith, c.if-ways-eq0.false) in
    let under_now = subst (λ (k : ℕ). IsUnder base size number k rowid depth low t high free) more under in
    let below = subst (λ (z : ℤ). ChangesBelow base mid size c.in-Down.child fewer z changes (Ok (c.in_ok-count.count, c.in_ok-count.change))) plain
    (since pages.below pages.tells pages.limits pages.map old c.step_from.new.pages (λ (m : PageMap) (k : ℕ). ChangesBelow m mid k c.in-Down.child fewer (to_z w64 (of_z w64 rowid)) changes (Ok (c.in_ok-count.count, c.in_ok-count.change))) stays.kept stays.same c.in_ok-count.ensures.changed told) in
    let count = c.in_ok-count.count in
    let now = subst (λ (change : Change). ChangesBelow base mid size c.in-Down.child fewer rowid changes (Ok (count, change))) c.in-Same.is below in
    edited_ways (IsNoRun count) IsThereAt base mid size number (suc fewer) c.args.ways rowid (with_changes (take count changes)) depth low t high free Same (sym more)
    (down base mid size number fewer c.in-Down.place c.in-Down.child rowid (with_changes (take count changes)) (IsNoRun count) IsThereAt depth low t high free under_now steps (Ok Same) now not_same))

pub returns-in-Still-clause-changed : goal.returns-in-Still-clause-changed
returns-in-Still-clause-changed g n c = λ told depth low t high free under.
    (let pages = g.P.Pages in
    let old = c.args.pages.now in
    let base = pages.map old in
    let size = (pages.limits (pages.below old)).page in
    let rowid = c.args.rowid in
    let number = c.args.number in
    let changes = c.args.changes.now in
    let plain = to_z-of_z w64 c.args.rowid c.ranges.rowid in
    let steps_any = subst (λ (z : ℤ). StepsFrom base size number z (Ok c.in_ok-place.field-0)) plain (c.in_ok-place.ensures.found told) in
    let stays = c.in_ok-place.ensures.stays in
    let steps = subst (λ (s : Step). StepsFrom base size number rowid (Ok s)) c.in-Down.is steps_any in
    let mid = pages.map c.changed_below.new.pages in
    let fewer = c.args.ways - 1 in
    let more : c.args.ways ≡ suc fewer = omega (arith, c.if-ways-eq0.false) in
    let under_now = subst (λ (k : ℕ). IsUnder base size number k rowid depth low t high free) more under in
    let below = subst (λ (z : ℤ). ChangesBelow base mid size c.in-Down.child fewer z changes (Ok (c.in_ok-count.count, c.in_ok-count.change))) plain
    (since pages.below pages.tells pages.limits pages.map old c.step_from.new.pages (λ (m : PageMap) (k : ℕ). ChangesBelow m mid k c.in-Down.child fewer (to_z w64 (of_z w64 rowid)) changes (Ok (c.in_ok-count.count, c.in_ok-count.change))) stays.kept stays.same c.in_ok-count.ensures.changed told) in
    let count = c.in_ok-count.count in
    let now = subst (λ (change : Change). ChangesBelow base mid size c.in-Down.child fewer rowid changes (Ok (count, change))) c.in-Still.is below in
    edited_ways (IsNoRun count) IsThereAt base mid size number (suc fewer) c.args.ways rowid (with_changes (take count changes)) depth low t high free Still (sym more)
    (down base mid size number fewer c.in-Down.place c.in-Down.child rowid (with_changes (take count changes)) (IsNoRun count) IsThereAt depth low t high free under_now steps (Ok Still) now not_still))

pub returns-in_err-change-in-Spread-clause-changed : goal.returns-in_err-change-in-Spread-clause-changed
returns-in_err-change-in-Spread-clause-changed g n c = λ told depth low t high free under.
    (let pages = g.P.Pages in
    let old = c.args.pages.now in
    let base = pages.map old in
    let size = (pages.limits (pages.below old)).page in
    let rowid = c.args.rowid in
    let number = c.args.number in
    let changes = c.args.changes.now in
    let plain = to_z-of_z w64 c.args.rowid c.ranges.rowid in
    let steps_any = subst (λ (z : ℤ). StepsFrom base size number z (Ok c.in_ok-place.field-0)) plain (c.in_ok-place.ensures.found told) in
    let stays = c.in_ok-place.ensures.stays in
    let steps = subst (λ (s : Step). StepsFrom base size number rowid (Ok s)) c.in-Down.is steps_any in
    let mid = pages.map c.changed_below.new.pages in
    let fewer = c.args.ways - 1 in
    let more : c.args.ways ≡ suc fewer = omega (arith, c.if-ways-eq0.false) in
    let under_now = subst (λ (k : ℕ). IsUnder base size number k rowid depth low t high free) more under in
    let below = subst (λ (z : ℤ). ChangesBelow base mid size c.in-Down.child fewer z changes (Ok (c.in_ok-count.count, c.in_ok-count.change))) plain
    (since pages.below pages.tells pages.limits pages.map old c.step_from.new.pages (λ (m : PageMap) (k : ℕ). ChangesBelow m mid k c.in-Down.child fewer (to_z w64 (of_z w64 rowid)) changes (Ok (c.in_ok-count.count, c.in_ok-count.change))) stays.kept stays.same c.in_ok-count.ensures.changed told) in
    let count = c.in_ok-count.count in
    let new = pages.map c.narrowed.new.pages in
    let now = subst (λ (change : Change). ChangesBelow base mid size c.in-Down.child fewer rowid changes (Ok (count, change))) c.in-Spread.is below in
    let kept = c.in_ok-count.ensures.kept ∙ stays.kept in
    let told_mid = subst (λ k. IsTrue (pages.tells k)) (sym kept) told in
    let widens = subst (λ k. Widens mid new (pages.limits k).page number c.in-Down.place c.in-Down.child c.in-Spread.packed c.in-Spread.deep (Err c.in_err-change-in-Spread.field-0.0)) kept (c.in_err-change-in-Spread.ensures.widened told_mid) in
    let done = edited_or_ways (IsNoRun count) IsThereAt base new size number (suc fewer) c.args.ways rowid (with_changes (take count changes)) depth low t high free (Err c.in_err-change-in-Spread.field-0.0) (sym more)
    (down_spread base mid size number fewer c.in-Down.place c.in-Down.child rowid (with_changes (take count changes)) (IsNoRun count) IsThereAt new depth low t high free under_now steps c.in-Spread.packed c.in-Spread.deep now (Err c.in_err-change-in-Spread.field-0.0) widens) in
    below_refused base new size number c.args.ways rowid changes c.from_residual-in_err-change-in-Spread.result c.in_err-change-in-Spread.field-0.0 c.from_residual-in_err-change-in-Spread.ensures.1 done depth low t high free)

pub returns-in_ok-change-in-Spread-clause-changed : goal.returns-in_ok-change-in-Spread-clause-changed
returns-in_ok-change-in-Spread-clause-changed g n c = λ told depth low t high free under.
    (let pages = g.P.Pages in
    let old = c.args.pages.now in
    let base = pages.map old in
    let size = (pages.limits (pages.below old)).page in
    let rowid = c.args.rowid in
    let number = c.args.number in
    let changes = c.args.changes.now in
    let plain = to_z-of_z w64 c.args.rowid c.ranges.rowid in
    let steps_any = subst (λ (z : ℤ). StepsFrom base size number z (Ok c.in_ok-place.field-0)) plain (c.in_ok-place.ensures.found told) in
    let stays = c.in_ok-place.ensures.stays in
    let steps = subst (λ (s : Step). StepsFrom base size number rowid (Ok s)) c.in-Down.is steps_any in
    let mid = pages.map c.changed_below.new.pages in
    let fewer = c.args.ways - 1 in
    let more : c.args.ways ≡ suc fewer = omega (arith, c.if-ways-eq0.false) in
    let under_now = subst (λ (k : ℕ). IsUnder base size number k rowid depth low t high free) more under in
    let below = subst (λ (z : ℤ). ChangesBelow base mid size c.in-Down.child fewer z changes (Ok (c.in_ok-count.count, c.in_ok-count.change))) plain
    (since pages.below pages.tells pages.limits pages.map old c.step_from.new.pages (λ (m : PageMap) (k : ℕ). ChangesBelow m mid k c.in-Down.child fewer (to_z w64 (of_z w64 rowid)) changes (Ok (c.in_ok-count.count, c.in_ok-count.change))) stays.kept stays.same c.in_ok-count.ensures.changed told) in
    let count = c.in_ok-count.count in
    let new = pages.map c.narrowed.new.pages in
    let now = subst (λ (change : Change). ChangesBelow base mid size c.in-Down.child fewer rowid changes (Ok (count, change))) c.in-Spread.is below in
    let kept = c.in_ok-count.ensures.kept ∙ stays.kept in
    let told_mid = subst (λ k. IsTrue (pages.tells k)) (sym kept) told in
    let widens = subst (λ k. Widens mid new (pages.limits k).page number c.in-Down.place c.in-Down.child c.in-Spread.packed c.in-Spread.deep (Ok c.in_ok-change-in-Spread.change)) kept (c.in_ok-change-in-Spread.ensures.widened told_mid) in
    let done = edited_or_ways (IsNoRun count) IsThereAt base new size number (suc fewer) c.args.ways rowid (with_changes (take count changes)) depth low t high free (Ok c.in_ok-change-in-Spread.change) (sym more)
    (down_spread base mid size number fewer c.in-Down.place c.in-Down.child rowid (with_changes (take count changes)) (IsNoRun count) IsThereAt new depth low t high free under_now steps c.in-Spread.packed c.in-Spread.deep now (Ok c.in_ok-change-in-Spread.change) widens) in
    done)
