use Rattle.std.proofs.Common.{◌≡◌, ◌-◌, ◌∙◌, ℕ, ℤ, suc, w64, to_z, of_z, IsTrue, Option, None, Some, Ok, Err, sym, subst, arith}
use Rattle.std.proofs.lemmas.Int.{to_z-of_z}
use Rattle.tree_leaf.specs.Leaf.{Entry}
use Rattle.pages.specs.Map.{PageMap}
use Rattle.tree_pack.specs.declared.spreading.Packed.{Packed}
use Rattle.tree_table.specs.Growing.{IsUnder, IsChanged, IsThereAt, IsNotAt, Changes, PlansLeaf, Widens}
use Rattle.tree_table.specs.Rows.{with_row}
use Rattle.tree_table.specs.Stepping.{StepsFrom}
use Rattle.tree_table.specs.declared.descending.Step.{Step}
use Rattle.tree_table.specs.declared.growing.Change.{Change}
use Rattle.tree_table.specs.declared.growing.Change.TheVariants.{Still, Same}
use Rattle.tree_table.proofs.Descents.{since, step_refused, step_found, step_here, down_deep, down, down_spread}
use Rattle.tree_table.proofs.Exits.{full_err, changed_ways, changed_or_ways, not_still, not_same}
use Rattle.tree_table.proofs.growing.+packed_below.Goals as goal

pub returns-in_err-step_from-clause-changes : goal.returns-in_err-step_from-clause-changes
returns-in_err-step_from-clause-changes g n c = λ told depth low t high free under.
    (let pages = g.P.Pages in
    let old = c.args.pages.now in
    let base = pages.map old in
    let size = (pages.limits (pages.below old)).page in
    let row : Entry = record { rowid = c.args.rowid; payload = c.args.payload.now } in
    let plain = to_z-of_z w64 c.args.rowid c.ranges.rowid in
    let fault = c.in_err-step_from.field-0.0 in
    let steps = subst (λ (z : ℤ). StepsFrom base size c.args.number z (Err fault)) plain (c.in_err-step_from.ensures.found told) in
    full_err (IsChanged base (pages.map c.step_from.new.pages) size c.args.number c.args.ways row depth low t high free) c.from_residual.result fault c.from_residual.ensures.1
    (step_refused base size c.args.number c.args.ways c.args.rowid depth low t high free under fault steps))

pub returns-in-Found-clause-changes : goal.returns-in-Found-clause-changes
returns-in-Found-clause-changes g n c = λ told depth low t high free under.
    (let pages = g.P.Pages in
    let old = c.args.pages.now in
    let base = pages.map old in
    let size = (pages.limits (pages.below old)).page in
    let row : Entry = record { rowid = c.args.rowid; payload = c.args.payload.now } in
    let plain = to_z-of_z w64 c.args.rowid c.ranges.rowid in
    let steps_any = subst (λ (z : ℤ). StepsFrom base size c.args.number z (Ok c.in_ok-step_from.field-0)) plain (c.in_ok-step_from.ensures.found told) in
    let stays = c.in_ok-step_from.ensures.stays in
    let steps = subst (λ (s : Step). StepsFrom base size c.args.number c.args.rowid (Ok s)) c.in-Found.is steps_any in
    (step_found base size c.args.number c.args.ways c.in-Found.field-0 c.args.rowid depth low t high free under steps, stays.same))

pub returns-in_err-packed-in-Here-clause-changes : goal.returns-in_err-packed-in-Here-clause-changes
returns-in_err-packed-in-Here-clause-changes g n c = λ told depth low t high free under.
    (let pages = g.P.Pages in
    let old = c.args.pages.now in
    let base = pages.map old in
    let size = (pages.limits (pages.below old)).page in
    let row : Entry = record { rowid = c.args.rowid; payload = c.args.payload.now } in
    let plain = to_z-of_z w64 c.args.rowid c.ranges.rowid in
    let steps_any = subst (λ (z : ℤ). StepsFrom base size c.args.number z (Ok c.in_ok-step_from.field-0)) plain (c.in_ok-step_from.ensures.found told) in
    let stays = c.in_ok-step_from.ensures.stays in
    let steps = subst (λ (s : Step). StepsFrom base size c.args.number c.args.rowid (Ok s)) c.in-Here.is steps_any in
    let new = pages.map c.leaf_with.new.pages in
    let plans = subst (λ (z : ℤ). PlansLeaf base new size c.args.number c.in-Here.place (record { rowid = z; payload = c.args.payload.now }) (Err c.in_err-packed-in-Here.field-0.0)) plain
    (since pages.below pages.tells pages.limits pages.map old c.step_from.new.pages (λ (m : PageMap) (n : ℕ). PlansLeaf m new n c.args.number c.in-Here.place (record { rowid = to_z w64 (of_z w64 c.args.rowid); payload = c.args.payload.now }) (Err c.in_err-packed-in-Here.field-0.0)) stays.kept stays.same c.in_err-packed-in-Here.ensures.planned told) in
    full_err (IsChanged base new size c.args.number c.args.ways row depth low t high free) c.from_residual-in_err-packed-in-Here.result c.in_err-packed-in-Here.field-0.0 c.from_residual-in_err-packed-in-Here.ensures.1
    (step_here base new size c.args.number c.args.ways c.in-Here.place row depth low t high free under steps (Err c.in_err-packed-in-Here.field-0.0) plans))

pub returns-in_default-clause-changes : goal.returns-in_default-clause-changes
returns-in_default-clause-changes g n c = λ told depth low t high free under.
    (let pages = g.P.Pages in
    let old = c.args.pages.now in
    let base = pages.map old in
    let size = (pages.limits (pages.below old)).page in
    let row : Entry = record { rowid = c.args.rowid; payload = c.args.payload.now } in
    let plain = to_z-of_z w64 c.args.rowid c.ranges.rowid in
    let steps_any = subst (λ (z : ℤ). StepsFrom base size c.args.number z (Ok c.in_ok-step_from.field-0)) plain (c.in_ok-step_from.ensures.found told) in
    let stays = c.in_ok-step_from.ensures.stays in
    let steps = subst (λ (s : Step). StepsFrom base size c.args.number c.args.rowid (Ok s)) c.in-Here.is steps_any in
    let new = pages.map c.leaf_with.new.pages in
    let plans = subst (λ (z : ℤ). PlansLeaf base new size c.args.number c.in-Here.place (record { rowid = z; payload = c.args.payload.now }) (Ok c.in_ok-packed-in-Here.field-0)) plain
    (since pages.below pages.tells pages.limits pages.map old c.step_from.new.pages (λ (m : PageMap) (n : ℕ). PlansLeaf m new n c.args.number c.in-Here.place (record { rowid = to_z w64 (of_z w64 c.args.rowid); payload = c.args.payload.now }) (Ok c.in_ok-packed-in-Here.field-0)) stays.kept stays.same c.in_ok-packed-in-Here.ensures.planned told) in
    let now = subst (λ (answer : Option Packed). PlansLeaf base new size c.args.number c.in-Here.place row (Ok answer)) c.in_default.is plans in
    step_here base new size c.args.number c.args.ways c.in-Here.place row depth low t high free under steps (Ok None) now)

pub returns-in-Here-clause-changes : goal.returns-in-Here-clause-changes
returns-in-Here-clause-changes g n c = λ told depth low t high free under.
    (let pages = g.P.Pages in
    let old = c.args.pages.now in
    let base = pages.map old in
    let size = (pages.limits (pages.below old)).page in
    let row : Entry = record { rowid = c.args.rowid; payload = c.args.payload.now } in
    let plain = to_z-of_z w64 c.args.rowid c.ranges.rowid in
    let steps_any = subst (λ (z : ℤ). StepsFrom base size c.args.number z (Ok c.in_ok-step_from.field-0)) plain (c.in_ok-step_from.ensures.found told) in
    let stays = c.in_ok-step_from.ensures.stays in
    let steps = subst (λ (s : Step). StepsFrom base size c.args.number c.args.rowid (Ok s)) c.in-Here.is steps_any in
    let new = pages.map c.leaf_with.new.pages in
    let plans = subst (λ (z : ℤ). PlansLeaf base new size c.args.number c.in-Here.place (record { rowid = z; payload = c.args.payload.now }) (Ok c.in_ok-packed-in-Here.field-0)) plain
    (since pages.below pages.tells pages.limits pages.map old c.step_from.new.pages (λ (m : PageMap) (n : ℕ). PlansLeaf m new n c.args.number c.in-Here.place (record { rowid = to_z w64 (of_z w64 c.args.rowid); payload = c.args.payload.now }) (Ok c.in_ok-packed-in-Here.field-0)) stays.kept stays.same c.in_ok-packed-in-Here.ensures.planned told) in
    let now = subst (λ (answer : Option Packed). PlansLeaf base new size c.args.number c.in-Here.place row (Ok answer)) c.in-Some.is plans in
    step_here base new size c.args.number c.args.ways c.in-Here.place row depth low t high free under steps (Ok (Some c.in-Some.packed)) now)

pub returns-then-ways-eq0-clause-changes : goal.returns-then-ways-eq0-clause-changes
returns-then-ways-eq0-clause-changes g n c = λ told depth low t high free under.
    (let pages = g.P.Pages in
    let old = c.args.pages.now in
    let base = pages.map old in
    let size = (pages.limits (pages.below old)).page in
    let row : Entry = record { rowid = c.args.rowid; payload = c.args.payload.now } in
    let plain = to_z-of_z w64 c.args.rowid c.ranges.rowid in
    let steps_any = subst (λ (z : ℤ). StepsFrom base size c.args.number z (Ok c.in_ok-step_from.field-0)) plain (c.in_ok-step_from.ensures.found told) in
    let stays = c.in_ok-step_from.ensures.stays in
    let steps = subst (λ (s : Step). StepsFrom base size c.args.number c.args.rowid (Ok s)) c.in-Down.is steps_any in
    absurd (down_deep base size c.args.number c.args.ways c.in-Down.place c.in-Down.child c.args.rowid depth low t high free under steps c.if-ways-eq0.true))

pub returns-in_err-change-clause-changes : goal.returns-in_err-change-clause-changes
returns-in_err-change-clause-changes g n c = λ told depth low t high free under.
    (let pages = g.P.Pages in
    let old = c.args.pages.now in
    let base = pages.map old in
    let size = (pages.limits (pages.below old)).page in
    let row : Entry = record { rowid = c.args.rowid; payload = c.args.payload.now } in
    let plain = to_z-of_z w64 c.args.rowid c.ranges.rowid in
    let steps_any = subst (λ (z : ℤ). StepsFrom base size c.args.number z (Ok c.in_ok-step_from.field-0)) plain (c.in_ok-step_from.ensures.found told) in
    let stays = c.in_ok-step_from.ensures.stays in
    let steps = subst (λ (s : Step). StepsFrom base size c.args.number c.args.rowid (Ok s)) c.in-Down.is steps_any in
    let mid = pages.map c.packed_below.new.pages in
    let fewer = c.args.ways - 1 in
    let more : c.args.ways ≡ suc fewer = omega (arith, c.if-ways-eq0.false) in
    let under_now = subst (λ (k : ℕ). IsUnder base size c.args.number k row.rowid depth low t high free) more under in
    let changes = subst (λ (z : ℤ). Changes base mid size c.in-Down.child fewer (record { rowid = z; payload = c.args.payload.now }) (Err c.in_err-change.field-0.0)) plain
    (since pages.below pages.tells pages.limits pages.map old c.step_from.new.pages (λ (m : PageMap) (k : ℕ). Changes m mid k c.in-Down.child fewer (record { rowid = to_z w64 (of_z w64 c.args.rowid); payload = c.args.payload.now }) (Err c.in_err-change.field-0.0)) stays.kept stays.same c.in_err-change.ensures.changes told) in
    full_err (IsChanged base mid size c.args.number c.args.ways row depth low t high free) c.from_residual-in_err-change.result c.in_err-change.field-0.0 c.from_residual-in_err-change.ensures.1
    (down base mid size c.args.number fewer c.in-Down.place c.in-Down.child c.args.rowid (with_row row) IsThereAt IsNotAt depth low t high free under_now steps (Err c.in_err-change.field-0.0) changes))

pub returns-in-Same-clause-changes : goal.returns-in-Same-clause-changes
returns-in-Same-clause-changes g n c = λ told depth low t high free under.
    (let pages = g.P.Pages in
    let old = c.args.pages.now in
    let base = pages.map old in
    let size = (pages.limits (pages.below old)).page in
    let row : Entry = record { rowid = c.args.rowid; payload = c.args.payload.now } in
    let plain = to_z-of_z w64 c.args.rowid c.ranges.rowid in
    let steps_any = subst (λ (z : ℤ). StepsFrom base size c.args.number z (Ok c.in_ok-step_from.field-0)) plain (c.in_ok-step_from.ensures.found told) in
    let stays = c.in_ok-step_from.ensures.stays in
    let steps = subst (λ (s : Step). StepsFrom base size c.args.number c.args.rowid (Ok s)) c.in-Down.is steps_any in
    let mid = pages.map c.packed_below.new.pages in
    let fewer = c.args.ways - 1 in
    let more : c.args.ways ≡ suc fewer = omega (arith, c.if-ways-eq0.false) in
    let under_now = subst (λ (k : ℕ). IsUnder base size c.args.number k row.rowid depth low t high free) more under in
    let changes = subst (λ (z : ℤ). Changes base mid size c.in-Down.child fewer (record { rowid = z; payload = c.args.payload.now }) (Ok c.in_ok-change.change)) plain
    (since pages.below pages.tells pages.limits pages.map old c.step_from.new.pages (λ (m : PageMap) (k : ℕ). Changes m mid k c.in-Down.child fewer (record { rowid = to_z w64 (of_z w64 c.args.rowid); payload = c.args.payload.now }) (Ok c.in_ok-change.change)) stays.kept stays.same c.in_ok-change.ensures.changes told) in
    let now = subst (λ (change : Change). Changes base mid size c.in-Down.child fewer row (Ok change)) c.in-Same.is changes in
    changed_ways base mid size c.args.number (suc fewer) c.args.ways row depth low t high free Same (sym more)
    (down base mid size c.args.number fewer c.in-Down.place c.in-Down.child c.args.rowid (with_row row) IsThereAt IsNotAt depth low t high free under_now steps (Ok Same) now not_same))

pub returns-in-Still-clause-changes : goal.returns-in-Still-clause-changes
returns-in-Still-clause-changes g n c = λ told depth low t high free under.
    (let pages = g.P.Pages in
    let old = c.args.pages.now in
    let base = pages.map old in
    let size = (pages.limits (pages.below old)).page in
    let row : Entry = record { rowid = c.args.rowid; payload = c.args.payload.now } in
    let plain = to_z-of_z w64 c.args.rowid c.ranges.rowid in
    let steps_any = subst (λ (z : ℤ). StepsFrom base size c.args.number z (Ok c.in_ok-step_from.field-0)) plain (c.in_ok-step_from.ensures.found told) in
    let stays = c.in_ok-step_from.ensures.stays in
    let steps = subst (λ (s : Step). StepsFrom base size c.args.number c.args.rowid (Ok s)) c.in-Down.is steps_any in
    let mid = pages.map c.packed_below.new.pages in
    let fewer = c.args.ways - 1 in
    let more : c.args.ways ≡ suc fewer = omega (arith, c.if-ways-eq0.false) in
    let under_now = subst (λ (k : ℕ). IsUnder base size c.args.number k row.rowid depth low t high free) more under in
    let changes = subst (λ (z : ℤ). Changes base mid size c.in-Down.child fewer (record { rowid = z; payload = c.args.payload.now }) (Ok c.in_ok-change.change)) plain
    (since pages.below pages.tells pages.limits pages.map old c.step_from.new.pages (λ (m : PageMap) (k : ℕ). Changes m mid k c.in-Down.child fewer (record { rowid = to_z w64 (of_z w64 c.args.rowid); payload = c.args.payload.now }) (Ok c.in_ok-change.change)) stays.kept stays.same c.in_ok-change.ensures.changes told) in
    let now = subst (λ (change : Change). Changes base mid size c.in-Down.child fewer row (Ok change)) c.in-Still.is changes in
    changed_ways base mid size c.args.number (suc fewer) c.args.ways row depth low t high free Still (sym more)
    (down base mid size c.args.number fewer c.in-Down.place c.in-Down.child c.args.rowid (with_row row) IsThereAt IsNotAt depth low t high free under_now steps (Ok Still) now not_still))

pub returns-in-Spread-clause-changes : goal.returns-in-Spread-clause-changes
returns-in-Spread-clause-changes g n c = λ told depth low t high free under.
    (let pages = g.P.Pages in
    let old = c.args.pages.now in
    let base = pages.map old in
    let size = (pages.limits (pages.below old)).page in
    let row : Entry = record { rowid = c.args.rowid; payload = c.args.payload.now } in
    let plain = to_z-of_z w64 c.args.rowid c.ranges.rowid in
    let steps_any = subst (λ (z : ℤ). StepsFrom base size c.args.number z (Ok c.in_ok-step_from.field-0)) plain (c.in_ok-step_from.ensures.found told) in
    let stays = c.in_ok-step_from.ensures.stays in
    let steps = subst (λ (s : Step). StepsFrom base size c.args.number c.args.rowid (Ok s)) c.in-Down.is steps_any in
    let mid = pages.map c.packed_below.new.pages in
    let fewer = c.args.ways - 1 in
    let more : c.args.ways ≡ suc fewer = omega (arith, c.if-ways-eq0.false) in
    let under_now = subst (λ (k : ℕ). IsUnder base size c.args.number k row.rowid depth low t high free) more under in
    let changes = subst (λ (z : ℤ). Changes base mid size c.in-Down.child fewer (record { rowid = z; payload = c.args.payload.now }) (Ok c.in_ok-change.change)) plain
    (since pages.below pages.tells pages.limits pages.map old c.step_from.new.pages (λ (m : PageMap) (k : ℕ). Changes m mid k c.in-Down.child fewer (record { rowid = to_z w64 (of_z w64 c.args.rowid); payload = c.args.payload.now }) (Ok c.in_ok-change.change)) stays.kept stays.same c.in_ok-change.ensures.changes told) in
    let new = pages.map c.widened.new.pages in
    let now = subst (λ (change : Change). Changes base mid size c.in-Down.child fewer row (Ok change)) c.in-Spread.is changes in
    let kept = c.in_ok-change.ensures.kept ∙ stays.kept in
    let told_mid = subst (λ k. IsTrue (pages.tells k)) (sym kept) told in
    let widens = subst (λ k. Widens mid new (pages.limits k).page c.args.number c.in-Down.place c.in-Down.child c.in-Spread.packed c.in-Spread.deep c.widened.result) kept (c.widened.ensures.widened told_mid) in
    changed_or_ways base new size c.args.number (suc fewer) c.args.ways row depth low t high free c.widened.result (sym more)
    (down_spread base mid size c.args.number fewer c.in-Down.place c.in-Down.child c.args.rowid (with_row row) IsThereAt IsNotAt new depth low t high free under_now steps c.in-Spread.packed c.in-Spread.deep now c.widened.result widens))
