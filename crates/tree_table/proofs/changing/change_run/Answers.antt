use Rattle.std.proofs.Common.{ℤ, w64, refl, Bool, take, IsTrue, Ok, Err, inl, sym, subst}
use Rattle.std.proofs.lemmas.Int.{to_z-of_z}
use Rattle.tree_table.specs.Calls.{IsTreeEdited}
use Rattle.tree_table.specs.Growing.{IsThereAt}
use Rattle.tree_table.specs.Lowering.{SettlesRoot}
use Rattle.tree_table.specs.Rows.{with_changes}
use Rattle.std.specs.List.{AllByRecursion}
use Rattle.tree_table.specs.Runs.{EditsRun, IsNoRun, Replaces}
use Rattle.tree_table.proofs.Exits.{full_err}
use Rattle.tree_table.proofs.Settled.{becomes_then}
use Rattle.tree_table.proofs.Replaced.{found_some, changes_some}
use Rattle.tree_table.proofs.changing.change_run.Goals as goal

pub returns-in_err-count-clause-changed : goal.returns-in_err-count-clause-changed
returns-in_err-count-clause-changed g c = λ told rows used free is.
    (let pages = g.P.Pages in
    let old = pages.map c.args.pages.now in
    let size = (pages.limits (pages.below c.args.pages.now)).page in
    let root = c.args.root in
    let rowid = c.args.rowid in
    let changes = c.args.changes.now in
    let plain = to_z-of_z w64 c.args.rowid c.ranges.rowid in
    let mid = pages.map c.edit_run.new.pages in
    full_err _ c.from_residual.result c.in_err-count.field-0.0 c.from_residual.ensures.1
    (subst (λ (z : ℤ). EditsRun old mid size root z changes (Err c.in_err-count.field-0.0)) plain (c.in_err-count.ensures.edited told) rows used free is))

pub returns-then-not-there-clause-changed : goal.returns-then-not-there-clause-changed
returns-then-not-there-clause-changed g c = λ told rows used free is.
    (let pages = g.P.Pages in
    let old = pages.map c.args.pages.now in
    let size = (pages.limits (pages.below c.args.pages.now)).page in
    let root = c.args.root in
    let rowid = c.args.rowid in
    let changes = c.args.changes.now in
    let plain = to_z-of_z w64 c.args.rowid c.ranges.rowid in
    let mid = pages.map c.edit_run.new.pages in
    let count = c.in_ok-count.count in
    let edited = subst (λ (z : ℤ). EditsRun old mid size root z changes (Ok (count, c.in_ok-count.there))) plain (c.in_ok-count.ensures.edited told) rows used free is in
    let now = subst (λ (b : Bool). IsTreeEdited (IsNoRun count) IsThereAt old mid size root rowid (with_changes (take count changes)) rows used free b) c.if-not-there.true edited in
    now)

pub returns-in_err-settle-clause-changed : goal.returns-in_err-settle-clause-changed
returns-in_err-settle-clause-changed g c = λ told rows used free is.
    (let pages = g.P.Pages in
    let old = pages.map c.args.pages.now in
    let size = (pages.limits (pages.below c.args.pages.now)).page in
    let root = c.args.root in
    let rowid = c.args.rowid in
    let changes = c.args.changes.now in
    let plain = to_z-of_z w64 c.args.rowid c.ranges.rowid in
    let mid = pages.map c.edit_run.new.pages in
    let count = c.in_ok-count.count in
    let edited = subst (λ (z : ℤ). EditsRun old mid size root z changes (Ok (count, c.in_ok-count.there))) plain (c.in_ok-count.ensures.edited told) rows used free is in
    let now = subst (λ (b : Bool). IsTreeEdited (IsNoRun count) IsThereAt old mid size root rowid (with_changes (take count changes)) rows used free b) c.if-not-there.false edited in
    let becomes = now.1 in
    let rest = with_changes (take count changes) rows in
    let told_mid = subst (λ k. IsTrue (pages.tells k)) (sym c.in_ok-count.ensures.kept) told in
    let new = pages.map c.settle.new.pages in
    let settles = subst (λ k. SettlesRoot mid new (pages.limits k).page root (Err c.in_err-settle.field-0.0)) c.in_ok-count.ensures.kept (c.in_err-settle.ensures.settled told_mid) rest becomes.now_used becomes.now_free becomes.stands in
    full_err _ c.from_residual-in_err-settle.result c.in_err-settle.field-0.0 c.from_residual-in_err-settle.ensures.1 (inl settles))

pub returns-clause-changed : goal.returns-clause-changed
returns-clause-changed g c = λ told rows used free is.
    (let pages = g.P.Pages in
    let old = pages.map c.args.pages.now in
    let size = (pages.limits (pages.below c.args.pages.now)).page in
    let root = c.args.root in
    let rowid = c.args.rowid in
    let changes = c.args.changes.now in
    let plain = to_z-of_z w64 c.args.rowid c.ranges.rowid in
    let mid = pages.map c.edit_run.new.pages in
    let count = c.in_ok-count.count in
    let edited = subst (λ (z : ℤ). EditsRun old mid size root z changes (Ok (count, c.in_ok-count.there))) plain (c.in_ok-count.ensures.edited told) rows used free is in
    let now = subst (λ (b : Bool). IsTreeEdited (IsNoRun count) IsThereAt old mid size root rowid (with_changes (take count changes)) rows used free b) c.if-not-there.false edited in
    let becomes = now.1 in
    let rest = with_changes (take count changes) rows in
    let told_mid = subst (λ k. IsTrue (pages.tells k)) (sym c.in_ok-count.ensures.kept) told in
    let new = pages.map c.settle.new.pages in
    let settles = subst (λ k. SettlesRoot mid new (pages.limits k).page root (Ok tt)) c.in_ok-count.ensures.kept (c.in_ok-settle.ensures.settled told_mid) rest becomes.now_used becomes.now_free becomes.stands in
    (now.0, (becomes_then old mid new size root rest rest used free becomes settles.0, settles.1)))

pub returns-then-not-removes-clause-changed : goal.returns-then-not-removes-clause-changed
returns-then-not-removes-clause-changed g c = λ told rows used free is.
    (let pages = g.P.Pages in
    let old = pages.map c.args.pages.now in
    let size = (pages.limits (pages.below c.args.pages.now)).page in
    let root = c.args.root in
    let rowid = c.args.rowid in
    let changes = c.args.changes.now in
    let plain = to_z-of_z w64 c.args.rowid c.ranges.rowid in
    let mid = pages.map c.edit_run.new.pages in
    let count = c.in_ok-count.count in
    let edited = subst (λ (z : ℤ). EditsRun old mid size root z changes (Ok (count, c.in_ok-count.there))) plain (c.in_ok-count.ensures.edited told) rows used free is in
    let now = subst (λ (b : Bool). IsTreeEdited (IsNoRun count) IsThereAt old mid size root rowid (with_changes (take count changes)) rows used free b) c.if-not-there.false edited in
    let kept = subst (λ made. AllByRecursion Replaces made) c.split_at.ensures.front (c.if-not-removes.ensures refl) in
    (now.0, (now.1, λ none. absurd (changes_some (take count changes) rows kept (found_some rowid rows now.0) none))))
