use Rattle.std.proofs.Common.{◌≤◌, ◌∙◌, sym, subst, arith, rules, ℕ}
use Rattle.std.specs.Prelude.{⊤, Ok}
use Rattle.wal.specs.declared.log.Snapshot.{Snapshot}
use Rattle.wal.specs.LogState.{state_of, seen_by}
use Rattle.wal.specs.Laws.{IsNotAmong}
use Rattle.pager.specs.Limits.{pages_of}
use Rattle.pages.specs.Map.{page_at}
use Rattle.pager.specs.Sights.{map_over, under_reader}
use Rattle.pager.specs.Views.{IsViewPage, ViewHas, changes_of, view_at}
use Rattle.pager.specs.Writers.{IsAt, snapshot_of}
use Rattle.pager.proofs.WriterSights.{changed_page, count_over, shown_page, unchanged_page, writes_told}
use Rattle.pager.proofs.sights.fetch.Goals as goal
use Rattle.pager.proofs.sights.fetch.Goals.{then-number-eq0-via-then-number-eq0, then-number-eq0-via-else-number-eq0+then-number-size}

pub returns-then-number-eq0-clause-there : goal.returns-then-number-eq0-clause-there
returns-then-number-eq0-clause-there g c a w b told there =
    let count = count_over (under_reader c.args.log.now (snapshot_of c.args.writer.now) a b) c.args.writer.now in
    elim c.then-number-eq0.branch [
      | then-number-eq0-via-then-number-eq0 w ↦ absurd (omega (arith, w.if-number-eq0.true, there.has.first))
      | then-number-eq0-via-else-number-eq0+then-number-size w ↦ absurd (omega (arith, w.if-number-size.true, w.size.ensures, there.has.last, count))
    ]

pub returns-in-Some-clause-bytes : goal.returns-in-Some-clause-bytes
returns-in-Some-clause-bytes g c a w b told =
    let writes = writes_told c.args.log.now c.args.writer.now a w b told in
    let at : IsAt (changes_of c.args.writer.now) c.args.number c.in-Some.index = search rules in
    let first : 1 ≤ c.args.number = search rules in
    let last : c.args.number ≤ pages_of c.args.writer.now = search rules in
    changed_page (under_reader c.args.log.now (snapshot_of c.args.writer.now) a b) c.args.writer.now c.args.number c.in-Some.index writes.sound.consistent first last at

pub returns-in_ok-fill-in-None-clause-bytes : goal.returns-in_ok-fill-in-None-clause-bytes
returns-in_ok-fill-in-None-clause-bytes g c a w b told =
    let writes = writes_told c.args.log.now c.args.writer.now a w b told in
    let none : IsNotAmong (changes_of c.args.writer.now) c.args.number = c.in-None.ensures.none writes.sound.consistent in
    let until = subst (λ (s : Snapshot). seen_by s ≤ (state_of c.args.log.now).frames) (sym c.snapshot.ensures) writes.until in
    let first : 1 ≤ c.args.number = search rules in
    let last : c.args.number ≤ pages_of c.args.writer.now = search rules in
    let read = subst (λ (s : Snapshot). ViewHas (view_at c.args.log.now s) c.args.number c.fill.new.buffer.items) c.snapshot.ensures (c.in_ok-fill-in-None.ensures.read writes.tells until) in
    unchanged_page c.args.log.now c.args.writer.now a b c.args.number writes none {T = ⊤} (Ok tt) c.fill.new.buffer.items first last read

pub returns-in_err-fill-in-None-clause-there : goal.returns-in_err-fill-in-None-clause-there
returns-in_err-fill-in-None-clause-there g c a w b told there =
    let writes = writes_told c.args.log.now c.args.writer.now a w b told in
    let none : IsNotAmong (changes_of c.args.writer.now) c.args.number = c.in-None.ensures.none writes.sound.consistent in
    let until = subst (λ (s : Snapshot). seen_by s ≤ (state_of c.args.log.now).frames) (sym c.snapshot.ensures) writes.until in
    let shown = shown_page c.args.log.now c.args.writer.now a b c.args.number writes none there in
    let bytes = page_at (map_over (under_reader c.args.log.now (snapshot_of c.args.writer.now) a b) c.args.writer.now) c.args.number in
    let why = c.in_err-fill-in-None.ensures.there bytes writes.tells until (subst (λ (s : Snapshot). IsViewPage (view_at c.args.log.now s) c.args.number bytes) (sym c.snapshot.ensures) shown) in
    search rules
