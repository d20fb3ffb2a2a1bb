use Rattle.std.proofs.Common.{ℕ}
use Rattle.index_entries.specs.Alone.{AddsAlone}
use Rattle.index_entries.specs.Keeping.{columns_in, row_in}
use Rattle.index_entries.proofs.AloneReplacing.{looked_up, not_taken, replaced_alone}
use Rattle.index_entries.proofs.Looping.{since}
use Rattle.index_entries.proofs.Replacing.{keys_differ, keys_same}
use Rattle.index_entries.proofs.alone.replace_alone.Goals as goal

-- the entry stays as it is
pub returns-then-has_same_key-clause-replaced : goal.returns-then-has_same_key-clause-replaced
returns-then-has_same_key-clause-replaced g c = λ told.
    (let pages = g.P.Pages in
    let old = c.args.pages.now in
    let columns = columns_in c.args.columns.now in
    let gone = row_in c.args.gone.now in
    let come = row_in c.args.come.now in
    let same = keys_same c.args.columns.now c.deref.result.now c.deref-2.result.now gone.1 come.1 c.deref.ensures.value c.deref-2.ensures.value c.has_same_key.result c.has_same_key.ensures c.if-has_same_key.true in
    looked_up (pages.map old) (pages.map c.is_alone.new.pages) (pages.limits (pages.below old)).page c.args.root columns gone come same c.is_alone.result (c.is_alone.ensures.found told) c.is_alone.ensures.stays.same)

-- the old entry isn't taken out
pub returns-in_err-take_entry-clause-replaced : goal.returns-in_err-take_entry-clause-replaced
returns-in_err-take_entry-clause-replaced g c = λ told.
    (let pages = g.P.Pages in
    let old = c.args.pages.now in
    not_taken (pages.map old) (pages.map c.take_entry.new.pages) (pages.limits (pages.below old)).page c.args.root (columns_in c.args.columns.now) (row_in c.args.gone.now) (row_in c.args.come.now)
    c.in_err-take_entry.field-0.0 c.from_residual-in_err-take_entry.result c.from_residual-in_err-take_entry.ensures.1 (c.in_err-take_entry.ensures.taken told))

-- it is out
pub returns-clause-replaced : goal.returns-clause-replaced
returns-clause-replaced g c = λ told.
    (let pages = g.P.Pages in
    let old = c.args.pages.now in
    let mid = c.take_entry.new.pages in
    let new = pages.map c.put_alone.new.pages in
    let columns = columns_in c.args.columns.now in
    let come = row_in c.args.come.now in
    let adds = since pages.below pages.tells pages.limits old mid (λ (n : ℕ). AddsAlone (pages.map mid) new n c.args.root columns come c.put_alone.result) c.in_ok-take_entry.ensures.kept c.put_alone.ensures.added told in
    replaced_alone (pages.map old) (pages.map mid) new (pages.limits (pages.below old)).page c.args.root columns (row_in c.args.gone.now) come c.put_alone.result (c.in_ok-take_entry.ensures.taken told) adds)

-- where the keys are the same it doesn't come so far
pub returns-in_err-take_entry-clause-idle : goal.returns-in_err-take_entry-clause-idle
returns-in_err-take_entry-clause-idle g c = λ same.
    absurd (keys_differ c.args.columns.now c.deref.result.now c.deref-2.result.now _ _ c.deref.ensures.value c.deref-2.ensures.value c.has_same_key.result c.has_same_key.ensures c.if-has_same_key.false same)

pub returns-clause-idle : goal.returns-clause-idle
returns-clause-idle g c = λ same.
    absurd (keys_differ c.args.columns.now c.deref.result.now c.deref-2.result.now _ _ c.deref.ensures.value c.deref-2.ensures.value c.has_same_key.result c.has_same_key.ensures c.if-has_same_key.false same)
