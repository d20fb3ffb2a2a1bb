use Rattle.std.proofs.Common.{rules, inl, ◌≡◌, ◌∙◌, IsTrue, true, ℕ, List, sym, subst, refl}
use Rattle.disk.proofs.Moments.{elapses_refl}
use Rattle.engine.specs.Creating.{IsEmptyDatabase, is_blank_content}
use Rattle.engine.proofs.EmptyOpening.{clash}
use Rattle.engine.proofs.NewFiles.{has_created}
use Rattle.engine.proofs.NewFileCrashes.{nothing_becomes}
use Rattle.engine.proofs.CountedCalls.{blank_refused, create_refused}
use Rattle.engine.proofs.creating.create.Goals as goal

pub returns-then-not-is_page_size-clause-crash : goal.returns-then-not-is_page_size-clause-crash
returns-then-not-is_page_size-clause-crash g c = λ told told_log synced blank. nothing_becomes _ _ _ _ _ synced blank refl (elapses_refl _)

pub returns-in_err-is_blank-clause-crash : goal.returns-in_err-is_blank-clause-crash
returns-in_err-is_blank-clause-crash g c = λ told told_log synced blank. nothing_becomes _ _ _ _ _ synced blank (c.is_blank.ensures.kept.same told) (elapses_refl _)

pub returns-in_err-page-clause-crash : goal.returns-in_err-page-clause-crash
returns-in_err-page-clause-crash g c = λ told told_log synced blank. nothing_becomes _ _ _ _ _ synced blank (c.is_blank.ensures.kept.same told) (elapses_refl _)

pub returns-in_err-is_blank-clause-refused : goal.returns-in_err-is_blank-clause-refused
returns-in_err-is_blank-clause-refused g c =
    let io = c.in_err-is_blank.ensures.refused in
    blank_refused _ _ _ c.from_residual.result c.in_err-is_blank.field-0.0 c.from_residual.ensures.1 io (inl (c.in_err-is_blank.ensures.counted.io io))

pub returns-clause-refused : goal.returns-clause-refused
returns-clause-refused g c = create_refused _ _ c.put_empty.result _ _ _ _ _ c.is_blank.ensures.counted.counts c.put_empty.ensures.refused c.put_empty.ensures.called

pub returns-clause-made : goal.returns-clause-made
returns-clause-made g c =
    let blank : IsTrue (g.D.Disk.tells c.args.db.now) → is_blank_content (g.D.Disk.file c.args.db.now).content ≡ true = search rules in
    let page = subst (λ (bytes : List ℕ). IsEmptyDatabase c.args.page_size bytes) (sym c.deref.ensures.value) c.in_ok-page.ensures.made in
    has_created g.D.Disk.tells g.D.Disk.file g.D.Disk.failures _ _ c.put_empty.result _ _ _ _ _ c.is_blank.ensures.kept blank page c.in_ok-is_blank.ensures.counted.none_failed
    c.put_empty.ensures.made c.put_empty.ensures.emptied c.put_empty.ensures.none_failed

pub returns-clause-untouched : goal.returns-clause-untouched
returns-clause-untouched g c = λ told other.
    let blank : is_blank_content (g.D.Disk.file c.args.db.now).content ≡ true = search rules in
    clash (sym blank ∙ other)
