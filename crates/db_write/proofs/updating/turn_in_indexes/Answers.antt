use Rattle.std.proofs.Common.{rules, ◌≡◌, ◌∙◌, SFits, ap, sym, to_z, w64}
use Rattle.std.proofs.lemmas.Int.{to_z-of_z}
use Rattle.index_entries.specs.Keeping.{row_in}
use Rattle.db_write.proofs.OneRows.{replaced_moves}
use Rattle.db_write.proofs.updating.turn_in_indexes.Goals as goal

pub returns-then-come-gone-clause-moved : goal.returns-then-come-gone-clause-moved
returns-then-come-gone-clause-moved g c = λ told.
    (let pages = g.P.Pages in
    let old = pages.map c.args.pages.now in
    let new = pages.map c.replace_row_in_indexes.new.pages in
    let size = (pages.limits (pages.below c.args.pages.now)).page in
    let gone = c.args.gone.now in
    let come = c.args.come.now in
    let gone_fits : SFits w64 gone.rowid = search rules in
    let come_fits : SFits w64 come.rowid = search rules in
    let same : gone.rowid ≡ come.rowid = sym (to_z-of_z w64 gone.rowid gone_fits) ∙ (ap (to_z w64) (sym c.if-come-gone.true) ∙ to_z-of_z w64 come.rowid come_fits) in
    replaced_moves old new size c.args.indexes.now (row_in gone) (row_in come) c.replace_row_in_indexes.result same (c.replace_row_in_indexes.ensures.replaced told))
