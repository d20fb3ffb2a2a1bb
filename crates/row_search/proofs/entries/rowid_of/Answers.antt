use Rattle.std.proofs.Common.{rules, ◌≡◌, ap, ◌∙◌, Some, to_z, of_z, SFits, w64}
use Rattle.std.proofs.lemmas.Int.{to_z-of_z}
use Rattle.row_search.proofs.Ends.{rowid_read}
use Rattle.row_search.proofs.entries.rowid_of.Goals as goal

pub returns-in-Int : goal.returns-in-Int
returns-in-Int c = λ ends.
    (let fits : SFits w64 c.in-Int.rowid = search rules in
    let same : to_z w64 (of_z w64 c.in-Int.rowid) ≡ c.in-Int.rowid = to_z-of_z w64 c.in-Int.rowid fits in
    ap Some (same ∙ rowid_read c.args.entry.now ends _ c.in-Int.rowid (search rules) c.in-Int.ensures))
