use Rattle.std.proofs.Common.{rules, ◌≡◌, ◌∙◌, SFits, w64, ap}
use Rattle.std.proofs.lemmas.Int.{to_z-of_z}
use Rattle.catalog.specs.Rows.{in_record}
use Rattle.row_change.proofs.OwnPlaces.{null_set}
use Rattle.row_change.proofs.Records.{row_kept, word_fits, written_so}
use Rattle.row_change.proofs.inserting.record_for.Goals as goal

pub returns-clause-written : goal.returns-clause-written
returns-clause-written c = λ holds.
    (let row = c.args.row.now in
    let values = row.values.items in
    let fits : SFits w64 row.rowid = search rules in
    let null : c.deref.result.now ≡ in_record c.args.own values = c.deref.ensures.value ∙ (c.put_own.ensures ∙ null_set c.args.own values) in
    written_so c.args.own row.rowid _ values c.deref.result.now c.in_ok-payload.payload.items (to_z-of_z w64 row.rowid fits) null c.in_ok-payload.ensures.is c.in_ok-payload.ensures.exact
    c.in_ok-payload.ensures.fit (word_fits row.rowid fits) holds)

pub returns-clause-kept : goal.returns-clause-kept
returns-clause-kept c = λ holds.
    (let row = c.args.row.now in
    let values = row.values.items in
    let fits : SFits w64 row.rowid = search rules in
    ap (λ vs. (row.rowid, vs)) (row_kept c.args.own row.rowid _ values c.put_own.new.values.items c.put_own-2.new.values.items (to_z-of_z w64 row.rowid fits) c.put_own.ensures c.put_own-2.ensures holds))
