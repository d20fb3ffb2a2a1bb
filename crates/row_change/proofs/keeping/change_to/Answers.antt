use Rattle.std.proofs.Common.{rules, ◌≡◌, ◌∙◌, SFits, w64, ap, map, refl, subst, sym, to_z, of_z, Ok}
use Rattle.std.proofs.lemmas.Int.{to_z-of_z}
use Rattle.std.proofs.lemmas.List.{nil_from_length}
use Rattle.sqlval.specs.Fields.{value_of}
use Rattle.record.specs.Writing.{AreStorable}
use Rattle.catalog.specs.Listed.{as_column, own_column}
use Rattle.catalog.specs.Rows.{in_record}
use Rattle.row_change.specs.Keeping.{AreStoredAsGiven}
use Rattle.row_change.specs.Setting.{rowid_left}
use Rattle.row_change.proofs.KeptRows.{change_made, hidden_storable}
use Rattle.row_change.proofs.Records.{word_fits}
use Rattle.row_change.proofs.keeping.change_to.Goals as goal

pub record_of-requires : goal.record_of-requires
record_of-requires c =
    let values = map value_of c.args.fields.now.items in
    let given : AreStoredAsGiven (map as_column c.as_slice.result.now) (map value_of c.deref.result.now) = c.if-not-store_as_given.ensures refl in
    let here = subst (λ fields. AreStoredAsGiven (map as_column c.as_slice.result.now) (map value_of fields)) c.deref.ensures given in
    subst AreStorable (sym (ap (map value_of) c.deref-2.ensures ∙ c.hide_own.ensures)) (hidden_storable c.own_column-own.result values here.fit)

pub returns : goal.returns
returns c =
    let table = c.args.table.now in
    let rowid = c.args.rowid in
    let values = map value_of c.args.fields.now.items in
    let fits : SFits w64 rowid = search rules in
    let word : to_z w64 (of_z w64 rowid) ≡ rowid = to_z-of_z w64 rowid fits in
    let own = c.own_column-own.ensures in
    let given : AreStoredAsGiven (map as_column c.as_slice.result.now) (map value_of c.deref.result.now) = c.if-not-store_as_given.ensures refl in
    let here = subst (λ fields. AreStoredAsGiven (map as_column c.as_slice.result.now) (map value_of fields)) c.deref.ensures given in
    let stored = subst (λ columns. AreStoredAsGiven (map as_column columns) values) c.as_slice.ensures here in
    let has : rowid_left c.own_column-own.result (to_z w64 (of_z w64 rowid)) (map value_of c.deref-else-not-store_as_given.result.now) ≡ Ok (to_z w64 (of_z w64 rowid)) = c.if-not-has_own.ensures refl in
    let left = subst (λ n. rowid_left (own_column table) n values ≡ Ok n) word
    (subst (λ o. rowid_left o (to_z w64 (of_z w64 rowid)) values ≡ Ok (to_z w64 (of_z w64 rowid))) own
    (subst (λ fields. rowid_left c.own_column-own.result (to_z w64 (of_z w64 rowid)) (map value_of fields) ≡ Ok (to_z w64 (of_z w64 rowid))) c.deref-else-not-store_as_given.ensures has)) in
    change_made table rowid (to_z w64 (of_z w64 rowid)) values (map value_of c.deref-2.result.now) c.in_ok-record_of.field-0 word
    (ap (map value_of) c.deref-2.ensures ∙ (c.hide_own.ensures ∙ ap (λ o. in_record o values) own))
    c.in_ok-record_of.ensures.is c.in_ok-record_of.ensures.exact c.in_ok-record_of.ensures.fit (word_fits rowid fits) stored (nil_from_length table.checks c.requires) left
