use Rattle.std.proofs.Common.{rules, ◌≡◌, ◌≤◌, ◌∙◌, ℕ, Vec, Global, List, length, map, Bool, true, false, IsTrue, refl, sym, ap, subst, Ok, Err}
use Rattle.std.proofs.lemmas.List.{nil_from_length}
use Rattle.pages.specs.Map.{PageMap}
use Rattle.tree_index.specs.Entries.{key_in}
use Rattle.index_entries.specs.Alone.{has_null}
use Rattle.index_entries.specs.Entries.{collations, indexed}
use Rattle.index_entries.specs.Keeping.{columns_in, row_in}
use Rattle.index_entries.specs.Others.{FindsNext}
use Rattle.index_entries.proofs.FirstEntries.{Tells, as_firsts, as_told, first_tells, first_there, none_first, second_tells, second_there}
use Rattle.index_entries.proofs.Keys.{null_listed}
use Rattle.index_entries.proofs.Lookings.{another_first, as_meant, itself_first, key_listed, not_looked, null_alone}
use Rattle.index_entries.proofs.Turning.{indexed_long, same_collations}
use Rattle.index_entries.proofs.others.is_alone.Goals as goal

abbrev items_of : Vec ℕ Global → List ℕ
items_of bytes = bytes.items

pub returns-then-has_null-clause-found : goal.returns-then-has_null-clause-found
returns-then-has_null-clause-found g c = λ told.
    (let pages = g.P.Pages in
    let old = c.args.pages.now in
    let m = pages.map old in
    let size = (pages.limits (pages.below old)).page in
    let columns = columns_in c.args.columns.now in
    let row = row_in c.args.row.now in
    let some : has_null columns row.1 ≡ true = sym (c.has_null.ensures ∙ null_listed c.args.columns.now c.deref.result.now ∙ ap (has_null columns) c.deref.ensures.value) ∙ c.if-has_null.true in
    null_alone m size c.args.root columns row some)

-- the first entries aren't read
pub returns-in_err-records-clause-found : goal.returns-in_err-records-clause-found
returns-in_err-records-clause-found g c = λ told.
    (let pages = g.P.Pages in
    let old = c.args.pages.now in
    let m = pages.map old in
    let size = (pages.limits (pages.below old)).page in
    let columns = columns_in c.args.columns.now in
    let row = row_in c.args.row.now in
    let x = indexed columns row in
    let cs = collations columns in
    let key = key_in cs x in
    let under = c.requires ∙ same_collations c.args.columns.now in
    let from = key_listed c.args.columns.now row c.deref-2.result.now c.in_ok-from.from.items c.deref-2.ensures.value c.in_ok-from.ensures.key in
    let fault = c.in_err-records.field-0.0 in
    not_looked m size c.args.root columns row key false x fault c.from_residual-in_err-records.result c.from_residual-in_err-records.ensures.1
    (as_meant m size c.args.root c.args.under.now cs c.in_ok-from.from.items key false x x under from refl (Err fault) (c.in_err-records.ensures.found told)))

-- there is none
pub returns-then-is_empty-clause-found : goal.returns-then-is_empty-clause-found
returns-then-is_empty-clause-found g c = λ told.
    (let pages = g.P.Pages in
    let old = c.args.pages.now in
    let m = pages.map old in
    let size = (pages.limits (pages.below old)).page in
    let columns = columns_in c.args.columns.now in
    let row = row_in c.args.row.now in
    let x = indexed columns row in
    let cs = collations columns in
    let key = key_in cs x in
    let under = c.requires ∙ same_collations c.args.columns.now in
    let from = key_listed c.args.columns.now row c.deref-2.result.now c.in_ok-from.from.items c.deref-2.ensures.value c.in_ok-from.ensures.key in
    let none : has_null columns row.1 ≡ false = sym (c.has_null.ensures ∙ null_listed c.args.columns.now c.deref.result.now ∙ ap (has_null columns) c.deref.ensures.value) ∙ c.if-has_null.false in
    let records = map items_of c.in_ok-records.records.items in
    let firsts = as_firsts m size c.args.root c.args.under.now cs c.in_ok-from.from.items key false records under from (c.in_ok-records.ensures.found told) in
    let empty : length c.in_ok-records.records.items ≡ 0 = search rules in
    another_first m size c.args.root columns row none (none_first m size c.args.root cs key false records (ap (map items_of) (nil_from_length c.in_ok-records.records.items empty)) firsts x))

-- the first isn't
pub returns-in_err-is_entry-clause-found : goal.returns-in_err-is_entry-clause-found
returns-in_err-is_entry-clause-found g c = λ told.
    (let pages = g.P.Pages in
    let old = c.args.pages.now in
    let m = pages.map old in
    let size = (pages.limits (pages.below old)).page in
    let columns = columns_in c.args.columns.now in
    let row = row_in c.args.row.now in
    let x = indexed columns row in
    let cs = collations columns in
    let key = key_in cs x in
    let under = c.requires ∙ same_collations c.args.columns.now in
    let from = key_listed c.args.columns.now row c.deref-2.result.now c.in_ok-from.from.items c.deref-2.ensures.value c.in_ok-from.ensures.key in
    let records = map items_of c.in_ok-records.records.items in
    let firsts = as_firsts m size c.args.root c.args.under.now cs c.in_ok-from.from.items key false records under from (c.in_ok-records.ensures.found told) in
    let some : 1 ≤ length c.in_ok-records.records.items = search rules in
    let there = first_there items_of c.in_ok-records.records.items c.index.result.now some (search rules) in
    let one = c.index.result.now.items in
    let own = c.deref-3.ensures.value ∙ c.in_ok-entry.ensures.entry in
    let fault = c.in_err-is_entry.field-0.0 in
    not_looked m size c.args.root columns row key false x fault c.from_residual-in_err-is_entry.result c.from_residual-in_err-is_entry.ensures.1
    (first_tells m size c.args.root cs key false records one _ there firsts x (Err fault) (as_told one c.args.under.now cs c.deref-3.result.now x (Err fault) under own (λ entry is. c.in_err-is_entry.ensures.only entry (search rules)))))

-- it is another
pub returns-then-not-branch-clause-found : goal.returns-then-not-branch-clause-found
returns-then-not-branch-clause-found g c = λ told.
    (let pages = g.P.Pages in
    let old = c.args.pages.now in
    let m = pages.map old in
    let size = (pages.limits (pages.below old)).page in
    let columns = columns_in c.args.columns.now in
    let row = row_in c.args.row.now in
    let x = indexed columns row in
    let cs = collations columns in
    let key = key_in cs x in
    let under = c.requires ∙ same_collations c.args.columns.now in
    let from = key_listed c.args.columns.now row c.deref-2.result.now c.in_ok-from.from.items c.deref-2.ensures.value c.in_ok-from.ensures.key in
    let none : has_null columns row.1 ≡ false = sym (c.has_null.ensures ∙ null_listed c.args.columns.now c.deref.result.now ∙ ap (has_null columns) c.deref.ensures.value) ∙ c.if-has_null.false in
    let records = map items_of c.in_ok-records.records.items in
    let firsts = as_firsts m size c.args.root c.args.under.now cs c.in_ok-from.from.items key false records under from (c.in_ok-records.ensures.found told) in
    let some : 1 ≤ length c.in_ok-records.records.items = search rules in
    let there = first_there items_of c.in_ok-records.records.items c.index.result.now some (search rules) in
    let one = c.index.result.now.items in
    let own = c.deref-3.ensures.value ∙ c.in_ok-entry.ensures.entry in
    let tells : Tells one cs x (Ok false) = subst (λ (b : Bool). Tells one cs x (Ok b)) c.if-not-branch.true
    (as_told one c.args.under.now cs c.deref-3.result.now x (Ok c.in_ok-is_entry.field-0) under own (λ entry is. c.in_ok-is_entry.ensures.only entry (search rules))) in
    another_first m size c.args.root columns row none (first_tells m size c.args.root cs key false records one _ there firsts x (Ok false) tells))

-- the second isn't read
pub returns-in_err-is_entry-2-clause-found : goal.returns-in_err-is_entry-2-clause-found
returns-in_err-is_entry-2-clause-found g c = λ told.
    (let pages = g.P.Pages in
    let old = c.args.pages.now in
    let m = pages.map old in
    let size = (pages.limits (pages.below old)).page in
    let columns = columns_in c.args.columns.now in
    let row = row_in c.args.row.now in
    let x = indexed columns row in
    let cs = collations columns in
    let key = key_in cs x in
    let under = c.requires ∙ same_collations c.args.columns.now in
    let from = key_listed c.args.columns.now row c.deref-2.result.now c.in_ok-from.from.items c.deref-2.ensures.value c.in_ok-from.ensures.key in
    let records = map items_of c.in_ok-records.records.items in
    let firsts = as_firsts m size c.args.root c.args.under.now cs c.in_ok-from.from.items key false records under from (c.in_ok-records.ensures.found told) in
    let some : 1 ≤ length c.in_ok-records.records.items = search rules in
    let there = first_there items_of c.in_ok-records.records.items c.index.result.now some (search rules) in
    let one = c.index.result.now.items in
    let own = c.deref-3.ensures.value ∙ c.in_ok-entry.ensures.entry in
    let tells : Tells one cs x (Ok true) = subst (λ (b : Bool). Tells one cs x (Ok b)) c.if-not-branch.false
    (as_told one c.args.under.now cs c.deref-3.result.now x (Ok c.in_ok-is_entry.field-0) under own (λ entry is. c.in_ok-is_entry.ensures.only entry (search rules))) in
    let more : 2 ≤ length c.in_ok-records.records.items = search rules in
    let two = c.index-then-len-gt1.result.now.items in
    let pair = second_there items_of c.in_ok-records.records.items c.index.result.now c.index-then-len-gt1.result.now more (search rules) (search rules) in
    let sought = c.deref-then-len-gt1.ensures.value ∙ key_listed c.args.columns.now row c.deref-4.result.now c.in_ok-key.key.items c.deref-4.ensures.value c.in_ok-key.ensures.key in
    let fault = c.in_err-is_entry-2.field-0.0 in
    not_looked m size c.args.root columns row x true key fault c.from_residual-in_err-is_entry-2.result c.from_residual-in_err-is_entry-2.ensures.1
    (second_tells m size c.args.root cs x records one two _ pair (indexed_long columns row) firsts tells (Err fault)
    (as_told two c.args.under.now cs c.deref-then-len-gt1.result.now key (Err fault) under sought (λ entry is. c.in_err-is_entry-2.ensures.only entry (search rules)))))

-- it tells
pub returns-then-len-gt1-clause-found : goal.returns-then-len-gt1-clause-found
returns-then-len-gt1-clause-found g c = λ told.
    (let pages = g.P.Pages in
    let old = c.args.pages.now in
    let m = pages.map old in
    let size = (pages.limits (pages.below old)).page in
    let columns = columns_in c.args.columns.now in
    let row = row_in c.args.row.now in
    let x = indexed columns row in
    let cs = collations columns in
    let key = key_in cs x in
    let under = c.requires ∙ same_collations c.args.columns.now in
    let from = key_listed c.args.columns.now row c.deref-2.result.now c.in_ok-from.from.items c.deref-2.ensures.value c.in_ok-from.ensures.key in
    let none : has_null columns row.1 ≡ false = sym (c.has_null.ensures ∙ null_listed c.args.columns.now c.deref.result.now ∙ ap (has_null columns) c.deref.ensures.value) ∙ c.if-has_null.false in
    let records = map items_of c.in_ok-records.records.items in
    let firsts = as_firsts m size c.args.root c.args.under.now cs c.in_ok-from.from.items key false records under from (c.in_ok-records.ensures.found told) in
    let some : 1 ≤ length c.in_ok-records.records.items = search rules in
    let there = first_there items_of c.in_ok-records.records.items c.index.result.now some (search rules) in
    let one = c.index.result.now.items in
    let own = c.deref-3.ensures.value ∙ c.in_ok-entry.ensures.entry in
    let tells : Tells one cs x (Ok true) = subst (λ (b : Bool). Tells one cs x (Ok b)) c.if-not-branch.false
    (as_told one c.args.under.now cs c.deref-3.result.now x (Ok c.in_ok-is_entry.field-0) under own (λ entry is. c.in_ok-is_entry.ensures.only entry (search rules))) in
    let first = first_tells m size c.args.root cs key false records one _ there firsts x (Ok true) tells in
    let more : 2 ≤ length c.in_ok-records.records.items = search rules in
    let two = c.index-then-len-gt1.result.now.items in
    let pair = second_there items_of c.in_ok-records.records.items c.index.result.now c.index-then-len-gt1.result.now more (search rules) (search rules) in
    let sought = c.deref-then-len-gt1.ensures.value ∙ key_listed c.args.columns.now row c.deref-4.result.now c.in_ok-key.key.items c.deref-4.ensures.value c.in_ok-key.ensures.key in
    let same = c.in_ok-is_entry-2.field-0 in
    itself_first m size c.args.root columns row none first same
    (second_tells m size c.args.root cs x records one two _ pair (indexed_long columns row) firsts tells (Ok same)
    (as_told two c.args.under.now cs c.deref-then-len-gt1.result.now key (Ok same) under sought (λ entry is. c.in_ok-is_entry-2.ensures.only entry (search rules)))))

-- the entries after it aren't read
pub returns-in_err-is_next-clause-found : goal.returns-in_err-is_next-clause-found
returns-in_err-is_next-clause-found g c = λ told.
    (let pages = g.P.Pages in
    let old = c.args.pages.now in
    let m = pages.map old in
    let size = (pages.limits (pages.below old)).page in
    let columns = columns_in c.args.columns.now in
    let row = row_in c.args.row.now in
    let x = indexed columns row in
    let cs = collations columns in
    let key = key_in cs x in
    let under = c.requires ∙ same_collations c.args.columns.now in
    let from = key_listed c.args.columns.now row c.deref-2.result.now c.in_ok-from.from.items c.deref-2.ensures.value c.in_ok-from.ensures.key in
    let mid = c.first_records.new.pages in
    let stays = c.in_ok-records.ensures.stays in
    let entry = c.in_ok-entry.ensures.entry in
    let sought = c.deref-5.ensures.value ∙ key_listed c.args.columns.now row c.deref-4.result.now c.in_ok-key.key.items c.deref-4.ensures.value c.in_ok-key.ensures.key in
    let fault = c.in_err-is_next.field-0.0 in
    let finds = subst (λ (n : PageMap). FindsNext n size c.args.root c.args.under.now c.in_ok-entry.entry.items true c.deref-5.result.now (Err fault)) stays.same
    (subst (λ k. FindsNext (pages.map mid) (pages.limits k).page c.args.root c.args.under.now c.in_ok-entry.entry.items true c.deref-5.result.now (Err fault)) stays.kept
    (c.in_err-is_next.ensures.found (subst (λ k. IsTrue (pages.tells k)) (sym stays.kept) told))) in
    let meant = as_meant m size c.args.root c.args.under.now cs c.in_ok-entry.entry.items x true c.deref-5.result.now key under entry sought (Err fault) finds in
    not_looked m size c.args.root columns row x true key fault c.from_residual-in_err-is_next.result c.from_residual-in_err-is_next.ensures.1 meant)

-- they tell
pub returns-clause-found : goal.returns-clause-found
returns-clause-found g c = λ told.
    (let pages = g.P.Pages in
    let old = c.args.pages.now in
    let m = pages.map old in
    let size = (pages.limits (pages.below old)).page in
    let columns = columns_in c.args.columns.now in
    let row = row_in c.args.row.now in
    let x = indexed columns row in
    let cs = collations columns in
    let key = key_in cs x in
    let under = c.requires ∙ same_collations c.args.columns.now in
    let from = key_listed c.args.columns.now row c.deref-2.result.now c.in_ok-from.from.items c.deref-2.ensures.value c.in_ok-from.ensures.key in
    let none : has_null columns row.1 ≡ false = sym (c.has_null.ensures ∙ null_listed c.args.columns.now c.deref.result.now ∙ ap (has_null columns) c.deref.ensures.value) ∙ c.if-has_null.false in
    let records = map items_of c.in_ok-records.records.items in
    let firsts = as_firsts m size c.args.root c.args.under.now cs c.in_ok-from.from.items key false records under from (c.in_ok-records.ensures.found told) in
    let some : 1 ≤ length c.in_ok-records.records.items = search rules in
    let there = first_there items_of c.in_ok-records.records.items c.index.result.now some (search rules) in
    let one = c.index.result.now.items in
    let own = c.deref-3.ensures.value ∙ c.in_ok-entry.ensures.entry in
    let tells : Tells one cs x (Ok true) = subst (λ (b : Bool). Tells one cs x (Ok b)) c.if-not-branch.false
    (as_told one c.args.under.now cs c.deref-3.result.now x (Ok c.in_ok-is_entry.field-0) under own (λ entry is. c.in_ok-is_entry.ensures.only entry (search rules))) in
    let first = first_tells m size c.args.root cs key false records one _ there firsts x (Ok true) tells in
    let mid = c.first_records.new.pages in
    let stays = c.in_ok-records.ensures.stays in
    let entry = c.in_ok-entry.ensures.entry in
    let sought = c.deref-5.ensures.value ∙ key_listed c.args.columns.now row c.deref-4.result.now c.in_ok-key.key.items c.deref-4.ensures.value c.in_ok-key.ensures.key in
    let same = c.in_ok-is_next.field-0 in
    let finds = subst (λ (n : PageMap). FindsNext n size c.args.root c.args.under.now c.in_ok-entry.entry.items true c.deref-5.result.now (Ok same)) stays.same
    (subst (λ k. FindsNext (pages.map mid) (pages.limits k).page c.args.root c.args.under.now c.in_ok-entry.entry.items true c.deref-5.result.now (Ok same)) stays.kept
    (c.in_ok-is_next.ensures.found (subst (λ k. IsTrue (pages.tells k)) (sym stays.kept) told))) in
    let meant = as_meant m size c.args.root c.args.under.now cs c.in_ok-entry.entry.items x true c.deref-5.result.now key under entry sought (Ok same) finds in
    itself_first m size c.args.root columns row none first same meant)
