use Rattle.std.proofs.Common.{rules, ◌≡◌, ◌≤◌, ℕ, Vec, Global, List, length, map, true, ap}
use Rattle.std.proofs.lemmas.List.{nil_from_length}
use Rattle.index_entries.proofs.FirstEntries.{first_tells, first_there, none_first, passed_on}
use Rattle.index_entries.proofs.others.is_next.Goals as goal

abbrev items_of : Vec ℕ Global → List ℕ
items_of bytes = bytes.items

pub returns-in_err-records-clause-found : goal.returns-in_err-records-clause-found
returns-in_err-records-clause-found g c = λ told entries used whole tree.
    passed_on _ c.from_residual.result c.in_err-records.field-0.0 c.from_residual.ensures.1 (c.in_err-records.ensures.found told entries used whole tree)

pub returns-then-is_empty-clause-found : goal.returns-then-is_empty-clause-found
returns-then-is_empty-clause-found g c = λ told.
    (let pages = g.P.Pages in
    let old = c.args.pages.now in
    let records = c.in_ok-records.records.items in
    let none : length records ≡ 0 = search rules in
    none_first (pages.map old) (pages.limits (pages.below old)).page c.args.root c.args.under.now c.args.from.items true (map items_of records) (ap (map items_of) (nil_from_length records none))
    (c.in_ok-records.ensures.found told) c.args.values.now)

pub returns-clause-found : goal.returns-clause-found
returns-clause-found g c = λ told.
    (let pages = g.P.Pages in
    let old = c.args.pages.now in
    let records = c.in_ok-records.records.items in
    let some : 1 ≤ length records = search rules in
    let there = first_there items_of records c.index.result.now some (search rules) in
    first_tells (pages.map old) (pages.limits (pages.below old)).page c.args.root c.args.under.now c.args.from.items true (map items_of records) c.index.result.now.items _ there
    (c.in_ok-records.ensures.found told) c.args.values.now c.is_entry.result (λ entry is. c.is_entry.ensures.only entry (search rules)))
