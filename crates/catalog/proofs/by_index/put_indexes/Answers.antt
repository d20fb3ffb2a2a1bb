use Rattle.std.proofs.Common.{◌≡◌, ◌+◌, ◌<◌, ◌≤◌, ℕ, List, IsTrue, arith, length, rules, suc, sym, subst}
use Rattle.std.proofs.lemmas.List.{take_all}
use Rattle.std.specs.Prelude.{take}
use Rattle.catalog.specs.ByIndex.{AreMore, any_of}
use Rattle.catalog.specs.declared.tables.Index.{Index as ListedIndex}
use Rattle.catalog.specs.ByName.{in_handles}
use Rattle.catalog.proofs.RisingIndexes.{next_more, none_more}
use Rattle.catalog.proofs.by_index.put_indexes.Goals as goal

pub indexes-init : goal.indexes-init
indexes-init c = none_more c.args.table.now.value (in_handles c.args.handles.now.items)

pub indexes-preserved : goal.indexes-preserved
indexes-preserved c =
    let table = c.args.table.now.value in
    let handle = c.in_ok-handle.handle.value in
    let of_table : handle.table.value ≡ table = search rules in
    let at : handle.place ≡ c.indexes.place = search rules in
    let within : c.indexes.place < length table.indexes = search rules in
    let is_new : IsTrue c.in_ok-put_index.field-0 = search rules in
    let next : c.indexes.place + 1 ≡ suc c.indexes.place = omega arith in
    subst (λ (n : ℕ). AreMore (λ test. any_of test table (take n table.indexes)) (in_handles c.args.handles.now.items) (in_handles c.put_index.new.handles.items)) (sym next)
    (next_more table handle c.indexes.place _ _ _ of_table at within c.indexes.invariant (c.in_ok-put_index.ensures.new is_new))

pub returns-clause-new : goal.returns-clause-new
returns-clause-new c = λ is.
    (let table = c.args.table.now.value in
    let long : length table.indexes ≤ c.indexes.place = search rules in
    let all : take c.indexes.place table.indexes ≡ table.indexes = take_all c.indexes.place table.indexes long in
    subst (λ (indexes : List ListedIndex). AreMore (λ test. any_of test table indexes) (in_handles c.args.handles.now.items) (in_handles c.indexes.handles.items)) all c.indexes.invariant)
