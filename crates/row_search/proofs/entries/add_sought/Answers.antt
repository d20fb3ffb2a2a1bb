use Rattle.std.proofs.Common.{rules, ◌≡◌, ℕ, List, Vec, Global, map, Ok, sym, ap, subst, ◌∙◌}
use Rattle.std.proofs.lemmas.List.{nil_from_length}
use Rattle.std.specs.Prelude.{⊤, length, option_map}
use Rattle.record.specs.Record.{IsRecord}
use Rattle.pages.specs.Calls.{Stays}
use Rattle.tree_page.specs.Cells.{Pairwise}
use Rattle.row_search.proofs.Batches.{at_start, goes_on, none_left, not_found, not_read, stops_there}
use Rattle.row_search.proofs.entries.add_sought.Goals as goal

abbrev items_of : Vec ℕ Global → List ℕ
items_of bytes = bytes.items

pub batches-init : goal.batches-init
batches-init g c =
    let gs = g.P.Pages in
    at_start gs.below gs.tells gs.limits gs.map gs.count gs.failures c.args.pages.now c.args.root c.in_ok-cursor.cursor.root c.args.key.columns.now c.args.key.values.now (option_map (λ r. r.now) c.args.range)
    c.in_ok-cursor.cursor.ended c.in_ok-cursor.cursor.after c.in_ok-cursor.cursor.key.items c.args.rowids.now.items c.in_ok-cursor.ensures.root c.in_ok-cursor.ensures.from

pub returns-in_err-next_batch-clause-added : goal.returns-in_err-next_batch-clause-added
returns-in_err-next_batch-clause-added g c = λ told.
    (let gs = g.P.Pages in
    not_read gs.below gs.tells gs.limits gs.map gs.count gs.failures c.args.pages.now c.batches.pages c.args.root c.batches.cursor.root c.args.key.columns.now c.args.key.values.now (option_map (λ r. r.now) c.args.range) c.batches.cursor.ended
    c.next_batch.new.self.ended c.batches.cursor.after c.next_batch.new.self.after c.batches.cursor.key.items c.next_batch.new.self.key.items c.args.rowids.now.items c.batches.rowids.items
    (map items_of c.next_batch.new.batch.items) c.batches.invariant c.batches.rowids.items c.in_err-next_batch.field-0.0 c.from_residual-in_err-next_batch.result c.in_err-next_batch.ensures.given
    c.from_residual-in_err-next_batch.ensures.1 told)

pub returns-then-is_empty-clause-added : goal.returns-then-is_empty-clause-added
returns-then-is_empty-clause-added g c = λ told.
    (let gs = g.P.Pages in
    let records : c.as_slice.result.now ≡ c.next_batch.new.batch.items = search rules in
    let zero : length c.as_slice.result.now ≡ 0 = search rules in
    let none = sym records ∙ nil_from_length c.as_slice.result.now zero in
    none_left gs.below gs.tells gs.limits gs.map gs.count gs.failures c.args.pages.now c.batches.pages c.args.root c.batches.cursor.root c.args.key.columns.now c.args.key.values.now (option_map (λ r. r.now) c.args.range) c.batches.cursor.ended
    c.next_batch.new.self.ended c.batches.cursor.after c.next_batch.new.self.after c.batches.cursor.key.items c.next_batch.new.self.key.items c.args.rowids.now.items c.batches.rowids.items
    (map items_of c.next_batch.new.batch.items) c.batches.invariant c.in_ok-next_batch.ensures.given (ap (map items_of) none) told)

pub returns-in_err-add_rowids-clause-added : goal.returns-in_err-add_rowids-clause-added
returns-in_err-add_rowids-clause-added g c = λ told.
    (let gs = g.P.Pages in
    let records : c.as_slice-in-batches.result.now ≡ c.next_batch.new.batch.items = search rules in
    not_found gs.below gs.tells gs.limits gs.map gs.count gs.failures c.args.pages.now c.batches.pages c.args.root c.batches.cursor.root c.args.key.columns.now c.args.key.values.now (option_map (λ r. r.now) c.args.range) c.batches.cursor.ended
    c.next_batch.new.self.ended c.batches.cursor.after c.next_batch.new.self.after c.batches.cursor.key.items c.next_batch.new.self.key.items c.args.rowids.now.items c.batches.rowids.items
    (map items_of c.next_batch.new.batch.items) c.batches.invariant c.in_ok-next_batch.ensures.given _ c.in_err-add_rowids.field-0.0 c.from_residual-in_err-add_rowids.result
    (λ given are ends. c.in_err-add_rowids.ensures.only given (subst (λ (l : List (Vec ℕ Global)). Pairwise IsRecord (map items_of l) given) (sym records) are) ends) c.from_residual-in_err-add_rowids.ensures.1 told)

pub returns-then-not-branch-clause-added : goal.returns-then-not-branch-clause-added
returns-then-not-branch-clause-added g c = λ told.
    (let gs = g.P.Pages in
    let records : c.as_slice-in-batches.result.now ≡ c.next_batch.new.batch.items = search rules in
    stops_there gs.below gs.tells gs.limits gs.map gs.count gs.failures c.args.pages.now c.batches.pages c.args.root c.batches.cursor.root c.args.key.columns.now c.args.key.values.now (option_map (λ r. r.now) c.args.range) c.batches.cursor.ended
    c.next_batch.new.self.ended c.batches.cursor.after c.next_batch.new.self.after c.batches.cursor.key.items c.next_batch.new.self.key.items c.args.rowids.now.items c.batches.rowids.items
    (map items_of c.next_batch.new.batch.items) c.batches.invariant c.in_ok-next_batch.ensures.given c.add_rowids.new.rowids.items c.in_ok-add_rowids.field-0
    (λ given are ends. c.in_ok-add_rowids.ensures.only given (subst (λ (l : List (Vec ℕ Global)). Pairwise IsRecord (map items_of l) given) (sym records) are) ends) (search rules) told)

pub batches-preserved : goal.batches-preserved
batches-preserved g c =
    let gs = g.P.Pages in
    let records : c.as_slice-in-batches.result.now ≡ c.next_batch.new.batch.items = search rules in
    let stays : Stays gs.below gs.map gs.count gs.failures {T = ⊤} (Ok tt) c.args.pages.now c.next_batch.new.pages = search rules in
    goes_on gs.below gs.tells gs.limits gs.map gs.count gs.failures c.args.pages.now c.batches.pages c.args.root c.batches.cursor.root c.args.key.columns.now c.args.key.values.now (option_map (λ r. r.now) c.args.range) c.batches.cursor.ended
    c.next_batch.new.self.ended c.batches.cursor.after c.next_batch.new.self.after c.batches.cursor.key.items c.next_batch.new.self.key.items c.args.rowids.now.items c.batches.rowids.items
    (map items_of c.next_batch.new.batch.items) c.batches.invariant c.in_ok-next_batch.ensures.given c.add_rowids.new.rowids.items c.in_ok-add_rowids.field-0
    (λ given are ends. c.in_ok-add_rowids.ensures.only given (subst (λ (l : List (Vec ℕ Global)). Pairwise IsRecord (map items_of l) given) (sym records) are) ends) (search rules)
    c.next_batch.new.pages c.next_batch.new.self.root c.in_ok-next_batch.ensures.root stays
