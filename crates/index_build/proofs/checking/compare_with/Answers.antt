use Rattle.std.proofs.Common.{rules, ◌≡◌, ◌≤◌, ℕ, List, Vec, Global, length, map, Ok, refl, sym, ap, subst, ◌∙◌, arith}
use Rattle.std.proofs.lemmas.List.{nil_from_length}
use Rattle.std.specs.Prelude.{⊤}
use Rattle.record.specs.Record.{IsRecord}
use Rattle.pages.specs.Calls.{Stays}
use Rattle.tree_page.specs.Cells.{Pairwise}
use Rattle.index_build.proofs.Comparing.{as_long, at_start, not_read, not_compared, others, goes_on, all_compared, some_missing}
use Rattle.index_build.proofs.checking.compare_with.Goals as goal

abbrev items_of : Vec ℕ Global → List ℕ
items_of bytes = bytes.items

pub batches-init : goal.batches-init
batches-init g c =
    let gs = g.P.Pages in
    at_start gs.below gs.tells gs.limits gs.map gs.count gs.failures c.args.pages.now c.args.root c.seek-cursor.result.root c.args.columns.now c.args.collations.now c.seek-cursor.result.ended c.seek-cursor.result.after
    c.seek-cursor.result.key.items c.new.result.items c.args.rows.now (length c.args.rows.now) refl c.seek-cursor.ensures.root c.new.ensures.items c.seek-cursor.ensures.from

pub returns-in_err-next_batch-clause-compared : goal.returns-in_err-next_batch-clause-compared
returns-in_err-next_batch-clause-compared g c = λ told.
    (let gs = g.P.Pages in
    not_read gs.below gs.tells gs.limits gs.map gs.count gs.failures c.args.pages.now c.batches.pages c.args.root c.batches.cursor.root c.args.columns.now c.args.collations.now c.batches.cursor.ended c.next_batch.new.self.ended
    c.batches.cursor.after c.next_batch.new.self.after c.batches.cursor.key.items c.next_batch.new.self.key.items c.args.rows.now c.batches.left (map items_of c.next_batch.new.batch.items) c.batches.invariant
    c.in_err-next_batch.field-0.0 c.from_residual.result c.in_err-next_batch.ensures.given c.from_residual.ensures.1 told)

pub returns-in_err-are_of_rows-clause-compared : goal.returns-in_err-are_of_rows-clause-compared
returns-in_err-are_of_rows-clause-compared g c = λ told.
    (let gs = g.P.Pages in
    let records : c.as_slice-records.result.now ≡ c.next_batch.new.batch.items = search rules in
    not_compared gs.below gs.tells gs.limits gs.map gs.count gs.failures c.args.pages.now c.batches.pages c.args.root c.batches.cursor.root c.args.columns.now c.args.collations.now c.batches.cursor.ended c.next_batch.new.self.ended
    c.batches.cursor.after c.next_batch.new.self.after c.batches.cursor.key.items c.next_batch.new.self.key.items c.args.rows.now c.batches.left (map items_of c.next_batch.new.batch.items) c.batches.invariant
    c.in_ok-next_batch.ensures.given c.in_err-are_of_rows.field-0.0 c.from_residual-in_err-are_of_rows.result
    (λ given rises are. c.in_err-are_of_rows.ensures.only given rises (subst (λ (l : List (Vec ℕ Global)). Pairwise IsRecord (map items_of l) given) (sym records) are)) c.from_residual-in_err-are_of_rows.ensures.1 told)

pub returns-then-not-branch-clause-compared : goal.returns-then-not-branch-clause-compared
returns-then-not-branch-clause-compared g c = λ told.
    (let gs = g.P.Pages in
    let records : c.as_slice-records.result.now ≡ c.next_batch.new.batch.items = search rules in
    others gs.below gs.tells gs.limits gs.map gs.count gs.failures c.args.pages.now c.batches.pages c.args.root c.batches.cursor.root c.args.columns.now c.args.collations.now c.batches.cursor.ended c.next_batch.new.self.ended
    c.batches.cursor.after c.next_batch.new.self.after c.batches.cursor.key.items c.next_batch.new.self.key.items c.args.rows.now c.batches.left (map items_of c.next_batch.new.batch.items) c.batches.invariant
    c.in_ok-next_batch.ensures.given c.in_ok-are_of_rows.field-0
    (λ given rises are. c.in_ok-are_of_rows.ensures.only given rises (subst (λ (l : List (Vec ℕ Global)). Pairwise IsRecord (map items_of l) given) (sym records) are)) (search rules) told)

pub batches-preserved : goal.batches-preserved
batches-preserved g c =
    let gs = g.P.Pages in
    let records : c.as_slice-records.result.now ≡ c.next_batch.new.batch.items = search rules in
    let stays : Stays gs.below gs.map gs.count gs.failures {T = ⊤} (Ok tt) c.args.pages.now c.next_batch.new.pages = search rules in
    let long = as_long items_of c.next_batch.new.batch.items in
    let many : length c.as_slice-records.result.now ≡ length (map items_of c.next_batch.new.batch.items) = ap length records ∙ sym long in
    let few : length c.as_slice-records.result.now ≤ c.batches.left = search rules in
    goes_on gs.below gs.tells gs.limits gs.map gs.count gs.failures c.args.pages.now c.batches.pages c.args.root c.batches.cursor.root c.args.columns.now c.args.collations.now c.batches.cursor.ended c.next_batch.new.self.ended
    c.batches.cursor.after c.next_batch.new.self.after c.batches.cursor.key.items c.next_batch.new.self.key.items c.args.rows.now c.batches.left (map items_of c.next_batch.new.batch.items) c.batches.invariant
    c.in_ok-next_batch.ensures.given c.next_batch.new.pages c.next_batch.new.self.root c.in_ok-are_of_rows.field-0 _ c.in_ok-next_batch.ensures.root stays
    (λ given rises are. c.in_ok-are_of_rows.ensures.only given rises (subst (λ (l : List (Vec ℕ Global)). Pairwise IsRecord (map items_of l) given) (sym records) are)) (search rules) (omega (arith, many, few))

pub returns-then-left-gt0-clause-compared : goal.returns-then-left-gt0-clause-compared
returns-then-left-gt0-clause-compared g c = λ told.
    (let gs = g.P.Pages in
    let records : c.as_slice-records.result.now ≡ c.next_batch.new.batch.items = search rules in
    let zero : length c.as_slice-records.result.now ≡ 0 = search rules in
    let none = sym records ∙ nil_from_length c.as_slice-records.result.now zero in
    let some : 1 ≤ c.batches.left = search rules in
    some_missing gs.below gs.tells gs.limits gs.map gs.count gs.failures c.args.pages.now c.batches.pages c.args.root c.batches.cursor.root c.args.columns.now c.args.collations.now c.batches.cursor.ended c.next_batch.new.self.ended
    c.batches.cursor.after c.next_batch.new.self.after c.batches.cursor.key.items c.next_batch.new.self.key.items c.args.rows.now c.batches.left (map items_of c.next_batch.new.batch.items) c.batches.invariant
    c.in_ok-next_batch.ensures.given (ap (map items_of) none) some told)

pub returns-clause-compared : goal.returns-clause-compared
returns-clause-compared g c = λ told.
    (let gs = g.P.Pages in
    let records : c.as_slice-records.result.now ≡ c.next_batch.new.batch.items = search rules in
    let zero : length c.as_slice-records.result.now ≡ 0 = search rules in
    let none = sym records ∙ nil_from_length c.as_slice-records.result.now zero in
    let end : c.batches.left ≡ 0 = search rules in
    all_compared gs.below gs.tells gs.limits gs.map gs.count gs.failures c.args.pages.now c.batches.pages c.args.root c.batches.cursor.root c.args.columns.now c.args.collations.now c.batches.cursor.ended c.next_batch.new.self.ended
    c.batches.cursor.after c.next_batch.new.self.after c.batches.cursor.key.items c.next_batch.new.self.key.items c.args.rows.now c.batches.left (map items_of c.next_batch.new.batch.items) c.batches.invariant
    c.in_ok-next_batch.ensures.given (ap (map items_of) none) end told)
