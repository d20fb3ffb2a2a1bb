use Rattle.std.proofs.Common.{rules, true, ◌≡◌, ◌∙◌, ℕ, List, Vec, Global, map, Ok, sym, ap, subst}
use Rattle.std.specs.Prelude.{IfErr}
use Rattle.sqlval.specs.Faults.{IsNotDiskFault}
use Rattle.record.specs.Record.{IsRecord}
use Rattle.tree_page.specs.Cells.{Pairwise}
use Rattle.tree_overflow.proofs.ReadChains.{stays_after, unrefused}
use Rattle.index_build.proofs.KeysApart.{batch_unread, ends_apart, goes_on, last_left, nothing_read, put_after, rows_apart, stays_read, stays_unread}
use Rattle.index_build.proofs.apart.keys_are_apart.Goals as goal

abbrev items_of : Vec ℕ Global → List ℕ
items_of bytes = bytes.items

pub batches-init : goal.batches-init
batches-init g c =
    let gs = g.P.Pages in
    let old = c.args.pages.now in
    nothing_read gs.below gs.tells gs.limits gs.map gs.count gs.failures old c.args.root c.seek-cursor.result.root c.args.columns.now c.args.under.now c.seek-cursor.result.ended c.seek-cursor.result.after
    c.seek-cursor.result.key.items c.new.result.items (map items_of c.new-seen.result.items) c.seek-cursor.ensures.root c.new.ensures.items (ap (map items_of) c.new-seen.ensures.items) c.seek-cursor.ensures.from

pub returns-in_err-next_batch-clause-seen : goal.returns-in_err-next_batch-clause-seen
returns-in_err-next_batch-clause-seen g c = λ told.
    (let gs = g.P.Pages in
    let old = c.args.pages.now in
    rows_apart (gs.map old) (gs.limits (gs.below old)).page c.args.root c.args.columns.now c.args.under.now c.from_residual.result c.requires
    (batch_unread gs.below gs.tells gs.limits gs.map gs.count gs.failures old c.batches.pages c.args.root c.batches.cursor.root c.args.columns.now c.args.under.now c.batches.cursor.ended c.next_batch.new.self.ended
    c.batches.cursor.after c.next_batch.new.self.after c.batches.cursor.key.items c.next_batch.new.self.key.items (map items_of c.batches.seen.items) (map items_of c.next_batch.new.batch.items) c.batches.invariant
    c.in_err-next_batch.field-0.0 c.from_residual.result c.in_err-next_batch.ensures.given c.from_residual.ensures.1 told))

pub returns-in_err-next_batch-clause-stays : goal.returns-in_err-next_batch-clause-stays
returns-in_err-next_batch-clause-stays g c =
    let gs = g.P.Pages in
    stays_unread gs.below gs.tells gs.limits gs.map gs.count gs.failures c.in_err-next_batch.field-0.0 c.from_residual.result c.args.pages.now c.batches.pages c.next_batch.new.pages c.batches.invariant.stays
    c.in_err-next_batch.ensures.stays c.from_residual.ensures.1

pub returns-in_err-append-clause-stays : goal.returns-in_err-append-clause-stays
returns-in_err-append-clause-stays g c =
    let gs = g.P.Pages in
    let other : IfErr c.from_residual-in_err-append.result IsNotDiskFault = search rules in
    stays_read gs.below gs.tells gs.limits gs.map gs.count gs.failures c.from_residual-in_err-append.result c.args.pages.now c.batches.pages c.next_batch.new.pages c.batches.invariant.stays
    c.in_ok-next_batch.ensures.stays other

pub returns-then-cursor-clause-seen : goal.returns-then-cursor-clause-seen
returns-then-cursor-clause-seen g c = λ told.
    (let gs = g.P.Pages in
    let old = c.args.pages.now in
    let all = c.append.new.self.items in
    let seen = put_after items_of c.batches.seen.items c.next_batch.new.batch.items all c.in_ok-append.ensures.items in
    let slice : c.as_slice.result.now ≡ all = c.as_slice.ensures.value in
    rows_apart (gs.map old) (gs.limits (gs.below old)).page c.args.root c.args.columns.now c.args.under.now (Ok true) c.requires
    (ends_apart gs.below gs.tells gs.limits gs.map gs.count gs.failures old c.batches.pages c.args.root c.batches.cursor.root c.args.columns.now c.args.under.now c.batches.cursor.ended c.next_batch.new.self.ended
    c.batches.cursor.after c.next_batch.new.self.after c.batches.cursor.key.items c.next_batch.new.self.key.items (map items_of c.batches.seen.items) (map items_of c.next_batch.new.batch.items) c.batches.invariant
    c.in_ok-next_batch.ensures.given (map items_of all) seen
    (λ given are. c.neighbours_are_apart.ensures given (subst (λ (l : List (Vec ℕ Global)). Pairwise IsRecord (map items_of l) given) (sym slice) are) c.if-not-neighbours_are_apart.false) c.if-cursor.true told))

pub returns-in_err-last-clause-stays : goal.returns-in_err-last-clause-stays
returns-in_err-last-clause-stays g c =
    let gs = g.P.Pages in
    let other : IfErr c.from_residual-in_err-last.result IsNotDiskFault = search rules in
    stays_read gs.below gs.tells gs.limits gs.map gs.count gs.failures c.from_residual-in_err-last.result c.args.pages.now c.batches.pages c.next_batch.new.pages c.batches.invariant.stays
    c.in_ok-next_batch.ensures.stays other

pub batches-preserved : goal.batches-preserved
batches-preserved g c =
    let gs = g.P.Pages in
    let old = c.args.pages.now in
    let all = c.append.new.self.items in
    let seen = put_after items_of c.batches.seen.items c.next_batch.new.batch.items all c.in_ok-append.ensures.items in
    let slice : c.as_slice.result.now ≡ all = c.as_slice.ensures.value in
    let last = last_left items_of all c.replace-batch.new.dest.items (ap (λ (l : Vec (Vec ℕ Global) Global). l.items) c.replace-batch.ensures.after ∙ c.in_ok-last.ensures.last) in
    let stays = stays_after gs.below gs.map gs.count gs.failures unrefused unrefused old c.batches.pages c.next_batch.new.pages c.batches.invariant.stays c.in_ok-next_batch.ensures.stays in
    goes_on gs.below gs.tells gs.limits gs.map gs.count gs.failures old c.batches.pages c.args.root c.batches.cursor.root c.args.columns.now c.args.under.now c.batches.cursor.ended c.next_batch.new.self.ended
    c.batches.cursor.after c.next_batch.new.self.after c.batches.cursor.key.items c.next_batch.new.self.key.items (map items_of c.batches.seen.items) (map items_of c.next_batch.new.batch.items) c.batches.invariant
    c.in_ok-next_batch.ensures.given (map items_of all) seen
    (λ given are. c.neighbours_are_apart.ensures given (subst (λ (l : List (Vec ℕ Global)). Pairwise IsRecord (map items_of l) given) (sym slice) are) c.if-not-neighbours_are_apart.false) c.next_batch.new.pages c.next_batch.new.self.root (map items_of c.replace-batch.new.dest.items) c.in_ok-next_batch.ensures.root stays last
