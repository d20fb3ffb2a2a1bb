use Rattle.std.proofs.Common.{ap, [], ◌∷◌, ◌++◌, slice_index_or, ◌<◌, ◌-◌, ◌∙◌, ℕ, true, false, suc, Ok, Err, map, sym, length, arith}
use Rattle.sqlval.specs.Faults.{IsOutside}
use Rattle.tree_index.specs.Comparing.{CountsEntries, FindsChild}
use Rattle.tree_index.specs.Scanning.{CopiesEntries, GivesBelow, IsBatch, PushesEntry}
use Rattle.tree_index.specs.Tree.{entries_of}
use Rattle.tree_index.proofs.Batches.{nothing, IsTreeAt, placed, seen, counts, pushed, copies, leaf_batch, not_leaf, inner, kid_batch, as_whole, child_some, child_last, child_then}
use Rattle.tree_index.proofs.Readings.{refused, since}
use Rattle.tree_index.proofs.Subtrees.{entries_at}
use Rattle.tree_index.proofs.scanning.+batch_below.Goals as goal

pub returns-in_err-place-clause-given : goal.returns-in_err-place-clause-given
returns-in_err-place-clause-given g n c = λ told depth t whole at lies shallow sorted empty.
    (let gs = g.P.Pages in
    let m = gs.map c.args.pages.now in
    let size = (gs.limits (gs.below c.args.pages.now)).page in
    let number = c.args.number in
    let ways = c.args.ways in
    let after = c.args.after in
    let columns = c.args.key.columns.now in
    let key = c.args.key.values.now in
    let before = map (λ bytes. bytes.items) c.args.batch.now.items in
    let is : IsTreeAt m size number ways after columns key depth t = record { whole = whole; at = at; lies = lies; shallow = shallow; sorted = sorted } in
    refused _ _ c.in_err-place.field-0.0 c.from_residual.ensures.1 (placed m size number ways after columns key depth t is (Err c.in_err-place.field-0.0) (c.in_err-place.ensures.found told)))

pub returns-in_err-child-clause-given : goal.returns-in_err-child-clause-given
returns-in_err-child-clause-given g n c = λ told depth t whole at lies shallow sorted empty.
    (let gs = g.P.Pages in
    let m = gs.map c.args.pages.now in
    let size = (gs.limits (gs.below c.args.pages.now)).page in
    let number = c.args.number in
    let ways = c.args.ways in
    let after = c.args.after in
    let columns = c.args.key.columns.now in
    let key = c.args.key.values.now in
    let before = map (λ bytes. bytes.items) c.args.batch.now.items in
    let is : IsTreeAt m size number ways after columns key depth t = record { whole = whole; at = at; lies = lies; shallow = shallow; sorted = sorted } in
    let one = c.in_ok-place.ensures.stays in
    let place = c.in_ok-place.place in
    let place_is = placed m size number ways after columns key depth t is (Ok place) (c.in_ok-place.ensures.found told) in
    let finds = since gs.below gs.tells gs.limits gs.map (λ m k. FindsChild m k number place (Err c.in_err-child.field-0.0)) c.args.pages.now c.place_of.new.pages one.kept one.same c.in_err-child.ensures.found told in
    refused _ _ c.in_err-child.field-0.0 c.from_residual-in_err-child.ensures.1 (seen m size number ways after columns key depth t is place (Err c.in_err-child.field-0.0) finds))

pub returns-in_err-all-clause-given : goal.returns-in_err-all-clause-given
returns-in_err-all-clause-given g n c = λ told depth t whole at lies shallow sorted empty.
    (let gs = g.P.Pages in
    let m = gs.map c.args.pages.now in
    let size = (gs.limits (gs.below c.args.pages.now)).page in
    let number = c.args.number in
    let ways = c.args.ways in
    let after = c.args.after in
    let columns = c.args.key.columns.now in
    let key = c.args.key.values.now in
    let before = map (λ bytes. bytes.items) c.args.batch.now.items in
    let is : IsTreeAt m size number ways after columns key depth t = record { whole = whole; at = at; lies = lies; shallow = shallow; sorted = sorted } in
    let one = c.in_ok-place.ensures.stays in
    let place = c.in_ok-place.place in
    let place_is = placed m size number ways after columns key depth t is (Ok place) (c.in_ok-place.ensures.found told) in
    let finds = since gs.below gs.tells gs.limits gs.map (λ m k. FindsChild m k number place (Ok c.in_ok-child.field-0)) c.args.pages.now c.place_of.new.pages one.kept one.same c.in_ok-child.ensures.found told in
    let found = seen m size number ways after columns key depth t is place (Ok c.in_ok-child.field-0) finds in
    let two = c.in_ok-child.ensures.stays in
    let batch = map (λ bytes. bytes.items) c.copy_entries.new.batch.items in
    let copied = since gs.below gs.tells gs.limits gs.map (λ m k. CopiesEntries m k number place c.max.result before batch (Err c.in_err-all.field-0.0)) c.args.pages.now c.child_of.new.pages (two.kept ∙ one.kept) (two.same ∙ one.same) c.in_err-all.ensures.copied told in
    refused _ _ c.in_err-all.field-0.0 c.from_residual-in_err-all.ensures.1
    (copies m size number ways after columns key depth t is place c.max.result before batch (Err c.in_err-all.field-0.0) copied))

pub returns-in_default-clause-given : goal.returns-in_default-clause-given
returns-in_default-clause-given g n c = λ told depth t whole at lies shallow sorted empty.
    (let gs = g.P.Pages in
    let m = gs.map c.args.pages.now in
    let size = (gs.limits (gs.below c.args.pages.now)).page in
    let number = c.args.number in
    let ways = c.args.ways in
    let after = c.args.after in
    let columns = c.args.key.columns.now in
    let key = c.args.key.values.now in
    let before = map (λ bytes. bytes.items) c.args.batch.now.items in
    let is : IsTreeAt m size number ways after columns key depth t = record { whole = whole; at = at; lies = lies; shallow = shallow; sorted = sorted } in
    let one = c.in_ok-place.ensures.stays in
    let place = c.in_ok-place.place in
    let place_is = placed m size number ways after columns key depth t is (Ok place) (c.in_ok-place.ensures.found told) in
    let finds = since gs.below gs.tells gs.limits gs.map (λ m k. FindsChild m k number place (Ok c.in_ok-child.field-0)) c.args.pages.now c.place_of.new.pages one.kept one.same c.in_ok-child.ensures.found told in
    let found = seen m size number ways after columns key depth t is place (Ok c.in_ok-child.field-0) finds in
    let two = c.in_ok-child.ensures.stays in
    let batch = map (λ bytes. bytes.items) c.copy_entries.new.batch.items in
    let copied = since gs.below gs.tells gs.limits gs.map (λ m k. CopiesEntries m k number place c.max.result before batch (Ok c.in_ok-all.all)) c.args.pages.now c.child_of.new.pages (two.kept ∙ one.kept) (two.same ∙ one.same) c.in_ok-all.ensures.copied told in
    let one : 0 < c.max.result = (let is_max = c.max.ensures in omega (arith, is_max)) in
    leaf_batch m size number ways after columns key depth t is place c.max.result before batch c.in_ok-all.all place_is (λ child e. c.in_default.not-Some child (found ∙ e)) empty one
    (copies m size number ways after columns key depth t is place c.max.result before batch (Ok c.in_ok-all.all) copied))

pub returns-then-ways-eq0-clause-given : goal.returns-then-ways-eq0-clause-given
returns-then-ways-eq0-clause-given g n c = λ told depth t whole at lies shallow sorted empty.
    (let gs = g.P.Pages in
    let m = gs.map c.args.pages.now in
    let size = (gs.limits (gs.below c.args.pages.now)).page in
    let number = c.args.number in
    let ways = c.args.ways in
    let after = c.args.after in
    let columns = c.args.key.columns.now in
    let key = c.args.key.values.now in
    let before = map (λ bytes. bytes.items) c.args.batch.now.items in
    let is : IsTreeAt m size number ways after columns key depth t = record { whole = whole; at = at; lies = lies; shallow = shallow; sorted = sorted } in
    let one = c.in_ok-place.ensures.stays in
    let place = c.in_ok-place.place in
    let place_is = placed m size number ways after columns key depth t is (Ok place) (c.in_ok-place.ensures.found told) in
    let finds = since gs.below gs.tells gs.limits gs.map (λ m k. FindsChild m k number place (Ok c.in_ok-child.field-0)) c.args.pages.now c.place_of.new.pages one.kept one.same c.in_ok-child.ensures.found told in
    let found = seen m size number ways after columns key depth t is place (Ok c.in_ok-child.field-0) finds in
    let two = c.in_ok-child.ensures.stays in
    let child = c.in-Some.child in
    let some = sym c.in-Some.is ∙ found in
    absurd (not_leaf m size number ways after columns key depth t is place child some c.if-ways-eq0.true))

pub returns-in_err-batch_below-clause-given : goal.returns-in_err-batch_below-clause-given
returns-in_err-batch_below-clause-given g n c = λ told depth t whole at lies shallow sorted empty.
    (let gs = g.P.Pages in
    let m = gs.map c.args.pages.now in
    let size = (gs.limits (gs.below c.args.pages.now)).page in
    let number = c.args.number in
    let ways = c.args.ways in
    let after = c.args.after in
    let columns = c.args.key.columns.now in
    let key = c.args.key.values.now in
    let before = map (λ bytes. bytes.items) c.args.batch.now.items in
    let is : IsTreeAt m size number ways after columns key depth t = record { whole = whole; at = at; lies = lies; shallow = shallow; sorted = sorted } in
    let one = c.in_ok-place.ensures.stays in
    let place = c.in_ok-place.place in
    let place_is = placed m size number ways after columns key depth t is (Ok place) (c.in_ok-place.ensures.found told) in
    let finds = since gs.below gs.tells gs.limits gs.map (λ m k. FindsChild m k number place (Ok c.in_ok-child.field-0)) c.args.pages.now c.place_of.new.pages one.kept one.same c.in_ok-child.ensures.found told in
    let found = seen m size number ways after columns key depth t is place (Ok c.in_ok-child.field-0) finds in
    let two = c.in_ok-child.ensures.stays in
    let child = c.in-Some.child in
    let some = sym c.in-Some.is ∙ found in
    let batch = map (λ bytes. bytes.items) c.batch_below.new.batch.items in
    let gives = since gs.below gs.tells gs.limits gs.map (λ m k. GivesBelow m k child (ways - 1) after columns key before batch (Err c.in_err-batch_below.field-0.0)) c.args.pages.now c.child_of.new.pages (two.kept ∙ one.kept) (two.same ∙ one.same) c.in_err-batch_below.ensures.given told in
    refused _ _ c.in_err-batch_below.field-0.0 c.from_residual-in_err-batch_below.ensures.1
    (inner m size number ways after columns key depth t is place child (λ depth t. IsOutside c.in_err-batch_below.field-0.0) place_is some
    (λ less u its at_is is_some. kid_batch m size number ways after columns key less u its place child at_is is_some before batch (Err c.in_err-batch_below.field-0.0) empty gives)))

pub returns-then-not-branch-clause-given : goal.returns-then-not-branch-clause-given
returns-then-not-branch-clause-given g n c = λ told depth t whole at lies shallow sorted empty.
    (let gs = g.P.Pages in
    let m = gs.map c.args.pages.now in
    let size = (gs.limits (gs.below c.args.pages.now)).page in
    let number = c.args.number in
    let ways = c.args.ways in
    let after = c.args.after in
    let columns = c.args.key.columns.now in
    let key = c.args.key.values.now in
    let before = map (λ bytes. bytes.items) c.args.batch.now.items in
    let is : IsTreeAt m size number ways after columns key depth t = record { whole = whole; at = at; lies = lies; shallow = shallow; sorted = sorted } in
    let one = c.in_ok-place.ensures.stays in
    let place = c.in_ok-place.place in
    let place_is = placed m size number ways after columns key depth t is (Ok place) (c.in_ok-place.ensures.found told) in
    let finds = since gs.below gs.tells gs.limits gs.map (λ m k. FindsChild m k number place (Ok c.in_ok-child.field-0)) c.args.pages.now c.place_of.new.pages one.kept one.same c.in_ok-child.ensures.found told in
    let found = seen m size number ways after columns key depth t is place (Ok c.in_ok-child.field-0) finds in
    let two = c.in_ok-child.ensures.stays in
    let child = c.in-Some.child in
    let some = sym c.in-Some.is ∙ found in
    let batch = map (λ bytes. bytes.items) c.batch_below.new.batch.items in
    let gives = since gs.below gs.tells gs.limits gs.map (λ m k. GivesBelow m k child (ways - 1) after columns key before batch (Ok c.in_ok-batch_below.field-0)) c.args.pages.now c.child_of.new.pages (two.kept ∙ one.kept) (two.same ∙ one.same) c.in_ok-batch_below.ensures.given told in
    let three = c.in_ok-batch_below.ensures.stays in
    inner m size number ways after columns key depth t is place child (λ depth t. IsBatch after columns key (entries_of depth t) batch false) place_is some
    (λ less u its at_is is_some. child_some m size number ways after columns key less u its batch
    (as_whole after columns key _ batch c.in_ok-batch_below.field-0 false c.if-not-branch.true (kid_batch m size number ways after columns key less u its place child at_is is_some before batch (Ok c.in_ok-batch_below.field-0) empty gives))))

pub returns-in_err-len_of-clause-given : goal.returns-in_err-len_of-clause-given
returns-in_err-len_of-clause-given g n c = λ told depth t whole at lies shallow sorted empty.
    (let gs = g.P.Pages in
    let m = gs.map c.args.pages.now in
    let size = (gs.limits (gs.below c.args.pages.now)).page in
    let number = c.args.number in
    let ways = c.args.ways in
    let after = c.args.after in
    let columns = c.args.key.columns.now in
    let key = c.args.key.values.now in
    let before = map (λ bytes. bytes.items) c.args.batch.now.items in
    let is : IsTreeAt m size number ways after columns key depth t = record { whole = whole; at = at; lies = lies; shallow = shallow; sorted = sorted } in
    let one = c.in_ok-place.ensures.stays in
    let place = c.in_ok-place.place in
    let place_is = placed m size number ways after columns key depth t is (Ok place) (c.in_ok-place.ensures.found told) in
    let finds = since gs.below gs.tells gs.limits gs.map (λ m k. FindsChild m k number place (Ok c.in_ok-child.field-0)) c.args.pages.now c.place_of.new.pages one.kept one.same c.in_ok-child.ensures.found told in
    let found = seen m size number ways after columns key depth t is place (Ok c.in_ok-child.field-0) finds in
    let two = c.in_ok-child.ensures.stays in
    let child = c.in-Some.child in
    let some = sym c.in-Some.is ∙ found in
    let batch = map (λ bytes. bytes.items) c.batch_below.new.batch.items in
    let gives = since gs.below gs.tells gs.limits gs.map (λ m k. GivesBelow m k child (ways - 1) after columns key before batch (Ok c.in_ok-batch_below.field-0)) c.args.pages.now c.child_of.new.pages (two.kept ∙ one.kept) (two.same ∙ one.same) c.in_ok-batch_below.ensures.given told in
    let three = c.in_ok-batch_below.ensures.stays in
    let asks = since gs.below gs.tells gs.limits gs.map (λ m k. CountsEntries m k number (Err c.in_err-len_of.field-0.0)) c.args.pages.now c.batch_below.new.pages (three.kept ∙ two.kept ∙ one.kept) (three.same ∙ two.same ∙ one.same) c.in_err-len_of.ensures.counted told in
    refused _ _ c.in_err-len_of.field-0.0 c.from_residual-in_err-len_of.ensures.1 (counts m size number ways after columns key depth t is (Err c.in_err-len_of.field-0.0) asks))

pub returns-then-branch-clause-given : goal.returns-then-branch-clause-given
returns-then-branch-clause-given g n c = λ told depth t whole at lies shallow sorted empty.
    (let gs = g.P.Pages in
    let m = gs.map c.args.pages.now in
    let size = (gs.limits (gs.below c.args.pages.now)).page in
    let number = c.args.number in
    let ways = c.args.ways in
    let after = c.args.after in
    let columns = c.args.key.columns.now in
    let key = c.args.key.values.now in
    let before = map (λ bytes. bytes.items) c.args.batch.now.items in
    let is : IsTreeAt m size number ways after columns key depth t = record { whole = whole; at = at; lies = lies; shallow = shallow; sorted = sorted } in
    let one = c.in_ok-place.ensures.stays in
    let place = c.in_ok-place.place in
    let place_is = placed m size number ways after columns key depth t is (Ok place) (c.in_ok-place.ensures.found told) in
    let finds = since gs.below gs.tells gs.limits gs.map (λ m k. FindsChild m k number place (Ok c.in_ok-child.field-0)) c.args.pages.now c.place_of.new.pages one.kept one.same c.in_ok-child.ensures.found told in
    let found = seen m size number ways after columns key depth t is place (Ok c.in_ok-child.field-0) finds in
    let two = c.in_ok-child.ensures.stays in
    let child = c.in-Some.child in
    let some = sym c.in-Some.is ∙ found in
    let batch = map (λ bytes. bytes.items) c.batch_below.new.batch.items in
    let gives = since gs.below gs.tells gs.limits gs.map (λ m k. GivesBelow m k child (ways - 1) after columns key before batch (Ok c.in_ok-batch_below.field-0)) c.args.pages.now c.child_of.new.pages (two.kept ∙ one.kept) (two.same ∙ one.same) c.in_ok-batch_below.ensures.given told in
    let three = c.in_ok-batch_below.ensures.stays in
    let asks = since gs.below gs.tells gs.limits gs.map (λ m k. CountsEntries m k number (Ok c.in_ok-len_of.field-0)) c.args.pages.now c.batch_below.new.pages (three.kept ∙ two.kept ∙ one.kept) (three.same ∙ two.same ∙ one.same) c.in_ok-len_of.ensures.counted told in
    let four = c.in_ok-len_of.ensures.stays in
    inner m size number ways after columns key depth t is place child (λ depth t. IsBatch after columns key (entries_of depth t) batch true) place_is some
    (λ less u its at_is is_some. (let all = counts m size number ways after columns key (suc less) u its (Ok c.in_ok-len_of.field-0) asks in child_last m size number ways after columns key less u its batch (omega (arith, all, at_is, c.if-branch.true))
    (as_whole after columns key _ batch c.in_ok-batch_below.field-0 true c.if-not-branch.false (kid_batch m size number ways after columns key less u its place child at_is is_some before batch (Ok c.in_ok-batch_below.field-0) empty gives)))))

pub returns-in_err-push_entry-clause-given : goal.returns-in_err-push_entry-clause-given
returns-in_err-push_entry-clause-given g n c = λ told depth t whole at lies shallow sorted empty.
    (let gs = g.P.Pages in
    let m = gs.map c.args.pages.now in
    let size = (gs.limits (gs.below c.args.pages.now)).page in
    let number = c.args.number in
    let ways = c.args.ways in
    let after = c.args.after in
    let columns = c.args.key.columns.now in
    let key = c.args.key.values.now in
    let before = map (λ bytes. bytes.items) c.args.batch.now.items in
    let is : IsTreeAt m size number ways after columns key depth t = record { whole = whole; at = at; lies = lies; shallow = shallow; sorted = sorted } in
    let one = c.in_ok-place.ensures.stays in
    let place = c.in_ok-place.place in
    let place_is = placed m size number ways after columns key depth t is (Ok place) (c.in_ok-place.ensures.found told) in
    let finds = since gs.below gs.tells gs.limits gs.map (λ m k. FindsChild m k number place (Ok c.in_ok-child.field-0)) c.args.pages.now c.place_of.new.pages one.kept one.same c.in_ok-child.ensures.found told in
    let found = seen m size number ways after columns key depth t is place (Ok c.in_ok-child.field-0) finds in
    let two = c.in_ok-child.ensures.stays in
    let child = c.in-Some.child in
    let some = sym c.in-Some.is ∙ found in
    let batch = map (λ bytes. bytes.items) c.batch_below.new.batch.items in
    let gives = since gs.below gs.tells gs.limits gs.map (λ m k. GivesBelow m k child (ways - 1) after columns key before batch (Ok c.in_ok-batch_below.field-0)) c.args.pages.now c.child_of.new.pages (two.kept ∙ one.kept) (two.same ∙ one.same) c.in_ok-batch_below.ensures.given told in
    let three = c.in_ok-batch_below.ensures.stays in
    let asks = since gs.below gs.tells gs.limits gs.map (λ m k. CountsEntries m k number (Ok c.in_ok-len_of.field-0)) c.args.pages.now c.batch_below.new.pages (three.kept ∙ two.kept ∙ one.kept) (three.same ∙ two.same ∙ one.same) c.in_ok-len_of.ensures.counted told in
    let four = c.in_ok-len_of.ensures.stays in
    let more = map (λ bytes. bytes.items) c.push_entry.new.batch.items in
    let pushes = since gs.below gs.tells gs.limits gs.map (λ m k. PushesEntry m k number place batch more (Err c.in_err-push_entry.field-0.0)) c.args.pages.now c.len_of.new.pages (four.kept ∙ three.kept ∙ two.kept ∙ one.kept) (four.same ∙ three.same ∙ two.same ∙ one.same) c.in_err-push_entry.ensures.pushed told in
    let all = counts m size number ways after columns key depth t is (Ok c.in_ok-len_of.field-0) asks in
    refused _ _ c.in_err-push_entry.field-0.0 c.from_residual-in_err-push_entry.ensures.1
    (pushed m size number ways after columns key depth t is place batch more (Err c.in_err-push_entry.field-0.0) (omega (arith, all, c.if-branch.false)) pushes))

pub returns-clause-given : goal.returns-clause-given
returns-clause-given g n c = λ told depth t whole at lies shallow sorted empty.
    (let gs = g.P.Pages in
    let m = gs.map c.args.pages.now in
    let size = (gs.limits (gs.below c.args.pages.now)).page in
    let number = c.args.number in
    let ways = c.args.ways in
    let after = c.args.after in
    let columns = c.args.key.columns.now in
    let key = c.args.key.values.now in
    let before = map (λ bytes. bytes.items) c.args.batch.now.items in
    let is : IsTreeAt m size number ways after columns key depth t = record { whole = whole; at = at; lies = lies; shallow = shallow; sorted = sorted } in
    let one = c.in_ok-place.ensures.stays in
    let place = c.in_ok-place.place in
    let place_is = placed m size number ways after columns key depth t is (Ok place) (c.in_ok-place.ensures.found told) in
    let finds = since gs.below gs.tells gs.limits gs.map (λ m k. FindsChild m k number place (Ok c.in_ok-child.field-0)) c.args.pages.now c.place_of.new.pages one.kept one.same c.in_ok-child.ensures.found told in
    let found = seen m size number ways after columns key depth t is place (Ok c.in_ok-child.field-0) finds in
    let two = c.in_ok-child.ensures.stays in
    let child = c.in-Some.child in
    let some = sym c.in-Some.is ∙ found in
    let batch = map (λ bytes. bytes.items) c.batch_below.new.batch.items in
    let gives = since gs.below gs.tells gs.limits gs.map (λ m k. GivesBelow m k child (ways - 1) after columns key before batch (Ok c.in_ok-batch_below.field-0)) c.args.pages.now c.child_of.new.pages (two.kept ∙ one.kept) (two.same ∙ one.same) c.in_ok-batch_below.ensures.given told in
    let three = c.in_ok-batch_below.ensures.stays in
    let asks = since gs.below gs.tells gs.limits gs.map (λ m k. CountsEntries m k number (Ok c.in_ok-len_of.field-0)) c.args.pages.now c.batch_below.new.pages (three.kept ∙ two.kept ∙ one.kept) (three.same ∙ two.same ∙ one.same) c.in_ok-len_of.ensures.counted told in
    let four = c.in_ok-len_of.ensures.stays in
    let more = map (λ bytes. bytes.items) c.push_entry.new.batch.items in
    let pushes = since gs.below gs.tells gs.limits gs.map (λ m k. PushesEntry m k number place batch more (Ok tt)) c.args.pages.now c.len_of.new.pages (four.kept ∙ three.kept ∙ two.kept ∙ one.kept) (four.same ∙ three.same ∙ two.same ∙ one.same) c.in_ok-push_entry.ensures.pushed told in
    inner m size number ways after columns key depth t is place child (λ depth t. IsBatch after columns key (entries_of depth t) more false) place_is some
    (λ less u its at_is is_some. (let all = counts m size number ways after columns key (suc less) u its (Ok c.in_ok-len_of.field-0) asks in
    let lt : place < length (entries_at (suc less) u) = omega (arith, all, c.if-branch.false) in
    let put = pushed m size number ways after columns key (suc less) u its place batch more (Ok tt) lt pushes in
    child_then m size number ways after columns key less u its batch more (omega (arith, lt, at_is)) (put ∙ ap (λ (n : ℕ). batch ++ (slice_index_or (entries_at (suc less) u) n nothing).payload ∷ []) at_is)
    (as_whole after columns key _ batch c.in_ok-batch_below.field-0 true c.if-not-branch.false (kid_batch m size number ways after columns key less u its place child at_is is_some before batch (Ok c.in_ok-batch_below.field-0) empty gives)))))
