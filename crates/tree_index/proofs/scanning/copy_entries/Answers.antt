use Rattle.std.proofs.Common.{◌≡◌, ◌≤◌, ◌+◌, ap, subst, ◌∙◌, ℕ, map, min, nat_le, Ok, arith}
use Rattle.pages.specs.Map.{page_at}
use Rattle.tree_page.specs.Payload.{index_most}
use Rattle.tree_overflow.proofs.ReadChains.{stays_after}
use Rattle.tree_index.proofs.Batches.{all_there, starts, unpushed, goes_on, inside, all_copied, stays_passed}
use Rattle.tree_index.proofs.Readings.{refused, since}
use Rattle.tree_index.proofs.scanning.copy_entries.Goals as goal

pub returns-in_err-first-clause-copied : goal.returns-in_err-first-clause-copied
returns-in_err-first-clause-copied g c = λ told node entries whole has.
    (let gs = g.P.Pages in
    let m = gs.map c.args.pages.now in
    let size = (gs.limits (gs.below c.args.pages.now)).page in
    let counted = c.in_ok-len.ensures.stays in
    let loaded = since gs.below gs.tells gs.limits gs.map (λ m n. c.loaded.result.now ≡ page_at m c.args.number) c.args.pages.now c.len_of.new.pages counted.kept counted.same (λ now. c.loaded.ensures ∙ c.in_ok-load.ensures.bytes now) told in
    let most = c.most_in-whole.ensures ∙ ap index_most (c.page_size.ensures ∙ ap (λ k. (gs.limits k).page) (c.in_ok-load.ensures.stays.kept ∙ counted.kept)) in
    let len = c.in_ok-len.ensures.counted told node entries whole has in
    let count = c.min-count.ensures ∙ ap (min c.args.most) c.saturating_sub-left.ensures in
    refused _ _ c.in_err-first.field-0.0 c.from_residual-in_err-first.ensures.1
    (c.in_err-first.ensures.copied m size loaded most node entries has (λ lt. subst (λ (n : ℕ). c.args.place + c.min-count.result ≤ n) len (all_there c.args.place c.args.most c.in_ok-len.len c.min-count.result count lt))))

pub entries-init : goal.entries-init
entries-init g c =
    (let gs = g.P.Pages in
    starts gs.below gs.tells gs.limits gs.map gs.count gs.failures c.args.pages.now c.len_of.new.pages c.load.new.self c.args.number c.args.place c.min-count.result c.in_ok-first.first c.in_ok-len.len
    (map (λ bytes. bytes.items) c.args.batch.now.items) (map (λ bytes. bytes.items) c.copy_first.new.batch.items) c.in_ok-len.ensures.stays c.in_ok-load.ensures.stays c.in_ok-first.ensures.from
    (λ told node entries whole has.
    (let m = gs.map c.args.pages.now in
    let size = (gs.limits (gs.below c.args.pages.now)).page in
    let counted = c.in_ok-len.ensures.stays in
    let loaded = since gs.below gs.tells gs.limits gs.map (λ m n. c.loaded.result.now ≡ page_at m c.args.number) c.args.pages.now c.len_of.new.pages counted.kept counted.same (λ now. c.loaded.ensures ∙ c.in_ok-load.ensures.bytes now) told in
    let most = c.most_in-whole.ensures ∙ ap index_most (c.page_size.ensures ∙ ap (λ k. (gs.limits k).page) (c.in_ok-load.ensures.stays.kept ∙ counted.kept)) in
    let len = c.in_ok-len.ensures.counted told node entries whole has in
    let count = c.min-count.ensures ∙ ap (min c.args.most) c.saturating_sub-left.ensures in
    c.in_ok-first.ensures.copied m size loaded most node entries has (λ lt. subst (λ (n : ℕ). c.args.place + c.min-count.result ≤ n) len (all_there c.args.place c.args.most c.in_ok-len.len c.min-count.result count lt)))))

pub returns-in_err-push_entry-clause-copied : goal.returns-in_err-push_entry-clause-copied
returns-in_err-push_entry-clause-copied g c = λ told node entries whole has.
    (let gs = g.P.Pages in
    refused _ _ c.in_err-push_entry.field-0.0 c.from_residual-in_err-push_entry.ensures.1
    (unpushed gs.below gs.tells gs.limits gs.map gs.count gs.failures c.args.pages.now c.entries.pages c.push_entry.new.pages c.args.number c.args.place c.min-count.result c.entries.at c.in_ok-len.len (map (λ bytes. bytes.items) c.args.batch.now.items)
    (map (λ bytes. bytes.items) c.entries.batch.items) c.entries.invariant c.entries-test.true (inside c.args.place c.args.most c.in_ok-len.len c.min-count.result c.entries.at (c.min-count.ensures ∙ ap (min c.args.most) c.saturating_sub-left.ensures) c.entries-test.true c.entries.invariant.from) c.in_ok-len.ensures.counted (map (λ bytes. bytes.items) c.push_entry.new.batch.items) c.in_err-push_entry.field-0.0 c.in_err-push_entry.ensures.pushed told node entries whole has))

pub entries-preserved : goal.entries-preserved
entries-preserved g c =
    (let gs = g.P.Pages in
    goes_on gs.below gs.tells gs.limits gs.map gs.count gs.failures c.args.pages.now c.entries.pages c.push_entry.new.pages c.args.number c.args.place c.min-count.result c.entries.at c.in_ok-len.len (map (λ bytes. bytes.items) c.args.batch.now.items)
    (map (λ bytes. bytes.items) c.entries.batch.items) c.entries.invariant c.entries-test.true (inside c.args.place c.args.most c.in_ok-len.len c.min-count.result c.entries.at (c.min-count.ensures ∙ ap (min c.args.most) c.saturating_sub-left.ensures) c.entries-test.true c.entries.invariant.from) c.in_ok-len.ensures.counted (map (λ bytes. bytes.items) c.push_entry.new.batch.items) c.in_ok-push_entry.ensures.pushed c.in_ok-push_entry.ensures.stays)

pub returns-clause-copied : goal.returns-clause-copied
returns-clause-copied g c = λ told.
    (let gs = g.P.Pages in
    let left = c.saturating_sub-left.ensures in
    all_copied gs.below gs.tells gs.limits gs.map gs.count gs.failures c.args.pages.now c.entries.pages c.args.number c.args.place c.min-count.result c.args.most c.entries.at c.in_ok-len.len (map (λ bytes. bytes.items) c.args.batch.now.items)
    (map (λ bytes. bytes.items) c.entries.batch.items) _ c.entries.invariant (omega (arith, c.entries-test.false)) (c.min-count.ensures ∙ ap (min c.args.most) left) (ap (λ (n : ℕ). nat_le n c.args.most) left) c.in_ok-len.ensures.counted told)

pub returns-in_err-push_entry-clause-stays : goal.returns-in_err-push_entry-clause-stays
returns-in_err-push_entry-clause-stays g c =
    (let gs = g.P.Pages in
    let result = c.from_residual-in_err-push_entry.result in
    stays_after gs.below gs.map gs.count gs.failures (Ok tt) result c.args.pages.now c.entries.pages c.push_entry.new.pages c.entries.invariant.stays
    (stays_passed gs.below gs.map gs.count gs.failures c.in_err-push_entry.field-0.0 result c.entries.pages c.push_entry.new.pages c.in_err-push_entry.ensures.stays c.from_residual-in_err-push_entry.ensures.1))
