use Rattle.std.proofs.Common.{rules, ◌≡◌, ◌∙◌, ℕ, List, length, take, IsTrue, Ok, Err, Option, Some, inl, sym, ap, subst}
use Rattle.pages.specs.Map.{PageMap, page_at}
use Rattle.tree_pack.specs.declared.spreading.Packed.{Packed}
use Rattle.tree_table.specs.Growing.{below_of, IsPlanned}
use Rattle.tree_table.specs.Rows.{with_changes, IsLocal}
use Rattle.tree_table.specs.Runs.{ExchangesLeaf, IsRunUnder}
use Rattle.tree_table.specs.Rewriting.{Rewrites}
use Rattle.tree_table.specs.Tree.{rows_of}
use Rattle.tree_table.specs.declared.changing.RowChange.{RowChange}
use Rattle.tree_table.proofs.Descents.{since}
use Rattle.tree_table.proofs.Exits.{full_err, outside_full}
use Rattle.tree_table.proofs.RunMade.{old_there, found, rewritten_made}
use Rattle.tree_table.proofs.runs.changed_leaf.Goals as goal

pub returns-in_err-load-clause-changed : goal.returns-in_err-load-clause-changed
returns-in_err-load-clause-changed g c = λ told ways rowid low t high free under first lt same.
    (let gs = g.P.Pages in
    let pages = c.args.pages.now in
    let old = gs.map pages in
    let size = (gs.limits (gs.below pages)).page in
    let number = c.args.number in
    let place = c.args.place in
    let changes = c.args.changes.now in
    outside_full _ c.from_residual.result c.in_err-load.field-0.0 c.from_residual.ensures.1 (c.in_err-load.ensures.refusal told (old_there old size number ways rowid low t high free under changes first place lt same)))

pub returns-in_err-places-clause-changed : goal.returns-in_err-places-clause-changed
returns-in_err-places-clause-changed g c = λ told ways rowid low t high free under first lt same.
    (let gs = g.P.Pages in
    let pages = c.args.pages.now in
    let old = gs.map pages in
    let size = (gs.limits (gs.below pages)).page in
    let number = c.args.number in
    let place = c.args.place in
    let changes = c.args.changes.now in
    let read : c.loaded.result.now ≡ page_at old number = c.loaded.ensures ∙ c.in_ok-load.ensures.bytes told in
    outside_full _ c.from_residual-in_err-places.result c.in_err-places.field-0.0 c.from_residual-in_err-places.ensures.1
    (inl (found old size number ways rowid low t high free under changes first place lt same c.loaded.result.now c.start_of-start.result (Err c.in_err-places.field-0.0) read c.start_of-start.ensures c.in_err-places.ensures.found)))

pub returns-in-Some-clause-changed : goal.returns-in-Some-clause-changed
returns-in-Some-clause-changed g c = λ told ways rowid low t high free under first lt same.
    (let gs = g.P.Pages in
    let pages = c.args.pages.now in
    let old = gs.map pages in
    let size = (gs.limits (gs.below pages)).page in
    let number = c.args.number in
    let place = c.args.place in
    let changes = c.args.changes.now in
    let read : c.loaded.result.now ≡ page_at old number = c.loaded.ensures ∙ c.in_ok-load.ensures.bytes told in
    let stays = c.in_ok-load.ensures.stays in
    let places = c.in_ok-places.places.items in
    let run = found old size number ways rowid low t high free under changes first place lt same c.loaded.result.now c.start_of-start.result (Ok c.in_ok-places.places) read c.start_of-start.ensures c.in_ok-places.ensures.found in
    let count : c.len-count.result ≡ length places = search rules in
    let front : c.split_at.result.0.now ≡ take c.len-count.result changes = c.split_at.ensures.front in
    let made : c.split_at.result.0.now ≡ take (length places) changes = front ∙ ap (λ (n : ℕ). take n changes) count in
    let so : Rewrites c.loaded-2.result.now c.start_of-start.result places c.split_at.result.0.now (Ok (Some c.in-Some.packed)) =
    subst (λ (ps : List ℕ). Rewrites c.loaded-2.result.now c.start_of-start.result ps c.split_at.result.0.now (Ok (Some c.in-Some.packed))) c.as_slice.ensures.value
    (subst (λ (o : Option Packed). Rewrites c.loaded-2.result.now c.start_of-start.result c.as_slice.result.now c.split_at.result.0.now (Ok o)) c.in-Some.is c.in_ok-packed.ensures.rewritten) in
    let again : c.loaded-2.result.now ≡ page_at old number = c.loaded-2.ensures ∙ c.in_ok-load.ensures.bytes told in
    let done = rewritten_made old size number ways rowid low t high free under changes first place lt same places run c.loaded-2.result.now c.start_of-start.result c.split_at.result.0.now c.in-Some.packed again c.start_of-start.ensures made so in
    subst (λ (cs : List RowChange). IsLocal rowid high (with_changes cs)
    × IsPlanned old (gs.map c.load.new.self) size number 0 low high (with_changes cs (rows_of 0 t)) (below_of 0 t) free c.in-Some.packed) front
    (subst (λ (m : PageMap). IsLocal rowid high (with_changes c.split_at.result.0.now)
    × IsPlanned old m size number 0 low high (with_changes c.split_at.result.0.now (rows_of 0 t)) (below_of 0 t) free c.in-Some.packed) (sym stays.same) done))

pub returns-in_err-packed-2-clause-changed : goal.returns-in_err-packed-2-clause-changed
returns-in_err-packed-2-clause-changed g c = λ told ways rowid low t high free under first lt same.
    (let gs = g.P.Pages in
    let pages = c.args.pages.now in
    let old = gs.map pages in
    let size = (gs.limits (gs.below pages)).page in
    let number = c.args.number in
    let place = c.args.place in
    let changes = c.args.changes.now in
    let read : c.loaded.result.now ≡ page_at old number = c.loaded.ensures ∙ c.in_ok-load.ensures.bytes told in
    let stays = c.in_ok-load.ensures.stays in
    let places = c.in_ok-places.places.items in
    let run = found old size number ways rowid low t high free under changes first place lt same c.loaded.result.now c.start_of-start.result (Ok c.in_ok-places.places) read c.start_of-start.ensures c.in_ok-places.ensures.found in
    let count : c.len-count.result ≡ length places = search rules in
    let front : c.split_at.result.0.now ≡ take c.len-count.result changes = c.split_at.ensures.front in
    let made : c.split_at.result.0.now ≡ take (length places) changes = front ∙ ap (λ (n : ℕ). take n changes) count in
    let so : IsRunUnder old size number ways rowid low t high free changes c.split_at.result.0.now places = record { under = under; first = first; place = place; within = lt; same = same; run = run; made = made } in
    let leaf = subst (λ (ps : List ℕ). IsTrue (gs.tells (gs.below pages)) → ExchangesLeaf old (gs.map c.exchanged_leaf.new.pages) size number ps c.split_at.result.0.now (Err c.in_err-packed-2.field-0.0)) c.as_slice-2.ensures.value
    (λ told. since gs.below gs.tells gs.limits gs.map pages c.load.new.self (λ (m : PageMap) (n : ℕ). ExchangesLeaf m (gs.map c.exchanged_leaf.new.pages) n number c.as_slice-2.result.now c.split_at.result.0.now (Err c.in_err-packed-2.field-0.0)) stays.kept stays.same c.in_err-packed-2.ensures.exchanged told) in
    full_err _ c.from_residual-in_err-packed-2.result c.in_err-packed-2.field-0.0 c.from_residual-in_err-packed-2.ensures.1 (leaf told ways rowid low t high free changes so))

pub returns-clause-changed : goal.returns-clause-changed
returns-clause-changed g c = λ told ways rowid low t high free under first lt same.
    (let gs = g.P.Pages in
    let pages = c.args.pages.now in
    let old = gs.map pages in
    let size = (gs.limits (gs.below pages)).page in
    let number = c.args.number in
    let place = c.args.place in
    let changes = c.args.changes.now in
    let read : c.loaded.result.now ≡ page_at old number = c.loaded.ensures ∙ c.in_ok-load.ensures.bytes told in
    let stays = c.in_ok-load.ensures.stays in
    let places = c.in_ok-places.places.items in
    let run = found old size number ways rowid low t high free under changes first place lt same c.loaded.result.now c.start_of-start.result (Ok c.in_ok-places.places) read c.start_of-start.ensures c.in_ok-places.ensures.found in
    let count : c.len-count.result ≡ length places = search rules in
    let front : c.split_at.result.0.now ≡ take c.len-count.result changes = c.split_at.ensures.front in
    let made : c.split_at.result.0.now ≡ take (length places) changes = front ∙ ap (λ (n : ℕ). take n changes) count in
    let so : IsRunUnder old size number ways rowid low t high free changes c.split_at.result.0.now places = record { under = under; first = first; place = place; within = lt; same = same; run = run; made = made } in
    let leaf = subst (λ (ps : List ℕ). IsTrue (gs.tells (gs.below pages)) → ExchangesLeaf old (gs.map c.exchanged_leaf.new.pages) size number ps c.split_at.result.0.now (Ok c.in_ok-packed-2.packed)) c.as_slice-2.ensures.value
    (λ told. since gs.below gs.tells gs.limits gs.map pages c.load.new.self (λ (m : PageMap) (n : ℕ). ExchangesLeaf m (gs.map c.exchanged_leaf.new.pages) n number c.as_slice-2.result.now c.split_at.result.0.now (Ok c.in_ok-packed-2.packed)) stays.kept stays.same c.in_ok-packed-2.ensures.exchanged told) in
    subst (λ (cs : List RowChange). IsLocal rowid high (with_changes cs)
    × IsPlanned old (gs.map c.exchanged_leaf.new.pages) size number 0 low high (with_changes cs (rows_of 0 t)) (below_of 0 t) free c.in_ok-packed-2.packed) front
    (leaf told ways rowid low t high free changes so))
