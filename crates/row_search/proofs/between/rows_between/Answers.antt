use Rattle.std.proofs.Common.{rules, ◌≡◌, ◌∙◌, ◌++◌, ℤ, Ok, ap, filter, of_z, subst, to_z, w64, SFits}
use Rattle.std.proofs.lemmas.Int.{to_z-of_z}
use Rattle.std.specs.Prelude.{⊤}
use Rattle.pages.specs.Calls.{Stays}
use Rattle.row_search.specs.Between.{LoadsBetween, is_upto}
use Rattle.row_search.proofs.Gathering.{all_gathered, leaf_gathered, leaf_unread}
use Rattle.row_search.proofs.between.rows_between.Goals as goal

pub returns-in_err-found-clause-loaded : goal.returns-in_err-found-clause-loaded
returns-in_err-found-clause-loaded g c = λ told.
    (let gs = g.P.Pages in
    let fits : SFits w64 c.args.low = search rules in
    let same : to_z w64 (of_z w64 c.args.low) ≡ c.args.low = to_z-of_z w64 c.args.low fits in
    subst (λ (n : ℤ). LoadsBetween (gs.map c.args.pages.now) (gs.limits (gs.below c.args.pages.now)).page c.args.table n c.args.high c.from_residual.result) same
    (leaf_unread gs.below gs.tells gs.limits gs.map gs.count gs.failures c.args.pages.now c.leaves.pages c.args.table c.leaves.cursor.root (to_z w64 (of_z w64 c.args.low)) c.leaves.cursor.next
    c.next_source_rows.new.cursor.next c.leaves.rows.items c.leaves.invariant c.args.high c.in_err-found.field-0.0 c.from_residual.result c.in_err-found.ensures.given c.from_residual.ensures.1 told))

pub leaves-preserved : goal.leaves-preserved
leaves-preserved g c =
    let gs = g.P.Pages in
    let stays : Stays gs.below gs.map gs.count gs.failures {T = ⊤} (Ok tt) c.args.pages.now c.next_source_rows.new.pages = search rules in
    leaf_gathered gs.below gs.tells gs.limits gs.map gs.count gs.failures c.args.pages.now c.leaves.pages c.args.table c.leaves.cursor.root (to_z w64 (of_z w64 c.args.low)) c.leaves.cursor.next
    c.next_source_rows.new.cursor.next c.leaves.rows.items c.leaves.invariant c.in_ok-found.found c.append.new.self.items c.in_ok-found.ensures.given
    (c.in_ok-append.ensures.items ∙ ap (λ l. c.leaves.rows.items ++ l) c.into_vec-items.ensures) c.next_source_rows.new.pages c.next_source_rows.new.cursor.root c.in_ok-found.ensures.root stays

pub returns-clause-loaded : goal.returns-clause-loaded
returns-clause-loaded g c = λ told.
    (let gs = g.P.Pages in
    let fits : SFits w64 c.args.low = search rules in
    let same : to_z w64 (of_z w64 c.args.low) ≡ c.args.low = to_z-of_z w64 c.args.low fits in
    let fits_high : SFits w64 c.args.high = search rules in
    let same_high : to_z w64 (of_z w64 c.args.high) ≡ c.args.high = to_z-of_z w64 c.args.high fits_high in
    subst (λ (n : ℤ). LoadsBetween (gs.map c.args.pages.now) (gs.limits (gs.below c.args.pages.now)).page c.args.table n c.args.high (Ok c.from_vec.result)) same
    (all_gathered gs.below gs.tells gs.limits gs.map gs.count gs.failures c.rows_are_held.ensures c.args.pages.now c.leaves.pages c.args.table c.leaves.cursor.root (to_z w64 (of_z w64 c.args.low))
    c.args.high c.leaves.cursor.next c.leaves.rows.items c.from_vec.result c.leaves.invariant (search rules)
    (c.from_vec.ensures ∙ (c.cut_off.ensures ∙ ap (λ (n : ℤ). filter (is_upto n) c.leaves.rows.items) same_high)) told))
