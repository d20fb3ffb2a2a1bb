use Rattle.std.proofs.Common.{◌≡◌, ◌<◌, ◌+◌, ◌++◌, ◌∷◌, [], ℕ, List, length, take, min, slice_index_or, sym, subst, ap, ◌∙◌, arith}
use Rattle.std.proofs.lemmas.Bool.Decides.{nat_tests}
use Rattle.std.proofs.lemmas.List.{take_more, take_all, length-take-le}
use Rattle.tree_page.specs.Node.{IsRowCell}
use Rattle.tree_page.proofs.HeaderLemmas.{same_length}
use Rattle.tree_table.specs.Rewriting.{AreRewritten}
use Rattle.tree_table.specs.Runs.{AreRising}
use Rattle.tree_table.specs.Stepping.{HasRowid}
use Rattle.tree_table.specs.declared.changing.RowChange.{RowChange}
use Rattle.tree_table.proofs.RewrittenRows.{none_rewritten, on_page, one_rewritten, run_long, run_rise, run_has, rise_take}
use Rattle.tree_table.proofs.rewriting.rewritten.Goals as goal

pub places-init : goal.places-init
places-init c = λ said is run. none_rewritten c.args.bytes.now c.args.start said is c.in_ok-page.page.items (c.in_ok-page.ensures.items_if_clones_equal (λ x y same. same))

pub places-preserved : goal.places-preserved
places-preserved c = λ said is run.
    (let so = c.places.invariant said is run in
    let page = c.args.bytes.now in
    let places = c.args.places.now in
    let changes = c.args.changes.now in
    let i = c.places.index in
    let change = c.index-changes-index.result in
    let place = slice_index_or places i 0 in
    let test = c.places-test.true in
    let most = c.min-most.ensures in
    let long = run_long 0 said changes places run in
    let min_is : min (length places) (length changes) ≡ length places = grind (arith, nat_tests) in
    let lt : i < length places = omega (arith, test, most, min_is) in
    let lt_changes : i < length changes = omega (arith, lt, long) in
    let counted : length said ≡ length is.cells = sym (same_length (IsRowCell (length page)) is.cells said is.say) in
    let more = take_more places i 0 lt in
    let rise = subst (λ (ps : List ℕ). AreRising 0 (length is.cells) ps) more (rise_take 0 (length is.cells) places (i + 1) (subst (λ (n : ℕ). AreRising 0 n places) counted (run_rise 0 said changes places run))) in
    let same : length (take i places) ≡ length (take i changes) = (let a = length-take-le i places (omega (arith, lt)) in let b = length-take-le i changes (omega (arith, lt_changes)) in omega (arith, a, b)) in
    let is_change : change ≡ slice_index_or changes i change = c.index-changes-index.is in
    let has = subst (λ (x : RowChange). HasRowid x.rowid said place) (sym is_change) (run_has 0 said changes places run i lt change) in
    let on = on_page page c.args.start said is (take i places) (take i changes) c.places.page.items so place change rise same in
    let r = c.rewrite.ensures _ so.placed.is on c.if-not-rewrite.false in
    let done = one_rewritten page c.args.start said is (take i places) (take i changes) c.places.page.items so place change rise same r.0 c.rewrite.new.page.items counted has r.1 r.2 in
    let more_changes : take i changes ++ change ∷ [] ≡ take (i + 1) changes = ap (λ (x : RowChange). take i changes ++ x ∷ []) is_change ∙ sym (take_more changes i change lt_changes) in
    subst (λ (ps : List ℕ). AreRewritten page c.args.start said is ps (take (i + 1) changes) c.rewrite.new.page.items) (sym more)
    (subst (λ (cs : List RowChange). AreRewritten page c.args.start said is (take i places ++ place ∷ []) cs c.rewrite.new.page.items) more_changes done))

pub returns-clause-rewritten : goal.returns-clause-rewritten
returns-clause-rewritten c = λ said is run.
    (let so = c.places.invariant said is run in
    let page = c.args.bytes.now in
    let places = c.args.places.now in
    let changes = c.args.changes.now in
    let i = c.places.index in
    let past = c.places-test.false in
    let end = c.places.auto.index-end in
    let most = c.min-most.ensures in
    let long = run_long 0 said changes places run in
    let min_is : min (length places) (length changes) ≡ length places = grind (arith, nat_tests) in
    let i_is : i ≡ length places = omega (arith, past, end, most, min_is) in (
      c.new.ensures.items,
      subst (λ (ps : List ℕ). AreRewritten page c.args.start said is ps (take (length places) changes) c.places.page.items) (take_all (length places) places (omega arith))
          (subst (λ (n : ℕ). AreRewritten page c.args.start said is (take n places) (take n changes) c.places.page.items) i_is so),
    ))
