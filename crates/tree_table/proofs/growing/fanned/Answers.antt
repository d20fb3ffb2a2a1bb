use Rattle.std.proofs.Common.{◌≡◌, ◌<◌, ◌∙◌, ◌++◌, ℕ, pos, length, map, List, [], ◌∷◌, Option, sym, ap, subst, arith, slice_index_or}
use Rattle.std.proofs.lemmas.List.{map-append}
use Rattle.std.specs.Int.{w32, to_be_bytes}
use Rattle.tree_page.specs.Node.{Keys, IsNode}
use Rattle.tree_page.specs.Reading.{Place}
use Rattle.tree_pack.specs.Building.{right_bytes}
use Rattle.tree_pack.specs.Splicing.{Splices}
use Rattle.tree_store.specs.Storing.{cells_of}
use Rattle.tree_table.specs.Fanning.{fanned, IsFanned}
use Rattle.tree_table.proofs.Fans.{fan_last, fan_mid, cell_on, key_at, memory_err}
use Rattle.tree_table.proofs.growing.fanned.Goals as goal

pub returns-in_err-node-clause-fans : goal.returns-in_err-node-clause-fans
returns-in_err-node-clause-fans c = λ kids news last is usual le near pair. absurd (c.in_err-node.ensures.only (Keys kids last) is)

pub returns-then-place-len-clause-fans : goal.returns-then-place-len-clause-fans
returns-then-place-len-clause-fans c = λ kids news last is usual le near pair.
    (let here = subst (λ (page : Place). IsNode page.bytes page.start (Keys kids last)) (sym c.in_ok-node.ensures.place) is in
    let long = c.len.ensures (Keys kids last) here in
    let cells = ap (map (λ cell. cell.now)) c.as_slice.ensures.value ∙ c.in_ok-cells.ensures.cells in
    fan_last c.args.page.now c.args.start c.args.place c.args.fan.now kids news last is usual pair near (omega (arith, long, le, c.if-place-len.true)) c.splice.result
    (subst (λ (news : List (List ℕ)). Splices c.args.page.now c.args.start c.args.place 0 news (to_be_bytes w32 c.args.fan.now.last) c.splice.result) cells c.splice.ensures.spliced))

pub returns-in_err-cell-clause-fans : goal.returns-in_err-cell-clause-fans
returns-in_err-cell-clause-fans c = λ kids news last is usual le near pair.
    (let here = subst (λ (page : Place). IsNode page.bytes page.start (Keys kids last)) (sym c.in_ok-node.ensures.place) is in
    let long = c.len.ensures (Keys kids last) here in
    absurd (c.in_err-cell.ensures.only (Keys kids last) here (omega (arith, long, c.if-place-len.false))))

pub returns-in_err-moved-clause-fans : goal.returns-in_err-moved-clause-fans
returns-in_err-moved-clause-fans c = λ kids news last is usual le near pair.
    (let here = subst (λ (page : Place). IsNode page.bytes page.start (Keys kids last)) (sym c.in_ok-node.ensures.place) is in
    let long = c.len.ensures (Keys kids last) here in
    let lt : c.args.place < length kids = omega (arith, long, c.if-place-len.false) in
    let cell = cell_on c.in_ok-node.node c.args.page.now c.args.start c.args.place c.in_ok-cell.field-0.now c.in_ok-node.ensures.place c.in_ok-cell.ensures.only (Keys kids last) is lt in
    memory_err (IsFanned c.args.page.now c.args.start (fanned c.args.place news c.args.fan.now.last kids last) c.args.fan.now) c.from_residual-in_err-moved.result c.in_err-moved.field-0.0
    c.from_residual-in_err-moved.ensures.1
    (c.in_err-moved.ensures.parents (slice_index_or kids c.args.place (0, pos 0)) (key_at c.args.page.now c.args.start c.args.place kids last (0, pos 0) is c.in_ok-cell.field-0.now cell lt)))

pub returns-clause-fans : goal.returns-clause-fans
returns-clause-fans c = λ kids news last is usual le near pair.
    (let here = subst (λ (page : Place). IsNode page.bytes page.start (Keys kids last)) (sym c.in_ok-node.ensures.place) is in
    let long = c.len.ensures (Keys kids last) here in
    let lt : c.args.place < length kids = omega (arith, long, c.if-place-len.false) in
    let cell = cell_on c.in_ok-node.node c.args.page.now c.args.start c.args.place c.in_ok-cell.field-0.now c.in_ok-node.ensures.place c.in_ok-cell.ensures.only (Keys kids last) is lt in
    let moved = c.in_ok-moved.ensures.parents (slice_index_or kids c.args.place (0, pos 0)) (key_at c.args.page.now c.args.start c.args.place kids last (0, pos 0) is c.in_ok-cell.field-0.now cell lt) in
    let pushed : map (λ cell. cell.now) c.as_slice-3.result.now ≡ cells_of c.args.fan.now ++ c.in_ok-moved.moved.items ∷ [] = (
    ap (map (λ cell. cell.now)) (c.as_slice-3.ensures.value ∙ c.in_ok-push.ensures.items) ∙ map-append (λ cell. cell.now) c.in_ok-cells-2.cells.items (c.as_slice-2.result ∷ [])
    ∙ ap (λ xs. xs ++ c.as_slice-2.result.now ∷ []) c.in_ok-cells-2.ensures.cells ∙ ap (λ x. cells_of c.args.fan.now ++ x ∷ []) c.as_slice-2.ensures.value) in
    let right : right_bytes c.last_child.result ≡ to_be_bytes w32 last = ap (λ (r : Option ℕ). right_bytes r) (c.last_child.ensures (Keys kids last) here) in
    fan_mid c.args.page.now c.args.start c.args.place c.args.fan.now kids news last is usual pair near (0, pos 0) c.in_ok-moved.moved.items lt moved.0 (moved.1 ∙ ap length cell) is.say.1 c.splice-2.result
    (subst (λ (bytes : List ℕ). Splices c.args.page.now c.args.start c.args.place 1 (cells_of c.args.fan.now ++ c.in_ok-moved.moved.items ∷ []) bytes c.splice-2.result) right
    (subst (λ (news : List (List ℕ)). Splices c.args.page.now c.args.start c.args.place 1 news (right_bytes c.last_child.result) c.splice-2.result) pushed c.splice-2.ensures.spliced)))
