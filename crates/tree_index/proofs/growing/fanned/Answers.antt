use Rattle.std.proofs.Common.{◌≡◌, ◌<◌, ◌∙◌, ◌++◌, ℕ, length, map, List, [], ◌∷◌, Option, sym, ap, subst, arith, slice_index_or}
use Rattle.std.proofs.lemmas.List.{map-append}
use Rattle.std.specs.Int.{w32, to_be_bytes}
use Rattle.tree_page.specs.Node.{Local, Between, IsNode}
use Rattle.tree_page.specs.Reading.{Place}
use Rattle.tree_pack.specs.Building.{right_bytes}
use Rattle.tree_pack.specs.Splicing.{Splices}
use Rattle.tree_store.specs.Storing.{cells_of}
use Rattle.tree_index.specs.Growing.{replaced, IsFanned}
use Rattle.tree_index.proofs.Fans.{fan_last, fan_mid, cell_on, cell_at, memory_err}
use Rattle.tree_index.proofs.growing.fanned.Goals as goal

nothing : ℕ × Local
nothing = (0, record { size = 0; bytes = [] })

pub returns-in_err-node-clause-fans : goal.returns-in_err-node-clause-fans
returns-in_err-node-clause-fans c = λ said news last is usual le near pair few. absurd (c.in_err-node.ensures.only (Between said last) is)

pub returns-then-place-len-clause-fans : goal.returns-then-place-len-clause-fans
returns-then-place-len-clause-fans c = λ said news last is usual le near pair few.
    (let here = subst (λ (page : Place). IsNode page.bytes page.start (Between said last)) (sym c.in_ok-node.ensures.place) is in
    let long = c.len.ensures (Between said last) here in
    let cells = ap (map (λ cell. cell.now)) c.as_slice-then-place-len.ensures.value ∙ c.in_ok-cells.ensures.cells ∙ ap (map (λ cell. cell.items)) c.as_slice.ensures.value in
    fan_last c.args.page.now c.args.place c.args.fan.now said news last is usual pair near few (omega (arith, long, le, c.if-place-len.true)) c.splice.result
    (subst (λ (news : List (List ℕ)). Splices c.args.page.now 0 c.args.place 0 news (to_be_bytes w32 c.args.fan.now.last) c.splice.result) cells c.splice.ensures.spliced))

pub returns-in_err-cell-clause-fans : goal.returns-in_err-cell-clause-fans
returns-in_err-cell-clause-fans c = λ said news last is usual le near pair few.
    (let here = subst (λ (page : Place). IsNode page.bytes page.start (Between said last)) (sym c.in_ok-node.ensures.place) is in
    let long = c.len.ensures (Between said last) here in
    absurd (c.in_err-cell.ensures.only (Between said last) here (omega (arith, long, c.if-place-len.false))))

pub returns-in_err-moved-clause-fans : goal.returns-in_err-moved-clause-fans
returns-in_err-moved-clause-fans c = λ said news last is usual le near pair few.
    (let here = subst (λ (page : Place). IsNode page.bytes page.start (Between said last)) (sym c.in_ok-node.ensures.place) is in
    let long = c.len.ensures (Between said last) here in
    let lt : c.args.place < length said = omega (arith, long, c.if-place-len.false) in
    let cell = cell_on c.in_ok-node.node c.args.page.now 0 c.args.place c.in_ok-cell.field-0.now c.in_ok-node.ensures.place c.in_ok-cell.ensures.only (Between said last) is lt in
    memory_err (IsFanned c.args.page.now (replaced c.args.place (news, c.args.fan.now.last) said last) c.args.fan.now) c.from_residual-in_err-moved.result c.in_err-moved.field-0.0
    c.from_residual-in_err-moved.ensures.1
    (c.in_err-moved.ensures.parents (length c.args.page.now) (slice_index_or said c.args.place nothing) (cell_at c.args.page.now c.args.place said last nothing is c.in_ok-cell.field-0.now cell lt)))

pub returns-clause-fans : goal.returns-clause-fans
returns-clause-fans c = λ said news last is usual le near pair few.
    (let here = subst (λ (page : Place). IsNode page.bytes page.start (Between said last)) (sym c.in_ok-node.ensures.place) is in
    let long = c.len.ensures (Between said last) here in
    let lt : c.args.place < length said = omega (arith, long, c.if-place-len.false) in
    let cell = cell_on c.in_ok-node.node c.args.page.now 0 c.args.place c.in_ok-cell.field-0.now c.in_ok-node.ensures.place c.in_ok-cell.ensures.only (Between said last) is lt in
    let moved = c.in_ok-moved.ensures.parents (length c.args.page.now) (slice_index_or said c.args.place nothing) (cell_at c.args.page.now c.args.place said last nothing is c.in_ok-cell.field-0.now cell lt) in
    let pushed : map (λ cell. cell.now) c.as_slice-4.result.now ≡ cells_of c.args.fan.now ++ c.in_ok-moved.moved.items ∷ [] = (
    ap (map (λ cell. cell.now)) (c.as_slice-4.ensures.value ∙ c.in_ok-push.ensures.items) ∙ map-append (λ cell. cell.now) c.in_ok-cells-2.cells.items (c.as_slice-3.result ∷ [])
    ∙ ap (λ xs. xs ++ c.as_slice-3.result.now ∷ []) (c.in_ok-cells-2.ensures.cells ∙ ap (map (λ cell. cell.items)) c.as_slice-2.ensures.value) ∙ ap (λ x. cells_of c.args.fan.now ++ x ∷ []) c.as_slice-3.ensures.value) in
    let right : right_bytes c.last_child.result ≡ to_be_bytes w32 last = ap (λ (r : Option ℕ). right_bytes r) (c.last_child.ensures (Between said last) here) in
    fan_mid c.args.page.now c.args.place c.args.fan.now said news last is usual pair near few nothing c.in_ok-moved.moved.items lt moved.0 (moved.1 ∙ ap length cell) is.say.1 c.splice-2.result
    (subst (λ (bytes : List ℕ). Splices c.args.page.now 0 c.args.place 1 (cells_of c.args.fan.now ++ c.in_ok-moved.moved.items ∷ []) bytes c.splice-2.result) right
    (subst (λ (news : List (List ℕ)). Splices c.args.page.now 0 c.args.place 1 news (right_bytes c.last_child.result) c.splice-2.result) pushed c.splice-2.ensures.spliced)))
