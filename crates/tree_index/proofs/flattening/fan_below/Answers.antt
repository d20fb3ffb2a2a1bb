use Rattle.std.proofs.Common.{◌≡◌, ℕ, List, [], map, Ok, Err, ap, subst}
use Rattle.std.specs.Global.{Vec}
use Rattle.tree_index.specs.Flattening.{ReadsKids}
use Rattle.tree_index.proofs.KidCells.{cells_since, fan_read}
use Rattle.tree_index.proofs.Readings.{refused}
use Rattle.tree_index.proofs.flattening.fan_below.Goals as goal

abbrev bytes_of : List (Vec ℕ) → List (List ℕ)
bytes_of cells = map (λ cell. cell.items) cells

pub returns-in_err-last-clause-read : goal.returns-in_err-last-clause-read
returns-in_err-last-clause-read g c = λ told sides side whole leads says.
    (let gs = g.P.Pages in
    let first = c.args.pages.now in
    let stays = c.in_ok-read_kids.ensures.stays in
    let reads = cells_since gs.below gs.tells gs.limits gs.map gs.count gs.failures first c.read_kids.new.pages c.args.fan.now.last (bytes_of c.read_kids.new.out.items) (bytes_of c.read_cells.new.out.items) (Err c.in_err-last.field-0.0)
    stays.kept stays.same c.in_err-last.ensures.read told in
    refused _ c.from_residual-in_err-last.result c.in_err-last.field-0.0 c.from_residual-in_err-last.ensures.1 (reads side.0 side.1 whole says))

pub returns-clause-read : goal.returns-clause-read
returns-clause-read g c = λ told sides side whole leads says.
    (let gs = g.P.Pages in
    let first = c.args.pages.now in
    let m = gs.map first in
    let size = (gs.limits (gs.below first)).page in
    let stays = c.in_ok-read_kids.ensures.stays in
    let none : bytes_of c.new-cells.result.items ≡ [] = ap bytes_of c.new-cells.ensures.items in
    let mid = bytes_of c.read_kids.new.out.items in
    let after = bytes_of c.read_cells.new.out.items in
    let kids = subst (λ (cells : List (Vec ℕ)). ReadsKids m size (bytes_of cells) [] mid (Ok tt)) c.as_slice.ensures.value
    (subst (λ (before : List (List ℕ)). ReadsKids m size (bytes_of c.as_slice.result.now) before mid (Ok tt)) none (c.in_ok-read_kids.ensures.read told)) in
    let reads = cells_since gs.below gs.tells gs.limits gs.map gs.count gs.failures first c.read_kids.new.pages c.args.fan.now.last mid after (Ok c.in_ok-last.last) stays.kept stays.same c.in_ok-last.ensures.read told in
    let fan = fan_read size side.1 mid after sides side.0 (Ok c.in_ok-last.last) (kids sides whole leads) (reads side.0 side.1 whole says) in
    record { cells = fan.0; last_is = fan.1; near = says.node_is.say.1 })
