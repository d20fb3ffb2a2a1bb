use Rattle.std.proofs.Common.{rules, ◌∙◌, ℕ, List, map, Ok, Err, ap, sym, subst}
use Rattle.std.specs.Global.{Vec}
use Rattle.std.proofs.lemmas.List.{nil_from_length}
use Rattle.tree_index.specs.Flattening.{ReadsKid, ReadsKids}
use Rattle.tree_index.proofs.KidCells.{none_read, next_read, next_unread, read_since}
use Rattle.tree_index.proofs.flattening.read_kids.Goals as goal

abbrev bytes_of : List (Vec ℕ) → List (List ℕ)
bytes_of cells = map (λ cell. cell.items) cells

pub returns-in_err-read_kid-clause-read : goal.returns-in_err-read_kid-clause-read
returns-in_err-read_kid-clause-read g c = λ told.
    (let gs = g.P.Pages in
    let first = c.args.pages.now in
    let old = gs.map first in
    let size = (gs.limits (gs.below first)).page in
    let has = c.kids.invariant in
    let out = bytes_of c.kids.out.items in
    let after = bytes_of c.read_kid.new.out.items in
    let fault = c.in_err-read_kid.field-0.0 in
    let reads = read_since gs.below gs.tells gs.limits gs.map gs.count gs.failures first c.kids.pages c.as_slice.result.now out after (Err fault) has.kept has.same c.in_err-read_kid.ensures.read told in
    let cell = subst (λ (bytes : List ℕ). ReadsKid old size bytes out after (Err fault)) c.as_slice.ensures.value reads in
    has.read told after c.from_residual.result
    (subst (λ (cells : List (List ℕ)). ReadsKids old size cells out after c.from_residual.result) (ap bytes_of (sym c.in-Some.ensures.cases.0))
    (next_unread old size c.in-Some.cell.now.items (bytes_of c.in-Some.after.now) out after after fault c.from_residual.result cell c.from_residual.ensures.1)))

pub kids-preserved : goal.kids-preserved
kids-preserved g c =
    let gs = g.P.Pages in
    let first = c.args.pages.now in
    let old = gs.map first in
    let size = (gs.limits (gs.below first)).page in
    let has = c.kids.invariant in
    let stays = c.in_ok-read_kid.ensures.stays in
    let out = bytes_of c.kids.out.items in
    let mid = bytes_of c.read_kid.new.out.items in
    record {
      kept = stays.kept ∙ has.kept;
      same = stays.same ∙ has.same;
      counted = stays.counted ∙ has.counted;
      causes = search rules;
      read = λ told after result rest.
          (let reads = read_since gs.below gs.tells gs.limits gs.map gs.count gs.failures first c.kids.pages c.as_slice.result.now out mid (Ok tt) has.kept has.same c.in_ok-read_kid.ensures.read told in
          let cell = subst (λ (bytes : List ℕ). ReadsKid old size bytes out mid (Ok tt)) c.as_slice.ensures.value reads in
          has.read told after result
          (subst (λ (cells : List (List ℕ)). ReadsKids old size cells out after result) (ap bytes_of (sym c.in-Some.ensures.cases.0))
          (next_read old size c.in-Some.cell.now.items (bytes_of c.in-Some.after.now) out mid after result cell rest)));
    }

pub returns-clause-read : goal.returns-clause-read
returns-clause-read g c = λ told.
    (let gs = g.P.Pages in
    let first = c.args.pages.now in
    let old = gs.map first in
    let size = (gs.limits (gs.below first)).page in
    let out = bytes_of c.kids.out.items in
    c.kids.invariant.read told out (Ok tt)
    (subst (λ (cells : List (Vec ℕ)). ReadsKids old size (bytes_of cells) out out (Ok tt)) (sym (nil_from_length c.kids.left.now c.in_default.ensures.cases)) (none_read old size out)))
