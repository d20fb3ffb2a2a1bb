use Rattle.std.proofs.Common.{◌≡◌, ◌∙◌, ℕ, Vec, Global, List, [], map, false, Ok, refl, ap, subst, inl}
use Rattle.sqlval.specs.declared.value.Value.{Value}
use Rattle.tree_index.specs.Scanning.{GivesBelow}
use Rattle.tree_index.proofs.Batches.{as_whole, root_batch, ends_with, given_some}
use Rattle.tree_index.proofs.Readings.{refused}
use Rattle.tree_index.proofs.scanning.Cursor.next_batch.Goals as goal

pub returns-in_err-self-clause-given : goal.returns-in_err-self-clause-given
returns-in_err-self-clause-given g c = λ told entries used whole tree.
    (let gs = g.P.Pages in
    let m = gs.map c.args.pages.now in
    let size = (gs.limits (gs.below c.args.pages.now)).page in
    let root = c.args.self.now.root in
    let after = c.args.self.now.after in
    let columns = c.args.columns.now in
    let key = c.args.self.now.key.items in
    let before = map (λ bytes. bytes.items) c.replace-spare.new.dest.items in
    let batch = map (λ bytes. bytes.items) c.batch_below.new.batch.items in
    let empty : before ≡ [] = ap (λ (v : Vec (Vec ℕ Global) Global). map (λ bytes. bytes.items) v.items) c.replace-spare.ensures.after ∙ ap (map (λ bytes. bytes.items)) c.new.ensures.items in
    let gives = subst (λ (k : List Value). GivesBelow m size root 19 after columns k before batch (Ok c.in_ok-whole.whole)) c.as_slice.ensures.value (c.in_ok-whole.ensures.given told) in
    let b = as_whole after columns key entries batch c.in_ok-whole.whole false c.if-whole.false (root_batch m size root after columns key entries used tree whole before batch (Ok c.in_ok-whole.whole) empty gives) in
    let end = ends_with batch b.given b.records (b.some refl) in
    let ends = ap (map (λ bytes. bytes.items)) c.as_slice-2.ensures.value ∙ end.batch_is in
    refused _ _ c.in_err-self.field-0.0 c.from_residual-in_err-self.ensures.1 (inl (c.in_err-self.ensures.only end.front end.last end.entry ends end.record_is)))

pub returns-clause-given : goal.returns-clause-given
returns-clause-given g c = λ told entries used whole tree.
    (let gs = g.P.Pages in
    let m = gs.map c.args.pages.now in
    let size = (gs.limits (gs.below c.args.pages.now)).page in
    let root = c.args.self.now.root in
    let after = c.args.self.now.after in
    let columns = c.args.columns.now in
    let key = c.args.self.now.key.items in
    let before = map (λ bytes. bytes.items) c.replace-spare.new.dest.items in
    let batch = map (λ bytes. bytes.items) c.batch_below.new.batch.items in
    let empty : before ≡ [] = ap (λ (v : Vec (Vec ℕ Global) Global). map (λ bytes. bytes.items) v.items) c.replace-spare.ensures.after ∙ ap (map (λ bytes. bytes.items)) c.new.ensures.items in
    let gives = subst (λ (k : List Value). GivesBelow m size root 19 after columns k before batch (Ok c.in_ok-whole.whole)) c.as_slice.ensures.value (c.in_ok-whole.ensures.given told) in
    let b = as_whole after columns key entries batch c.in_ok-whole.whole false c.if-whole.false (root_batch m size root after columns key entries used tree whole before batch (Ok c.in_ok-whole.whole) empty gives) in
    let end = ends_with batch b.given b.records (b.some refl) in
    let ends = ap (map (λ bytes. bytes.items)) c.as_slice-2.ensures.value ∙ end.batch_is in
    given_some m size root after columns key entries used tree c.args.self.now.ended c.args.self.now.ended batch c.if-self.false c.if-self.false b c.in_ok-self.field-0.items
    (c.in_ok-self.ensures.only end.front end.last end.entry ends end.record_is))
