use Rattle.std.proofs.Common.{◌<◌, ◌+◌, refl, ap, ◌∙◌, length, None, arith}
use Rattle.std.proofs.lemmas.List.{get_or_default, length-take-le}
use Rattle.session.specs.SavedTables.{first_in}
use Rattle.session.specs.declared.savepoints.Savepoint.{Savepoint}
use Rattle.session.proofs.SavedLists.{goes_back, saved_length}
use Rattle.session.proofs.savepoints.SavedCatalogs.back_to.Goals as goal

pub returns-then-place-len : goal.returns-then-place-len
returns-then-place-len c = λ within.
    absurd (omega (arith, within, c.if-place-len.true, c.len.ensures, c.args.self.now.savepoints.ok.0, saved_length (first_in c.args.self.now) c.args.self.now.savepoints.items))

pub returns : goal.returns
returns c = λ within.
    (let ss = c.args.self.now.savepoints in
    let item : Savepoint = record { name = c.index_mut.result.now.name; changed = None } in
    let below : c.args.place < length c.truncate.new.self.items =
    omega (arith, c.if-place-len.false, c.len.ensures, ss.ok.0, ap length c.truncate.ensures.items, length-take-le (c.args.place + 1) ss.items (omega (arith, c.if-place-len.false, c.len.ensures, ss.ok.0))) in
    goes_back c.args.self.now _ c.args.place item c.truncate.new.self.items c.truncate.ensures.items refl refl
    (ap (λ (s : Savepoint). s.name) (c.index_mut.ensures.value ∙ get_or_default c.truncate.new.self.items c.args.place c.index_mut.result.now item below)) within)
