use Rattle.std.proofs.Common.{◌∙◌, ap, subst}
use Rattle.std.specs.List.{insert}
use Rattle.pager.specs.Pieces.{IsRoom}
use Rattle.pager.proofs.Joining.{on_err, room_insert, same_set}
use Rattle.pager.proofs.pieces.put.Goals as goal

pub returns-in_err-insert-clause-refused : goal.returns-in_err-insert-clause-refused
returns-in_err-insert-clause-refused g c =
    let room = c.room_of-room.result in
    let ps = c.cut_full.new.pieces.items in
    let is = subst (λ qs. IsRoom qs c.args.place room.piece room.at) c.deref-2.ensures.value c.room_of-room.ensures in
    on_err c.from_residual-in_err-insert.result
    (same_set ps room.piece c.index_mut.result.now c.insert.new.self is.within c.index_mut.ensures.value c.in_err-insert.ensures.items ∙ c.cut_full.ensures.same ∙ c.have_piece.ensures.same)

pub returns-clause-put : goal.returns-clause-put
returns-clause-put g c =
    let room = c.room_of-room.result in
    let ps = c.cut_full.new.pieces.items in
    let is = subst (λ qs. IsRoom qs c.args.place room.piece room.at) c.deref-2.ensures.value c.room_of-room.ensures in
    room_insert ps c.args.place room.piece room.at c.index_mut.result.now c.index_mut.ensures.value c.insert.new.self c.args.item is c.in_ok-insert.ensures.items
    ∙ ap (λ xs. insert xs c.args.place c.args.item) (c.cut_full.ensures.same ∙ c.have_piece.ensures.same)
