use Rattle.std.proofs.Common.{rules, arith, ◌∙◌, ap, sym, IsTrue, length, ◌+◌, take, drop}
use Rattle.std.specs.List.{list_all}
use Rattle.disk.specs.File.{File}
use Rattle.engine.specs.Creating.{Stays, is_zero_byte}
use Rattle.engine.proofs.NewFiles.{piece_decides, rest_decides}
use Rattle.engine.proofs.CountedCalls.{call_refused}
use Rattle.engine.proofs.creating.is_zero.Goals as goal

pub returns-then-not-are_zero-clause-zero : goal.returns-then-not-are_zero-clause-zero
returns-then-not-are_zero-clause-zero g c = λ told.
    let now = c.pieces.invariant.0.told ∙ told in
    let decided = piece_decides _ _ c.pieces.at _ (c.in_ok-read_at.ensures.read now) (search rules) (c.pieces.invariant.2 now) in
    decided ∙ ap (λ (f : File). list_all is_zero_byte f.content) (c.pieces.invariant.0.same told)

pub pieces-preserved : goal.pieces-preserved
pieces-preserved g c =
    let kept : Stays g.D.Disk.tells g.D.Disk.file c.args.db.now c.read_at.new.self = record {
      told = c.read_at.ensures.tells ∙ c.pieces.invariant.0.told;
      same = λ told. c.read_at.ensures.same (c.pieces.invariant.0.told ∙ told) ∙ c.pieces.invariant.0.same told;
    } in
    let before : IsTrue (g.D.Disk.tells c.read_at.new.self) → IsTrue (g.D.Disk.tells c.pieces.db) = λ told. sym c.read_at.ensures.tells ∙ told in (
      kept,
      λ told. c.pieces.invariant.1 (before told) ∙ ap (λ (f : File). length f.content) (sym (c.read_at.ensures.same (before told))),
      λ told.
          let read = c.in_ok-read_at.ensures.read (before told) in
          let sized = ap (λ n. take n (drop c.pieces.at (g.D.Disk.file c.pieces.db).content)) (search rules) in
          let more = rest_decides _ _ c.pieces.at c.min-count.result (read ∙ sized) (sym (c.if-not-are_zero.ensures)) (c.pieces.invariant.2 (before told)) in
          ap (λ (f : File). list_all is_zero_byte (drop (c.pieces.at + c.min-count.result) f.content)) (c.read_at.ensures.same (before told))
          ∙ (more ∙ ap (λ (f : File). list_all is_zero_byte f.content) (sym (c.read_at.ensures.same (before told)))),
      c.in_ok-read_at.ensures.count ∙ c.pieces.invariant.3,
    )

pub returns-in_err-read_at-clause-counted : goal.returns-in_err-read_at-clause-counted
returns-in_err-read_at-clause-counted g c = call_refused _ c.in_err-read_at.field-0.0 _ _ _ c.from_residual.ensures.1 c.pieces.invariant.3 c.in_err-read_at.ensures.count

pub returns-then-not-are_zero-clause-counted : goal.returns-then-not-are_zero-clause-counted
returns-then-not-are_zero-clause-counted g c = (let same = c.in_ok-read_at.ensures.count ∙ c.pieces.invariant.3 in record { counts = omega (arith, same); none_failed = same; io = tt })

pub returns-clause-counted : goal.returns-clause-counted
returns-clause-counted g c = record { counts = omega (arith, c.pieces.invariant.3); none_failed = c.pieces.invariant.3; io = tt }
