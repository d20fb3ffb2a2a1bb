use Rattle.std.proofs.Common.{◌∙◌, ap, arith}
use Rattle.std.specs.Prelude.{IsTrue}
use Rattle.wal_frame.specs.Log.{header_in}
use Rattle.wal_frame.proofs.Reading.{header_in_first, found_header, format_refusal}
use Rattle.wal_frame.proofs.scanning.read_header.Goals as goal

pub returns-clause-refused : goal.returns-clause-refused
returns-clause-refused g c =
    format_refusal (IsTrue (g.D.Disk.tells c.args.disk.now)) c.read.result _ _ _
    (λ told. c.read.ensures.read ∙ ap header_in (c.in_ok-read_at.ensures.read told) ∙ header_in_first (g.D.Disk.file c.args.disk.now).content (omega (arith, c.if-len-lt32.false, c.requires told))) c.read.ensures.refused

pub returns-clause-found : goal.returns-clause-found
returns-clause-found g c told = found_header c.read.result _ (c.read.ensures.read ∙ ap header_in (c.in_ok-read_at.ensures.read told) ∙ header_in_first (g.D.Disk.file c.args.disk.now).content (omega (arith, c.if-len-lt32.false, c.requires told)))
