use Rattle.std.proofs.Common.{◌≡◌, ◌∙◌, ap, length}
use Rattle.std.specs.Prelude.{min}
use Rattle.std.specs.List.{insert}
use Rattle.catalog.specs.Listed.{shared}
use Rattle.catalog.proofs.Inserted.{inserted}
use Rattle.catalog.proofs.Sharing.{handle_value}
use Rattle.catalog.proofs.handles.put_at.Goals as goal

pub returns-clause-added : goal.returns-clause-added
returns-clause-added c =
    let end : c.min.result ≡ min c.args.place (length c.args.tables.now.items) = c.min.ensures ∙ ap (λ handles. min c.args.place (length handles)) c.as_slice-end.ensures.value in
    let items : c.insert.new.self.items ≡ insert c.args.tables.now.items (min c.args.place (length c.args.tables.now.items)) c.args.table =
    c.in_ok-insert.ensures.items ∙ ap (λ n. insert c.args.tables.now.items n c.args.table) end in
    ap shared items ∙ inserted handle_value c.args.place c.args.table c.args.tables.now.items
