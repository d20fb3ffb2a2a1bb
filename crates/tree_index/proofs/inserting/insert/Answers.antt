use Rattle.std.proofs.Common.{rules}
use Rattle.tree_index.specs.Calls.{IsInserted}
use Rattle.tree_index.proofs.Inserts.{leads_itself}
use Rattle.tree_index.proofs.Rooting.{one_inserted, put_err}
use Rattle.tree_index.proofs.inserting.insert.Goals as goal

pub returns-in_err-put_new-clause-inserted : goal.returns-in_err-put_new-clause-inserted
returns-in_err-put_new-clause-inserted g c = λ told entries used free is long.
    (let pages = g.P.Pages in
    let old = pages.map c.args.pages.now in
    let new = pages.map c.put_new.new.pages in
    let size = (pages.limits (pages.below c.args.pages.now)).page in
    let columns = c.args.columns.now in
    let x = c.args.entry.now in
    put_err (IsInserted old new size c.args.root columns x entries used free) c.from_residual-in_err-put_new.result c.in_err-put_new.field-0.0 x c.from_residual-in_err-put_new.ensures.1
    (c.in_err-put_new.ensures.put told x entries used free is (leads_itself columns x) (search rules) (long, tt)))

pub returns-clause-inserted : goal.returns-clause-inserted
returns-clause-inserted g c = λ told entries used free is long.
    (let pages = g.P.Pages in
    let old = pages.map c.args.pages.now in
    let new = pages.map c.put_new.new.pages in
    let size = (pages.limits (pages.below c.args.pages.now)).page in
    let columns = c.args.columns.now in
    let x = c.args.entry.now in
    one_inserted old new size c.args.root columns x x entries used free c.in_ok-put_new.field-0 c.is_some.result c.is_some.ensures
    (c.in_ok-put_new.ensures.put told x entries used free is (leads_itself columns x) (search rules) (long, tt)))
