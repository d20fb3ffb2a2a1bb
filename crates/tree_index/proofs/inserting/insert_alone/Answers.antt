use Rattle.std.proofs.Common.{rules, [], List, sym, subst}
use Rattle.sqlval.specs.declared.value.Value.{Value}
use Rattle.tree_index.specs.Calls.{IsFirstInserted, IsInsertedAlone}
use Rattle.tree_index.specs.Entries.{LeadsTo}
use Rattle.tree_index.proofs.Inserts.{leads_first}
use Rattle.tree_index.proofs.Rooting.{one_inserted, put_err}
use Rattle.tree_index.proofs.inserting.insert_alone.Goals as goal

pub returns-in_err-put_new-clause-inserted : goal.returns-in_err-put_new-clause-inserted
returns-in_err-put_new-clause-inserted g c = λ told entries used free is long.
    (let pages = g.P.Pages in
    let old = pages.map c.args.pages.now in
    let new = pages.map c.put_new.new.pages in
    let size = (pages.limits (pages.below c.args.pages.now)).page in
    let columns = c.args.columns.now in
    let x = c.args.entry.now in
    let leads : LeadsTo columns c.values_in.result.now x = subst (λ (key : List Value). LeadsTo columns key x) (sym c.values_in.ensures) (leads_first columns x) in
    put_err (IsInsertedAlone old new size c.args.root columns x entries used free) c.from_residual-in_err-put_new.result c.in_err-put_new.field-0.0 x c.from_residual-in_err-put_new.ensures.1
    (c.in_err-put_new.ensures.put told x entries used free is leads (search rules) (long, tt)))

pub returns-clause-inserted : goal.returns-clause-inserted
returns-clause-inserted g c = λ told entries used free is long.
    (let columns = c.args.columns.now in
    let x = c.args.entry.now in
    let pages = g.P.Pages in
    let old = pages.map c.args.pages.now in
    let new = pages.map c.put_new.new.pages in
    let size = (pages.limits (pages.below c.args.pages.now)).page in
    let leads : LeadsTo columns c.values_in.result.now x = subst (λ (key : List Value). LeadsTo columns key x) (sym c.values_in.ensures) (leads_first columns x) in
    let put = c.in_ok-put_new.ensures.put told x entries used free is leads (search rules) (long, tt) in
    one_inserted old new size c.args.root columns _ x entries used free c.in_ok-put_new.field-0 c.is_some.result c.is_some.ensures
    (subst (λ (key : List Value). IsFirstInserted old new size c.args.root columns key x [] entries used free c.in_ok-put_new.field-0) c.values_in.ensures put))
