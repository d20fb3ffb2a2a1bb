use Rattle.std.proofs.Common.{rules, ◌≡◌, ◌∙◌, ◌∷◌, ℕ, List, ap, sym, subst}
use Rattle.std.specs.Prelude.{Option}
use Rattle.tree_index.specs.Calls.{IsFirstInserted, IsRunInserted}
use Rattle.tree_index.specs.Entries.{Entry, AreLong}
use Rattle.tree_index.proofs.Inserts.{leads_itself}
use Rattle.tree_index.proofs.Rooting.{run_err, run_inserted, run_there}
use Rattle.tree_index.proofs.inserting.insert_run.Goals as goal

pub returns-in_err-more-clause-inserted : goal.returns-in_err-more-clause-inserted
returns-in_err-more-clause-inserted g c = λ told entries used free is long.
    (let pages = g.P.Pages in
    let old = pages.map c.args.pages.now in
    let new = pages.map c.put_new.new.pages in
    let size = (pages.limits (pages.below c.args.pages.now)).page in
    let columns = c.args.columns.now in
    let given = c.args.entries.now in
    let y = c.as_slice-2.result.now in
    let rest = c.in-Some.rest.now in
    let whole : given ≡ y ∷ rest = c.in-Some.ensures.cases.0 ∙ ap (λ (e : Entry). e ∷ rest) (sym c.as_slice-2.ensures) in
    run_err (IsRunInserted old new size c.args.root columns given entries used free) c.from_residual-in_err-more.result c.in_err-more.field-0.0 y rest given whole c.from_residual-in_err-more.ensures.1
    (c.in_err-more.ensures.put told y entries used free is (leads_itself columns y) (search rules) (subst (λ (them : List Entry). AreLong columns them) whole long)))

pub returns-in-Some-2-clause-inserted : goal.returns-in-Some-2-clause-inserted
returns-in-Some-2-clause-inserted g c = λ told entries used free is long.
    (let pages = g.P.Pages in
    let old = pages.map c.args.pages.now in
    let new = pages.map c.put_new.new.pages in
    let size = (pages.limits (pages.below c.args.pages.now)).page in
    let columns = c.args.columns.now in
    let given = c.args.entries.now in
    let y = c.as_slice-2.result.now in
    let rest = c.in-Some.rest.now in
    let whole : given ≡ y ∷ rest = c.in-Some.ensures.cases.0 ∙ ap (λ (e : Entry). e ∷ rest) (sym c.as_slice-2.ensures) in
    let put = c.in_ok-more.ensures.put told y entries used free is (leads_itself columns y) (search rules) (subst (λ (them : List Entry). AreLong columns them) whole long) in
    run_inserted old new size c.args.root columns y rest given entries used free whole c.in-Some-2.more c.with_first.result c.with_first.ensures.counted
    (subst (λ (found : Option ℕ). IsFirstInserted old new size c.args.root columns y y rest entries used free found) c.in-Some-2.is put))

pub returns-clause-inserted : goal.returns-clause-inserted
returns-clause-inserted g c = λ told entries used free is long.
    (let pages = g.P.Pages in
    let old = pages.map c.args.pages.now in
    let new = pages.map c.put_new.new.pages in
    let size = (pages.limits (pages.below c.args.pages.now)).page in
    let columns = c.args.columns.now in
    let given = c.args.entries.now in
    let y = c.as_slice-2.result.now in
    let rest = c.in-Some.rest.now in
    let whole : given ≡ y ∷ rest = c.in-Some.ensures.cases.0 ∙ ap (λ (e : Entry). e ∷ rest) (sym c.as_slice-2.ensures) in
    let put = c.in_ok-more.ensures.put told y entries used free is (leads_itself columns y) (search rules) (subst (λ (them : List Entry). AreLong columns them) whole long) in
    run_there old new size c.args.root columns y rest given entries used free whole
    (subst (λ (found : Option ℕ). IsFirstInserted old new size c.args.root columns y y rest entries used free found) c.in-None.is put))
