use Rattle.std.proofs.Common.{◌≡◌, ◌≤◌, ℕ, List, Bool, Option, Some, None, Result, length, ap, sym, subst, ◌∙◌, arith}
use Rattle.std.specs.Prelude.{⊤, option_map, IfErr, OnOk}
use Rattle.std.specs.Option.{ok_or}
use Rattle.sqlval.specs.declared.fault.Fault.{Fault}
use Rattle.sqlval.specs.declared.fault.Fault.TheVariants.{Memory}
use Rattle.record.proofs.VarintLemmas.{AreBytes, AreBytes-from_index}
use Rattle.tree_page.specs.declared.items.Kind.{Kind}
use Rattle.tree_page.specs.Node.{Node, IsNode}
use Rattle.tree_page.specs.Bytes.{header_parts, header_on}
use Rattle.tree_page.specs.Checking.{IsSaid, front_end, taken_up_to, claimed_from}
use Rattle.tree_page.proofs.Claims.{length-taken_up_to}
use Rattle.tree_page.proofs.SaidPages.{front_within, said_by, not_refused}
use Rattle.tree_page.proofs.checking.check_cells.Goals as goal

found_by : (page : List ℕ) (start : ℕ) (header : Kind × ℕ) (taken left : List Bool) (r : Option ⊤) (fault : Fault) → AreBytes page → header_on page start ≡ Some header → taken ≡ taken_up_to (front_end start header) (length page)
    → option_map (λ done. left) r ≡ claimed_from page start header taken 0 header.1 → OnOk (ok_or r fault) (IsSaid (record { bytes = page; start = start }))
found_by page start header taken left (Some done) fault fits e set claims = said_by page start header taken left fits e set (sym claims)
found_by page start header taken left None fault fits e set claims = tt

only_by : (page : List ℕ) (start : ℕ) (header : Kind × ℕ) (taken left : List Bool) (r : Option ⊤) (fault : Fault) (node : Node) → header_on page start ≡ Some header → taken ≡ taken_up_to (front_end start header) (length page)
    → option_map (λ done. left) r ≡ claimed_from page start header taken 0 header.1 → IsNode page start node → IfErr (ok_or r fault) (λ refusal. refusal ≡ Memory)
only_by page start header taken left (Some done) fault node e set claims is = tt
only_by page start header taken left None fault node e set claims is = absurd (not_refused page start header taken node e set is (sym claims))

pub front_len-requires : goal.front_len-requires
front_len-requires c =
    let page = c.args.page.now in
    let within = front_within page c.args.start (header_parts c.args.header) (AreBytes-from_index page (λ i. omega (arith, c.type_inv.page i))) c.requires in
    omega (arith, within)

pub take_front-requires : goal.take_front-requires
take_front-requires c =
    let page = c.args.page.now in
    let within = front_within page c.args.start (header_parts c.args.header) (AreBytes-from_index page (λ i. omega (arith, c.type_inv.page i))) c.requires in
    omega (arith, within, c.front_len.ensures)

pub claim_cells-requires-clause-taken : goal.claim_cells-requires-clause-taken
claim_cells-requires-clause-taken c =
    let page = c.args.page.now in
    let within = front_within page c.args.start (header_parts c.args.header) (AreBytes-from_index page (λ i. omega (arith, c.type_inv.page i))) c.requires in
    let inside : c.front_len.result ≤ length page = omega (arith, within, c.front_len.ensures) in
    ap length (c.deref_mut.ensures.value ∙ c.in_ok-take_front.ensures.set) ∙ length-taken_up_to c.front_len.result (length page) inside

pub returns-clause-found : goal.returns-clause-found
returns-clause-found c =
    let page = c.args.page.now in
    let header = header_parts c.args.header in
    let set = c.deref_mut.ensures.value ∙ c.in_ok-take_front.ensures.set ∙ ap (λ (n : ℕ). taken_up_to n (length page)) c.front_len.ensures in
    let fits = AreBytes-from_index page (λ i. omega (arith, c.type_inv.page i)) in
    subst (λ (r : Result ⊤ Fault). OnOk r (IsSaid (record { bytes = page; start = c.args.start }))) (sym c.ok_or.ensures.value)
    (found_by page c.args.start header c.deref_mut.result.now c.claim_cells.new.taken c.claim_cells.result _ fits c.requires set c.claim_cells.ensures)

pub returns-clause-only : goal.returns-clause-only
returns-clause-only c = λ node is.
    let page = c.args.page.now in
    let header = header_parts c.args.header in
    let set = c.deref_mut.ensures.value ∙ c.in_ok-take_front.ensures.set ∙ ap (λ (n : ℕ). taken_up_to n (length page)) c.front_len.ensures in
    subst (λ (r : Result ⊤ Fault). IfErr r (λ fault. fault ≡ Memory)) (sym c.ok_or.ensures.value)
    (only_by page c.args.start header c.deref_mut.result.now c.claim_cells.new.taken c.claim_cells.result _ node c.requires set c.claim_cells.ensures is)
