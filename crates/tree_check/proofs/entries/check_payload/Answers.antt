use Rattle.std.proofs.Common.{rules, ◌≡◌, ◌∙◌, ◌++◌, ℕ, List, [], Ok, Err, ap, subst}
use Rattle.std.specs.List.{flat_map}
use Rattle.tree_page.specs.Cells.{Pairwise}
use Rattle.tree_page.specs.Payload.{index_most}
use Rattle.tree_page.specs.Reading.{local_of}
use Rattle.tree_check.specs.Exact.{Checks}
use Rattle.tree_check.specs.Tails.{IsTailOn, payload_in}
use Rattle.tree_check.specs.declared.chains.Tail.{Tail}
use Rattle.tree_check.proofs.Links.{large_size}
use Rattle.tree_check.proofs.Parting.{told_after}
use Rattle.tree_check.proofs.EntryChecks.{added_tail, payload_checks, payload_refused, payload_read, payload_whole, tail_refused}
use Rattle.tree_check.proofs.entries.check_payload.Goals as goal

pub returns-in_err-add_tail-clause-checked : goal.returns-in_err-add_tail-clause-checked
returns-in_err-add_tail-clause-checked g c = λ map size told can held.
    (let usable = c.page_size-usable.ensures ∙ told.size_is in
    let most = c.most_in-most.ensures ∙ ap index_most usable in
    payload_refused (payload_in (local_of c.args.local).bytes) map size (local_of c.args.local) c.args.marks.now.items _ c.in_err-add_tail.field-0.0 c.from_residual.result c.from_residual.ensures.1
    (λ whole entry free. tail_refused size (local_of c.args.local) _ _ usable most held c.new-tails.result.items c.add_tail.new.tails.items c.in_err-add_tail.field-0.0 c.in_err-add_tail.ensures.added))

pub returns-in_err-check_tails-clause-checked : goal.returns-in_err-check_tails-clause-checked
returns-in_err-check_tails-clause-checked g c = λ map size told can held.
    (let usable = c.page_size-usable.ensures ∙ told.size_is in
    let most = c.most_in-most.ensures ∙ ap index_most usable in
    let all : c.as_slice.result.now ≡ c.add_tail.new.tails.items = search rules in
    let tail = added_tail size (local_of c.args.local) _ _ usable most held _ _ c.in_ok-add_tail.ensures.added (search rules) in
    let chains = subst (λ (l : List Tail). Checks (Pairwise (IsTailOn map size) l) (flat_map (λ chain. chain.pages)) c.args.marks.now.items c.check_tails.new.marks.items (Err c.in_err-check_tails.field-0.0)) all
    (c.in_err-check_tails.ensures.checked map size told can) in
    payload_refused (payload_in (local_of c.args.local).bytes) map size (local_of c.args.local) c.args.marks.now.items _ c.in_err-check_tails.field-0.0 c.from_residual-in_err-check_tails.result c.from_residual-in_err-check_tails.ensures.1
    (payload_checks map size (local_of c.args.local) c.add_tail.new.tails.items (large_size size can.sized).0 tail c.args.marks.now.items c.check_tails.new.marks.items (Err c.in_err-check_tails.field-0.0) chains))

pub returns-then-is_empty-clause-checked : goal.returns-then-is_empty-clause-checked
returns-then-is_empty-clause-checked g c = λ map size told can held.
    (let usable = c.page_size-usable.ensures ∙ told.size_is in
    let most = c.most_in-most.ensures ∙ ap index_most usable in
    let large = (large_size size can.sized).0 in
    let all : c.as_slice.result.now ≡ c.add_tail.new.tails.items = search rules in
    let none : c.add_tail.new.tails.items ≡ [] = search rules in
    let tail = added_tail size (local_of c.args.local) _ _ usable most held _ _ c.in_ok-add_tail.ensures.added (search rules) in
    let chains = subst (λ (l : List Tail). Checks (Pairwise (IsTailOn map size) l) (flat_map (λ chain. chain.pages)) c.args.marks.now.items c.check_tails.new.marks.items (Ok tt)) all
    (c.in_ok-check_tails.ensures.checked map size told can) in (
      payload_checks map size (local_of c.args.local) c.add_tail.new.tails.items large tail c.args.marks.now.items c.check_tails.new.marks.items (Ok tt) chains,
      payload_whole map size (local_of c.args.local) c.add_tail.new.tails.items large tail none,
    ))

pub returns-in_err-read_payload-clause-checked : goal.returns-in_err-read_payload-clause-checked
returns-in_err-read_payload-clause-checked g c = λ map size told can held.
    (let p = g.P.Pages in
    let usable = c.page_size-usable.ensures ∙ told.size_is in
    let most = c.most_in-most.ensures ∙ ap index_most usable in
    let stays = c.in_ok-check_tails.ensures.stays in
    let now = told_after p.below p.tells p.limits p.map c.args.pages.now c.check_tails.new.pages map size stays.kept stays.same told in
    payload_refused (payload_in (local_of c.args.local).bytes) map size (local_of c.args.local) c.args.marks.now.items _ c.in_err-read_payload.field-0.0 c.from_residual-in_err-read_payload.result c.from_residual-in_err-read_payload.ensures.1
    (λ whole entry free. payload_read map size _ (local_of c.args.local) most c.new-payload.result.items c.read_payload.new.out.items (Err c.in_err-read_payload.field-0.0) can.whole now.map_is now.size_is (c.in_err-read_payload.ensures.read now.told) whole entry))

pub returns-clause-checked : goal.returns-clause-checked
returns-clause-checked g c = λ map size told can held.
    (let p = g.P.Pages in
    let usable = c.page_size-usable.ensures ∙ told.size_is in
    let most = c.most_in-most.ensures ∙ ap index_most usable in
    let stays = c.in_ok-check_tails.ensures.stays in
    let now = told_after p.below p.tells p.limits p.map c.args.pages.now c.check_tails.new.pages map size stays.kept stays.same told in
    let all : c.as_slice.result.now ≡ c.add_tail.new.tails.items = search rules in
    let tail = added_tail size (local_of c.args.local) _ _ usable most held _ _ c.in_ok-add_tail.ensures.added (search rules) in
    let chains = subst (λ (l : List Tail). Checks (Pairwise (IsTailOn map size) l) (flat_map (λ chain. chain.pages)) c.args.marks.now.items c.check_tails.new.marks.items (Ok tt)) all
    (c.in_ok-check_tails.ensures.checked map size told can) in (
      payload_checks map size (local_of c.args.local) c.add_tail.new.tails.items (large_size size can.sized).0 tail c.args.marks.now.items c.check_tails.new.marks.items (Ok tt) chains,
      λ whole entry. (let none : c.new-payload.result.items ≡ [] = search rules in
          payload_read map size _ (local_of c.args.local) most c.new-payload.result.items c.read_payload.new.out.items (Ok tt) can.whole now.map_is now.size_is (c.in_ok-read_payload.ensures.read now.told) whole entry
          ∙ ap (λ (l : List ℕ). l ++ whole.bytes) none),
    ))
