use Rattle.std.proofs.Common.{◌≡◌, ◌≤◌, ◌∙◌, ◌++◌, ℕ, length, take, rules, ap}
use Rattle.std.specs.Int.{w32, to_be_bytes}
use Rattle.std.specs.Prelude.{min}
use Rattle.tree_page.specs.Payload.{local_size}
use Rattle.tree_overflow.proofs.WritePayloads.{written_on}
use Rattle.tree_overflow.proofs.writing.write_payload.Goals as goal

pub returns-clause-written : goal.returns-clause-written
returns-clause-written g c = λ told free are.
    (let pages = g.P.Pages in
    let old = c.args.pages.now in
    let usable = (pages.limits (pages.below old)).page in
    let payload = c.args.payload.now in
    let size = length payload in
    let local : c.min-local.result ≡ min (local_size usable c.args.most size) size = c.min-local.ensures ∙ ap (λ (n : ℕ). min n size) (c.local_len.ensures ∙ ap (λ (n : ℕ). local_size n c.args.most size) c.page_size.ensures) in
    let some : 1 ≤ length c.split_at.result.1.now = search rules in
    let held : c.extend_from_slice.new.self.items ≡ take c.min-local.result payload ++ to_be_bytes w32 c.in_ok-first.first = search rules in
    written_on (pages.map old) (pages.map c.write_chain.new.pages) usable c.args.most c.min-local.result c.in_ok-first.first free payload c.split_at.result.1.now c.extend_from_slice.new.self.items are local
    c.split_at.ensures.back some (c.in_ok-first.ensures.laid told) held)
