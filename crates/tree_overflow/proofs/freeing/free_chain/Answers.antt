use Rattle.std.proofs.Common.{◌≡◌, ◌<◌, ◌∙◌, [], ℕ, Some, ◌-◌, drop, sym, ap, arith}
use Rattle.std.proofs.lemmas.List.{length-drop}
use Rattle.std.specs.Prelude.{min}
use Rattle.tree_page.specs.Payload.{local_size}
use Rattle.tree_overflow.specs.Chains.{next_of}
use Rattle.tree_overflow.proofs.ReadPayloads.{goes_on}
use Rattle.tree_overflow.proofs.freeing.free_chain.Goals as goal

less_than : (local_len local size : ℕ) → local ≡ min local_len size → (local ≡ size → ⊥) → local < size
less_than local_len local size is other = omega (arith, is, other)

the_number : (m n : ℕ) → Some m ≡ Some n → m ≡ n
the_number m n e = cc

pub returns-in_default-clause-freed : goal.returns-in_default-clause-freed
returns-in_default-clause-freed g c = λ told payload chain free are once is long.
    (let pages = g.P.Pages in
    let map = pages.map c.args.pages.now in
    let usable = (pages.limits (pages.below c.args.pages.now)).page in
    let local : c.min-local.result ≡ min (local_size usable c.args.most c.args.size) c.args.size = c.min-local.ensures ∙ ap (λ (n : ℕ). min n c.args.size) (c.local_len.ensures ∙ ap (λ (n : ℕ). local_size n c.args.most c.args.size) c.page_size.ensures) in
    let less = less_than (local_size usable c.args.most c.args.size) c.min-local.result c.args.size local c.if-local-size.false in
    let on = goes_on map usable c.args.most c.args.size c.min-local.result c.args.held.now payload chain is long local less in
    absurd (c.in_default.not-Some (next_of chain) (c.number_in.ensures (next_of chain) [] on.near (c.split_at.ensures.back ∙ on.back))))

pub returns-clause-freed : goal.returns-clause-freed
returns-clause-freed g c = λ told payload chain free are once is long.
    (let pages = g.P.Pages in
    let map = pages.map c.args.pages.now in
    let usable = (pages.limits (pages.below c.args.pages.now)).page in
    let local : c.min-local.result ≡ min (local_size usable c.args.most c.args.size) c.args.size = c.min-local.ensures ∙ ap (λ (n : ℕ). min n c.args.size) (c.local_len.ensures ∙ ap (λ (n : ℕ). local_size n c.args.most c.args.size) c.page_size.ensures) in
    let less = less_than (local_size usable c.args.most c.args.size) c.min-local.result c.args.size local c.if-local-size.false in
    let on = goes_on map usable c.args.most c.args.size c.min-local.result c.args.held.now payload chain is long local less in
    let first = the_number c.in-Some.first (next_of chain) (c.in-Some.ensures (next_of chain) [] on.near (c.split_at.ensures.back ∙ on.back)) in
    c.free_links.ensures.freed told (drop c.min-local.result payload) chain free are once on.is (sym first) (length-drop c.min-local.result payload ∙ ap (λ (n : ℕ). n - c.min-local.result) long))
