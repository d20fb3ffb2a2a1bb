use Rattle.std.proofs.Common.{◌≡◌, ℕ, List, [], Option, Ok, Err, sym, ap, subst}
use Rattle.std.specs.Int.{w32, to_be_bytes}
use Rattle.tree_page.specs.Node.{Between, IsNode}
use Rattle.tree_page.specs.Reading.{Place}
use Rattle.tree_pack.specs.Building.{right_bytes}
use Rattle.tree_pack.specs.Splicing.{Splices}
use Rattle.tree_index.specs.Growing.{replaced, Fans, IsFanned}
use Rattle.tree_index.specs.Joining.{without_at}
use Rattle.tree_index.proofs.Fans.{memory_err}
use Rattle.tree_index.proofs.OneLess.{one_less, two_fanned}
use Rattle.tree_index.proofs.joining.fanned_two.Goals as goal

pub returns-in_err-over-clause-fans : goal.returns-in_err-over-clause-fans
returns-in_err-over-clause-fans c = λ said news last is usual lt near pair few. absurd (c.in_err-over.ensures.only (Between said last) is)

pub returns-in_err-other-clause-fans : goal.returns-in_err-other-clause-fans
returns-in_err-other-clause-fans c = λ said news last is usual lt near pair few.
    (let here = subst (λ (page : Place). IsNode page.bytes page.start (Between said last)) (sym c.in_ok-over.ensures.place) is in
    let right : right_bytes c.last_child-last.result ≡ to_be_bytes w32 last = ap (λ (r : Option ℕ). right_bytes r) (c.last_child-last.ensures (Between said last) here) in
    memory_err (IsFanned c.args.page.now (replaced c.args.place (news, c.args.fan.now.last) (without_at c.args.place said) last) c.args.fan.now) c.from_residual-in_err-other.result c.in_err-other.field-0.0
    c.from_residual-in_err-other.ensures.1
    (one_less c.args.page.now c.args.place said last is usual lt (Err c.in_err-other.field-0.0)
    (subst (λ (bytes : List ℕ). Splices c.args.page.now 0 c.args.place 1 [] bytes (Err c.in_err-other.field-0.0)) right c.in_err-other.ensures.spliced)))

pub returns-clause-fans : goal.returns-clause-fans
returns-clause-fans c = λ said news last is usual lt near pair few.
    (let here = subst (λ (page : Place). IsNode page.bytes page.start (Between said last)) (sym c.in_ok-over.ensures.place) is in
    let right : right_bytes c.last_child-last.result ≡ to_be_bytes w32 last = ap (λ (r : Option ℕ). right_bytes r) (c.last_child-last.ensures (Between said last) here) in
    let one = one_less c.args.page.now c.args.place said last is usual lt (Ok c.in_ok-other.other)
    (subst (λ (bytes : List ℕ). Splices c.args.page.now 0 c.args.place 1 [] bytes (Ok c.in_ok-other.other)) right c.in_ok-other.ensures.spliced) in
    two_fanned c.args.page.now c.args.place said last is usual lt c.in_ok-other.other one c.args.fan.now news near pair few c.fanned.result
    (subst (λ (bytes : List ℕ). Fans bytes c.args.place c.args.fan.now c.fanned.result) c.as_slice.ensures.value c.fanned.ensures.fans))
