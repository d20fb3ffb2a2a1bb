use Rattle.std.proofs.Common.{◌≡◌, ◌-◌, ◌∙◌, ◌<◌, List, ℕ, get_or, length, ap, sym, subst, arith, rules, of_calls}
use Rattle.std.specs.Prelude.{nat_le}
use Rattle.std.proofs.lemmas.Fn.{always_returns_same}
use Rattle.std.proofs.lemmas.List.{get_or_default}
use Rattle.wal_index.specs.Index.{frames_of}
use Rattle.wal_index.specs.Rows.{IsRising}
use Rattle.wal_index.proofs.Lists.{row_is, parted, none_seen, last_seen, newest_seen}
use Rattle.wal_index.proofs.index.Index.find.Goals as goal

pub returns-then-count-eq0-clause-none : goal.returns-then-count-eq0-clause-none
returns-then-count-eq0-clause-none c none known frame has =
    let xs = frames_of c.args.self.now c.args.page in
    let row = c.in_ok-frames.ensures.lookup in
    let is : c.deref-2.result.now ≡ xs = c.deref-2.ensures.value ∙ row_is c.args.self.now.lists.items c.deref.result.now (c.args.page - 1) c.in_ok-frames.frames.now c.deref.ensures.value row.3.0 row.1 in
    let point = c.partition_point-count.ensures.partitioned (λ y. nat_le y c.args.mark) (always_returns_same _ _ _ (λ a r f k. search (rules, of_calls)))
    (parted c.deref-2.result.now c.args.mark (subst IsRising (sym is) (c.args.self.now.rising (c.args.page - 1)))) in
    omega (arith, has.is, subst (λ (l : List ℕ). c.args.mark < get_or l has.place 0) is (none_seen c.deref-2.result.now c.args.mark c.partition_point-count.result point c.if-count-eq0.true has.place (omega (arith, has.within, ap length is))))

pub returns-else-count-eq0-clause-found : goal.returns-else-count-eq0-clause-found
returns-else-count-eq0-clause-found c =
    let xs = frames_of c.args.self.now c.args.page in
    let n = c.partition_point-count.result in
    let row = c.in_ok-frames.ensures.lookup in
    let is : c.deref-2.result.now ≡ xs = c.deref-2.ensures.value ∙ row_is c.args.self.now.lists.items c.deref.result.now (c.args.page - 1) c.in_ok-frames.frames.now c.deref.ensures.value row.3.0 row.1 in
    let rising : IsRising c.deref-2.result.now = subst IsRising (sym is) (c.args.self.now.rising (c.args.page - 1)) in
    let point = c.partition_point-count.ensures.partitioned (λ y. nat_le y c.args.mark) (always_returns_same _ _ _ (λ a r f k. search (rules, of_calls)))
    (parted c.deref-2.result.now c.args.mark rising) in
    let bound = c.partition_point-count.ensures.bound in
    let some : 0 < n = omega (arith, c.if-count-eq0.false) in
    let frame_is : c.index.result.now ≡ get_or c.deref-2.result.now (n - 1) 0 =
    c.index.ensures ∙ get_or_default _ (n - 1) c.index.result.now 0 (omega (arith, some, bound, ap length c.deref-2.ensures.value)) ∙ ap (λ (l : List ℕ). get_or l (n - 1) 0) (sym c.deref-2.ensures.value) in
    record {
      known = omega (arith, c.if-page-eq0.false);
      has = record { place = n - 1; within = omega (arith, some, bound, ap length is); is = ap (λ (l : List ℕ). get_or l (n - 1) 0) (sym is) ∙ sym frame_is };
      seen = omega (arith, frame_is, last_seen c.deref-2.result.now c.args.mark n point some);
      newest = λ other has seen.
          let same : get_or xs has.place 0 ≡ get_or c.deref-2.result.now has.place 0 = ap (λ (l : List ℕ). get_or l has.place 0) (sym is) in
          omega (arith, same, has.is, frame_is, newest_seen c.deref-2.result.now c.args.mark n rising bound point some has.place (omega (arith, has.within, ap length is)) (omega (arith, same, has.is, seen)));
    }
