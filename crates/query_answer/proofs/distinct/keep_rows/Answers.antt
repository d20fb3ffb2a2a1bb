use Rattle.std.proofs.Common.{◌≡◌, ◌∙◌, ◌+◌, length, drop, arith, refl, rules, subst, sym}
use Rattle.std.specs.Prelude.{slice_index_or}
use Rattle.query_answer.specs.Numbers.{AreRisingPlaces}
use Rattle.query_answer.proofs.Places.{all_read, one_more_read, place_within, places_fit}
use Rattle.query_answer.proofs.distinct.keep_rows.Goals as goal

pub places-preserved : goal.places-preserved
places-preserved c =
    let xs = c.places.rows.items in
    let ps = c.args.places.now in
    let place = slice_index_or ps c.places.index 0 in
    let long : length c.swap.new.self.items ≡ length xs = search rules in
    record {
      long = long ∙ c.places.invariant.long;
      rising = subst (λ n. AreRisingPlaces (c.places.index + 1) n (drop (c.places.index + 1) ps)) (sym long) (place_within xs ps c.places.index place c.places-test.true refl c.places.invariant.rising).1;
      same = one_more_read xs c.swap.new.self.items ps c.places.index place c.places-test.true refl long c.swap.ensures.by_index c.places.invariant.rising ∙ c.places.invariant.same;
    }

pub returns : goal.returns
returns c =
    let long = c.places.invariant.long in
    let fits = places_fit (length c.args.rows.now.items) c.args.places.now c.requires in
    all_read c.places.rows.items c.truncate.new.self.items c.args.rows.now.items c.args.places.now c.places.index c.places-test.false c.places.auto.index-end (omega (arith, long, fits)) c.truncate.ensures.items c.places.invariant.same
