use Rattle.std.proofs.Common.{ap, sym, subst, ◌∙◌, ◌++◌, ◌≤◌, ℕ, length, map, Ok, arith}
use Rattle.std.proofs.lemmas.List.{length-append, length-map}
use Rattle.std.proofs.lemmas.List.Elements.{All-map}
use Rattle.std.proofs.lemmas.List.Folds.{flat_map-map}
use Rattle.std.specs.List.{flat_map}
use Rattle.sqlval.specs.Fields.{value_of}
use Rattle.record.specs.Varint.{varint}
use Rattle.record.specs.Writing.{Fits, type_of, body_of, header_len, record_of}
use Rattle.record.proofs.WritingLemmas.{header_counts, is_written, parts_are, storable_each}
use Rattle.record.proofs.ShortestLemmas.{is_shortest}
use Rattle.record.proofs.writing.encode_fields.Goals as goal

pub sizes-types-requires-clause-few : goal.sizes-types-requires-clause-few
sizes-types-requires-clause-few c = subst (λ (n : ℕ). n ≤ 1000) (length-map c.args.fields.now value_of) c.requires.0

pub sizes-types-requires-clause-storable : goal.sizes-types-requires-clause-storable
sizes-types-requires-clause-storable c = storable_each c.args.fields.now c.requires

pub put_reserved-requires : goal.put_reserved-requires
put_reserved-requires c =
    let counts = header_counts c.sizes-types.result.0 (omega (arith, c.sizes-types.ensures.few)) in
    let size = ap (λ (n : ℕ). length (varint n)) c.header_size-header.ensures.value in
    omega (arith, counts, size, ap length c.in_ok-out.ensures.items, c.in_ok-out.ensures.capacity, c.header_size-header.ensures.value)

pub put_types-requires-clause-storable : goal.put_types-requires-clause-storable
put_types-requires-clause-storable c = storable_each c.args.fields.now c.requires

pub put_types-requires-clause-room : goal.put_types-requires-clause-room
put_types-requires-clause-room c =
    let counts = header_counts c.sizes-types.result.0 (omega (arith, c.sizes-types.ensures.few)) in
    let size = ap (λ (n : ℕ). length (varint n)) c.header_size-header.ensures.value in
    let head = ap length c.in_ok-put_reserved.ensures.exact ∙ length-append c.in_ok-out.out.items (varint c.header_size-header.result) in
    omega (arith, counts, size, head, ap length c.in_ok-out.ensures.items, c.in_ok-out.ensures.capacity, c.in_ok-put_reserved.ensures.capacity, c.header_size-header.ensures.value, c.sizes-types.ensures.types)

pub put_bodies-requires : goal.put_bodies-requires
put_bodies-requires c =
    let counts = header_counts c.sizes-types.result.0 (omega (arith, c.sizes-types.ensures.few)) in
    let size = ap (λ (n : ℕ). length (varint n)) c.header_size-header.ensures.value in
    let head = ap length c.in_ok-put_reserved.ensures.exact ∙ length-append c.in_ok-out.out.items (varint c.header_size-header.result) in
    let types = ap length c.in_ok-put_types.ensures.ok ∙ length-append c.put_reserved.new.out.items (flat_map (λ f. type_of (value_of f)) c.args.fields.now) in
    omega (
      arith,
      counts,
      size,
      head,
      types,
      ap length c.in_ok-out.ensures.items,
      c.in_ok-out.ensures.capacity,
      c.in_ok-put_reserved.ensures.capacity,
      c.in_ok-put_types.ensures.capacity,
      c.header_size-header.ensures.value,
      c.sizes-types.ensures.types,
      c.sizes-types.ensures.bodies,
    )

pub returns-clause-exact : goal.returns-clause-exact
unfolding record_of
returns-clause-exact c =
    let types = sym (flat_map-map type_of value_of c.args.fields.now) in
    let bodies = sym (flat_map-map body_of value_of c.args.fields.now) in
    parts_are c.in_ok-out.out.items c.put_reserved.new.out.items c.put_types.new.out.items c.put_bodies.new.out.items
    (flat_map type_of (map value_of c.args.fields.now)) (flat_map body_of (map value_of c.args.fields.now)) c.header_size-header.result
    c.in_ok-out.ensures.items c.in_ok-put_reserved.ensures.exact (c.in_ok-put_types.ensures.ok ∙ ap (λ t. c.put_reserved.new.out.items ++ t) types) (c.in_ok-put_bodies.ensures.ok ∙ ap (λ b. c.put_types.new.out.items ++ b) bodies)
    (c.header_size-header.ensures.value ∙ ap header_len (c.sizes-types.ensures.types ∙ ap length types))

pub returns-clause-is : goal.returns-clause-is
returns-clause-is c =
    is_written (map value_of c.args.fields.now) (Ok c.put_bodies.new.out) c.requires (All-map Fits value_of c.args.fields.now c.in_ok-put_bodies.ensures.fits) (returns-clause-exact c)

pub returns-clause-shortest : goal.returns-clause-shortest
returns-clause-shortest c = is_shortest (map value_of c.args.fields.now) (Ok c.put_bodies.new.out) c.requires (returns-clause-exact c)
