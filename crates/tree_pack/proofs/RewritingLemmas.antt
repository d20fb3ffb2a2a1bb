-- Payloads in the places of others.
use Rattle.std.proofs.Common.{◌≡◌, ◌≤◌, ◌<◌, ◌+◌, ◌-◌, ◌*◌, ℕ, ℤ, pos, suc, zero, List, [], ◌∷◌, ◌++◌, length, take, drop, slice_index_or, refl, sym, ap, subst, ◌∙◌, append_assoc, arith}
use Rattle.std.specs.Prelude.{slice_set}
use Rattle.std.specs.List.{flat_map, slice_range}
use Rattle.std.proofs.lemmas.Grind.{common_steps}
use Rattle.std.proofs.lemmas.List.{take_all, take_at, drop_at, drop_more, take-append-drop, set_split, length-append, length-drop, length-take-le}
use Rattle.record.specs.Varint.{IsVarint}
use Rattle.tree_page.specs.Cells.{Span, pointer, Pairwise, IsAt, page_header, IsTreePage}
use Rattle.tree_page.specs.Node.{Local, Rows, IsNode, IsRowCell}
use Rattle.tree_page.specs.Payload.{held_size, table_most}
use Rattle.tree_page.proofs.HeaderLemmas.{length-pointers, same_length, length-header}
use Rattle.tree_pack.specs.Replacing.{written_over, no_span}
use Rattle.tree_pack.specs.Rewriting.{whole, IsRewritten, IsPayloadAt}
use Rattle.tree_pack.proofs.ReplacingLemmas.{page_with}

-- the header and the pointers are within the page
pub front_fits : (kind : ℕ) (page : List ℕ) (start : ℕ) (right : List ℕ) (cells : List (List ℕ)) (is : IsTreePage kind page start right cells) → start + 8 + length right + 2 * length cells ≤ length page
front_fits kind page start right cells is =
    let header = page_header kind is.freeblock (length cells) is.content is.fragments in
    let pointers = flat_map pointer is.spans in
    let eight = length-header kind (length cells) is.fragments is.freeblock is.content is.freeblock_is is.content_is in
    let count : length is.spans ≡ length cells = same_length (IsAt page) is.spans cells is.cells_are in
    let whole = ap length is.parts in
    omega (
      arith,
      whole,
      length-append is.before (header ++ (right ++ (pointers ++ is.rest))),
      length-append header (right ++ (pointers ++ is.rest)),
      length-append right (pointers ++ is.rest),
      length-append pointers is.rest,
      eight,
      is.start_is,
      length-pointers is.spans,
      count,
    )

-- the rest of a page as a range
pub rest_of : (page : List ℕ) (at : ℕ) → at ≤ length page → slice_range page at (length page) ≡ drop at page
rest_of page at le = take_all (length page - at) (drop at page) (let long = length-drop at page in omega (arith, long))

-- where a cell lies on its page
module _ (page : List ℕ) where
  pub at_place : (spans : List Span) (cells : List (List ℕ)) → Pairwise (IsAt page) spans cells → (place : ℕ) → place < length cells → IsAt page (slice_index_or spans place no_span) (slice_index_or cells place [])
  at_place [] [] all place lt = absurd (omega (arith, lt))
  at_place [] (cell ∷ cells) all place lt = absurd all
  at_place (span ∷ spans) [] all place lt = absurd all
  at_place (span ∷ spans) (cell ∷ cells) all zero lt = all.0
  at_place (span ∷ spans) (cell ∷ cells) all (suc place) lt = at_place spans cells all.1 place (omega (arith, lt))

-- from the place on where a cell lies, its bytes stand first
pub cell_first : (page : List ℕ) (span : Span) (cell : List ℕ) (is : IsAt page span cell) → drop span.from page ≡ cell ++ is.after
cell_first page span cell is = ap (λ (n : ℕ). drop n page) is.from_is ∙ ap (drop (length is.before)) is.parts ∙ drop_at is.before (cell ++ is.after) (length is.before) refl

-- what each of two lists has at a place
pub pair_of : {A B : Type 0} (P : A → B → Type 0) (xs : List A) (ys : List B) → Pairwise P xs ys → (place : ℕ) → place < length xs → (a : A) (b : B) → P (slice_index_or xs place a) (slice_index_or ys place b)
pair_of P [] [] all place lt a b = absurd (omega (arith, lt))
pair_of P [] (y ∷ ys) all place lt a b = absurd all
pair_of P (x ∷ xs) [] all place lt a b = absurd all
pair_of P (x ∷ xs) (y ∷ ys) all zero lt a b = all.0
pair_of P (x ∷ xs) (y ∷ ys) all (suc place) lt a b = pair_of P xs ys all.1 place (omega (arith, lt)) a b

-- what a list has at a place doesn't hang on what is said where it has none
pub item_is : {A : Type 0} (xs : List A) (place : ℕ) → place < length xs → (a b : A) → slice_index_or xs place a ≡ slice_index_or xs place b
item_is [] place lt a b = absurd (omega (arith, lt))
item_is (x ∷ xs) zero lt a b = refl
item_is (x ∷ xs) (suc place) lt a b = item_is xs place (omega (arith, lt)) a b

-- the row at a place, where the bytes from its cell on are read
module _ (page : List ℕ) (start : ℕ) (said : List (ℤ × Local)) (is : IsNode page start (Rows said)) (place : ℕ) (there : place < length is.cells) where
  abbrev pub span : Span
  span = slice_index_or is.page_is.spans place no_span

  abbrev pub old : List ℕ
  old = slice_index_or is.cells place []

  abbrev pub row : ℤ × Local
  row = slice_index_or said place (pos 0, whole [])

  pub lies : IsAt page span old
  lies = at_place page is.page_is.spans is.cells is.page_is.cells_are place there

  pub in_said : place < length said
  in_said = (let e = same_length (IsRowCell (length page)) is.cells said is.say in omega (arith, there, e))

  pub says : IsRowCell (length page) old row
  says = pair_of (IsRowCell (length page)) is.cells said is.say place there [] (pos 0, whole [])

  pub first : drop span.from page ≡ says.size ++ (says.rowid ++ (row.1.bytes ++ lies.after))
  first = cell_first page span old lies ∙ ap (λ (x : List ℕ). x ++ lies.after) says.parts ∙ append_assoc says.size (says.rowid ++ row.1.bytes) lies.after
      ∙ ap (λ (x : List ℕ). says.size ++ x) (append_assoc says.rowid row.1.bytes lies.after)

  pub payload_found : (size at : ℕ) (payload : List ℕ) → payload ≡ row.1.bytes ++ lies.after → row.1.size ≡ size → at ≡ length page - length payload → IsPayloadAt page start said is place size at
  payload_found size at payload payload_is size_is at_is = record {
    row = row;
    row_is = λ d. item_is said place in_said d (pos 0, whole []);
    says = says;
    size_is = size_is;
    at_is = (let long = ap length lies.parts in let from = lies.from_is in let parts = ap length says.parts in let rest = ap length payload_is in
        omega (
          arith,
          at_is,
          long,
          length-append lies.before (old ++ lies.after),
          length-append old lies.after,
          from,
          parts,
          length-append says.size (says.rowid ++ row.1.bytes),
          length-append says.rowid row.1.bytes,
          rest,
          length-append row.1.bytes lies.after,
        ));
  }

-- ---- the payload is written

-- a payload that is at most so long lies whole in its cell
held_whole : (usable size : ℕ) → size ≤ usable - 35 → held_size usable (table_most usable) size ≡ size
held_whole usable size le = grind (arith, common_steps)

-- what is written over the end of what stands from a place on
written_end : (page : List ℕ) (at : ℕ) (front payload : List ℕ) (rest : List ℕ) → at ≤ length page → drop at page ≡ front ++ rest → written_over (at + length front) payload page ≡ written_over at (front ++ payload) page
written_end page at front payload rest le is =
    let page_is : page ≡ (take at page ++ front) ++ rest = sym (take-append-drop at page) ∙ ap (λ (x : List ℕ). take at page ++ x) is ∙ sym (append_assoc (take at page) front rest) in
    let long : length (take at page ++ front) ≡ at + length front = (let a = length-append (take at page) front in let t = length-take-le at page le in omega (arith, a, t)) in
    let taken : take (at + length front) page ≡ take at page ++ front = ap (λ (x : List ℕ). take (at + length front) x) page_is ∙ take_at (take at page ++ front) rest (at + length front) long in
    let left : at + length front + length payload ≡ at + length (front ++ payload) = (let e = length-append front payload in omega (arith, e)) in
    ap (λ (x : List ℕ). x ++ (payload ++ drop (at + length front + length payload) page)) taken ∙ append_assoc (take at page) front (payload ++ drop (at + length front + length payload) page)
    ∙ ap (λ (x : List ℕ). take at page ++ x) (sym (append_assoc front payload (drop (at + length front + length payload) page)))
    ∙ ap (λ (n : ℕ). take at page ++ ((front ++ payload) ++ drop n page)) left

-- where two lists go together, they do so with another pair at a place
pub pairs_set : {A B : Type 0} (P : A → B → Type 0) (xs : List A) (ys : List B) → Pairwise P xs ys → (place : ℕ) (x : A) (y : B) → P x y → Pairwise P (slice_set xs place x) (slice_set ys place y)
pairs_set P [] [] all place x y h = tt
pairs_set P [] (b ∷ ys) all place x y h = absurd all
pairs_set P (a ∷ xs) [] all place x y h = absurd all
pairs_set P (a ∷ xs) (b ∷ ys) all zero x y h = (h, all.1)
pairs_set P (a ∷ xs) (b ∷ ys) all (suc place) x y h = (all.0, pairs_set P xs ys all.1 place x y h)

module _ (page : List ℕ) (start : ℕ) (said : List (ℤ × Local)) (is : IsNode page start (Rows said)) (place : ℕ) (there : place < length is.cells) (payload : List ℕ) (at : ℕ)
    (found : IsPayloadAt page start said is place (length payload) at) (short : length payload ≤ length page - 35) where
  abbrev cell : List ℕ
  cell = found.says.size ++ (found.says.rowid ++ payload)

  abbrev place_span : Span
  place_span = slice_index_or is.page_is.spans place no_span

  says_new : IsRowCell (length page) cell (found.row.0, whole payload)
  says_new = record {
    size = found.says.size;
    rowid = found.says.rowid;
    number = found.says.number;
    parts = refl;
    size_is = subst (λ (n : ℕ). IsVarint found.says.size n) found.size_is found.says.size_is;
    rowid_is = found.says.rowid_is;
    signed = found.says.signed;
    held = sym (held_whole (length page) (length payload) short);
  }

  pub payload_put : (new : List ℕ) → at + length payload ≤ length page → new ≡ written_over at payload page → IsRewritten page start said is place payload new
  payload_put new fits new_is =
      let spans = is.page_is.spans in
      let cells = is.cells in
      let xs = take place cells in
      let ys = drop (place + 1) cells in
      let was = slice_index_or cells place [] in
      let span = place_span in
      let here = at_place page spans cells is.page_is.cells_are place there in
      let head = found.says.size ++ found.says.rowid in
      let bytes = found.row.1.bytes in
      let held = found.says.held ∙ ap (held_size (length page) (table_most (length page))) found.size_is ∙ held_whole (length page) (length payload) short in
      let head_long = length-append found.says.size found.says.rowid in
      let was_long : length was ≡ length head + length payload =
      (let a = ap length found.says.parts in let b = length-append found.says.size (found.says.rowid ++ bytes) in let d = length-append found.says.rowid bytes in omega (arith, a, b, d, head_long, held)) in
      let now_long : length cell ≡ length head + length payload =
      (let b = length-append found.says.size (found.says.rowid ++ payload) in let d = length-append found.says.rowid payload in omega (arith, b, d, head_long)) in
      let at_is : at ≡ span.from + length head = (let e = found.at_is in omega (arith, e, head_long)) in
      let cells_are : cells ≡ xs ++ (was ∷ ys) = sym (take-append-drop place cells) ∙ ap (λ (x : List (List ℕ)). xs ++ x) (drop_more cells place [] there) in
      let offset : (slice_index_or spans (length xs) no_span).from ≡ span.from = ap (λ (n : ℕ). (slice_index_or spans n no_span).from) (length-take-le place cells (let lt = there in omega (arith, lt))) in
      let within : span.from + length cell ≤ length page = omega (arith, fits, at_is, now_long) in
      let next = page_with 13 page start [] cells is.page_is xs was cell ys span.from cells_are (was_long ∙ sym now_long) offset within in
      let on : place + 1 ≡ suc place = omega arith in
      let set_is : xs ++ (cell ∷ ys) ≡ slice_set cells place cell = ap (λ (n : ℕ). xs ++ (cell ∷ drop n cells)) on ∙ sym (set_split cells place cell there) in
      let left : drop span.from page ≡ head ++ (bytes ++ here.after) =
      cell_first page span was here ∙ ap (λ (x : List ℕ). x ++ here.after) found.says.parts ∙ append_assoc found.says.size (found.says.rowid ++ bytes) here.after
      ∙ ap (λ (x : List ℕ). found.says.size ++ x) (append_assoc found.says.rowid bytes here.after) ∙ sym (append_assoc found.says.size found.says.rowid (bytes ++ here.after)) in
      let written : new ≡ written_over span.from cell page = new_is ∙ ap (λ (n : ℕ). written_over n payload page) at_is
      ∙ written_end page span.from head payload (bytes ++ here.after) (omega (arith, within)) left
      ∙ ap (λ (x : List ℕ). written_over span.from x page) (append_assoc found.says.size found.says.rowid payload) in
      let of_set : IsTreePage 13 (written_over span.from cell page) start [] (slice_set cells place cell) = subst (λ (cs : List (List ℕ)). IsTreePage 13 (written_over span.from cell page) start [] cs) set_is next.now in
      let of_new : IsTreePage 13 new start [] (slice_set cells place cell) = subst (λ (x : List ℕ). IsTreePage 13 x start [] (slice_set cells place cell)) (sym written) of_set in
      let long : length new ≡ length page = ap length written ∙ next.long in
      record {
        row = found.row;
        row_is = found.row_is;
        size_is = found.size_is;
        short = short;
        cell = cell;
        says = says_new;
        now = record {
          cells = slice_set cells place cell;
          page_is = of_new;
          say = subst (λ (n : ℕ). Pairwise (IsRowCell n) (slice_set cells place cell) (slice_set said place (found.row.0, whole payload))) (sym long)
              (pairs_set (IsRowCell (length page)) cells said is.say place cell (found.row.0, whole payload) says_new);
        };
        cells_are = refl;
        long = long;
        front = ap (take start) written ∙ next.front_same;
      }
