use Rattle.std.proofs.Common.{◌≡◌, ◌∙◌, ◌<◌, ◌++◌, List, [], ◌∷◌, ℕ, length, map, rules, ap, Ok, Err, Vec, Global}
use Rattle.tree_pack.specs.Packing.{images}
use Rattle.tree_pack.specs.declared.spreading.Piece.{Piece}
use Rattle.tree_store.specs.Storing.{IsStored, cells_over}
use Rattle.tree_store.proofs.StoredPages.{ready, unwritten, ungiven, stored, passed_on, writes_since, all_given_since}
use Rattle.tree_store.proofs.storing.store.Goals as goal

-- the numbers of a vector
abbrev items : Vec ℕ Global → List ℕ
items numbers = numbers.items

pub returns-in_err-write_pages-clause-stored : goal.returns-in_err-write_pages-clause-stored
returns-in_err-write_pages-clause-stored g c = λ told free are olds_are sized.
    (let pages = g.P.Pages in
    let old = c.args.pages.now in
    let taken = c.take_behind.new.pages in
    let written = c.write_pages.new.pages in
    let size = (pages.limits (pages.below old)).page in
    let olds = c.args.olds.now in
    let packed = c.args.packed.now in
    let fronts = c.in-Some.fronts.now in
    let last = c.in-Some.last.now in
    let numbers = fronts ++ last ∷ [] in
    let spare = c.split_at.result.1.now in
    let len : c.len-count.result ≡ length packed.pieces.items = search rules in
    let r = ready items (pages.map old) (pages.map taken) size olds free c.split_at.result.0.now spare c.as_slice.result.now fronts last c.min.result c.len-count.result c.in_ok-numbers.numbers packed c.min.ensures
    c.split_at.ensures.front c.split_at.ensures.back c.as_slice.ensures.value c.in-Some.ensures.cases.0 len are olds_are (c.in_ok-numbers.ensures.taken told) in
    let fault = c.in_err-write_pages.field-0.0 in
    let writes = writes_since pages.below pages.tells pages.limits old taken (pages.map taken) (pages.map written) numbers (images packed) (Err fault) c.in_ok-numbers.ensures.kept c.in_err-write_pages.ensures.written told in
    passed_on (IsStored (pages.map old) (pages.map written) size olds free packed) (length olds < length (images packed)) fault c.from_residual-in_err-write_pages.result c.from_residual-in_err-write_pages.ensures.1
    (unwritten (pages.map old) (pages.map taken) (pages.map written) size olds free spare numbers (images packed) fault r.begun_is sized r.long writes))

pub returns-in_err-give_all-clause-stored : goal.returns-in_err-give_all-clause-stored
returns-in_err-give_all-clause-stored g c = λ told free are olds_are sized.
    (let pages = g.P.Pages in
    let old = c.args.pages.now in
    let taken = c.take_behind.new.pages in
    let written = c.write_pages.new.pages in
    let size = (pages.limits (pages.below old)).page in
    let olds = c.args.olds.now in
    let packed = c.args.packed.now in
    let fronts = c.in-Some.fronts.now in
    let last = c.in-Some.last.now in
    let numbers = fronts ++ last ∷ [] in
    let spare = c.split_at.result.1.now in
    let len : c.len-count.result ≡ length packed.pieces.items = search rules in
    let r = ready items (pages.map old) (pages.map taken) size olds free c.split_at.result.0.now spare c.as_slice.result.now fronts last c.min.result c.len-count.result c.in_ok-numbers.numbers packed c.min.ensures
    c.split_at.ensures.front c.split_at.ensures.back c.as_slice.ensures.value c.in-Some.ensures.cases.0 len are olds_are (c.in_ok-numbers.ensures.taken told) in
    let writes = writes_since pages.below pages.tells pages.limits old taken (pages.map taken) (pages.map written) numbers (images packed) (Ok tt) c.in_ok-numbers.ensures.kept c.in_ok-write_pages.ensures.written told in
    let fault = c.in_err-give_all.field-0.0 in
    let given = pages.map c.give_all.new.pages in
    let gives = all_given_since pages.below pages.tells pages.limits old written (pages.map written) given spare (Err fault) (c.in_ok-write_pages.ensures.kept ∙ c.in_ok-numbers.ensures.kept) c.in_err-give_all.ensures.given told in
    passed_on (IsStored (pages.map old) given size olds free packed) (length olds < length (images packed)) fault c.from_residual-in_err-give_all.result c.from_residual-in_err-give_all.ensures.1
    (ungiven (pages.map old) (pages.map taken) (pages.map written) given size olds free spare numbers (images packed) fault r.begun_is sized r.long writes gives))

pub returns-clause-stored : goal.returns-clause-stored
returns-clause-stored g c = λ told free are olds_are sized.
    (let pages = g.P.Pages in
    let old = c.args.pages.now in
    let taken = c.take_behind.new.pages in
    let written = c.write_pages.new.pages in
    let size = (pages.limits (pages.below old)).page in
    let olds = c.args.olds.now in
    let packed = c.args.packed.now in
    let fronts = c.in-Some.fronts.now in
    let last = c.in-Some.last.now in
    let numbers = fronts ++ last ∷ [] in
    let spare = c.split_at.result.1.now in
    let len : c.len-count.result ≡ length packed.pieces.items = search rules in
    let r = ready items (pages.map old) (pages.map taken) size olds free c.split_at.result.0.now spare c.as_slice.result.now fronts last c.min.result c.len-count.result c.in_ok-numbers.numbers packed c.min.ensures
    c.split_at.ensures.front c.split_at.ensures.back c.as_slice.ensures.value c.in-Some.ensures.cases.0 len are olds_are (c.in_ok-numbers.ensures.taken told) in
    let writes = writes_since pages.below pages.tells pages.limits old taken (pages.map taken) (pages.map written) numbers (images packed) (Ok tt) c.in_ok-numbers.ensures.kept c.in_ok-write_pages.ensures.written told in
    let given = pages.map c.give_all.new.pages in
    let gives = all_given_since pages.below pages.tells pages.limits old written (pages.map written) given spare (Ok tt) (c.in_ok-write_pages.ensures.kept ∙ c.in_ok-numbers.ensures.kept) c.in_ok-give_all.ensures.given told in
    record {
      fronts = fronts;
      cells_are = c.in_ok-cells.ensures.are ∙ ap (λ (l : List Piece). cells_over fronts (map (λ piece. piece.divider.items) l)) c.as_slice-2.ensures.value;
      stored = stored (pages.map old) (pages.map taken) (pages.map written) given size olds free spare numbers packed r.begun_is sized r.long writes gives;
    })
