-- A part of a page that is written over, and written back.
use Rattle.std.proofs.Common.{◌≡◌, ◌≤◌, ◌<◌, ◌==◌, ◌+◌, ◌-◌, ℕ, zero, suc, List, [], ◌∷◌, ◌++◌, length, take, drop, get_or, set, refl, sym, ◌∙◌, ap, subst, append_assoc, arith}
use Rattle.std.proofs.lemmas.Bool.{le-leb}
use Rattle.std.proofs.lemmas.List.{drop-drop, drop_at, length-append, length-drop, length-take-le, take_at, take-append-drop, with_items_is}
use Rattle.std.specs.Prelude.{IfErr, OnOk, Result, Ok, Err, ⊤, nat_le}
use Rattle.std.specs.Vec.{with_items}
use Rattle.pages.specs.Map.{written_over}
use Rattle.wal.specs.declared.pages.PageImage.{PageImage}
use Rattle.sqlval.specs.declared.fault.Fault.{Fault}
use Rattle.sqlval.specs.declared.fault.Fault.TheVariants.{Memory}
use Rattle.pager.specs.declared.writer.Writer.{Writer}
use Rattle.pager.specs.Limits.{page_size_of}
use Rattle.pager.specs.Sights.{bytes_of}
use Rattle.pager.specs.Sound.{GetsPage, KeepsRest}
use Rattle.pager.specs.Views.{changes_of}
use Rattle.pager.specs.Writers.{DiffersInPages, IsAt, IsConsistent, IsGapFor}
use Rattle.pager.specs.Undo.{NumbersRise, part_over, parts_over}
use Rattle.pager.proofs.PageWrites.{IsWritten, any_default, overwrites, rest_same}
use Rattle.pager.proofs.PartWrites.{over_long}
use Rattle.pager.proofs.Placing.{agrees, at_tail, before_is_other, differs, gap_in, gap_tail, greater_rises, if_false, if_true}
use Rattle.pager.proofs.Restoring.{same_image}
use Rattle.pager.proofs.Undoing.{part_number}

-- ---- bytes

-- what stood there, written over the bytes that were written over it, leaves what was
over_again : (offset : ℕ) (bytes old page : List ℕ) → offset + length bytes ≤ length page → old ≡ take (length bytes) (drop offset page) → written_over offset old (written_over offset bytes page) ≡ page
over_again offset bytes old page within is =
    ap (λ xs. xs ++ (old ++ drop (offset + length old) (written_over offset bytes page))) front
    ∙ ap (λ xs. take offset page ++ (old ++ xs)) (ap (λ n. drop n (written_over offset bytes page)) same ∙ behind)
    ∙ ap (λ xs. take offset page ++ xs) middle
    ∙ take-append-drop offset page
  where
    rest : List ℕ
    rest = drop (offset + length bytes) page

    left : length (drop offset page) ≡ length page - offset
    left = length-drop offset page

    same : offset + length old ≡ offset + length bytes
    same = ap (λ xs. offset + length xs) is ∙ ap (λ n. offset + n) (length-take-le (length bytes) (drop offset page) (omega (arith, left, within)))

    front : take offset (written_over offset bytes page) ≡ take offset page
    front = take_at (take offset page) (bytes ++ drop (offset + length bytes) page) offset (length-take-le offset page (omega (arith, within)))

    behind : drop (offset + length bytes) (written_over offset bytes page) ≡ drop (offset + length bytes) page
    behind =
        ap (drop (offset + length bytes)) (sym (append_assoc (take offset page) bytes (drop (offset + length bytes) page)))
        ∙ drop_at (take offset page ++ bytes) (drop (offset + length bytes) page) (offset + length bytes)
        (length-append (take offset page) bytes ∙ ap (λ n. n + length bytes) (length-take-le offset page (omega (arith, within))))

    middle : old ++ drop (offset + length bytes) page ≡ drop offset page
    middle =
        ap (λ xs. xs ++ drop (offset + length bytes) page) is
        ∙ ap (λ xs. take (length bytes) (drop offset page) ++ xs) (sym (drop-drop (length bytes) offset page))
        ∙ take-append-drop (length bytes) (drop offset page)

-- ---- one page

pub part_is : (offset : ℕ) (bytes : List ℕ) (page : PageImage) → offset + length bytes ≤ length page.bytes.items
    → part_over offset bytes page ≡ record { number = page.number; bytes = with_items page.bytes (written_over offset bytes page.bytes.items) }
part_is offset bytes page within =
    if_true (nat_le (offset + length bytes) (length page.bytes.items)) (record { number = page.number; bytes = with_items page.bytes (written_over offset bytes page.bytes.items) }) page (le-leb (offset + length bytes) (length page.bytes.items) within)

over_items : (offset : ℕ) (bytes : List ℕ) (page : PageImage) → offset + length bytes ≤ length page.bytes.items → (with_items page.bytes (written_over offset bytes page.bytes.items)).items ≡ written_over offset bytes page.bytes.items
over_items offset bytes page within = with_items_is page.bytes (written_over offset bytes page.bytes.items) (over_long offset bytes page.bytes.items within ∙ sym page.bytes.ok.0)

pub part_items : (offset : ℕ) (bytes : List ℕ) (page : PageImage) → offset + length bytes ≤ length page.bytes.items → (part_over offset bytes page).bytes.items ≡ written_over offset bytes page.bytes.items
part_items offset bytes page within = ap (λ (p : PageImage). p.bytes.items) (part_is offset bytes page within) ∙ over_items offset bytes page within

pub part_again : (offset : ℕ) (bytes old : List ℕ) (page : PageImage) → offset + length bytes ≤ length page.bytes.items → old ≡ take (length bytes) (drop offset page.bytes.items) → part_over offset old (part_over offset bytes page) ≡ page
part_again offset bytes old page within is =
    ap (part_over offset old) (part_is offset bytes page within)
    ∙ part_is offset old new fits
    ∙ same_image page (record { number = page.number; bytes = with_items new.bytes (written_over offset old new.bytes.items) }) refl refl refl refl items
  where
    new : PageImage
    new = record { number = page.number; bytes = with_items page.bytes (written_over offset bytes page.bytes.items) }

    new_items : (with_items page.bytes (written_over offset bytes page.bytes.items)).items ≡ written_over offset bytes page.bytes.items
    new_items = over_items offset bytes page within

    left : length (drop offset page.bytes.items) ≡ length page.bytes.items - offset
    left = length-drop offset page.bytes.items

    short : length old ≡ length bytes
    short = ap length is ∙ length-take-le (length bytes) (drop offset page.bytes.items) (omega (arith, left, within))

    long : length (with_items page.bytes (written_over offset bytes page.bytes.items)).items ≡ length page.bytes.items
    long = ap length new_items ∙ over_long offset bytes page.bytes.items within

    fits : offset + length old ≤ length (with_items page.bytes (written_over offset bytes page.bytes.items)).items
    fits = omega (arith, within, short, long)

    items : (with_items (with_items page.bytes (written_over offset bytes page.bytes.items)) (written_over offset old (with_items page.bytes (written_over offset bytes page.bytes.items)).items)).items ≡ page.bytes.items
    items = over_items offset old (record { number = page.number; bytes = with_items page.bytes (written_over offset bytes page.bytes.items) }) fits
        ∙ ap (written_over offset old) new_items
        ∙ over_again offset bytes old page.bytes.items within is

-- ---- the page of a number among others

parts_above : (last number offset : ℕ) (bytes : List ℕ) (ps : List PageImage) → number < last → NumbersRise last ps → parts_over number offset bytes ps ≡ ps
parts_above last number offset bytes [] lt are = refl
parts_above last number offset bytes (p ∷ ps) lt are =
    ap (λ q. q ∷ parts_over number offset bytes ps) (if_false (p.number == number) (part_over offset bytes p) p (differs p.number number (λ is. omega (arith, is, lt, are.0))))
    ∙ ap (λ qs. p ∷ qs) (parts_above (p.number + 1) number offset bytes ps (omega (arith, lt, are.0)) are.1)

-- where it stands
parts_set : (last : ℕ) (ps : List PageImage) (i number offset : ℕ) (bytes : List ℕ) (d : PageImage) → NumbersRise last ps → IsAt ps number i → set ps i (part_over offset bytes (get_or ps i d)) ≡ parts_over number offset bytes ps
parts_set last [] i number offset bytes d are at = absurd (omega (arith, at.within))
parts_set last (p ∷ ps) zero number offset bytes d are at =
    let same : p.number ≡ number = at.number_is p in
    sym (ap (λ q. q ∷ parts_over number offset bytes ps) (if_true (p.number == number) (part_over offset bytes p) p (agrees p.number number same))
    ∙ ap (λ qs. part_over offset bytes p ∷ qs) (parts_above (p.number + 1) number offset bytes ps (omega (arith, same)) are.1))
parts_set last (p ∷ ps) (suc i) number offset bytes d are at =
    let low = before_is_other last p ps number i are at in
    ap (λ qs. p ∷ qs) (parts_set (p.number + 1) ps i number offset bytes d are.1 (at_tail p ps number i at))
    ∙ sym (ap (λ q. q ∷ parts_over number offset bytes ps) (if_false (p.number == number) (part_over offset bytes p) p (differs p.number number (λ e. omega (arith, e, low)))))

pub parts_filled : (ps qs : List PageImage) (i number offset : ℕ) (bytes : List ℕ) → NumbersRise 0 ps → IsAt ps number i → ((d : PageImage) → qs ≡ set ps i (part_over offset bytes (get_or ps i d))) → qs ≡ parts_over number offset bytes ps
parts_filled [] qs i number offset bytes are at fills = absurd (omega (arith, at.within))
parts_filled (p ∷ ps) qs i number offset bytes are at fills = fills p ∙ parts_set 0 (p ∷ ps) i number offset bytes p are at

-- where it isn't
parts_gap : (last : ℕ) (ps : List PageImage) (number offset : ℕ) (bytes : List ℕ) (i : ℕ) → NumbersRise last ps → IsGapFor ps number i → parts_over number offset bytes ps ≡ ps
parts_gap last [] number offset bytes i are gap = refl
parts_gap last (p ∷ ps) number offset bytes zero are gap = parts_above (number + 1) number offset bytes (p ∷ ps) (omega arith) (greater_rises last number (p ∷ ps) are gap.greater)
parts_gap last (p ∷ ps) number offset bytes (suc i) are gap =
    let low : p.number < number = gap.smaller.0 in
    ap (λ q. q ∷ parts_over number offset bytes ps) (if_false (p.number == number) (part_over offset bytes p) p (differs p.number number (λ e. omega (arith, e, low))))
    ∙ ap (λ qs. p ∷ qs) (parts_gap (p.number + 1) ps number offset bytes i are.1 (gap_tail p ps number i gap))

pub parts_missing : (ps : List PageImage) (number offset : ℕ) (bytes : List ℕ) (r : Result ℕ ℕ) → NumbersRise 0 ps → IfErr r (λ index. IsGapFor ps number index) → ((index : ℕ) → r ≡ Ok index → ⊥) → parts_over number offset bytes ps ≡ ps
parts_missing ps number offset bytes r are gap other = (let g = gap_in ps number r gap other in parts_gap 0 ps number offset bytes g.0 are g.1)

-- and back
pub parts_back : (last : ℕ) (ps : List PageImage) (i number offset : ℕ) (bytes old : List ℕ) (here : PageImage) → NumbersRise last ps → IsAt ps number i → here ≡ get_or ps i here
    → part_over offset old (part_over offset bytes here) ≡ here → parts_over number offset old (set ps i (part_over offset bytes here)) ≡ ps
parts_back last [] i number offset bytes old here are at is again = absurd (omega (arith, at.within))
parts_back last (p ∷ ps) zero number offset bytes old here are at is again =
    let same : p.number ≡ number = at.number_is p in
    let there : here ≡ p = is in
    let new : (part_over offset bytes here).number ≡ number = part_number offset bytes here ∙ ap (λ (q : PageImage). q.number) there ∙ same in
    ap (λ q. q ∷ parts_over number offset old ps) (if_true ((part_over offset bytes here).number == number) (part_over offset old (part_over offset bytes here)) (part_over offset bytes here) (agrees (part_over offset bytes here).number number new) ∙ again ∙ there)
    ∙ ap (λ qs. p ∷ qs) (parts_above (p.number + 1) number offset old ps (omega (arith, same)) are.1)
parts_back last (p ∷ ps) (suc i) number offset bytes old here are at is again =
    let low = before_is_other last p ps number i are at in
    ap (λ q. q ∷ parts_over number offset old (set ps i (part_over offset bytes here))) (if_false (p.number == number) (part_over offset old p) p (differs p.number number (λ e. omega (arith, e, low))))
    ∙ ap (λ qs. p ∷ qs) (parts_back (p.number + 1) ps i number offset bytes old here are.1 (at_tail p ps number i at) is again)

-- ---- a writer

pub bytes_at : (ps : List PageImage) (i : ℕ) (d : PageImage) → i < length ps → get_or (bytes_of ps) i [] ≡ (get_or ps i d).bytes.items
bytes_at [] i d lt = absurd (omega (arith, lt))
bytes_at (p ∷ ps) zero d lt = refl
bytes_at (p ∷ ps) (suc i) d lt = bytes_at ps i d (omega (arith, lt))

-- the page at a place
abbrev pub here_at : (ps : List PageImage) (i : ℕ) → i < length ps → PageImage
here_at [] i lt = absurd (omega (arith, lt))
here_at (p ∷ ps) i lt = get_or (p ∷ ps) i p

pub here_is : (ps : List PageImage) (i : ℕ) (lt : i < length ps) → here_at ps i lt ≡ get_or ps i (here_at ps i lt)
here_is [] i lt = absurd (omega (arith, lt))
here_is (p ∷ ps) i lt = any_default (p ∷ ps) i p (get_or (p ∷ ps) i p) lt

pub part_at : (ps : List PageImage) (i number offset : ℕ) (bytes : List ℕ) (here : PageImage) → IsAt ps number i → here ≡ get_or ps i here → IsAt ps (part_over offset bytes here).number i
part_at ps i number offset bytes here at is = record {
  within = at.within;
  number_is = λ d. at.number_is d ∙ sym (part_number offset bytes here ∙ ap (λ (p : PageImage). p.number) is ∙ at.number_is here);
}

pub filled_is : (ps qs : List PageImage) (i offset : ℕ) (bytes : List ℕ) (here : PageImage) → here ≡ get_or ps i here → ((d : PageImage) → qs ≡ set ps i (part_over offset bytes (get_or ps i d))) → qs ≡ set ps i (part_over offset bytes here)
filled_is ps qs i offset bytes here is fills = fills here ∙ ap (λ (p : PageImage). set ps i (part_over offset bytes p)) (sym is)

pub part_written : (old new : Writer) (i number offset : ℕ) (bytes : List ℕ) (here page : PageImage) → DiffersInPages old new → changes_of new ≡ set (changes_of old) i page → IsAt (changes_of old) number i → here ≡ get_or (changes_of old) i here
    → page.number ≡ here.number → page.bytes.items ≡ written_over offset bytes here.bytes.items → length here.bytes.items ≡ page_size_of old → offset + length bytes ≤ page_size_of old
    → IsWritten number (written_over offset bytes (get_or (bytes_of (changes_of old)) i [])) old new
part_written old new i number offset bytes here page rest changes at is same items long fits =
    let now : length (written_over offset bytes here.bytes.items) ≡ page_size_of old = over_long offset bytes here.bytes.items (subst (λ n. offset + length bytes ≤ n) (sym long) fits) ∙ long in
    subst (λ xs. IsWritten number (written_over offset bytes xs) old new) (sym (bytes_at (changes_of old) i here at.within ∙ ap (λ (p : PageImage). p.bytes.items) (sym is)))
    (overwrites old new i number here page (written_over offset bytes here.bytes.items) rest changes at is same items now (long ∙ sym now))

-- a part that was written in place, or was refused
module _ (old new : Writer) (i number offset : ℕ) (bytes : List ℕ) (rest : DiffersInPages old new) (at : IsAt (changes_of old) number i) (long : (d : PageImage) → length (get_or (changes_of old) i d).bytes.items ≡ page_size_of old) (fits : offset + length bytes ≤ page_size_of old) where
  pub part_filled : ((d : PageImage) → changes_of new ≡ set (changes_of old) i (part_over offset bytes (get_or (changes_of old) i d))) → IsWritten number (written_over offset bytes (get_or (bytes_of (changes_of old)) i [])) old new
  part_filled fills =
      let here = here_at (changes_of old) i at.within in
      let is = here_is (changes_of old) i at.within in
      let whole : length here.bytes.items ≡ page_size_of old = ap (λ (p : PageImage). length p.bytes.items) is ∙ long here in
      part_written old new i number offset bytes here (part_over offset bytes here) rest (filled_is (changes_of old) (changes_of new) i offset bytes here is fills) at is
      (part_number offset bytes here) (part_items offset bytes here (subst (λ n. offset + length bytes ≤ n) (sym whole) fits)) whole fits

  pub part_rest : (result : Result ⊤ Fault) → ((d : PageImage) → OnOk result (changes_of new ≡ set (changes_of old) i (part_over offset bytes (get_or (changes_of old) i d)))) → IfErr result (λ fault. (fault ≡ Memory) × (changes_of new ≡ changes_of old)) → KeepsRest old new
  part_rest (Ok x) fills refused = (part_filled fills).rest
  part_rest (Err fault) fills refused = rest_same old new rest refused.1

  pub part_gets : (result : Result ⊤ Fault) → ((d : PageImage) → OnOk result (changes_of new ≡ set (changes_of old) i (part_over offset bytes (get_or (changes_of old) i d)))) → IsConsistent old
      → OnOk result (GetsPage number (written_over offset bytes (get_or (bytes_of (changes_of old)) i [])) old new)
  part_gets (Ok x) fills whole = (part_filled fills).gets whole
  part_gets (Err fault) fills whole = tt
