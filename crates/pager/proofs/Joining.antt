-- What a change of one piece is among the items of all.
use Rattle.std.proofs.Common.{◌≡◌, ◌<◌, ◌≤◌, ◌+◌, ◌-◌, ◌++◌, ◌∷◌, [], ℕ, zero, suc, List, length, take, drop, get_or, set, refl, sym, ◌∙◌, ap, subst, arith, append_assoc}
use Rattle.std.specs.Prelude.{Result, Ok, Err, OnErr}
use Rattle.std.specs.List.{insert, remove}
use Rattle.std.specs.Global.{Vec}
use Rattle.std.proofs.lemmas.List.{append-nil, get_or_read, set-append_left, set-append_right}
use Rattle.std.proofs.lemmas.List.Concat.{flat_map-append, get_or-flat_map}
use Rattle.std.proofs.lemmas.List.Edits.{insert-append_left, insert-append_right, remove-append_left, remove-append_right}
use Rattle.pager.specs.Pieces.{IsRoom, IsSpot, all_items}

-- at each refusal
pub on_err : {A E P : Type 0} (r : Result A E) → P → OnErr r P
on_err (Ok x) p = tt
on_err (Err e) p = p

-- ---- lists

module _ {T : Type 0} (front here rest : List T) (place at : ℕ) (is : place ≡ length front + at) where
  offset : place - length front ≡ at
  offset = omega (arith, is)

  pub set_within : (x : T) → at < length here → set (front ++ (here ++ rest)) place x ≡ front ++ (set here at x ++ rest)
  set_within x lt =
      set-append_right front (here ++ rest) (length front) place x refl (omega (arith, is))
      ∙ ap (λ i. front ++ set (here ++ rest) i x) offset
      ∙ ap (λ xs. front ++ xs) (set-append_left here rest at x lt)

  pub insert_within : (x : T) → at ≤ length here → insert (front ++ (here ++ rest)) place x ≡ front ++ (insert here at x ++ rest)
  insert_within x le =
      insert-append_right front (here ++ rest) (length front) place x refl (omega (arith, is))
      ∙ ap (λ i. front ++ insert (here ++ rest) i x) offset
      ∙ ap (λ xs. front ++ xs) (insert-append_left here rest at x le)

  pub remove_within : at < length here → remove (front ++ (here ++ rest)) place ≡ front ++ (remove here at ++ rest)
  remove_within lt =
      remove-append_right front (here ++ rest) (length front) place refl (omega (arith, is))
      ∙ ap (λ i. front ++ remove (here ++ rest) i) offset
      ∙ ap (λ xs. front ++ xs) (remove-append_left here rest at lt)

pub remove_insert : {T : Type 0} (xs : List T) (i : ℕ) (x : T) → i ≤ length xs → remove (insert xs i x) i ≡ xs
remove_insert xs zero x le = refl
remove_insert [] (suc i) x le = absurd (omega (arith, le))
remove_insert (y ∷ xs) (suc i) x le = ap (λ zs. y ∷ zs) (remove_insert xs i x (omega (arith, le)))

-- ---- pieces

module _ {T : Type 0} where
  -- the items before a piece, its own, and those after it
  pub parted : (ps : List (Vec T)) (k : ℕ) (d : Vec T) → k < length ps → all_items ps ≡ all_items (take k ps) ++ ((get_or ps k d).items ++ all_items (drop (suc k) ps))
  parted [] k d lt = absurd (omega (arith, lt))
  parted (p ∷ ps) zero d lt = refl
  parted (p ∷ ps) (suc k) d lt = ap (λ xs. p.items ++ xs) (parted ps k d (omega (arith, lt))) ∙ sym (append_assoc p.items (all_items (take k ps)) ((get_or ps k d).items ++ all_items (drop (suc k) ps)))

  pub parted_set : (ps : List (Vec T)) (k : ℕ) (q : Vec T) → k < length ps → all_items (set ps k q) ≡ all_items (take k ps) ++ (q.items ++ all_items (drop (suc k) ps))
  parted_set [] k q lt = absurd (omega (arith, lt))
  parted_set (p ∷ ps) zero q lt = refl
  parted_set (p ∷ ps) (suc k) q lt = ap (λ xs. p.items ++ xs) (parted_set ps k q (omega (arith, lt))) ∙ sym (append_assoc p.items (all_items (take k ps)) (q.items ++ all_items (drop (suc k) ps)))

  pub items_more : (ps : List (Vec T)) (k : ℕ) (d : Vec T) → k < length ps → all_items (take (suc k) ps) ≡ all_items (take k ps) ++ (get_or ps k d).items
  items_more [] k d lt = absurd (omega (arith, lt))
  items_more (p ∷ ps) zero d lt = append-nil p.items
  items_more (p ∷ ps) (suc k) d lt = ap (λ xs. p.items ++ xs) (items_more ps k d (omega (arith, lt))) ∙ sym (append_assoc p.items (all_items (take k ps)) (get_or ps k d).items)

  -- ---- the item at a place, in its piece

  module _ (ps : List (Vec T)) (place k at : ℕ) (p : Vec T) (p_is : p ≡ get_or ps k p) where
    pub spot_read : (x : T) → IsSpot ps place k at → x ≡ get_or p.items at x → x ≡ get_or (all_items ps) place x
    spot_read x is x_is =
        x_is ∙ ap (λ (v : Vec T). get_or v.items at x) p_is
        ∙ sym (get_or-flat_map (λ (v : Vec T). v.items) ps k at p x is.within (is.there p)) ∙ ap (λ i. get_or (all_items ps) i x) (sym is.place_is)

    pub spot_within : IsSpot ps place k at → at < length p.items
    spot_within is = subst (λ (v : Vec T). at < length v.items) (sym p_is) (is.there p)

    pub room_within : IsRoom ps place k at → at ≤ length p.items
    room_within is = subst (λ (v : Vec T). at ≤ length v.items) (sym p_is) (is.there p)

    pub spot_set : (q : Vec T) (x : T) → IsSpot ps place k at → q.items ≡ set p.items at x → all_items (set ps k q) ≡ set (all_items ps) place x
    spot_set q x is q_is =
        parted_set ps k q is.within
        ∙ ap (λ xs. all_items (take k ps) ++ (xs ++ all_items (drop (suc k) ps))) q_is
        ∙ sym (set_within (all_items (take k ps)) p.items (all_items (drop (suc k) ps)) place at is.place_is x (spot_within is))
        ∙ ap (λ (v : Vec T). set (all_items (take k ps) ++ (v.items ++ all_items (drop (suc k) ps))) place x) p_is
        ∙ ap (λ xs. set xs place x) (sym (parted ps k p is.within))

    pub room_insert : (q : Vec T) (x : T) → IsRoom ps place k at → q.items ≡ insert p.items at x → all_items (set ps k q) ≡ insert (all_items ps) place x
    room_insert q x is q_is =
        parted_set ps k q is.within
        ∙ ap (λ xs. all_items (take k ps) ++ (xs ++ all_items (drop (suc k) ps))) q_is
        ∙ sym (insert_within (all_items (take k ps)) p.items (all_items (drop (suc k) ps)) place at is.place_is x (room_within is))
        ∙ ap (λ (v : Vec T). insert (all_items (take k ps) ++ (v.items ++ all_items (drop (suc k) ps))) place x) p_is
        ∙ ap (λ xs. insert xs place x) (sym (parted ps k p is.within))

    pub spot_remove : (q : Vec T) → IsSpot ps place k at → q.items ≡ remove p.items at → all_items (set ps k q) ≡ remove (all_items ps) place
    spot_remove q is q_is =
        parted_set ps k q is.within
        ∙ ap (λ xs. all_items (take k ps) ++ (xs ++ all_items (drop (suc k) ps))) q_is
        ∙ sym (remove_within (all_items (take k ps)) p.items (all_items (drop (suc k) ps)) place at is.place_is (spot_within is))
        ∙ ap (λ (v : Vec T). remove (all_items (take k ps) ++ (v.items ++ all_items (drop (suc k) ps))) place) p_is
        ∙ ap (λ xs. remove xs place) (sym (parted ps k p is.within))

  -- another piece with the same items
  pub same_set : (ps : List (Vec T)) (k : ℕ) (p q : Vec T) → k < length ps → p ≡ get_or ps k p → q.items ≡ p.items → all_items (set ps k q) ≡ all_items ps
  same_set ps k p q lt p_is q_is =
      parted_set ps k q lt
      ∙ ap (λ xs. all_items (take k ps) ++ (xs ++ all_items (drop (suc k) ps))) q_is
      ∙ ap (λ (v : Vec T). all_items (take k ps) ++ (v.items ++ all_items (drop (suc k) ps))) p_is
      ∙ sym (parted ps k p lt)

  -- a piece of nothing that is added
  pub empty_in : (ps : List (Vec T)) (p : Vec T) → p.items ≡ [] → all_items (ps ++ p ∷ []) ≡ all_items ps
  empty_in ps p none =
      flat_map-append (λ (v : Vec T). v.items) ps (p ∷ [])
      ∙ ap (λ xs. all_items ps ++ (xs ++ [])) none
      ∙ append-nil (all_items ps)

  -- a piece of nothing that is taken out
  pub empty_out : (ps : List (Vec T)) (k : ℕ) (p : Vec T) → k < length ps → p ≡ get_or ps k p → p.items ≡ [] → all_items (remove ps k) ≡ all_items ps
  empty_out ps k p lt is none =
      flat_map-append (λ (v : Vec T). v.items) (take k ps) (drop (suc k) ps)
      ∙ ap (λ xs. all_items (take k ps) ++ (xs ++ all_items (drop (suc k) ps))) (sym none)
      ∙ ap (λ (v : Vec T). all_items (take k ps) ++ (v.items ++ all_items (drop (suc k) ps))) is
      ∙ sym (parted ps k p lt)

  cut_apart : (ps : List (Vec T)) (k : ℕ) (q r : Vec T) → k < length ps → (get_or ps k q).items ≡ q.items ++ r.items → all_items (insert (set ps k q) (suc k) r) ≡ all_items ps
  cut_apart [] k q r lt is = absurd (omega (arith, lt))
  cut_apart (p ∷ ps) zero q r lt is = sym (ap (λ xs. xs ++ all_items ps) is ∙ append_assoc q.items r.items (all_items ps))
  cut_apart (p ∷ ps) (suc k) q r lt is = ap (λ xs. p.items ++ xs) (cut_apart ps k q r (omega (arith, lt)) is)

  -- a piece that is cut in two
  pub cut_in_two : (ps : List (Vec T)) (k : ℕ) (p q r : Vec T) → k < length ps → p ≡ get_or ps k p → p.items ≡ q.items ++ r.items → all_items (insert (set ps k q) (k + 1) r) ≡ all_items ps
  cut_in_two ps k p q r lt is p_is =
      let next : suc k ≡ k + 1 = omega arith in
      subst (λ (n : ℕ). all_items (insert (set ps k q) n r) ≡ all_items ps) next
      (cut_apart ps k q r lt (ap (λ (v : Vec T). v.items) (sym (get_or_read ps k p lt is q)) ∙ p_is))

  -- one piece in place of all
  pub alone : (ps : List (Vec T)) (q : Vec T) → 0 < length ps → set (take 1 ps) 0 q ≡ q ∷ []
  alone [] q some = absurd (omega (arith, some))
  alone (p ∷ ps) q some = refl

  pub items_alone : (ps : List (Vec T)) (q : Vec T) → 0 < length ps → all_items (set (take 1 ps) 0 q) ≡ q.items
  items_alone ps q some = ap all_items (alone ps q some) ∙ append-nil q.items
