-- The first of the pages of all pieces.
use Rattle.std.proofs.Common.{◌≡◌, ◌<◌, ◌++◌, [], ℕ, suc, List, length, take, drop, get_or, set, sym, ◌∙◌, ap, subst, arith}
use Rattle.std.specs.Global.{Vec}
use Rattle.std.proofs.lemmas.List.{nil_from_length}
use Rattle.db_header.specs.declared.fields.Header.{Header}
use Rattle.wal.specs.declared.pages.PageImage.{PageImage}
use Rattle.pager.specs.Pieces.{IsSpot, all_items}
use Rattle.pager.specs.Writers.{FirstIsBytes, HasHeader, Reheads, SetsFirst}
use Rattle.pager.proofs.Joining.{parted, parted_set, spot_within}
use Rattle.pager.proofs.Reheading.{bytes_in, header_in, reheads_in, sets_in}

module _ (ps : List (Vec PageImage)) (k at : ℕ) (p q : Vec PageImage) (is : IsSpot ps 0 k at) (p_is : p ≡ get_or ps k p) where
  some : 0 < length p.items
  some = (let within = spot_within ps 0 k at p p_is is in omega (arith, within))

  none : all_items (take k ps) ≡ []
  none = nil_from_length (all_items (take k ps)) (let place = is.place_is in omega (arith, place))

  before : all_items ps ≡ p.items ++ all_items (drop (suc k) ps)
  before = parted ps k p is.within ∙ ap (λ (v : Vec PageImage). all_items (take k ps) ++ (v.items ++ all_items (drop (suc k) ps))) (sym p_is) ∙ ap (λ xs. xs ++ (p.items ++ all_items (drop (suc k) ps))) none

  after : all_items (set ps k q) ≡ q.items ++ all_items (drop (suc k) ps)
  after = parted_set ps k q is.within ∙ ap (λ xs. xs ++ (q.items ++ all_items (drop (suc k) ps))) none

  pub first_sets : SetsFirst p.items q.items → SetsFirst (all_items ps) (all_items (set ps k q))
  first_sets sets = subst (λ xs. SetsFirst xs (all_items (set ps k q))) (sym before) (subst (SetsFirst (p.items ++ all_items (drop (suc k) ps))) (sym after) (sets_in p.items q.items (all_items (drop (suc k) ps)) some sets))

  pub first_reheads : (old new : Header) → ((h : Header) → HasHeader p.items h → Reheads p.items q.items new) → HasHeader (all_items ps) old → Reheads (all_items ps) (all_items (set ps k q)) new
  first_reheads old new re has =
      let own = header_in p.items (all_items (drop (suc k) ps)) old some (subst (λ xs. HasHeader xs old) before has) in
      subst (λ xs. Reheads xs (all_items (set ps k q)) new) (sym before) (subst (λ xs. Reheads (p.items ++ all_items (drop (suc k) ps)) xs new) (sym after) (reheads_in p.items q.items (all_items (drop (suc k) ps)) new some (re old own)))

  pub first_bytes : FirstIsBytes p.items → FirstIsBytes (all_items ps)
  first_bytes are = subst FirstIsBytes (sym before) (bytes_in p.items (all_items (drop (suc k) ps)) some are)
