-- Which frames a page has.
use Rattle.std.proofs.Common.{◌≡◌, ℕ, List, [], ◌∷◌, ◌++◌, length, get_or, refl, ◌∙◌, ap, arith, length-append}
use Rattle.std.proofs.lemmas.List.{get_or_push}
use Rattle.wal_index.specs.declared.index.Index.{Index}
use Rattle.wal_index.specs.Index.{frames_of, HasFrame}

pub has_last : (index : Index) (page frame : ℕ) (fs : List ℕ) → frames_of index page ≡ fs ++ frame ∷ [] → HasFrame index page frame
has_last index page frame fs is = record {
  place = length fs;
  within = omega (arith, ap length is, length-append fs (frame ∷ []));
  is = ap (λ (l : List ℕ). get_or l (length fs) 0) is ∙ get_or_push fs frame 0 (length fs) refl;
}
