-- Lists that are kept in pieces.
use Rattle.std.specs.Prelude.{◌≡◌, ◌<◌, ◌≤◌, ◌+◌, ℕ, Bool, List, length, take}
use Rattle.std.specs.List.{flat_map, HoldsAt}
use Rattle.std.specs.Global.{Vec}

-- what contracts see of such a list: its items, and whether they are in one piece
pub record InPieces (T : Type 0) : Type 0 where
  pub items : List T
  pub is_whole : Bool

module _ {T : Type 0} where
  -- the items of these pieces, one after another
  abbrev pub all_items : List (Vec T) → List T
  all_items pieces = flat_map (λ (p : Vec T). p.items) pieces

  -- the item at a place of all of them is the one at this place of this piece
  pub record IsSpot (pieces : List (Vec T)) (place piece at : ℕ) : Type 0 where
    pub within : piece < length pieces
    pub place_is : place ≡ length (all_items (take piece pieces)) + at
    pub there : HoldsAt (λ (p : Vec T). at < length p.items) pieces piece

  -- an item that is put at this place of this piece stands at a place of all of them
  pub record IsRoom (pieces : List (Vec T)) (place piece at : ℕ) : Type 0 where
    pub within : piece < length pieces
    pub place_is : place ≡ length (all_items (take piece pieces)) + at
    pub there : HoldsAt (λ (p : Vec T). at ≤ length p.items) pieces piece
