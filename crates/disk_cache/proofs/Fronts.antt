-- What is kept of a content is kept of each that begins as it does.
use Rattle.std.proofs.Common.{◌≡◌, ◌∙◌, ◌≤◌, ◌+◌, ◌-◌, ℕ, zero, suc, List, [], ◌∷◌, ◌++◌, Option, Some, None, length, take, drop, ap, sym, refl, arith}
use Rattle.std.proofs.lemmas.List.{append_assoc, drop-drop, drop-take, drop_at, length-take-le, take-append-le, take_at}
use Rattle.disk.specs.Calls.{overwritten}
use Rattle.disk_cache.specs.Kept.{AreKept, IsKept, IsLength}
use Rattle.disk_cache.specs.declared.blocks.Block.{Block}

take_front : (m n : ℕ) (xs : List ℕ) → m ≤ n → take m (take n xs) ≡ take m xs
take_front zero n xs le = refl
take_front (suc m) zero xs le = absurd (omega (arith, le))
take_front (suc m) (suc n) [] le = refl
take_front (suc m) (suc n) (x ∷ xs) le = ap (λ ys. x ∷ ys) (take_front m n xs (omega (arith, le)))

same_within : (end at n : ℕ) (old new : List ℕ) → at + n ≤ end → take end new ≡ take end old → take n (drop at old) ≡ take n (drop at new)
same_within end at n old new le same =
    sym (drop-take at n old)
    ∙ (ap (drop at) (sym (take_front (at + n) end old le) ∙ (ap (take (at + n)) (sym same) ∙ take_front (at + n) end new le))
    ∙ drop-take at n new)

pub one_kept_on : (end : ℕ) (old new : List ℕ) (block : Block) → take end new ≡ take end old → IsKept old end block → IsKept new end block
one_kept_on end old new block same is = record { within = is.within; same = is.same ∙ same_within end _ _ old new is.within same }

pub kept_on : (end : ℕ) (old new : List ℕ) (blocks : List Block) → take end new ≡ take end old → AreKept old end blocks → AreKept new end blocks
kept_on end old new blocks same kept = λ k d lt. one_kept_on end old new _ same (kept k d lt)

-- a greater end will do
pub one_kept_longer : (end longer : ℕ) (content : List ℕ) (block : Block) → end ≤ longer → IsKept content end block → IsKept content longer block
one_kept_longer end longer content block le is = let within = is.within in record { within = omega (arith, within, le); same = is.same }

pub kept_longer : (end longer : ℕ) (content : List ℕ) (blocks : List Block) → end ≤ longer → AreKept content end blocks → AreKept content longer blocks
kept_longer end longer content blocks le kept = λ k d lt. one_kept_longer end longer content _ le (kept k d lt)

-- a part of what a block has stands in the content
pub part_kept : (content : List ℕ) (end from len at : ℕ) (block : Block) → IsKept content end block → block.at + from ≡ at → from + len ≤ length block.bytes.items
    → take len (drop from block.bytes.items) ≡ take len (drop at content)
part_kept content end from len at block is there within =
    ap (λ (xs : List ℕ). take len (drop from xs)) (is.same ∙ ap (λ (n : ℕ). take n (drop block.at content)) long)
    ∙ (ap (take len) (drop-take from rest (drop block.at content))
    ∙ (take_front len rest (drop from (drop block.at content)) (omega (arith, within))
    ∙ ap (take len) (drop-drop from block.at content ∙ ap (λ (n : ℕ). drop n content) there)))
  where
    rest : ℕ
    rest = length block.bytes.items - from

    long : length block.bytes.items ≡ from + rest
    long = omega (arith, within)

-- what was written stands where it was written
pub written_there : (at : ℕ) (bytes old : List ℕ) → at ≤ length old → take (length bytes) (drop at (overwritten at bytes old)) ≡ bytes
written_there at bytes old within =
    ap (λ (xs : List ℕ). take (length bytes) (drop at xs)) (append_assoc (take at old) bytes (drop (at + length bytes) old))
    ∙ ap (take (length bytes)) (drop_at (take at old) (bytes ++ drop (at + length bytes) old) at (length-take-le at old within))
    ∙ take_at bytes (drop (at + length bytes) old) (length bytes) refl

-- a write from the end on keeps what is before it, and so does a cut
pub front_written : (end at : ℕ) (bytes old : List ℕ) → end ≤ at → at ≤ length old → take end (overwritten at bytes old) ≡ take end old
front_written end at bytes old le within =
    let long = length-take-le at old within in
    take_within (drop (at + length bytes) old) (omega (arith, le, long)) ∙ take_front end at old le
  where
    take_within : (rest : List ℕ) → end ≤ length (take at old) → take end (take at old ++ bytes ++ rest) ≡ take end (take at old)
    take_within rest le = first rest ∙ take-append-le end (take at old) bytes le
      where
        first : (rest : List ℕ) → take end (take at old ++ bytes ++ rest) ≡ take end (take at old ++ bytes)
        first rest = take-append-le end (take at old ++ bytes) rest (let more = longer bytes (take at old) in omega (arith, le, more))
          where
            longer : (ys xs : List ℕ) → length xs ≤ length (xs ++ ys)
            longer ys [] = omega arith
            longer ys (x ∷ xs) = (let rest = longer ys xs in omega (arith, rest))

pub front_cut : (end n : ℕ) (old : List ℕ) → end ≤ n → take end (take n old) ≡ take end old
front_cut end n old le = take_front end n old le

-- ---- the length

abbrev or_zero : Option ℕ → ℕ
or_zero None = 0
or_zero (Some n) = n

pub cut_length : (n : ℕ) (old new : List ℕ) → n ≤ length old → new ≡ take n old → IsLength (Some n) new
cut_length n old new within is x same = (let one : n ≡ x = ap or_zero same in omega (arith, one, ap length is, length-take-le n old within))

-- where it isn't known nothing is said of it
pub no_length : (content : List ℕ) → IsLength None content
no_length content x same = absurd (let bad : None ≡ Some x = same in cc)
