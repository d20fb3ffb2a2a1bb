-- What is kept in memory of a file that was read.
use Rattle.std.specs.Prelude.{◌≡◌, ◌+◌, ◌≤◌, ℕ, List, All, Option, length, take, drop}
use Rattle.std.specs.Option.{ForSome}
use Rattle.disk_cache.specs.declared.blocks.Block.{Block}

-- the block has the bytes that the content has there, and ends before this offset
pub record IsKept (content : List ℕ) (end : ℕ) (block : Block) : Type 0 where
  pub within : block.at + length block.bytes.items ≤ end
  pub same : block.bytes.items ≡ take (length block.bytes.items) (drop block.at content)

-- each block is so
abbrev pub AreKept : List ℕ → ℕ → List Block → Type 0
AreKept content end blocks = All (IsKept content end) blocks

-- where a length is known, it is that of the content
abbrev pub IsLength : Option ℕ → List ℕ → Type 0
IsLength len content = ForSome len (λ n. n ≡ length content)
