-- The pages of a commit.
use Rattle.std.specs.Prelude.{◌≡◌, ◌<◌, ◌≤◌, ℕ, List, [], ◌∷◌, length, map}
use Rattle.wal_frame.specs.Written.{Framed}
use Rattle.wal.specs.declared.pages.PageImage.{PageImage}

-- pages by rising number, above one number and up to another, each of so many bytes
abbrev pub ArePages : ℕ → ℕ → ℕ → List PageImage → Type 0
ArePages last size bytes [] = Unit {0}
ArePages last size bytes (p ∷ ps) = (last < p.number) × (p.number ≤ size) × (length p.bytes.items ≡ bytes) × ArePages p.number size bytes ps

-- the numbers of these pages
abbrev pub numbers_of : List PageImage → List ℕ
numbers_of = map (λ (p : PageImage). p.number)

-- the size that the frame before these pages has: only the last frame has one
abbrev pub size_before : List PageImage → ℕ → ℕ
size_before [] size = size
size_before (p ∷ ps) size = 0

-- the frames of a commit of these pages (Database File Format, "WAL File Format": the size stands in the last frame)
abbrev pub framed : List PageImage → ℕ → List Framed
framed [] size = []
framed (p ∷ ps) size = record { head = record { page = p.number; size = size_before ps size }; page = p.bytes.items } ∷ framed ps size
