-- The pages that a memory of pages holds.
use Rattle.std.specs.Prelude.{ℕ, List, [], map, slice_index_or}
use Rattle.pages.specs.Calls.{Limits}
use Rattle.pages.specs.Map.{PageMap}
use Rattle.pages.specs.declared.memory.MemPages.{MemPages}

-- the bytes of its pages
abbrev pub pages_in_memory : MemPages → PageMap
pages_in_memory m = map (λ page. page.items) m.pages.items

-- how many bytes a page has, and how many pages there may be
abbrev pub limits_in_memory : MemPages → Limits
limits_in_memory m = record { page = m.page_size; most = m.most }

-- the page that was loaded last
abbrev pub loaded_in_memory : MemPages → List ℕ
loaded_in_memory m = slice_index_or (pages_in_memory m) m.at []
