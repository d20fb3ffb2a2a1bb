-- How large a database may become.
use Rattle.std.specs.Prelude.{ℕ, ◌+◌, ◌*◌, ◌||◌, nat_lt, Bool, Result, Ok, Err, if◌then◌else◌}
use Rattle.sqlval.specs.declared.fault.Fault.{Fault}
use Rattle.sqlval.specs.declared.fault.Fault.TheVariants.{Full}
use Rattle.pager.specs.declared.writer.Writer.{Writer}

-- more than 65,536 pages, or more than 1,073,741,824 bytes
abbrev pub is_too_large : ℕ → ℕ → Bool
is_too_large pages page_size = nat_lt 65536 pages || nat_lt 1073741824 (pages * page_size)

-- the number of one page more, unless the database becomes too large by it
abbrev pub one_more : ℕ → ℕ → Result ℕ Fault
one_more pages page_size = if is_too_large (pages + 1) page_size then Err Full else Ok (pages + 1)

-- how many pages a writer's database has, and how many bytes each of them
abbrev pub pages_of : Writer → ℕ
pages_of writer = writer.size

abbrev pub page_size_of : Writer → ℕ
page_size_of writer = writer.page_size
