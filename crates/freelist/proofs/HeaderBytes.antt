-- A page whose header was written anew.
use Rattle.std.proofs.Common.{◌≡◌, ℕ, ◌≤◌, List, ◌++◌, length, drop}
use Rattle.db_header.specs.declared.fields.Header.{Header}
use Rattle.db_header.specs.Header.{IsHeader}
use Rattle.db_header.proofs.Fronts.{header_before, behind_header, long_header}
use Rattle.freelist.specs.PageBytes.{Reheads}

-- a page with another header at its front
pub reheaded : (front page : List ℕ) (h : Header) → length front ≡ 100 → IsHeader front h → 100 ≤ length page → Reheads page (front ++ drop 100 page) h
reheaded front page h len header long = record {
  header_is = header_before front page h len header;
  rest = behind_header front page len;
  same = long_header front page len long;
}
