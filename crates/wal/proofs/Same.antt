-- A log that stands for the same, said of equal parts.
use Rattle.std.proofs.Common.{◌≡◌, ◌+◌, ℕ, List, Bool, sym, subst}
use Rattle.wal_frame.specs.declared.log_header.LogHeader.{LogHeader}
use Rattle.wal_frame.specs.declared.sums.Sum.{Sum}
use Rattle.wal_frame.specs.Accepted.{head_at}
use Rattle.wal_index.specs.declared.index.Index.{Index}
use Rattle.wal_index.specs.Index.{SameFrames}
use Rattle.wal.specs.declared.state.State.{State}
use Rattle.wal.specs.LogState.{state_in}
use Rattle.wal.specs.State.{SameState}
use Rattle.wal.specs.Stands.{LogStands, IsOfPage}
use Rattle.wal.proofs.Indexing.{each_same}
use Rattle.wal.proofs.Rooms.{kept_by_same}

pub stands_as : (h g : LogHeader) (b d : Bool) (m n : ℕ) (s t : Sum) (index : Index) (log : List ℕ) → g ≡ h → d ≡ b → n ≡ m → t ≡ s → LogStands h b m s index log → LogStands g d n t index log
stands_as h g b d m n s t index log same_header same_begun same_mark same_sum stands =
    subst (λ (x : LogHeader). LogStands x d n t index log) (sym same_header)
    (subst (λ (x : Bool). LogStands h x n t index log) (sym same_begun)
    (subst (λ (x : ℕ). LogStands h b x t index log) (sym same_mark)
    (subst (λ (x : Sum). LogStands h b m x index log) (sym same_sum) stands)))

pub stands_indexed : (h : LogHeader) (b : Bool) (m : ℕ) (s : Sum) (index next : Index) (log : List ℕ) → SameFrames index next → LogStands h b m s index log → LogStands h b m s next log
stands_indexed h b m s index next log same stands = record {
  header_is = stands.header_is;
  inside = stands.inside;
  none = stands.none;
  committed = stands.committed;
  sum_is = stands.sum_is;
  pages = each_same (IsOfPage h log) index next same stands.pages;
  all = λ k lt number missing. stands.all k lt number (λ has. missing (kept_by_same index next same (head_at h log k).page (k + 1) number.0 has));
}

-- what is known of a state whose index alone has changed
pub known_same : (old new : State) → SameState old new → state_in new ≡ state_in old
known_same old new same = λ i. record {
  page_size = same.page_size i;
  header = same.header i;
  has_header = same.is_begun i;
  frames = same.mark i;
  copied = same.copied i;
  size = same.size i;
  has_failed = same.is_failed i;
}

pub reserved : (old new : State) (log : List ℕ) → SameState old new → LogStands old.header old.is_begun old.mark old.sum old.index log → LogStands new.header new.is_begun new.mark new.sum new.index log
reserved old new log same stands =
    stands_as old.header new.header old.is_begun new.is_begun old.mark new.mark old.sum new.sum new.index log same.header same.is_begun same.mark same.sum
    (stands_indexed old.header old.is_begun old.mark old.sum old.index new.index log same.frames stands)
