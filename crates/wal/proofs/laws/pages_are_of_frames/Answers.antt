use Rattle.wal.proofs.Views.{page_in, page_from}
use Rattle.wal.proofs.laws.pages_are_of_frames.Goals as goal

pub returns : goal.returns
returns c = λ db log page_size header n number bytes. (page_in db log page_size header n number bytes, page_from db log page_size header n number bytes)
