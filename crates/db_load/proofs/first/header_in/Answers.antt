use Rattle.db_load.proofs.SchemaTables.{err_not_ok}
use Rattle.db_load.proofs.first.header_in.Goals as goal

pub returns-in_err-header-clause-only : goal.returns-in_err-header-clause-only
returns-in_err-header-clause-only c = λ header first. err_not_ok _ _ (c.in_err-header.ensures.only header first.header_is)
