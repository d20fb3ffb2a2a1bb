use Rattle.std.proofs.Common.{sym, subst}
use Rattle.sqlval.specs.Faults.{IsOutside}
use Rattle.db_load.proofs.loading.load.Goals as goal

pub returns-in-Err-clause-listed : goal.returns-in-Err-clause-listed
returns-in-Err-clause-listed g c = λ l database told sized stored counted.
    (let why = c.in-Err.ensures.listed l database told sized stored counted in subst IsOutside (sym (c.load_fault.ensures.outside why)) why)
