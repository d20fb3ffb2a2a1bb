use Rattle.db_load.specs.Loading.{FindsDatabase, IsLoadFault}
use Rattle.pager.specs.Maps.{pages_in}
use Rattle.pager.specs.Views.{newest_view}
use Rattle.sqlval.specs.Faults.{IsOutside}
use Rattle.engine.proofs.CountedCalls.{causes_passed}
use Rattle.engine.proofs.HeldOpening.{seats_find, short_at_most}
use Rattle.engine.proofs.OpenFaults.{memory_listed}
use Rattle.engine.proofs.Refusing.{on_err}
use Rattle.engine.proofs.opening.load_seats.Goals as goal

pub returns-in_err-catalog-clause-listed : goal.returns-in_err-catalog-clause-listed
returns-in_err-catalog-clause-listed g c tables database told stored found = on_err IsOutside c.from_residual.result c.in_err-catalog.field-0.0 c.from_residual.ensures.1 (c.in_err-catalog.ensures.listed tables database told stored found)

pub returns-in_err-catalog-clause-cause : goal.returns-in_err-catalog-clause-cause
returns-in_err-catalog-clause-cause g c = causes_passed _ _ c.in_err-catalog.field-0.0 _ _ c.from_residual.ensures.1 c.in_err-catalog.ensures.cause

pub returns-in_err-catalog-clause-refused : goal.returns-in_err-catalog-clause-refused
returns-in_err-catalog-clause-refused g c = on_err IsLoadFault c.from_residual.result c.in_err-catalog.field-0.0 c.from_residual.ensures.1 c.in_err-catalog.ensures.refused

pub returns-clause-refused : goal.returns-clause-refused
returns-clause-refused g c = memory_listed c.new.result c.new.ensures.refused

pub returns-clause-listed : goal.returns-clause-listed
returns-clause-listed g c tables database told stored found = short_at_most c.new.result c.new.ensures.refused

pub returns-clause-found : goal.returns-clause-found
returns-clause-found g c told =
    seats_find (FindsDatabase (pages_in (newest_view c.args.log.now)) (newest_view c.args.log.now).page_size) c.in_ok-catalog.catalog c.new.result c.new.ensures.tables (c.in_ok-catalog.ensures.found told)
