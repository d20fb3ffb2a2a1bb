use Rattle.query_bind.proofs.TriggerNames.{knows, makes_trigger, refuses_trigger}
use Rattle.query_bind.proofs.triggers.triggers_are_created_as_defined.Goals as goal

pub returns-clause-knows : goal.returns-clause-knows
returns-clause-knows c = knows c.listed_tables_are_found.ensures.finds

pub returns-clause-makes : goal.returns-clause-makes
returns-clause-makes c = makes_trigger c.listed_tables_are_found.ensures.finds c.listed_tables_are_found.ensures.names

pub returns-clause-refuses : goal.returns-clause-refuses
returns-clause-refuses c = refuses_trigger c.listed_tables_are_found.ensures.finds c.listed_tables_are_found.ensures.names
