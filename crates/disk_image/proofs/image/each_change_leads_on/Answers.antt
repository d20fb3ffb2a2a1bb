use Rattle.disk_image.proofs.Leading.{leads_on}
use Rattle.disk_image.proofs.image.each_change_leads_on.Goals as goal

pub returns-clause-goes_on : goal.returns-clause-goes_on
returns-clause-goes_on c = leads_on
