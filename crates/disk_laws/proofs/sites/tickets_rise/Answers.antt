use Rattle.disk_laws.proofs.SiteTickets.{leave_tickets}
use Rattle.disk_laws.proofs.sites.tickets_rise.Goals as goal

pub returns : goal.returns
returns c = leave_tickets
