use Rattle.federation_laws.proofs.ConservativeTickets.{conservative}
use Rattle.federation_laws.proofs.ticket_laws.conservative_tickets_close_no_cycle.Goals as goal

pub returns : goal.returns
returns c = conservative c.stories_have_right_lines.ensures c.tickets_rise.ensures c.each_site_of_a_story_is_serial.ensures.serial
