-- Which tickets wait: those that counted of the undecided attempts.
use Rattle.std.specs.Prelude.{Option, Some, None, List, map}
use Rattle.mdb_base.specs.declared.names.SiteTicket.{SiteTicket}
use Rattle.mdb_base.specs.declared.names.Tid.{Tid}
use Rattle.mdb_base.specs.declared.replies.Reply.{Reply}
use Rattle.mdb_base.specs.declared.replies.Reply.TheVariants as Reply_is
use Rattle.mdb_base.specs.Words.{found}
use Rattle.fed_rules.specs.CoordPast.{CoordPast, Counted, counted}
use Rattle.coord_tables.specs.Attempts.{open_tids}

-- the ticket of a reply that counted, where it has one
abbrev pub ticket_in : Counted → Option SiteTicket
ticket_in counted = ticket_of counted.reply where
  ticket_of : Reply → Option SiteTicket
  ticket_of (Reply_is.Ticket n) = Some (record { site = counted.site; ticket = n })
  ticket_of reply = None

-- the tickets of the attempt's replies that counted, the last one first
abbrev pub counted_tickets : CoordPast → Tid → List SiteTicket
counted_tickets past tid = found ticket_in (counted past tid)

-- these of each undecided attempt, the last attempt first
abbrev pub waiting : CoordPast → List (List SiteTicket)
waiting past = map (counted_tickets past) (open_tids past)
