-- The tickets of an attempt's yes votes, with a vote that comes.
use Rattle.std.specs.Prelude.{ℕ, cond, Option, None, List}
use Rattle.mdb_base.specs.declared.names.SiteId.{SiteId}
use Rattle.mdb_base.specs.declared.names.SiteTicket.{SiteTicket}
use Rattle.mdb_base.specs.Names.{same_site}
use Rattle.mdb_base.specs.Words.{found}
use Rattle.fed_rules.specs.Coord.{vote_ticket}
use Rattle.fed_rules.specs.CoordPast.{or_vote}
use Rattle.protocol_table.specs.declared.members.Member.{Member}

-- the ticket of a member's yes vote, with this vote of the site
abbrev pub ticket_with : SiteId → Option ℕ → Member → Option SiteTicket
ticket_with site vote member = vote_ticket member.site (or_vote (cond (same_site site member.site) vote None) member.vote)

-- those of all members
abbrev pub tickets_with : SiteId → Option ℕ → List Member → List SiteTicket
tickets_with site vote members = found (ticket_with site vote) members
