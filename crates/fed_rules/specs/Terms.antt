-- What a coordinator is made with, and its lines by it.
use Rattle.std.specs.Prelude.{◌≡◌, true, List}
use Rattle.mdb_base.specs.declared.names.SiteId.{SiteId}
use Rattle.mdb_base.specs.Names.{same_site}
use Rattle.mdb_base.specs.Words.{some_of}
use Rattle.presumptions.specs.declared.Participant.{Participant}
use Rattle.fed_rules.specs.declared.events.CoordEvent.{CoordEvent}
use Rattle.fed_rules.specs.Coord.{answered, coord_line}
use Rattle.fed_rules.specs.CoordPast.{CoordHappening, CoordPast}
use Rattle.fed_rules.specs.Policies.{Policy}

-- the sites with their protocols, and when tickets may be taken
pub record Terms : Type 0 where
  pub protocols : List Participant
  pub policy : Policy

-- the next line by the rules
abbrev pub line_of : Terms → CoordPast → CoordEvent → CoordHappening
line_of terms past event = coord_line terms.protocols terms.policy past event

-- the next line of a coordinator that is up, before a trip may stop it
abbrev pub answer_of : Terms → CoordPast → CoordEvent → CoordHappening
answer_of terms past event = answered terms.protocols terms.policy past event

-- the site is one of these
abbrev pub IsAmong : SiteId → List Participant → Type 0
IsAmong site protocols = some_of (λ member. same_site member.site site) protocols ≡ true
