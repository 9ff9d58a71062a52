-- Lists that rise by their sites: members as participants, and participants as members.
use Rattle.std.proofs.Common.{List, [], ◌∷◌, map}
use Rattle.mdb_base.specs.declared.names.Tid.{Tid}
use Rattle.mdb_base.specs.Rising.{IsRising}
use Rattle.presumptions.specs.declared.Participant.{Participant}
use Rattle.fed_rules.specs.CoordPast.{CoordPast}
use Rattle.protocol_table.specs.declared.members.Member.{Member}
use Rattle.protocol_table.specs.Agreement.{voter}
use Rattle.protocol_table.specs.Attempts.{participant_of}

pub members_rise : (members : List Member) → IsRising (λ m. m.site.0) members → IsRising (λ p. p.site.0) (map participant_of members)
members_rise [] h = tt
members_rise (m ∷ []) h = tt
members_rise (m ∷ n ∷ ms) h = (h.0, members_rise (n ∷ ms) h.1)

pub voters_rise : (past : CoordPast) (tid : Tid) (ps : List Participant) → IsRising (λ p. p.site.0) ps → IsRising (λ m. m.site.0) (map (voter past tid) ps)
voters_rise past tid [] h = tt
voters_rise past tid (p ∷ []) h = tt
voters_rise past tid (p ∷ q ∷ ps) h = (h.0, voters_rise past tid (q ∷ ps) h.1)
