-- The sites of participants rise, and so do the messages to them.
use Rattle.std.proofs.Common.{List, [], ◌∷◌, map}
use Rattle.mdb_base.specs.declared.names.Tid.{Tid}
use Rattle.mdb_base.specs.Rising.{IsRising}
use Rattle.presumptions.specs.declared.Decision.{Decision}
use Rattle.presumptions.specs.declared.Participant.{Participant}
use Rattle.fed_rules.specs.Coord.{decide_to, send_due}
use Rattle.fed_rules.specs.Site_of.{due_site}
use Rattle.fed_rules.specs.declared.messages.Due.{Due}

pub sends_rise : (tid : Tid) (dues : List Due) → IsRising (λ d. (due_site d).0) dues → IsRising (λ s. s.site.0) (map (send_due tid) dues)
sends_rise tid [] h = tt
sends_rise tid (d ∷ []) h = tt
sends_rise tid (d ∷ e ∷ ds) h = (h.0, sends_rise tid (e ∷ ds) h.1)

pub decisions_rise : (tid : Tid) (decision : Decision) (members : List Participant) → IsRising (λ m. m.site.0) members → IsRising (λ s. s.site.0) (decide_to tid decision members)
decisions_rise tid decision [] h = tt
decisions_rise tid decision (m ∷ []) h = tt
decisions_rise tid decision (m ∷ n ∷ ms) h = (h.0, decisions_rise tid decision (n ∷ ms) h.1)

pub sites_rise : (ps : List Participant) → IsRising (λ p. p.site.0) ps → IsRising (λ s. s.0) (map (λ (p : Participant). p.site) ps)
sites_rise [] h = tt
sites_rise (p ∷ []) h = tt
sites_rise (p ∷ q ∷ ps) h = (h.0, sites_rise (q ∷ ps) h.1)
