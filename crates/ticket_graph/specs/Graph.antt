-- The graph of the tickets, which forgets attempts that can lie on no cycle to come: what adding an attempt comes to, what is dropped, a
-- topological order, and the lists of attempts that a graph stands for.
use Rattle.std.specs.Prelude.{ℕ, ◌≡◌, ◌≤◌, ◌⊎◌, true, false, List, [], ◌∷◌, map}
use Rattle.mdb_base.specs.declared.names.SiteId.{SiteId}
use Rattle.mdb_base.specs.declared.names.SiteTicket.{SiteTicket}
use Rattle.mdb_base.specs.declared.names.Tid.{Tid}
use Rattle.mdb_base.specs.declared.replies.Edge.{Edge}
use Rattle.mdb_base.specs.Words.{Each, Among}
use Rattle.order_laws.specs.Chains.{In, Distinct}
use Rattle.order_laws.specs.Orders.{Before}
use Rattle.order_laws.specs.Tickets.{Ticketed, Precedes, IsEdge, IsCycle}
use Rattle.ticket_graph.specs.declared.verdict.Verdict.{Verdict}
use Rattle.ticket_graph.specs.declared.verdict.Verdict.TheVariants.{Added, Cycle}
use Rattle.ticket_graph.specs.Reach.{are_before, floor_in}

-- the kept attempts, and by the number of each site the greatest ticket of a dropped one there, or 0
pub record Graph : Type 0 where
  pub kept : List Ticketed
  pub floors : List ℕ

-- the floor of a site
abbrev pub floor_of : Graph → SiteId → ℕ
floor_of graph site = floor_in graph.floors site

-- the attempts of a list
abbrev pub tids_of : List Ticketed → List Tid
tids_of attempts = map (λ attempt. attempt.tid) attempts

-- each of the tickets is at most the floor of its site
abbrev pub AreBelow : (SiteId → ℕ) → List SiteTicket → Type 0
AreBelow floor tickets = Each (λ ticket. ticket.ticket ≤ floor ticket.site) tickets

-- each of the tickets is at least the floor of its site
abbrev pub AreAbove : (SiteId → ℕ) → List SiteTicket → Type 0
AreAbove floor tickets = Each (λ ticket. floor ticket.site ≤ ticket.ticket) tickets

-- a graph stands for a list of attempts, of which it dropped some: each kept one is of the list, no kept one has an edge into one of the list
-- that isn't kept, and each that isn't kept has at each of its sites a ticket at most the floor
pub record StandsFor (all : List Ticketed) (graph : Graph) : Type 0 where
  pub kept : (a : Ticketed) → In a graph.kept → In a all
  pub closed : (a b : Ticketed) (s : SiteId) → In a graph.kept → In b all → (In b graph.kept → ⊥) → Precedes a b s → ⊥
  pub below : (b : Ticketed) → In b all → (In b graph.kept → ⊥) → AreBelow (floor_of graph) b.tickets

-- the attempt is added where no cycle of these attempts and it leads through it; else one that does is named
abbrev pub IsVerdict : List Ticketed → Ticketed → Verdict → Type 0
IsVerdict attempts attempt Added = (edges : List Edge) → IsCycle (attempt ∷ attempts) attempt.tid edges → ⊥
IsVerdict attempts attempt (Cycle edges) = IsCycle (attempt ∷ attempts) attempt.tid edges

-- the attempts after the verdict
abbrev pub attempts_after : List Ticketed → Ticketed → Verdict → List Ticketed
attempts_after attempts attempt Added = attempt ∷ attempts
attempts_after attempts attempt (Cycle edges) = attempts

-- the kept attempts are those before and the added one, and the floors stay
pub record IsWith (attempt : Ticketed) (before after : Graph) : Type 0 where
  pub all : (a : Ticketed) → In a (attempt ∷ before.kept) → In a after.kept
  pub alone : (a : Ticketed) → In a after.kept → In a (attempt ∷ before.kept)
  pub floors : after.floors ≡ before.floors

-- an attempt that is added is kept; else the graph stays as it was
abbrev pub IsAfter : Graph → Ticketed → Verdict → Graph → Type 0
IsAfter before attempt Added after = IsWith attempt before after
IsAfter before attempt (Cycle edges) after = after ≡ before

-- some waiting attempt has a smaller ticket at a common site, or some kept one has an edge into it
pub data IsHeld (waiting : List (List SiteTicket)) (kept : List Ticketed) (c : Ticketed) : Type 0 where
  Waits : Among (λ tickets. are_before tickets c.tickets ≡ true) waiting → IsHeld waiting kept c
  Follows : (a : Ticketed) → In a kept → (s : SiteId) → Precedes a c s → IsHeld waiting kept c

-- no kept attempt could be dropped while these wait
abbrev pub AreHeld : List (List SiteTicket) → Graph → Type 0
AreHeld waiting graph = (c : Ticketed) → In c graph.kept → IsHeld waiting graph.kept c

-- an attempt was kept, and isn't any more
pub record IsDropped (before after : Graph) (c : Ticketed) : Type 0 where
  pub was : In c before.kept
  pub gone : In c after.kept → ⊥

-- the floor stays, or it is a ticket of a dropped attempt
abbrev pub IsRaised : Graph → Graph → SiteId → Type 0
IsRaised before after site =
    (floor_of after site ≡ floor_of before site)
    ⊎ ((c : Ticketed) × IsDropped before after c × Among (λ ticket. (ticket.site ≡ site) × (ticket.ticket ≡ floor_of after site)) c.tickets)

-- attempts were dropped until none is left that no kept one has an edge into and that no waiting one has a smaller ticket than; each floor is the
-- greatest of what it was and of the tickets of those
pub record IsPruned (waiting : List (List SiteTicket)) (before after : Graph) : Type 0 where
  pub kept : (c : Ticketed) → In c after.kept → In c before.kept
  pub held : (c : Ticketed) → In c after.kept → IsHeld waiting after.kept c
  pub waits : (c : Ticketed) → IsDropped before after c → Each (λ tickets. are_before tickets c.tickets ≡ false) waiting
  pub follows : (a c : Ticketed) (s : SiteId) → In a after.kept → IsDropped before after c → Precedes a c s → ⊥
  pub rises : (site : SiteId) → floor_of before site ≤ floor_of after site
  pub below : (c : Ticketed) → IsDropped before after c → AreBelow (floor_of after) c.tickets
  pub least : (site : SiteId) → IsRaised before after site

-- no edge leads from an attempt to itself or to one before it in the list
abbrev pub IsForwards : List Ticketed → Type 0
IsForwards [] = Unit {0}
IsForwards (a ∷ attempts) = ((b : Ticketed) (s : SiteId) → In b (a ∷ attempts) → Precedes b a s → ⊥) × IsForwards attempts

-- each attempt is named once and nothing else, and no edge leads backwards
pub record IsTopological (attempts : List Ticketed) (order : List Tid) : Type 0 where
  pub once : Distinct order
  pub all : (tid : Tid) → In tid (tids_of attempts) → In tid order
  pub alone : (tid : Tid) → In tid order → In tid (tids_of attempts)
  pub forwards : (edge : Edge) → IsEdge attempts edge → Before order edge.from edge.to
