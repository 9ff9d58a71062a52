-- The ticket graph (Georgakopoulos, Rusinkiewicz, Sheth, TKDE 1994): attempts with their tickets, its edges and its cycles.
use Rattle.std.specs.Prelude.{◌≡◌, ◌<◌, Bool, nat_lt, ◌&&◌, Option, List, [], ◌∷◌, map}
use Rattle.mdb_base.specs.declared.names.SiteId.{SiteId}
use Rattle.mdb_base.specs.declared.names.SiteTicket.{SiteTicket}
use Rattle.mdb_base.specs.declared.names.Tid.{Tid}
use Rattle.mdb_base.specs.declared.replies.Edge.{Edge}
use Rattle.mdb_base.specs.Names.{same_site}
use Rattle.mdb_base.specs.Words.{Each, some_of, first_where, map_some}
use Rattle.order_laws.specs.Chains.{In, Distinct}

-- an attempt with its tickets, by rising site
pub record Ticketed : Type 0 where
  pub tid : Tid
  pub tickets : List SiteTicket

-- at this site both attempts have a ticket, and the first one's is smaller
pub record Precedes (a b : Ticketed) (s : SiteId) : Type 0 where
  pub smaller : SiteTicket
  pub greater : SiteTicket
  pub first : In smaller a.tickets
  pub second : In greater b.tickets
  pub there : smaller.site ≡ s
  pub here : greater.site ≡ s
  pub less : smaller.ticket < greater.ticket

-- an edge leads from one of these attempts to another at a site where the first precedes the second
pub record IsEdge (attempts : List Ticketed) (e : Edge) : Type 0 where
  pub from : Ticketed
  pub to : Ticketed
  pub has_from : In from attempts
  pub has_to : In to attempts
  pub leaves : from.tid ≡ e.from
  pub enters : to.tid ≡ e.to
  pub precedes : Precedes from to e.site

-- the first edge leaves a, each enters the attempt that the next one leaves, and the last enters b
abbrev pub Leads : Tid → List Edge → Tid → Type 0
Leads a [] b = a ≡ b
Leads a (e ∷ es) b = (e.from ≡ a) × Leads e.to es b

-- one or more edges of these attempts, of which the first leaves t, each enters the attempt that the next one leaves, and the last enters t
pub record IsCycle (attempts : List Ticketed) (t : Tid) (es : List Edge) : Type 0 where
  pub some : es ≡ [] → ⊥
  pub edges : Each (IsEdge attempts) es
  pub round : Leads t es t

-- the attempts differ
abbrev pub OneEach : List Ticketed → Type 0
OneEach attempts = Distinct (map (λ a. a.tid) attempts)

-- no edges of these attempts go round
abbrev pub HasNoCycle : List Ticketed → Type 0
HasNoCycle attempts = (t : Tid) (es : List Edge) → IsCycle attempts t es → ⊥

-- whether the second ticket is a greater one of the same site
abbrev pub is_above : SiteTicket → SiteTicket → Bool
is_above k l = same_site k.site l.site && nat_lt k.ticket l.ticket

-- the edge from one attempt to another at the first site that has one
abbrev pub edge_between : Ticketed → Ticketed → Option Edge
edge_between a b =
    map_some (λ k. record { from = a.tid; to = b.tid; site = k.site }) (first_where (λ k. some_of (is_above k) b.tickets) a.tickets)
