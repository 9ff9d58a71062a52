-- What the test for cycles takes for a cycle is one, and each cycle passes it.
use Rattle.std.proofs.Common.{◌≡◌, Bool, true, ◌&&◌, nat_lt, List, [], ◌∷◌, refl, subst, arith}
use Rattle.std.proofs.lemmas.Bool.{and_from, and_parts}
use Rattle.mdb_base.specs.declared.names.SiteId.{SiteId}
use Rattle.mdb_base.specs.declared.names.SiteTicket.{SiteTicket}
use Rattle.mdb_base.specs.declared.names.Tid.{Tid}
use Rattle.mdb_base.specs.declared.replies.Edge.{Edge}
use Rattle.mdb_base.specs.Names.{same_site, same_tid}
use Rattle.mdb_base.specs.Words.{Each, each_of, some_of}
use Rattle.mdb_base.proofs.ForCallers.{among_some, same_site-equal, same_site-refl, same_tid-equal, same_tid-refl}
use Rattle.order_laws.specs.Chains.{In}
use Rattle.order_laws.specs.Tickets.{Ticketed, IsEdge, Precedes, Leads, IsCycle}
use Rattle.order_laws.proofs.ForCallers.{is_among, some_of_is}
use Rattle.audit_rules.specs.Faults.{precedes, is_edge, leads, is_cycle}

-- the ticket of the second attempt at the site, above this one of the first
abbrev above : SiteId → SiteTicket → SiteTicket → Bool
above site smaller greater = same_site greater.site site && nat_lt smaller.ticket greater.ticket

-- the ticket of the first attempt at the site, below one of the second
abbrev below : SiteId → Ticketed → SiteTicket → Bool
below site b smaller = same_site smaller.site site && some_of (above site smaller) b.tickets

-- the attempt that an edge enters, behind this one
abbrev enters : Edge → Ticketed → Ticketed → Bool
enters edge a b = same_tid b.tid edge.to && precedes a b edge.site

-- the attempt that an edge leaves
abbrev leaves : List Ticketed → Edge → Ticketed → Bool
leaves attempts edge a = same_tid a.tid edge.from && some_of (enters edge a) attempts

-- ---- what passes is one

precedes_means : (a b : Ticketed) (site : SiteId) → precedes a b site ≡ true → Precedes a b site
precedes_means a b site e =
    let (smaller, first, found) = some_of_is (below site b) a.tickets e in
    let (there, more) = and_parts (same_site smaller.site site) (some_of (above site smaller) b.tickets) found in
    let (greater, second, is_above) = some_of_is (above site smaller) b.tickets more in
    let (here, less) = and_parts (same_site greater.site site) (nat_lt smaller.ticket greater.ticket) is_above in
    record {
      smaller = smaller;
      greater = greater;
      first = first;
      second = second;
      there = same_site-equal smaller.site site there;
      here = same_site-equal greater.site site here;
      less = grind arith;
    }

edge_means : (attempts : List Ticketed) (edge : Edge) → is_edge attempts edge ≡ true → IsEdge attempts edge
edge_means attempts edge e =
    let (a, has_a, from) = some_of_is (leaves attempts edge) attempts e in
    let (left, more) = and_parts (same_tid a.tid edge.from) (some_of (enters edge a) attempts) from in
    let (b, has_b, to) = some_of_is (enters edge a) attempts more in
    let (entered, before) = and_parts (same_tid b.tid edge.to) (precedes a b edge.site) to in
    record {
      from = a;
      to = b;
      has_from = has_a;
      has_to = has_b;
      leaves = same_tid-equal a.tid edge.from left;
      enters = same_tid-equal b.tid edge.to entered;
      precedes = precedes_means a b edge.site before;
    }

edges_mean : (attempts : List Ticketed) (edges : List Edge) → each_of (is_edge attempts) edges ≡ true → Each (IsEdge attempts) edges
edges_mean attempts [] e = tt
edges_mean attempts (edge ∷ edges) e = let (one, more) = and_parts _ _ e in (edge_means attempts edge one, edges_mean attempts edges more)

leads_means : (a : Tid) (edges : List Edge) (b : Tid) → leads a edges b ≡ true → Leads a edges b
leads_means a [] b e = same_tid-equal a b e
leads_means a (edge ∷ edges) b e =
    let (left, more) = and_parts _ _ e in (same_tid-equal edge.from a left, leads_means edge.to edges b more)

pub cycle_means : (attempts : List Ticketed) (tid : Tid) (edges : List Edge) → is_cycle attempts tid edges ≡ true → IsCycle attempts tid edges
cycle_means attempts tid [] e = cc
cycle_means attempts tid (edge ∷ edges) e =
    let (each, round) = and_parts (each_of (is_edge attempts) (edge ∷ edges)) (leads tid (edge ∷ edges) tid) e in
    record { some = λ none. cc; edges = edges_mean attempts (edge ∷ edges) each; round = leads_means tid (edge ∷ edges) tid round }

-- ---- each passes

one_passes : {A : Type 0} (test : A → Bool) (x : A) (xs : List A) → In x xs → test x ≡ true → some_of test xs ≡ true
one_passes test x xs i e = among_some test xs (is_among (λ y. test y ≡ true) x xs i e)

precedes_passes : (a b : Ticketed) (site : SiteId) → Precedes a b site → precedes a b site ≡ true
precedes_passes a b site p =
    let less : nat_lt p.smaller.ticket p.greater.ticket ≡ true = (let l = p.less in grind arith) in
    let here : same_site p.greater.site site ≡ true = subst (λ z. same_site p.greater.site z ≡ true) p.here (same_site-refl p.greater.site) in
    let there : same_site p.smaller.site site ≡ true = subst (λ z. same_site p.smaller.site z ≡ true) p.there (same_site-refl p.smaller.site) in
    one_passes (below site b) p.smaller a.tickets p.first
    (and_from _ _ there (one_passes (above site p.smaller) p.greater b.tickets p.second (and_from _ _ here less)))

edge_passes : (attempts : List Ticketed) (edge : Edge) → IsEdge attempts edge → is_edge attempts edge ≡ true
edge_passes attempts edge e =
    let from : same_tid e.from.tid edge.from ≡ true = subst (λ z. same_tid e.from.tid z ≡ true) e.leaves (same_tid-refl e.from.tid) in
    let to : same_tid e.to.tid edge.to ≡ true = subst (λ z. same_tid e.to.tid z ≡ true) e.enters (same_tid-refl e.to.tid) in
    one_passes (leaves attempts edge) e.from attempts e.has_from
    (and_from _ _ from (one_passes (enters edge e.from) e.to attempts e.has_to (and_from _ _ to (precedes_passes e.from e.to edge.site e.precedes))))

edges_pass : (attempts : List Ticketed) (edges : List Edge) → Each (IsEdge attempts) edges → each_of (is_edge attempts) edges ≡ true
edges_pass attempts [] h = refl
edges_pass attempts (edge ∷ edges) h = and_from _ _ (edge_passes attempts edge h.0) (edges_pass attempts edges h.1)

leads_passes : (a : Tid) (edges : List Edge) (b : Tid) → Leads a edges b → leads a edges b ≡ true
leads_passes a [] b e = subst (λ z. same_tid a z ≡ true) e (same_tid-refl a)
leads_passes a (edge ∷ edges) b h =
    and_from _ _ (subst (λ z. same_tid edge.from z ≡ true) h.0 (same_tid-refl edge.from)) (leads_passes edge.to edges b h.1)

pub cycle_passes : (attempts : List Ticketed) (tid : Tid) (edges : List Edge) → IsCycle attempts tid edges → is_cycle attempts tid edges ≡ true
cycle_passes attempts tid [] c = absurd (c.some refl)
cycle_passes attempts tid (edge ∷ edges) c =
    and_from _ _ (edges_pass attempts (edge ∷ edges) c.edges) (leads_passes tid (edge ∷ edges) tid c.round)
