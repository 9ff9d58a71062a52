-- Attempts of a graph, and where there is no cycle through an added one.
use Rattle.std.proofs.Common.{◌<◌, ◌≡◌, true, List, [], ◌∷◌, refl, sym, ap, ◌∙◌, subst, inl, inr, arith}
use Rattle.std.specs.BTreeSet.{BTreeSet, contains}
use Rattle.mdb_base.specs.declared.names.SiteId.{SiteId}
use Rattle.mdb_base.specs.declared.names.SiteTicket.{SiteTicket}
use Rattle.mdb_base.specs.declared.names.Tid.{Tid}
use Rattle.mdb_base.specs.declared.replies.Edge.{Edge}
use Rattle.mdb_base.specs.Rising.{IsRising}
use Rattle.mdb_base.specs.Words.{Each}
use Rattle.mdb_base.proofs.ForCallers.{each_map}
use Rattle.order_laws.specs.Chains.{In, Chain}
use Rattle.order_laws.specs.Search.{Linked}
use Rattle.order_laws.specs.Tickets.{Ticketed, Precedes, IsEdge, IsCycle, OneEach, edge_between}
use Rattle.order_laws.proofs.ForCallers.{among_is, among_map, cycle_way, edge_some, is_among, map_among}
use Rattle.mdb_base.specs.Names.{tid_cmp}
use Rattle.ticket_graph.specs.Graph.{tids_of, IsVerdict}
use Rattle.ticket_graph.specs.Trail.{IsClosed, IsFinding}
use Rattle.ticket_graph.specs.declared.find.Finding.TheVariants.{Reached}
use Rattle.ticket_graph.specs.declared.verdict.Verdict.TheVariants.{Added}

-- ---- attempts and their names

pub tid_in : (ns : List Ticketed) (tid : Tid) → In tid (tids_of ns) → (a : Ticketed) × In a ns × (a.tid ≡ tid)
tid_in ns tid i = among_is (λ (a : Ticketed). a.tid ≡ tid) ns (among_map (λ (t : Tid). t ≡ tid) (λ (a : Ticketed). a.tid) ns i)

pub in_tids : (ns : List Ticketed) (a : Ticketed) → In a ns → In a.tid (tids_of ns)
in_tids ns a i = map_among (λ (t : Tid). t ≡ a.tid) (λ (b : Ticketed). b.tid) ns (is_among (λ (b : Ticketed). b.tid ≡ a.tid) a ns i refl)

-- attempts of one list that are all of the other one too
pub tids_more : (ns ms : List Ticketed) → ((a : Ticketed) → In a ns → In a ms) → (tid : Tid) → In tid (tids_of ns) → In tid (tids_of ms)
tids_more ns ms h tid i = let a = tid_in ns tid i in subst (λ t. In t (tids_of ms)) a.2 (in_tids ms a.0 (h a.0 a.1))

edge_more : (ns ms : List Ticketed) → ((a : Ticketed) → In a ns → In a ms) → (e : Edge) → IsEdge ns e → IsEdge ms e
edge_more ns ms h e k =
    record { from = k.from; to = k.to; has_from = h k.from k.has_from; has_to = h k.to k.has_to; leaves = k.leaves; enters = k.enters; precedes = k.precedes }

-- a cycle of attempts is one of more attempts
pub cycle_more : (ns ms : List Ticketed) (tid : Tid) (es : List Edge) → ((a : Ticketed) → In a ns → In a ms) → IsCycle ns tid es → IsCycle ms tid es
cycle_more ns ms tid es h k = record { some = k.some; edges = each_map (IsEdge ns) (IsEdge ms) (edge_more ns ms h) es k.edges; round = k.round }

-- ---- where the reached attempts are closed there is no cycle through the added one

site_of : (a b : Ticketed) → Linked edge_between a b → (s : SiteId) × Precedes a b s
site_of a b l = let e : Edge = l.0 in (e.site, (edge_some a b l.0 l.1).precedes)

closed_chain : (ns : List Ticketed) (g : Ticketed) (r : BTreeSet Tid) → IsClosed ns g r → (a : Ticketed) → In a ns → contains tid_cmp r a.tid ≡ true →
    (xs : List Ticketed) → Each (λ x. In x ns) xs → Chain (Linked edge_between) a xs g → ⊥
closed_chain ns g r k a i h [] is c = let s = site_of a g c in k.never_back a s.0 i h s.1
closed_chain ns g r k a i h (x ∷ xs) is c =
    let s = site_of a x c.0 in closed_chain ns g r k x is.0 (k.onward a x s.0 i is.0 h s.1) xs is.1 c.1

closed_from : (ns : List Ticketed) (g : Ticketed) (r : BTreeSet Tid) → IsClosed ns g r → ((s : SiteId) → Precedes g g s → ⊥) →
    (xs : List Ticketed) → Each (λ x. In x ns) xs → Chain (Linked edge_between) g xs g → ⊥
closed_from ns g r k loop [] is c = let s = site_of g g c in loop s.0 s.1
closed_from ns g r k loop (x ∷ xs) is c =
    let s = site_of g x c.0 in closed_chain ns g r k x is.0 (k.first x s.0 is.0 s.1) xs is.1 c.1

pub closed_no_cycle : (ns : List Ticketed) (g : Ticketed) (r : BTreeSet Tid) → IsClosed ns g r → ((s : SiteId) → Precedes g g s → ⊥) → OneEach (g ∷ ns) →
    (es : List Edge) → IsCycle (g ∷ ns) g.tid es → ⊥
closed_no_cycle ns g r k loop one es c =
    let w = cycle_way g ns one es c in closed_from ns g r k loop w.middle w.among w.chain

-- ---- tickets by rising site

-- the first site is less than that of each behind it
rising_least : (t : SiteTicket) (ts : List SiteTicket) → IsRising (λ (k : SiteTicket). k.site.0) (t ∷ ts) → (u : SiteTicket) → In u ts → t.site.0 < u.site.0
rising_least t [] h u i = absurd i
rising_least t (k ∷ ts) h u (inl e) = subst (λ (x : SiteTicket). t.site.0 < x.site.0) e h.0
rising_least t (k ∷ ts) h u (inr i) = let m = rising_least k ts h.1 u i in let n = h.0 in omega arith

rising_rest : (t : SiteTicket) (ts : List SiteTicket) → IsRising (λ (k : SiteTicket). k.site.0) (t ∷ ts) → IsRising (λ (k : SiteTicket). k.site.0) ts
rising_rest t [] h = tt
rising_rest t (k ∷ ts) h = h.1

-- of two tickets of one attempt at one site none is smaller
pub one_ticket_at : (ts : List SiteTicket) → IsRising (λ (k : SiteTicket). k.site.0) ts → (t u : SiteTicket) → In t ts → In u ts → t.site ≡ u.site → t.ticket < u.ticket → ⊥
one_ticket_at [] h t u i j e l = i
one_ticket_at (k ∷ ts) h t u (inl p) (inl q) e l =
    let same : t.ticket ≡ u.ticket = ap (λ (x : SiteTicket). x.ticket) (sym p ∙ q) in absurd (omega arith)
one_ticket_at (k ∷ ts) h t u (inl p) (inr j) e l =
    let m = rising_least k ts h u j in
    let n : k.site.0 ≡ u.site.0 = ap (λ (x : SiteTicket). x.site.0) p ∙ ap (λ (s : SiteId). s.0) e in absurd (omega arith)
one_ticket_at (k ∷ ts) h t u (inr i) (inl q) e l =
    let m = rising_least k ts h t i in
    let n : k.site.0 ≡ t.site.0 = ap (λ (x : SiteTicket). x.site.0) q ∙ sym (ap (λ (s : SiteId). s.0) e) in absurd (omega arith)
one_ticket_at (k ∷ ts) h t u (inr i) (inr j) e l = one_ticket_at ts (rising_rest k ts h) t u i j e l

-- so no attempt precedes itself
pub no_loop : (g : Ticketed) → IsRising (λ (k : SiteTicket). k.site.0) g.tickets → (s : SiteId) → Precedes g g s → ⊥
no_loop g h s p = one_ticket_at g.tickets h p.smaller p.greater p.first p.second (p.there ∙ sym p.here) p.less

-- where the search reaches the closed attempts, no cycle leads through the added one
pub no_cycle_found : (ns kept : List Ticketed) (g : Ticketed) (tid : Tid) (r : BTreeSet Tid) → IsFinding ns g (Reached r) → OneEach kept → ns ≡ kept → g.tid ≡ tid →
    IsRising (λ (k : SiteTicket). k.site.0) g.tickets → (In tid (tids_of kept) → ⊥) → IsVerdict kept g Added
no_cycle_found ns kept g tid r closed one same named rising new =
    closed_no_cycle kept g r (subst (λ xs. IsClosed xs g r) same closed) (no_loop g rising) (λ i. new (subst (λ t. In t (tids_of kept)) named i), one)
