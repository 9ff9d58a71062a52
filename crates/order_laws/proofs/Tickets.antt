use Rattle.std.proofs.Common.{◌≡◌, ◌<◌, ◌⊎◌, true, false, Option, Some, None, List, [], ◌∷◌, refl, inl, inr, arith, sym, subst, ◌∙◌}
use Rattle.mdb_base.specs.declared.names.SiteId.{SiteId}
use Rattle.mdb_base.specs.declared.names.SiteTicket.{SiteTicket}
use Rattle.mdb_base.specs.declared.names.Tid.{Tid}
use Rattle.mdb_base.specs.declared.replies.Edge.{Edge}
use Rattle.mdb_base.specs.Words.{Each, some_of, first_where, map_some}
use Rattle.mdb_base.proofs.ForCallers.{among_some}
use Rattle.order_laws.specs.Chains.{In, Acyclic, Within, Way}
use Rattle.order_laws.specs.Search.{cycle_through, Linked, Walk}
use Rattle.order_laws.specs.Tickets.{Ticketed, Precedes, IsEdge, Leads, IsCycle, OneEach, HasNoCycle, is_above, edge_between}
use Rattle.order_laws.proofs.Chains.{way_one, way_cons, way_splits, way_chain, chain_way, accepted}
use Rattle.order_laws.proofs.Search.{found, none_found, chain_walk}
use Rattle.order_laws.proofs.Lists.{is_among, some_of_is, first_where_some, first_where_none, one_image}

-- this is an edge from the one attempt to the other
pub record EdgeOf (a b : Ticketed) (e : Edge) : Type 0 where
  pub precedes : Precedes a b e.site
  pub leaves : a.tid ≡ e.from
  pub enters : b.tid ≡ e.to

pub above_is : (k l : SiteTicket) → is_above k l ≡ true → (l.site ≡ k.site) × (k.ticket < l.ticket)
above_is k l e = (grind arith, grind arith)

pub is_above_true : (k l : SiteTicket) (s : SiteId) → k.site ≡ s → l.site ≡ s → k.ticket < l.ticket → is_above k l ≡ true
is_above_true k l s p q h = grind arith

edge_step : (a b : Ticketed) (e : Edge) (k : Option SiteTicket) → first_where (λ k. some_of (is_above k) b.tickets) a.tickets ≡ k →
    map_some (λ k. record { from = a.tid; to = b.tid; site = k.site }) k ≡ Some e → EdgeOf a b e
edge_step a b e None is h = cc
edge_step a b e (Some k) is h =
    let i = first_where_some (λ k. some_of (is_above k) b.tickets) a.tickets k is in
    let l = some_of_is (is_above k) b.tickets i.1 in
    let up = above_is k l.0 l.2 in
    let edge : Edge = record { from = a.tid; to = b.tid; site = k.site } in
    let same : edge ≡ e = cc in
    subst (EdgeOf a b) same (record {
      precedes = record { smaller = k; greater = l.0; first = i.0; second = l.1; there = refl; here = up.0; less = up.1 };
      leaves = refl;
      enters = refl;
    })

-- an edge that is found is one
pub edge_some : (a b : Ticketed) (e : Edge) → edge_between a b ≡ Some e → EdgeOf a b e
edge_some a b e h = edge_step a b e (first_where (λ k. some_of (is_above k) b.tickets) a.tickets) refl h

linked_step : (a b : Ticketed) (s : SiteId) → Precedes a b s → (k : Option SiteTicket) →
    first_where (λ k. some_of (is_above k) b.tickets) a.tickets ≡ k → edge_between a b ≡ map_some (λ k. record { from = a.tid; to = b.tid; site = k.site }) k →
    Linked edge_between a b
linked_step a b s p (Some k) is e = (record { from = a.tid; to = b.tid; site = k.site }, e)
linked_step a b s p None is e =
    let off : some_of (is_above p.smaller) b.tickets ≡ false = first_where_none (λ k. some_of (is_above k) b.tickets) a.tickets p.smaller is p.first in
    let on : some_of (is_above p.smaller) b.tickets ≡ true = among_some (is_above p.smaller) b.tickets
    (is_among (λ l. is_above p.smaller l ≡ true) p.greater b.tickets p.second (is_above_true p.smaller p.greater s p.there p.here p.less)) in
    cc

-- where one attempt precedes another at a site, an edge is found
pub linked : (a b : Ticketed) (s : SiteId) → Precedes a b s → Linked edge_between a b
linked a b s p = linked_step a b s p (first_where (λ k. some_of (is_above k) b.tickets) a.tickets) refl refl

-- one or more edges of these attempts, from one attempt to another
pub record Goes (ns : List Ticketed) (t : Tid) (es : List Edge) (u : Tid) : Type 0 where
  pub some : es ≡ [] → ⊥
  pub edges : Each (IsEdge ns) es
  pub leads : Leads t es u

is_edge : (ns : List Ticketed) (a b : Ticketed) (e : Edge) → In a ns → In b ns → EdgeOf a b e → IsEdge ns e
is_edge ns a b e i j h =
    record { from = a; to = b; has_from = i; has_to = j; leaves = h.leaves; enters = h.enters; precedes = h.precedes }

-- a walk over these attempts goes by their edges
pub walk_goes : (ns : List Ticketed) (a : Ticketed) (xs : List Ticketed) (b : Ticketed) (es : List Edge) → In a ns → In b ns →
    Each (λ x. In x ns) xs → Walk edge_between a xs b es → Goes ns a.tid es b.tid
walk_goes ns a [] b [] i j among w = absurd w
walk_goes ns a [] b (e ∷ []) i j among w =
    let h = edge_some a b e w in
    record { some = λ none. cc; edges = (is_edge ns a b e i j h, tt); leads = (sym h.leaves, sym h.enters) }
walk_goes ns a [] b (e ∷ f ∷ es) i j among w = absurd w
walk_goes ns a (x ∷ xs) b [] i j among w = absurd w
walk_goes ns a (x ∷ xs) b (e ∷ es) i j among w =
    let h = edge_some a x e w.0 in
    let on = walk_goes ns x xs b es among.0 j among.1 w.1 in
    record {
      some = λ none. cc;
      edges = (is_edge ns a x e i among.0 h, on.edges);
      leads = (sym h.leaves, subst (λ t. Leads t es b.tid) h.enters on.leads);
    }

-- edges that go from one of these attempts to another are a way over them, where they differ
pub goes_way : (ns : List Ticketed) → OneEach ns → (a b : Ticketed) (t u : Tid) (es : List Edge) → In a ns → In b ns → a.tid ≡ t → b.tid ≡ u →
    (es ≡ [] → ⊥) → Each (IsEdge ns) es → Leads t es u → Way (Linked edge_between) ns a b
goes_way ns one a b t u [] i j p q some edges leads = absurd (some refl)
goes_way ns one a b t u (e ∷ []) i j p q some edges leads =
    let h = edges.0 in
    let from : h.from ≡ a = one_image (λ (x : Ticketed). x.tid) ns one h.from a h.has_from i (h.leaves ∙ (leads.0 ∙ sym p)) in
    let to : h.to ≡ b = one_image (λ (x : Ticketed). x.tid) ns one h.to b h.has_to j (h.enters ∙ (leads.1 ∙ sym q)) in
    let l = linked h.from h.to e.site h.precedes in
    way_one (Linked edge_between) ns a b (subst (Linked edge_between a) to (subst (λ x. Linked edge_between x h.to) from l))
goes_way ns one a b t u (e ∷ f ∷ es) i j p q some edges leads =
    let h = edges.0 in
    let from : h.from ≡ a = one_image (λ (x : Ticketed). x.tid) ns one h.from a h.has_from i (h.leaves ∙ (leads.0 ∙ sym p)) in
    let l = linked h.from h.to e.site h.precedes in
    way_cons (Linked edge_between) ns a h.to b (subst (λ x. Linked edge_between x h.to) from l) h.has_to
    (goes_way ns one h.to b e.to u (f ∷ es) h.has_to j h.enters q (λ none. cc) edges.1 leads.1)

each_in_more : (g : Ticketed) (ns xs : List Ticketed) → Each (λ x. In x ns) xs → Each (λ x. In x (g ∷ ns)) xs
each_in_more g ns [] h = tt
each_in_more g ns (x ∷ xs) h = (inr h.0, each_in_more g ns xs h.1)

-- a cycle that the search finds is one through the attempt
pub cycle_found : (g : Ticketed) (others : List Ticketed) (es : List Edge) → cycle_through edge_between g others ≡ Some es →
    IsCycle (g ∷ others) g.tid es
cycle_found g others es e =
    let f = found edge_between others g g es e in
    let w = walk_goes (g ∷ others) g f.middle g es (inl refl) (inl refl) (each_in_more g others f.middle f.among) f.walk in
    record { some = w.some; edges = w.edges; round = w.leads }

through : (g : Ticketed) (others : List Ticketed) → Way (Linked edge_between) others g g ⊎ (Way (Linked edge_between) others g g × Way (Linked edge_between) others g g) →
    Way (Linked edge_between) others g g
through g others (inl w) = w
through g others (inr w) = w.0

-- a cycle through an attempt is a way from it over the others back to it
pub cycle_way : (g : Ticketed) (others : List Ticketed) → OneEach (g ∷ others) → (es : List Edge) → IsCycle (g ∷ others) g.tid es →
    Way (Linked edge_between) others g g
cycle_way g others one es c =
    through g others (way_splits (Linked edge_between) g others g g
    (goes_way (g ∷ others) one g g g.tid g.tid es (inl refl) (inl refl) refl refl c.some c.edges c.round))

-- where the search finds no cycle through the attempt there is none
pub cycle_none : (g : Ticketed) (others : List Ticketed) → OneEach (g ∷ others) → cycle_through edge_between g others ≡ None →
    (es : List Edge) → IsCycle (g ∷ others) g.tid es → ⊥
cycle_none g others one e es c = none_found edge_between others g g e (cycle_way g others one es c)

-- a way from the attempt over the others back to it is a cycle through it
pub way_cycle : (g : Ticketed) (others : List Ticketed) → Way (Linked edge_between) others g g →
    (es : List Edge) × IsCycle (g ∷ others) g.tid es
way_cycle g others v =
    let w = chain_walk edge_between g v.middle g v.chain in
    let r = walk_goes (g ∷ others) g v.middle g w.0 (inl refl) (inl refl) (each_in_more g others v.middle v.among) w.1 in
    (w.0, record { some = r.some; edges = r.edges; round = r.leads })

-- attempts that have no cycle of edges are nodes without a cycle
pub no_cycle_acyclic : (ns : List Ticketed) → HasNoCycle ns → Acyclic (Within (Linked edge_between) ns)
no_cycle_acyclic ns none a xs c =
    let v = chain_way (Linked edge_between) ns a xs a c in
    let w = chain_walk edge_between a v.1.middle a v.1.chain in
    let r = walk_goes ns a v.1.middle a w.0 v.0 v.0 v.1.among w.1 in
    none a.tid w.0 (record { some = r.some; edges = r.edges; round = r.leads })

acyclic_none : (ns : List Ticketed) → OneEach ns → Acyclic (Within (Linked edge_between) ns) → (t : Tid) (es : List Edge) →
    (es ≡ [] → ⊥) → Each (IsEdge ns) es → Leads t es t → ⊥
acyclic_none ns one none t [] some edges leads = some refl
acyclic_none ns one none t (e ∷ es) some edges leads =
    let h = edges.0 in
    let here : h.from.tid ≡ t = h.leaves ∙ leads.0 in
    let w = goes_way ns one h.from h.from t t (e ∷ es) h.has_from h.has_from here here some edges leads in
    none h.from w.middle (way_chain (Linked edge_between) ns h.from w.middle h.from h.has_from w.among h.has_from w.chain)

-- and the other way round where the attempts differ
pub acyclic_no_cycle : (ns : List Ticketed) → OneEach ns → Acyclic (Within (Linked edge_between) ns) → HasNoCycle ns
acyclic_no_cycle ns one none t es c = acyclic_none ns one none t es c.some c.edges c.round

-- an attempt through which no cycle leads keeps the graph without a cycle
pub cycle_accepted : (g : Ticketed) (ns : List Ticketed) → OneEach (g ∷ ns) → HasNoCycle ns →
    ((es : List Edge) → IsCycle (g ∷ ns) g.tid es → ⊥) → HasNoCycle (g ∷ ns)
cycle_accepted g ns one old none =
    acyclic_no_cycle (g ∷ ns) one
    (accepted (Linked edge_between) g ns (no_cycle_acyclic ns old)
    (λ w. let c = way_cycle g ns w in none c.0 c.1))
