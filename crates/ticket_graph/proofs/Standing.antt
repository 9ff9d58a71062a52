-- What a graph stands for: with one more attempt, and with fewer kept ones.
use Rattle.std.proofs.Common.{ℕ, ◌≡◌, ◌<◌, ◌≤◌, ◌⊎◌, List, [], ◌∷◌, refl, sym, ap, ◌∙◌, subst, inl, inr, arith}
use Rattle.mdb_base.specs.declared.names.SiteId.{SiteId}
use Rattle.mdb_base.specs.declared.names.SiteTicket.{SiteTicket}
use Rattle.mdb_base.specs.declared.names.Tid.{Tid}
use Rattle.mdb_base.specs.declared.replies.Edge.{Edge}
use Rattle.mdb_base.specs.Names.{same_tid}
use Rattle.mdb_base.specs.Words.{Each, some_of}
use Rattle.order_laws.specs.Chains.{In}
use Rattle.order_laws.specs.Tickets.{Ticketed, Precedes, IsEdge, Leads, OneEach}
use Rattle.order_laws.proofs.ForCallers.{bool_is, each_at, is_in_false, is_in_true, one_image, tells_tids}
use Rattle.ticket_graph.specs.declared.verdict.Verdict.{Verdict}
use Rattle.ticket_graph.specs.declared.verdict.Verdict.TheVariants.{Added, Cycle}
use Rattle.ticket_graph.specs.Graph.{Graph, attempts_after, floor_of, tids_of, AreAbove, AreBelow, IsAfter, IsPruned, IsVerdict, IsWith, StandsFor}
use Rattle.ticket_graph.specs.Reach.{floor_in, highest}
use Rattle.ticket_graph.proofs.GraphLemmas.{cycle_more, in_tids, tid_in}
use Rattle.ticket_graph.proofs.Heights.{below_each, highest_more, highest_below}

-- ---- the answer for all attempts

-- an attempt of the list is kept, or it isn't
kept_or_not : (all : List Ticketed) (graph : Graph) → OneEach all → StandsFor all graph → (b : Ticketed) → In b all → In b graph.kept ⊎ (In b graph.kept → ⊥)
kept_or_not all graph one st b i =
    elim (bool_is (some_of (same_tid b.tid) (tids_of graph.kept))) [
      | inl e ↦
          let a = tid_in graph.kept b.tid (is_in_true same_tid tells_tids (tids_of graph.kept) b.tid e) in
          inl (subst (λ x. In x graph.kept) (one_image (λ (x : Ticketed). x.tid) all one a.0 b (st.kept a.0 a.1) i a.2) a.1)
      | inr e ↦ inr (λ j. is_in_false same_tid tells_tids (tids_of graph.kept) b.tid e (in_tids graph.kept b j))
    ]

-- an attempt above the floors has no edge into one that isn't kept
pub above_free : (graph : Graph) (g b : Ticketed) (s : SiteId) → AreAbove (floor_of graph) g.tickets → AreBelow (floor_of graph) b.tickets → Precedes g b s → ⊥
above_free graph g b s up down p =
    let low = each_at (λ (k : SiteTicket). floor_of graph k.site ≤ k.ticket) p.smaller g.tickets up p.first in
    let high = each_at (λ (k : SiteTicket). k.ticket ≤ floor_of graph k.site) p.greater b.tickets down p.second in
    let same : floor_of graph p.smaller.site ≡ floor_of graph p.greater.site = ap (floor_of graph) (p.there ∙ sym p.here) in
    let less = p.less in
    absurd (omega arith)

-- from the added attempt and from the kept ones edges lead to these alone
onward : (all : List Ticketed) (graph : Graph) (g : Ticketed) → OneEach (g ∷ all) → StandsFor all graph → AreAbove (floor_of graph) g.tickets →
    (a b : Ticketed) (s : SiteId) → In a (g ∷ graph.kept) → In b (g ∷ all) → Precedes a b s → In b (g ∷ graph.kept)
onward all graph g one st up a b s i (inl e) p = inl e
onward all graph g one st up a b s i (inr j) p =
    elim (kept_or_not all graph one.1 st b j) [
      | inl k ↦ inr k
      | inr free ↦ elim i [
        | inl e ↦ absurd (above_free graph g b s up (st.below b j free) (subst (λ x. Precedes x b s) (sym e) p))
        | inr k ↦ absurd (st.closed a b s k j free p)
      ]
    ]

more_all : (all : List Ticketed) (graph : Graph) (g : Ticketed) → StandsFor all graph → (a : Ticketed) → In a (g ∷ graph.kept) → In a (g ∷ all)
more_all all graph g st a (inl e) = inl e
more_all all graph g st a (inr i) = inr (st.kept a i)

-- edges that begin at one of these are edges between these
edges_kept : (all : List Ticketed) (graph : Graph) (g : Ticketed) → OneEach (g ∷ all) → StandsFor all graph → AreAbove (floor_of graph) g.tickets →
    (a : Ticketed) → In a (g ∷ graph.kept) → (u : Tid) (es : List Edge) → Each (IsEdge (g ∷ all)) es → Leads a.tid es u → Each (IsEdge (g ∷ graph.kept)) es
edges_kept all graph g one st up a i u [] edges leads = tt
edges_kept all graph g one st up a i u (e ∷ es) edges leads =
    let k = edges.0 in
    let from : k.from ≡ a =
    one_image (λ (x : Ticketed). x.tid) (g ∷ all) one k.from a k.has_from (more_all all graph g st a i) (k.leaves ∙ leads.0) in
    let first : In k.from (g ∷ graph.kept) = subst (λ x. In x (g ∷ graph.kept)) (sym from) i in
    let second : In k.to (g ∷ graph.kept) = onward all graph g one st up k.from k.to e.site first k.has_to k.precedes in (
      record { from = k.from; to = k.to; has_from = first; has_to = second; leaves = k.leaves; enters = k.enters; precedes = k.precedes },
      edges_kept all graph g one st up k.to second u es edges.1 (subst (λ t. Leads t es u) (sym k.enters) leads.1),
    )

-- so the verdict on the kept attempts is the one on all
pub verdict_all : (all : List Ticketed) (graph : Graph) (g : Ticketed) (v : Verdict) → OneEach (g ∷ all) → StandsFor all graph → AreAbove (floor_of graph) g.tickets →
    IsVerdict graph.kept g v → IsVerdict all g v
verdict_all all graph g Added one st up v =
    λ es c. v es (record { some = c.some; edges = edges_kept all graph g one st up g (inl refl) g.tid es c.edges c.round; round = c.round })
verdict_all all graph g (Cycle es) one st up v = cycle_more (g ∷ graph.kept) (g ∷ all) g.tid es (more_all all graph g st) v

-- ---- what it stands for afterwards

stands_with : (all : List Ticketed) (before after : Graph) (g : Ticketed) → StandsFor all before → AreAbove (floor_of before) g.tickets → IsWith g before after →
    StandsFor (g ∷ all) after
stands_with all before after g st up w = record { kept = kept; closed = closed; below = below }
  where
    was : (b : Ticketed) → (In b after.kept → ⊥) → In b before.kept → ⊥
    was b free i = free (w.all b (inr i))

    down : (b : Ticketed) → In b all → (In b after.kept → ⊥) → AreBelow (floor_of before) b.tickets
    down b j free = st.below b j (was b free)

    kept : (a : Ticketed) → In a after.kept → In a (g ∷ all)
    kept a i = more_all all before g st a (w.alone a i)

    from : (a b : Ticketed) (s : SiteId) → In a (g ∷ before.kept) → In b all → (In b after.kept → ⊥) → Precedes a b s → ⊥
    from a b s (inl e) j free p = above_free before g b s up (down b j free) (subst (λ x. Precedes x b s) (sym e) p)
    from a b s (inr i) j free p = st.closed a b s i j (was b free) p

    closed : (a b : Ticketed) (s : SiteId) → In a after.kept → In b (g ∷ all) → (In b after.kept → ⊥) → Precedes a b s → ⊥
    closed a b s i (inl e) free p = free (w.all b (inl e))
    closed a b s i (inr j) free p = from a b s (w.alone a i) j free p

    below : (b : Ticketed) → In b (g ∷ all) → (In b after.kept → ⊥) → AreBelow (floor_of after) b.tickets
    below b (inl e) free = absurd (free (w.all b (inl e)))
    below b (inr j) free = subst (λ fs. AreBelow (floor_in fs) b.tickets) (sym w.floors) (down b j free)

pub stands_after : (all : List Ticketed) (before after : Graph) (g : Ticketed) (v : Verdict) → StandsFor all before → AreAbove (floor_of before) g.tickets →
    IsAfter before g v after → StandsFor (attempts_after all g v) after
stands_after all before after g Added st up h = stands_with all before after g st up h
stands_after all before after g (Cycle es) st up h = subst (StandsFor all) (sym h) st

-- what is pruned stands for the same
pub stands_pruned : (all : List Ticketed) (before after : Graph) (waiting : List (List SiteTicket)) → IsPruned waiting before after → StandsFor all before →
    StandsFor all after
stands_pruned all before after waiting h st = record { kept = λ a i. st.kept a (h.kept a i); closed = closed; below = below }
  where
    closed : (a b : Ticketed) (s : SiteId) → In a after.kept → In b all → (In b after.kept → ⊥) → Precedes a b s → ⊥
    closed a b s i j free p = st.closed a b s (h.kept a i) j (λ was. h.follows a b s i (record { was = was; gone = free }) p) p

    never : (b : Ticketed) → In b all → (In b after.kept → ⊥) → (k : SiteTicket) → In k b.tickets → floor_of after k.site < k.ticket → ⊥
    never b j free k i high =
        let was : In b before.kept → ⊥ =
        λ was. let low = each_at (λ (t : SiteTicket). t.ticket ≤ floor_of after t.site) k b.tickets (h.below b (record { was = was; gone = free })) i in absurd (omega arith) in
        let low = each_at (λ (t : SiteTicket). t.ticket ≤ floor_of before t.site) k b.tickets (st.below b j was) i in
        let up = h.rises k.site in
        absurd (omega arith)

    by_test : (n m : ℕ) → (n < m → ⊥) → m ≤ n
    by_test n m free = omega arith

    below : (b : Ticketed) → In b all → (In b after.kept → ⊥) → AreBelow (floor_of after) b.tickets
    below b j free = below_each (floor_of after) b.tickets (λ k i. by_test (floor_of after k.site) k.ticket (never b j free k i))

-- a graph that keeps no attempt stands for one more behind a higher floor
pub stands_forgotten : (all : List Ticketed) (before after : Graph) (g : Ticketed) → after.kept ≡ [] → StandsFor all before → before.kept ≡ [] →
    ((site : SiteId) → floor_of after site ≡ highest site (floor_of before site) g.tickets) → StandsFor (g ∷ all) after
stands_forgotten all before after g none st was high = record { kept = λ a i. nobody a i; closed = λ a b s i j free p. nobody a i; below = below }
  where
    nobody : {A : Type 0} (a : Ticketed) → In a after.kept → A
    nobody a i = absurd (subst (In a) none i)

    up : (site : SiteId) → floor_of before site ≤ floor_of after site
    up site = let h = high site in let m = highest_more site (floor_of before site) g.tickets in omega arith

    rise : (ks : List SiteTicket) → AreBelow (floor_of before) ks → AreBelow (floor_of after) ks
    rise ks d =
        below_each (floor_of after) ks
        (λ k i. let low = each_at (λ (t : SiteTicket). t.ticket ≤ floor_of before t.site) k ks d i in let m = up k.site in omega arith)

    own : (k : SiteTicket) → In k g.tickets → k.ticket ≤ floor_of after k.site
    own k i = let h = high k.site in let m = highest_below k.site (floor_of before k.site) g.tickets k i refl in omega arith

    below : (b : Ticketed) → In b (g ∷ all) → (In b after.kept → ⊥) → AreBelow (floor_of after) b.tickets
    below b (inl e) free = subst (λ (x : Ticketed). AreBelow (floor_of after) x.tickets) e (below_each (floor_of after) g.tickets own)
    below b (inr j) free = rise b.tickets (st.below b j (λ i. subst (In b) was i))
