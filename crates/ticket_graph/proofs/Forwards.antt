-- Attempts in an order in which no edge leads backwards, and the order with one more.
use Rattle.std.proofs.Common.{◌≡◌, Bool, true, false, cond, List, [], ◌∷◌, ◌++◌, refl, sym, ap, ◌∙◌, subst, inl, inr}
use Rattle.mdb_base.specs.declared.names.SiteId.{SiteId}
use Rattle.mdb_base.specs.declared.names.SiteTicket.{SiteTicket}
use Rattle.mdb_base.specs.declared.names.Tid.{Tid}
use Rattle.order_laws.specs.Chains.{In, Distinct}
use Rattle.order_laws.specs.Orders.{Before}
use Rattle.order_laws.specs.Search.{Linked}
use Rattle.order_laws.specs.Tickets.{Ticketed, Precedes, OneEach, edge_between}
use Rattle.order_laws.proofs.ForCallers.{distinct_joined, in_parts, linked, way_append, way_cycle, way_one}
use Rattle.ticket_graph.specs.Graph.{tids_of, IsForwards, IsTopological, IsVerdict}
use Rattle.ticket_graph.specs.declared.verdict.Verdict.TheVariants.{Added}
use Rattle.ticket_graph.specs.Reach.{are_before, reached, unreached}
use Rattle.ticket_graph.proofs.GraphLemmas.{tid_in, in_tids}
use Rattle.ticket_graph.proofs.Parts.{in_left, in_right, map-append}
use Rattle.ticket_graph.proofs.Reaching.{reached_in, unreached_in, in_either_part, in_one_part, unreached_free, unreached_behind, reached_way, precedes_before}

-- no edge leads backwards among the reached ones, nor among the others
pub forwards_reached : (met : List SiteTicket) (ns : List Ticketed) → IsForwards ns → IsForwards (reached met ns)
forwards_reached met [] f = tt
forwards_reached met (a ∷ ns) f = by_test (forwards_reached (met ++ a.tickets) ns f.1) (forwards_reached met ns f.1) (are_before met a.tickets)
  where
    behind : (b : Ticketed) (s : SiteId) → In b (a ∷ reached (met ++ a.tickets) ns) → Precedes b a s → ⊥
    behind b s (inl e) p = f.0 b s (inl e) p
    behind b s (inr i) p = f.0 b s (inr (reached_in (met ++ a.tickets) ns b i)) p

    by_test : IsForwards (reached (met ++ a.tickets) ns) → IsForwards (reached met ns) → (b : Bool) →
        IsForwards (cond b (a ∷ reached (met ++ a.tickets) ns) (reached met ns))
    by_test more same true = (behind, more)
    by_test more same false = same

pub forwards_unreached : (met : List SiteTicket) (ns : List Ticketed) → IsForwards ns → IsForwards (unreached met ns)
forwards_unreached met [] f = tt
forwards_unreached met (a ∷ ns) f = by_test (forwards_unreached (met ++ a.tickets) ns f.1) (forwards_unreached met ns f.1) (are_before met a.tickets)
  where
    behind : (b : Ticketed) (s : SiteId) → In b (a ∷ unreached met ns) → Precedes b a s → ⊥
    behind b s (inl e) p = f.0 b s (inl e) p
    behind b s (inr i) p = f.0 b s (inr (unreached_in met ns b i)) p

    by_test : IsForwards (unreached (met ++ a.tickets) ns) → IsForwards (unreached met ns) → (b : Bool) →
        IsForwards (cond b (unreached (met ++ a.tickets) ns) (a ∷ unreached met ns))
    by_test more same true = more
    by_test more same false = (behind, same)

-- the attempts still differ
tids_reached : (met : List SiteTicket) (ns : List Ticketed) (t : Tid) → In t (tids_of (reached met ns)) → In t (tids_of ns)
tids_reached met ns t i = let a = tid_in (reached met ns) t i in subst (λ u. In u (tids_of ns)) a.2 (in_tids ns a.0 (reached_in met ns a.0 a.1))

tids_unreached : (met : List SiteTicket) (ns : List Ticketed) (t : Tid) → In t (tids_of (unreached met ns)) → In t (tids_of ns)
tids_unreached met ns t i = let a = tid_in (unreached met ns) t i in subst (λ u. In u (tids_of ns)) a.2 (in_tids ns a.0 (unreached_in met ns a.0 a.1))

pub once_reached : (met : List SiteTicket) (ns : List Ticketed) → OneEach ns → OneEach (reached met ns)
once_reached met [] o = tt
once_reached met (a ∷ ns) o = by_test (once_reached (met ++ a.tickets) ns o.1) (once_reached met ns o.1) (are_before met a.tickets)
  where
    by_test : OneEach (reached (met ++ a.tickets) ns) → OneEach (reached met ns) → (b : Bool) → OneEach (cond b (a ∷ reached (met ++ a.tickets) ns) (reached met ns))
    by_test more same true = (λ i. o.0 (tids_reached (met ++ a.tickets) ns a.tid i), more)
    by_test more same false = same

pub once_unreached : (met : List SiteTicket) (ns : List Ticketed) → OneEach ns → OneEach (unreached met ns)
once_unreached met [] o = tt
once_unreached met (a ∷ ns) o = by_test (once_unreached (met ++ a.tickets) ns o.1) (once_unreached met ns o.1) (are_before met a.tickets)
  where
    by_test : OneEach (unreached (met ++ a.tickets) ns) → OneEach (unreached met ns) → (b : Bool) → OneEach (cond b (unreached (met ++ a.tickets) ns) (a ∷ unreached met ns))
    by_test more same true = more
    by_test more same false = (λ i. o.0 (tids_unreached met ns a.tid i), same)

-- two lists behind one another
forwards_both : (xs ys : List Ticketed) → IsForwards xs → IsForwards ys →
    ((x y : Ticketed) (s : SiteId) → In x xs → In y ys → Precedes y x s → ⊥) → IsForwards (xs ++ ys)
forwards_both [] ys f g h = g
forwards_both (x ∷ xs) ys f g h = (behind, forwards_both xs ys f.1 g (λ a b s i j. h a b s (inr i) j))
  where
    behind : (b : Ticketed) (s : SiteId) → In b (x ∷ xs ++ ys) → Precedes b x s → ⊥
    behind b s (inl e) p = f.0 b s (inl e) p
    behind b s (inr i) p = elim (in_parts xs ys b i) [ inl j ↦ f.0 b s (inr j) p | inr j ↦ h x b s (inl refl) j p ]

-- ---- the order with one more attempt

-- those that an attempt doesn't lead to, the attempt, and those that it leads to
abbrev pub with_one : Ticketed → List Ticketed → List Ticketed
with_one g ns = unreached g.tickets ns ++ g ∷ reached g.tickets ns

pub one_in : (g : Ticketed) (ns : List Ticketed) (a : Ticketed) → In a (g ∷ ns) → In a (with_one g ns)
one_in g ns a (inl e) = in_right (unreached g.tickets ns) (g ∷ reached g.tickets ns) a (inl e)
one_in g ns a (inr i) =
    elim (in_either_part g.tickets ns a i) [
      | inl j ↦ in_right (unreached g.tickets ns) (g ∷ reached g.tickets ns) a (inr j)
      | inr j ↦ in_left (unreached g.tickets ns) (g ∷ reached g.tickets ns) a j
    ]

pub in_one : (g : Ticketed) (ns : List Ticketed) (a : Ticketed) → In a (with_one g ns) → In a (g ∷ ns)
in_one g ns a i =
    elim (in_parts (unreached g.tickets ns) (g ∷ reached g.tickets ns) a i) [
      | inl j ↦ inr (unreached_in g.tickets ns a j)
      | inr j ↦ elim j [ inl e ↦ inl e | inr k ↦ inr (reached_in g.tickets ns a k) ]
    ]

-- where no cycle leads through the attempt, none of those that it leads to has an edge to it
no_way_back : (g : Ticketed) (ns : List Ticketed) → IsVerdict ns g Added → (a : Ticketed) (s : SiteId) → In a (reached g.tickets ns) → Precedes a g s → ⊥
no_way_back g ns v a s i p =
    let c = way_cycle g ns (way_append (Linked edge_between) ns g a g (reached_in g.tickets ns a i) (reached_way g ns a i) (way_one (Linked edge_between) ns a g (linked a g s p))) in
    v c.0 c.1

pub forwards_one : (g : Ticketed) (ns : List Ticketed) → IsForwards ns → IsVerdict ns g Added → ((s : SiteId) → Precedes g g s → ⊥) → IsForwards (with_one g ns)
forwards_one g ns f v loop =
    forwards_both (unreached g.tickets ns) (g ∷ reached g.tickets ns) (forwards_unreached g.tickets ns f)
    (to_g, forwards_reached g.tickets ns f) across
  where
    to_g : (b : Ticketed) (s : SiteId) → In b (g ∷ reached g.tickets ns) → Precedes b g s → ⊥
    to_g b s (inl e) p = loop s (subst (λ (x : Ticketed). Precedes x g s) (sym e) p)
    to_g b s (inr i) p = no_way_back g ns v b s i p

    across : (x y : Ticketed) (s : SiteId) → In x (unreached g.tickets ns) → In y (g ∷ reached g.tickets ns) → Precedes y x s → ⊥
    across x y s i (inl e) p =
        let free = unreached_free g.tickets ns x i in
        let lead : are_before g.tickets x.tickets ≡ true =
        precedes_before g.tickets g x s (λ t h. h) (subst (λ (z : Ticketed). Precedes z x s) (sym e) p) in
        cc
    across x y s i (inr j) p = unreached_behind g.tickets ns f y x s j i p

pub once_one : (g : Ticketed) (ns : List Ticketed) → OneEach ns → (In g.tid (tids_of ns) → ⊥) → OneEach (with_one g ns)
once_one g ns one new =
    subst Distinct (sym (map-append (λ (a : Ticketed). a.tid) (unreached g.tickets ns) (g ∷ reached g.tickets ns)))
    (distinct_joined (tids_of (unreached g.tickets ns)) (g.tid ∷ tids_of (reached g.tickets ns)) (once_unreached g.tickets ns one)
    (λ i. new (tids_reached g.tickets ns g.tid i), once_reached g.tickets ns one) apart)
  where
    apart : (t : Tid) → In t (tids_of (unreached g.tickets ns)) → In t (g.tid ∷ tids_of (reached g.tickets ns)) → ⊥
    apart t i (inl e) = new (subst (λ u. In u (tids_of ns)) (sym e) (tids_unreached g.tickets ns t i))
    apart t i (inr j) =
        let b = tid_in (unreached g.tickets ns) t i in
        let a = tid_in (reached g.tickets ns) t j in
        in_one_part g.tickets ns one a.0 b.0 a.1 b.1 (a.2 ∙ sym b.2)

-- ---- the order as names

before_of : (ns : List Ticketed) → IsForwards ns → (a b : Ticketed) (s : SiteId) → In a ns → In b ns → Precedes a b s → Before (tids_of ns) a.tid b.tid
before_of [] f a b s i j p = i
before_of (x ∷ ns) f a b s i (inl e) p = absurd (f.0 a s i (subst (λ (y : Ticketed). Precedes a y s) (sym e) p))
before_of (x ∷ ns) f a b s (inl e) (inr j) p = inl (ap (λ (y : Ticketed). y.tid) e, in_tids ns b j)
before_of (x ∷ ns) f a b s (inr i) (inr j) p = inr (before_of ns f.1 a b s i j p)

-- so the attempts stand in a topological order
pub topological : (ns : List Ticketed) → OneEach ns → IsForwards ns → IsTopological ns (tids_of ns)
topological ns one f =
    record {
      once = one;
      all = λ tid i. i;
      alone = λ tid i. i;
      forwards = λ e k.
          subst (λ t. Before (tids_of ns) t e.to) k.leaves
          (subst (λ t. Before (tids_of ns) k.from.tid t) k.enters (before_of ns f k.from k.to e.site k.has_from k.has_to k.precedes));
    }
