-- The attempts that tickets lead to, and the others.
use Rattle.std.proofs.Common.{◌≡◌, ◌⊎◌, Bool, true, false, cond, List, [], ◌∷◌, ◌++◌, refl, sym, ap, ◌∙◌, subst, inl, inr}
use Rattle.mdb_base.specs.declared.names.SiteId.{SiteId}
use Rattle.mdb_base.specs.declared.names.SiteTicket.{SiteTicket}
use Rattle.mdb_base.specs.declared.names.Tid.{Tid}
use Rattle.mdb_base.specs.Words.{some_of}
use Rattle.mdb_base.proofs.ForCallers.{among_some}
use Rattle.order_laws.specs.Chains.{In, Way}
use Rattle.order_laws.specs.Search.{Linked}
use Rattle.order_laws.specs.Tickets.{Ticketed, Precedes, OneEach, is_above, edge_between}
use Rattle.order_laws.proofs.ForCallers.{above_is, bool_is, in_parts, is_above_true, is_among, linked, some_of_is, way_append, way_one}
use Rattle.ticket_graph.specs.Graph.{tids_of, IsForwards}
use Rattle.ticket_graph.specs.Reach.{is_over, are_before, reached, unreached}
use Rattle.ticket_graph.proofs.GraphLemmas.{in_tids}
use Rattle.ticket_graph.proofs.Parts.{in_left, in_right}

-- ---- one list of tickets before another

-- a ticket of the first list is a smaller one of its site than one of the second
pub record HasSmaller (own other : List SiteTicket) : Type 0 where
  pub smaller : SiteTicket
  pub greater : SiteTicket
  pub first : In smaller own
  pub second : In greater other
  pub above : is_above smaller greater ≡ true

pub before_has : (own other : List SiteTicket) → are_before own other ≡ true → HasSmaller own other
before_has own other h =
    let l = some_of_is (is_over own) other h in
    let k = some_of_is (λ k. is_above k l.0) own l.2 in
    record { smaller = k.0; greater = l.0; first = k.1; second = l.1; above = k.2 }

pub has_before : (own other : List SiteTicket) → HasSmaller own other → are_before own other ≡ true
has_before own other h =
    let inner : some_of (λ k. is_above k h.greater) own ≡ true =
    among_some (λ k. is_above k h.greater) own (is_among (λ k. is_above k h.greater ≡ true) h.smaller own h.first h.above) in
    among_some (is_over own) other (is_among (λ l. is_over own l ≡ true) h.greater other h.second inner)

-- tickets among which are those of an attempt that precedes another
pub precedes_before : (met : List SiteTicket) (a b : Ticketed) (s : SiteId) → ((k : SiteTicket) → In k a.tickets → In k met) → Precedes a b s →
    are_before met b.tickets ≡ true
precedes_before met a b s more p =
    has_before met b.tickets (record {
      smaller = p.smaller;
      greater = p.greater;
      first = more p.smaller p.first;
      second = p.second;
      above = is_above_true p.smaller p.greater s p.there p.here p.less;
    })

pub has_precedes : (a b : Ticketed) (h : HasSmaller a.tickets b.tickets) → Precedes a b h.smaller.site
has_precedes a b h =
    let up = above_is h.smaller h.greater h.above in
    record { smaller = h.smaller; greater = h.greater; first = h.first; second = h.second; there = refl; here = up.0; less = up.1 }

pub before_precedes : (a b : Ticketed) → are_before a.tickets b.tickets ≡ true → (s : SiteId) × Precedes a b s
before_precedes a b e = let h = before_has a.tickets b.tickets e in (h.smaller.site, has_precedes a b h)

-- more tickets are before what some of them are before
pub before_more : (met more other : List SiteTicket) → are_before met other ≡ true → are_before (met ++ more) other ≡ true
before_more met more other e =
    let h = before_has met other e in
    has_before (met ++ more) other (record {
      smaller = h.smaller;
      greater = h.greater;
      first = in_left met more h.smaller h.first;
      second = h.second;
      above = h.above;
    })

before_behind : (met more other : List SiteTicket) → are_before more other ≡ true → are_before (met ++ more) other ≡ true
before_behind met more other e =
    let h = before_has more other e in
    has_before (met ++ more) other (record {
      smaller = h.smaller;
      greater = h.greater;
      first = in_right met more h.smaller h.first;
      second = h.second;
      above = h.above;
    })

pub before_some : (met more other : List SiteTicket) → are_before (met ++ more) other ≡ true → (are_before met other ≡ true) ⊎ (are_before more other ≡ true)
before_some met more other e = by_place (before_has (met ++ more) other e)
  where
    by_part : (h : HasSmaller (met ++ more) other) → In h.smaller met ⊎ In h.smaller more → (are_before met other ≡ true) ⊎ (are_before more other ≡ true)
    by_part h (inl i) = inl (has_before met other (record { smaller = h.smaller; greater = h.greater; first = i; second = h.second; above = h.above }))
    by_part h (inr i) = inr (has_before more other (record { smaller = h.smaller; greater = h.greater; first = i; second = h.second; above = h.above }))

    by_place : HasSmaller (met ++ more) other → (are_before met other ≡ true) ⊎ (are_before more other ≡ true)
    by_place h = by_part h (in_parts met more h.smaller h.first)

pub before_fewer : (met more other : List SiteTicket) → are_before (met ++ more) other ≡ false → are_before met other ≡ false
before_fewer met more other e =
    elim (bool_is (are_before met other)) [
      | inl h ↦ let k = before_more met more other h in cc
      | inr h ↦ h
    ]

pub before_less : (met more other : List SiteTicket) → are_before (met ++ more) other ≡ false → are_before more other ≡ false
before_less met more other e =
    elim (bool_is (are_before more other)) [
      | inl h ↦ let k = before_behind met more other h in cc
      | inr h ↦ h
    ]

-- ---- who is reached and who isn't

pub reached_in : (met : List SiteTicket) (ns : List Ticketed) (c : Ticketed) → In c (reached met ns) → In c ns
reached_in met [] c i = i
reached_in met (a ∷ ns) c i = by_test (reached_in (met ++ a.tickets) ns c) (reached_in met ns c) (are_before met a.tickets) i
  where
    by_test : (In c (reached (met ++ a.tickets) ns) → In c ns) → (In c (reached met ns) → In c ns) →
        (b : Bool) → In c (cond b (a ∷ reached (met ++ a.tickets) ns) (reached met ns)) → In c (a ∷ ns)
    by_test more same true (inl e) = inl e
    by_test more same true (inr j) = inr (more j)
    by_test more same false j = inr (same j)

pub unreached_in : (met : List SiteTicket) (ns : List Ticketed) (c : Ticketed) → In c (unreached met ns) → In c ns
unreached_in met [] c i = i
unreached_in met (a ∷ ns) c i = by_test (unreached_in (met ++ a.tickets) ns c) (unreached_in met ns c) (are_before met a.tickets) i
  where
    by_test : (In c (unreached (met ++ a.tickets) ns) → In c ns) → (In c (unreached met ns) → In c ns) →
        (b : Bool) → In c (cond b (unreached (met ++ a.tickets) ns) (a ∷ unreached met ns)) → In c (a ∷ ns)
    by_test more same true j = inr (more j)
    by_test more same false (inl e) = inl e
    by_test more same false (inr j) = inr (same j)

pub in_either_part : (met : List SiteTicket) (ns : List Ticketed) (c : Ticketed) → In c ns → In c (reached met ns) ⊎ In c (unreached met ns)
in_either_part met [] c i = inl i
in_either_part met (a ∷ ns) c i = by_test (in_either_part (met ++ a.tickets) ns c) (in_either_part met ns c) (are_before met a.tickets) i
  where
    by_test : (In c ns → In c (reached (met ++ a.tickets) ns) ⊎ In c (unreached (met ++ a.tickets) ns)) →
        (In c ns → In c (reached met ns) ⊎ In c (unreached met ns)) → (b : Bool) → In c (a ∷ ns) →
        In c (cond b (a ∷ reached (met ++ a.tickets) ns) (reached met ns)) ⊎ In c (cond b (unreached (met ++ a.tickets) ns) (a ∷ unreached met ns))
    by_test more same true (inl e) = inl (inl e)
    by_test more same true (inr j) = elim (more j) [ inl k ↦ inl (inr k) | inr k ↦ inr k ]
    by_test more same false (inl e) = inr (inl e)
    by_test more same false (inr j) = elim (same j) [ inl k ↦ inl k | inr k ↦ inr (inr k) ]

-- nobody is both
pub in_one_part : (met : List SiteTicket) (ns : List Ticketed) → OneEach ns → (a b : Ticketed) → In a (reached met ns) → In b (unreached met ns) → a.tid ≡ b.tid → ⊥
in_one_part met [] one a b i j e = i
in_one_part met (c ∷ ns) one a b i j e =
    by_test (λ h k. in_one_part (met ++ c.tickets) ns one.1 a b h k e) (λ h k. in_one_part met ns one.1 a b h k e) (are_before met c.tickets) i j
  where
    twice : (x y : Ticketed) → c ≡ x → In y ns → y.tid ≡ x.tid → ⊥
    twice x y p k q = one.0 (subst (λ (t : Tid). In t (tids_of ns)) (q ∙ ap (λ (z : Ticketed). z.tid) (sym p)) (in_tids ns y k))

    by_test : (In a (reached (met ++ c.tickets) ns) → In b (unreached (met ++ c.tickets) ns) → ⊥) →
        (In a (reached met ns) → In b (unreached met ns) → ⊥) →
        (t : Bool) → In a (cond t (c ∷ reached (met ++ c.tickets) ns) (reached met ns)) → In b (cond t (unreached (met ++ c.tickets) ns) (c ∷ unreached met ns)) → ⊥
    by_test more same true (inl p) k = twice a b p (unreached_in (met ++ c.tickets) ns b k) (sym e)
    by_test more same true (inr h) k = more h k
    by_test more same false h (inl p) = twice b a p (reached_in met ns a h) e
    by_test more same false h (inr k) = same h k

-- the tickets are before no one who isn't reached
pub unreached_free : (met : List SiteTicket) (ns : List Ticketed) (c : Ticketed) → In c (unreached met ns) → are_before met c.tickets ≡ false
unreached_free met [] c i = absurd i
unreached_free met (a ∷ ns) c i = by_test (unreached_free (met ++ a.tickets) ns c) (unreached_free met ns c) (are_before met a.tickets) refl i
  where
    by_test : (In c (unreached (met ++ a.tickets) ns) → are_before (met ++ a.tickets) c.tickets ≡ false) →
        (In c (unreached met ns) → are_before met c.tickets ≡ false) →
        (b : Bool) → are_before met a.tickets ≡ b → In c (cond b (unreached (met ++ a.tickets) ns) (a ∷ unreached met ns)) → are_before met c.tickets ≡ false
    by_test more same true e j = before_fewer met a.tickets c.tickets (more j)
    by_test more same false e (inl p) = subst (λ (x : Ticketed). are_before met x.tickets ≡ false) p e
    by_test more same false e (inr j) = same j

-- no one who is reached has an edge to one who isn't
pub unreached_behind : (met : List SiteTicket) (ns : List Ticketed) → IsForwards ns → (a c : Ticketed) (s : SiteId) → In a (reached met ns) → In c (unreached met ns) →
    Precedes a c s → ⊥
unreached_behind met [] f a c s i j p = i
unreached_behind met (x ∷ ns) f a c s i j p =
    by_test (λ h k. unreached_behind (met ++ x.tickets) ns f.1 a c s h k p) (λ h k. unreached_behind met ns f.1 a c s h k p) (are_before met x.tickets) i j
  where
    by_test : (In a (reached (met ++ x.tickets) ns) → In c (unreached (met ++ x.tickets) ns) → ⊥) →
        (In a (reached met ns) → In c (unreached met ns) → ⊥) → (b : Bool) → In a (cond b (x ∷ reached (met ++ x.tickets) ns) (reached met ns)) → In c (cond b (unreached (met ++ x.tickets) ns) (x ∷ unreached met ns)) → ⊥
    by_test more same true (inl e) k =
        let free = unreached_free (met ++ x.tickets) ns c k in
        let lead : are_before (met ++ x.tickets) c.tickets ≡ true =
        precedes_before (met ++ x.tickets) a c s (λ t h. in_right met x.tickets t (subst (λ (y : Ticketed). In t y.tickets) (sym e) h)) p in
        cc
    by_test more same true (inr h) k = more h k
    by_test more same false h (inl e) = f.0 a s (inr (reached_in met ns a h)) (subst (λ (y : Ticketed). Precedes a y s) (sym e) p)
    by_test more same false h (inr k) = same h k

-- the tickets are before who is reached, or one who is has an edge to it
pub data IsLed (met : List SiteTicket) (ns : List Ticketed) (c : Ticketed) : Type 0 where
  Met : are_before met c.tickets ≡ true → IsLed met ns c
  From : (a : Ticketed) → In a ns → (s : SiteId) → Precedes a c s → IsLed met ns c

led_more : (met more : List SiteTicket) (ns ms : List Ticketed) (c : Ticketed) → ((a : Ticketed) → In a ns → In a ms) →
    (are_before more c.tickets ≡ true → IsLed met ms c) → IsLed (met ++ more) ns c → IsLed met ms c
led_more met more ns ms c sub h (Met e) = elim (before_some met more c.tickets e) [ inl k ↦ Met k | inr k ↦ h k ]
led_more met more ns ms c sub h (From a i s p) = From a (sub a i) s p

pub reached_led : (met : List SiteTicket) (ns : List Ticketed) (c : Ticketed) → In c (reached met ns) → IsLed met (reached met ns) c
reached_led met [] c i = absurd i
reached_led met (x ∷ ns) c i = by_test (reached_led (met ++ x.tickets) ns c) (reached_led met ns c) (are_before met x.tickets) refl i
  where
    by_test : (In c (reached (met ++ x.tickets) ns) → IsLed (met ++ x.tickets) (reached (met ++ x.tickets) ns) c) →
        (In c (reached met ns) → IsLed met (reached met ns) c) → (b : Bool) → are_before met x.tickets ≡ b → In c (cond b (x ∷ reached (met ++ x.tickets) ns) (reached met ns)) →
        IsLed met (cond b (x ∷ reached (met ++ x.tickets) ns) (reached met ns)) c
    by_test more same true e (inl p) = Met (subst (λ (y : Ticketed). are_before met y.tickets ≡ true) p e)
    by_test more same true e (inr j) =
        led_more met x.tickets (reached (met ++ x.tickets) ns) (x ∷ reached (met ++ x.tickets) ns) c (λ a k. inr k)
        (λ h. let p = before_precedes x c h in From x (inl refl) p.0 p.1)
        (more j)
    by_test more same false e j = same j

-- ---- ways to those that are reached

-- the ticket is one of the first attempt, or one of an attempt to which a way leads from it
pub record HasSource (g : Ticketed) (ns : List Ticketed) (ticket : SiteTicket) : Type 0 where
  pub source : Ticketed
  pub has : In ticket source.tickets
  pub way : (source ≡ g) ⊎ (In source ns × Way (Linked edge_between) ns g source)

source_way : (g : Ticketed) (ns : List Ticketed) (source c : Ticketed) (s : SiteId) → (source ≡ g) ⊎ (In source ns × Way (Linked edge_between) ns g source) →
    Precedes source c s → Way (Linked edge_between) ns g c
source_way g ns source c s (inl e) p = way_one (Linked edge_between) ns g c (subst (λ (x : Ticketed). Linked edge_between x c) e (linked source c s p))
source_way g ns source c s (inr w) p =
    way_append (Linked edge_between) ns g source c w.0 w.1 (way_one (Linked edge_between) ns source c (linked source c s p))

led_way : (g : Ticketed) (ns : List Ticketed) (met : List SiteTicket) (c : Ticketed) → ((k : SiteTicket) → In k met → HasSource g ns k) →
    are_before met c.tickets ≡ true → Way (Linked edge_between) ns g c
led_way g ns met c from e =
    let h = before_has met c.tickets e in
    let k = from h.smaller h.first in
    let own : HasSmaller k.source.tickets c.tickets = record { smaller = h.smaller; greater = h.greater; first = k.has; second = h.second; above = h.above } in
    source_way g ns k.source c h.smaller.site k.way (has_precedes k.source c own)

reached_ways : (g : Ticketed) (ns : List Ticketed) (met : List SiteTicket) (ms : List Ticketed) → ((k : SiteTicket) → In k met → HasSource g ns k) →
    ((a : Ticketed) → In a ms → In a ns) → (c : Ticketed) → In c (reached met ms) → Way (Linked edge_between) ns g c
reached_ways g ns met [] from sub c i = absurd i
reached_ways g ns met (x ∷ ms) from sub c i =
    by_test (λ more. reached_ways g ns (met ++ x.tickets) ms more (λ a h. sub a (inr h)) c) (reached_ways g ns met ms from (λ a h. sub a (inr h)) c)
    (are_before met x.tickets) refl i
  where
    by_test : (((k : SiteTicket) → In k (met ++ x.tickets) → HasSource g ns k) → In c (reached (met ++ x.tickets) ms) → Way (Linked edge_between) ns g c) →
        (In c (reached met ms) → Way (Linked edge_between) ns g c) →
        (b : Bool) → are_before met x.tickets ≡ b → In c (cond b (x ∷ reached (met ++ x.tickets) ms) (reached met ms)) → Way (Linked edge_between) ns g c
    by_test more same true e (inl p) = led_way g ns met c from (subst (λ (y : Ticketed). are_before met y.tickets ≡ true) p e)
    by_test more same true e (inr j) =
        more
        (λ k h. elim (in_parts met x.tickets k h) [
          | inl i ↦ from k i
          | inr i ↦ record { source = x; has = i; way = inr (sub x (inl refl), led_way g ns met x from e) }
        ])
        j
    by_test more same false e j = same j

-- a way leads from an attempt to each that its tickets lead to
pub reached_way : (g : Ticketed) (ns : List Ticketed) (c : Ticketed) → In c (reached g.tickets ns) → Way (Linked edge_between) ns g c
reached_way g ns c i = reached_ways g ns g.tickets ns (λ k h. record { source = g; has = h; way = inl refl }) (λ a h. h) c i
