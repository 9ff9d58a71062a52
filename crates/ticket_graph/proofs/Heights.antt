-- How high the floors get.
use Rattle.std.proofs.Common.{ℕ, ◌≡◌, ◌≤◌, ◌⊎◌, Bool, true, false, cond, nat_lt, ◌&&◌, List, [], ◌∷◌, refl, sym, ap, ◌∙◌, subst, inl, inr, arith}
use Rattle.mdb_base.specs.declared.names.SiteId.{SiteId}
use Rattle.mdb_base.specs.declared.names.SiteTicket.{SiteTicket}
use Rattle.mdb_base.specs.Names.{same_site}
use Rattle.mdb_base.specs.Words.{Among}
use Rattle.mdb_base.proofs.ForCallers.{same_site-equal, same_site-refl}
use Rattle.order_laws.specs.Chains.{In}
use Rattle.order_laws.specs.Tickets.{Ticketed}
use Rattle.ticket_graph.specs.Graph.{AreBelow}
use Rattle.ticket_graph.specs.Reach.{raised, highest, highest_of}

raised_more : (site : SiteId) (n : ℕ) (k : SiteTicket) → n ≤ raised site n k
raised_more site n k = by_test (same_site k.site site && nat_lt n k.ticket) refl
  where
    by_test : (b : Bool) → (same_site k.site site && nat_lt n k.ticket) ≡ b → n ≤ cond b k.ticket n
    by_test true e = grind arith
    by_test false e = omega arith

raised_ticket : (n : ℕ) (k : SiteTicket) → k.ticket ≤ raised k.site n k
raised_ticket n k = by_test (nat_lt n k.ticket) refl
  where
    by_test : (b : Bool) → nat_lt n k.ticket ≡ b → k.ticket ≤ raised k.site n k
    by_test true e = rw (same_site-refl k.site) (rw e (omega arith))
    by_test false e = rw (same_site-refl k.site) (rw e (grind arith))

raised_one : (site : SiteId) (n : ℕ) (k : SiteTicket) → (raised site n k ≡ n) ⊎ ((k.site ≡ site) × (k.ticket ≡ raised site n k))
raised_one site n k = by_test (same_site k.site site) refl (nat_lt n k.ticket)
  where
    by_test : (b : Bool) → same_site k.site site ≡ b → (d : Bool) → (cond (b && d) k.ticket n ≡ n) ⊎ ((k.site ≡ site) × (k.ticket ≡ cond (b && d) k.ticket n))
    by_test true e true = inr (same_site-equal k.site site e, refl)
    by_test true e false = inl refl
    by_test false e d = inl refl

-- a floor doesn't sink
pub highest_more : (site : SiteId) (n : ℕ) (ks : List SiteTicket) → n ≤ highest site n ks
highest_more site n [] = omega arith
highest_more site n (k ∷ ks) =
    let one = raised_more site n k in
    let rest = highest_more site (raised site n k) ks in
    omega arith

-- each ticket is at most the floor of its site
pub highest_below : (site : SiteId) (n : ℕ) (ks : List SiteTicket) (k : SiteTicket) → In k ks → k.site ≡ site → k.ticket ≤ highest site n ks
highest_below site n [] k i e = absurd i
highest_below site n (j ∷ ks) k (inl p) e =
    let here : j.ticket ≤ raised site n j = subst (λ s. j.ticket ≤ raised s n j) (ap (λ (t : SiteTicket). t.site) p ∙ e) (raised_ticket n j) in
    let rest = highest_more site (raised site n j) ks in
    let same : j.ticket ≡ k.ticket = ap (λ (t : SiteTicket). t.ticket) p in
    omega arith
highest_below site n (j ∷ ks) k (inr i) e = highest_below site (raised site n j) ks k i e

-- it is what it was, or one of the tickets
pub highest_one : (site : SiteId) (n : ℕ) (ks : List SiteTicket) →
    (highest site n ks ≡ n) ⊎ Among (λ k. (k.site ≡ site) × (k.ticket ≡ highest site n ks)) ks
highest_one site n [] = inl refl
highest_one site n (k ∷ ks) =
    elim (highest_one site (raised site n k) ks) [
      | inl e ↦ elim (raised_one site n k) [ inl f ↦ inl (e ∙ f) | inr f ↦ inr (inl (f.0, f.1 ∙ sym e)) ]
      | inr i ↦ inr (inr i)
    ]

-- ---- the same for the tickets of several attempts

pub highest_of_more : (site : SiteId) (n : ℕ) (ns : List Ticketed) → n ≤ highest_of site n ns
highest_of_more site n [] = omega arith
highest_of_more site n (a ∷ ns) =
    let one = highest_more site n a.tickets in
    let rest = highest_of_more site (highest site n a.tickets) ns in
    omega arith

pub highest_of_below : (site : SiteId) (n : ℕ) (ns : List Ticketed) (a : Ticketed) (k : SiteTicket) → In a ns → In k a.tickets → k.site ≡ site →
    k.ticket ≤ highest_of site n ns
highest_of_below site n [] a k i j e = absurd i
highest_of_below site n (b ∷ ns) a k (inl p) j e =
    let here : k.ticket ≤ highest site n b.tickets = highest_below site n b.tickets k (subst (λ (x : Ticketed). In k x.tickets) (sym p) j) e in
    let rest = highest_of_more site (highest site n b.tickets) ns in
    omega arith
highest_of_below site n (b ∷ ns) a k (inr i) j e = highest_of_below site (highest site n b.tickets) ns a k i j e

pub highest_of_one : (site : SiteId) (n : ℕ) (ns : List Ticketed) →
    (highest_of site n ns ≡ n) ⊎ ((a : Ticketed) × In a ns × Among (λ k. (k.site ≡ site) × (k.ticket ≡ highest_of site n ns)) a.tickets)
highest_of_one site n [] = inl refl
highest_of_one site n (a ∷ ns) =
    elim (highest_of_one site (highest site n a.tickets) ns) [
      | inl e ↦ elim (highest_one site n a.tickets) [
        | inl f ↦ inl (e ∙ f)
        | inr i ↦ inr (a, inl refl, subst (λ m. Among (λ k. (k.site ≡ site) × (k.ticket ≡ m)) a.tickets) (sym e) i)
      ]
      | inr i ↦ inr (i.0, inr i.1, i.2)
    ]

-- each of an attempt's tickets is at most the floor
pub below_each : (floor : SiteId → ℕ) (ks : List SiteTicket) → ((k : SiteTicket) → In k ks → k.ticket ≤ floor k.site) → AreBelow floor ks
below_each floor [] h = tt
below_each floor (k ∷ ks) h = (h k (inl refl), below_each floor ks (λ j i. h j (inr i)))
