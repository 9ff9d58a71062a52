-- The first site with an edge.
use Rattle.std.proofs.Common.{◌≡◌, Option, Some, None, List, refl, ap, subst}
use Rattle.mdb_base.specs.declared.names.SiteId.{SiteId}
use Rattle.mdb_base.specs.declared.names.SiteTicket.{SiteTicket}
use Rattle.mdb_base.specs.declared.replies.Edge.{Edge}
use Rattle.mdb_base.specs.Words.{some_of, first_where, map_some}
use Rattle.order_laws.specs.Tickets.{Ticketed, Precedes, is_above, edge_between}
use Rattle.order_laws.proofs.ForCallers.{edge_some, linked}

-- the first site at which the one has a smaller ticket than the other
abbrev pub first_site : List SiteTicket → List SiteTicket → Option SiteId
first_site from to = map_some (λ k. k.site) (first_where (λ k. some_of (is_above k) to) from)

site_step : (a b : Ticketed) (s : SiteId) (o : Option SiteTicket) → first_where (λ k. some_of (is_above k) b.tickets) a.tickets ≡ o →
    map_some (λ k. k.site) o ≡ Some s → Precedes a b s
site_step a b s None is h = cc
site_step a b s (Some k) is h =
    let e : Edge = record { from = a.tid; to = b.tid; site = k.site } in
    let found : edge_between a b ≡ Some e = ap (map_some (λ (t : SiteTicket). record { from = a.tid; to = b.tid; site = t.site })) is in
    let same : k.site ≡ s = cc in
    subst (Precedes a b) same (edge_some a b e found).precedes

-- there the one precedes the other
pub site_some : (a b : Ticketed) (s : SiteId) → first_site a.tickets b.tickets ≡ Some s → Precedes a b s
site_some a b s h = site_step a b s (first_where (λ k. some_of (is_above k) b.tickets) a.tickets) refl h

none_step : (a b : Ticketed) (o : Option SiteTicket) → first_where (λ k. some_of (is_above k) b.tickets) a.tickets ≡ o →
    map_some (λ k. k.site) o ≡ None → edge_between a b ≡ None
none_step a b None is h = ap (map_some (λ (t : SiteTicket). record { from = a.tid; to = b.tid; site = t.site })) is
none_step a b (Some k) is h = cc

-- where there is no such site, it precedes the other at none
pub site_none : (a b : Ticketed) → first_site a.tickets b.tickets ≡ None → (s : SiteId) → Precedes a b s → ⊥
site_none a b h s p =
    let l = linked a b s p in
    let e : Edge = l.0 in
    let found : edge_between a b ≡ Some e = l.1 in
    let none : edge_between a b ≡ None = none_step a b (first_where (λ k. some_of (is_above k) b.tickets) a.tickets) refl h in
    cc
