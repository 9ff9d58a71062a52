-- The places of what the coordinator sends, by rising site.
use Rattle.std.proofs.Common.{◌≡◌, ℕ, ◌<◌, inl, inr, Bool, true, false, Option, Some, None, List, [], ◌∷◌, length, map, refl, sym, ap, ap₂, ◌∙◌, subst, arith}
use Rattle.std.proofs.lemmas.Bool.{cond-true, cond-false, ne_eqb}
use Rattle.mdb_base.specs.declared.names.SiteId.{SiteId}
use Rattle.mdb_base.specs.Names.{same_site}
use Rattle.mdb_base.specs.Rising.{IsRising}
use Rattle.mdb_base.specs.Words.{Each, found, map_some, with_some}
use Rattle.mdb_base.proofs.ForCallers.{same_site-equal, same_site-refl}
use Rattle.order_laws.specs.Chains.{In}
use Rattle.fed_rules.specs.declared.commands.Place.{Place}
use Rattle.fed_rules.specs.declared.messages.Sent.{Sent}
use Rattle.fed_rules.specs.declared.messages.ToSite.{ToSite}
use Rattle.fed_rules.proofs.ForCallers.{OverSends, none_to}
use Rattle.session_routes.specs.declared.traffic.Traffic.{Traffic}
use Rattle.session_routes.specs.Posting.{message_to, place_to, places_to}
use Rattle.fed_world.proofs.SeatLines.{rises_on}

abbrev OverChannels : SiteId → List Traffic → Type 0
OverChannels site channels = Each (λ (t : Traffic). site.0 < t.site.0) channels

sends_over : (site : SiteId) (sent : Sent) (sends : List Sent) → site.0 < sent.site.0 → IsRising (λ (z : Sent). z.site.0) (sent ∷ sends) → OverSends site (sent ∷ sends)
sends_over site sent [] h r = (h, tt)
sends_over site sent (next ∷ sends) h r = (h, sends_over site next sends (let more = r.0 in omega (arith, h, more)) r.1)

-- what is sent to a smaller site plays no part
skip_sent : (sent : Sent) (sends : List Sent) (channels : List Traffic) → OverChannels sent.site channels → found (place_to (sent ∷ sends)) channels ≡ found (place_to sends) channels
skip_sent sent sends [] h = refl
skip_sent sent sends (t ∷ ts) h =
    let more = h.0 in
    let other : same_site sent.site t.site ≡ false = ne_eqb sent.site.0 t.site.0 (λ same. omega (arith, same, more)) in
    let same : place_to (sent ∷ sends) t ≡ place_to sends t =
    ap (λ (o : Option Sent). map_some (λ (m : ToSite). let p : Place = record { site = t.site; place = length t.to.items } in p) (map_some (λ (z : Sent). z.message) o)) (cond-false _ _ _ other) in
    ap₂ (λ (o : Option Place) (ps : List Place). with_some o ps) same (skip_sent sent sends ts h.1)

-- sites that rise
channels_over : (t : Traffic) (ts : List Traffic) → IsRising (λ (z : Traffic). z.site.0) (t ∷ ts) → OverChannels t.site ts
channels_over t [] r = tt
channels_over t (u ∷ us) r = over t.site u us r.0 r.1
  where
    over : (site : SiteId) (u : Traffic) (us : List Traffic) → site.0 < u.site.0 → IsRising (λ (z : Traffic). z.site.0) (u ∷ us) → OverChannels site (u ∷ us)
    over site u [] h r = (h, tt)
    over site u (v ∷ vs) h r = (h, over site v vs (let more = r.0 in omega (arith, h, more)) r.1)

channels_on : (t : Traffic) (ts : List Traffic) → IsRising (λ (z : Traffic). z.site.0) (t ∷ ts) → IsRising (λ (z : Traffic). z.site.0) ts
channels_on t [] r = tt
channels_on t (u ∷ us) r = r.1

in_over : (site z : SiteId) (ts : List Traffic) → OverChannels site ts → In z (map (λ (t : Traffic). t.site) ts) → site.0 < z.0
in_over site z [] h i = absurd i
in_over site z (t ∷ ts) h (inl e) = subst (λ (s : SiteId). site.0 < s.0) e h.0
in_over site z (t ∷ ts) h (inr i) = in_over site z ts h.1 i

-- those that are to greater sites are to the others
others_in : (site : SiteId) (t : Traffic) (ts : List Traffic) (sends : List Sent) → site ≡ t.site → OverSends site sends → Each (λ (z : Sent). In z.site (map (λ (u : Traffic). u.site) (t ∷ ts))) sends
    → Each (λ (z : Sent). In z.site (map (λ (u : Traffic). u.site) ts)) sends
others_in site t ts [] e h among = tt
others_in site t ts (sent ∷ sends) e h among = (by_place among.0 h.0, others_in site t ts sends e h.1 among.1)
  where
    by_place : In sent.site (map (λ (u : Traffic). u.site) (t ∷ ts)) → site.0 < sent.site.0 → In sent.site (map (λ (u : Traffic). u.site) ts)
    by_place (inl same) less = (let both = ap (λ (s : SiteId). s.0) (e ∙ same) in absurd (omega (arith, both, less)))
    by_place (inr i) less = i

module _ (count : SiteId → ℕ) where
  pub sent_places : (channels : List Traffic) (sends : List Sent) → IsRising (λ (z : Traffic). z.site.0) channels → IsRising (λ (z : Sent). z.site.0) sends
      → Each (λ (t : Traffic). length t.to.items ≡ count t.site) channels → Each (λ (z : Sent). In z.site (map (λ (u : Traffic). u.site) channels)) sends
      → places_to sends channels ≡ map (λ (sent : Sent). let p : Place = record { site = sent.site; place = count sent.site } in p) sends
  sent_places [] [] cr sr counts among = refl
  sent_places [] (sent ∷ sends) cr sr counts among = absurd among.0
  sent_places (t ∷ ts) [] cr sr counts among = sent_places ts [] (channels_on t ts cr) tt counts.1 tt
  sent_places (t ∷ ts) (sent ∷ sends) cr sr counts among =
      by_test (same_site sent.site t.site) refl among.0
      (sent_places ts sends (channels_on t ts cr) (rises_on sent sends sr) counts.1) (sent_places ts (sent ∷ sends) (channels_on t ts cr) sr counts.1)
    where
      behind : (s : Sent) (zs : List Sent) → IsRising (λ (z : Sent). z.site.0) (s ∷ zs) → OverSends s.site zs
      behind s [] r = tt
      behind s (z ∷ zs) r = sends_over s.site z zs r.0 r.1

      by_test : (b : Bool) → same_site sent.site t.site ≡ b → In sent.site (map (λ (u : Traffic). u.site) (t ∷ ts))
          → (Each (λ (z : Sent). In z.site (map (λ (u : Traffic). u.site) ts)) sends → places_to sends ts ≡ map (λ (z : Sent). let p : Place = record { site = z.site; place = count z.site } in p) sends)
          → (Each (λ (z : Sent). In z.site (map (λ (u : Traffic). u.site) ts)) (sent ∷ sends) → places_to (sent ∷ sends) ts ≡ map (λ (z : Sent). let p : Place = record { site = z.site; place = count z.site } in p) (sent ∷ sends))
          → found (place_to (sent ∷ sends)) (t ∷ ts) ≡ map (λ (z : Sent). let p : Place = record { site = z.site; place = count z.site } in p) (sent ∷ sends)
      by_test true is i rest all =
          let same : sent.site ≡ t.site = same_site-equal sent.site t.site is in
          let mine : place_to (sent ∷ sends) t ≡ Some (record { site = t.site; place = length t.to.items }) =
          ap (λ (o : Option Sent). map_some (λ (m : ToSite). let p : Place = record { site = t.site; place = length t.to.items } in p) (map_some (λ (z : Sent). z.message) o)) (cond-true _ _ _ is) in
          let placed : (let p : Place = record { site = t.site; place = length t.to.items } in p) ≡ (let p : Place = record { site = sent.site; place = count sent.site } in p) =
          ap₂ (λ (s : SiteId) (n : ℕ). let p : Place = record { site = s; place = n } in p) (sym same) (counts.0 ∙ ap count (sym same)) in
          let others : OverChannels sent.site ts = subst (λ (s : SiteId). OverChannels s ts) (sym same) (channels_over t ts cr) in
          ap (λ (o : Option Place). with_some o (found (place_to (sent ∷ sends)) ts)) mine
          ∙ ap₂ (λ (p : Place) (ps : List Place). p ∷ ps) placed (skip_sent sent sends ts others ∙ rest (others_in sent.site t ts sends same (behind sent sends sr) among.1))
      by_test false is (inl e) rest all = (let yes : same_site sent.site t.site ≡ true = ap (λ (s : SiteId). same_site s t.site) (sym e) ∙ same_site-refl t.site in let no : true ≡ false = sym yes ∙ is in cc)
      by_test false is (inr i) rest all =
          let less = in_over t.site sent.site ts (channels_over t ts cr) i in
          let whole = sends_over t.site sent sends less sr in
          ap (λ (o : Option ToSite). with_some (map_some (λ (m : ToSite). let p : Place = record { site = t.site; place = length t.to.items } in p) o) (found (place_to (sent ∷ sends)) ts)) (none_to t.site (sent ∷ sends) whole)
          ∙ all (others_in t.site t ts (sent ∷ sends) refl whole among)
