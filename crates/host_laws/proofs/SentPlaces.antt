-- The places of what the coordinator sends, by rising site.
use Rattle.std.proofs.Common.{◌≡◌, ℕ, ◌<◌, inl, inr, Bool, true, false, Option, Some, None, List, [], ◌∷◌, map, refl, sym, ap, ap₂, ◌∙◌, subst, arith, cond}
use Rattle.std.specs.Prelude.{option_to_list}
use Rattle.std.proofs.lemmas.Bool.{cond-true, cond-false, ne_eqb}
use Rattle.mdb_base.specs.declared.names.SiteId.{SiteId}
use Rattle.mdb_base.specs.Names.{same_site}
use Rattle.mdb_base.specs.Words.{Each, first_where, found, map_some, those, with_some}
use Rattle.mdb_base.proofs.ForCallers.{rising_rest, same_site-equal, same_site-refl}
use Rattle.presumptions.specs.declared.Participant.{Participant}
use Rattle.order_laws.specs.Chains.{In}
use Rattle.fed_rules.specs.declared.commands.Place.{Place}
use Rattle.fed_rules.specs.declared.messages.Sent.{Sent}
use Rattle.fed_rules.specs.declared.messages.ToSite.{ToSite}
use Rattle.fed_rules.specs.Site_of.{message_to}
use Rattle.fed_rules.proofs.ForCallers.{MembersRise, OverSends, none_to}
use Rattle.host_laws.proofs.SendsRise.{BySite}

abbrev OverMembers : SiteId → List Participant → Type 0
OverMembers site members = Each (λ (member : Participant). site.0 < member.site.0) members

sends_over : (site : SiteId) (sent : Sent) (sends : List Sent) → site.0 < sent.site.0 → BySite (sent ∷ sends) → OverSends site (sent ∷ sends)
sends_over site sent [] h r = (h, tt)
sends_over site sent (next ∷ sends) h r = (h, sends_over site next sends (let more = r.0 in omega (arith, h, more)) r.1)

sends_behind : (sent : Sent) (sends : List Sent) → BySite (sent ∷ sends) → OverSends sent.site sends
sends_behind sent [] r = tt
sends_behind sent (next ∷ sends) r = sends_over sent.site next sends r.0 r.1

members_behind : (member : Participant) (members : List Participant) → MembersRise (member ∷ members) → OverMembers member.site members
members_behind member [] r = tt
members_behind member (next ∷ members) r = over member.site next members r.0 r.1
  where
    over : (site : SiteId) (m : Participant) (ms : List Participant) → site.0 < m.site.0 → MembersRise (m ∷ ms) → OverMembers site (m ∷ ms)
    over site m [] h r = (h, tt)
    over site m (n ∷ ns) h r = (h, over site n ns (let more = r.0 in omega (arith, h, more)) r.1)

none_among : (site : SiteId) (sends : List Sent) → OverSends site sends → map (λ (z : Sent). z.message) (those (λ (z : Sent). same_site z.site site) sends) ≡ []
none_among site [] h = refl
none_among site (sent ∷ sends) h =
    let more = h.0 in
    let other : same_site sent.site site ≡ false = ne_eqb sent.site.0 site.0 (λ same. omega (arith, same, more)) in
    ap (λ (xs : List Sent). map (λ (z : Sent). z.message) xs) (cond-false _ _ _ other) ∙ none_among site sends h.1

-- among what is sent by rising site there is at most one message to a site
pub one_message : (site : SiteId) (sends : List Sent) → BySite sends → option_to_list (message_to site sends) ≡ map (λ (z : Sent). z.message) (those (λ (z : Sent). same_site z.site site) sends)
one_message site [] rises = refl
one_message site (sent ∷ sends) rises = by_test (same_site sent.site site) refl (one_message site sends (rising_rest (λ (z : Sent). z.site.0) sent sends rises))
  where
    by_test : (b : Bool) → same_site sent.site site ≡ b → option_to_list (message_to site sends) ≡ map (λ (z : Sent). z.message) (those (λ (z : Sent). same_site z.site site) sends)
        → option_to_list (map_some (λ (z : Sent). z.message) (cond b (Some sent) (first_where (λ (z : Sent). same_site z.site site) sends)))
        ≡ map (λ (z : Sent). z.message) (cond b (sent ∷ those (λ (z : Sent). same_site z.site site) sends) (those (λ (z : Sent). same_site z.site site) sends))
    by_test true is rest =
        ap (λ (ms : List ToSite). sent.message ∷ ms) (sym (none_among site sends (subst (λ (s : SiteId). OverSends s sends) (same_site-equal sent.site site is) (sends_behind sent sends rises))))
    by_test false is rest = rest

module _ (count : SiteId → ℕ) where
  abbrev placed : SiteId → Place
  placed site = record { site = site; place = count site }

  abbrev place_in : List Sent → Participant → Option Place
  place_in sends member = map_some (λ (message : ToSite). placed member.site) (message_to member.site sends)

  abbrev places_for : List Sent → List Place
  places_for sends = map (λ (sent : Sent). placed sent.site) sends

  -- what is sent to a lesser site plays no part
  skip_sent : (sent : Sent) (sends : List Sent) (members : List Participant) → OverMembers sent.site members → found (place_in (sent ∷ sends)) members ≡ found (place_in sends) members
  skip_sent sent sends [] h = refl
  skip_sent sent sends (m ∷ ms) h =
      let more = h.0 in
      let other : same_site sent.site m.site ≡ false = ne_eqb sent.site.0 m.site.0 (λ same. omega (arith, same, more)) in
      let same : place_in (sent ∷ sends) m ≡ place_in sends m = ap (λ (o : Option Sent). map_some (λ (t : ToSite). placed m.site) (map_some (λ (z : Sent). z.message) o)) (cond-false _ _ _ other) in
      ap₂ (λ (o : Option Place) (ps : List Place). with_some o ps) same (skip_sent sent sends ms h.1)

  in_over : (site z : SiteId) (members : List Participant) → OverMembers site members → In z (map (λ (m : Participant). m.site) members) → site.0 < z.0
  in_over site z [] h i = absurd i
  in_over site z (m ∷ ms) h (inl e) = subst (λ (s : SiteId). site.0 < s.0) e h.0
  in_over site z (m ∷ ms) h (inr i) = in_over site z ms h.1 i

  -- those that are to greater sites are to the other members
  others_in : (site : SiteId) (m : Participant) (ms : List Participant) (sends : List Sent) → site ≡ m.site → OverSends site sends → Each (λ (z : Sent). In z.site (map (λ (u : Participant). u.site) (m ∷ ms))) sends
      → Each (λ (z : Sent). In z.site (map (λ (u : Participant). u.site) ms)) sends
  others_in site m ms [] e h among = tt
  others_in site m ms (sent ∷ sends) e h among = (by_place among.0 h.0, others_in site m ms sends e h.1 among.1)
    where
      by_place : In sent.site (map (λ (u : Participant). u.site) (m ∷ ms)) → site.0 < sent.site.0 → In sent.site (map (λ (u : Participant). u.site) ms)
      by_place (inl same) less = (let both = ap (λ (s : SiteId). s.0) (e ∙ same) in absurd (omega (arith, both, less)))
      by_place (inr i) less = i

  -- the places by rising member are those of what is sent
  pub sent_places : (members : List Participant) (sends : List Sent) → MembersRise members → BySite sends → Each (λ (z : Sent). In z.site (map (λ (m : Participant). m.site) members)) sends
      → found (place_in sends) members ≡ places_for sends
  sent_places [] [] mr sr among = refl
  sent_places [] (sent ∷ sends) mr sr among = absurd among.0
  sent_places (m ∷ ms) [] mr sr among = sent_places ms [] (rising_rest (λ (p : Participant). p.site.0) m ms mr) tt tt
  sent_places (m ∷ ms) (sent ∷ sends) mr sr among =
      by_test (same_site sent.site m.site) refl among.0
      (sent_places ms sends (rising_rest (λ (p : Participant). p.site.0) m ms mr) (rising_rest (λ (z : Sent). z.site.0) sent sends sr))
      (sent_places ms (sent ∷ sends) (rising_rest (λ (p : Participant). p.site.0) m ms mr) sr)
    where
      by_test : (b : Bool) → same_site sent.site m.site ≡ b → In sent.site (map (λ (u : Participant). u.site) (m ∷ ms))
          → (Each (λ (z : Sent). In z.site (map (λ (u : Participant). u.site) ms)) sends → found (place_in sends) ms ≡ places_for sends)
          → (Each (λ (z : Sent). In z.site (map (λ (u : Participant). u.site) ms)) (sent ∷ sends) → found (place_in (sent ∷ sends)) ms ≡ places_for (sent ∷ sends))
          → found (place_in (sent ∷ sends)) (m ∷ ms) ≡ places_for (sent ∷ sends)
      by_test true is i rest all =
          let same : sent.site ≡ m.site = same_site-equal sent.site m.site is in
          let mine : place_in (sent ∷ sends) m ≡ Some (placed m.site) = ap (λ (o : Option Sent). map_some (λ (t : ToSite). placed m.site) (map_some (λ (z : Sent). z.message) o)) (cond-true _ _ _ is) in
          let others : OverMembers sent.site ms = subst (λ (s : SiteId). OverMembers s ms) (sym same) (members_behind m ms mr) in
          ap (λ (o : Option Place). with_some o (found (place_in (sent ∷ sends)) ms)) mine
          ∙ ap₂ (λ (p : Place) (ps : List Place). p ∷ ps) (ap placed (sym same)) (skip_sent sent sends ms others ∙ rest (others_in sent.site m ms sends same (sends_behind sent sends sr) among.1))
      by_test false is (inl e) rest all = (let yes : same_site sent.site m.site ≡ true = ap (λ (s : SiteId). same_site s m.site) (sym e) ∙ same_site-refl m.site in let no : true ≡ false = sym yes ∙ is in cc)
      by_test false is (inr i) rest all =
          let less = in_over m.site sent.site ms (members_behind m ms mr) i in
          let whole = sends_over m.site sent sends less sr in
          ap (λ (o : Option ToSite). with_some (map_some (λ (t : ToSite). placed m.site) o) (found (place_in (sent ∷ sends)) ms)) (none_to m.site (sent ∷ sends) whole)
          ∙ all (others_in m.site m ms (sent ∷ sends) refl whole among)

-- so they are by another count, where both agree at each site that something is sent to
pub places_same : (count other : SiteId → ℕ) (sends : List Sent) → Each (λ (z : Sent). count z.site ≡ other z.site) sends
    → map (λ (sent : Sent). let p : Place = record { site = sent.site; place = count sent.site } in p) sends ≡ map (λ (sent : Sent). let p : Place = record { site = sent.site; place = other sent.site } in p) sends
places_same count other [] h = refl
places_same count other (z ∷ zs) h = ap₂ (λ (n : ℕ) (ps : List Place). let p : Place = record { site = z.site; place = n } in p ∷ ps) h.0 (places_same count other zs h.1)

-- nothing sent has no place
pub no_places : (count : SiteId → ℕ) (members : List Participant) → found (place_in count []) members ≡ []
no_places count [] = refl
no_places count (m ∷ ms) = no_places count ms
