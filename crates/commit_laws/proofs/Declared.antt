-- A declared site is one of the participants that the coordinator knows, with its own protocol.
use Rattle.std.proofs.Common.{◌≡◌, inl, inr, Bool, true, false, cond, nat_lt, ltb-true, arith, Some, List, [], ◌∷◌, refl, sym, ap, ◌∙◌, ◌<◌, not, eq-eqb, ltb-false}
use Rattle.std.proofs.lemmas.Bool.{or_parts, and_parts, not-true}
use Rattle.mdb_base.specs.declared.names.SiteId.{SiteId}
use Rattle.mdb_base.specs.Names.{same_site}
use Rattle.mdb_base.specs.Words.{Among, inserted, Each, some_of}
use Rattle.mdb_base.specs.Rising.{IsRising}
use Rattle.mdb_base.proofs.ForCallers.{each_inserted, same_site-equal, some_parts}
use Rattle.presumptions.specs.declared.Participant.{Participant}
use Rattle.presumptions.specs.declared.Protocol.{Protocol}
use Rattle.fed_rules.specs.declared.scenario.ItemLine.{ItemLine}
use Rattle.fed_rules.specs.declared.scenario.Scenario.{Scenario}
use Rattle.fed_rules.specs.declared.scenario.SiteLine.{SiteLine}
use Rattle.fed_rules.specs.Coord.{protocol_of}
use Rattle.fed_rules.specs.Scenarios.{home_in, home_of, items_of, protocols_in, protocols}
use Rattle.fed_rules.specs.SiteRecords.{Home}
use Rattle.fed_rules.specs.Plans.{one_site, IsScenario, all_differ}
use Rattle.fed_rules.proofs.ForCallers.{MembersRise}

abbrev pub by_site : Participant → Participant → Bool
by_site a b = nat_lt a.site.0 b.site.0

abbrev Is : SiteId → Protocol → Participant → Type 0
Is site protocol m = (m.site ≡ site) × (m.protocol ≡ protocol)

inserted-here : (P : Participant → Type 0) (x : Participant) (ys : List Participant) → P x → Among P (inserted by_site x ys)
inserted-here P x [] p = inl p
inserted-here P x (y ∷ ys) p = by_test (by_site y x) (inserted-here P x ys p) where
  by_test : (b : Bool) → Among P (inserted by_site x ys) → Among P (cond b (y ∷ inserted by_site x ys) (x ∷ y ∷ ys))
  by_test true i = inr i
  by_test false i = inl p

inserted-there : (P : Participant → Type 0) (x : Participant) (ys : List Participant) → Among P ys → Among P (inserted by_site x ys)
inserted-there P x [] m = absurd m
inserted-there P x (y ∷ ys) (inl p) = by_test (by_site y x) where
  by_test : (b : Bool) → Among P (cond b (y ∷ inserted by_site x ys) (x ∷ y ∷ ys))
  by_test true = inl p
  by_test false = inr (inl p)
inserted-there P x (y ∷ ys) (inr m) = by_test (by_site y x) (inserted-there P x ys m) where
  by_test : (b : Bool) → Among P (inserted by_site x ys) → Among P (cond b (y ∷ inserted by_site x ys) (x ∷ y ∷ ys))
  by_test true i = inr i
  by_test false i = inr (inr m)

-- the first one with a site is found behind an insertion of another, and the inserted one before all others of its site
found-other : (site : SiteId) (x : Participant) (ys : List Participant) → same_site x.site site ≡ false
    → protocol_of (inserted by_site x ys) site ≡ protocol_of ys site
found-other site x [] e = ap (λ b. cond b x.protocol (protocol_of [] site)) e
found-other site x (y ∷ ys) e = by_test (by_site y x) (found-other site x ys e) where
  by_test : (b : Bool) → protocol_of (inserted by_site x ys) site ≡ protocol_of ys site
      → protocol_of (cond b (y ∷ inserted by_site x ys) (x ∷ y ∷ ys)) site ≡ protocol_of (y ∷ ys) site
  by_test true k = ap (λ p. cond (same_site y.site site) y.protocol p) k
  by_test false k = ap (λ b. cond b x.protocol (protocol_of (y ∷ ys) site)) e

found-first : (site : SiteId) (x : Participant) (ys : List Participant) → same_site x.site site ≡ true
    → protocol_of (inserted by_site x ys) site ≡ x.protocol
found-first site x [] e = ap (λ b. cond b x.protocol (protocol_of [] site)) e
found-first site x (y ∷ ys) e = by_test (by_site y x) refl (found-first site x ys e) where
  differs : (b : Bool) → same_site y.site site ≡ b → by_site y x ≡ true → b ≡ false
  differs false q l = refl
  differs true q l =
      let same : y.site ≡ x.site = same_site-equal y.site site q ∙ sym (same_site-equal x.site site e) in
      let less : nat_lt x.site.0 x.site.0 ≡ true = ap (λ s. nat_lt s.0 x.site.0) (sym same) ∙ l in
      let number = x.site.0 in
      let strict = ltb-true number number less in
      let no : ⊥ = omega (arith, strict) in absurd no

  by_test : (b : Bool) → by_site y x ≡ b → protocol_of (inserted by_site x ys) site ≡ x.protocol
      → protocol_of (cond b (y ∷ inserted by_site x ys) (x ∷ y ∷ ys)) site ≡ x.protocol
  by_test true l k = ap (λ b. cond b y.protocol (protocol_of (inserted by_site x ys) site)) (differs (same_site y.site site) refl l) ∙ k
  by_test false l k = ap (λ b. cond b x.protocol (protocol_of (y ∷ ys) site)) e

declared-in : (lines : List SiteLine) (items : List ItemLine) (site : SiteId) (home : Home) → home_in lines items site ≡ Some home
    → Among (Is site home.protocol) (protocols_in lines) × (protocol_of (protocols_in lines) site ≡ home.protocol)
declared-in [] items site home e = cc
declared-in (line ∷ lines) items site home e = by_test (same_site line.site site) refl e (declared-in lines items site home) where
  here : Home
  here = record { site = line.site; engine = line.engine; protocol = line.protocol; items = items_of items site }

  member : Participant
  member = record { site = line.site; protocol = line.protocol }

  by_test : (b : Bool) → same_site line.site site ≡ b → cond b (Some here) (home_in lines items site) ≡ Some home
      → (home_in lines items site ≡ Some home → Among (Is site home.protocol) (protocols_in lines) ×
      (protocol_of (protocols_in lines) site ≡ home.protocol))
      → Among (Is site home.protocol) (inserted by_site member (protocols_in lines)) ×
      (protocol_of (inserted by_site member (protocols_in lines)) site ≡ home.protocol)
  by_test true q e k =
      let same : here ≡ home = some_parts e in (
        inserted-here (Is site home.protocol) member (protocols_in lines) (same_site-equal line.site site q, ap (λ h. h.protocol) same),
        found-first site member (protocols_in lines) q ∙ ap (λ h. h.protocol) same,
      )
  by_test false q e k =
      let r = k e in
      (inserted-there (Is site home.protocol) member (protocols_in lines) r.0, found-other site member (protocols_in lines) q ∙ r.1)

pub is-declared : (scenario : Scenario) (site : SiteId) (home : Home) → home_of scenario site ≡ Some home
    → Among (λ m. (m.site ≡ site) × (m.protocol ≡ home.protocol)) (protocols scenario) ×
    (protocol_of (protocols scenario) site ≡ home.protocol)
is-declared scenario site home e = declared-in scenario.sites scenario.items site home e

pub others : (line : SiteLine) (lines : List SiteLine) → some_of (one_site line) lines ≡ false → Each (λ (m : Participant). same_site line.site m.site ≡ false) (protocols_in lines)
others line [] e = tt
others line (l ∷ lines) e =
    let parts = or_parts (same_site line.site l.site) (some_of (one_site line) lines) e in
    each_inserted (λ (m : Participant). same_site line.site m.site ≡ false) by_site (record { site = l.site; protocol = l.protocol }) (protocols_in lines) parts.0 (others line lines parts.1)

pub rising_over : (p : Participant) (ps : List Participant) → IsRising (λ (m : Participant). m.site.0) (p ∷ ps) → Each (λ (m : Participant). p.site.0 < m.site.0) ps
rising_over p [] r = tt
rising_over p (q ∷ ps) r = (r.0, over q ps r.0 r.1)
  where
    over : (q : Participant) (qs : List Participant) → p.site.0 < q.site.0 → IsRising (λ (m : Participant). m.site.0) (q ∷ qs) → Each (λ (m : Participant). p.site.0 < m.site.0) qs
    over q [] h r = tt
    over q (z ∷ zs) h r = (let more = r.0 in let less : p.site.0 < z.site.0 = omega (arith, h, more) in (less, over z zs less r.1))

pub rising_on : (p : Participant) (ps : List Participant) → IsRising (λ (m : Participant). m.site.0) (p ∷ ps) → IsRising (λ (m : Participant). m.site.0) ps
rising_on p [] r = tt
rising_on p (q ∷ ps) r = r.1

pub rising_from : (p : Participant) (ps : List Participant) → Each (λ (m : Participant). p.site.0 < m.site.0) ps → IsRising (λ (m : Participant). m.site.0) ps → IsRising (λ (m : Participant). m.site.0) (p ∷ ps)
rising_from p [] h r = tt
rising_from p (q ∷ ps) h r = (h.0, r)

pub put_rises : (p : Participant) (ps : List Participant) → IsRising (λ (m : Participant). m.site.0) ps → Each (λ (m : Participant). same_site p.site m.site ≡ false) ps → IsRising (λ (m : Participant). m.site.0) (inserted by_site p ps)
put_rises p [] r apart = tt
put_rises p (q ∷ ps) r apart = by_test (nat_lt q.site.0 p.site.0) refl (put_rises p ps (rising_on q ps r) apart.1)
  where
    by_test : (b : Bool) → nat_lt q.site.0 p.site.0 ≡ b → IsRising (λ (m : Participant). m.site.0) (inserted by_site p ps) → IsRising (λ (m : Participant). m.site.0) (cond b (q ∷ inserted by_site p ps) (p ∷ q ∷ ps))
    by_test true e rest = rising_from q (inserted by_site p ps) (each_inserted (λ (m : Participant). q.site.0 < m.site.0) by_site p ps (ltb-true q.site.0 p.site.0 e) (rising_over q ps r)) rest
    by_test false e rest =
        (let most = ltb-false q.site.0 p.site.0 e in
        let other : p.site.0 ≡ q.site.0 → ⊥ = λ same. (let yes : same_site p.site q.site ≡ true = eq-eqb p.site.0 q.site.0 same in let no : true ≡ false = sym yes ∙ apart.0 in cc) in
        ((omega (arith, most, other)), r))

pub lines_rise : (lines : List SiteLine) → all_differ one_site lines ≡ true → IsRising (λ (m : Participant). m.site.0) (protocols_in lines)
lines_rise [] d = tt
lines_rise (line ∷ lines) d =
    let parts = and_parts (not (some_of (one_site line) lines)) (all_differ one_site lines) d in
    put_rises (record { site = line.site; protocol = line.protocol }) (protocols_in lines) (lines_rise lines parts.1) (others line lines (not-true _ parts.0))

-- the participants rise by their sites
pub members_rise : (scenario : Scenario) → IsScenario scenario → IsRising (λ (m : Participant). m.site.0) (protocols scenario)
members_rise scenario whole = lines_rise scenario.sites whole.sites.differ

pub protocols_rise : (lines : List SiteLine) → all_differ one_site lines ≡ true → MembersRise (protocols_in lines)
protocols_rise [] d = tt
protocols_rise (line ∷ lines) d =
    let parts = and_parts (not (some_of (one_site line) lines)) (all_differ one_site lines) d in
    put_rises (record { site = line.site; protocol = line.protocol }) (protocols_in lines) (protocols_rise lines parts.1) (others line lines (not-true _ parts.0))
