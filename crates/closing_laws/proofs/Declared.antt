-- Declared sites and participants: each stands among the others once, with its home, under a number greater than the coordinator's.
use Rattle.std.proofs.Common.{◌≡◌, ℕ, zero, suc, ◌<◌, ◌⊎◌, ◌||◌, Bool, true, false, cond, not, nat_lt, Some, List, [], ◌∷◌, inl, inr, refl, sym, ap, subst, ◌∙◌, arith, eq-eqb, leb-true}
use Rattle.std.proofs.lemmas.Bool.{and_parts}
use Rattle.mdb_base.specs.declared.names.SiteId.{SiteId}
use Rattle.mdb_base.specs.Names.{same_site}
use Rattle.mdb_base.specs.Words.{Among, given, some_of, each_of, inserted}
use Rattle.mdb_base.proofs.ForCallers.{same_site-equal, same_site-refl}
use Rattle.presumptions.specs.declared.Participant.{Participant}
use Rattle.order_laws.specs.Chains.{In}
use Rattle.order_laws.proofs.ForCallers.{among_weaker, map_among}
use Rattle.fed_rules.specs.declared.answers.Answer.TheVariants as Say
use Rattle.fed_rules.specs.declared.events.CoordEvent.{CoordEvent}
use Rattle.fed_rules.specs.declared.events.SiteEvent.{SiteEvent}
use Rattle.fed_rules.specs.declared.scenario.ItemLine.{ItemLine}
use Rattle.fed_rules.specs.declared.scenario.Scenario.{Scenario}
use Rattle.fed_rules.specs.declared.scenario.SiteLine.{SiteLine}
use Rattle.fed_rules.specs.Plans.{AreSites, is_between, all_differ, one_site}
use Rattle.fed_rules.specs.Scenarios.{home_in, home_of, items_of, protocols_in, protocols, sites}
use Rattle.fed_rules.specs.SiteRecords.{Home}
use Rattle.fed_rules.specs.Story.{Story, Nowhere, at_site, on_site, on_actor}
use Rattle.federation_laws.proofs.ForCallers.{number_some}

-- an event of the actor with a declared site's number is that site's
pub actor_hears : (scenario : Scenario) (home : Home) (story : Story) (c : CoordEvent) (s : SiteEvent) → AreSites scenario.sites → home_of scenario home.site ≡ Some home
    → on_actor scenario story home.site.0 c s ≡ at_site home story s
unfolding on_actor on_site given
actor_hears scenario home story c s whole d = by_number home.site.0 refl
  where
    by_number : (n : ℕ) → home.site.0 ≡ n → on_actor scenario story n c s ≡ at_site home story s
    by_number zero e = (let some = number_some scenario home.site home whole d in absurd (omega (arith, some, e)))
    by_number (suc n) e =
        let here : home.site ≡ record { 0 = suc n } = same_site-equal home.site (record { 0 = suc n }) (eq-eqb home.site.0 (suc n) e) in
        ap (λ o. given o (λ h. at_site h story s) (Nowhere Say.None)) (ap (home_of scenario) (sym here) ∙ d)

-- no two lines are of one site, so each participant is a declared site with its protocol
pub record IsMemberHome (scenario : Scenario) (member : Participant) : Type 0 where
  pub home : Home
  pub here : home.site ≡ member.site
  pub declared : home_of scenario home.site ≡ Some home
  pub protocol : home.protocol ≡ member.protocol

record IsLineHome (lines : List SiteLine) (items : List ItemLine) (member : Participant) : Type 0 where
  home : Home
  found : home_in lines items member.site ≡ Some home
  here : home.site ≡ member.site
  protocol : home.protocol ≡ member.protocol

in_inserted : (P : Participant → Type 0) (before : Participant → Participant → Bool) (x : Participant) (ys : List Participant) → Among P (inserted before x ys) → P x ⊎ Among P ys
in_inserted P before x [] (inl p) = inl p
in_inserted P before x [] (inr i) = absurd i
in_inserted P before x (y ∷ ys) i = by_test (before y x) i (in_inserted P before x ys)
  where
    by_test : (b : Bool) → Among P (cond b (y ∷ inserted before x ys) (x ∷ y ∷ ys)) → (Among P (inserted before x ys) → P x ⊎ Among P ys) → P x ⊎ Among P (y ∷ ys)
    by_test true (inl p) k = inr (inl p)
    by_test true (inr j) k = elim (k j) [ inl p ↦ inl p | inr m ↦ inr (inr m) ]
    by_test false (inl p) k = inl p
    by_test false (inr j) k = inr j

-- a participant's site is that of a line
line_of_member : (lines : List SiteLine) (member : Participant) → In member (protocols_in lines) → (site : SiteId) → some_of (λ line. same_site line.site site) lines ≡ false → same_site member.site site ≡ false
line_of_member [] member i site none = absurd i
line_of_member (line ∷ lines) member i site none =
    elim (in_inserted (λ m. m ≡ member) (λ a b. nat_lt a.site.0 b.site.0) (record { site = line.site; protocol = line.protocol }) (protocols_in lines) i) [
      | inl e ↦ subst (λ m. same_site m.site site ≡ false) e (or_none (same_site line.site site) _ none).0
      | inr j ↦ line_of_member lines member j site (or_none (same_site line.site site) _ none).1
    ]
  where
    or_none : (a b : Bool) → (a || b) ≡ false → (a ≡ false) × (b ≡ false)
    or_none true b e = cc
    or_none false b e = (refl, e)

line_home : (lines : List SiteLine) (items : List ItemLine) (member : Participant) → all_differ one_site lines ≡ true → In member (protocols_in lines) → IsLineHome lines items member
line_home [] items member d i = absurd i
line_home (line ∷ lines) items member d i =
    elim (in_inserted (λ m. m ≡ member) (λ a b. nat_lt a.site.0 b.site.0) (record { site = line.site; protocol = line.protocol }) (protocols_in lines) i) [
      | inl e ↦ own e
      | inr j ↦ other j (line_home lines items member parts.1 j)
    ]
  where
    parts : (not (some_of (one_site line) lines) ≡ true) × (all_differ one_site lines ≡ true)
    parts = and_parts (not (some_of (one_site line) lines)) (all_differ one_site lines) d

    at_line : SiteId → Home
    at_line site = record { site = line.site; engine = line.engine; protocol = line.protocol; items = items_of items site }

    own : record { site = line.site; protocol = line.protocol } ≡ member → IsLineHome (line ∷ lines) items member
    own e = subst (IsLineHome (line ∷ lines) items) e (record {
      home = at_line line.site;
      found = ap (λ b. cond b (Some (at_line line.site)) (home_in lines items line.site)) (same_site-refl line.site);
      here = refl;
      protocol = refl;
    })

    other : In member (protocols_in lines) → IsLineHome lines items member → IsLineHome (line ∷ lines) items member
    other j h = record {
      home = h.home;
      found = ap (λ b. cond b (Some (at_line member.site)) (home_in lines items member.site)) (differs j) ∙ h.found;
      here = h.here;
      protocol = h.protocol;
    }
      where
        flip : (a b : SiteId) → same_site a b ≡ same_site b a
        flip a b = by_test (same_site a b) (same_site b a) refl refl
          where
            by_test : (c e : Bool) → same_site a b ≡ c → same_site b a ≡ e → c ≡ e
            by_test true true p q = refl
            by_test false false p q = refl
            by_test true false p q = (let t : same_site b a ≡ true = subst (λ s. same_site s a ≡ true) (same_site-equal a b p) (same_site-refl a) in cc)
            by_test false true p q = (let t : same_site a b ≡ true = subst (λ s. same_site s b ≡ true) (same_site-equal b a q) (same_site-refl b) in cc)

        same_tests : (ls : List SiteLine) → some_of (one_site line) ls ≡ false → some_of (λ l. same_site l.site line.site) ls ≡ false
        same_tests [] e = refl
        same_tests (l ∷ ls) e = by_test (same_site line.site l.site) refl e (same_tests ls)
          where
            by_test : (b : Bool) → same_site line.site l.site ≡ b → (b || some_of (one_site line) ls) ≡ false → (some_of (one_site line) ls ≡ false → some_of (λ k. same_site k.site line.site) ls ≡ false)
                → some_of (λ k. same_site k.site line.site) (l ∷ ls) ≡ false
            by_test true q e k = cc
            by_test false q e k = ap (λ b. b || some_of (λ k. same_site k.site line.site) ls) (flip l.site line.site ∙ q) ∙ k e

        not_false : (b : Bool) → not b ≡ true → b ≡ false
        not_false true e = cc
        not_false false e = refl

        differs : In member (protocols_in lines) → same_site line.site member.site ≡ false
        differs j = flip line.site member.site ∙ line_of_member lines member j line.site (same_tests lines (not_false _ parts.0))

pub member_home : (scenario : Scenario) (member : Participant) → AreSites scenario.sites → In member (protocols scenario) → IsMemberHome scenario member
member_home scenario member whole i =
    let h = line_home scenario.sites scenario.items member whole.differ i in
    record { home = h.home; here = h.here; declared = ap (home_of scenario) h.here ∙ h.found; protocol = h.protocol }
