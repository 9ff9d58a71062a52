-- The declared sites of a scenario, and their orders.
use Rattle.std.proofs.Common.{◌∙◌, ◌≡◌, ◌<◌, Bool, true, false, cond, nat_lt, ◌⊎◌, Option, Some, None, List, [], ◌∷◌, refl, sym, ap, subst, map, inl, inr, arith, leb-true}
use Rattle.std.proofs.lemmas.Bool.{and_parts}
use Rattle.mdb_base.specs.declared.names.SiteId.{SiteId}
use Rattle.mdb_base.specs.declared.names.Tid.{Tid}
use Rattle.mdb_base.specs.Names.{same_site}
use Rattle.mdb_base.specs.Words.{Among, each_of, inserted}
use Rattle.mdb_base.proofs.ForCallers.{same_site-equal, same_site-refl, some_parts}
use Rattle.presumptions.specs.declared.Participant.{Participant}
use Rattle.order_laws.specs.Chains.{In}
use Rattle.order_laws.proofs.ForCallers.{map_among}
use Rattle.fed_rules.specs.declared.scenario.ItemLine.{ItemLine}
use Rattle.fed_rules.specs.declared.scenario.Scenario.{Scenario}
use Rattle.fed_rules.specs.declared.scenario.SiteLine.{SiteLine}
use Rattle.fed_rules.specs.Plans.{AreSites, is_between}
use Rattle.fed_rules.specs.Orders.{is_committed, records_at, order_at, orders}
use Rattle.fed_rules.specs.Scenarios.{home_in, home_of, items_of, protocols_in, protocols, sites}
use Rattle.fed_rules.specs.SiteRecords.{Home, order_of}
use Rattle.fed_rules.specs.Story.{Story}

-- a declared site has the first rows of its number
home-items : (lines : List SiteLine) (items : List ItemLine) (s : SiteId) (h : Home) → home_in lines items s ≡ Some h → h.items ≡ items_of items s
home-items [] items s h e = cc
home-items (line ∷ lines) items s h e = by_test (same_site line.site s) e (home-items lines items s h)
  where
    by_test : (t : Bool) → cond t (Some (record { site = line.site; engine = line.engine; protocol = line.protocol; items = items_of items s })) (home_in lines items s) ≡ Some h
        → (home_in lines items s ≡ Some h → h.items ≡ items_of items s) → h.items ≡ items_of items s
    by_test true e k = (let p = some_parts e in sym (ap (λ (x : Home). x.items) p))
    by_test false e k = k e

pub home_is-items : (scenario : Scenario) (s : SiteId) (h : Home) → home_of scenario s ≡ Some h → h.items ≡ items_of scenario.items s
home_is-items scenario s h e = home-items scenario.sites scenario.items s h e

-- an item that is put into a list stands there, and so do those that stood there
pub put-in : {A : Type 0} (P : A → Type 0) (before : A → A → Bool) (x : A) (xs : List A) → P x → Among P (inserted before x xs)
put-in P before x [] p = inl p
put-in P before x (y ∷ ys) p = by_test (before y x) (put-in P before x ys p)
  where
    by_test : (t : Bool) → Among P (inserted before x ys) → Among P (cond t (y ∷ inserted before x ys) (x ∷ y ∷ ys))
    by_test true h = inr h
    by_test false h = inl p

pub put-kept : {A : Type 0} (P : A → Type 0) (before : A → A → Bool) (x : A) (xs : List A) → Among P xs → Among P (inserted before x xs)
put-kept P before x [] i = absurd i
put-kept P before x (y ∷ ys) i = by_test (before y x) i (put-kept P before x ys)
  where
    by_test : (t : Bool) → Among P (y ∷ ys) → (Among P ys → Among P (inserted before x ys)) → Among P (cond t (y ∷ inserted before x ys) (x ∷ y ∷ ys))
    by_test true (inl p) h = inl p
    by_test true (inr j) h = inr (h j)
    by_test false i h = inr i

-- a declared site is a participant
participant : (lines : List SiteLine) (items : List ItemLine) (s : SiteId) (h : Home) → home_in lines items s ≡ Some h → Among (λ p. p.site ≡ s) (protocols_in lines)
participant [] items s h e = cc
participant (line ∷ lines) items s h e = by_test (same_site line.site s) refl e (participant lines items s h)
  where
    by_test : (t : Bool) → same_site line.site s ≡ t → cond t (Some (record { site = line.site; engine = line.engine; protocol = line.protocol; items = items_of items s })) (home_in lines items s) ≡ Some h
        → (home_in lines items s ≡ Some h → Among (λ p. p.site ≡ s) (protocols_in lines)) → Among (λ p. p.site ≡ s) (protocols_in (line ∷ lines))
    by_test true q e k =
        put-in (λ (p : Participant). p.site ≡ s) (λ a b. nat_lt a.site.0 b.site.0) (record { site = line.site; protocol = line.protocol }) (protocols_in lines) (same_site-equal line.site s q)
    by_test false q e k =
        put-kept (λ (p : Participant). p.site ≡ s) (λ a b. nat_lt a.site.0 b.site.0) (record { site = line.site; protocol = line.protocol }) (protocols_in lines) (k e)

-- a declared site is one of the sites
pub declared-in : (scenario : Scenario) (s : SiteId) (h : Home) → home_of scenario s ≡ Some h → In s (sites scenario)
declared-in scenario s h e = map_among (λ x. x ≡ s) (λ (p : Participant). p.site) (protocols scenario) (participant scenario.sites scenario.items s h e)

-- and its order is one of the orders
pub order-in : (scenario : Scenario) (story : Story) (s : SiteId) (h : Home) → home_of scenario s ≡ Some h → In (order_at scenario story s) (orders scenario story)
order-in scenario story s h e = image (sites scenario) (declared-in scenario s h e)
  where
    image : (ss : List SiteId) → In s ss → In (order_at scenario story s) (map (order_at scenario story) ss)
    image [] i = absurd i
    image (z ∷ ss) (inl p) = inl (ap (order_at scenario story) p)
    image (z ∷ ss) (inr i) = inr (image ss i)

-- each order is that of a site
pub order-of : (scenario : Scenario) (story : Story) (ts : List Tid) → In ts (orders scenario story) → (s : SiteId) × (order_at scenario story s ≡ ts)
order-of scenario story ts i = image (sites scenario) i
  where
    image : (ss : List SiteId) → In ts (map (order_at scenario story) ss) → (s : SiteId) × (order_at scenario story s ≡ ts)
    image [] i = absurd i
    image (z ∷ ss) (inl p) = (z, p)
    image (z ∷ ss) (inr i) = image ss i

-- a site that isn't declared has no members
pub nobody-there : (scenario : Scenario) (story : Story) (s : SiteId) → home_of scenario s ≡ None → order_at scenario story s ≡ []
nobody-there scenario story s e = ap (λ h. order_of (is_committed story) (records_at h story)) e

-- where somebody is a member, the site is declared
pub member-declared : (scenario : Scenario) (story : Story) (s : SiteId) (tid : Tid) → In tid (order_at scenario story s) → (home : Home) × (home_of scenario s ≡ Some home)
member-declared scenario story s tid i = by_home (home_of scenario s) refl
  where
    by_home : (o : Option Home) → home_of scenario s ≡ o → (home : Home) × (home_of scenario s ≡ Some home)
    by_home None e = absurd (subst (λ ts. In tid ts) (nobody-there scenario story s e) i)
    by_home (Some home) e = (home, e)

among-inserted : {A : Type 0} (P : A → Type 0) (before : A → A → Bool) (x : A) (xs : List A) → Among P (inserted before x xs) → P x ⊎ Among P xs
among-inserted P before x [] (inl p) = inl p
among-inserted P before x [] (inr i) = absurd i
among-inserted P before x (y ∷ ys) i = by_test (before y x) i (among-inserted P before x ys)
  where
    by_test : (t : Bool) → Among P (cond t (y ∷ inserted before x ys) (x ∷ y ∷ ys)) → (Among P (inserted before x ys) → P x ⊎ Among P ys) → P x ⊎ Among P (y ∷ ys)
    by_test true (inl p) h = inr (inl p)
    by_test true (inr j) h = elim (h j) [ inl p ↦ inl p | inr k ↦ inr (inr k) ]
    by_test false (inl p) h = inl p
    by_test false (inr j) h = inr j

-- a participant is declared
pub undeclared : (lines : List SiteLine) (items : List ItemLine) (s : SiteId) → home_in lines items s ≡ None → Among (λ p. p.site ≡ s) (protocols_in lines) → ⊥
undeclared [] items s e i = i
undeclared (line ∷ lines) items s e i = by_test (same_site line.site s) refl e (undeclared lines items s) (among-inserted (λ (p : Participant). p.site ≡ s) (λ a b. nat_lt a.site.0 b.site.0) (record { site = line.site; protocol = line.protocol }) (protocols_in lines) i)
  where
    by_test : (t : Bool) → same_site line.site s ≡ t → cond t (Some (record { site = line.site; engine = line.engine; protocol = line.protocol; items = items_of items s })) (home_in lines items s) ≡ None
        → (home_in lines items s ≡ None → Among (λ p. p.site ≡ s) (protocols_in lines) → ⊥) → (line.site ≡ s) ⊎ Among (λ p. p.site ≡ s) (protocols_in lines) → ⊥
    by_test true q e h c = cc
    by_test false q e h (inl own) = (let yes : same_site line.site s ≡ true = subst (λ z. same_site line.site z ≡ true) own (same_site-refl line.site) in let clash = sym yes ∙ q in cc)
    by_test false q e h (inr j) = h e j

-- the number of a declared site isn't that of the coordinator
numbered : (lines : List SiteLine) (items : List ItemLine) (site : SiteId) (home : Home) → each_of (λ line. is_between 1 8 line.site.0) lines ≡ true → home_in lines items site ≡ Some home → 0 < site.0
numbered [] items site home r e = cc
numbered (line ∷ lines) items site home r e = by_test (same_site line.site site) refl e (numbered lines items site home)
  where
    parts : (is_between 1 8 line.site.0 ≡ true) × (each_of (λ l. is_between 1 8 l.site.0) lines ≡ true)
    parts = and_parts (is_between 1 8 line.site.0) (each_of (λ l. is_between 1 8 l.site.0) lines) r

    some : 0 < line.site.0
    some = let least = leb-true 1 line.site.0 (and_parts _ _ parts.0).0 in omega arith

    by_test : (b : Bool) → same_site line.site site ≡ b
        → cond b (Some (record { site = line.site; engine = line.engine; protocol = line.protocol; items = items_of items site })) (home_in lines items site) ≡ Some home
        → (each_of (λ l. is_between 1 8 l.site.0) lines ≡ true → home_in lines items site ≡ Some home → 0 < site.0) → 0 < site.0
    by_test true q e k = subst (λ s. 0 < s.0) (same_site-equal line.site site q) some
    by_test false q e k = k parts.1 e

pub number_some : (scenario : Scenario) (site : SiteId) (home : Home) → AreSites scenario.sites → home_of scenario site ≡ Some home → 0 < site.0
number_some scenario site home whole d = numbered scenario.sites scenario.items site home whole.range d
