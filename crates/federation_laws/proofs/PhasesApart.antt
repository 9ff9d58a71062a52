-- Where tickets are taken conservatively, attempts that are in their phases at the same time have no site in common.
use Rattle.std.proofs.Common.{◌≡◌, ◌⊎◌, true, false, not, ◌&&◌, List, [], ◌∷◌, ◌++◌, map, inl, inr, refl, sym, ap, subst, ◌∙◌}
use Rattle.std.proofs.lemmas.Bool.{and_from, and_parts, not-true, or_cases}
use Rattle.mdb_base.specs.declared.names.SiteId.{SiteId}
use Rattle.mdb_base.specs.declared.names.Tid.{Tid}
use Rattle.mdb_base.specs.Names.{same_site, same_tid}
use Rattle.mdb_base.specs.Words.{Each, some_of, those}
use Rattle.mdb_base.proofs.ForCallers.{among_some, same_site-refl, same_tid-equal}
use Rattle.presumptions.specs.declared.Participant.{Participant}
use Rattle.order_laws.specs.Chains.{In}
use Rattle.order_laws.proofs.ForCallers.{bool_is, each_of_at, in_front, in_last, in_those, is_among, is_in_true, map_among, tells_tids}
use Rattle.fed_rules.specs.declared.commands.Command.{Command}
use Rattle.fed_rules.specs.declared.events.CoordEvent.{CoordEvent}
use Rattle.fed_rules.specs.declared.events.CoordEvent.TheVariants as Ev
use Rattle.fed_rules.specs.declared.messages.Sent.{Sent}
use Rattle.fed_rules.specs.declared.messages.ToSite.{ToSite}
use Rattle.fed_rules.specs.declared.messages.ToSite.TheVariants as To
use Rattle.fed_rules.specs.declared.scenario.Scenario.{Scenario}
use Rattle.fed_rules.specs.Coord.{may_take}
use Rattle.fed_rules.specs.CoordPast.{CoordHappening, CoordPast, is_open, is_about, begins, begun_tids, message_tid, participants_of, sites_of, is_take_of, has_sent, in_phase, oldest_first, others_in_phase}
use Rattle.fed_rules.specs.Plans.{IsScenario}
use Rattle.fed_rules.specs.Policies.{Policy, conservatively, policy_of, share_site}
use Rattle.fed_rules.specs.Scenarios.{policy, protocols}
use Rattle.fed_rules.specs.Story.{Happened, AtSite, AtCoordinator, Nowhere, coord_past, with_coordinator, story_of}
use Rattle.federation_laws.proofs.CoordEffects.{program-stays}
use Rattle.federation_laws.proofs.CoordHolds.{is_begun, begun-stays, fresh-begun, IsFresh}
use Rattle.coord_laws.proofs.ForCallers.{Begins, IsMade, undecided_from}
use Rattle.federation_laws.proofs.OnceGlobal.{OnceHolds, global-once}
use Rattle.federation_laws.proofs.Phases.{IsChecked, MayBeSent, MayTake, coord_checked}
use Rattle.federation_laws.proofs.StoryGlobals.{coord-made, fresh-line, story-holds}
use Rattle.federation_laws.proofs.Told.{IsLine, line_is}

-- a Take that a line sends
take_sent : (protocols : List Participant) (policy : Policy) (past : CoordPast) (event : CoordEvent) (g : Tid) (sends : List Sent) → Each (λ sent. MayBeSent protocols policy past event sent.message) sends → some_of (is_take_of g) sends ≡ true → MayTake protocols policy past event g
take_sent protocols policy past event g [] h e = cc
take_sent protocols policy past event g (sent ∷ sends) h e = elim (or_cases (is_take_of g sent) (some_of (is_take_of g) sends) e) [
  | inl now ↦ by_message sent.message h.0 now
  | inr later ↦ take_sent protocols policy past event g sends h.1 later
]
  where
    by_message : (m : ToSite) → MayBeSent protocols policy past event m → is_take_of g (record { site = sent.site; message = m }) ≡ true → MayTake protocols policy past event g
    by_message (To.Take tid epoch n) may q = subst (MayTake protocols policy past event) (same_tid-equal tid g q) may
    by_message (To.Work tid epoch n act) may q = cc
    by_message (To.Prepare tid epoch n) may q = cc
    by_message (To.Decide tid decision) may q = cc

-- an event is about one attempt
about_one : (event : CoordEvent) (a b : Tid) → is_about a event ≡ true → is_about b event ≡ true → a ≡ b
about_one (Ev.Go tid steps) a b p q = sym (same_tid-equal tid a p) ∙ same_tid-equal tid b q
about_one (Ev.Take site message) a b p q = sym (same_tid-equal (message_tid message) a p) ∙ same_tid-equal (message_tid message) b q
about_one (Ev.Again tid) a b p q = sym (same_tid-equal tid a p) ∙ same_tid-equal tid b q
about_one (Ev.Late tid) a b p q = sym (same_tid-equal tid a p) ∙ same_tid-equal tid b q
about_one (Ev.Fate tx) a b p q = cc
about_one (Ev.Halt cut) a b p q = cc
about_one (Ev.Trip calls cut) a b p q = cc
about_one Ev.Back a b p q = cc
about_one Ev.Check a b p q = cc

in_oldest : (t : Tid) (ts : List Tid) → In t ts → In t (oldest_first ts)
in_oldest t [] i = i
in_oldest t (u ∷ ts) (inl e) = subst (λ v. In v (oldest_first ts ++ u ∷ [])) e (in_last u (oldest_first ts))
in_oldest t (u ∷ ts) (inr i) = in_front t u (oldest_first ts) (in_oldest t ts i)

shares : (own other : List SiteId) (s : SiteId) → In s own → In s other → share_site own other ≡ true
shares own other s i j =
    among_some (λ site. some_of (same_site site) other) own
    (is_among (λ site. some_of (same_site site) other ≡ true) s own i
    (among_some (same_site s) other (is_among (λ site. same_site s site ≡ true) s other j (same_site-refl s))))

other_tid : (a b : Tid) → (a ≡ b → ⊥) → not (same_tid b a) ≡ true
other_tid a b apart = elim (bool_is (same_tid b a)) [
  | inl same ↦ absurd (apart (sym (same_tid-equal b a same)))
  | inr other ↦ ap not other
]

-- where an attempt may take tickets, an other one in its phase has no site of it
enters_apart : (protocols : List Participant) (past : CoordPast) (a b : Tid) → may_take protocols conservatively past a ≡ true → in_phase past b ≡ true → is_begun past b ≡ true → (a ≡ b → ⊥) → (s : SiteId) → In s (sites_of protocols past a) → In s (sites_of protocols past b) → ⊥
enters_apart protocols past a b may phase begun apart s i j =
    let listed = in_oldest b (begun_tids past) (is_in_true same_tid tells_tids (begun_tids past) b begun) in
    let test = and_from (not (same_tid b a)) (in_phase past b) (other_tid a b apart) phase in
    let among = in_those (λ other. not (same_tid other a) && in_phase past other) b (oldest_first (begun_tids past)) listed test in
    let beside = map_among (λ sites. sites ≡ sites_of protocols past b) (sites_of protocols past) (those (λ other. not (same_tid other a) && in_phase past other) (oldest_first (begun_tids past)))
    (is_among (λ other. sites_of protocols past other ≡ sites_of protocols past b) b (those (λ other. not (same_tid other a) && in_phase past other) (oldest_first (begun_tids past))) among refl) in
    let none = not-true (share_site (sites_of protocols past a) (sites_of protocols past b))
    (each_of_at (λ other. not (share_site (sites_of protocols past a) other)) (others_in_phase protocols past a) (sites_of protocols past b) may beside) in
    let some = shares (sites_of protocols past a) (sites_of protocols past b) s i j in
    let clash = sym some ∙ none in cc

-- whose Take was sent was begun, and two in their phases have no site in common
pub record Phased (protocols : List Participant) (past : CoordPast) : Type 0 where
  pub begun : (g : Tid) → has_sent (is_take_of g) past ≡ true → is_begun past g ≡ true
  pub apart : (a b : Tid) → in_phase past a ≡ true → in_phase past b ≡ true → (a ≡ b → ⊥) → (s : SiteId) → In s (sites_of protocols past a) → In s (sites_of protocols past b) → ⊥

module _ (protocols : List Participant) (past : CoordPast) (event : CoordEvent) (x : CoordHappening) (made : IsMade protocols past event x) (checked : IsChecked protocols conservatively past event x) (once : OnceHolds past) (fresh : (g : Tid) → IsFresh past g x) (h : Phased protocols past) where
  -- whose Take is sent was begun before
  take_begun : (g : Tid) → has_sent (is_take_of g) (x ∷ past) ≡ true → is_begun past g ≡ true
  take_begun g e = elim (or_cases (some_of (is_take_of g) x.sends) (has_sent (is_take_of g) past) e) [
    | inl now ↦ once.begun g (take_sent protocols conservatively past event g x.sends checked.takes now).opened
    | inr before ↦ h.begun g before
  ]

  not_begins : (g : Tid) → is_begun past g ≡ true → begins g x.answer ≡ false
  not_begins g b = elim (bool_is (begins g x.answer)) [
    | inl does ↦ absurd (fresh-begun past g x (fresh g) b does)
    | inr none ↦ none
  ]

  -- who is in its phase was so, or may enter it
  pub phase_from : (g : Tid) → in_phase (x ∷ past) g ≡ true → (begins g x.answer ≡ false) × ((in_phase past g ≡ true) ⊎ MayTake protocols conservatively past event g)
  phase_from g e =
      let (opened, sent) = and_parts (is_open (x ∷ past) g) (has_sent (is_take_of g) (x ∷ past)) e in
      let none = not_begins g (take_begun g sent) in (
        none,
        elim (or_cases (some_of (is_take_of g) x.sends) (has_sent (is_take_of g) past) sent) [
          | inl now ↦ inr (take_sent protocols conservatively past event g x.sends checked.takes now)
          | inr before ↦ elim (undecided_from past g x (subst (λ ev. Begins ev x.answer) (sym made.heard) made.begun) opened) [
            | inl does ↦ absurd (let clash = sym does ∙ none in cc)
            | inr was ↦ inl (and_from (is_open past g) (has_sent (is_take_of g) past) was.0 before)
          ]
        ],
      )

  same_sites : (g : Tid) → begins g x.answer ≡ false → sites_of protocols (x ∷ past) g ≡ sites_of protocols past g
  same_sites g e = ap (λ steps. map (λ (p : Participant). p.site) (participants_of protocols steps)) (program-stays past g x e)

  phase_begun : (g : Tid) → in_phase past g ≡ true → is_begun past g ≡ true
  phase_begun g e = once.begun g (and_parts (is_open past g) (has_sent (is_take_of g) past) e).0

  apart_from : (a b : Tid) → (a ≡ b → ⊥) → (s : SiteId) → In s (sites_of protocols past a) → In s (sites_of protocols past b) → (in_phase past a ≡ true) ⊎ MayTake protocols conservatively past event a → (in_phase past b ≡ true) ⊎ MayTake protocols conservatively past event b → ⊥
  apart_from a b other s i j (inl p) (inl q) = h.apart a b p q other s i j
  apart_from a b other s i j (inr p) (inl q) = enters_apart protocols past a b p.allowed q (phase_begun b q) other s i j
  apart_from a b other s i j (inl p) (inr q) = enters_apart protocols past b a q.allowed p (phase_begun a p) (λ e. other (sym e)) s j i
  apart_from a b other s i j (inr p) (inr q) = other (about_one event a b p.about q.about)

  phased_next : Phased protocols (x ∷ past)
  phased_next = record {
    begun = λ g e. begun-stays past g x (take_begun g e);
    apart = λ a b p q other s i j.
        let (na, pa) = phase_from a p in
        let (nb, pb) = phase_from b q in
        apart_from a b other s (subst (In s) (same_sites a na) i) (subst (In s) (same_sites b nb) j) pa pb;
  }

phased_happened : (scenario : Scenario) → IsScenario scenario → scenario.conservative ≡ true → (commands : List Command) (happened : Happened) → IsLine scenario (story_of scenario commands) happened → Phased (protocols scenario) (coord_past (story_of scenario commands)) → Phased (protocols scenario) (with_coordinator happened (coord_past (story_of scenario commands)))
phased_happened scenario good careful commands (AtSite s x) line h = h
phased_happened scenario good careful commands (Nowhere answer) line h = h
phased_happened scenario good careful commands (AtCoordinator x) line h =
    let story = story_of scenario commands in
    let made = coord-made scenario story x line in
    let checked = subst (λ (y : CoordHappening). IsChecked (protocols scenario) (policy scenario) (coord_past story) line.event y) (sym line.is_next) (coord_checked (protocols scenario) (policy scenario) (coord_past story) line.event) in
    phased_next (protocols scenario) (coord_past story) line.event x made
    (subst (λ p. IsChecked (protocols scenario) p (coord_past story) line.event x) (ap policy_of careful) checked)
    (global-once scenario commands) (λ g. fresh-line scenario story g x line made (story-holds scenario good commands g)) h

-- so it is in every story
pub story-phased : (scenario : Scenario) → IsScenario scenario → scenario.conservative ≡ true → (commands : List Command) → Phased (protocols scenario) (coord_past (story_of scenario commands))
story-phased scenario good careful [] = record { begun = λ g e. cc; apart = λ a b p q. cc }
story-phased scenario good careful (command ∷ commands) =
    phased_happened scenario good careful commands _ (line_is scenario (story_of scenario commands) command) (story-phased scenario good careful commands)
