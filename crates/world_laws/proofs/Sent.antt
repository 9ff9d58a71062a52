-- The messages of a story: they are about attempts that were begun, and of declared sites.
use Rattle.std.proofs.Common.{◌≡◌, Bool, true, false, cond, Option, Some, None, List, [], ◌∷◌, ◌++◌, map, refl, sym, ◌∙◌, ap, ap₂, subst, inl, inr, ◌⊎◌}
use Rattle.std.specs.Prelude.{nat_lt}
use Rattle.std.proofs.lemmas.List.{append-nil}
use Rattle.mdb_base.specs.declared.names.SiteId.{SiteId}
use Rattle.mdb_base.specs.declared.names.Tid.{Tid}
use Rattle.mdb_base.specs.Names.{same_site}
use Rattle.mdb_base.specs.Words.{Each, inserted, those}
use Rattle.mdb_base.proofs.ForCallers.{append_each, each_map, same_site-equal, same_site-refl, some_steps}
use Rattle.order_laws.specs.Chains.{In}
use Rattle.order_laws.proofs.ForCallers.{each_at, each_from}
use Rattle.presumptions.specs.declared.Participant.{Participant}
use Rattle.fed_rules.specs.declared.commands.Command.{Command}
use Rattle.fed_rules.specs.declared.events.CoordEvent.{CoordEvent}
use Rattle.fed_rules.specs.declared.events.CoordEvent.TheVariants as Coord_event
use Rattle.fed_rules.specs.declared.messages.Due.{Due}
use Rattle.fed_rules.specs.declared.messages.FromSite.{FromSite}
use Rattle.fed_rules.specs.declared.messages.Sent.{Sent}
use Rattle.fed_rules.specs.declared.messages.ToSite.{ToSite}
use Rattle.fed_rules.specs.declared.messages.ToSite.TheVariants as To
use Rattle.fed_rules.specs.declared.scenario.ItemLine.{ItemLine}
use Rattle.fed_rules.specs.declared.scenario.Scenario.{Scenario}
use Rattle.fed_rules.specs.declared.scenario.SiteLine.{SiteLine}
use Rattle.fed_rules.specs.Coord.{coord_line}
use Rattle.fed_rules.specs.CoordPast.{CoordHappening, CoordPast, begins, outstanding, or_steps, outstanding_at, program, program_in, participants, visits}
use Rattle.fed_rules.specs.Scenarios.{home_in, home_of, items_of, policy, protocols, protocols_in}
use Rattle.fed_rules.specs.SiteRecords.{Home}
use Rattle.fed_rules.specs.Story.{Story, Happened, AtSite, AtCoordinator, Nowhere, coord_past, happens, sends_to, sent_from, sent_to, story_of, with_coordinator}
use Rattle.fed_rules.specs.Site_of.{about}
use Rattle.coord_laws.proofs.ForCallers.{IsAsked, IsBegun, begun_in, coord_made, records_name}
use Rattle.commit_laws.proofs.ForCallers.{CoordCame, Linked, agreed, begun_global, declared_sends, linked, story_goes_on}
use Rattle.world_laws.specs.Messages.{MessagesAreOfBegunAttempts, MessagesAreOfDeclaredSites}
use Rattle.world_laws.proofs.Members.{ComesFrom, NamesAmong, SendsAmong, line_among, member_among, sites_in}

-- an attempt with a step was begun
pub visited_begun : (past : CoordPast) (tid : Tid) (site : SiteId) → visits site (program past tid) ≡ true → IsBegun past tid
visited_begun [] tid site e = cc
visited_begun (x ∷ past) tid site e = by_begins (begins tid x.answer) refl e (visited_begun past tid site)
  where
    by_begins : (b : Bool) → begins tid x.answer ≡ b → visits site (cond b (or_steps (program_in tid x.event) []) (program past tid)) ≡ true → (visits site (program past tid) ≡ true → IsBegun past tid) → IsBegun (x ∷ past) tid
    by_begins true is e k = inl is
    by_begins false is e k = inr (k e)

-- so was one of which something is outstanding
outstanding_begun : (past : CoordPast) (tid : Tid) (site : SiteId) (due : Due) → outstanding past tid site ≡ Some due → IsBegun past tid
outstanding_begun past tid site due e = by_visits (visits site (program past tid)) refl e
  where
    by_visits : (b : Bool) → visits site (program past tid) ≡ b → cond b (outstanding_at past tid site) None ≡ Some due → IsBegun past tid
    by_visits true is e = visited_begun past tid site is
    by_visits false is e = cc

-- an operation is about an attempt that was begun
abbrev OfBegun : CoordPast → ToSite → Type 0
OfBegun past (To.Work tid epoch n act) = IsBegun past tid
OfBegun past (To.Take tid epoch n) = IsBegun past tid
OfBegun past message = Unit {0}

asked_begun : (past : CoordPast) (site : SiteId) (message : ToSite) → IsAsked past site message → OfBegun past message
asked_begun past site (To.Work tid epoch n act) e = outstanding_begun past tid site _ e
asked_begun past site (To.Take tid epoch n) e = outstanding_begun past tid site _ e
asked_begun past site (To.Prepare tid epoch n) e = tt
asked_begun past site (To.Decide tid decision) e = tt

stays_begun : (x : CoordHappening) (past : CoordPast) (message : ToSite) → OfBegun past message → OfBegun (x ∷ past) message
stays_begun x past (To.Work tid epoch n act) b = inr b
stays_begun x past (To.Take tid epoch n) b = inr b
stays_begun x past (To.Prepare tid epoch n) b = tt
stays_begun x past (To.Decide tid decision) b = tt

-- of the messages to a site, the fact holds of each where it holds of each that is sent
to_site : (P : ToSite → Type 0) (site : SiteId) (sends : List Sent) → Each (λ (sent : Sent). P sent.message) sends
    → Each P (map (λ (sent : Sent). sent.message) (those (λ (sent : Sent). same_site sent.site site) sends))
to_site P site [] h = tt
to_site P site (sent ∷ sends) h = by_test (same_site sent.site site) (to_site P site sends h.1)
  where
    by_test : (b : Bool) → Each P (map (λ (s : Sent). s.message) (those (λ (s : Sent). same_site s.site site) sends))
        → Each P (map (λ (s : Sent). s.message) (cond b (sent ∷ those (λ (s : Sent). same_site s.site site) sends) (those (λ (s : Sent). same_site s.site site) sends)))
    by_test true rest = (h.0, rest)
    by_test false rest = rest

-- the messages of a story
pub operations_begun : (scenario : Scenario) (commands : List Command) (site : SiteId) → Each (OfBegun (coord_past (story_of scenario commands))) (sent_to site (story_of scenario commands))
operations_begun scenario [] site = tt
operations_begun scenario (command ∷ commands) site = by_line (happens scenario story command) (linked scenario story command) (operations_begun scenario commands site)
  where
    story : Story
    story = story_of scenario commands

    by_line : (happened : Happened) → Linked scenario story happened → Each (OfBegun (coord_past story)) (sent_to site story)
        → Each (OfBegun (with_coordinator happened (coord_past story))) (sent_to site story ++ sends_to site happened)
    by_line (Nowhere answer) l h = append_each _ (sent_to site story) [] h tt
    by_line (AtSite at x) l h = append_each _ (sent_to site story) [] h tt
    by_line (AtCoordinator x) l h =
        let made = coord_made (protocols scenario) (policy scenario) (coord_past story) l.next.0 in
        let asks : Each (λ (sent : Sent). IsAsked (x ∷ coord_past story) sent.site sent.message) x.sends =
        subst (λ (y : CoordHappening). Each (λ (sent : Sent). IsAsked (y ∷ coord_past story) sent.site sent.message) y.sends) (sym l.next.1) made.sends in
        append_each _ (sent_to site story) (sends_to site (AtCoordinator x))
        (each_map _ _ (λ m b. stays_begun x (coord_past story) m b) (sent_to site story) h)
        (to_site _ site x.sends (each_map _ _ (λ sent a. asked_begun (x ∷ coord_past story) sent.site sent.message a) x.sends asks))

pub messages_of_begun : MessagesAreOfBegunAttempts
messages_of_begun scenario commands home message declared i =
    let begun = by_message message i (each_at _ message (sent_to home.site (story_of scenario commands)) (operations_begun scenario commands home.site) i) in
    let global = begun_global scenario (about message) commands begun in
    record { begun = begun_in (coord_past (story_of scenario commands)) (about message) begun; global = some_steps _ global.0 global.1 }
  where
    by_message : (m : ToSite) → In m (sent_to home.site (story_of scenario commands)) → OfBegun (coord_past (story_of scenario commands)) m → IsBegun (coord_past (story_of scenario commands)) (about m)
    by_message (To.Work tid epoch n act) i b = b
    by_message (To.Take tid epoch n) i b = b
    by_message (To.Prepare tid epoch n) i b = ((agreed scenario home tid commands declared).preparing epoch n i).begun
    by_message (To.Decide tid decision) i b = ((agreed scenario home tid commands declared).telling decision i).begun

-- ---- declared sites

in_put : {A B : Type 0} (f : A → B) (before : A → A → Bool) (y : A) (xs : List A) (z : B) → In z (map f (inserted before y xs)) → (f y ≡ z) ⊎ In z (map f xs)
in_put f before y [] z i = i
in_put f before y (x ∷ xs) z i = by_test (before x y) i (in_put f before y xs z)
  where
    by_test : (b : Bool) → In z (map f (cond b (x ∷ inserted before y xs) (y ∷ x ∷ xs))) → (In z (map f (inserted before y xs)) → (f y ≡ z) ⊎ In z (map f xs)) → (f y ≡ z) ⊎ In z (map f (x ∷ xs))
    by_test true (inl e) k = inr (inl e)
    by_test true (inr i) k = elim (k i) [ inl e ↦ inl e | inr j ↦ inr (inr j) ]
    by_test false i k = i

put_in : {A B : Type 0} (f : A → B) (before : A → A → Bool) (y : A) (xs : List A) (z : B) → (f y ≡ z) ⊎ In z (map f xs) → In z (map f (inserted before y xs))
put_in f before y [] z i = i
put_in f before y (x ∷ xs) z i = by_test (before x y) i (put_in f before y xs z)
  where
    by_test : (b : Bool) → (f y ≡ z) ⊎ In z (map f (x ∷ xs)) → ((f y ≡ z) ⊎ In z (map f xs) → In z (map f (inserted before y xs))) → In z (map f (cond b (x ∷ inserted before y xs) (y ∷ x ∷ xs)))
    by_test true (inl e) k = inr (k (inl e))
    by_test true (inr (inl e)) k = inl e
    by_test true (inr (inr i)) k = inr (k (inr i))
    by_test false i k = i

-- a site without a home isn't among the declared ones
pub homeless : (lines : List SiteLine) (items : List ItemLine) (site : SiteId) → home_in lines items site ≡ None → In site (sites_in (protocols_in lines)) → ⊥
homeless [] items site e i = i
homeless (line ∷ lines) items site e i =
    by_test (same_site line.site site) refl e
    (in_put (λ (m : Participant). m.site) (λ (a b : Participant). nat_lt a.site.0 b.site.0) (record { site = line.site; protocol = line.protocol }) (protocols_in lines) site i) (homeless lines items site)
  where
    here : Home
    here = record { site = line.site; engine = line.engine; protocol = line.protocol; items = items_of items site }

    by_test : (b : Bool) → same_site line.site site ≡ b → cond b (Some here) (home_in lines items site) ≡ None → (line.site ≡ site) ⊎ In site (sites_in (protocols_in lines))
        → (home_in lines items site ≡ None → In site (sites_in (protocols_in lines)) → ⊥) → ⊥
    by_test true is e i k = cc
    by_test false is e (inl same) k = (let self : same_site line.site site ≡ true = ap (λ (s : SiteId). same_site line.site s) (sym same) ∙ same_site-refl line.site in let no : true ≡ false = sym self ∙ is in cc)
    by_test false is e (inr i) k = k e i

-- and one with a home is
pub homed : (lines : List SiteLine) (items : List ItemLine) (site : SiteId) (home : Home) → home_in lines items site ≡ Some home → In site (sites_in (protocols_in lines))
homed [] items site home e = cc
homed (line ∷ lines) items site home e =
    put_in (λ (m : Participant). m.site) (λ (a b : Participant). nat_lt a.site.0 b.site.0) (record { site = line.site; protocol = line.protocol }) (protocols_in lines) site
    (by_test (same_site line.site site) refl e (homed lines items site home))
  where
    here : Home
    here = record { site = line.site; engine = line.engine; protocol = line.protocol; items = items_of items site }

    by_test : (b : Bool) → same_site line.site site ≡ b → cond b (Some here) (home_in lines items site) ≡ Some home
        → (home_in lines items site ≡ Some home → In site (sites_in (protocols_in lines))) → (line.site ≡ site) ⊎ In site (sites_in (protocols_in lines))
    by_test true is e k = inl (same_site-equal line.site site is)
    by_test false is e k = inr (k e)

-- what is sent to a site that isn't among these
none_to : (ps : List Participant) (site : SiteId) (sends : List Sent) → Each (λ (sent : Sent). In sent.site (sites_in ps)) sends → (In site (sites_in ps) → ⊥)
    → map (λ (sent : Sent). sent.message) (those (λ (sent : Sent). same_site sent.site site) sends) ≡ []
none_to ps site [] h never = refl
none_to ps site (sent ∷ sends) h never = by_test (same_site sent.site site) refl (none_to ps site sends h.1 never)
  where
    by_test : (b : Bool) → same_site sent.site site ≡ b → map (λ (s : Sent). s.message) (those (λ (s : Sent). same_site s.site site) sends) ≡ []
        → map (λ (s : Sent). s.message) (cond b (sent ∷ those (λ (s : Sent). same_site s.site site) sends) (those (λ (s : Sent). same_site s.site site) sends)) ≡ []
    by_test true is rest = absurd (never (subst (λ (s : SiteId). In s (sites_in ps)) (same_site-equal sent.site site is) h.0))
    by_test false is rest = rest

-- the records of a story name participants of its table
names_among : (scenario : Scenario) (commands : List Command) → NamesAmong (protocols scenario) (coord_past (story_of scenario commands))
names_among scenario commands tid ms e =
    let past = coord_past (story_of scenario commands) in
    let is = records_name (protocols scenario) (policy scenario) past (story_goes_on scenario commands) tid ms e in
    subst (λ (xs : List Participant). Each (λ (m : Participant). In m.site (sites_in (protocols scenario))) xs) (sym is)
    (each_from _ (participants (protocols scenario) past tid) (λ m i. member_among (protocols scenario) past tid m i))

-- a line of the coordinator sends to declared sites
pub coordinator_sends : (scenario : Scenario) (commands : List Command) (event : CoordEvent) → CoordCame scenario (story_of scenario commands) event
    → SendsAmong (protocols scenario) (coord_line (protocols scenario) (policy scenario) (coord_past (story_of scenario commands)) event)
coordinator_sends scenario commands event came =
    line_among (protocols scenario) (policy scenario) (coord_past (story_of scenario commands)) event (by_event event came) (names_among scenario commands)
  where
    by_home : (site : SiteId) (message : FromSite) (o : Option Home) → home_of scenario site ≡ o → In message (sent_from site (story_of scenario commands)) → In site (sites_in (protocols scenario))
    by_home site message None is i = absurd (subst (λ (ms : List FromSite). In message ms) (declared_sends scenario commands site is) i)
    by_home site message (Some home) is i = homed scenario.sites scenario.items site home is

    by_event : (event : CoordEvent) → CoordCame scenario (story_of scenario commands) event → ComesFrom (protocols scenario) event
    by_event (Coord_event.Take site message) came = by_home site message (home_of scenario site) refl came
    by_event (Coord_event.Go tid steps) came = tt
    by_event (Coord_event.Again tid) came = tt
    by_event (Coord_event.Late tid) came = tt
    by_event (Coord_event.Fate tx) came = tt
    by_event (Coord_event.Halt cut) came = tt
    by_event (Coord_event.Trip calls cut) came = tt
    by_event Coord_event.Back came = tt
    by_event Coord_event.Check came = tt

pub declared_hear : (scenario : Scenario) (commands : List Command) (site : SiteId) → home_of scenario site ≡ None → sent_to site (story_of scenario commands) ≡ []
declared_hear scenario [] site none = refl
declared_hear scenario (command ∷ commands) site none = by_line (happens scenario story command) (linked scenario story command) (declared_hear scenario commands site none)
  where
    story : Story
    story = story_of scenario commands

    by_line : (happened : Happened) → Linked scenario story happened → sent_to site story ≡ [] → sent_to site story ++ sends_to site happened ≡ []
    by_line (Nowhere answer) l e = append-nil (sent_to site story) ∙ e
    by_line (AtSite at x) l e = append-nil (sent_to site story) ∙ e
    by_line (AtCoordinator x) l e =
        let among : SendsAmong (protocols scenario) x = subst (λ (y : CoordHappening). SendsAmong (protocols scenario) y) (sym l.next.1) (coordinator_sends scenario commands l.next.0 l.next.2) in
        ap₂ (λ (xs ys : List ToSite). xs ++ ys) e (none_to (protocols scenario) site x.sends among.sends (homeless scenario.sites scenario.items site none))

pub messages_declared : MessagesAreOfDeclaredSites
messages_declared scenario commands site none = (declared_hear scenario commands site none, declared_sends scenario commands site none)
