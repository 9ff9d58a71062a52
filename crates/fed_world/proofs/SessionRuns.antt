-- What holds in every session, whether it begins with empty disks or goes on from those that it finds: how long the pasts of its sites get, who sends to whom, and
-- about what.
use Rattle.std.proofs.Common.{◌≡◌, ◌≤◌, ◌+◌, Bool, true, false, cond, Option, Some, None, List, [], ◌∷◌, ◌++◌, IsSome, length, map, inl, inr, refl, sym, ap, ap₂, ◌∙◌, subst, arith}
use Rattle.std.proofs.lemmas.List.{append-nil}
use Rattle.mdb_base.specs.declared.names.SiteId.{SiteId}
use Rattle.mdb_base.specs.Names.{same_site}
use Rattle.mdb_base.specs.Words.{Each, map_some, those}
use Rattle.mdb_base.proofs.ForCallers.{same_site-equal}
use Rattle.order_laws.specs.Chains.{In}
use Rattle.order_laws.proofs.ForCallers.{each_at, each_from}
use Rattle.field_bytes.specs.Fields.{IsTid}
use Rattle.presumptions.specs.declared.Participant.{Participant}
use Rattle.fed_rules.specs.declared.commands.Command.{Command}
use Rattle.fed_rules.specs.declared.events.CoordEvent.{CoordEvent}
use Rattle.fed_rules.specs.declared.events.CoordEvent.TheVariants as Coord_event
use Rattle.fed_rules.specs.declared.messages.FromSite.{FromSite}
use Rattle.fed_rules.specs.declared.messages.Sent.{Sent}
use Rattle.fed_rules.specs.declared.messages.ToSite.{ToSite}
use Rattle.fed_rules.specs.declared.records.CoordRecord.{CoordRecord}
use Rattle.fed_rules.specs.declared.scenario.Scenario.{Scenario}
use Rattle.fed_rules.specs.declared.scenario.TxLine.{TxLine}
use Rattle.fed_rules.specs.CoordPast.{CoordHappening, CoordPast, begun_tids}
use Rattle.fed_rules.specs.Found.{Journal}
use Rattle.fed_rules.specs.Reopened.{opened_coordinator}
use Rattle.fed_rules.specs.Resumed.{going_on}
use Rattle.fed_rules.specs.Scenarios.{global_line, home_of, policy, protocols, transaction}
use Rattle.fed_rules.specs.Sessions.{Session, fresh}
use Rattle.fed_rules.specs.SiteRecords.{Home}
use Rattle.fed_rules.specs.Site_of.{about}
use Rattle.fed_rules.specs.Story.{AtCoordinator, AtSite, Happened, Nowhere, Story, coord_past, first_story, found_coordinator, found_sites, happens, past_of, sends_from, sends_to, sent_from, sent_to, story_in, untold, with_site}
use Rattle.coord_laws.proofs.ForCallers.{records_name}
use Rattle.commit_laws.proofs.ForCallers.{CoordCame, CoordinatorFits, IsNext, fresh_fits, linked, session_goes_on}
use Rattle.local_dbms.specs.Stands.{program_at}
use Rattle.found_laws.proofs.ForCallers.{fits, session_begins}
use Rattle.world_laws.proofs.ForCallers.{ComesFrom, NamesAmong, SendsAmong, homed, homeless, line_among, member_among, messages_of_begun, sites_in}
use Rattle.fed_world.specs.Beginnings.{Begins, made_up, programs_at}
use Rattle.fed_world.proofs.FoundMessages.{may_be_told}

-- ---- how long the pasts get

-- the past of a site is a part of its story
past_part : (site : SiteId) (story : Story) → length (past_of site story) ≤ length story
past_part site [] = omega arith
past_part site (told ∷ story) = by_happened told.happened (past_part site story)
  where
    by_happened : (h : Happened) → length (past_of site story) ≤ length story → length (with_site site h (past_of site story)) ≤ length (told ∷ story)
    by_happened (AtCoordinator x) less = omega (arith, less)
    by_happened (Nowhere answer) less = omega (arith, less)
    by_happened (AtSite at x) less = by_test (same_site at site)
      where
        by_test : (t : Bool) → length (cond t (x ∷ past_of site story) (past_of site story)) ≤ length (told ∷ story)
        by_test true = omega (arith, less)
        by_test false = omega (arith, less)

-- the lines of the coordinator are none of it
lines_apart : (site : SiteId) (past : CoordPast) (story : Story) → past_of site (map (λ x. untold (AtCoordinator x)) past ++ story) ≡ past_of site story
lines_apart site [] story = refl
lines_apart site (x ∷ past) story = lines_apart site past story

coordinator_apart : (site : SiteId) (members : List Participant) (o : Option (Journal CoordRecord)) (story : Story) → past_of site (found_coordinator members o story) ≡ past_of site story
coordinator_apart site members None story = refl
coordinator_apart site members (Some journal) story = lines_apart site (opened_coordinator members journal) story

first_short : (session : Session) (site : SiteId) → length (past_of site (first_story session)) ≤ made_up session
first_short session site =
    subst (λ past. length past ≤ made_up session) (sym (coordinator_apart site (protocols session.plan) session.found.coordinator (found_sites session.found.sites)))
    (past_part site (found_sites session.found.sites))

-- so the past of a site has at most so many lines
pub past_short : (session : Session) (commands : List Command) (site : SiteId) → length (past_of site (story_in session commands)) ≤ made_up session + length commands
past_short session [] site = let first = first_short session site in omega (arith, first)
past_short session (command ∷ commands) site = by_line (happens session.plan (story_in session commands) command) (past_short session commands site)
  where
    by_line : (h : Happened) → length (past_of site (story_in session commands)) ≤ made_up session + length commands
        → length (with_site site h (past_of site (story_in session commands))) ≤ made_up session + length (command ∷ commands)
    by_line (AtCoordinator x) less = omega (arith, less)
    by_line (Nowhere answer) less = omega (arith, less)
    by_line (AtSite at x) less = by_test (same_site at site)
      where
        by_test : (t : Bool) → length (cond t (x ∷ past_of site (story_in session commands)) (past_of site (story_in session commands))) ≤ made_up session + length (command ∷ commands)
        by_test true = omega (arith, less)
        by_test false = omega (arith, less)

-- ---- who sends

first_silent : (session : Session) → Begins session → (site : SiteId) → sent_from site (first_story session) ≡ []
first_silent session (inl is) site = ap (λ s. sent_from site (first_story s)) is
first_silent session (inr goes) site =
    let P : Session → Type 0 = λ s. sent_from site (first_story s) ≡ [] in
    subst P (sym goes.is) (session_begins (going_on session.found) goes.usable.coordinator goes.usable.is site).from

-- a site that isn't declared sends nothing
pub none_sent : (session : Session) → Begins session → (commands : List Command) (site : SiteId) → home_of session.plan site ≡ None → sent_from site (story_in session commands) ≡ []
none_sent session begins [] site none = first_silent session begins site
none_sent session begins (command ∷ commands) site none =
    by_line (happens session.plan (story_in session commands) command) (linked session.plan (story_in session commands) command).next (none_sent session begins commands site none)
  where
    by_line : (happened : Happened) → IsNext session.plan (story_in session commands) happened → sent_from site (story_in session commands) ≡ []
        → sent_from site (story_in session commands) ++ sends_from site happened ≡ []
    by_line (Nowhere answer) next e = append-nil (sent_from site (story_in session commands)) ∙ e
    by_line (AtCoordinator x) next e = append-nil (sent_from site (story_in session commands)) ∙ e
    by_line (AtSite at x) next e = by_test (same_site at site) refl
      where
        by_test : (b : Bool) → same_site at site ≡ b → sent_from site (story_in session commands) ++ cond b x.sends [] ≡ []
        by_test true is = (let same = same_site-equal at site is in let clash = sym none ∙ ap (home_of session.plan) (sym same) ∙ next.1 in cc)
        by_test false is = append-nil (sent_from site (story_in session commands)) ∙ e

-- ---- to whom the coordinator sends

coordinator_fits : (session : Session) → Begins session → CoordinatorFits session
coordinator_fits session (inl is) = subst (λ (s : Session). CoordinatorFits s) (sym is) (fresh_fits session.plan)
coordinator_fits session (inr goes) = subst (λ (s : Session). CoordinatorFits s) (sym goes.is) (fits session.found goes.usable)

-- a line of the coordinator sends to declared sites
pub coordinator_among : (session : Session) (commands : List Command) → Begins session → (command : Command) (x : CoordHappening)
    → happens session.plan (story_in session commands) command ≡ AtCoordinator x → SendsAmong (protocols session.plan) x
coordinator_among session commands begins command x is =
    by_next (subst (λ (h : Happened). IsNext session.plan (story_in session commands) h) is (linked session.plan (story_in session commands) command).next)
  where
    story : Story
    story = story_in session commands

    members : List Participant
    members = protocols session.plan

    names : NamesAmong members (coord_past story)
    names tid ms e =
        let named = records_name members (policy session.plan) (coord_past story) (session_goes_on session (coordinator_fits session begins) commands) tid ms e in
        subst (λ (xs : List Participant). Each (λ (m : Participant). In m.site (sites_in members)) xs) (sym named)
        (each_from _ _ (λ m i. member_among members (coord_past story) tid m i))

    by_home : (site : SiteId) (message : FromSite) (o : Option Home) → home_of session.plan site ≡ o → In message (sent_from site story) → In site (sites_in members)
    by_home site message None none i = absurd (subst (λ (ms : List FromSite). In message ms) (none_sent session begins commands site none) i)
    by_home site message (Some home) here i = homed session.plan.sites session.plan.items site home here

    by_event : (event : CoordEvent) → CoordCame session.plan story event → ComesFrom members event
    by_event (Coord_event.Take site message) came = by_home site message (home_of session.plan site) refl came
    by_event (Coord_event.Go tid steps) came = tt
    by_event (Coord_event.Again tid) came = tt
    by_event (Coord_event.Late tid) came = tt
    by_event (Coord_event.Fate tx) came = tt
    by_event (Coord_event.Halt cut) came = tt
    by_event (Coord_event.Trip calls cut) came = tt
    by_event Coord_event.Back came = tt
    by_event Coord_event.Check came = tt

    by_next : IsNext session.plan story (AtCoordinator x) → SendsAmong members x
    by_next (event, line, came) =
        subst (λ (y : CoordHappening). SendsAmong members y) (sym line) (line_among members (policy session.plan) (coord_past story) event (by_event event came) names)

-- what is sent to a site that isn't one of these
none_to : (members : List Participant) (site : SiteId) (sends : List Sent) → Each (λ (sent : Sent). In sent.site (sites_in members)) sends → (In site (sites_in members) → ⊥)
    → map (λ (sent : Sent). sent.message) (those (λ (sent : Sent). same_site sent.site site) sends) ≡ []
none_to members site [] h never = refl
none_to members site (sent ∷ sends) h never = by_test (same_site sent.site site) refl (none_to members site sends h.1 never)
  where
    by_test : (b : Bool) → same_site sent.site site ≡ b → map (λ (s : Sent). s.message) (those (λ (s : Sent). same_site s.site site) sends) ≡ []
        → map (λ (s : Sent). s.message) (cond b (sent ∷ those (λ (s : Sent). same_site s.site site) sends) (those (λ (s : Sent). same_site s.site site) sends)) ≡ []
    by_test true is rest = absurd (never (subst (λ (s : SiteId). In s (sites_in members)) (same_site-equal sent.site site is) h.0))
    by_test false is rest = rest

first_unheard : (session : Session) → Begins session → (site : SiteId) → sent_to site (first_story session) ≡ []
first_unheard session (inl is) site = ap (λ s. sent_to site (first_story s)) is
first_unheard session (inr goes) site =
    let P : Session → Type 0 = λ s. sent_to site (first_story s) ≡ [] in
    subst P (sym goes.is) (session_begins (going_on session.found) goes.usable.coordinator goes.usable.is site).to

-- a site that isn't declared is sent nothing
pub none_heard : (session : Session) → Begins session → (commands : List Command) (site : SiteId) → home_of session.plan site ≡ None → sent_to site (story_in session commands) ≡ []
none_heard session begins [] site none = first_unheard session begins site
none_heard session begins (command ∷ commands) site none =
    by_line (happens session.plan (story_in session commands) command) (coordinator_among session commands begins command) (none_heard session begins commands site none)
  where
    by_line : (happened : Happened) → ((x : CoordHappening) → happened ≡ AtCoordinator x → SendsAmong (protocols session.plan) x) → sent_to site (story_in session commands) ≡ []
        → sent_to site (story_in session commands) ++ sends_to site happened ≡ []
    by_line (Nowhere answer) among e = append-nil (sent_to site (story_in session commands)) ∙ e
    by_line (AtSite at x) among e = append-nil (sent_to site (story_in session commands)) ∙ e
    by_line (AtCoordinator x) among e =
        ap₂ (λ (xs ys : List ToSite). xs ++ ys) e
        (none_to (protocols session.plan) site x.sends (among x refl).sends (homeless session.plan.sites session.plan.items site none))

-- ---- about what

-- a message that may be given: its transaction is none of the site's own, and its attempt lies in its range
pub record IsForeign (session : Session) (site : SiteId) (message : ToSite) : Type 0 where
  pub foreign : programs_at session site (about message).tx ≡ None
  pub in_range : IsTid (about message)

abbrev Tells : Session → Type 0
Tells session =
    (commands : List Command) (home : Home) → home_of session.plan home.site ≡ Some home → Each IsTid (begun_tids (coord_past (story_in session commands)))
    → (message : ToSite) → In message (sent_to home.site (story_in session commands)) → IsForeign session home.site message

-- a global transaction is none of a site's own
not_own : (site : SiteId) (o : Option TxLine) → IsSome (map_some (λ (l : TxLine). l.program) (global_line o)) → program_at site o ≡ None
not_own site None h = refl
not_own site (Some line) h = by_home line.home h
  where
    by_home : (o : Option SiteId) → IsSome (map_some (λ (l : TxLine). l.program) (global_line (Some (record line { home = o })))) → program_at site (Some (record line { home = o })) ≡ None
    by_home None h = refl
    by_home (Some home) h = cc

fresh_tells : (scenario : Scenario) → Tells (fresh scenario)
fresh_tells scenario commands home declared begun message sent =
    let law = messages_of_begun scenario commands home message declared sent in
    record {
      foreign = not_own home.site (transaction scenario (about message).tx) law.global;
      in_range = each_at IsTid (about message) (begun_tids (coord_past (story_in (fresh scenario) commands))) begun law.begun;
    }

-- each message of the coordinator may be given to its site
pub messages_foreign : (session : Session) → Begins session → Tells session
messages_foreign session (inl is) = subst (λ (s : Session). Tells s) (sym is) (fresh_tells session.plan)
messages_foreign session (inr goes) =
    subst (λ (s : Session). Tells s) (sym goes.is) (λ commands home declared begun message sent.
    (let may = may_be_told session.found goes.usable goes.format goes.records home declared commands begun message sent in record { foreign = may.0; in_range = may.1 }))
