-- The fifth step: the decision of each known attempt is sent again to those whose acknowledgement is missing, and each message is delivered.
use Rattle.std.proofs.Common.{◌≡◌, Bool, true, false, cond, not, ◌&&◌, ◌||◌, Option, Some, None, List, [], ◌∷◌, ◌++◌, map, length, inl, inr, refl, sym, ap, subst, ◌∙◌}
use Rattle.mdb_base.specs.declared.names.Tid.{Tid}
use Rattle.mdb_base.specs.Names.{same_site, same_tid}
use Rattle.mdb_base.specs.Words.{Each, when, item_at, those, some_of}
use Rattle.mdb_base.proofs.ForCallers.{same_site-refl, when-false, when-true}
use Rattle.presumptions.specs.declared.Decision.{Decision}
use Rattle.presumptions.specs.declared.Participant.{Participant}
use Rattle.presumptions.specs.Table.{acks}
use Rattle.order_laws.specs.Chains.{In}
use Rattle.order_laws.proofs.ForCallers.{in_those, those_in}
use Rattle.fed_rules.specs.declared.answers.Answer.TheVariants as Say
use Rattle.fed_rules.specs.declared.commands.Command.{Command}
use Rattle.fed_rules.specs.declared.commands.Command.TheVariants as Cmd
use Rattle.fed_rules.specs.declared.commands.Place.{Place}
use Rattle.fed_rules.specs.declared.events.CoordEvent.TheVariants as Ev
use Rattle.fed_rules.specs.declared.messages.Sent.{Sent}
use Rattle.fed_rules.specs.declared.messages.ToSite.{ToSite}
use Rattle.fed_rules.specs.declared.messages.ToSite.TheVariants as To
use Rattle.fed_rules.specs.declared.scenario.Scenario.{Scenario}
use Rattle.fed_rules.specs.Closing.{for_each, last_sends, deliver, send_again, known, end_known}
use Rattle.fed_rules.specs.Coord.{coord_line, missing, decide_to, of_again, again_while}
use Rattle.fed_rules.specs.CoordPast.{CoordHappening, CoordPast, records, Standing, Undecided, Decided, Gone, standing, is_known, begun_tids, has_acked, participants, program, visits}
use Rattle.fed_rules.specs.CoordRecords.{named, required_of, required, is_nobody}
use Rattle.fed_rules.specs.Happenings.{quiet}
use Rattle.fed_rules.specs.Plans.{AreSites}
use Rattle.fed_rules.specs.Scenarios.{protocols, policy}
use Rattle.fed_rules.specs.Sessions.{Session}
use Rattle.fed_rules.specs.Story.{Story, AtCoordinator, coord_past, with_coordinator, sent_to, sends_to, on_attempt, happens, places_of, story_in, coord_requested}
use Rattle.commit_laws.proofs.ForCallers.{CoordinatorFits, member_of, nowhere, session_sound}
use Rattle.fed_rules.proofs.ForCallers.{rising_in}
use Rattle.closing_laws.proofs.Calm.{agains}
use Rattle.closing_laws.proofs.CoordTurns.{gentle_again, hears_of}
use Rattle.coord_laws.proofs.ForCallers.{begun_in, calm_standing, is_undecided}
use Rattle.closing_laws.proofs.Declared.{IsMemberHome, member_home}
use Rattle.closing_laws.proofs.Delivered.{item_behind, IsWaiting, IsDelivered, delivered}
use Rattle.closing_laws.proofs.Onward.{IsCalm, Onward, onward_here, onward_on, onward_next}
use Rattle.fed_rules.specs.CoordCommands.{attempt_request}
use Rattle.fed_rules.specs.Requests.{Submits, Declines}

-- a participant at a declared site that acknowledges the decision
pub record CanAck (scenario : Scenario) (decision : Decision) (member : Participant) : Type 0 where
  pub at : IsMemberHome scenario member
  pub acks : acks member.protocol decision ≡ true

-- each participant whose acknowledgement is missing is one
pub missing_acks : (session : Session) (fits : CoordinatorFits session) (commands : List Command) (tid : Tid) (decision : Decision) (member : Participant) → AreSites session.plan.sites
    → In member (missing (protocols session.plan) (coord_past (story_in session commands)) tid decision) → CanAck session.plan decision member
missing_acks session fits commands tid decision member whole i =
    by_named (named (protocols session.plan) (records past) tid) refl (those_in (λ m. not (has_acked past tid m.site)) member (required (protocols session.plan) (records past) tid decision) i).0
  where
    past : CoordPast
    past = coord_past (story_in session commands)

    by_named : (o : Option (List Participant)) → named (protocols session.plan) (records past) tid ≡ o → In member (required_of decision o) → CanAck session.plan decision member
    by_named None e j = absurd j
    by_named (Some members) e j =
        let acking = those_in (λ m. acks m.protocol decision) member members j in
        let same : members ≡ participants (protocols session.plan) past tid = ((session_sound session fits (member_of nowhere) tid commands).names members e).1 in
        let visiting = those_in (λ m. visits m.site (program past tid)) member (protocols session.plan) (subst (λ ms. In member ms) same acking.0) in
        record { at = member_home session.plan member whole visiting.0; acks = acking.1 }

-- what is sent to a participant
abbrev sent_decision : Tid → Decision → Participant → Sent
sent_decision tid decision member = record { site = member.site; message = To.Decide tid decision }

pub first_sent : (tid : Tid) (decision : Decision) (members : List Participant) (member : Participant) → In member members
    → (rest : List ToSite) × (map (λ (sent : Sent). sent.message) (those (λ (sent : Sent). same_site sent.site member.site) (map (sent_decision tid decision) members)) ≡ To.Decide tid decision ∷ rest)
first_sent tid decision [] member i = absurd i
first_sent tid decision (m ∷ members) member i = by_test (same_site m.site member.site) refl i (first_sent tid decision members member)
  where
    there : List Sent
    there = those (λ (sent : Sent). same_site sent.site member.site) (map (sent_decision tid decision) members)

    by_test : (b : Bool) → same_site m.site member.site ≡ b → In member (m ∷ members)
        → (In member members → (rest : List ToSite) × (map (λ (sent : Sent). sent.message) there ≡ To.Decide tid decision ∷ rest))
        → (rest : List ToSite) × (map (λ (sent : Sent). sent.message) (cond b (sent_decision tid decision m ∷ there) there) ≡ To.Decide tid decision ∷ rest)
    by_test true q j k = (map (λ (sent : Sent). sent.message) there, refl)
    by_test false q (inl same) k = (let yes = same_site-refl m.site in let t : same_site m.site m.site ≡ false = ap (λ (p : Participant). same_site m.site p.site) same ∙ q in let clash = sym t ∙ yes in cc)
    by_test false q (inr j) k = k j

-- the place of what was sent to a participant by the line behind a story
abbrev pub place_at : Story → Participant → Place
place_at story member = record { site = member.site; place = length (sent_to member.site story) }

module _ (session : Session) (fits : CoordinatorFits session) where
  -- the line that sends the decision of a known attempt again
  sends_again : Tid → Decision → List Participant → CoordHappening
  sends_again tid decision members = record { event = Ev.Again tid; answer = Say.Only; sends = decide_to tid decision members; calls = []; lines = [] }

  again_told : (commands : List Command) (tid : Tid) (decision : Decision) → IsCalm (story_in session commands) → standing (protocols session.plan) (coord_past (story_in session commands)) tid ≡ Decided decision
      → happens session.plan (story_in session commands) (Cmd.Again tid) ≡ AtCoordinator (sends_again tid decision (missing (protocols session.plan) (coord_past (story_in session commands)) tid decision))
  unfolding happens of_again again_while sends_again
  again_told commands tid decision c e =
      let story = story_in session commands in
      let past = coord_past story in
      hears_of session.plan story tid (Ev.Again tid) ((session_sound session fits (member_of nowhere) tid commands).decided decision e).0
      ∙ ap (λ x. AtCoordinator x) (agains (protocols session.plan) (policy session.plan) past tid c.coordinator ∙ ap (again_while (protocols session.plan) (policy session.plan) past tid) e)

  -- of an attempt that isn't known nothing is sent
  none_again : (commands : List Command) (tid : Tid) → IsCalm (story_in session commands) → standing (protocols session.plan) (coord_past (story_in session commands)) tid ≡ Gone → last_sends session (Cmd.Again tid ∷ commands) ≡ []
  unfolding happens on_attempt attempt_request of_again again_while
  none_again commands tid c e = by_begun (some_of (same_tid tid) (begun_tids past))
    where
      story : Story
      story = story_in session commands

      past : CoordPast
      past = coord_past story

      line : coord_line (protocols session.plan) (policy session.plan) past (Ev.Again tid) ≡ quiet (Ev.Again tid) Say.Idle
      line = agains (protocols session.plan) (policy session.plan) past tid c.coordinator ∙ ap (again_while (protocols session.plan) (policy session.plan) past tid) e

      by_begun : (b : Bool) → places_of story (coord_requested session.plan story (when b (Submits (Ev.Again tid)) (Declines Say.None))) ≡ []
      by_begun true = ap (λ r. places_of story (coord_requested session.plan story r)) (when-true true _ _ refl) ∙ ap (λ x. places_of story (AtCoordinator x)) line
      by_begun false = ap (λ r. places_of story (coord_requested session.plan story r)) (when-false false _ _ refl)

  -- the messages to these participants stand in their places
  abbrev StandSent : Story → Tid → Decision → List Participant → Story → Type 0
  StandSent first tid decision members now =
      Each (λ member. CanAck session.plan decision member × (item_at (sent_to member.site now) (length (sent_to member.site first)) ≡ Some (To.Decide tid decision))) members

  sent_still : (first : Story) (tid : Tid) (decision : Decision) (members : List Participant) (before now : Story) → Onward session.plan before now → StandSent first tid decision members before → StandSent first tid decision members now
  sent_still first tid decision [] before now o h = tt
  sent_still first tid decision (m ∷ members) before now o h =
      ((h.0.0, o.sent m.site (length (sent_to m.site first)) (To.Decide tid decision) h.0.1), sent_still first tid decision members before now o h.1)

  -- the messages are delivered one after another
  record AllDelivered (tid : Tid) (decision : Decision) (before now : Story) : Type 0 where
    onward : Onward session.plan before now
    waits : IsWaiting (protocols session.plan) (coord_past now) tid decision []

  deliver_one : (first : Story) (tid : Tid) (decision : Decision) (m : Participant) (members : List Participant) (commands : List Command) → IsCalm (story_in session commands)
      → CanAck session.plan decision m × (item_at (sent_to m.site (story_in session commands)) (length (sent_to m.site first)) ≡ Some (To.Decide tid decision))
      → IsWaiting (protocols session.plan) (coord_past (story_in session commands)) tid decision (map (λ (k : Participant). k.site) (m ∷ members))
      → IsDelivered session.plan tid decision (map (λ (k : Participant). k.site) members) (story_in session commands) (story_in session (deliver session (place_at first m) commands))
  deliver_one first tid decision m members commands c h w =
      let home = h.0.at.home in
      let here = h.0.at.here in
      let n = length (sent_to m.site first) in
      let ss = map (λ (k : Participant). k.site) members in
      subst (λ s. IsDelivered session.plan tid decision (map (λ (k : Participant). k.site) members) (story_in session commands) (story_in session (deliver session (record { site = s; place = length (sent_to m.site first) }) commands))) here
      (delivered session fits commands home n tid decision ss c h.0.at.declared (ap (λ p. acks p decision) h.0.at.protocol ∙ h.0.acks)
      (subst (λ s. item_at (sent_to s (story_in session commands)) (length (sent_to m.site first)) ≡ Some (To.Decide tid decision)) (sym here) h.1)
      (subst (λ s. IsWaiting (protocols session.plan) (coord_past (story_in session commands)) tid decision (s ∷ map (λ (k : Participant). k.site) members)) (sym here) w))

  deliver_members : (first : Story) (tid : Tid) (decision : Decision) (members : List Participant) (commands : List Command) → IsCalm (story_in session commands)
      → StandSent first tid decision members (story_in session commands) → IsWaiting (protocols session.plan) (coord_past (story_in session commands)) tid decision (map (λ (m : Participant). m.site) members)
      → AllDelivered tid decision (story_in session commands) (story_in session (for_each (deliver session) (map (place_at first) members) commands))
  deliver_members first tid decision [] commands c h w = record { onward = onward_here session.plan (story_in session commands) c; waits = w }
  deliver_members first tid decision (m ∷ members) commands c h w =
      let story = story_in session commands in
      let next = deliver session (place_at first m) commands in
      let one = deliver_one first tid decision m members commands c h.0 w in
      let rest = deliver_members first tid decision members next one.onward.calm (sent_still first tid decision members story (story_in session next) one.onward h.1) one.waits in
      record { onward = onward_on session.plan story (story_in session next) _ one.onward rest.onward; waits = rest.waits }

  -- behind it the attempt isn't known
  record IsEnded (tid : Tid) (before now : Story) : Type 0 where
    onward : Onward session.plan before now
    gone : standing (protocols session.plan) (coord_past now) tid ≡ Gone

  -- what nobody is missing for is forgotten
  pub none_missing : (commands : List Command) (tid : Tid) (decision : Decision) → IsWaiting (protocols session.plan) (coord_past (story_in session commands)) tid decision [] → standing (protocols session.plan) (coord_past (story_in session commands)) tid ≡ Gone
  none_missing commands tid decision (inl e) = e
  none_missing commands tid decision (inr (e, none)) =
      absurd (nobody (missing (protocols session.plan) (coord_past (story_in session commands)) tid decision) none ((session_sound session fits (member_of nowhere) tid commands).waits decision e))
    where
      nobody : (members : List Participant) → ((member : Participant) → In member members → In member.site []) → is_nobody members ≡ false → ⊥
      nobody [] f q = cc
      nobody (m ∷ members) f q = f m (inl refl)

  decided_ends : (commands : List Command) (tid : Tid) (decision : Decision) → AreSites session.plan.sites → IsCalm (story_in session commands) → standing (protocols session.plan) (coord_past (story_in session commands)) tid ≡ Decided decision
      → IsEnded tid (story_in session commands) (story_in session (send_again session tid commands))
  unfolding sends_again
  decided_ends commands tid decision whole c e =
      subst (λ ps. IsEnded tid story (story_in session (for_each (deliver session) ps again))) (sym places)
      (record { onward = onward_on session.plan story (story_in session again) _ first all.onward; gone = none_missing (for_each (deliver session) (map (place_at story) members) again) tid decision all.waits })
    where
      story : Story
      story = story_in session commands

      past : CoordPast
      past = coord_past story

      members : List Participant
      members = missing (protocols session.plan) past tid decision

      again : List Command
      again = Cmd.Again tid ∷ commands

      told : happens session.plan story (Cmd.Again tid) ≡ AtCoordinator (sends_again tid decision members)
      told = again_told commands tid decision c e

      map_map : (ms : List Participant) → map (λ (sent : Sent). record { site = sent.site; place = length (sent_to sent.site story) }) (map (sent_decision tid decision) ms) ≡ map (place_at story) ms
      map_map [] = refl
      map_map (m ∷ ms) = ap (λ ps. place_at story m ∷ ps) (map_map ms)

      places : last_sends session again ≡ map (place_at story) members
      places = ap (places_of story) told ∙ map_map members

      first : Onward session.plan story (story_in session again)
      first = onward_next session.plan story (Cmd.Again tid) (happens session.plan story (Cmd.Again tid)) c (gentle_again session fits commands tid c)

      in_place : (m : Participant) → In m members → item_at (sent_to m.site (story_in session again)) (length (sent_to m.site story)) ≡ Some (To.Decide tid decision)
      in_place m i =
          let f = first_sent tid decision members m i in
          ap (λ h. item_at (sent_to m.site story ++ sends_to m.site h) (length (sent_to m.site story))) told
          ∙ (ap (λ ms. item_at (sent_to m.site story ++ ms) (length (sent_to m.site story))) f.1 ∙ item_behind (sent_to m.site story) f.0 (To.Decide tid decision))

      stand : (ms : List Participant) → ((m : Participant) → In m ms → In m members) → StandSent story tid decision ms (story_in session again)
      stand [] f = tt
      stand (m ∷ ms) f = ((missing_acks session fits commands tid decision m whole (f m (inl refl)), in_place m (f m (inl refl))), stand ms (λ k i. f k (inr i)))

      site_in : (ms : List Participant) (m : Participant) → In m ms → In m.site (map (λ (k : Participant). k.site) ms)
      site_in [] m i = absurd i
      site_in (k ∷ ms) m (inl same) = inl (ap (λ (p : Participant). p.site) same)
      site_in (k ∷ ms) m (inr i) = inr (site_in ms m i)

      now : CoordPast
      now = sends_again tid decision members ∷ past

      same_acks : (b h : Bool) → cond (b && false) false (false || h) ≡ h
      same_acks true h = refl
      same_acks false h = refl

      same_missing : (xs : List Participant) → those (λ m. not (has_acked now tid m.site)) xs ≡ those (λ m. not (has_acked past tid m.site)) xs
      same_missing [] = refl
      same_missing (m ∷ xs) = ap (λ b. cond (not b) (m ∷ those (λ k. not (has_acked now tid k.site)) xs) (those (λ k. not (has_acked now tid k.site)) xs)) (same_acks (same_tid tid tid) (has_acked past tid m.site))
          ∙ ap (λ ys. cond (not (has_acked past tid m.site)) (m ∷ ys) ys) (same_missing xs)

      waits : IsWaiting (protocols session.plan) now tid decision (map (λ (k : Participant). k.site) members)
      waits = inr (calm_standing (protocols session.plan) tid past (sends_again tid decision members) tt ∙ e, (λ m i. site_in members m (subst (λ xs. In m xs) (same_missing (required (protocols session.plan) (records past) tid decision)) i)))

      all : AllDelivered tid decision (story_in session again) (story_in session (for_each (deliver session) (map (place_at story) members) again))
      all = deliver_members story tid decision members again first.calm (stand members (λ m i. i))
          (subst (λ h. IsWaiting (protocols session.plan) (with_coordinator h past) tid decision (map (λ (k : Participant). k.site) members)) (sym told) waits)

  one_ends : (commands : List Command) (tid : Tid) → AreSites session.plan.sites → IsCalm (story_in session commands) → is_undecided (standing (protocols session.plan) (coord_past (story_in session commands)) tid) ≡ false
      → IsEnded tid (story_in session commands) (story_in session (send_again session tid commands))
  one_ends commands tid whole c u = by_standing (standing (protocols session.plan) (coord_past story) tid) refl u
    where
      story : Story
      story = story_in session commands

      first : Onward session.plan story (story_in session (Cmd.Again tid ∷ commands))
      first = onward_next session.plan story (Cmd.Again tid) (happens session.plan story (Cmd.Again tid)) c (gentle_again session fits commands tid c)

      by_standing : (s : Standing) → standing (protocols session.plan) (coord_past story) tid ≡ s → is_undecided s ≡ false → IsEnded tid story (story_in session (send_again session tid commands))
      by_standing Undecided e f = cc
      by_standing (Decided decision) e f = decided_ends commands tid decision whole c e
      by_standing Gone e f =
          subst (λ ps. IsEnded tid story (story_in session (for_each (deliver session) ps (Cmd.Again tid ∷ commands)))) (sym (none_again commands tid c e))
          (record { onward = first; gone = first.gone tid e })

  -- behind these commands none of these attempts is known
  record AreEnded (tids : List Tid) (before now : Story) : Type 0 where
    onward : Onward session.plan before now
    gone : (tid : Tid) → In tid tids → standing (protocols session.plan) (coord_past now) tid ≡ Gone

  all_end : (tids : List Tid) (commands : List Command) → AreSites session.plan.sites → IsCalm (story_in session commands) → ((tid : Tid) → is_undecided (standing (protocols session.plan) (coord_past (story_in session commands)) tid) ≡ false)
      → AreEnded tids (story_in session commands) (story_in session (for_each (send_again session) tids commands))
  all_end [] commands whole c u = record { onward = onward_here session.plan (story_in session commands) c; gone = λ tid i. absurd i }
  all_end (tid ∷ tids) commands whole c u =
      let one = one_ends commands tid whole c (u tid) in
      let next = send_again session tid commands in
      let rest = all_end tids next whole one.onward.calm (λ t. one.onward.decided t (u t)) in
      record {
        onward = onward_on session.plan (story_in session commands) (story_in session next) _ one.onward rest.onward;
        gone = λ other i. elim i [ inl same ↦ rest.onward.gone other (subst (λ t. standing (protocols session.plan) (coord_past (story_in session next)) t ≡ Gone) same one.gone) | inr j ↦ rest.gone other j ];
      }

  -- behind the step none is known
  pub record IsUnknown (before now : Story) : Type 0 where
    pub onward : Onward session.plan before now
    pub gone : (tid : Tid) → standing (protocols session.plan) (coord_past now) tid ≡ Gone

  pub ended : (commands : List Command) → AreSites session.plan.sites → IsCalm (story_in session commands) → ((tid : Tid) → is_undecided (standing (protocols session.plan) (coord_past (story_in session commands)) tid) ≡ false)
      → IsUnknown (story_in session commands) (story_in session (end_known session commands))
  ended commands whole c u = record { onward = all.onward; gone = λ tid. by_standing tid (standing (protocols session.plan) (coord_past story) tid) refl }
    where
      story : Story
      story = story_in session commands

      all : AreEnded (known session.plan story) story (story_in session (end_known session commands))
      all = all_end (known session.plan story) commands whole c u

      by_standing : (tid : Tid) (s : Standing) → standing (protocols session.plan) (coord_past story) tid ≡ s → standing (protocols session.plan) (coord_past (story_in session (end_known session commands))) tid ≡ Gone
      by_standing tid Undecided e = (let none = u tid in let yes = ap is_undecided e in let clash = sym none ∙ yes in cc)
      by_standing tid (Decided decision) e =
          all.gone tid (rising_in _ tid (in_those (λ t. is_known (standing (protocols session.plan) (coord_past story) t)) tid (begun_tids (coord_past story))
          (begun_in (coord_past story) tid ((session_sound session fits (member_of nowhere) tid commands).decided decision e).0) (ap is_known e)))
      by_standing tid Gone e = all.onward.gone tid e
