-- Each right line is one that its command can have.
use Rattle.std.proofs.Common.{◌≡◌, ◌⊎◌, ◌&&◌, ◌||◌, Bool, true, false, cond, not, IsTrue, Option, Some, List, [], ◌∷◌, ◌++◌, length, map, inl, inr, refl, sym, ◌∙◌, ap, ap₂, subst}
use Rattle.std.proofs.lemmas.Bool.{eq-eqb}
use Rattle.std.proofs.lemmas.List.{append-nil}
use Rattle.mdb_base.specs.declared.names.SiteId.{SiteId}
use Rattle.mdb_base.specs.declared.names.Tid.{Tid}
use Rattle.mdb_base.specs.declared.replies.Edge.{Edge}
use Rattle.mdb_base.specs.Names.{same_site}
use Rattle.mdb_base.specs.Words.{Each}
use Rattle.mdb_base.proofs.ForCallers.{same_site-equal}
use Rattle.presumptions.specs.declared.Decision.{Decision}
use Rattle.presumptions.specs.declared.Decision.TheVariants as Decision_is
use Rattle.presumptions.specs.declared.Participant.{Participant}
use Rattle.fed_rules.specs.declared.answers.Answer.{Answer}
use Rattle.fed_rules.specs.declared.answers.Answer.TheVariants as Say
use Rattle.fed_rules.specs.declared.answers.Cause.{Cause}
use Rattle.fed_rules.specs.declared.answers.Cause.TheVariants as For
use Rattle.fed_rules.specs.declared.commands.Command.{Command}
use Rattle.fed_rules.specs.declared.commands.Command.TheVariants as Cmd
use Rattle.fed_rules.specs.declared.commands.Line.{Line}
use Rattle.fed_rules.specs.declared.commands.Place.{Place}
use Rattle.fed_rules.specs.declared.events.CoordEvent.{CoordEvent}
use Rattle.fed_rules.specs.declared.events.CoordEvent.TheVariants as To_coord
use Rattle.fed_rules.specs.declared.messages.FromSite.{FromSite}
use Rattle.fed_rules.specs.declared.messages.Sent.{Sent}
use Rattle.fed_rules.specs.declared.scenario.Scenario.{Scenario}
use Rattle.fed_rules.specs.CoordPast as Coordinator
use Rattle.fed_rules.specs.CoordPast.{CoordHappening, CoordPast, is_open}
use Rattle.fed_rules.specs.Right.{IsAnswer, IsNext, IsRefusal, MayPrint, SameButCycle}
use Rattle.fed_rules.specs.Scenarios.{home_of, policy, protocols}
use Rattle.fed_rules.specs.Sessions.{Session, fresh}
use Rattle.fed_rules.specs.SitePast.{SiteHappening, trip}
use Rattle.fed_rules.specs.SiteRecords.{Home}
use Rattle.fed_rules.specs.Story.{Happened, AtSite, AtCoordinator, Nowhere, Story, coord_past, happens, past_of, place_from, places_of, sends_from, sent_from, sent_to, story_in, with_coordinator, with_site}
use Rattle.fed_rules.specs.Lines.{IsLine}
use Rattle.fed_rules.proofs.ForCallers.{line_is}
use Rattle.line_text.specs.Fits.{answer_fits, coordinator_sends, is_cause, is_one_of, is_only, line_fits, places_fit, sending_site, sites_rise}
use Rattle.commit_laws.proofs.ForCallers.{HasCalls, IsNext as NextIs, linked, linked-here}
use Rattle.federation_laws.proofs.ForCallers.{declared-in}
use Rattle.line_laws.specs.Lines.{IsHeard, RightLinesFit}
use Rattle.line_laws.specs.Resumed.{IsRightIn}
use Rattle.line_laws.proofs.CoordLines.{CoordGood, sent_number}
use Rattle.line_laws.proofs.Outstanding.{IsMember, Ready}
use Rattle.line_laws.proofs.SiteFits.{IsFit}
use Rattle.line_laws.proofs.Sorted.{map_sorted, places_rise}
use Rattle.line_laws.proofs.Happened.{Word, coord_line_good, site_line_fit, sorted, word}
use Rattle.line_laws.proofs.Starts.{Starts, State, fresh_starts, member_of}
use Rattle.line_laws.proofs.Trips.{coord_calls, site_calls}

module _ (session : Session) (start : Starts session) (commands : List Command) (state : State session commands) where
  abbrev plan : Scenario
  plan = session.plan

  abbrev story : Story
  story = story_in session commands

  abbrev past : CoordPast
  past = coord_past story

  abbrev table : List Participant
  table = protocols plan

  -- ---- what is printed

  same_sends : (command : Command) (d e : Decision) (c k : Option Cause) (f g : Bool) → coordinator_sends command (Say.Decides d c f) ≡ true → coordinator_sends command (Say.Decides e k g) ≡ true
  same_sends (Cmd.Late tid) d e c k f g h = refl
  same_sends (Cmd.Take site place) d e c k f g h = refl
  same_sends command d e c k f g h = cc

  cycle_fits : (command : Command) (d : Decision) (edges others : List Edge) (f g : Bool) → is_cause (For.Cycle edges) ≡ true → answer_fits command (Say.Decides d (Some (For.Cycle others)) g) ≡ true
      → answer_fits command (Say.Decides d (Some (For.Cycle edges)) f) ≡ true
  cycle_fits (Cmd.Late tid) Decision_is.Abort edges others f g some h = some
  cycle_fits (Cmd.Late tid) Decision_is.Commit edges others f g some h = cc
  cycle_fits (Cmd.Take site place) Decision_is.Abort edges others f g some h = some
  cycle_fits (Cmd.Take site place) Decision_is.Commit edges others f g some h = cc
  cycle_fits command d edges others f g some h = cc

  -- what is said of an answer that may name another cycle
  record Printed (command : Command) (answer : Answer) (places : List Place) : Type 0 where
    fits : answer_fits command answer ≡ true
    placed : places_fit command answer places ≡ true

  other_placed : (command : Command) (d e : Decision) (c k : Option Cause) (f g : Bool) (places : List Place) → ((places ≡ []) ⊎ (coordinator_sends command (Say.Decides e k g) ≡ true)) → sites_rise places ≡ true
      → places_fit command (Say.Decides d c f) places ≡ true
  other_placed command d e c k f g [] can rise = refl
  other_placed command d e c k f g (p ∷ places) (inl none) rise = cc
  other_placed command d e c k f g (p ∷ places) (inr can) rise =
      ap (λ b. (b && sites_rise (p ∷ places)) || is_one_of (sending_site command (Say.Decides d c f)) (p ∷ places)) (same_sends command e d k c g f can)
      ∙ ap (λ b. b || is_one_of (sending_site command (Say.Decides d c f)) (p ∷ places)) rise

  coord_placed : (command : Command) (answer : Answer) (places : List Place) → (places ≡ [] → is_only answer ≡ false) → (places ≡ []) ⊎ (coordinator_sends command answer ≡ true) → sites_rise places ≡ true
      → places_fit command answer places ≡ true
  coord_placed command answer [] some can rise = ap not (some refl)
  coord_placed command answer (p ∷ places) some (inl none) rise = cc
  coord_placed command answer (p ∷ places) some (inr can) rise =
      ap (λ b. (b && sites_rise (p ∷ places)) || is_one_of (sending_site command answer) (p ∷ places)) can ∙ ap (λ b. b || is_one_of (sending_site command answer) (p ∷ places)) rise

  printed_cycle : (IsOne : List Edge → Type 0) → ((edges : List Edge) → IsOne edges → is_cause (For.Cycle edges) ≡ true) → (command : Command) (places : List Place) (printed told : Answer)
      → SameButCycle IsOne printed told → answer_fits command told ≡ true → (places ≡ [] → is_only told ≡ false) → (places ≡ []) ⊎ (coordinator_sends command told ≡ true) → sites_rise places ≡ true
      → Printed command printed places
  printed_cycle IsOne some command places (Say.Decides d (Some (For.Cycle edges)) f) (Say.Decides e (Some (For.Cycle others)) g) (same, forgets, one) fits silent can rise = record {
    fits = cycle_fits command d edges others f g (some edges one) (subst (λ x. answer_fits command (Say.Decides x (Some (For.Cycle others)) g) ≡ true) (sym same) fits);
    placed = other_placed command d e (Some (For.Cycle edges)) (Some (For.Cycle others)) f g places can rise;
  }
  printed_cycle IsOne some command places printed told same fits silent can rise = record {
    fits = ap (answer_fits command) same ∙ fits;
    placed = ap (λ a. places_fit command a places) same ∙ coord_placed command told places silent can rise;
  }

  cycle_some : (x : CoordHappening) (tid : Tid) (edges : List Edge) → IsRefusal table past x tid edges → is_cause (For.Cycle edges) ≡ true
  cycle_some x tid [] c = absurd (c.some refl)
  cycle_some x tid (e ∷ edges) c = refl

  -- a line of the coordinator
  coord_printed : (command : Command) (x : CoordHappening) (printed : Answer) (places : List Place) → CoordGood table past state.ready (sorted session start commands state) command x → places ≡ places_of story (AtCoordinator x)
      → MayPrint table past x x.event printed → Printed command printed places
  coord_printed command x printed places good e may = by_event x.event may
    where
      place_at : Sent → Place
      place_at sent = record { site = sent.site; place = length (sent_to sent.site story) }

      no_places : (sends : List Sent) → map place_at sends ≡ [] → sends ≡ []
      no_places [] f = refl
      no_places (s ∷ sends) f = cc

      rise : sites_rise places ≡ true
      rise = ap sites_rise e ∙ places_rise (map place_at x.sends) (map_sorted sent_number (λ (p : Place). p.site.0) place_at (λ s. refl) x.sends good.rises)

      silent : places ≡ [] → is_only x.answer ≡ false
      silent none = good.some (no_places x.sends (sym e ∙ none))

      can : (places ≡ []) ⊎ (coordinator_sends command x.answer ≡ true)
      can = elim good.can [ inl none ↦ inl (e ∙ ap (map place_at) none) | inr sending ↦ inr sending ]

      same : printed ≡ x.answer → Printed command printed places
      same p = record { fits = ap (answer_fits command) p ∙ good.answer; placed = ap (λ a. places_fit command a places) p ∙ coord_placed command x.answer places silent can rise }

      by_event : (event : CoordEvent) → MayPrint table past x event printed → Printed command printed places
      by_event (To_coord.Take site message) m =
          printed_cycle (IsRefusal table past x (Coordinator.message_tid message)) (cycle_some x (Coordinator.message_tid message)) command places printed x.answer m good.answer silent can rise
      by_event (To_coord.Go t steps) m = same m
      by_event (To_coord.Again t) m = same m
      by_event (To_coord.Late t) m = same m
      by_event (To_coord.Fate tx) m = same m
      by_event (To_coord.Halt cut) m = same m
      by_event (To_coord.Trip calls cut) m = same m
      by_event To_coord.Back m = same m
      by_event To_coord.Check m = same m

  -- and one of a site
  site_printed : (command : Command) (site : SiteId) (x : SiteHappening) (printed : Answer) (places : List Place) → IsFit command site x → places ≡ places_of story (AtSite site x) → printed ≡ x.answer → Printed command printed places
  site_printed command site x printed places fit e p = record { fits = ap (answer_fits command) p ∙ fit.answer; placed = ap₂ (λ a ps. places_fit command a ps) p e ∙ by_sends x.sends fit.sends }
    where
      by_sends : (sends : List FromSite) → (sends ≡ []) ⊎ (sending_site command x.answer ≡ Some site) → places_fit command x.answer (place_from site (length (sent_from site story)) sends) ≡ true
      by_sends [] can = ap not fit.other
      by_sends (m ∷ sends) (inl none) = cc
      by_sends (m ∷ sends) (inr can) =
          let one : List Place = record { site = site; place = length (sent_from site story) } ∷ [] in
          ap (λ o. (coordinator_sends command x.answer && sites_rise one) || is_one_of o one) can
          ∙ (ap (λ b. (coordinator_sends command x.answer && sites_rise one) || b) (eq-eqb site.0 site.0 refl) ∙ or_right (coordinator_sends command x.answer && sites_rise one))
        where
          or_right : (b : Bool) → (b || true) ≡ true
          or_right true = refl
          or_right false = refl

  line_printed : (command : Command) (h : Happened) (printed : Answer) (places : List Place) → IsLine plan story command h → Word session start commands state command h → places ≡ places_of story h → IsAnswer table story h printed → Printed command printed places
  line_printed command (AtSite site x) printed places line w e a = site_printed command site x printed places (site_line_fit session start commands state command site x line) e a
  line_printed command (AtCoordinator x) printed places line w e a = coord_printed command x printed places (coord_line_good session start commands state command x line) e a
  line_printed command (Nowhere answer) printed places line w e a = record {
    fits = ap (answer_fits command) a ∙ w.word.fits;
    placed = ap₂ (λ b ps. places_fit command b ps) a e ∙ ap not w.word.other;
  }

  pub next_fits : (line : Line) → IsHeard plan.sites line.command → IsNext plan story line → line_fits line ≡ true
  next_fits line h n =
      let p = line_printed line.command (happens plan story line.command) line.answer line.sends (line_is plan story line.command) (word session start commands state line.command h) n.sends n.answer in
      ap₂ (λ a b. a && b) p.fits p.placed

  -- the state behind a line
  record After (h : Happened) : Type 0 where
    ready : (g : Tid) → is_open (with_coordinator h past) g ≡ true → Ready table (with_coordinator h past) g
    armed : HasCalls (Coordinator.trip (with_coordinator h past))
    site_armed : (home : Home) → home_of plan home.site ≡ Some home → HasCalls (trip (with_site home.site h (past_of home.site story)))
    senders : (site : SiteId) → (sent_from site story ++ sends_from site h ≡ []) ⊎ IsMember table site

  -- who sent before
  sent_before : (site : SiteId) → (sent_from site story ++ [] ≡ []) ⊎ IsMember table site
  sent_before site = elim (state.senders site) [ inl none ↦ inl (append-nil (sent_from site story) ∙ none) | inr member ↦ inr member ]

  after : (command : Command) (h : Happened) → IsLine plan story command h → NextIs plan story h → After h
  after command (Nowhere answer) line next = record { ready = state.ready; armed = state.armed; site_armed = state.site_armed; senders = sent_before }
  after command (AtCoordinator x) line next = record {
    ready = (coord_line_good session start commands state command x line).next;
    armed = subst (λ (y : CoordHappening). HasCalls (Coordinator.trip (y ∷ past))) (sym line.is_next) (coord_calls table (policy plan) past state.armed line.event);
    site_armed = state.site_armed;
    senders = sent_before;
  }
  after command (AtSite at x) line next = record { ready = state.ready; armed = state.armed; site_armed = armed_there; senders = sends_there }
    where
      armed_there : (home : Home) → home_of plan home.site ≡ Some home → HasCalls (trip (with_site home.site (AtSite at x) (past_of home.site story)))
      armed_there home declared = by_test (same_site at home.site) refl
        where
          by_test : (b : Bool) → same_site at home.site ≡ b → HasCalls (trip (cond b (x ∷ past_of home.site story) (past_of home.site story)))
          by_test false q = state.site_armed home declared
          by_test true q =
              let (event, is, came) = linked-here plan home story x at declared q next in
              subst (λ (y : SiteHappening). HasCalls (trip (y ∷ past_of home.site story))) (sym is) (site_calls home (past_of home.site story) (state.site_armed home declared) event)

      sends_there : (site : SiteId) → (sent_from site story ++ sends_from site (AtSite at x) ≡ []) ⊎ IsMember table site
      sends_there site = by_test (same_site at site) refl
        where
          by_test : (b : Bool) → same_site at site ≡ b → (sent_from site story ++ cond b x.sends [] ≡ []) ⊎ IsMember table site
          by_test false q = sent_before site
          by_test true q =
              inr (subst (IsMember table) (sym line.here ∙ same_site-equal at site q) (member_of plan line.home.site (declared-in plan line.home.site line.home line.declared)))

  -- behind one more command
  pub state_next : (command : Command) → State session (command ∷ commands)
  state_next command =
      let a = after command (happens plan story command) (line_is plan story command) (linked plan story command).next in
      record { ready = a.ready; armed = a.armed; site_armed = a.site_armed; senders = a.senders }

-- so it is behind all commands
pub state_of : (session : Session) → Starts session → (commands : List Command) → State session commands
state_of session start [] = start.first
state_of session start (command ∷ commands) = state_next session start commands (state_of session start commands) command

-- the next line of a session
pub next_line_fits : (session : Session) → Starts session → (commands : List Command) (line : Line) → IsHeard session.plan.sites line.command → IsNext session.plan (story_in session commands) line
    → line_fits line ≡ true
next_line_fits session start commands line heard next = next_fits session start commands (state_of session start commands) line heard next

-- and each right line
pub each_line_fits : (session : Session) → Starts session → (lines : List Line) → Each (IsHeard session.plan.sites) (map (λ line. line.command) lines) → IsRightIn session lines
    → Each (λ line. IsTrue (line_fits line)) lines
each_line_fits session start [] heard right = tt
each_line_fits session start (line ∷ lines) heard right =
    (next_line_fits session start (map (λ (l : Line). l.command) lines) line heard.0 right.1, each_line_fits session start lines heard.1 right.0)

pub lines_fit : RightLinesFit
lines_fit scenario whole lines heard right = each_line_fits (fresh scenario) (fresh_starts scenario whole) lines heard right
