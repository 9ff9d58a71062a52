-- The coordinator forgets an attempt exactly when its required acknowledgements are in, and answers inquiries about it rightly.
use Rattle.std.proofs.Common.{◌≡◌, inl, inr, Bool, true, false, cond, not, ◌&&◌, ◌||◌, is_some, Option, Some, None, List, [], ◌∷◌, refl, sym, ap, subst, ◌∙◌, nat_le, length, take, ◌++◌}
use Rattle.mdb_base.specs.declared.names.SiteId.{SiteId}
use Rattle.mdb_base.specs.declared.names.Tid.{Tid}
use Rattle.mdb_base.specs.Words.{those, when}
use Rattle.mdb_base.proofs.ForCallers.{when-false}
use Rattle.order_laws.specs.Chains.{In}
use Rattle.presumptions.specs.declared.Participant.{Participant}
use Rattle.presumptions.specs.Table.{acks, presumed}
use Rattle.fed_rules.specs.declared.answers.Answer.TheVariants as Say
use Rattle.fed_rules.specs.declared.commands.Command.{Command}
use Rattle.fed_rules.specs.declared.events.CoordEvent.{CoordEvent}
use Rattle.fed_rules.specs.declared.events.CoordEvent.TheVariants as Ev
use Rattle.fed_rules.specs.declared.messages.FromSite.TheVariants as From
use Rattle.fed_rules.specs.declared.records.CoordRecord.{CoordRecord}
use Rattle.fed_rules.specs.declared.scenario.Scenario.{Scenario}
use Rattle.fed_rules.specs.Coord.{missing, of_inquiry, of_take, answered, coord_line, asked_while, tells, protocol_of}
use Rattle.fed_rules.specs.CoordPast as Coordinator
use Rattle.fed_rules.specs.CoordPast.{trip, CoordHappening, CoordPast, Standing, Undecided, Decided, Gone, standing, is_known, program, visits, is_about, decides, acks_in, has_acked, participants}
use Rattle.fed_rules.specs.CoordRecords.{coord_frame, named, outcome, required_of, required, is_nobody}
use Rattle.fed_rules.specs.Happenings.{Trip, stops, comes_up, is_down, quiet, stopped, tripped}
use Rattle.fed_rules.specs.Disk.{Disk, Stops}
use Rattle.fed_rules.specs.Scenarios.{home_of, policy, protocols}
use Rattle.fed_rules.specs.SitePast.{records}
use Rattle.fed_rules.specs.SiteRecords.{Home, Held, doubt_of}
use Rattle.fed_rules.specs.Story.{AtCoordinator, coord_past, past_of, sent_to, sent_from, story_of}
use Rattle.commit_laws.specs.Forgetting.{IsNextOfCoordinator, KnownWhileMissing, ForgottenWhenNoneIsMissing, RestartsCountAnew, ForgottenAreAcknowledged, PresumptionsAreRight, InquiriesAreAnsweredTheOutcome}
use Rattle.commit_laws.specs.Outcomes.{coordinator_keeps}
use Rattle.commit_laws.proofs.Agree.{Agrees}
use Rattle.commit_laws.proofs.AgreeCoord.{presumes-right}
use Rattle.commit_laws.proofs.Agreed.{agreed, turn, coord-sound}
use Rattle.commit_laws.proofs.Links.{member_of, IsNext, linked, home-again, its-site}
use Rattle.coord_laws.proofs.ForCallers.{Decides, Forgets, IsOpen, Restarts, Same, Starts, Stood, Stopped, Through, Turn, all_missing, decided_outcome, is_undecided, named_stays, same_outcome, uncommitted_of}
use Rattle.commit_laws.proofs.Declared.{is-declared}
use Rattle.fed_rules.proofs.ForCallers.{appended}
use Rattle.order_laws.proofs.ForCallers.{those-in, those_same}
use Rattle.commit_laws.proofs.PreparedLaws.{nowhere}
use Rattle.commit_laws.proofs.SealProofs.{over-free}
use Rattle.commit_laws.proofs.SiteWork.{held-prepared}

pub known-while-missing : KnownWhileMissing
known-while-missing scenario commands tid decision is =
    let s = coord-sound scenario nowhere tid commands in ((s.decided decision is).1, s.waits decision is)

-- the next line of the coordinator, with its part of the invariant before it
pub next-turn : (scenario : Scenario) (commands : List Command) (x : CoordHappening) → IsNextOfCoordinator scenario commands x
    → (tid : Tid) → (event : CoordEvent) × Turn (protocols scenario) (member_of nowhere) tid (coord_past (story_of scenario commands)) event x
next-turn scenario commands x (command, e) tid =
    let l : IsNext scenario (story_of scenario commands) (AtCoordinator x) = subst (IsNext scenario (story_of scenario commands)) e
    (linked scenario (story_of scenario commands) command).next in
    let (event, is, came) = l in (
      event,
      subst (λ y. Turn (protocols scenario) (member_of nowhere) tid (coord_past (story_of scenario commands)) event y) (sym is)
          (turn scenario nowhere tid (story_of scenario commands) event came (coord-sound scenario nowhere tid commands)),
    )

forgotten : (scenario : Scenario) (past : CoordPast) (event : CoordEvent) (x : CoordHappening) (tid : Tid)
    → Turn (protocols scenario) (member_of nowhere) tid past event x → (stops x.answer || comes_up x.answer) ≡ false → is_known (standing (protocols scenario) past tid) ≡ true
    → is_known (standing (protocols scenario) (x ∷ past) tid) ≡ false
    → is_nobody (missing (protocols scenario) (x ∷ past) tid (outcome (Coordinator.records (x ∷ past)) tid)) ≡ true
forgotten scenario past event x tid t on before behind = by_stood t.line.stood where
  by_stood : Stood (protocols scenario) tid past x → is_nobody (missing (protocols scenario) (x ∷ past) tid (outcome (Coordinator.records (x ∷ past)) tid)) ≡ true
  by_stood (Stopped b e a stop) = let no : true ≡ false = sym stop ∙ on in cc
  by_stood (Through (Same e b u a) r) = let no : true ≡ false = sym (ap is_known e ∙ before) ∙ behind in cc
  by_stood (Through (Starts b e n steps v) r) = let no : true ≡ false = sym (ap is_known e) ∙ behind in cc
  by_stood (Through (Decides made f o b e n by a) r) = by_forgets f refl where
    by_forgets : (c : Bool) → f ≡ c → is_nobody (missing (protocols scenario) (x ∷ past) tid (outcome (Coordinator.records (x ∷ past)) tid)) ≡ true
    by_forgets false q = let no : true ≡ false = sym (ap is_known (e ∙ ap (λ c. cond c Gone (Decided made)) q)) ∙ behind in cc
    by_forgets true q =
        let made_is : outcome (Coordinator.records (x ∷ past)) tid ≡ made = ap (λ rs. outcome rs tid) r ∙ decided_outcome tid made
        (appended x.calls []) (Coordinator.records past) (uncommitted_of (protocols scenario) (member_of nowhere) tid past t.sound o) by in
        ap (λ d. is_nobody (missing (protocols scenario) (x ∷ past) tid d)) made_is
        ∙ ap is_nobody (all_missing (protocols scenario) tid (x ∷ past) made a)
        ∙ ap (λ rs. is_nobody (required (protocols scenario) rs tid made)) r
        ∙ (n ∙ q)
  by_stood (Through (Forgets made k b e n ends a) r) =
      let closed : IsOpen (protocols scenario) past tid → ⊥ = λ o. (let no : is_undecided (Decided made) ≡ true = ap is_undecided (sym k) ∙ o in cc) in
      let made_is : outcome (Coordinator.records (x ∷ past)) tid ≡ made = same_outcome (protocols scenario) (member_of nowhere) tid past event x t closed ∙ sym
      (t.sound.decided made k).1 in
      ap (λ d. is_nobody (missing (protocols scenario) (x ∷ past) tid d)) made_is
      ∙ ap (λ o. is_nobody (those (λ m. not (has_acked (x ∷ past) tid m.site)) (required_of made o)))
      (named_stays (protocols scenario) (member_of nowhere) tid past event x t closed)
      ∙ ap is_nobody (those_same (λ m. not (has_acked (x ∷ past) tid m.site))
      (λ m. not (has_acked (quiet x.event Say.Acked ∷ past) tid m.site)) (required (protocols scenario) (Coordinator.records past) tid made)
      (λ m i. ap not (a m.site)))
      ∙ n
  by_stood (Through (Restarts b e a stop) r) = let no : true ≡ false = sym stop ∙ on in cc

pub forgotten-when-none-is-missing : ForgottenWhenNoneIsMissing
forgotten-when-none-is-missing scenario commands x next on tid before behind =
    let (event, t) = next-turn scenario commands x next tid in
    forgotten scenario (coord_past (story_of scenario commands)) event x tid t on before behind

pub restarts-count-anew : RestartsCountAnew
restarts-count-anew scenario commands x next off tid decision =
    all_missing (protocols scenario) tid (x ∷ coord_past (story_of scenario commands)) decision
    (λ site. none (stops x.answer) (comes_up x.answer) (is_about tid x.event && decides x.answer)
    (acks_in tid site x || has_acked (coord_past (story_of scenario commands)) tid site) off)
  where
    none : (s c d h : Bool) → (s || c) ≡ true → cond (s || c || d) false h ≡ false
    none true c d h e = refl
    none false true d h e = refl
    none false false d h e = cc

-- a site in doubt has the right presumption
presumes : (scenario : Scenario) (commands : List Command) (home : Home) → home_of scenario home.site ≡ Some home → (tid : Tid)
    → standing (protocols scenario) (coord_past (story_of scenario commands)) tid ≡ Gone → (held : Held)
    → doubt_of (records home (past_of home.site (story_of scenario commands))) tid ≡ Some held
    → presumed home.protocol ≡ outcome (coordinator_keeps scenario commands) tid
presumes scenario commands home declared tid gone held doubt =
    let a = agreed scenario home tid commands declared in
    let p = a.prepared held.epoch (held-prepared (records home (past_of home.site (story_of scenario commands))) tid held doubt) in
    elim (presumes-right scenario home tid (coord_past (story_of scenario commands)) (past_of home.site (story_of scenario commands))
    (sent_to home.site (story_of scenario commands)) (sent_from home.site (story_of scenario commands)) a
    (is-declared scenario home.site home declared).0 gone held.epoch (a.preparing held.epoch p.0 p.1)) [
      | inl right ↦ right
      | inr over ↦ let free = over-free scenario commands home tid declared over in let no : Some held ≡ None = sym doubt ∙ free in cc
    ]

pub presumptions-are-right : PresumptionsAreRight
presumptions-are-right scenario commands site home declared =
    subst (λ s. (tid : Tid) → standing (protocols scenario) (coord_past (story_of scenario commands)) tid ≡ Gone → (held : Held) → doubt_of
    (records home (past_of s (story_of scenario commands))) tid ≡ Some held → presumed home.protocol ≡ outcome
    (coordinator_keeps scenario commands) tid)
    (its-site scenario site home declared) (presumes scenario commands home (home-again scenario site home declared))

-- a line that no stop ends is the rule's
no-stop : (d : Disk CoordRecord) (t : Option Trip) (y : CoordHappening) → stops (tripped coord_frame d t y).answer ≡ false
    → tripped coord_frame d t y ≡ y
unfolding tripped stopped when
no-stop d None y s = refl
no-stop d (Some t) y s = by_test (nat_le t.calls (length y.calls)) s where
  by_test : (b : Bool)
      → stops (when b (stopped coord_frame d y.event (take t.calls y.calls ++ Stops t.cut ∷ [])) y).answer ≡ false
      → when b (stopped coord_frame d y.event (take t.calls y.calls ++ Stops t.cut ∷ [])) y ≡ y
  by_test true s = cc
  by_test false s = refl

-- the line of an inquiry at a coordinator that is up
inquiry-line : (scenario : Scenario) (past : CoordPast) (site : SiteId) (tid : Tid) → is_down past ≡ false
    → stops (coord_line (protocols scenario) (policy scenario) past (Ev.Take site (From.Inquiry tid))).answer ≡ false
    → coord_line (protocols scenario) (policy scenario) past (Ev.Take site (From.Inquiry tid)) ≡ of_inquiry (protocols scenario) past site tid
unfolding coord_line answered of_take
inquiry-line scenario past site tid up s =
    let is : coord_line (protocols scenario) (policy scenario) past (Ev.Take site (From.Inquiry tid)) ≡ tripped coord_frame (Coordinator.disk past)
    (trip past) (of_inquiry (protocols scenario) past site tid) =
    when-false (is_down past) (quiet (Ev.Take site (From.Inquiry tid)) Say.Down)
    (tripped coord_frame (Coordinator.disk past) (trip past) (of_inquiry (protocols scenario) past site tid)) up in
    is ∙ no-stop (Coordinator.disk past) (trip past) (of_inquiry (protocols scenario) past site tid)
    (ap (λ y. stops y.answer) (sym is) ∙ s)

-- the rule's answer to a site in doubt
answers-the-outcome : (scenario : Scenario) (commands : List Command) (site : SiteId) (home : Home) → home_of scenario site ≡ Some home
    → (tid : Tid) → standing (protocols scenario) (coord_past (story_of scenario commands)) tid ≡ Gone → (held : Held)
    → doubt_of (records home (past_of site (story_of scenario commands))) tid ≡ Some held
    → of_inquiry (protocols scenario) (coord_past (story_of scenario commands)) site tid
    ≡ tells site tid (Say.Presumes (outcome (coordinator_keeps scenario commands) tid))
    (outcome (coordinator_keeps scenario commands) tid)
unfolding of_inquiry asked_while
answers-the-outcome scenario commands site home declared tid gone held doubt =
    let known : presumed (protocol_of (protocols scenario) site) ≡ outcome (coordinator_keeps scenario commands) tid =
    ap presumed (is-declared scenario site home declared).1
    ∙ presumptions-are-right scenario commands site home declared tid gone held doubt in
    ap (asked_while (protocols scenario) site tid) gone ∙ ap (λ d. tells site tid (Say.Presumes d) d) known

pub inquiries-are-answered-the-outcome : InquiriesAreAnsweredTheOutcome
inquiries-are-answered-the-outcome scenario commands site home declared tid gone held doubt x (command, e) inquiry up on =
    let l : IsNext scenario (story_of scenario commands) (AtCoordinator x) =
    subst (IsNext scenario (story_of scenario commands)) e (linked scenario (story_of scenario commands) command).next in
    let (event, is, came) = l in
    let t = turn scenario nowhere tid (story_of scenario commands) event came (coord-sound scenario nowhere tid commands) in
    let named : event ≡ Ev.Take site (From.Inquiry tid) = sym t.line.is ∙ (ap (λ y. y.event) (sym is) ∙ inquiry) in
    let line : x ≡ coord_line (protocols scenario) (policy scenario) (coord_past (story_of scenario commands)) (Ev.Take site (From.Inquiry tid)) =
    is ∙ ap (coord_line (protocols scenario) (policy scenario) (coord_past (story_of scenario commands))) named in
    line
    ∙ inquiry-line scenario (coord_past (story_of scenario commands)) site tid up (ap (λ y. stops y.answer) (sym line) ∙ on)
    ∙ answers-the-outcome scenario commands site home declared tid gone held doubt

-- a required participant of an attempt that isn't known has acknowledged
acknowledged : (scenario : Scenario) (commands : List Command) (home : Home) → home_of scenario home.site ≡ Some home → (tid : Tid)
    → standing (protocols scenario) (coord_past (story_of scenario commands)) tid ≡ Gone
    → In (record { site = home.site; protocol = home.protocol })
    (required (protocols scenario) (coordinator_keeps scenario commands) tid (outcome (coordinator_keeps scenario commands) tid))
    → In (From.Ack tid) (sent_from home.site (story_of scenario commands))
acknowledged scenario commands home declared tid gone i = by_named (named (protocols scenario) kept tid) refl i where
  kept : List CoordRecord
  kept = coordinator_keeps scenario commands

  a : Agrees scenario home tid (story_of scenario commands)
  a = agreed scenario home tid commands declared

  member : Participant
  member = record { site = home.site; protocol = home.protocol }

  by_named : (o : Option (List Participant)) → named (protocols scenario) kept tid ≡ o → In member (required_of (outcome kept tid) o)
      → In (From.Ack tid) (sent_from home.site (story_of scenario commands))
  by_named None e i = absurd i
  by_named (Some ms) e i =
      let acking = those-in (λ p. acks p.protocol (outcome kept tid)) member ms i in
      let names = (a.sound.names ms e).1 in
      let visiting = those-in (λ p. visits p.site (program (coord_past (story_of scenario commands)) tid)) member (protocols scenario)
      (subst (In member) names acking.1) in
      a.taken (From.Ack tid)
      (a.sound.gone gone (ap is_some e) (is-declared scenario home.site home declared).0 acking.0 visiting.0)

pub forgotten-are-acknowledged : ForgottenAreAcknowledged
forgotten-are-acknowledged scenario commands site home declared =
    subst (λ s. (tid : Tid) → standing (protocols scenario) (coord_past (story_of scenario commands)) tid ≡ Gone → In
    (record { site = s; protocol = home.protocol })
    (required (protocols scenario) (coordinator_keeps scenario commands) tid (outcome (coordinator_keeps scenario commands) tid)) → In (From.Ack tid)
    (sent_from s (story_of scenario commands)))
    (its-site scenario site home declared) (acknowledged scenario commands home (home-again scenario site home declared))
