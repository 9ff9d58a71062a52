-- A doubt is ended by three commands: the site asks, the coordinator takes the inquiry, and the site is given the answer.
use Rattle.std.proofs.Common.{◌≡◌, ℕ, false, cond, Option, Some, None, List, [], ◌∷◌, ◌++◌, map, length, inl, refl, sym, ap, subst, ◌∙◌}
use Rattle.mdb_base.specs.declared.names.SiteId.{SiteId}
use Rattle.mdb_base.specs.declared.names.Tid.{Tid}
use Rattle.mdb_base.specs.Words.{given, item_at}
use Rattle.mdb_base.proofs.ForCallers.{cond-true, same_site-refl, same_tid-refl}
use Rattle.presumptions.specs.declared.Decision.{Decision}
use Rattle.presumptions.specs.Table.{presumed}
use Rattle.fed_rules.specs.declared.answers.Answer.{Answer}
use Rattle.fed_rules.specs.declared.answers.Answer.TheVariants as Say
use Rattle.fed_rules.specs.declared.commands.Command.{Command}
use Rattle.fed_rules.specs.declared.commands.Command.TheVariants as Cmd
use Rattle.fed_rules.specs.declared.events.SiteEvent.TheVariants as Ev
use Rattle.fed_rules.specs.declared.messages.FromSite.TheVariants as From
use Rattle.fed_rules.specs.declared.messages.Sent.{Sent}
use Rattle.fed_rules.specs.declared.messages.ToSite.TheVariants as To
use Rattle.fed_rules.specs.declared.scenario.Scenario.{Scenario}
use Rattle.fed_rules.specs.Coord.{asked_while, of_inquiry, of_take, protocol_of, tells}
use Rattle.fed_rules.specs.CoordPast as Coordinator
use Rattle.fed_rules.specs.CoordPast.{CoordHappening, Standing, Decided, Gone, Undecided, is_open, known_decision, standing, standing_of}
use Rattle.fed_rules.specs.Happenings.{quiet}
use Rattle.fed_rules.specs.Scenarios.{home_of, policy, protocols}
use Rattle.fed_rules.specs.Site.{of_ask, of_decide, of_give, settles, site_line, unheld}
use Rattle.fed_rules.specs.Runs.{Aborts}
use Rattle.fed_rules.specs.SitePast.{SiteHappening, SitePast, live, records, trip_of}
use Rattle.fed_rules.specs.SiteRecords.{Held, Home, doubt_of}
use Rattle.fed_rules.specs.Story.{AtCoordinator, AtSite, Nowhere, Story, answer_of, coord_past, happens, on_give, on_site, past_of, sends_to, sent_from, sent_to, story_of, with_coordinator, with_site}
use Rattle.closing_laws.proofs.ForCallers.{IsReady, asks, at_home, gives, item_behind, ready_next, sent_behind, takes, takes_there}
use Rattle.commit_laws.specs.Outcomes.{SettlesSayTheOutcome}
use Rattle.commit_laws.specs.Outcomes.{Settles}
use Rattle.commit_laws.proofs.ForCallers.{settles-records}
use Rattle.progress_laws.specs.Progress.{AreReady, DoubtsEndInThree, EndsDoubt, answer_given, asked, taken}

-- the line that asks
asking : Tid → SiteHappening
asking tid = record { event = Ev.Ask tid; answer = Say.Asks tid; sends = From.Inquiry tid ∷ []; calls = []; lines = [] }

-- what is told of an attempt that is decided or not known
record IsTold (scenario : Scenario) (story : Story) (site : SiteId) (tid : Tid) : Type 0 where
  answer : Answer
  decision : Decision
  is : asked_while (protocols scenario) site tid (standing (protocols scenario) (coord_past story) tid) ≡ tells site tid answer decision

told_of : (scenario : Scenario) (story : Story) (site : SiteId) (tid : Tid) → is_open (coord_past story) tid ≡ false → IsTold scenario story site tid
unfolding asked_while
told_of scenario story site tid e = by_known (known_decision (protocols scenario) (coord_past story) tid) refl
  where
    by_known : (o : Option Decision) → known_decision (protocols scenario) (coord_past story) tid ≡ o → IsTold scenario story site tid
    by_known (Some d) k = record {
      answer = Say.Answers d;
      decision = d;
      is = ap (λ b. asked_while (protocols scenario) site tid (standing_of b (known_decision (protocols scenario) (coord_past story) tid))) e
          ∙ ap (λ o. asked_while (protocols scenario) site tid (standing_of false o)) k;
    }
    by_known None k = record {
      answer = Say.Presumes (presumed (protocol_of (protocols scenario) site));
      decision = presumed (protocol_of (protocols scenario) site);
      is = ap (λ b. asked_while (protocols scenario) site tid (standing_of b (known_decision (protocols scenario) (coord_past story) tid))) e
          ∙ ap (λ o. asked_while (protocols scenario) site tid (standing_of false o)) k;
    }

module _ (scenario : Scenario) (commands : List Command) (home : Home) (tid : Tid) (held : Held) (declared : home_of scenario home.site ≡ Some home)
    (ready : AreReady home.site (story_of scenario commands)) (shut : is_open (coord_past (story_of scenario commands)) tid ≡ false)
    (doubt : doubt_of (records home (past_of home.site (story_of scenario commands))) tid ≡ Some held) where
  abbrev story : Story
  story = story_of scenario commands

  abbrev past : SitePast
  past = past_of home.site story

  site_ready : IsReady trip_of past
  site_ready = record { up = ready.site_up; untripped = ready.site_untripped }

  coord_ready : IsReady Coordinator.trip_of (coord_past story)
  coord_ready = record { up = ready.coordinator_up; untripped = ready.coordinator_untripped }

  -- the site asks
  asks_so : happens scenario story (Cmd.Ask home.site tid) ≡ AtSite home.site (asking tid)
  unfolding happens of_ask asking given
  asks_so =
      at_home scenario story home (Ev.Ask tid) declared
      ∙ ap (λ x. AtSite home.site x) (asks home past tid site_ready ∙ ap (λ q. given q (λ held. asking tid) (quiet (Ev.Ask tid) Say.Idle)) doubt)

  -- what a site's line is to its past
  own_line : (x : SiteHappening) (older : SitePast) → with_site home.site (AtSite home.site x) older ≡ x ∷ older
  own_line x older = ap (λ b. cond b (x ∷ older) older) (same_site-refl home.site)

  past_asked : past_of home.site (story_of scenario (asked home.site tid commands)) ≡ asking tid ∷ past
  past_asked = ap (λ h. with_site home.site h past) asks_so ∙ own_line (asking tid) past

  coord_asked : coord_past (story_of scenario (asked home.site tid commands)) ≡ coord_past story
  coord_asked = ap (λ h. with_coordinator h (coord_past story)) asks_so

  place : ℕ
  place = length (sent_from home.site story)

  inquiry_there : item_at (sent_from home.site (story_of scenario (asked home.site tid commands))) (length (sent_from home.site story)) ≡ Some (From.Inquiry tid)
  unfolding asking
  inquiry_there =
      ap (λ h. item_at (sent_from home.site (record { command = Cmd.Ask home.site tid; happened = h } ∷ story)) (length (sent_from home.site story))) asks_so
      ∙ sent_behind story (Cmd.Ask home.site tid) home.site (asking tid) (From.Inquiry tid) refl

  told : IsTold scenario (story_of scenario (asked home.site tid commands)) home.site tid
  told = told_of scenario (story_of scenario (asked home.site tid commands)) home.site tid (ap (λ p. is_open p tid) coord_asked ∙ shut)

  -- the coordinator takes the inquiry
  takes_so : happens scenario (story_of scenario (asked home.site tid commands)) (Cmd.Take home.site (length (sent_from home.site story))) ≡ AtCoordinator (tells home.site tid told.answer told.decision)
  unfolding of_take of_inquiry
  takes_so =
      takes_there scenario (story_of scenario (asked home.site tid commands)) home.site (length (sent_from home.site story)) (From.Inquiry tid) inquiry_there
      ∙ ap (λ x. AtCoordinator x)
      (takes (protocols scenario) (policy scenario) (coord_past (story_of scenario (asked home.site tid commands))) home.site (From.Inquiry tid) (subst (λ p. IsReady Coordinator.trip_of p) (sym coord_asked) coord_ready) ∙ told.is)

  number : ℕ
  number = length (sent_to home.site (story_of scenario (asked home.site tid commands)))

  decision_there : item_at (sent_to home.site (story_of scenario (taken scenario home.site tid commands))) (length (sent_to home.site (story_of scenario (asked home.site tid commands)))) ≡ Some (To.Decide tid told.decision)
  decision_there =
      let before = sent_to home.site (story_of scenario (asked home.site tid commands)) in
      ap (λ h. item_at (before ++ sends_to home.site h) (length before)) takes_so
      ∙ (ap (λ b. item_at (before ++ map (λ (sent : Sent). sent.message) (cond b (record { site = home.site; message = To.Decide tid told.decision } ∷ []) [])) (length before)) (same_site-refl home.site)
      ∙ item_behind before [] (To.Decide tid told.decision))

  past_taken : past_of home.site (story_of scenario (taken scenario home.site tid commands)) ≡ asking tid ∷ past
  past_taken = ap (λ h. with_site home.site h (past_of home.site (story_of scenario (asked home.site tid commands)))) takes_so ∙ past_asked

  asked_ready : IsReady trip_of (asking tid ∷ past)
  unfolding asking
  asked_ready = ready_next trip_of past (asking tid) refl refl site_ready

  decides_so : of_decide home (asking tid ∷ past) tid told.decision ≡ settles home tid told.decision
  unfolding of_decide asking given
  decides_so = ap (λ o. given o (λ held. settles home tid told.decision) (given (live home (asking tid ∷ past) tid) (λ run. unheld home tid told.decision (Aborts tid ∷ [])) (unheld home tid told.decision []))) doubt

  -- the site is given the answer
  gives_so : happens scenario (story_of scenario (taken scenario home.site tid commands)) (Cmd.Give home.site (length (sent_to home.site (story_of scenario (asked home.site tid commands))))) ≡ AtSite home.site (settles home tid told.decision)
  unfolding happens on_give given of_give
  gives_so =
      let now = story_of scenario (taken scenario home.site tid commands) in
      ap (λ o. given o (λ message. on_site scenario now home.site (Ev.Give message)) (Nowhere Say.None)) decision_there
      ∙ (at_home scenario now home (Ev.Give (To.Decide tid told.decision)) declared
      ∙ ap (λ x. AtSite home.site x)
      (ap (λ p. site_line home p (Ev.Give (To.Decide tid told.decision))) past_taken
      ∙ (gives home (asking tid ∷ past) (To.Decide tid told.decision) asked_ready ∙ decides_so)))

  past_given : past_of home.site (story_of scenario (answer_given scenario home.site tid commands)) ≡ settles home tid told.decision ∷ past_of home.site (story_of scenario (taken scenario home.site tid commands))
  past_given =
      let older = past_of home.site (story_of scenario (taken scenario home.site tid commands)) in
      ap (λ h. with_site home.site h older) gives_so ∙ own_line (settles home tid told.decision) older

  ends_doubt : SettlesSayTheOutcome → EndsDoubt scenario home tid commands
  unfolding settles
  ends_doubt law = record {
    decision = told.decision;
    settles = ap answer_of gives_so;
    outcome = law scenario (answer_given scenario home.site tid commands) home.site home declared tid told.decision (subst (λ p. Settles p tid told.decision) (sym past_given) (inl refl));
    settled =
        ap (λ p. doubt_of (records home p) tid) past_given
        ∙ (ap (λ rs. doubt_of rs tid) (settles-records home (past_of home.site (story_of scenario (taken scenario home.site tid commands))) tid told.decision) ∙ cond-true _ _ _ (same_tid-refl tid));
  }

pub doubts_end : SettlesSayTheOutcome → DoubtsEndInThree
doubts_end law scenario commands home tid held declared ready shut doubt = ends_doubt scenario commands home tid held declared ready shut doubt law
