-- Where an attempt is undecided, giving it up decides it, and leaves the site and the coordinator ready.
use Rattle.std.proofs.Common.{◌≡◌, ◌⊎◌, Bool, true, false, cond, List, ◌∷◌, inl, inr, refl, sym, ap, subst, ◌∙◌}
use Rattle.mdb_base.specs.declared.names.Tid.{Tid}
use Rattle.mdb_base.specs.Names.{same_tid}
use Rattle.mdb_base.specs.Words.{some_of, when}
use Rattle.mdb_base.proofs.ForCallers.{among_some, same_tid-refl}
use Rattle.order_laws.proofs.ForCallers.{is_among}
use Rattle.fed_rules.specs.declared.answers.Answer.TheVariants as Say
use Rattle.fed_rules.specs.declared.answers.Cause.TheVariants as For
use Rattle.fed_rules.specs.declared.commands.Command.{Command}
use Rattle.fed_rules.specs.declared.commands.Command.TheVariants as Cmd
use Rattle.fed_rules.specs.declared.events.CoordEvent.TheVariants as Ev
use Rattle.fed_rules.specs.declared.scenario.Scenario.{Scenario}
use Rattle.fed_rules.specs.Coord.{aborts, of_late}
use Rattle.fed_rules.specs.CoordCommands.{attempt_request}
use Rattle.fed_rules.specs.CoordPast as Coordinator
use Rattle.fed_rules.specs.CoordPast.{CoordHappening, CoordPast, begun_tids, is_open, known_decision, standing, standing_of}
use Rattle.fed_rules.specs.Happenings.{is_down, quiet}
use Rattle.fed_rules.specs.Requests.{Declines, Submits}
use Rattle.fed_rules.specs.Scenarios.{policy, protocols}
use Rattle.fed_rules.specs.SitePast.{records, trip}
use Rattle.fed_rules.specs.SiteRecords.{Home, doubt_of}
use Rattle.fed_rules.specs.Story.{AtCoordinator, coord_past, coord_requested, happens, on_attempt, past_of, story_of, with_coordinator, with_site}
use Rattle.commit_laws.proofs.ForCallers.{coord-sound, nowhere}
use Rattle.coord_laws.proofs.ForCallers.{begun_in, is_undecided}
use Rattle.closing_laws.proofs.ForCallers.{IsReady, lates, ready_next}
use Rattle.progress_laws.specs.Progress.{DoubtsEndInFour, DoubtsEndInThree, EndsDoubt}

module _ (scenario : Scenario) (commands : List Command) (tid : Tid) (undecided : is_open (coord_past (story_of scenario commands)) tid ≡ true)
    (ready : IsReady Coordinator.trip_of (coord_past (story_of scenario commands))) where
  abbrev own : CoordPast
  own = coord_past (story_of scenario commands)

  -- it was begun
  listed : some_of (same_tid tid) (begun_tids own) ≡ true
  listed =
      let known : is_undecided (standing (protocols scenario) own tid) ≡ true = ap (λ b. is_undecided (standing_of b (known_decision (protocols scenario) own tid))) undecided in
      let i = begun_in own tid ((coord-sound scenario nowhere tid commands).undecided known) in
      among_some (same_tid tid) (begun_tids own) (is_among (λ t. same_tid tid t ≡ true) tid (begun_tids own) i (same_tid-refl tid))

  abbrev line : CoordHappening
  line = aborts (protocols scenario) own (Ev.Late tid) tid For.Late

  gives_up : happens scenario (story_of scenario commands) (Cmd.Late tid) ≡ AtCoordinator (aborts (protocols scenario) (coord_past (story_of scenario commands)) (Ev.Late tid) tid For.Late)
  unfolding happens on_attempt attempt_request when of_late
  gives_up =
      ap (λ b. coord_requested scenario (story_of scenario commands) (when b (Submits (Ev.Late tid)) (Declines Say.None))) listed
      ∙ ap (λ x. AtCoordinator x) (lates (protocols scenario) (policy scenario) own tid ready ∙ ap (λ b. when b (aborts (protocols scenario) own (Ev.Late tid) tid For.Late) (quiet (Ev.Late tid) Say.Idle)) undecided)

  past_behind : coord_past (story_of scenario (Cmd.Late tid ∷ commands)) ≡ aborts (protocols scenario) (coord_past (story_of scenario commands)) (Ev.Late tid) tid For.Late ∷ coord_past (story_of scenario commands)
  past_behind = ap (λ h. with_coordinator h own) gives_up

  site_behind : (home : Home) → past_of home.site (story_of scenario (Cmd.Late tid ∷ commands)) ≡ past_of home.site (story_of scenario commands)
  site_behind home = ap (λ h. with_site home.site h (past_of home.site (story_of scenario commands))) gives_up

  ready_behind : IsReady Coordinator.trip_of (coord_past (story_of scenario (Cmd.Late tid ∷ commands)))
  unfolding aborts
  ready_behind = subst (λ p. IsReady Coordinator.trip_of p) (sym past_behind) (ready_next Coordinator.trip_of own (aborts (protocols scenario) own (Ev.Late tid) tid For.Late) refl refl ready)

  decided_behind : is_open (coord_past (story_of scenario (Cmd.Late tid ∷ commands))) tid ≡ false
  unfolding aborts
  decided_behind = ap (λ p. is_open p tid) past_behind ∙ ap (λ b. cond b false (is_open own tid)) (same_tid-refl tid)

pub doubts_end_late : DoubtsEndInThree → DoubtsEndInFour
doubts_end_late law scenario commands home tid held declared ready doubt = by_open (is_open (coord_past (story_of scenario commands)) tid) refl
  where
    by_open : (b : Bool) → is_open (coord_past (story_of scenario commands)) tid ≡ b → EndsDoubt scenario home tid commands ⊎ EndsDoubt scenario home tid (Cmd.Late tid ∷ commands)
    by_open false e = inl (law scenario commands home tid held declared ready e doubt)
    by_open true e =
        let coord : IsReady Coordinator.trip_of (coord_past (story_of scenario commands)) = record { up = ready.coordinator_up; untripped = ready.coordinator_untripped } in
        let behind = ready_behind scenario commands tid e coord in
        let same = site_behind scenario commands tid e coord home in
        inr (law scenario (Cmd.Late tid ∷ commands) home tid held declared
        (record {
          coordinator_up = behind.up;
          coordinator_untripped = behind.untripped;
          site_up = ap (λ p. is_down p) same ∙ ready.site_up;
          site_untripped = ap (λ p. trip p) same ∙ ready.site_untripped;
        })
        (decided_behind scenario commands tid e coord) (ap (λ p. doubt_of (records home p) tid) same ∙ doubt))
