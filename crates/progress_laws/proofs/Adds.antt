-- Which commands the end of a session adds, step by step as it is made.
use Rattle.std.proofs.Common.{◌≡◌, ℕ, zero, suc, ◌*◌, Bool, true, not, is_some, Option, Some, None, List, [], ◌∷◌, ◌++◌, length, refl, sym, ◌∙◌, ap, append_assoc}
use Rattle.mdb_base.specs.declared.acts.Step.{Step}
use Rattle.mdb_base.specs.declared.names.SiteId.{SiteId}
use Rattle.mdb_base.specs.declared.names.Tid.{Tid}
use Rattle.mdb_base.specs.declared.names.Tx.{Tx}
use Rattle.mdb_base.specs.Words.{those}
use Rattle.mdb_base.proofs.ForCallers.{append_each}
use Rattle.fed_rules.specs.declared.commands.Command.{Command}
use Rattle.fed_rules.specs.declared.commands.Command.TheVariants as Cmd
use Rattle.fed_rules.specs.declared.commands.Place.{Place}
use Rattle.fed_rules.specs.declared.scenario.Scenario.{Scenario}
use Rattle.fed_rules.specs.declared.scenario.TxLine.{TxLine}
use Rattle.fed_rules.specs.Closing.{actors, ask_all, ask_site, bring_up, by_number, clear, clear_site, closed, deliver, deliver_all, disarm, end_known, finished_alone, for_each, give_up, global_alone, in_doubt_at, inquire, is_done, known, last_sends, live, local_alone, one_alone, send_again, sent_next, steps_alone, take_answers, taken, undecided}
use Rattle.fed_rules.specs.CoordPast as Coordinator
use Rattle.fed_rules.specs.Happenings.{is_down}
use Rattle.fed_rules.specs.Scenarios.{home_of, sites}
use Rattle.fed_rules.specs.Sessions.{fresh}
use Rattle.fed_rules.specs.SitePast.{is_local, trip}
use Rattle.fed_rules.specs.Story.{Story, past_of, story_of}
use Rattle.progress_laws.specs.Added.{Adds, is_of_clients, is_of_closing}

module _ (test : Command → Bool) where
  here : (commands : List Command) → Adds test commands commands
  here commands = record { front = []; is = refl; each = tt }

  one : (command : Command) (commands : List Command) → test command ≡ true → Adds test (command ∷ commands) commands
  one command commands e = record { front = command ∷ []; is = refl; each = (e, tt) }

  twice : (a b c : List Command) → Adds test c b → Adds test b a → Adds test c a
  twice a b c x y = record {
    front = x.front ++ y.front;
    is = x.is ∙ (ap (λ cs. x.front ++ cs) y.is ∙ sym (append_assoc x.front y.front a));
    each = append_each (λ command. test command ≡ true) x.front y.front x.each y.each;
  }

  each_adds : {A : Type 0} (add : A → List Command → List Command) → ((x : A) (commands : List Command) → Adds test (add x commands) commands)
      → (xs : List A) (commands : List Command) → Adds test (for_each add xs commands) commands
  each_adds add f [] commands = here commands
  each_adds add f (x ∷ xs) commands = twice commands (add x commands) (for_each add xs (add x commands)) (each_adds add f xs (add x commands)) (f x commands)

  pushes : {A : Type 0} (f : A → Command) → ((x : A) → test (f x) ≡ true) → (xs : List A) (commands : List Command) → Adds test (for_each (λ x more. f x ∷ more) xs commands) commands
  pushes f e = each_adds (λ x more. f x ∷ more) (λ x commands. one (f x) commands (e x))

  -- messages are given and taken
  module _ (scenario : Scenario) (takes : (site : SiteId) (place : ℕ) → test (Cmd.Take site place) ≡ true) (gives : (site : SiteId) (place : ℕ) → test (Cmd.Give site place) ≡ true) where
    takes_add : (places : List Place) (commands : List Command) → Adds test (take_answers places commands) commands
    takes_add [] commands = here commands
    takes_add (place ∷ places) commands =
        let next = Cmd.Take place.site place.place ∷ commands in
        twice commands next (take_answers places next) (takes_add places next) (one (Cmd.Take place.site place.place) commands (takes place.site place.place))

    taken_adds : (commands : List Command) → Adds test (taken (fresh scenario) commands) commands
    taken_adds commands = takes_add (last_sends (fresh scenario) commands) commands

    deliver_adds : (place : Place) (commands : List Command) → Adds test (deliver (fresh scenario) place commands) commands
    deliver_adds place commands =
        let next = Cmd.Give place.site place.place ∷ commands in
        twice commands next (taken (fresh scenario) next) (taken_adds next) (one (Cmd.Give place.site place.place) commands (gives place.site place.place))

-- ---- closing

module _ (scenario : Scenario) where
  abbrev Quiet : List Command → List Command → Type 0
  Quiet = Adds is_of_closing

  quiet : (a b c : List Command) → Quiet c b → Quiet b a → Quiet c a
  quiet = twice is_of_closing

  again_adds : (tid : Tid) (commands : List Command) → Quiet (send_again (fresh scenario) tid commands) commands
  again_adds tid commands =
      let next = Cmd.Again tid ∷ commands in
      quiet commands next (for_each (deliver (fresh scenario)) (last_sends (fresh scenario) next) next)
      (each_adds is_of_closing (deliver (fresh scenario)) (deliver_adds is_of_closing scenario (λ site place. refl) (λ site place. refl)) (last_sends (fresh scenario) next) next)
      (one is_of_closing (Cmd.Again tid) commands refl)

  inquire_adds : (site : SiteId) (tid : Tid) (commands : List Command) → Quiet (inquire (fresh scenario) site tid commands) commands
  inquire_adds site tid commands =
      let next = Cmd.Ask site tid ∷ commands in
      let asked = taken (fresh scenario) next in
      quiet commands asked (for_each (λ (place : Place) more. Cmd.Give place.site place.place ∷ more) (last_sends (fresh scenario) asked) asked)
      (pushes is_of_closing (λ (place : Place). Cmd.Give place.site place.place) (λ place. refl) (last_sends (fresh scenario) asked) asked)
      (quiet commands next asked (taken_adds is_of_closing scenario (λ s place. refl) (λ s place. refl) next) (one is_of_closing (Cmd.Ask site tid) commands refl))

  disarm_adds : (commands : List Command) → Quiet (disarm (fresh scenario) commands) commands
  disarm_adds commands =
      pushes is_of_closing (λ actor. Cmd.Trip actor 0 0) (λ actor. refl) (actors (λ past. is_some (Coordinator.trip past)) (λ past. is_some (trip past)) scenario (story_of scenario commands)) commands

  bring_up_adds : (commands : List Command) → Quiet (bring_up (fresh scenario) commands) commands
  bring_up_adds commands =
      pushes is_of_closing (λ actor. Cmd.Back actor) (λ actor. refl) (actors (λ past. is_down past) (λ past. is_down past) scenario (story_of scenario commands)) commands

  give_up_adds : (commands : List Command) → Quiet (give_up (fresh scenario) commands) commands
  give_up_adds commands = pushes is_of_closing (λ tid. Cmd.Late tid) (λ tid. refl) (undecided (story_of scenario commands)) commands

  clear_site_adds : (story : Story) (site : SiteId) (commands : List Command) → Quiet (clear_site scenario story site commands) commands
  clear_site_adds story site commands =
      let aborts = for_each (λ (tid : Tid) more. Cmd.Abort tid.tx ∷ more) (those (is_local (past_of site story)) (live scenario story site)) commands in
      quiet commands aborts (clear_site scenario story site commands)
      (pushes is_of_closing (λ tid. Cmd.Drop site tid) (λ tid. refl) (those (λ tid. not (is_local (past_of site story) tid)) (live scenario story site)) aborts)
      (pushes is_of_closing (λ (tid : Tid). Cmd.Abort tid.tx) (λ tid. refl) (those (is_local (past_of site story)) (live scenario story site)) commands)

  clear_adds : (commands : List Command) → Quiet (clear (fresh scenario) commands) commands
  clear_adds commands = each_adds is_of_closing (clear_site scenario (story_of scenario commands)) (clear_site_adds (story_of scenario commands)) (sites scenario) commands

  end_known_adds : (commands : List Command) → Quiet (end_known (fresh scenario) commands) commands
  end_known_adds commands = each_adds is_of_closing (send_again (fresh scenario)) again_adds (known scenario (story_of scenario commands)) commands

  ask_site_adds : (story : Story) (site : SiteId) (commands : List Command) → Quiet (ask_site (fresh scenario) story site commands) commands
  ask_site_adds story site commands = each_adds is_of_closing (inquire (fresh scenario) site) (inquire_adds site) (in_doubt_at (home_of scenario site) story) commands

  ask_all_adds : (commands : List Command) → Quiet (ask_all (fresh scenario) commands) commands
  ask_all_adds commands = each_adds is_of_closing (ask_site (fresh scenario) (story_of scenario commands)) (ask_site_adds (story_of scenario commands)) (sites scenario) commands

  pub closing_adds : (commands : List Command) → Adds is_of_closing (closed scenario commands) commands
  closing_adds commands =
      let first = disarm (fresh scenario) commands in
      let second = bring_up (fresh scenario) first in
      let third = give_up (fresh scenario) second in
      let fourth = clear (fresh scenario) third in
      let fifth = end_known (fresh scenario) fourth in
      quiet commands fifth (closed scenario commands) (ask_all_adds fifth)
      (quiet commands fourth fifth (end_known_adds fourth)
      (quiet commands third fourth (clear_adds third)
      (quiet commands second third (give_up_adds second)
      (quiet commands first second (bring_up_adds first) (disarm_adds commands)))))

-- ---- finishing alone

module _ (scenario : Scenario) where
  abbrev Plain : List Command → List Command → Type 0
  Plain = Adds is_of_clients

  plain : (a b c : List Command) → Plain c b → Plain b a → Plain c a
  plain = twice is_of_clients

  steps_add : (tx : Tx) (steps : List Step) (commands : List Command) → Plain (steps_alone tx steps commands) commands
  steps_add tx [] commands = here is_of_clients commands
  steps_add tx (step ∷ steps) commands =
      let next = Cmd.Step tx ∷ commands in
      plain commands next (steps_alone tx steps next) (steps_add tx steps next) (one is_of_clients (Cmd.Step tx) commands refl)

  local_adds : (tx : Tx) (steps : List Step) (commands : List Command) → Plain (local_alone tx steps commands) commands
  local_adds tx steps commands =
      let next = Cmd.Begin tx ∷ commands in
      let done = steps_alone tx steps next in
      plain commands done (Cmd.Commit tx ∷ done) (one is_of_clients (Cmd.Commit tx) done refl) (plain commands next done (steps_add tx steps next) (one is_of_clients (Cmd.Begin tx) commands refl))

  delivers_add : (n : ℕ) (places : List Place) (commands : List Command) → Plain (deliver_all scenario n places commands) commands
  delivers_add zero places commands = here is_of_clients commands
  delivers_add (suc n) [] commands = here is_of_clients commands
  delivers_add (suc n) (place ∷ places) commands =
      let given = Cmd.Give place.site place.place ∷ commands in
      let answered = taken (fresh scenario) given in
      let later = places ++ sent_next scenario answered (last_sends (fresh scenario) given) in
      plain commands answered (deliver_all scenario n later answered) (delivers_add n later answered)
      (plain commands given answered (taken_adds is_of_clients scenario (λ site place. refl) (λ site place. refl) given) (one is_of_clients (Cmd.Give place.site place.place) commands refl))

  global_adds : (tx : Tx) (steps : List Step) (commands : List Command) → Plain (global_alone scenario tx steps commands) commands
  global_adds tx steps commands =
      let begun = Cmd.Go tx ∷ commands in
      plain commands begun (global_alone scenario tx steps commands) (delivers_add (4 * length steps) (last_sends (fresh scenario) begun) begun) (one is_of_clients (Cmd.Go tx) commands refl)

  one_adds : (line : TxLine) (home : Option SiteId) (commands : List Command) → Plain (one_alone scenario line home commands) commands
  one_adds line None commands = global_adds line.tx line.program commands
  one_adds line (Some site) commands = local_adds line.tx line.program commands

  pub finishing_adds : (commands : List Command) → Adds is_of_clients (finished_alone scenario commands) commands
  finishing_adds commands =
      each_adds is_of_clients (λ (line : TxLine). one_alone scenario line line.home) (λ line. one_adds line line.home)
      (those (λ line. not (is_done scenario (story_of scenario commands) line.tx)) (by_number scenario.transactions)) commands
