-- For each wrong rule of the coordinator a list of commands by which a law breaks.
use Rattle.std.proofs.Common.{◌≡◌, true, false, List, [], ◌∷◌, reverse, inl, refl}
use Rattle.mdb_base.specs.declared.names.Engine.TheVariants.{Locking}
use Rattle.mdb_base.specs.declared.names.Tid.{Tid}
use Rattle.presumptions.specs.declared.Decision.TheVariants as Decided
use Rattle.presumptions.specs.declared.Participant.{Participant}
use Rattle.presumptions.specs.declared.Protocol.{Protocol}
use Rattle.presumptions.specs.declared.Protocol.TheVariants as By
use Rattle.fed_rules.specs.declared.commands.Command.{Command}
use Rattle.fed_rules.specs.declared.scenario.Scenario.{Scenario}
use Rattle.fed_rules.proofs.ForCallers.{at, back, fate, give, global, go, halt, opened, scenario_of, set, site, step_at, take, tid}
use Rattle.coord_laws.specs.Laws.{KnownAreBegun, UndecidedAreUnmarked, DecisionsAreOutcomes, DecidedAreAwaited, RecordsNameParticipants, RecordedAreBegun, CommitOnce}
use Rattle.refuted_rules.specs.Coordinators.{BreaksTheFact, commits_unrecorded, commits_recorded_early, fates_of_unbegun_recorded, initiations_name_every_site, repeated_votes_commit_again}

-- a global transaction that writes at the first of these sites
abbrev one_site : Protocol → Scenario
one_site protocol = scenario_of (site 1 Locking protocol ∷ []) [] (global 1 (step_at 1 (set 1 11) ∷ []) ∷ [])

abbrev two_sites : Scenario
two_sites = scenario_of (site 1 Locking By.Commit ∷ site 2 Locking By.Commit ∷ []) [] (global 1 (step_at 1 (set 1 11) ∷ []) ∷ [])

abbrev attempt : Tid
attempt = tid 1 0

-- the votes are asked for; and the site votes yes, and then these commands, the first one first
abbrev asked : List Command
asked = reverse (go 1 ∷ give 1 0 ∷ take 1 0 ∷ give 1 1 ∷ take 1 1 ∷ [])

abbrev behind_the_vote : List Command → List Command
behind_the_vote commands = reverse (go 1 ∷ give 1 0 ∷ take 1 0 ∷ give 1 1 ∷ take 1 1 ∷ give 1 2 ∷ commands)

pub unrecorded_no_outcome : BreaksTheFact DecisionsAreOutcomes commits_unrecorded
unfolding opened
unrecorded_no_outcome =
    record {
      scenario = one_site By.Nothing;
      commands = behind_the_vote (take 1 2 ∷ []);
      broken = λ h. (let no : Decided.Commit ≡ Decided.Abort = h attempt Decided.Commit refl in cc);
    }

pub unrecorded_unawaited : BreaksTheFact DecidedAreAwaited commits_unrecorded
unfolding opened
unrecorded_unawaited =
    record {
      scenario = one_site By.Nothing;
      commands = behind_the_vote (take 1 2 ∷ []);
      broken = λ h. (let no : true ≡ false = h attempt Decided.Commit refl in cc);
    }

pub early_marked : BreaksTheFact UndecidedAreUnmarked commits_recorded_early
unfolding opened
early_marked =
    record {
      scenario = one_site By.Commit;
      commands = asked;
      broken = λ h. (let no : true ≡ false = (h attempt refl).0 in cc);
    }

-- the coordinator records an abort, stops and comes back
abbrev asked_for_its_fate : List Command
asked_for_its_fate = reverse (fate 1 ∷ halt 0 0 ∷ back 0 ∷ [])

pub unbegun_known : BreaksTheFact KnownAreBegun fates_of_unbegun_recorded
unfolding opened
unbegun_known = record { scenario = one_site By.Nothing; commands = asked_for_its_fate; broken = λ h. h attempt refl }

pub unbegun_recorded : BreaksTheFact RecordedAreBegun fates_of_unbegun_recorded
unfolding opened
unbegun_recorded = record { scenario = one_site By.Nothing; commands = asked_for_its_fate; broken = λ h. h.1.0 }

abbrev both : List Participant
both = record { site = at 1; protocol = By.Commit } ∷ record { site = at 2; protocol = By.Commit } ∷ []

pub every_site_named : BreaksTheFact RecordsNameParticipants initiations_name_every_site
unfolding opened
every_site_named =
    record {
      scenario = two_sites;
      commands = asked;
      broken = λ h. (let no : both ≡ record { site = at 1; protocol = By.Commit } ∷ [] = h attempt both refl in cc);
    }

pub committed_twice : BreaksTheFact CommitOnce repeated_votes_commit_again
unfolding opened
committed_twice =
    record { scenario = one_site By.Nothing; commands = behind_the_vote (take 1 2 ∷ take 1 2 ∷ []); broken = λ h. h.0 (inl refl) }
