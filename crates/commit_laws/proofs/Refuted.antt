-- For each wrong rule a list of commands by which a law of commitment breaks.
use Rattle.std.proofs.Common.{◌≡◌, ℕ, Bool, true, false, List, [], ◌∷◌, reverse, refl, sym, ◌∙◌, inl}
use Rattle.mdb_base.specs.declared.names.Engine.TheVariants.{Locking}
use Rattle.mdb_base.specs.declared.names.Tid.{Tid}
use Rattle.presumptions.specs.declared.Decision.{Decision}
use Rattle.presumptions.specs.declared.Decision.TheVariants as Decided
use Rattle.presumptions.specs.declared.Protocol.{Protocol}
use Rattle.presumptions.specs.declared.Protocol.TheVariants as By
use Rattle.fed_rules.specs.declared.commands.Command.{Command}
use Rattle.fed_rules.specs.declared.events.SiteEvent.{SiteEvent}
use Rattle.fed_rules.specs.declared.events.SiteEvent.TheVariants.{Begin, Act, Commit, Abort, Fate, Give, Ask, Drop, Halt, Trip, Back, Check}
use Rattle.fed_rules.specs.declared.messages.ToSite.TheVariants.{Work, Take, Prepare, Decide}
use Rattle.fed_rules.specs.declared.scenario.Scenario.{Scenario}
use Rattle.fed_rules.specs.CoordPast as Coordinator
use Rattle.fed_rules.specs.CoordRecords.{outcome}
use Rattle.fed_rules.specs.SitePast.{SitePast, epoch}
use Rattle.fed_rules.specs.SiteRecords.{Home}
use Rattle.fed_rules.specs.Story.{coord_past, past_of}
use Rattle.fed_rules.proofs.ForCallers.{again, ask, at, back, give, global, go, halt, late, opened, scenario_of, set, site, step_at, take, tid, trip}
use Rattle.commit_laws.specs.WrongRules.{Rules, story_by, aborts_acknowledged_early, commits_forgotten_at_once, abort_always_presumed, commit_always_presumed, prepares_sent_early, epochs_ignored, torn_records_kept, BreaksTheOutcome, SealsElsewhere, BreaksTheEpoch, SealsALaterRun}
use Rattle.commit_laws.specs.Seals.{seals, IsPrepareOf}

-- a global transaction that writes at one site of this protocol
abbrev one_site : Protocol → Scenario
one_site protocol = scenario_of (site 1 Locking protocol ∷ []) [] (global 1 (step_at 1 (set 1 11) ∷ []) ∷ [])

abbrev home : Protocol → Home
home protocol = record { site = at 1; engine = Locking; protocol = protocol; items = [] }

abbrev attempt : Tid
attempt = tid 1 0

-- these commands behind those that bring the attempt to its vote, the first one first
abbrev behind_the_vote : List Command → List Command
behind_the_vote commands =
    reverse (go 1 ∷ give 1 0 ∷ take 1 0 ∷ give 1 1 ∷ take 1 1 ∷ give 1 2 ∷ commands)

abbrev outcome_by : Rules → Protocol → List Command → Decision
outcome_by rules protocol commands = outcome (Coordinator.records (coord_past (story_by rules (one_site protocol) commands))) attempt

-- a site that presumes commit acknowledges an abort, loses its Ended record, and is answered commit
abbrev early_commands : List Command
early_commands = behind_the_vote (late attempt ∷ give 1 3 ∷ take 1 3 ∷ halt 1 0 ∷ back 1 ∷ ask 1 attempt ∷ take 1 4 ∷ give 1 4 ∷ [])

early_outcome : outcome_by aborts_acknowledged_early By.Commit early_commands ≡ Decided.Abort
unfolding opened
early_outcome = refl

pub aborts_acknowledged_early_refuted : BreaksTheOutcome aborts_acknowledged_early By.Commit
unfolding opened
aborts_acknowledged_early_refuted = record {
  scenario = one_site By.Commit;
  commands = early_commands;
  site = at 1;
  home = home By.Commit;
  declared = refl;
  follows = refl;
  tid = attempt;
  decision = Decided.Commit;
  settles = inl refl;
  wrong = (λ e. let no : Decided.Commit ≡ Decided.Abort = e ∙ early_outcome in cc);
}

-- a committed attempt is forgotten, and a site in doubt that presumes abort is answered abort
abbrev forgotten_commands : List Command
forgotten_commands = behind_the_vote (take 1 2 ∷ ask 1 attempt ∷ take 1 3 ∷ give 1 4 ∷ [])

pub forgotten_outcome : outcome_by commits_forgotten_at_once By.Abort forgotten_commands ≡ Decided.Commit
unfolding opened
forgotten_outcome = refl

unfoldable pub commits_forgotten_at_once_refuted : BreaksTheOutcome commits_forgotten_at_once By.Abort
unfolding opened
commits_forgotten_at_once_refuted = record {
  scenario = one_site By.Abort;
  commands = forgotten_commands;
  site = at 1;
  home = home By.Abort;
  declared = refl;
  follows = refl;
  tid = attempt;
  decision = Decided.Abort;
  settles = inl refl;
  wrong = (λ e. let no : Decided.Abort ≡ Decided.Commit = e ∙ forgotten_outcome in cc);
}

-- and so is one that presumes nothing
forgotten_by_nothing : outcome_by commits_forgotten_at_once By.Nothing forgotten_commands ≡ Decided.Commit
unfolding opened
forgotten_by_nothing = refl

pub commits_forgotten_by_nothing_refuted : BreaksTheOutcome commits_forgotten_at_once By.Nothing
unfolding opened
commits_forgotten_by_nothing_refuted = record {
  scenario = one_site By.Nothing;
  commands = forgotten_commands;
  site = at 1;
  home = home By.Nothing;
  declared = refl;
  follows = refl;
  tid = attempt;
  decision = Decided.Abort;
  settles = inl refl;
  wrong = (λ e. let no : Decided.Abort ≡ Decided.Commit = e ∙ forgotten_by_nothing in cc);
}

-- a committed attempt is rightly forgotten, and a site in doubt that presumes commit is answered abort
presumed_outcome : outcome_by abort_always_presumed By.Commit forgotten_commands ≡ Decided.Commit
unfolding opened
presumed_outcome = refl

pub abort_always_presumed_refuted : BreaksTheOutcome abort_always_presumed By.Commit
unfolding opened
abort_always_presumed_refuted = record {
  scenario = one_site By.Commit;
  commands = forgotten_commands;
  site = at 1;
  home = home By.Commit;
  declared = refl;
  follows = refl;
  tid = attempt;
  decision = Decided.Abort;
  settles = inl refl;
  wrong = (λ e. let no : Decided.Abort ≡ Decided.Commit = e ∙ presumed_outcome in cc);
}

-- the coordinator stops before it decides, of which it has no record, and a site in doubt that presumes nothing is answered commit
abbrev undecided_commands : List Command
undecided_commands = behind_the_vote (halt 0 0 ∷ back 0 ∷ ask 1 attempt ∷ take 1 3 ∷ give 1 3 ∷ [])

undecided_outcome : outcome_by commit_always_presumed By.Nothing undecided_commands ≡ Decided.Abort
unfolding opened
undecided_outcome = refl

pub commit_always_presumed_refuted : BreaksTheOutcome commit_always_presumed By.Nothing
unfolding opened
commit_always_presumed_refuted = record {
  scenario = one_site By.Nothing;
  commands = undecided_commands;
  site = at 1;
  home = home By.Nothing;
  declared = refl;
  follows = refl;
  tid = attempt;
  decision = Decided.Commit;
  settles = inl refl;
  wrong = (λ e. let no : Decided.Commit ≡ Decided.Abort = e ∙ undecided_outcome in cc);
}

-- and so is one that presumes abort
undecided_by_abort : outcome_by commit_always_presumed By.Abort undecided_commands ≡ Decided.Abort
unfolding opened
undecided_by_abort = refl

pub commit_presumed_by_abort_refuted : BreaksTheOutcome commit_always_presumed By.Abort
unfolding opened
commit_presumed_by_abort_refuted = record {
  scenario = one_site By.Abort;
  commands = undecided_commands;
  site = at 1;
  home = home By.Abort;
  declared = refl;
  follows = refl;
  tid = attempt;
  decision = Decided.Commit;
  settles = inl refl;
  wrong = (λ e. let no : Decided.Commit ≡ Decided.Abort = e ∙ undecided_by_abort in cc);
}

-- the coordinator loses the Initiation of an attempt that is prepared, and a site that presumes commit is answered commit
abbrev unsynced_commands : List Command
unsynced_commands = undecided_commands

unsynced_outcome : outcome_by prepares_sent_early By.Commit unsynced_commands ≡ Decided.Abort
unfolding opened
unsynced_outcome = refl

pub prepares_sent_early_refuted : BreaksTheOutcome prepares_sent_early By.Commit
unfolding opened
prepares_sent_early_refuted = record {
  scenario = one_site By.Commit;
  commands = unsynced_commands;
  site = at 1;
  home = home By.Commit;
  declared = refl;
  follows = refl;
  tid = attempt;
  decision = Decided.Commit;
  settles = inl refl;
  wrong = (λ e. let no : Decided.Commit ≡ Decided.Abort = e ∙ unsynced_outcome in cc);
}

-- the Commit record is torn, the coordinator tells it after its restart, and loses it at its next stop
abbrev torn_commands : List Command
torn_commands = behind_the_vote (trip 0 1 1 ∷ take 1 2 ∷ back 0 ∷ again attempt ∷ give 1 3 ∷ halt 0 0 ∷ [])

torn_outcome : outcome_by torn_records_kept By.Nothing torn_commands ≡ Decided.Abort
unfolding opened
torn_outcome = refl

pub torn_records_kept_refuted : BreaksTheOutcome torn_records_kept By.Nothing
unfolding opened
torn_records_kept_refuted = record {
  scenario = one_site By.Nothing;
  commands = torn_commands;
  site = at 1;
  home = home By.Nothing;
  declared = refl;
  follows = refl;
  tid = attempt;
  decision = Decided.Commit;
  settles = inl refl;
  wrong = (λ e. let no : Decided.Commit ≡ Decided.Abort = e ∙ torn_outcome in cc);
}

-- old messages run the attempt anew after a restart of the site, and its old Prepare seals it in the new epoch
abbrev old_commands : List Command
old_commands = reverse (go 1 ∷ give 1 0 ∷ take 1 0 ∷ give 1 1 ∷ take 1 1 ∷ halt 1 0 ∷ back 1 ∷ give 1 0 ∷ give 1 1 ∷ give 1 2 ∷ [])

abbrev old_past : SitePast
old_past = past_of (at 1) (story_by epochs_ignored (one_site By.Nothing) old_commands)

-- whether the last line seals the attempt, which epoch its Prepare names, and the epoch before it
abbrev seals_last : SitePast → Bool
seals_last [] = false
seals_last (x ∷ older) = seals attempt x

abbrev named_by : SiteEvent → ℕ
named_by (Give (Prepare tid e n)) = e
named_by event = 0

abbrev named_last : SitePast → ℕ
named_last [] = 0
named_last (x ∷ older) = named_by x.event

abbrev epoch_before : SitePast → ℕ
epoch_before [] = 0
epoch_before (x ∷ older) = epoch (home By.Nothing) older

old_seals : seals_last old_past ≡ true
unfolding opened
old_seals = refl

old_named : named_last old_past ≡ 1
unfolding opened
old_named = refl

old_epoch : epoch_before old_past ≡ 2
unfolding opened
old_epoch = refl

prepare-names : (e : ℕ) (event : SiteEvent) → IsPrepareOf attempt e event → named_by event ≡ e
prepare-names e (Give (Prepare tid k n)) h = h.1
prepare-names e (Give (Work tid k n act)) h = absurd h
prepare-names e (Give (Take tid k n)) h = absurd h
prepare-names e (Give (Decide tid d)) h = absurd h
prepare-names e Back h = absurd h
prepare-names e Check h = absurd h
prepare-names e (Begin tid) h = absurd h
prepare-names e (Act tid act) h = absurd h
prepare-names e (Commit tid) h = absurd h
prepare-names e (Abort tid) h = absurd h
prepare-names e (Fate tx) h = absurd h
prepare-names e (Ask tid) h = absurd h
prepare-names e (Drop tid) h = absurd h
prepare-names e (Halt cut) h = absurd h
prepare-names e (Trip calls cut) h = absurd h

elsewhere : (past : SitePast) → seals_last past ≡ true → named_last past ≡ 1 → epoch_before past ≡ 2
    → SealsElsewhere (home By.Nothing) attempt past
elsewhere [] s n e = cc
elsewhere (x ∷ older) s n e =
    (s, (λ named. let no : 1 ≡ 2 = sym n ∙ prepare-names (epoch (home By.Nothing) older) x.event named ∙ e in cc))

pub epochs_ignored_refuted : BreaksTheEpoch epochs_ignored
epochs_ignored_refuted = record {
  scenario = one_site By.Nothing;
  commands = old_commands;
  site = at 1;
  home = home By.Nothing;
  declared = refl;
  tid = attempt;
  seals = elsewhere old_past old_seals old_named old_epoch;
}

-- an attempt is given up, and behind a restart its old operations begin a later run of it, which its old Prepare seals
abbrev later_commands : List Command
later_commands =
    reverse
    (go 1 ∷ give 1 0 ∷ take 1 0 ∷ give 1 1 ∷ take 1 1 ∷ late attempt ∷ give 1 3 ∷ halt 1 0 ∷ back 1 ∷ give 1 0 ∷ give 1 1 ∷ give 1 2 ∷ [])

pub epochs_ignored_seals_later : SealsALaterRun epochs_ignored
unfolding opened
epochs_ignored_seals_later = record {
  scenario = one_site By.Nothing;
  commands = later_commands;
  site = at 1;
  home = home By.Nothing;
  declared = refl;
  tid = attempt;
  seals = (refl, refl);
}
