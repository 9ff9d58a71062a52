-- How a global attempt ends: what the sites settle, until when the coordinator knows the attempt, and how it answers who asks afterwards.
use Rattle.std.specs.Prelude.{◌≡◌, ◌↔◌, true, false, ◌||◌, Some, List, [], ◌∷◌}
use Rattle.mdb_base.specs.declared.names.SiteId.{SiteId}
use Rattle.mdb_base.specs.declared.names.Tid.{Tid}
use Rattle.mdb_base.specs.Words.{Among}
use Rattle.order_laws.specs.Chains.{In}
use Rattle.presumptions.specs.declared.Decision.{Decision}
use Rattle.presumptions.specs.declared.Participant.{Participant}
use Rattle.fed_rules.specs.declared.answers.Answer.TheVariants as Say
use Rattle.fed_rules.specs.declared.events.CoordEvent.TheVariants as Ev
use Rattle.fed_rules.specs.declared.messages.FromSite.TheVariants as From
use Rattle.fed_rules.specs.declared.scenario.Scenario.{Scenario}
use Rattle.fed_rules.specs.Coord.{missing, tells}
use Rattle.fed_rules.specs.CoordPast as Coordinator
use Rattle.fed_rules.specs.CoordPast.{CoordHappening, CoordPast, Decided, Gone, standing, is_known}
use Rattle.fed_rules.specs.CoordRecords.{outcome, required, is_nobody, is_kept}
use Rattle.fed_rules.specs.Happenings.{stops, comes_up, is_down}
use Rattle.fed_rules.specs.Scenarios.{home_of, protocols}
use Rattle.fed_rules.specs.SitePast.{SitePast, records}
use Rattle.fed_rules.specs.SiteRecords.{Home, Held, doubt_of}
use Rattle.fed_rules.specs.Story.{Story, Told, AtCoordinator, coord_past, past_of, sent_from}

-- the fact holds of each item with those behind it: of each line with the lines before it
abbrev pub AtEach : {A : Type 0} → (A → List A → Type 0) → List A → Type 0
AtEach P [] = Unit {0}
AtEach P (x ∷ xs) = P x xs × AtEach P xs

-- the outcome of an attempt over the whole story: commit exactly where the coordinator keeps a Commit of it
abbrev pub outcome_in : Story → Tid → Decision
outcome_in story tid = outcome (Coordinator.records (coord_past story)) tid

-- a line of the site settles the attempt with this decision
abbrev pub Settles : SitePast → Tid → Decision → Type 0
Settles past tid decision = Among (λ x. x.answer ≡ Say.Settles tid decision) past

-- every line in which a site settles an attempt says the attempt's outcome, so no two sites end it differently
abbrev pub EndsAlike : Story → Type 0
EndsAlike story =
    (site : SiteId) (tid : Tid) (decision : Decision) → Settles (past_of site story) tid decision → decision ≡ outcome_in story tid

-- a line, no stop and no start, behind which an attempt is known that wasn't known before it is the one that begins the attempt
abbrev pub KnownFromItsBeginning : List Participant → CoordHappening → CoordPast → Type 0
KnownFromItsBeginning protocols x past =
    (stops x.answer || comes_up x.answer) ≡ false → (tid : Tid) →
    is_known (standing protocols past tid) ≡ false →
    (is_known (standing protocols (x ∷ past) tid) ≡ true) ↔ (x.answer ≡ Say.Begun tid)

-- a decided attempt is known only while a required acknowledgement hasn't counted since the decision or the last start of the coordinator
abbrev pub KnownWhileMissing : List Participant → CoordPast → Type 0
KnownWhileMissing protocols past =
    (tid : Tid) (decision : Decision) → standing protocols past tid ≡ Decided decision →
    (decision ≡ outcome (Coordinator.records past) tid) × (is_nobody (missing protocols past tid decision) ≡ false)

-- a line, no stop and no start, behind which an attempt isn't known any more: no required acknowledgement is missing then
abbrev pub ForgottenWhenNoneIsMissing : List Participant → CoordHappening → CoordPast → Type 0
ForgottenWhenNoneIsMissing protocols x past =
    (stops x.answer || comes_up x.answer) ≡ false → (tid : Tid) →
    is_known (standing protocols past tid) ≡ true →
    is_known (standing protocols (x ∷ past) tid) ≡ false →
    is_nobody (missing protocols (x ∷ past) tid (outcome (Coordinator.records (x ∷ past)) tid)) ≡ true

-- behind a stop or a start of the coordinator exactly those are known of which a record without an End requires an acknowledgement
abbrev pub KnownFromRecords : List Participant → CoordHappening → CoordPast → Type 0
KnownFromRecords protocols x past =
    (stops x.answer || comes_up x.answer) ≡ true → (tid : Tid) →
    is_known (standing protocols (x ∷ past) tid) ≡ is_kept protocols (Coordinator.records (x ∷ past)) tid

-- behind a stop or a start of the coordinator every required acknowledgement is missing: it is counted anew
abbrev pub RestartsCountAnew : List Participant → CoordHappening → CoordPast → Type 0
RestartsCountAnew protocols x past =
    (stops x.answer || comes_up x.answer) ≡ true → (tid : Tid) (decision : Decision) →
    missing protocols (x ∷ past) tid decision ≡ required protocols (Coordinator.records (x ∷ past)) tid decision

-- of an attempt that the coordinator doesn't know, each site whose acknowledgement of the outcome is required has sent it
abbrev pub ForgottenAreAcknowledged : Scenario → Story → Type 0
ForgottenAreAcknowledged scenario story =
    (site : SiteId) (home : Home) → home_of scenario site ≡ Some home →
    (tid : Tid) → standing (protocols scenario) (coord_past story) tid ≡ Gone →
    In (record { site = site; protocol = home.protocol })
    (required (protocols scenario) (Coordinator.records (coord_past story)) tid (outcome_in story tid)) →
    In (From.Ack tid) (sent_from site story)

-- at every line: an attempt is known from the line that begins it; the coordinator forgets it exactly when its required acknowledgements are
-- in, counted since the decision or the coordinator's last start; and behind a stop or a start its records say what is known
pub record ForgetsExactly (scenario : Scenario) (story : Story) : Type 0 where
  pub begun : AtEach (KnownFromItsBeginning (protocols scenario)) (coord_past story)
  pub known : AtEach (λ x past. KnownWhileMissing (protocols scenario) (x ∷ past)) (coord_past story)
  pub forgotten : AtEach (ForgottenWhenNoneIsMissing (protocols scenario)) (coord_past story)
  pub restarted : AtEach (KnownFromRecords (protocols scenario)) (coord_past story)
  pub counted_anew : AtEach (RestartsCountAnew (protocols scenario)) (coord_past story)
  pub acknowledged : AtEach (λ told before. ForgottenAreAcknowledged scenario (told ∷ before)) story

-- a line of the coordinator that takes the inquiry of a site in doubt about an attempt that isn't known answers and sends it this outcome of
-- the attempt, through the presumption, unless the coordinator is down or a stop ends the line
abbrev pub AnswersInDoubt : Scenario → (Tid → Decision) → Told → Story → Type 0
AnswersInDoubt scenario outcomes told before =
    (site : SiteId) (home : Home) → home_of scenario site ≡ Some home →
    (tid : Tid) → standing (protocols scenario) (coord_past before) tid ≡ Gone →
    (held : Held) → doubt_of (records home (past_of site before)) tid ≡ Some held →
    (x : CoordHappening) → told.happened ≡ AtCoordinator x → x.event ≡ Ev.Take site (From.Inquiry tid) →
    is_down (coord_past before) ≡ false → stops x.answer ≡ false →
    x ≡ tells site tid (Say.Presumes (outcomes tid)) (outcomes tid)
