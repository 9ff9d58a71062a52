-- What holds of one attempt at one site and at the coordinator, with what was sent between them: the whole invariant.
use Rattle.std.proofs.Common.{◌≡◌, ℕ, ◌<◌, ◌≤◌, ◌⊎◌, true, is_some, Some, List, []}
use Rattle.mdb_base.specs.declared.names.Tid.{Tid}
use Rattle.mdb_base.specs.declared.replies.Reply.{Reply}
use Rattle.mdb_base.specs.Words.{Among}
use Rattle.order_laws.specs.Chains.{In}
use Rattle.presumptions.specs.declared.Decision.{Decision}
use Rattle.presumptions.specs.declared.Protocol.TheVariants as By
use Rattle.presumptions.specs.Table.{forces}
use Rattle.fed_rules.specs.declared.answers.Answer.TheVariants as Say
use Rattle.fed_rules.specs.declared.events.CoordEvent.TheVariants as Coord_event
use Rattle.fed_rules.specs.declared.events.SiteEvent.TheVariants as Ev
use Rattle.fed_rules.specs.declared.messages.FromSite.{FromSite}
use Rattle.fed_rules.specs.declared.messages.FromSite.TheVariants as From
use Rattle.fed_rules.specs.declared.messages.ToSite.{ToSite}
use Rattle.fed_rules.specs.declared.messages.ToSite.TheVariants as To
use Rattle.fed_rules.specs.declared.scenario.Scenario.{Scenario}
use Rattle.fed_rules.specs.CoordPast as Coordinator
use Rattle.fed_rules.specs.CoordPast.{CoordPast, program, visits, counted_at, epoch_at}
use Rattle.fed_rules.specs.CoordRecords.{named, outcome}
use Rattle.fed_rules.specs.Happenings.{is_down}
use Rattle.fed_rules.specs.Scenarios.{protocols}
use Rattle.fed_rules.specs.SitePast.{SitePast, disk, records, epoch, is_closed}
use Rattle.fed_rules.specs.SiteRecords.{Home, site_frame}
use Rattle.fed_rules.specs.Story.{Story, coord_past, past_of, sent_to, sent_from}
use Rattle.fed_rules.specs.Durable.{IsFirm}
use Rattle.commit_laws.specs.Records.{IsPrepared, IsEnded, IsLooseEnded}
use Rattle.commit_laws.specs.Seals.{seals}
use Rattle.commit_laws.proofs.Links.{member_of, IsGlobal}
use Rattle.coord_laws.proofs.ForCallers.{CoordSound, IsBegun, IsOpen}
use Rattle.commit_laws.proofs.SiteFacts.{Shut}
use Rattle.commit_laws.proofs.SiteLists.{IsTidy}

-- a decision on the attempt was given to the site
abbrev pub IsGot : Tid → SitePast → Type 0
IsGot g past = (d : Decision) × Among (λ x. x.event ≡ Ev.Give (To.Decide g d)) past

-- the attempt is over at the site: a decision was given, and what was prepared has an Ended record that no stop takes away
pub record IsOver (home : Home) (g : Tid) (past : SitePast) : Type 0 where
  pub got : IsGot g past
  pub ended : (e : ℕ) → Among (IsPrepared g e) (records home past)
      → (d : Decision) × Among (IsEnded g d) (records home past) × (forces home.protocol d ≡ true)

-- what was sent of a Prepare: a site that presumes commit gets it only of an attempt with a record
pub record Prepares (scenario : Scenario) (home : Home) (g : Tid) (past : CoordPast) (e : ℕ) : Type 0 where
  pub begun : IsBegun past g
  pub recorded : home.protocol ≡ By.Commit → is_some (named (protocols scenario) (Coordinator.records past) g) ≡ true
  pub visits : visits home.site (program past g) ≡ true
  pub epoch : e ≡ epoch_at past g home.site
  pub counted : 1 ≤ e

-- what was sent of a decision
pub record Decides (scenario : Scenario) (home : Home) (g : Tid) (past : CoordPast) (here : SitePast) (d : Decision) : Type 0 where
  pub begun : IsBegun past g
  pub closed : IsOpen (protocols scenario) past g → ⊥
  pub right : (d ≡ outcome (Coordinator.records past) g) ⊎ IsOver home g here

-- what was sealed is prepared, or a stop took the record away: the site is down, or in a later epoch
pub record HasSealed (home : Home) (g : Tid) (past : CoordPast) (here : SitePast) (sent : List ToSite) : Type 0 where
  pub e : ℕ
  pub n : ℕ
  pub taken : In (To.Prepare g e n) sent
  pub left : (((k : ℕ) × Among (IsPrepared g k) (records home here)) ⊎ (is_down here ≡ true)) ⊎
      (epoch_at past g home.site < epoch home here)

pub record Agree (scenario : Scenario) (home : Home) (g : Tid) (past : CoordPast) (here : SitePast) (sent : List ToSite)
    (back : List FromSite) : Type 0 where
  pub sound : CoordSound (protocols scenario) (member_of home) g past
  pub global : IsBegun past g → IsGlobal scenario g
  pub firm : IsFirm site_frame (IsLooseEnded home.protocol) (disk home here)
  pub shut : IsGlobal scenario g → Shut home g here
  pub given : (m : ToSite) → Among (λ x. x.event ≡ Ev.Give m) here → In m sent
  pub taken : (m : FromSite) → Among (λ x. x.event ≡ Coord_event.Take home.site m) past → In m back
  pub preparing : (e n : ℕ) → In (To.Prepare g e n) sent → Prepares scenario home g past e
  pub telling : (d : Decision) → In (To.Decide g d) sent → Decides scenario home g past here d
  pub replied : (e n : ℕ) (reply : Reply) → In (From.Did g e n reply) back → (1 ≤ e) × (e ≤ epoch home here)
  pub voted : (ticket : ℕ) → In (From.Vote g (Some ticket)) back → (e : ℕ) × Among (IsPrepared g e) (records home here)
  pub acked : In (From.Ack g) back → IsOver home g here
  pub asked : In (From.Inquiry g) back → (e : ℕ) × (n : ℕ) × In (To.Prepare g e n) sent
  pub started : 1 ≤ epoch home here
  pub known : epoch_at past g home.site ≤ epoch home here
  pub counted : (counted_at past g home.site ≡ []) ⊎ ((1 ≤ epoch_at past g home.site) × (visits home.site (program past g) ≡ true))
  pub barred : IsGot g here → (epoch_at past g home.site < epoch home here) ⊎ (is_closed here g ≡ true)
  pub ended : (d : Decision) → Among (IsEnded g d) (records home here) → IsGot g here × (d ≡ outcome (Coordinator.records past) g)
  pub settled : (d : Decision) → Among (λ x. x.answer ≡ Say.Settles g d) here
      → IsGot g here × (d ≡ outcome (Coordinator.records past) g)
  pub prepared : (e : ℕ) → Among (IsPrepared g e) (records home here) → (n : ℕ) × In (To.Prepare g e n) sent
  pub sealed : Among (λ x. seals g x ≡ true) here → HasSealed home g past here sent
  pub tidy : IsTidy g (records home here)

-- the invariant in a story
abbrev pub Agrees : Scenario → Home → Tid → Story → Type 0
Agrees scenario home g story =
    Agree scenario home g (coord_past story) (past_of home.site story) (sent_to home.site story) (sent_from home.site story)
