-- What a line of a site does about one attempt: what it appends, sends and answers, as facts on the line.
use Rattle.std.proofs.Common.{◌≡◌, ℕ, ◌+◌, ◌<◌, ◌⊎◌, true, false, Some, None, List, [], ◌∷◌}
use Rattle.mdb_base.specs.declared.names.Tid.{Tid}
use Rattle.mdb_base.specs.Names.{same_tid}
use Rattle.mdb_base.specs.Words.{Each, Among}
use Rattle.presumptions.specs.declared.Decision.{Decision}
use Rattle.presumptions.specs.Table.{acks}
use Rattle.fed_rules.specs.declared.answers.Answer.{Answer}
use Rattle.fed_rules.specs.declared.answers.Answer.TheVariants as Say
use Rattle.fed_rules.specs.declared.events.SiteEvent.{SiteEvent}
use Rattle.fed_rules.specs.declared.events.SiteEvent.TheVariants as Ev
use Rattle.fed_rules.specs.declared.messages.FromSite.{FromSite}
use Rattle.fed_rules.specs.declared.messages.FromSite.TheVariants as From
use Rattle.fed_rules.specs.declared.messages.ToSite.TheVariants as To
use Rattle.fed_rules.specs.declared.records.SiteRecord.{SiteRecord}
use Rattle.fed_rules.specs.declared.records.SiteRecord.TheVariants as Rec
use Rattle.fed_rules.specs.Happenings.{comes_up, is_down}
use Rattle.fed_rules.specs.Runs.{Run}
use Rattle.fed_rules.specs.Site.{is_over}
use Rattle.fed_rules.specs.SitePast.{SiteHappening, SitePast, records, epoch, live}
use Rattle.fed_rules.specs.SiteRecords.{Home, Held, doubt_of}
use Rattle.commit_laws.specs.Records.{IsPrepared, IsEnded, IsLooseEnded}
use Rattle.commit_laws.specs.Seals.{seals}
use Rattle.fed_rules.proofs.ForCallers.{IsQuiet, appended}

-- the line seals the attempt: the site is up and not in doubt of it, its run is live, and the Prepare names the site's epoch
pub record IsSealing (home : Home) (g : Tid) (past : SitePast) (event : SiteEvent) (e : ℕ) : Type 0 where
  pub up : is_down past ≡ false
  pub n : ℕ
  pub taken : event ≡ Ev.Give (To.Prepare g e n)
  pub epoch : e ≡ epoch home past
  pub doubt : doubt_of (records home past) g ≡ None
  pub run : Run
  pub live : live home past g ≡ Some run

-- the line settles the attempt, which is in doubt
pub record IsSettling (home : Home) (g : Tid) (past : SitePast) (event : SiteEvent) (decision : Decision) : Type 0 where
  pub taken : event ≡ Ev.Give (To.Decide g decision)
  pub held : Held
  pub doubt : doubt_of (records home past) g ≡ Some held

-- why a record is appended
abbrev pub Wrote : Home → Tid → SitePast → SiteEvent → SiteRecord → Type 0
Wrote home g past event (Rec.Prepared tid e number ticket writes) = same_tid tid g ≡ true → IsSealing home g past event e
Wrote home g past event (Rec.Ended tid decision) = same_tid tid g ≡ true → IsSettling home g past event decision
Wrote home g past event (Rec.Start e) = e ≡ epoch home past + 1
Wrote home g past event kept = Unit {0}

-- a line appends one record at most
abbrev pub WroteOne : Home → Tid → SitePast → SiteEvent → List SiteRecord → Type 0
WroteOne home g past event [] = Unit {0}
WroteOne home g past event (r ∷ []) = Wrote home g past event r
WroteOne home g past event (r ∷ q ∷ rs) = ⊥

-- the line acknowledges a decision: its Ended record stands at the end, or the attempt wasn't in doubt
pub record IsAcking (home : Home) (g : Tid) (past : SitePast) (y : SiteHappening) : Type 0 where
  pub decision : Decision
  pub taken : y.event ≡ Ev.Give (To.Decide g decision)
  pub acks : acks home.protocol decision ≡ true
  pub after : Among (IsEnded g decision) (records home (y ∷ past)) ⊎
      ((records home (y ∷ past) ≡ records home past) × (doubt_of (records home past) g ≡ None))

-- why a message is sent
abbrev pub Says : Home → Tid → SitePast → SiteHappening → FromSite → Type 0
Says home g past y (From.Did tid e n reply) = e ≡ epoch home past
Says home g past y (From.Vote tid None) = Unit {0}
Says home g past y (From.Vote tid (Some ticket)) = same_tid tid g ≡ true → (e : ℕ) × Among (IsPrepared g e) (records home (y ∷ past))
Says home g past y (From.Ack tid) = same_tid tid g ≡ true → IsAcking home g past y
Says home g past y (From.Inquiry tid) = same_tid tid g ≡ true → (held : Held) × (doubt_of (records home past) g ≡ Some held)

-- why the line answers that it settles
abbrev pub Settled : Home → Tid → SitePast → SiteEvent → Answer → Type 0
Settled home g past event (Say.Settles tid decision) = same_tid tid g ≡ true → IsSettling home g past event decision
Settled home g past event answer = Unit {0}

-- the event doesn't begin the attempt as a local one
abbrev pub NotBegun : Tid → SiteEvent → Type 0
NotBegun g (Ev.Begin tid) = same_tid tid g ≡ false
NotBegun g event = Unit {0}

-- an attempt that is closed or in doubt has no live run, and nor has one at a site that is down
pub record Shut (home : Home) (g : Tid) (past : SitePast) : Type 0 where
  pub down : is_down past ≡ true → live home past g ≡ None
  pub over : is_over home past g ≡ true → live home past g ≡ None

-- all of this of a line that no stop ends
pub record Step (home : Home) (g : Tid) (past : SitePast) (event : SiteEvent) (y : SiteHappening) : Type 0 where
  pub is : y.event ≡ event
  pub quiet : IsQuiet (IsLooseEnded home.protocol) false y.calls
  pub wrote : WroteOne home g past event (appended y.calls [])
  pub says : Each (Says home g past y) y.sends
  pub shut : NotBegun g event → Shut home g past → Shut home g (y ∷ past)
  pub settled : Settled home g past event y.answer
  pub seals : seals g y ≡ true → (e : ℕ) × IsSealing home g past event e × Among (IsPrepared g e) (records home (y ∷ past))
  pub rises : comes_up y.answer ≡ true → epoch home past < epoch home (y ∷ past)
