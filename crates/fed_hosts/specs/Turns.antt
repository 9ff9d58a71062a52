-- What a turn of a site's host does.
use Rattle.std.specs.Prelude.{◌≡◌, ◌+◌, ◌<◌, ◌≤◌, ◌^◌, ◌-◌, ◌⊎◌, ℕ, Bool, true, false, is_some, Option, Some, None, List, [], ◌∷◌, ◌++◌, length}
use Rattle.mdb_base.specs.declared.names.SiteId.{SiteId}
use Rattle.mdb_base.specs.declared.names.Tid.{Tid}
use Rattle.mdb_base.specs.Names.{tid_before}
use Rattle.fed_rules.specs.declared.answers.Answer.{Answer}
use Rattle.fed_rules.specs.declared.commands.Command.{Command}
use Rattle.fed_rules.specs.declared.commands.Command.TheVariants as Cmd
use Rattle.fed_rules.specs.declared.commands.Stamped.{Stamped}
use Rattle.fed_rules.specs.declared.messages.ToSite.{ToSite}
use Rattle.fed_rules.specs.Happenings.{is_down}
use Rattle.fed_rules.specs.SitePast.{SitePast, records}
use Rattle.fed_rules.specs.SiteRecords.{Home, doubt_of}
use Rattle.fed_messages.specs.declared.Envelope.{Envelope}
use Rattle.fed_messages.specs.declared.Packet.{Packet}
use Rattle.local_dbms.specs.Stands.{OwnPrograms}
use Rattle.host_laws.specs.Hearing.{IsRead}
use Rattle.host_laws.specs.Plans.{SitePlan, most_lines}
use Rattle.host_laws.specs.Turns.{SiteTurn, past_of}
use Rattle.fed_hosts.specs.Views.{Adds, IsSeen, SiteView}

-- whether the site is in doubt of the attempt
abbrev pub is_in_doubt : Home → SitePast → Tid → Bool
is_in_doubt home past tid = is_some (doubt_of (records home past) tid)

-- the site is in doubt of the attempt, and of none before it
pub record IsLeastInDoubt (home : Home) (past : SitePast) (tid : Tid) : Type 0 where
  pub doubtful : is_in_doubt home past tid ≡ true
  pub least : (other : Tid) → is_in_doubt home past other ≡ true → tid_before other tid ≡ false

-- the count rose, or stands at its last value
abbrev pub IsCounted : ℕ → ℕ → Type 0
IsCounted old new = (old < new) ⊎ (new ≡ 2 ^ 64 - 1)

-- the turn makes one line, with this command, and says so
pub record MakesOne (old new : List Stamped) (command : Command) (made : Bool) : Type 0 where
  pub answer : Answer
  pub adds : Adds old new command answer
  pub says : made ≡ true

-- the turn makes no line, and says so
pub record MakesNone (old new : List Stamped) (made : Bool) : Type 0 where
  pub lines : new ≡ old
  pub says : made ≡ false

-- the site starts again
pub record Restarts (old new : SiteView) (made : Bool) : Type 0 where
  pub line : MakesOne old.lines new.lines (Cmd.Back old.site.0) made
  pub others : new ≡ record old { lines = new.lines }

-- a line takes the envelope; without one the packet is left aside
abbrev pub IsGiven : SiteId → Option (Envelope ToSite) → List Stamped → List Stamped → Bool → Type 0
IsGiven site None old new made = MakesNone old new made
IsGiven site (Some envelope) old new made = MakesOne old new (Cmd.Give site envelope.index) made

-- the packet is read, and the envelope that it bears is given to the site
pub record Takes (programs : OwnPrograms) (site : SiteId) (packet : Packet) (old new : List Stamped) (made : Bool) : Type 0 where
  pub bears : Option (Envelope ToSite)
  pub read : IsRead programs packet bears
  pub given : IsGiven site bears old new made

-- the site takes the next packet of its inlet
pub record Hears (programs : OwnPrograms) (old new : SiteView) (made : Bool) : Type 0 where
  pub packet : Packet
  pub takes : Takes programs old.site packet old.lines new.lines made
  pub others : new ≡ record old { lines = new.lines; took = old.took ++ packet ∷ [] }

-- up to seven turns without a message are counted
pub record Counts (old new : SiteView) (made : Bool) : Type 0 where
  pub few : old.idle < 7
  pub idle : new.idle ≡ old.idle + 1
  pub none : MakesNone old.lines new.lines made

-- at the eighth the site asks about its least attempt in doubt
pub record AsksLeast (home : Home) (past : SitePast) (old new : SiteView) (made : Bool) : Type 0 where
  pub eighth : 7 ≤ old.idle
  pub idle : new.idle ≡ 0
  pub tid : Tid
  pub least : IsLeastInDoubt home past tid
  pub line : MakesOne old.lines new.lines (Cmd.Ask old.site tid) made

-- at the eighth the site is in doubt of none, and asks nothing
pub record AsksNothing (home : Home) (past : SitePast) (old new : SiteView) (made : Bool) : Type 0 where
  pub eighth : 7 ≤ old.idle
  pub idle : new.idle ≡ 0
  pub sure : (tid : Tid) → is_in_doubt home past tid ≡ false
  pub none : MakesNone old.lines new.lines made

-- what a turn without a message does
abbrev pub Inquires : Home → SitePast → SiteView → SiteView → Bool → Type 0
Inquires home past old new made = Counts old new made ⊎ (AsksLeast home past old new made ⊎ AsksNothing home past old new made)

-- the inlet gave nothing
pub record Waits (home : Home) (past : SitePast) (old new : SiteView) (made : Bool) : Type 0 where
  pub counted : IsCounted old.empties new.empties
  pub inquires : Inquires home past old new made
  pub others : new ≡ record old { lines = new.lines; empties = new.empties; idle = new.idle }

-- it takes the next packet, and where there is none it waits
abbrev pub Listens : OwnPrograms → Home → SitePast → SiteView → SiteView → Bool → Type 0
Listens programs home past old new made = Hears programs old new made ⊎ Waits home past old new made

-- a site that is down starts again; one that is up listens
abbrev pub IsTurn : SitePlan → SitePast → SiteView → SiteView → Bool → Type 0
IsTurn plan past old new made = ((is_down past ≡ true) × Restarts old new made) ⊎ ((is_down past ≡ false) × Listens plan.programs plan.home past old new made)

-- what a turn does behind the lines that the host has
pub record DoesTurn (sites : List SitePlan) (old new : SiteView) (made : Bool) : Type 0 where
  pub plan : SitePlan
  pub turns : List SiteTurn
  pub seen : IsSeen sites plan turns old
  pub does : IsTurn plan (past_of plan turns) old new made

-- what a turn does: nothing where the host has as many lines as it makes
abbrev pub HasTurned : List SitePlan → SiteView → SiteView → Bool → Type 0
HasTurned sites old new made = ((length old.lines ≡ most_lines) × (new ≡ old) × (made ≡ false)) ⊎ ((length old.lines < most_lines) × DoesTurn sites old new made)
