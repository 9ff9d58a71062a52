-- What a turn of the coordinator's host does.
use Rattle.std.specs.Prelude.{◌≡◌, ◌==◌, ◌+◌, ◌-◌, ◌<◌, ◌⊎◌, ℕ, Bool, true, false, cond, nat_lt, Option, Some, None, List, [], ◌∷◌, ◌++◌, length, slice_get}
use Rattle.mdb_base.specs.declared.names.SiteId.{SiteId}
use Rattle.presumptions.specs.declared.Participant.{Participant}
use Rattle.fed_rules.specs.declared.commands.Command.TheVariants as Cmd
use Rattle.fed_rules.specs.declared.commands.Stamped.{Stamped}
use Rattle.fed_rules.specs.declared.messages.FromSite.{FromSite}
use Rattle.fed_rules.specs.Happenings.{is_down}
use Rattle.fed_messages.specs.declared.Envelope.{Envelope}
use Rattle.fed_messages.specs.declared.Packet.{Packet}
use Rattle.host_laws.specs.CoordHearing.{IsReadFrom}
use Rattle.host_laws.specs.CoordPlans.{CoordPlan}
use Rattle.host_laws.specs.CoordTurns.{CoordTurn, coord_past_of}
use Rattle.host_laws.specs.Plans.{most_lines}
use Rattle.fed_hosts.specs.CoordViews.{CoordView, IsCoordSeen}
use Rattle.fed_hosts.specs.Ports.{EachBecomes}
use Rattle.fed_hosts.specs.Turns.{IsCounted, MakesNone, MakesOne}

-- where a round of so many ports begins: at this one, or at the first where there are no more than so many
abbrev pub begins_at : ℕ → ℕ → ℕ
begins_at ports first = cond (nat_lt first ports) first 0

-- how many of so many ports a round passes that begins at this one, before it comes to that place
abbrev pub passes_to : ℕ → ℕ → ℕ → ℕ
passes_to ports begin place = cond (nat_lt place begin) (ports - begin + place) (place - begin)

-- whether a round of so many ports passes one before it comes to the other
abbrev pub comes_before : ℕ → ℕ → ℕ → ℕ → Bool
comes_before ports first passed place = nat_lt (passes_to ports (begins_at ports first) passed) (passes_to ports (begins_at ports first) place)

-- the inlet of a port that was passed gave nothing, and the count of any other stays
abbrev pub IsPassed : Bool → ℕ → ℕ → Type 0
IsPassed true old new = IsCounted old new
IsPassed false old new = new ≡ old

-- going round so many ports, each was passed that comes before this place
abbrev pub HavePassed : ℕ → ℕ → ℕ → List ℕ → List ℕ → Type 0
HavePassed ports first place old new = EachBecomes (λ passed before after. IsPassed (comes_before ports first passed place) before after) old new

-- the packet was taken from the site at this place, and none from another
abbrev pub HaveTaken : ℕ → Packet → List (List Packet) → List (List Packet) → Type 0
HaveTaken place packet old new = EachBecomes (λ other before after. after ≡ cond (other == place) (before ++ packet ∷ []) before) old new

-- a line takes the envelope; without one the packet is left aside
abbrev pub IsTakenFrom : SiteId → Option (Envelope FromSite) → List Stamped → List Stamped → Bool → Type 0
IsTakenFrom site None old new made = MakesNone old new made
IsTakenFrom site (Some envelope) old new made = MakesOne old new (Cmd.Take site envelope.index) made

-- the packet is read, and the envelope that it bears is taken from the site at this place
pub record TakesFrom (plan : CoordPlan) (place : ℕ) (packet : Packet) (old new : List Stamped) (made : Bool) : Type 0 where
  pub member : Participant
  pub at : slice_get plan.terms.protocols place ≡ Some member
  pub bears : Option (Envelope FromSite)
  pub read : IsReadFrom packet bears
  pub taken : IsTakenFrom member.site bears old new made

-- the coordinator takes the next packet of the first port, going round, whose inlet gives one, and begins its next round behind that port
pub record HearsFrom (plan : CoordPlan) (old new : CoordView) (made : Bool) : Type 0 where
  pub place : ℕ
  pub packet : Packet
  pub takes : TakesFrom plan place packet old.lines new.lines made
  pub took : HaveTaken place packet old.tooks new.tooks
  pub passed : HavePassed (length plan.terms.protocols) old.first place old.empties new.empties
  pub first : new.first ≡ place + 1
  pub failed : new.failed ≡ old.failed

-- each inlet gave nothing
pub record HearsNothing (old new : CoordView) (made : Bool) : Type 0 where
  pub none : MakesNone old.lines new.lines made
  pub counted : EachBecomes (λ place before after. IsCounted before after) old.empties new.empties
  pub others : new ≡ record old { empties = new.empties }

-- the coordinator starts again
pub record RestartsCoord (old new : CoordView) (made : Bool) : Type 0 where
  pub line : MakesOne old.lines new.lines (Cmd.Back 0) made
  pub others : new ≡ record old { lines = new.lines }

-- a coordinator that is down starts again; one that is up takes the next packet of its sites, where there is one
abbrev pub IsCoordTurn : CoordPlan → List CoordTurn → CoordView → CoordView → Bool → Type 0
IsCoordTurn plan turns old new made =
    ((is_down (coord_past_of plan turns) ≡ true) × RestartsCoord old new made)
    ⊎ ((is_down (coord_past_of plan turns) ≡ false) × (HearsFrom plan old new made ⊎ HearsNothing old new made))

-- what a turn does behind the lines that the host has
pub record DoesCoordTurn (plan : CoordPlan) (old new : CoordView) (made : Bool) : Type 0 where
  pub turns : List CoordTurn
  pub seen : IsCoordSeen plan turns old
  pub does : IsCoordTurn plan turns old new made

-- what a turn does: nothing where the host has as many lines as it makes
abbrev pub HasCoordTurned : CoordPlan → CoordView → CoordView → Bool → Type 0
HasCoordTurned plan old new made = ((length old.lines ≡ most_lines) × (new ≡ old) × (made ≡ false)) ⊎ ((length old.lines < most_lines) × DoesCoordTurn plan old new made)
