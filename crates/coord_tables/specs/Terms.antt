-- What a coordinator is made with, and the pasts that events make of it, behind nothing or behind a journal that was found on its disk.
use Rattle.std.specs.Prelude.{◌≡◌}
use Rattle.mdb_base.specs.declared.names.Tid.{Tid}
use Rattle.mdb_base.specs.Rising.{IsRising}
use Rattle.mdb_base.specs.Words.{Each}
use Rattle.record_fields.specs.Named.{IsSite}
use Rattle.field_bytes.specs.Fields.{IsTid}
use Rattle.fed_rules.specs.CoordPast.{CoordPast, begun_tids}
pub use Rattle.fed_rules.specs.Terms.{Terms, line_of, answer_of}
use Rattle.fed_rules.specs.declared.events.CoordEvent.{CoordEvent}
use Rattle.fed_rules.specs.declared.events.CoordEvent.TheVariants as Ev
use Rattle.coord_laws.specs.Pasts.{IsGoingOn}
use Rattle.fed_rules.specs.Active.{IsActive}

-- an event that a coordinator that is up answers, and a trip may stop
abbrev pub IsUsual : CoordEvent → Type 0
IsUsual (Ev.Halt cut) = ⊥
IsUsual (Ev.Trip calls cut) = ⊥
IsUsual Ev.Back = ⊥
IsUsual event = Unit {0}

-- no two attempts of one transaction are undecided or committed
abbrev pub OneActive : CoordPast → Type 0
OneActive past = (a b : Tid) → a.tx ≡ b.tx → IsActive past a → IsActive past b → a ≡ b

-- the sites rise and are declared sites, each line of the past is the next one by the rules, behind nothing or behind what a journal stands for,
-- of each transaction one attempt at most is undecided or committed, and the names of the attempts lie in their ranges
pub record IsSound (terms : Terms) (past : CoordPast) : Type 0 where
  pub rising : IsRising (λ member. member.site.0) terms.protocols
  pub declared : Each (λ member. IsSite member.site) terms.protocols
  pub made : IsGoingOn terms.protocols terms.policy past
  pub alone : OneActive past
  pub in_range : Each IsTid (begun_tids past)
