-- The room that the coordinator's host has for its next lines, and what a step of its bookkeeping leaves alone.
use Rattle.std.specs.Prelude.{ℕ, ◌≡◌, ◌+◌, ◌<◌, ◌≤◌, ◌^◌, [], ◌∷◌, ◌++◌, List, length}
use Rattle.std.specs.Global.{Vec}
use Rattle.std.specs.Vec.{vec_len, vec_capacity}
use Rattle.fed_rules.specs.declared.commands.Place.{Place}
use Rattle.fed_rules.specs.declared.commands.Stamped.{Stamped}
use Rattle.fed_hosts.specs.declared.coord_actor.CoordActor.{CoordActor}
use Rattle.fed_hosts.specs.declared.coord_actor.CoordLineParts.{CoordLineParts}
use Rattle.fed_hosts.specs.declared.ports.Port.{Port}
use Rattle.host_laws.specs.Lines.{next_stamp}
use Rattle.fed_hosts.specs.Ports.{ArePosted, AreSamePorts, HaveFewSent, HavePortRoom, places_at}

-- no place is noted yet, and one of each port fits
pub record HasPlaceRoom (ports : List Port) (places : Vec Place) : Type 0 where
  pub none : places.items ≡ []
  pub fits : length ports ≤ vec_capacity places

-- two lines fit, of which one sends a message to each site
pub record HasCoordRoom {P D : Type 0} (actor : CoordActor P D) : Type 0 where
  pub lines : vec_len actor.lines + 2 ≤ vec_capacity actor.lines
  pub ports : HavePortRoom actor.ports.items
  pub places : HasPlaceRoom actor.ports.items actor.spare

-- one line fits
abbrev pub HasCoordLineRoom : {P D : Type 0} → CoordActor P D → Type 0
HasCoordLineRoom actor = vec_len actor.lines < vec_capacity actor.lines

-- the line has room and its stamp, and what it sends is ready
pub record IsCoordReady {P D : Type 0} (actor : CoordActor P D) (told : CoordLineParts) : Type 0 where
  pub line : HasCoordLineRoom actor
  pub last : actor.last + 1 < 2 ^ 64
  pub after : told.after + 1 < 2 ^ 64
  pub places : HasPlaceRoom actor.ports.items actor.spare
  pub ports : HavePortRoom actor.ports.items
  pub few : HaveFewSent actor.ports.items

-- the line behind this stamp and what these ports sent
abbrev pub coord_line_of : ℕ → List Port → CoordLineParts → Stamped
coord_line_of last ports told =
    record {
      stamp = next_stamp last told.after;
      line = record { command = told.command; answer = told.answer; sends = places_at told.sends ports };
    }

-- the line stands behind the others, and what it sends was kept and offered
pub record HasCoordAdded {P D : Type 0} (old new : CoordActor P D) (told : CoordLineParts) : Type 0 where
  pub lines : new.lines.items ≡ old.lines.items ++ coord_line_of old.last old.ports.items told ∷ []
  pub ports : ArePosted told.sends (next_stamp old.last told.after) old.ports.items new.ports.items
  pub last : new.last ≡ next_stamp old.last told.after

-- nothing but room changed
pub record IsSameCoord {P D : Type 0} (old new : CoordActor P D) : Type 0 where
  pub manager : new.manager ≡ old.manager
  pub disk : new.disk ≡ old.disk
  pub ports : AreSamePorts old.ports.items new.ports.items
  pub stops : new.stops ≡ old.stops
  pub armed : new.armed ≡ old.armed
  pub lines : new.lines.items ≡ old.lines.items
  pub last : new.last ≡ old.last

-- what stands beside the lines, their stamps and what they send
pub record IsBesideCoord {P D : Type 0} (old new : CoordActor P D) : Type 0 where
  pub manager : new.manager ≡ old.manager
  pub disk : new.disk ≡ old.disk
  pub stops : new.stops ≡ old.stops
  pub armed : new.armed ≡ old.armed
  pub first : new.first ≡ old.first
