-- The room that a host has for its next lines, and what a step of its bookkeeping leaves alone.
use Rattle.std.specs.Prelude.{◌≡◌, ◌+◌, ◌<◌, ◌≤◌, ◌^◌, [], ◌∷◌, ◌++◌, IsSome, length, option_to_list}
use Rattle.std.specs.Vec.{vec_len, vec_capacity}
use Rattle.scripted_link.specs.Outlets.{IsReserved, free_slots, offered, outlet_wire, queued}
use Rattle.fed_hosts.specs.declared.site_actor.SiteActor.{SiteActor}
use Rattle.fed_hosts.specs.declared.site_actor.LineParts.{LineParts}
use Rattle.host_laws.specs.Lines.{next_stamp, packets_at}
use Rattle.fed_hosts.specs.Lines.{line_of}

-- two lines fit, of which one sends a message
pub record HasRoom {E D : Type 0} (actor : SiteActor E D) : Type 0 where
  pub lines : vec_len actor.lines + 2 ≤ vec_capacity actor.lines
  pub sent : vec_len actor.sent + 1 ≤ vec_capacity actor.sent
  pub outlet : IsReserved actor.ends.outlet

-- one line fits
abbrev pub HasLineRoom : {E D : Type 0} → SiteActor E D → Type 0
HasLineRoom actor = vec_len actor.lines < vec_capacity actor.lines

-- a message that is sent has its number, and room among the messages that were sent and in the outlet
pub record IsSendReady {E D : Type 0} (actor : SiteActor E D) : Type 0 where
  pub number : length actor.sent.items < 2 ^ 32
  pub sent : vec_len actor.sent + 1 ≤ vec_capacity actor.sent
  pub outlet : IsReserved actor.ends.outlet

-- the line has room and its stamp, and what it sends is ready
pub record IsReady {E D : Type 0} (actor : SiteActor E D) (told : LineParts) : Type 0 where
  pub line : HasLineRoom actor
  pub last : actor.last + 1 < 2 ^ 64
  pub after : told.after + 1 < 2 ^ 64
  pub send : IsSome told.send → IsSendReady actor

-- the line stands behind the others, and what it sends was kept and offered
pub record HasAdded {E D : Type 0} (old new : SiteActor E D) (told : LineParts) : Type 0 where
  pub lines : new.lines.items ≡ old.lines.items ++ line_of old.ends.site old.last (length old.sent.items) told ∷ []
  pub sent : new.sent.items ≡ old.sent.items ++ option_to_list told.send
  pub offers : offered new.ends.outlet ≡ offered old.ends.outlet ++ packets_at (length old.sent.items) (next_stamp old.last told.after) (option_to_list told.send)
  pub last : new.last ≡ next_stamp old.last told.after

-- nothing but room changed
pub record IsSame {E D : Type 0} (old new : SiteActor E D) : Type 0 where
  pub dbms : new.dbms ≡ old.dbms
  pub disk : new.disk ≡ old.disk
  pub site : new.ends.site ≡ old.ends.site
  pub inlet : new.ends.inlet ≡ old.ends.inlet
  pub wire : outlet_wire new.ends.outlet ≡ outlet_wire old.ends.outlet
  pub offers : offered new.ends.outlet ≡ offered old.ends.outlet
  pub waiting : queued new.ends.outlet ≡ queued old.ends.outlet
  pub free : free_slots new.ends.outlet ≡ free_slots old.ends.outlet
  pub stops : new.stops ≡ old.stops
  pub armed : new.armed ≡ old.armed
  pub lines : new.lines.items ≡ old.lines.items
  pub sent : new.sent.items ≡ old.sent.items
  pub last : new.last ≡ old.last

-- what stands beside the lines, their stamps and what they send
pub record IsBeside {E D : Type 0} (old new : SiteActor E D) : Type 0 where
  pub dbms : new.dbms ≡ old.dbms
  pub disk : new.disk ≡ old.disk
  pub site : new.ends.site ≡ old.ends.site
  pub inlet : new.ends.inlet ≡ old.ends.inlet
  pub wire : outlet_wire new.ends.outlet ≡ outlet_wire old.ends.outlet
  pub stops : new.stops ≡ old.stops
  pub armed : new.armed ≡ old.armed
  pub idle : new.idle ≡ old.idle
