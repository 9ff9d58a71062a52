-- How what the coordinator sends in a line is put into the channels.
use Rattle.std.specs.Prelude.{ℕ, ◌≡◌, ◌<◌, Option, List, ◌++◌, length, option_to_list, slice_get, Some, vec_len, vec_capacity}
use Rattle.mdb_base.specs.Words.{found, map_some}
use Rattle.fed_rules.specs.declared.commands.Place.{Place}
use Rattle.fed_rules.specs.declared.messages.Sent.{Sent}
pub use Rattle.fed_rules.specs.Site_of.{message_to}
use Rattle.session_routes.specs.declared.traffic.Traffic.{Traffic}

-- the place that it gets
abbrev pub place_to : List Sent → Traffic → Option Place
place_to sends traffic = map_some (λ message. record { site = traffic.site; place = length traffic.to.items }) (message_to traffic.site sends)

-- the places of what is sent, by rising site
abbrev pub places_to : List Sent → List Traffic → List Place
places_to sends channels = found (place_to sends) channels

-- these places with that one behind them, where there is one
abbrev pub places_behind : List Place → Option Place → List Place
places_behind places place = places ++ option_to_list place

-- each channel to a site has room for a message
abbrev pub HasRoomAt : List Traffic → Type 0
HasRoomAt channels = (place : ℕ) (one : Traffic) → slice_get channels place ≡ Some one → vec_len one.to < vec_capacity one.to

-- the channel with what is sent to its site
pub record IsPosted (sends : List Sent) (old new : Traffic) : Type 0 where
  pub site : new.site ≡ old.site
  pub to : new.to.items ≡ old.to.items ++ option_to_list (message_to old.site sends)
  pub from : new.from.items ≡ old.from.items

-- so it is with each channel
pub record ArePosted (sends : List Sent) (old new : List Traffic) : Type 0 where
  pub count : length new ≡ length old
  pub each : (place : ℕ) (a b : Traffic) → slice_get old place ≡ Some a → slice_get new place ≡ Some b → IsPosted sends a b

-- the same messages, whatever room there is
pub record IsSameTraffic (old new : Traffic) : Type 0 where
  pub site : new.site ≡ old.site
  pub to : new.to.items ≡ old.to.items
  pub from : new.from.items ≡ old.from.items

pub record AreSameTraffic (old new : List Traffic) : Type 0 where
  pub count : length new ≡ length old
  pub each : (place : ℕ) (a b : Traffic) → slice_get old place ≡ Some a → slice_get new place ≡ Some b → IsSameTraffic a b
