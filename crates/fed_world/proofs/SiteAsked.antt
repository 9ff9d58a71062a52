-- A site that a command asks something may be asked it.
use Rattle.std.proofs.Common.{◌≡◌, ℕ, ◌<◌, ◌≤◌, ◌+◌, ◌^◌, Some, List, length, arith}
use Rattle.mdb_base.specs.Words.{Each}
use Rattle.field_bytes.specs.Fields.{IsTid}
use Rattle.fed_rules.specs.declared.commands.Command.{Command}
use Rattle.fed_rules.specs.CoordPast.{begun_tids}
use Rattle.fed_rules.specs.Scenarios.{home_of}
use Rattle.fed_rules.specs.SiteRecords.{Home}
use Rattle.fed_rules.specs.Story.{coord_past, past_of, story_in}
use Rattle.fed_rules.specs.Sessions.{Session}
use Rattle.local_dbms.specs.declared.asks.SiteAsk.{SiteAsk}
use Rattle.local_dbms.specs.declared.asks.SiteAsk.TheVariants as At
use Rattle.local_dbms.specs.Asks.{CanAsk}
use Rattle.fed_world.specs.Asks.{WasSent}
use Rattle.fed_world.specs.Worlds.{HasRoom}
use Rattle.fed_world.proofs.SessionRuns.{messages_foreign, past_short}
use Rattle.fed_world.specs.Beginnings.{programs_at, Begins, made_up}

less_than : (a b c : ℕ) → a ≤ b → b < c → a < c
less_than a b c le lt = omega (arith, le, lt)

pub can_ask : (ask : SiteAsk) (session : Session) (commands : List Command) (home : Home) → Begins session → Each IsTid (begun_tids (coord_past (story_in session commands))) → home_of session.plan home.site ≡ Some home
    → WasSent ask home.site (story_in session commands) → HasRoom session commands → CanAsk ask home (programs_at session home.site) (past_of home.site (story_in session commands))
can_ask ask session commands home begins begun declared sent room = by_ask ask sent
  where
    short : length (past_of home.site (story_in session commands)) < 2 ^ 30
    short = less_than (length (past_of home.site (story_in session commands))) (made_up session + length commands) (2 ^ 30) (past_short session commands home.site) room

    by_ask : (a : SiteAsk) → WasSent a home.site (story_in session commands) → CanAsk a home (programs_at session home.site) (past_of home.site (story_in session commands))
    by_ask (At.Give message) sent =
        let law = messages_foreign session begins commands home declared begun message sent in
        record { short = short; foreign = law.foreign; in_range = law.in_range }
    by_ask (At.Begin tx) sent = short
    by_ask (At.Step tx) sent = short
    by_ask (At.Commit tx) sent = short
    by_ask (At.Abort tx) sent = short
    by_ask (At.Fate tx) sent = short
    by_ask (At.Ask tid) sent = short
    by_ask (At.Drop tid) sent = short
    by_ask (At.Halt cut) sent = short
    by_ask (At.Trip calls cut) sent = short
    by_ask At.Back sent = short
    by_ask At.Check sent = short
