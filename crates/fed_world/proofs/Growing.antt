-- How much one line adds to the pasts and channels of a story.
use Rattle.std.proofs.Common.{ℕ, suc, ◌≤◌, ◌<◌, ◌+◌, ◌^◌, Bool, true, false, cond, List, [], ◌∷◌, length, arith}
use Rattle.std.proofs.lemmas.List.{length-append}
use Rattle.mdb_base.specs.declared.names.SiteId.{SiteId}
use Rattle.mdb_base.specs.Names.{same_site}
use Rattle.fed_rules.specs.declared.commands.Command.{Command}
use Rattle.fed_rules.specs.declared.events.CoordEvent.{CoordEvent}
use Rattle.fed_rules.specs.declared.events.SiteEvent.{SiteEvent}
use Rattle.fed_rules.specs.declared.scenario.Scenario.{Scenario}
use Rattle.fed_rules.specs.Requests.{Request, Submits, Declines}
use Rattle.fed_rules.specs.Site.{site_line}
use Rattle.fed_rules.specs.SiteRecords.{Home}
use Rattle.fed_rules.specs.Story.{Story, Told, coord_requested, past_of, requested, sends_from, sends_to, sent_from, sent_to}
use Rattle.fed_rules.specs.Sessions.{Session}
use Rattle.world_laws.proofs.ForCallers.{sites_few}
use Rattle.fed_world.specs.Seats.{AreFew}
use Rattle.fed_world.specs.Worlds.{HasRoom}
use Rattle.fed_world.specs.Beginnings.{made_up}

-- one line more, with at most one message to each site and from it
pub few_behind : (story : Story) (told : Told) (most : ℕ) → AreFew story most → ((site : SiteId) → length (sends_to site told.happened) ≤ 1) → ((site : SiteId) → length (sends_from site told.happened) ≤ 1) → AreFew (told ∷ story) (suc most)
few_behind story told most few to from = record {
  to = λ site. (let less = few.to site in let more = to site in let parts = length-append (sent_to site story) (sends_to site told.happened) in omega (arith, less, more, parts));
  from = λ site. (let less = few.from site in let more = from site in let parts = length-append (sent_from site story) (sends_from site told.happened) in omega (arith, less, more, parts));
}

-- a site sends at most one message in a line
pub site_sends_from : (home : Home) (story : Story) (r : Request SiteEvent) (site : SiteId) → length (sends_from site (requested home story r)) ≤ 1
site_sends_from home story (Declines answer) site = omega arith
site_sends_from home story (Submits event) site = by_test (same_site home.site site)
  where
    by_test : (b : Bool) → length (cond b (site_line home (past_of home.site story) event).sends []) ≤ 1
    by_test true = sites_few home (past_of home.site story) event
    by_test false = omega arith

-- and nothing to a site
pub site_sends_to : (home : Home) (story : Story) (r : Request SiteEvent) (site : SiteId) → length (sends_to site (requested home story r)) ≤ 1
site_sends_to home story (Declines answer) site = omega arith
site_sends_to home story (Submits event) site = omega arith

-- the coordinator sends nothing from a site
pub coord_sends_from : (scenario : Scenario) (story : Story) (r : Request CoordEvent) (site : SiteId) → length (sends_from site (coord_requested scenario story r)) ≤ 1
coord_sends_from scenario story (Declines answer) site = omega arith
coord_sends_from scenario story (Submits event) site = omega arith

-- where there is room for one more line, there are few commands
pub few_commands : (session : Session) (commands : List Command) → HasRoom session commands → length commands < 2 ^ 30
few_commands session commands room = less (made_up session) (length commands) (2 ^ 30) room
  where
    less : (a b c : ℕ) → a + b < c → b < c
    less a b c under = omega (arith, under)

-- where there is room for one more line, the numbers of so many messages fit
pub numbers_fit : (n most : ℕ) → n ≤ most → most < 2 ^ 30 → n < 2 ^ 32
numbers_fit n most less room = under n most (2 ^ 30) (2 ^ 32) less room powers
  where
    powers : 2 ^ 30 ≤ 2 ^ 32
    powers = omega arith

    under : (a b c d : ℕ) → a ≤ b → b < c → c ≤ d → a < d
    under a b c d one two three = omega (arith, one, two, three)
