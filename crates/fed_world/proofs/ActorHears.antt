-- What an actor hears of a command, from what it answers to what is asked of it.
use Rattle.std.proofs.Common.{ℕ, Bool, List, Result, Ok, Err, IfErr, OnOk}
use Rattle.fed_rules.specs.declared.commands.Command.{Command}
use Rattle.fed_rules.specs.declared.commands.Line.{Line}
use Rattle.fed_rules.specs.Sessions.{Session}
use Rattle.fed_rules.specs.Story.{story_in}
use Rattle.journal_disk.specs.Disk.{Seen}
use Rattle.local_dbms.specs.declared.asks.SiteAsk.{SiteAsk}
use Rattle.global_manager.specs.declared.asks.CoordAsk.{CoordAsk}
use Rattle.fed_world.specs.declared.errors.WorldErr.{WorldErr}
use Rattle.fed_world.specs.declared.world.World.{World}
use Rattle.fed_world.specs.Asks.{AsksCoordinator, AsksSite}
use Rattle.fed_world.specs.Lines.{AddsWhere}
use Rattle.fed_world.specs.Worlds.{EachCoordAsk, EachSiteAsk, EachStory, HasRoom, Recalls, SomeCoordAsk, SomeSiteAsk, SomeStory, Stands}
use Rattle.fed_world.proofs.Recalled.{recalls}

-- a fact on a command behind others
abbrev OfCommand : Type 1
OfCommand = Command → Session → List Command → Type 0

module _ (tells : Bool) (world : World) (disks : List Seen) (command : Command) where
  -- the command asks this of the site at this place
  pub some_site_ask : (place : ℕ) (ask : SiteAsk) → EachStory (Recalls world) (λ session commands. AsksSite place ask command session (story_in session commands))
      → SomeStory (Stands tells world disks) HasRoom → SomeSiteAsk (Stands tells world disks) place ask
  some_site_ask place ask asked r = record {
    session = r.session;
    commands = r.commands;
    command = command;
    stood = r.stood;
    asks = asked r.session r.commands (recalls tells world disks r.session r.commands r.stood);
    room = r.holds;
  }

  -- or of the coordinator
  pub some_coord_ask : (ask : CoordAsk) → EachStory (Recalls world) (λ session commands. AsksCoordinator ask command session (story_in session commands))
      → SomeStory (Stands tells world disks) HasRoom → SomeCoordAsk (Stands tells world disks) ask
  some_coord_ask ask asked r = record {
    session = r.session;
    commands = r.commands;
    command = command;
    stood = r.stood;
    asks = asked r.session r.commands (recalls tells world disks r.session r.commands r.stood);
    room = r.holds;
  }

  site_told : (place : ℕ) (ask : SiteAsk) → EachStory (Recalls world) (λ session commands. AsksSite place ask command session (story_in session commands)) → (P : OfCommand)
      → EachSiteAsk (Stands tells world disks) place ask P → EachStory (Stands tells world disks) (λ session commands. HasRoom session commands → P command session commands)
  site_told place ask asked P told session commands stood room = told session commands command stood (asked session commands (recalls tells world disks session commands stood)) room

  coord_told : (ask : CoordAsk) → EachStory (Recalls world) (λ session commands. AsksCoordinator ask command session (story_in session commands)) → (P : OfCommand)
      → EachCoordAsk (Stands tells world disks) ask P → EachStory (Stands tells world disks) (λ session commands. HasRoom session commands → P command session commands)
  coord_told ask asked P told session commands stood room = told session commands command stood (asked session commands (recalls tells world disks session commands stood)) room

  -- the line with the site's answer is that of the command
  pub site_heard : (place : ℕ) (ask : SiteAsk) → EachStory (Recalls world) (λ session commands. AsksSite place ask command session (story_in session commands))
      → {T : Type 0} (old new : List Line) (P : Line → OfCommand) (r : Result T WorldErr) → OnOk r (AddsWhere old new command (λ line. EachSiteAsk (Stands tells world disks) place ask (P line)))
      → OnOk r (AddsWhere old new command (λ line. EachStory (Stands tells world disks) (λ session commands. HasRoom session commands → P line command session commands)))
  site_heard place ask asked old new P (Ok done) told = record { line = told.line; is = told.is; lines = told.lines; holds = site_told place ask asked (P told.line) told.holds }
  site_heard place ask asked old new P (Err why) told = tt

  pub site_unheard : (place : ℕ) (ask : SiteAsk) → EachStory (Recalls world) (λ session commands. AsksSite place ask command session (story_in session commands))
      → {T : Type 0} (P : WorldErr → OfCommand) (r : Result T WorldErr) → IfErr r (λ why. EachSiteAsk (Stands tells world disks) place ask (P why))
      → IfErr r (λ why. EachStory (Stands tells world disks) (λ session commands. HasRoom session commands → P why command session commands))
  site_unheard place ask asked P (Ok done) told = tt
  site_unheard place ask asked P (Err why) told = site_told place ask asked (P why) told

  -- so is the coordinator's
  pub coord_heard : (ask : CoordAsk) → EachStory (Recalls world) (λ session commands. AsksCoordinator ask command session (story_in session commands))
      → {T : Type 0} (old new : List Line) (P : Line → OfCommand) (r : Result T WorldErr) → OnOk r (AddsWhere old new command (λ line. EachCoordAsk (Stands tells world disks) ask (P line)))
      → OnOk r (AddsWhere old new command (λ line. EachStory (Stands tells world disks) (λ session commands. HasRoom session commands → P line command session commands)))
  coord_heard ask asked old new P (Ok done) told = record { line = told.line; is = told.is; lines = told.lines; holds = coord_told ask asked (P told.line) told.holds }
  coord_heard ask asked old new P (Err why) told = tt

  pub coord_unheard : (ask : CoordAsk) → EachStory (Recalls world) (λ session commands. AsksCoordinator ask command session (story_in session commands))
      → {T : Type 0} (P : WorldErr → OfCommand) (r : Result T WorldErr) → IfErr r (λ why. EachCoordAsk (Stands tells world disks) ask (P why))
      → IfErr r (λ why. EachStory (Stands tells world disks) (λ session commands. HasRoom session commands → P why command session commands))
  coord_unheard ask asked P (Ok done) told = tt
  coord_unheard ask asked P (Err why) told = coord_told ask asked (P why) told
