-- What a world is whose lines got room, one that has the line of a command behind them, and one of which an actor broke.
use Rattle.std.proofs.Common.{◌≡◌, ℕ, zero, suc, Bool, true, Option, List, [], ◌∷◌, ◌++◌, map, reverse, Some, slice_get, refl, sym, ◌∙◌, ap, ap₂, subst}
use Rattle.std.proofs.lemmas.List.{reverse-append}
use Rattle.std.specs.Global.{Vec}
use Rattle.mdb_base.specs.declared.names.Tid.{Tid}
use Rattle.fed_rules.specs.declared.commands.Command.{Command}
use Rattle.fed_rules.specs.declared.commands.Line.{Line}
use Rattle.fed_rules.specs.Right.{IsNext}
use Rattle.fed_rules.specs.Scenarios.{global_program}
use Rattle.fed_rules.specs.Story.{Story, coord_past, story_in}
use Rattle.fed_rules.specs.Sessions.{Session}
use Rattle.journal_disk.specs.Disk.{Seen}
use Rattle.actor_store.specs.declared.errors.StepErr.TheVariants as Step_err
use Rattle.global_manager.specs.Stands as Manager
use Rattle.fed_world.specs.Seats.{SitesAt}
use Rattle.session_routes.specs.declared.traffic.Traffic.{Traffic}
use Rattle.session_routes.specs.declared.routes.Routes.{Routes}
use Rattle.session_routes.specs.Routes.{IsRouted}
use Rattle.fed_world.specs.declared.cores.Cores.{Cores}
use Rattle.fed_world.specs.declared.errors.WorldErr.TheVariants as Err_is
use Rattle.fed_world.specs.declared.world.World.{World}
use Rattle.fed_world.specs.Asks.{terms_of}
use Rattle.fed_world.specs.Worlds.{ActorBroke, ActorsAt, ActorsStand, DbmsStands, FailsAt, HasActorsOf, HasLines, IsHeard, IsSameWorld, IsUnheard, KeepsRest, ManagerStands, Stands, StandsBut}
use Rattle.fed_world.specs.Beginnings.{Remembers}
use Rattle.fed_world.specs.Lines.{IsRightIn, told_in}

-- its lines may lie elsewhere
pub roomier : (world : World) (lines : Vec Line) → lines.items ≡ world.lines.items → IsSameWorld world (record world { lines = lines })
roomier world lines same = record { actors = record { cores = refl; traffic = refl }; lines = same; broken = refl; routes = refl; begun = refl }

-- the actors of the one are those of the other
pub same_actors : (tells : Bool) (old new : World) (disks : List Seen) (session : Session) (commands : List Command) → HasActorsOf old new → ActorsStand tells old disks session commands → ActorsStand tells new disks session commands
same_actors tells old new disks session commands same s = record {
  actors = subst (λ (cores : Cores). ActorsAt (ManagerStands tells disks) (DbmsStands tells disks) cores new.traffic.items session (story_in session commands)) (sym same.cores)
      (subst (λ (channels : List Traffic). ActorsAt (ManagerStands tells disks) (DbmsStands tells disks) old.cores channels session (story_in session commands)) (sym same.traffic) s.actors);
  few = s.few;
  others = s.others;
}

same_lines : (old new : World) (session : Session) (commands : List Command) → new.cores.scenario ≡ old.cores.scenario → new.begun ≡ old.begun → new.lines.items ≡ old.lines.items → HasLines old session commands → HasLines new session commands
same_lines old new session commands same begun lines h = record {
  begins = h.begins;
  scenario_is = same ∙ h.scenario_is;
  remembers = subst (λ (tids : Option (Vec Tid)). Remembers tids session.found) (sym begun) h.remembers;
  commands_are = ap (λ (ls : List Line). map (λ (line : Line). line.command) (reverse ls)) lines ∙ h.commands_are;
  right = subst (λ (ls : List Line). IsRightIn session (reverse ls)) (sym lines) h.right;
}

-- what the one stands for the other does
pub same_stands : (tells : Bool) (old new : World) (disks : List Seen) (session : Session) (commands : List Command) → IsSameWorld old new → Stands tells old disks session commands → Stands tells new disks session commands
same_stands tells old new disks session commands same s = record {
  has = same_lines old new session commands (ap (λ (cores : Cores). cores.scenario) same.actors.cores) same.begun same.lines s.has;
  whole = same.broken ∙ s.whole;
  routed = subst (λ (routes : Routes). IsRouted routes session.plan) (sym same.routes) s.routed;
  stand = same_actors tells old new disks session commands same.actors s.stand;
}

-- the world of which an actor heard a command, and that has its line behind those of the commands before
pub heard_next : (tells : Bool) (old new : World) (before behind : List Seen) (session : Session) (commands : List Command) (command : Command) (line : Line)
    → KeepsRest old new → line.command ≡ command → new.lines.items ≡ old.lines.items ++ line ∷ []
    → IsHeard tells new behind line command session commands → Stands tells old before session commands → Stands tells new behind session (command ∷ commands)
heard_next tells old new before behind session commands command line keeps is lines h s = record {
  has = record {
    begins = s.has.begins;
    scenario_is = keeps.scenario ∙ s.has.scenario_is;
    remembers = subst (λ (tids : Option (Vec Tid)). Remembers tids session.found) (sym keeps.begun) s.has.remembers;
    commands_are = ap (λ (ls : List Line). map (λ (one : Line). one.command) ls) turned ∙ ap₂ (λ (c : Command) (cs : List Command). c ∷ cs) is s.has.commands_are;
    right = subst (λ (ls : List Line). IsRightIn session ls) (sym turned) (s.has.right, next);
  };
  whole = keeps.broken ∙ s.whole;
  routed = subst (λ (rs : Routes). IsRouted rs session.plan) (sym keeps.routes) s.routed;
  stand = h.next;
}
  where
    turned : reverse new.lines.items ≡ line ∷ reverse old.lines.items
    turned = ap (λ (ls : List Line). reverse ls) lines ∙ reverse-append old.lines.items (line ∷ [])

    next : IsNext session.plan (told_in session (reverse old.lines.items)) line
    next =
        let own = subst (λ (c : Command). IsHeard tells new behind line c session commands) (sym is) h in
        subst (λ (cs : List Command). IsNext session.plan (story_in session cs) line) (sym s.has.commands_are) (record { answer = own.answer; sends = own.sends })

same_broke : (number : ℕ) (tells : Bool) (old new : World) (disks : List Seen) (command : Command) (session : Session) (story : Story) → HasActorsOf old new
    → ActorBroke number tells old disks command session story → ActorBroke number tells new disks command session story
same_broke zero tells old new disks command session story same b = record {
  asked = b.asked;
  happens = b.happens;
  coordinator = subst (λ (cores : Cores). Manager.Fails (ManagerStands tells disks cores.coordinator) Step_err.Disk (terms_of session.plan) (global_program session.plan) (coord_past story) b.asked) (sym same.cores) b.coordinator;
  sites = subst (λ (cores : Cores). SitesAt (DbmsStands tells disks) cores.sites.items.items cores.marks.items new.traffic.items session story) (sym same.cores)
      (subst (λ (channels : List Traffic). SitesAt (DbmsStands tells disks) old.cores.sites.items.items old.cores.marks.items channels session story) (sym same.traffic) b.sites);
}
same_broke (suc n) tells old new disks command session story same b = record {
  home = b.home;
  declared = b.declared;
  number_is = b.number_is;
  asked = b.asked;
  happens = b.happens;
  place = b.place;
  at = b.at;
  dbms = b.dbms;
  own = subst (λ (cores : Cores). slice_get cores.sites.items.items b.place ≡ Some b.dbms) (sym same.cores) b.own;
  broken = b.broken;
  coordinator = subst (λ (cores : Cores). ManagerStands tells disks cores.coordinator (terms_of session.plan) (global_program session.plan) (coord_past story)) (sym same.cores) b.coordinator;
  sites = subst (λ (cores : Cores). SitesAt (StandsBut (suc n) tells disks) cores.sites.items.items cores.marks.items new.traffic.items session story) (sym same.cores)
      (subst (λ (channels : List Traffic). SitesAt (StandsBut (suc n) tells disks) old.cores.sites.items.items old.cores.marks.items channels session story) (sym same.traffic) b.sites);
}

-- the world of which an actor broke has the lines of the commands before
pub broken_next : (number : ℕ) (tells : Bool) (old mid new : World) (before behind : List Seen) (session : Session) (commands : List Command) (command : Command)
    → KeepsRest old mid → mid.lines.items ≡ old.lines.items → HasActorsOf mid new → new.begun ≡ mid.begun → new.lines.items ≡ mid.lines.items → new.broken ≡ true
    → IsUnheard tells (Err_is.Disk number) mid behind command session commands → Stands tells old before session commands → FailsAt tells (Err_is.Disk number) new behind command session commands
broken_next number tells old mid new before behind session commands command keeps kept same begun lines broken h s = record {
  has = same_lines old new session commands (ap (λ (cores : Cores). cores.scenario) same.cores ∙ keeps.scenario) (begun ∙ keeps.begun) (lines ∙ kept) s.has;
  broken = broken;
  actor = same_broke number tells mid new behind command session (story_in session commands) same h.0;
  others = h.1;
}
