-- Actors with their lines and messages make a world that stands for what they stand for.
use Rattle.std.proofs.Common.{◌≡◌, ℕ, ◌+◌, Bool, false, Option, Some, None, inl, List, [], ◌∷◌, ◌++◌, length, map, reverse, slice_get, refl, sym, ◌∙◌, ap, subst, arith}
use Rattle.std.proofs.lemmas.List.{length_push}
use Rattle.std.proofs.lemmas.Option.{slice_get_within}
use Rattle.mdb_base.specs.declared.names.SiteId.{SiteId}
use Rattle.mdb_base.proofs.ForCallers.{slice_get-there}
use Rattle.fed_rules.specs.declared.commands.Command.{Command}
use Rattle.fed_rules.specs.declared.commands.Line.{Line}
use Rattle.fed_rules.specs.declared.scenario.Scenario.{Scenario}
use Rattle.fed_rules.specs.Scenarios.{sites}
use Rattle.fed_rules.specs.Right.{AreLines}
use Rattle.fed_rules.specs.Found.{nothing}
use Rattle.fed_rules.specs.Sessions.{fresh}
use Rattle.fed_rules.specs.Story.{Story, story_of}
use Rattle.any_engine.specs.declared.engine.AnyEngine.{AnyEngine}
use Rattle.local_dbms.specs.declared.dbms.LocalDbms.{LocalDbms}
use Rattle.journal_disk.specs.Disk.{Seen}
use Rattle.session_report.specs.declared.marks.Marks.{Marks}
use Rattle.session_report.specs.declared.session.Channel.{Channel}
use Rattle.session_routes.specs.declared.traffic.Traffic.{Traffic}
use Rattle.session_routes.specs.Routes.{IsRouted}
use Rattle.std.specs.Global.{Vec}
use Rattle.mdb_base.specs.declared.names.Tid.{Tid}
use Rattle.fed_world.specs.Beginnings.{Remembers}
use Rattle.fed_world.specs.Lines.{IsRightIn}
use Rattle.fed_world.specs.Seats.{OfDbms, SiteAt}
use Rattle.fed_world.specs.declared.world.World.{World}
use Rattle.fed_world.specs.declared.cores.Cores.{Cores}
use Rattle.fed_world.specs.Gathering.{AreTraffic, Gathers, GathersAt, GathersOn, IsGathered, IsTraffic}
use Rattle.fed_world.specs.Worlds.{ActorsAt, DbmsRecalls, DbmsStands, HasLines, ManagerRecalls, ManagerStands, OfManager, Recalls, Stands}
use Rattle.fed_world.proofs.Pairs.{pair_both}
use Rattle.fed_world.proofs.RightLines.{fresh_right}

-- the lines of a world are those that it was made with
told_lines : (world : World) (lines : List Line) (scenario : Scenario) (commands : List Command) → world.cores.scenario ≡ scenario → world.begun ≡ None → world.lines.items ≡ lines → AreLines lines scenario commands → HasLines world (fresh scenario) commands
told_lines world lines scenario commands same begun is told = record {
  begins = inl refl;
  scenario_is = same;
  remembers = subst (λ (tids : Option (Vec Tid)). Remembers tids nothing) (sym begun) refl;
  commands_are = ap (λ (ls : List Line). map (λ (line : Line). line.command) (reverse ls)) is ∙ told.commands_are;
  right = subst (λ (ls : List Line). IsRightIn (fresh scenario) (reverse ls)) (sym is) (fresh_right scenario (reverse lines) told.right);
}

-- a list of which each item stays
pub map_self : {A : Type 0} (xs : List A) → map (λ (x : A). x) xs ≡ xs
map_self [] = refl
map_self (x ∷ xs) = ap (λ ys. x ∷ ys) (map_self xs)

-- one more channel with its messages
pub traffic_more : (channels : List Channel) (all new : List Traffic) (channel : Channel) (traffic : Traffic) → AreTraffic channels all → IsTraffic channel traffic → new ≡ all ++ traffic ∷ []
    → AreTraffic (channels ++ channel ∷ []) new
traffic_more channels all new channel traffic so_far own is = record {
  count = ap (λ (ts : List Traffic). length ts) is ∙ (length_push all traffic ∙ (ap (λ n. n + 1) so_far.count ∙ sym (length_push channels channel)));
  each = pair_both IsTraffic channels all new channel traffic so_far.each so_far.count own is;
}

-- a site with the channel that its messages make
seated : (K : OfDbms) (dbms : LocalDbms AnyEngine) (own : Marks) (channel : Channel) (traffic : Traffic) (scenario : Scenario) (site : SiteId) (story : Story)
    → IsGathered K dbms own channel scenario site story → IsTraffic channel traffic → SiteAt K dbms own traffic (fresh scenario) site story
seated K dbms own channel traffic scenario site story g t = record {
  home = g.home;
  is = g.is;
  declared = g.declared;
  part = record {
    dbms = g.recalls;
    marked = g.marked ∙ sym g.is;
    site = t.site ∙ (g.messages.site ∙ sym g.is);
    marks = g.kept;
    to = t.to ∙ g.messages.to;
    from = t.from ∙ g.messages.from;
  };
}

-- the actors in their seats
seats : (M : OfManager) (K : OfDbms) (cores : Cores) (lines : List Line) (channels : List Channel) (all : List Traffic) (scenario : Scenario) (commands : List Command)
    → GathersAt M K cores lines channels scenario commands → AreTraffic channels all → ActorsAt M K cores all (fresh scenario) (story_of scenario commands)
seats M K cores lines channels all scenario commands g made = record {
  coordinator = g.coordinator;
  sites = record { all_cores = g.all_cores; all_marks = g.all_marks; all_channels = made.count ∙ g.all_channels; each = one };
}
  where
    one : (place : ℕ) (site : SiteId) (dbms : LocalDbms AnyEngine) (own : Marks) (traffic : Traffic) → slice_get (sites scenario) place ≡ Some site
        → slice_get cores.sites.items.items place ≡ Some dbms → slice_get cores.marks.items place ≡ Some own → slice_get all place ≡ Some traffic
        → SiteAt K dbms own traffic (fresh scenario) site (story_of scenario commands)
    one place site dbms own traffic at got kept sent =
        let within = slice_get_within all place traffic sent in
        let count = made.count in
        let (channel, there) = slice_get-there channels place (omega (arith, within, count)) in
        seated K dbms own channel traffic scenario site (story_of scenario commands) (g.each place site dbms own channel at got kept there) (made.each place channel traffic there sent)

module _ (world : World) (lines : List Line) (channels : List Channel) (is : world.lines.items ≡ lines) (begun : world.begun ≡ None) (made : AreTraffic channels world.traffic.items) (routed : IsRouted world.routes world.cores.scenario) where
  -- it recalls what the actors recall
  pub gathered_recalls : (scenario : Scenario) (commands : List Command) → Gathers world.cores lines channels scenario commands → Recalls world (fresh scenario) commands
  gathered_recalls scenario commands g = record {
    has = told_lines world lines scenario commands g.scenario_is begun is g.told;
    routed = subst (λ (s : Scenario). IsRouted world.routes s) g.scenario_is routed;
    actors = seats ManagerRecalls DbmsRecalls world.cores lines channels world.traffic.items scenario commands g made;
  }

  -- and stands for what they stand for with these disks
  pub gathered_stands : (tells : Bool) (disks : List Seen) (scenario : Scenario) (commands : List Command) → world.broken ≡ false → GathersOn tells disks world.cores lines channels scenario commands
      → Stands tells world disks (fresh scenario) commands
  gathered_stands tells disks scenario commands unbroken g = record {
    has = told_lines world lines scenario commands g.parts.scenario_is begun is g.parts.told;
    whole = unbroken;
    routed = subst (λ (s : Scenario). IsRouted world.routes s) g.parts.scenario_is routed;
    stand = record {
      actors = seats (ManagerStands tells disks) (DbmsStands tells disks) world.cores lines channels world.traffic.items scenario commands g.parts made;
      few = g.few;
      others = g.others;
    };
  }
