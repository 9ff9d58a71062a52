-- What a world stands for when one of its sites was told something.
use Rattle.std.proofs.Common.{◌≡◌, ℕ, zero, suc, ◌≤◌, ◌<◌, ◌^◌, Bool, Some, None, List, ◌∷◌, ◌++◌, length, map, get_or, slice_get, slice_set, refl, sym, ap, ◌∙◌, subst, arith}
use Rattle.std.proofs.lemmas.List.{length-map}
use Rattle.std.proofs.lemmas.Option.{slice_get_read, slice_get_within}
use Rattle.mdb_base.specs.declared.names.SiteId.{SiteId}
use Rattle.mdb_base.specs.Rising.{IsRising}
use Rattle.mdb_base.proofs.ForCallers.{some_parts}
use Rattle.record_fields.specs.Named.{IsSite}
use Rattle.fed_rules.specs.declared.commands.Command.{Command}
use Rattle.fed_rules.specs.declared.commands.Line.{Line}
use Rattle.fed_rules.specs.declared.answers.Answer.{Answer}
use Rattle.fed_rules.specs.declared.events.SiteEvent.{SiteEvent}
use Rattle.fed_rules.specs.declared.messages.FromSite.{FromSite}
use Rattle.fed_rules.specs.declared.messages.ToSite.{ToSite}
use Rattle.fed_rules.specs.CoordPast.{CoordPast}
use Rattle.fed_rules.specs.Requests.{Request, Submits, Declines}
use Rattle.fed_rules.specs.Right.{IsAnswer}
use Rattle.fed_rules.specs.Scenarios.{global_program, home_of, protocols, sites}
use Rattle.fed_rules.specs.SiteCommands.{answer_to, past_behind}
use Rattle.fed_rules.specs.SitePast.{SitePast}
use Rattle.fed_rules.specs.SiteRecords.{Home}
use Rattle.fed_rules.specs.Story.{Story, Happened, coord_past, happens, past_of, place_from, places_of, requested, sends_from, sends_to, sent_from, sent_to, tell, with_coordinator, story_in}
use Rattle.fed_rules.specs.Sessions.{Session}
use Rattle.session_report.specs.declared.marks.Mark.{Mark}
use Rattle.journal_disk.specs.Disk.{Seen}
use Rattle.actor_store.specs.declared.errors.StepErr.{StepErr}
use Rattle.actor_store.specs.declared.errors.StepErr.TheVariants as Step_err
use Rattle.any_engine.specs.declared.engine.AnyEngine.{AnyEngine}
use Rattle.any_engine.specs.Stands as Engines
use Rattle.conservative_take.specs.AnyPolicies.{policy_is}
use Rattle.conservative_take.specs.declared.any_policy.AnyPolicy.{AnyPolicy}
use Rattle.fed_rules.proofs.ForCallers.{sites_rise}
use Rattle.global_manager.specs.declared.manager.GlobalManager.{GlobalManager}
use Rattle.global_manager.specs.Stands as Manager
use Rattle.local_dbms.specs.declared.asks.SiteAsk.{SiteAsk}
use Rattle.local_dbms.specs.declared.dbms.LocalDbms.{LocalDbms}
use Rattle.local_dbms.specs.Asks.{CanAsk, site_request}
use Rattle.local_dbms.specs.Stands as Dbms
use Rattle.local_dbms.specs.Stands.{OwnPrograms, sends_of}
use Rattle.session_report.specs.declared.marks.Marks.{Marks}
use Rattle.session_routes.specs.declared.traffic.Traffic.{Traffic}
use Rattle.fed_world.specs.SeatParts.{PartAt, PartFails, PartHears}
use Rattle.fed_world.proofs.SeatLines.{Frame, sites_hear}
use Rattle.session_routes.proofs.ForCallers.{get_put}
use Rattle.fed_world.specs.declared.errors.WorldErr.{WorldErr}
use Rattle.fed_world.specs.declared.world.World.{World}
use Rattle.fed_world.specs.Asks.{AsksSite, terms_of}
use Rattle.fed_world.specs.Worlds.{ActorBroke, ActorsStand, AreDisks, DbmsStands, HasRoom, IsHeard, IsUnheard, ManagerStands, SiteBroke, StandsBut, error_of}
use Rattle.fed_world.proofs.Disks.{on_other, on_own, on_put, put_disks, seen_at}
use Rattle.fed_world.proofs.Growing.{few_behind, few_commands, numbers_fit, site_sends_from, site_sends_to}
use Rattle.fed_world.proofs.SeatsKept.{channel_named, seat_of, site_in_range, sites_put, sites_same}
use Rattle.fed_world.proofs.SiteAsked.{can_ask}
use Rattle.fed_world.specs.Beginnings.{programs_at, Begins, first_marks}

-- a site's line stays away from the coordinator
past_stays : (home : Home) (story : Story) (r : Request SiteEvent) (past : CoordPast) → with_coordinator (requested home story r) past ≡ past
past_stays home story (Submits event) past = refl
past_stays home story (Declines answer) past = refl

-- what a site answers is right
right_answer : (session : Session) (home : Home) (story : Story) (r : Request SiteEvent) (answer : Answer) → answer ≡ answer_to home (past_of home.site story) r
    → IsAnswer (protocols session.plan) story (requested home story r) answer
right_answer session home story (Submits event) answer e = e
right_answer session home story (Declines said) answer e = e

right_places : (home : Home) (story : Story) (r : Request SiteEvent) → place_from home.site (length (sent_from home.site story)) (sends_of home (past_of home.site story) r) ≡ places_of story (requested home story r)
right_places home story (Submits event) = refl
right_places home story (Declines answer) = refl

-- what broke, with the disk among the others
fails_put : (K : Home → OwnPrograms → SitePast → Type 0) (L : Home → OwnPrograms → SitePast → Type 0) (home : Home) (programs : OwnPrograms) (past : SitePast) (r : Request SiteEvent) → ((p : SitePast) → K home programs p → L home programs p)
    → Dbms.Fails K Step_err.Disk home programs past r → Dbms.Fails L Step_err.Disk home programs past r
fails_put K L home programs past (Submits event) over f = (f.0, over _ f.1, f.2)
fails_put K L home programs past (Declines answer) over f = f

-- the world with what is kept of one site put anew
pub record IsPut (world next : World) (place : ℕ) (dbms : LocalDbms AnyEngine) (own : Marks) (channel : Traffic) : Type 0 where
  pub coordinator_is : next.cores.coordinator ≡ world.cores.coordinator
  pub cores_are : next.cores.sites.items.items ≡ slice_set world.cores.sites.items.items place dbms
  pub marks_are : next.cores.marks.items ≡ slice_set world.cores.marks.items place own
  pub channels_are : next.traffic.items ≡ slice_set world.traffic.items place channel

-- what was read of a world at a place, with the disk
pub record IsRead (world : World) (disks : List Seen) (place : ℕ) (dbms : LocalDbms AnyEngine) (own : Marks) (channel : Traffic) (old : Seen) : Type 0 where
  pub core : slice_get world.cores.sites.items.items place ≡ Some dbms
  pub mark : slice_get world.cores.marks.items place ≡ Some own
  pub message : slice_get world.traffic.items place ≡ Some channel
  pub disk : slice_get disks channel.site.0 ≡ Some old

-- a broken site has a number from 1 on
site_broke : (number : ℕ) (tells : Bool) (world : World) (disks : List Seen) (command : Command) (session : Session) (story : Story) → 1 ≤ number → SiteBroke number tells world disks command session story
    → ActorBroke number tells world disks command session story
site_broke zero tells world disks command session story least s = absurd (omega (arith, least))
site_broke (suc n) tells world disks command session story least s = s

module _ (tells : Bool) (world : World) (disks : List Seen) (session : Session) (commands : List Command) (stand : ActorsStand tells world disks session commands) where
  -- the declared sites rise, and are 1 to 8
  pub declared_rise : IsRising (λ (z : SiteId). z.0) (sites session.plan)
  declared_rise = sites_rise (protocols session.plan) stand.actors.coordinator.holds.core.holds.sound.rising

  pub declared_named : (n : ℕ) (site : SiteId) → slice_get (sites session.plan) n ≡ Some site → IsSite site
  declared_named = site_in_range (protocols session.plan) stand.actors.coordinator.holds.core.holds.sound.declared

  -- what the world keeps of a site, with its disk
  pub part_at : (place : ℕ) (home : Home) (dbms : LocalDbms AnyEngine) (own : Marks) (traffic : Traffic) (seen : Seen) → slice_get (sites session.plan) place ≡ Some home.site → home_of session.plan home.site ≡ Some home
      → slice_get world.cores.sites.items.items place ≡ Some dbms → slice_get world.cores.marks.items place ≡ Some own → slice_get world.traffic.items place ≡ Some traffic → slice_get disks home.site.0 ≡ Some seen
      → PartAt (Dbms.Stands Engines.Stands tells dbms seen) own traffic home (programs_at session home.site) (past_of home.site (story_in session commands))
      (first_marks session home) (sent_to home.site (story_in session commands)) (sent_from home.site (story_in session commands))
  part_at place home dbms own traffic seen es declared ec em et ed =
      let at = stand.actors.sites.each place home.site dbms own traffic es ec em et in
      let same : at.home ≡ home = some_parts (sym at.declared ∙ declared) in
      let part = subst (λ (h : Home). PartAt (DbmsStands tells disks dbms) own traffic h (programs_at session home.site) (past_of home.site (story_in session commands))
      (first_marks session h) (sent_to home.site (story_in session commands)) (sent_from home.site (story_in session commands))) same at.part in
      record {
        dbms = on_own disks home.site.0 seen seen ed (λ (d : Seen). Dbms.Stands Engines.Stands tells dbms d home (programs_at session home.site) (past_of home.site (story_in session commands))) part.dbms;
        marked = part.marked;
        site = part.site;
        marks = part.marks;
        to = part.to;
        from = part.from;
      }

  module _ (place : ℕ) (ask : SiteAsk) (command : Command) (asks : AsksSite place ask command session (story_in session commands)) (old new : Seen) (at : slice_get disks asks.home.site.0 ≡ Some old) where
    abbrev story : Story
    story = story_in session commands

    abbrev home : Home
    home = asks.home

    abbrev asked : Request SiteEvent
    asked = site_request ask asks.home (programs_at session asks.home.site) (past_of asks.home.site (story_in session commands))

    abbrev behind : List Seen
    behind = slice_set disks asks.home.site.0 new

    in_range : IsSite asks.home.site
    in_range = declared_named place asks.home.site asks.at

    others_empty : AreDisks behind session
    others_empty = put_disks disks home.site.0 old new at session
        (λ site least none same. (let whole : site ≡ home.site = ap (λ (n : ℕ). let s : SiteId = record { 0 = n } in s) same in let found : None ≡ Some home = sym none ∙ (ap (home_of session.plan) whole ∙ asks.declared) in cc)) stand.others

    coordinator_stays : ManagerStands tells behind world.cores.coordinator (terms_of session.plan) (global_program session.plan) (coord_past story)
    coordinator_stays = on_other disks home.site.0 old new at 0
        (λ (d : Seen). Manager.Stands policy_is tells world.cores.coordinator d (terms_of session.plan) (global_program session.plan) (coord_past story))
        (λ same. (let least = in_range.least in omega (arith, least, same))) stand.actors.coordinator

    frame : Frame (DbmsStands tells disks) (DbmsStands tells behind) home.site
    frame dbms other programs past apart k = on_other disks home.site.0 old new at other.site.0 (λ (d : Seen). Dbms.Stands Engines.Stands tells dbms d other programs past) apart k

    -- the actors behind the line
    next_stands : (next : World) (dbms : LocalDbms AnyEngine) (own : Marks) (traffic : Traffic) → IsPut world next place dbms own traffic
        → PartAt (Dbms.Stands Engines.Stands tells dbms new) own traffic home (programs_at session home.site) (past_behind home (past_of home.site story) asked) (first_marks session home) (sent_to home.site story) (sent_from home.site story ++ sends_of home (past_of home.site story) asked)
        → ActorsStand tells next behind session (command ∷ commands)
    next_stands next dbms own traffic put part = record {
      actors = record {
        coordinator =
            subst (λ (m : GlobalManager AnyPolicy). ManagerStands tells behind m (terms_of session.plan) (global_program session.plan) (with_coordinator (happens session.plan story command) (coord_past story))) (sym put.coordinator_is)
            (subst (λ (p : CoordPast). ManagerStands tells behind world.cores.coordinator (terms_of session.plan) (global_program session.plan) p)
            (sym (ap (λ (h : Happened). with_coordinator h (coord_past story)) asks.happens ∙ past_stays home story asked (coord_past story))) coordinator_stays);
        sites =
            sites_same (DbmsStands tells behind) session (tell session.plan story command ∷ story) _ next.cores.sites.items.items _ next.cores.marks.items _ next.traffic.items put.cores_are put.marks_are put.channels_are
            (sites_hear (DbmsStands tells disks) (DbmsStands tells behind) world.cores.sites.items.items world.cores.marks.items world.traffic.items session story (tell session.plan story command) place home asked dbms own traffic
            declared_rise stand.actors.sites asks.at asks.declared asks.happens frame
            (record {
              dbms = on_put disks home.site.0 old new at (λ (d : Seen). Dbms.Stands Engines.Stands tells dbms d home (programs_at session home.site) (past_behind home (past_of home.site story) asked)) part.dbms;
              marked = part.marked;
              site = part.site;
              marks = part.marks;
              to = part.to;
              from = part.from;
            }));
      };
      few = few_behind story (tell session.plan story command) (length commands) stand.few
          (λ site. subst (λ (h : Happened). length (sends_to site h) ≤ 1) (sym asks.happens) (site_sends_to home story asked site))
          (λ site. subst (λ (h : Happened). length (sends_from site h) ≤ 1) (sym asks.happens) (site_sends_from home story asked site));
      others = others_empty;
    }

    pub site_hears : (now : List Seen) (next : World) (line : Line) (dbms : LocalDbms AnyEngine) (own : Marks) (traffic : Traffic) → now ≡ slice_set disks asks.home.site.0 new → IsPut world next place dbms own traffic
        → PartHears (Dbms.Stands Engines.Stands tells dbms new) line own traffic asks.home (programs_at session asks.home.site) (past_of asks.home.site (story_in session commands))
        (first_marks session asks.home) (sent_to asks.home.site (story_in session commands)) (sent_from asks.home.site (story_in session commands)) asked → IsHeard tells next now line command session commands
    site_hears now next line dbms own traffic is put p = subst (λ (ds : List Seen). IsHeard tells next ds line command session commands) (sym is) (record {
      answer = subst (λ (h : Happened). IsAnswer (protocols session.plan) story h line.answer) (sym asks.happens) (right_answer session home story asked line.answer p.said);
      sends = p.places ∙ (right_places home story asked ∙ ap (λ (h : Happened). places_of story h) (sym asks.happens));
      next = next_stands next dbms own traffic put p.next;
    })

    -- without memory
    same_stands : (next : World) (dbms : LocalDbms AnyEngine) (own : Marks) (traffic : Traffic) → IsPut world next place dbms own traffic
        → PartAt (Dbms.Stands Engines.Stands tells dbms new) own traffic home (programs_at session home.site) (past_of home.site story) (first_marks session home) (sent_to home.site story) (sent_from home.site story)
        → ActorsStand tells next behind session commands
    same_stands next dbms own traffic put part = record {
      actors = record {
        coordinator = subst (λ (m : GlobalManager AnyPolicy). ManagerStands tells behind m (terms_of session.plan) (global_program session.plan) (coord_past story)) (sym put.coordinator_is) coordinator_stays;
        sites =
            sites_same (DbmsStands tells behind) session story _ next.cores.sites.items.items _ next.cores.marks.items _ next.traffic.items put.cores_are put.marks_are put.channels_are
            (sites_put (DbmsStands tells disks) (DbmsStands tells behind) world.cores.sites.items.items world.cores.marks.items world.traffic.items session story command place home dbms own traffic
            declared_rise stand.actors.sites asks.at asks.declared frame
            (record {
              dbms = on_put disks home.site.0 old new at (λ (d : Seen). Dbms.Stands Engines.Stands tells dbms d home (programs_at session home.site) (past_of home.site story)) part.dbms;
              marked = part.marked;
              site = part.site;
              marks = part.marks;
              to = part.to;
              from = part.from;
            }));
      };
      few = stand.few;
      others = others_empty;
    }

    -- behind a failed disk call
    breaks : (next : World) (dbms : LocalDbms AnyEngine) (own : Marks) (traffic : Traffic) → IsPut world next place dbms own traffic
        → PartFails (Dbms.Stands Engines.Stands tells dbms new) Step_err.Disk own traffic home (programs_at session home.site) (past_of home.site story) (first_marks session home) (sent_to home.site story) (sent_from home.site story) asked
        → SiteBroke home.site.0 tells next behind command session story
    breaks next dbms own traffic put part = record {
      home = home;
      declared = asks.declared;
      number_is = refl;
      asked = asked;
      happens = asks.happens;
      place = place;
      at = asks.at;
      dbms = dbms;
      own =
          (let inside = slice_get_within (sites session.plan) place home.site asks.at in let many = stand.actors.sites.all_cores in
          ap (λ (cs : List (LocalDbms AnyEngine)). slice_get cs place) put.cores_are ∙ get_put world.cores.sites.items.items place dbms (omega (arith, inside, many)));
      broken = fails_put (Dbms.Stands Engines.Stands tells dbms new) (DbmsStands tells behind dbms) home (programs_at session home.site) (past_of home.site story) asked
          (λ p k. on_put disks home.site.0 old new at (λ (d : Seen). Dbms.Stands Engines.Stands tells dbms d home (programs_at session home.site) p) k) part.dbms;
      coordinator = subst (λ (m : GlobalManager AnyPolicy). ManagerStands tells behind m (terms_of session.plan) (global_program session.plan) (coord_past story)) (sym put.coordinator_is) coordinator_stays;
      sites =
          sites_same (StandsBut home.site.0 tells behind) session story _ next.cores.sites.items.items _ next.cores.marks.items _ next.traffic.items put.cores_are put.marks_are put.channels_are
          (sites_put (DbmsStands tells disks) (StandsBut home.site.0 tells behind) world.cores.sites.items.items world.cores.marks.items world.traffic.items session story command place home dbms own traffic
          declared_rise stand.actors.sites asks.at asks.declared (λ other h programs past apart k never. frame other h programs past apart k)
          (record { dbms = λ never. absurd (never refl); marked = part.marked; site = part.site; marks = part.marks; to = part.to; from = part.from }));
    }

    pub site_fails : (why : StepErr) (now : List Seen) (next : World) (dbms : LocalDbms AnyEngine) (own : Marks) (traffic : Traffic) → now ≡ slice_set disks asks.home.site.0 new → IsPut world next place dbms own traffic
        → PartFails (Dbms.Stands Engines.Stands tells dbms new) why own traffic asks.home (programs_at session asks.home.site) (past_of asks.home.site (story_in session commands))
        (first_marks session asks.home) (sent_to asks.home.site (story_in session commands)) (sent_from asks.home.site (story_in session commands)) asked → IsUnheard tells (error_of asks.home.site.0 why) next now command session commands
    site_fails why now next dbms own traffic is put p = subst (λ (ds : List Seen). IsUnheard tells (error_of home.site.0 why) next ds command session commands) (sym is) (by_why why p)
      where
        by_why : (w : StepErr) → PartFails (Dbms.Stands Engines.Stands tells dbms new) w own traffic home (programs_at session home.site) (past_of home.site story) (first_marks session home) (sent_to home.site story) (sent_from home.site story) asked
            → IsUnheard tells (error_of home.site.0 w) next behind command session commands
        by_why Step_err.Memory p = same_stands next dbms own traffic put (record { dbms = p.dbms; marked = p.marked; site = p.site; marks = p.marks; to = p.to; from = p.from })
        by_why Step_err.Disk p = (site_broke home.site.0 tells next behind command session story in_range.least (breaks next dbms own traffic put p), others_empty)

  -- a site has a disk
  pub number_within : (place : ℕ) (site : SiteId) (channel : Traffic) → slice_get (sites session.plan) place ≡ Some site → slice_get world.traffic.items place ≡ Some channel → channel.site.0 < length disks
  number_within place site channel es et =
      let seat = seat_of (DbmsStands tells disks) world.cores.sites.items.items world.cores.marks.items world.traffic.items session (story_in session commands) stand.actors.sites place site channel es et in
      subst (λ (z : SiteId). z.0 < length disks) (sym seat.2.part.site) (slice_get_within disks seat.2.home.site.0 seat.2.part.dbms.disk seat.2.part.dbms.own)

  -- what it sent has numbers
  pub few_sent : (place : ℕ) (site : SiteId) (channel : Traffic) → slice_get (sites session.plan) place ≡ Some site → slice_get world.traffic.items place ≡ Some channel → HasRoom session commands → length channel.from.items < 2 ^ 32
  few_sent place site channel es et room =
      let seat = seat_of (DbmsStands tells disks) world.cores.sites.items.items world.cores.marks.items world.traffic.items session (story_in session commands) stand.actors.sites place site channel es et in
      numbers_fit (length channel.from.items) (length commands) (subst (λ (ms : List FromSite). length ms ≤ length commands) (sym seat.2.part.from) (stand.few.from site)) (few_commands session commands room)

  module _ (place : ℕ) (ask : SiteAsk) (command : Command) (asks : AsksSite place ask command session (story_in session commands)) (dbms : LocalDbms AnyEngine) (own : Marks) (channel : Traffic) (old : Seen) (read : IsRead world disks place dbms own channel old) where
    named : channel.site ≡ asks.home.site
    named = channel_named (DbmsStands tells disks) world.cores.sites.items.items world.cores.marks.items world.traffic.items session (story_in session commands) stand.actors.sites place asks.home.site channel asks.at read.message

    own_disk : slice_get disks asks.home.site.0 ≡ Some old
    own_disk = subst (λ (z : SiteId). slice_get disks z.0 ≡ Some old) named read.disk

    own_part : PartAt (Dbms.Stands Engines.Stands tells dbms old) own channel asks.home (programs_at session asks.home.site) (past_of asks.home.site (story_in session commands))
        (first_marks session asks.home) (sent_to asks.home.site (story_in session commands)) (sent_from asks.home.site (story_in session commands))
    own_part = part_at place asks.home dbms own channel old asks.at asks.declared read.core read.mark read.message own_disk

    may_ask : Begins session → HasRoom session commands → CanAsk ask asks.home (programs_at session asks.home.site) (past_of asks.home.site (story_in session commands))
    may_ask begins room = can_ask ask session commands asks.home begins stand.actors.coordinator.holds.core.holds.sound.in_range asks.declared asks.sent room

    pub may_hear : Begins session → HasRoom session commands → Dbms.Some_site (Dbms.Stands Engines.Stands tells dbms old) (CanAsk ask)
    may_hear begins room = record {
      home = asks.home;
      programs = programs_at session asks.home.site;
      past = past_of asks.home.site (story_in session commands);
      stood = own_part.dbms;
      holds = may_ask begins room;
    }

    module _ (new : Seen) (now : List Seen) (next : World) (core : LocalDbms AnyEngine) (kept : Marks) (traffic : Traffic) (is : now ≡ slice_set disks channel.site.0 new) (put : IsPut world next place core kept traffic) (begins : Begins session) (room : HasRoom session commands) where
      behind_is : now ≡ slice_set disks asks.home.site.0 new
      behind_is = is ∙ ap (λ (z : SiteId). slice_set disks z.0 new) named

      pub hears_from : (line : Line)
          → Dbms.Each_site (Dbms.Stands Engines.Stands tells dbms old) (λ home programs past. CanAsk ask home programs past → (first : List Mark) (to : List ToSite) (from : List FromSite) → PartAt (Dbms.Stands Engines.Stands tells dbms old) own channel home programs past first to from
          → PartHears (Dbms.Stands Engines.Stands tells core new) line kept traffic home programs past first to from (site_request ask home programs past))
          → IsHeard tells next now line command session commands
      hears_from line served =
          site_hears place ask command asks old new own_disk now next line core kept traffic behind_is put
          (served asks.home (programs_at session asks.home.site) (past_of asks.home.site (story_in session commands)) own_part.dbms (may_ask begins room) _ _ _ own_part)

      pub fails_from : (why : StepErr) (told : WorldErr) → told ≡ error_of channel.site.0 why
          → Dbms.Each_site (Dbms.Stands Engines.Stands tells dbms old) (λ home programs past. CanAsk ask home programs past → (first : List Mark) (to : List ToSite) (from : List FromSite) → PartAt (Dbms.Stands Engines.Stands tells dbms old) own channel home programs past first to from
          → PartFails (Dbms.Stands Engines.Stands tells core new) why kept traffic home programs past first to from (site_request ask home programs past))
          → IsUnheard tells told next now command session commands
      fails_from why told same failed =
          subst (λ (e : WorldErr). IsUnheard tells e next now command session commands) (sym (same ∙ ap (λ (z : SiteId). error_of z.0 why) named))
          (site_fails place ask command asks old new own_disk why now next core kept traffic behind_is put
          (failed asks.home (programs_at session asks.home.site) (past_of asks.home.site (story_in session commands)) own_part.dbms (may_ask begins room) _ _ _ own_part))

-- what indexing read
pub is_read : {D : Type 0} (seen : D → Seen) (tells : Bool) (world : World) (disks : List D) (session : Session) (commands : List Command) (place : ℕ) (ask : SiteAsk) (command : Command) (dbms : LocalDbms AnyEngine) (own : Marks) (channel : Traffic) (disk : D)
    → ActorsStand tells world (map seen disks) session commands → AsksSite place ask command session (story_in session commands)
    → dbms ≡ get_or world.cores.sites.items.items place dbms → own ≡ get_or world.cores.marks.items place own → channel ≡ get_or world.traffic.items place channel → disk ≡ get_or disks channel.site.0 disk
    → IsRead world (map seen disks) place dbms own channel (seen disk)
is_read seen tells world disks session commands place ask command dbms own channel disk stand asks ec em et ed =
    let inside = slice_get_within (sites session.plan) place asks.home.site asks.at in
    let many = stand.actors.sites.all_cores in
    let marked = stand.actors.sites.all_marks in
    let sent = stand.actors.sites.all_channels in
    let message : slice_get world.traffic.items place ≡ Some channel = slice_get_read world.traffic.items (length world.traffic.items) place channel refl (omega (arith, inside, sent)) et in
    let within = number_within tells world (map seen disks) session commands stand place asks.home.site channel asks.at message in
    let size = length-map disks seen in
    record {
      core = slice_get_read world.cores.sites.items.items (length world.cores.sites.items.items) place dbms refl (omega (arith, inside, many)) ec;
      mark = slice_get_read world.cores.marks.items (length world.cores.marks.items) place own refl (omega (arith, inside, marked)) em;
      message = message;
      disk = seen_at seen disks channel.site.0 disk (slice_get_read disks (length disks) channel.site.0 disk refl (omega (arith, within, size)) ed);
    }
