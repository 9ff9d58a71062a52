-- What a world stands for when its coordinator was told something, and what it sends was posted.
use Rattle.std.proofs.Common.{◌≡◌, inl, inr, Bool, ℕ, ◌≤◌, ◌<◌, ◌^◌, Some, List, [], ◌∷◌, ◌++◌, length, map, option_to_list, get_or, slice_get, slice_set, refl, sym, ap, ◌∙◌, subst, arith}
use Rattle.std.proofs.lemmas.List.{length-map}
use Rattle.std.proofs.lemmas.Option.{slice_get_read}
use Rattle.mdb_base.specs.declared.names.SiteId.{SiteId}
use Rattle.mdb_base.specs.Names.{same_site}
use Rattle.mdb_base.specs.Rising.{IsRising}
use Rattle.mdb_base.specs.Words.{Each, those}
use Rattle.mdb_base.proofs.ForCallers.{length-option}
use Rattle.order_laws.specs.Chains.{In}
use Rattle.fed_rules.specs.declared.answers.Answer.{Answer}
use Rattle.fed_rules.specs.declared.commands.Command.{Command}
use Rattle.fed_rules.specs.declared.commands.Line.{Line}
use Rattle.fed_rules.specs.declared.commands.Place.{Place}
use Rattle.fed_rules.specs.declared.events.CoordEvent.{CoordEvent}
use Rattle.fed_rules.specs.declared.events.CoordStep.{CoordStep}
use Rattle.fed_rules.specs.declared.messages.Sent.{Sent}
use Rattle.fed_rules.specs.declared.messages.ToSite.{ToSite}
use Rattle.fed_rules.specs.declared.scenario.Scenario.{Scenario}
use Rattle.fed_rules.specs.CoordPast.{CoordHappening, CoordPast}
use Rattle.fed_rules.specs.Requests.{Request, Submits, Declines}
use Rattle.fed_rules.specs.Right.{IsAnswer}
use Rattle.fed_rules.specs.Scenarios.{global_program, protocols, sites}
use Rattle.fed_rules.specs.SitePast.{SitePast}
use Rattle.fed_rules.specs.SiteRecords.{Home}
use Rattle.fed_rules.specs.Story.{Story, Happened, AtCoordinator, coord_past, coord_requested, happens, past_of, places_of, sends_from, sends_to, sent_to, tell, with_coordinator, story_in}
use Rattle.journal_disk.specs.Disk.{Seen}
use Rattle.actor_store.specs.declared.errors.StepErr.{StepErr}
use Rattle.actor_store.specs.declared.errors.StepErr.TheVariants as Step_err
use Rattle.any_engine.specs.declared.engine.AnyEngine.{AnyEngine}
use Rattle.any_engine.specs.Stands as Engines
use Rattle.conservative_take.specs.declared.any_policy.AnyPolicy.{AnyPolicy}
use Rattle.conservative_take.specs.AnyPolicies.{policy_is}
use Rattle.coord_tables.specs.Terms.{Terms}
use Rattle.global_manager.specs.declared.asks.CoordAsk.{CoordAsk}
use Rattle.global_manager.specs.declared.asks.CoordAsk.TheVariants as Coord
use Rattle.global_manager.specs.declared.manager.GlobalManager.{GlobalManager}
use Rattle.global_manager.specs.Asks.{CanAsk, coord_request}
use Rattle.global_manager.specs.Stands as Manager
use Rattle.global_manager.specs.Stands.{EachManaged, SomeManaged}
use Rattle.local_dbms.specs.declared.dbms.LocalDbms.{LocalDbms}
use Rattle.local_dbms.specs.Stands as Dbms
use Rattle.fed_rules.specs.OwnPrograms.{OwnPrograms}
use Rattle.fed_rules.specs.Sessions.{Session}
use Rattle.session_routes.specs.declared.traffic.Traffic.{Traffic}
use Rattle.session_routes.specs.Posting.{ArePosted, AreSameTraffic, message_to, places_to}
use Rattle.fed_world.specs.Seats.{SitesAt}
use Rattle.fed_world.proofs.SeatLines.{Moves, one_message, sites_told}
use Rattle.fed_world.proofs.SentPlaces.{sent_places}
use Rattle.world_laws.proofs.ForCallers.{SendsAmong}
use Rattle.fed_world.proofs.SessionRuns.{coordinator_among}
use Rattle.fed_world.specs.declared.errors.WorldErr.{WorldErr}
use Rattle.fed_world.specs.declared.world.World.{World}
use Rattle.fed_world.specs.Asks.{AsksCoordinator, IsFromSite, terms_of}
use Rattle.fed_world.specs.Worlds.{ActorsStand, AreDisks, DbmsStands, IsHeard, IsUnheard, ManagerStands, error_of}
use Rattle.fed_world.proofs.Disks.{on_other, on_own, on_put, put_disks, seen_at}
use Rattle.fed_world.proofs.Growing.{coord_sends_from, few_behind, numbers_fit}
use Rattle.fed_world.proofs.SeatsKept.{channel_counts, channel_sites, channel_to, rising_by, sites_keep, sites_same}
use Rattle.fed_world.proofs.SiteHeard.{declared_named, declared_rise}
use Rattle.fed_world.specs.Beginnings.{Begins}

-- the coordinator may be asked what a command asks of it
pub can_ask_coord : (ask : CoordAsk) (scenario : Scenario) (programs : OwnPrograms) (past : CoordPast) → IsFromSite ask scenario → CanAsk ask (terms_of scenario) programs past
can_ask_coord (Coord.Take site message) scenario programs past from = from
can_ask_coord (Coord.Go tx) scenario programs past from = tt
can_ask_coord (Coord.Fate tx) scenario programs past from = tt
can_ask_coord (Coord.Again tid) scenario programs past from = tt
can_ask_coord (Coord.Late tid) scenario programs past from = tt
can_ask_coord (Coord.Halt cut) scenario programs past from = tt
can_ask_coord (Coord.Trip calls cut) scenario programs past from = tt
can_ask_coord Coord.Back scenario programs past from = tt
can_ask_coord Coord.Check scenario programs past from = tt

-- a line of the coordinator stays away from the sites' pasts
moves_none : (session : Session) (story : Story) (r : Request CoordEvent) (site : SiteId) (past : SitePast) → Moves site (coord_requested session.plan story r) past past (sends_to site (coord_requested session.plan story r)) []
moves_none session story (Submits event) site past = record { past = refl; to = refl; from = refl }
moves_none session story (Declines answer) site past = record { past = refl; to = refl; from = refl }

-- what broke, with the disk among the others
fails_put : (K L : Terms → OwnPrograms → CoordPast → Type 0) (terms : Terms) (programs : OwnPrograms) (past : CoordPast) (r : Request CoordEvent) → ((p : CoordPast) → K terms programs p → L terms programs p)
    → Manager.Fails K Step_err.Disk terms programs past r → Manager.Fails L Step_err.Disk terms programs past r
fails_put K L terms programs past (Submits event) over (inl before) = inl (record { cut = before.cut; stood = over _ before.stood; down = before.down })
fails_put K L terms programs past (Submits event) over (inr inside) = inr (record { calls = inside.calls; cut = inside.cut; stops = inside.stops; stood = over _ inside.stood; down = inside.down })
fails_put K L terms programs past (Declines answer) over f = f

-- what a request of the coordinator is answered with, and leaves
module _ (K : Terms → OwnPrograms → CoordPast → Type 0) (session : Session) (story : Story) (programs : OwnPrograms) (step : CoordStep) where
  right_answer : (r : Request CoordEvent) → Manager.Serves K step (terms_of session.plan) programs (coord_past story) r → IsAnswer (protocols session.plan) story (coord_requested session.plan story r) step.answer
  right_answer (Submits event) s = s.said
  right_answer (Declines answer) s = s.said

  past_next : (r : Request CoordEvent) → Manager.Serves K step (terms_of session.plan) programs (coord_past story) r → K (terms_of session.plan) programs (with_coordinator (coord_requested session.plan story r) (coord_past story))
  past_next (Submits event) s = s.next
  past_next (Declines answer) s = s.next

  -- the messages to a site
  messages_to : (r : Request CoordEvent) → Manager.Serves K step (terms_of session.plan) programs (coord_past story) r → IsRising (λ (z : Sent). z.site.0) step.sends → (site : SiteId)
      → option_to_list (message_to site step.sends) ≡ sends_to site (coord_requested session.plan story r)
  messages_to (Submits event) s rises site =
      one_message site step.sends rises ∙ ap (λ (xs : List Sent). map (λ (z : Sent). z.message) (those (λ (z : Sent). same_site z.site site) xs)) s.sent
  messages_to (Declines answer) s rises site = ap (λ (xs : List Sent). option_to_list (message_to site xs)) s.sent

  -- the places of what is sent
  places_are : (r : Request CoordEvent) → Manager.Serves K step (terms_of session.plan) programs (coord_past story) r
      → map (λ (sent : Sent). let p : Place = record { site = sent.site; place = length (sent_to sent.site story) } in p) step.sends ≡ places_of story (coord_requested session.plan story r)
  places_are (Submits event) s = ap (λ (xs : List Sent). map (λ (sent : Sent). let p : Place = record { site = sent.site; place = length (sent_to sent.site story) } in p) xs) s.sent
  places_are (Declines answer) s = ap (λ (xs : List Sent). map (λ (sent : Sent). let p : Place = record { site = sent.site; place = length (sent_to sent.site story) } in p) xs) s.sent

  -- they are declared sites'
  sends_among : (r : Request CoordEvent) → Manager.Serves K step (terms_of session.plan) programs (coord_past story) r → ((x : CoordHappening) → coord_requested session.plan story r ≡ AtCoordinator x → SendsAmong (protocols session.plan) x)
      → Each (λ (z : Sent). In z.site (sites session.plan)) step.sends
  sends_among (Submits event) s among = subst (λ (xs : List Sent). Each (λ (z : Sent). In z.site (sites session.plan)) xs) (sym s.sent) (among _ refl).sends
  sends_among (Declines answer) s among = subst (λ (xs : List Sent). Each (λ (z : Sent). In z.site (sites session.plan)) xs) (sym s.sent) tt

-- the sites of the world are as they were, and room was made for messages
pub record IsRoomed (world next : World) : Type 0 where
  pub cores_are : next.cores.sites.items.items ≡ world.cores.sites.items.items
  pub marks_are : next.cores.marks.items ≡ world.cores.marks.items
  pub channels_are : AreSameTraffic world.traffic.items next.traffic.items

-- and these were posted, when room was made
pub record IsPostedTo (world next : World) (roomed : List Traffic) (sends : List Sent) : Type 0 where
  pub cores_are : next.cores.sites.items.items ≡ world.cores.sites.items.items
  pub marks_are : next.cores.marks.items ≡ world.cores.marks.items
  pub room : AreSameTraffic world.traffic.items roomed
  pub posted : ArePosted sends roomed next.traffic.items

module _ (tells : Bool) (world : World) (disks : List Seen) (session : Session) (commands : List Command) (stand : ActorsStand tells world disks session commands) where
  -- room for messages changes nothing
  pub roomed_stands : (next : World) → next.cores.coordinator ≡ world.cores.coordinator → IsRoomed world next → ActorsStand tells next disks session commands
  roomed_stands next same roomed = record {
    actors = record {
      coordinator = subst (λ (m : GlobalManager AnyPolicy). ManagerStands tells disks m (terms_of session.plan) (global_program session.plan) (coord_past (story_in session commands))) (sym same) stand.actors.coordinator;
      sites =
          sites_same (DbmsStands tells disks) session (story_in session commands) world.cores.sites.items.items next.cores.sites.items.items world.cores.marks.items next.cores.marks.items next.traffic.items next.traffic.items
          roomed.cores_are roomed.marks_are refl
          (sites_keep (DbmsStands tells disks) (DbmsStands tells disks) world.cores.sites.items.items world.cores.marks.items world.traffic.items next.traffic.items session (story_in session commands)
          (declared_named tells world disks session commands stand) roomed.channels_are (λ dbms home programs past named k. k) stand.actors.sites);
    };
    few = stand.few;
    others = stand.others;
  }

  -- there is room for the numbers of messages
  pub few_messages : (roomed : List Traffic) → AreSameTraffic world.traffic.items roomed → length commands < 2 ^ 30 → (place : ℕ) (one : Traffic) → slice_get roomed place ≡ Some one → length one.to.items < 2 ^ 32
  few_messages roomed same room place one e =
      let sited = sites_keep (DbmsStands tells disks) (DbmsStands tells disks) world.cores.sites.items.items world.cores.marks.items world.traffic.items roomed session (story_in session commands)
      (declared_named tells world disks session commands stand) same (λ dbms home programs past named k. k) stand.actors.sites in
      let is : length one.to.items ≡ length (sent_to one.site (story_in session commands)) =
      ap (λ (ms : List ToSite). length ms) (channel_to (DbmsStands tells disks) world.cores.sites.items.items world.cores.marks.items roomed session (story_in session commands) sited place one e) in
      numbers_fit (length one.to.items) (length commands) (subst (λ (n : ℕ). n ≤ length commands) (sym is) (stand.few.to one.site)) room

  module _ (old new : Seen) (at : slice_get disks 0 ≡ Some old) where
    abbrev story : Story
    story = story_in session commands

    abbrev behind : List Seen
    behind = slice_set disks 0 new

    -- the coordinator with its disk
    pub coordinator_at : Manager.Stands policy_is tells world.cores.coordinator old (terms_of session.plan) (global_program session.plan) (coord_past (story_in session commands))
    coordinator_at = on_own disks 0 old new at (λ (d : Seen). Manager.Stands policy_is tells world.cores.coordinator d (terms_of session.plan) (global_program session.plan) (coord_past (story_in session commands))) stand.actors.coordinator

    others_empty : AreDisks behind session
    others_empty = put_disks disks 0 old new at session (λ site least none same. omega (arith, least, same)) stand.others

    -- the sites with the disks behind
    sites_stand : (channels : List Traffic) → AreSameTraffic world.traffic.items channels → SitesAt (DbmsStands tells behind) world.cores.sites.items.items world.cores.marks.items channels session story
    sites_stand channels same =
        sites_keep (DbmsStands tells disks) (DbmsStands tells behind) world.cores.sites.items.items world.cores.marks.items world.traffic.items channels session story
        (declared_named tells world disks session commands stand) same
        (λ dbms home programs past named k. on_other disks 0 old new at home.site.0 (λ (d : Seen). Dbms.Stands Engines.Stands tells dbms d home programs past) (λ none. (let least = named.least in omega (arith, least, none))) k)
        stand.actors.sites

    sites_roomed : (next : World) → IsRoomed world next → SitesAt (DbmsStands tells behind) next.cores.sites.items.items next.cores.marks.items next.traffic.items session story
    sites_roomed next roomed =
        sites_same (DbmsStands tells behind) session story world.cores.sites.items.items next.cores.sites.items.items world.cores.marks.items next.cores.marks.items next.traffic.items next.traffic.items
        roomed.cores_are roomed.marks_are refl (sites_stand next.traffic.items roomed.channels_are)

    module _ (ask : CoordAsk) (command : Command) (asks : AsksCoordinator ask command session (story_in session commands)) where
      abbrev asked : Request CoordEvent
      asked = coord_request ask (terms_of session.plan) (global_program session.plan) (coord_past (story_in session commands))

      pub may_ask_coord : SomeManaged (Manager.Stands policy_is tells world.cores.coordinator old) (CanAsk ask)
      may_ask_coord = record {
        terms = terms_of session.plan;
        programs = global_program session.plan;
        past = coord_past (story_in session commands);
        stood = coordinator_at;
        holds = can_ask_coord ask session.plan (global_program session.plan) (coord_past (story_in session commands)) asks.from;
      }

      pub coord_hears : Begins session → (now : List Seen) (next : World) (roomed : List Traffic) (step : CoordStep) (line : Line) → now ≡ slice_set disks 0 new → IsPostedTo world next roomed step.sends
          → Manager.Serves (Manager.Stands policy_is tells next.cores.coordinator new) step (terms_of session.plan) (global_program session.plan) (coord_past (story_in session commands)) asked
          → IsRising (λ (z : Sent). z.site.0) step.sends → line.answer ≡ step.answer → line.sends ≡ places_to step.sends roomed → IsHeard tells next now line command session commands
      coord_hears begins now next roomed step line is put s rises said places = subst (λ (ds : List Seen). IsHeard tells next ds line command session commands) (sym is) (record {
        answer = subst (λ (a : Answer). IsAnswer (protocols session.plan) story (happens session.plan story command) a) (sym said)
            (subst (λ (h : Happened). IsAnswer (protocols session.plan) story h step.answer) (sym asks.happens) (right_answer K session story (global_program session.plan) step asked s));
        sends = places ∙ (sent_places (λ (site : SiteId). length (sent_to site story)) roomed step.sends channels_rise rises counts among
            ∙ (places_are K session story (global_program session.plan) step asked s ∙ ap (λ (h : Happened). places_of story h) (sym asks.happens)));
        next = record {
          actors = record { coordinator = coordinator; sites = sites_next };
          few = few_behind story (tell session.plan story command) (length commands) stand.few
              (λ site. subst (λ (ms : List ToSite). length ms ≤ 1) (messages site) (length-option (message_to site step.sends)))
              (λ site. subst (λ (h : Happened). length (sends_from site h) ≤ 1) (sym asks.happens) (coord_sends_from session.plan story asked site));
          others = others_empty;
        };
      })
        where
          K : Terms → OwnPrograms → CoordPast → Type 0
          K = Manager.Stands policy_is tells next.cores.coordinator new

          L : LocalDbms AnyEngine → Home → OwnPrograms → SitePast → Type 0
          L = DbmsStands tells behind

          sited : SitesAt L world.cores.sites.items.items world.cores.marks.items roomed session story
          sited = sites_stand roomed put.room

          messages : (site : SiteId) → option_to_list (message_to site step.sends) ≡ sends_to site (happens session.plan story command)
          messages site = messages_to K session story (global_program session.plan) step asked s rises site ∙ ap (λ (h : Happened). sends_to site h) (sym asks.happens)

          channels_are : map (λ (t : Traffic). t.site) roomed ≡ sites session.plan
          channels_are = channel_sites L world.cores.sites.items.items world.cores.marks.items roomed session story sited

          channels_rise : IsRising (λ (t : Traffic). t.site.0) roomed
          channels_rise = rising_by (λ (t : Traffic). t.site) roomed
              (subst (λ (ss : List SiteId). IsRising (λ (z : SiteId). z.0) ss) (sym channels_are) (declared_rise tells world disks session commands stand))

          counts : Each (λ (t : Traffic). length t.to.items ≡ length (sent_to t.site story)) roomed
          counts = channel_counts L world.cores.sites.items.items world.cores.marks.items roomed session story sited

          among : Each (λ (z : Sent). In z.site (map (λ (t : Traffic). t.site) roomed)) step.sends
          among = subst (λ (ss : List SiteId). Each (λ (z : Sent). In z.site ss) step.sends) (sym channels_are)
              (sends_among K session story (global_program session.plan) step asked s (λ x e. coordinator_among session commands begins command x (asks.happens ∙ e)))

          coordinator : ManagerStands tells behind next.cores.coordinator (terms_of session.plan) (global_program session.plan) (with_coordinator (happens session.plan story command) (coord_past story))
          coordinator = on_put disks 0 old new at (λ (d : Seen). Manager.Stands policy_is tells next.cores.coordinator d (terms_of session.plan) (global_program session.plan) (with_coordinator (happens session.plan story command) (coord_past story)))
              (subst (λ (h : Happened). K (terms_of session.plan) (global_program session.plan) (with_coordinator h (coord_past story))) (sym asks.happens) (past_next K session story (global_program session.plan) step asked s))

          sites_next : SitesAt L next.cores.sites.items.items next.cores.marks.items next.traffic.items session (tell session.plan story command ∷ story)
          sites_next =
              sites_same L session (tell session.plan story command ∷ story) world.cores.sites.items.items next.cores.sites.items.items world.cores.marks.items next.cores.marks.items next.traffic.items next.traffic.items
              put.cores_are put.marks_are refl
              (sites_told L L world.cores.sites.items.items world.cores.marks.items roomed session story (tell session.plan story command) (λ site. sends_to site (happens session.plan story command)) next.traffic.items sited
              (λ site. subst (λ (h : Happened). Moves site h (past_of site story) (past_of site story) (sends_to site h) []) (sym asks.happens) (moves_none session story asked site (past_of site story)))
              (λ dbms home programs past k. k) put.posted.count
              (λ p a b ea eb. (let x = put.posted.each p a b ea eb in (x.site, x.to ∙ ap (λ (ms : List ToSite). a.to.items ++ ms) (messages a.site), x.from))))

      pub hears_told : Begins session → (now : List Seen) (next : World) (roomed : List Traffic) (sends : List Sent) (step : CoordStep) (line : Line) → now ≡ slice_set disks 0 new → IsPostedTo world next roomed sends → sends ≡ step.sends
          → EachManaged (Manager.Stands policy_is tells world.cores.coordinator old) (λ terms programs past. CanAsk ask terms programs past
          → Manager.Serves (Manager.Stands policy_is tells next.cores.coordinator new) step terms programs past (coord_request ask terms programs past))
          → IsRising (λ (z : Sent). z.site.0) step.sends → line.answer ≡ step.answer → line.sends ≡ places_to sends roomed → IsHeard tells next now line command session commands
      hears_told begins now next roomed sends step line is put same served rises said places =
          coord_hears begins now next roomed step line is (subst (λ (xs : List Sent). IsPostedTo world next roomed xs) same put)
          (served (terms_of session.plan) (global_program session.plan) (coord_past (story_in session commands)) coordinator_at (can_ask_coord ask session.plan (global_program session.plan) (coord_past (story_in session commands)) asks.from))
          rises said (places ∙ ap (λ (xs : List Sent). places_to xs roomed) same)

      -- what isn't heard
      same_stands : (next : World) → IsRoomed world next → ManagerStands tells behind next.cores.coordinator (terms_of session.plan) (global_program session.plan) (coord_past story) → ActorsStand tells next behind session commands
      same_stands next roomed coordinator = record {
        actors = record { coordinator = coordinator; sites = sites_roomed next roomed };
        few = stand.few;
        others = others_empty;
      }

      pub coord_fails : (why : StepErr) (now : List Seen) (next : World) → now ≡ slice_set disks 0 new → IsRoomed world next
          → Manager.Fails (Manager.Stands policy_is tells next.cores.coordinator new) why (terms_of session.plan) (global_program session.plan) (coord_past (story_in session commands)) asked
          → IsUnheard tells (error_of 0 why) next now command session commands
      coord_fails why now next is roomed f = subst (λ (ds : List Seen). IsUnheard tells (error_of 0 why) next ds command session commands) (sym is) (by_why why f)
        where
          by_why : (w : StepErr) → Manager.Fails (Manager.Stands policy_is tells next.cores.coordinator new) w (terms_of session.plan) (global_program session.plan) (coord_past story) asked
              → IsUnheard tells (error_of 0 w) next behind command session commands
          by_why Step_err.Memory f =
              same_stands next roomed (on_put disks 0 old new at (λ (d : Seen). Manager.Stands policy_is tells next.cores.coordinator d (terms_of session.plan) (global_program session.plan) (coord_past story)) f)
          by_why Step_err.Disk f = (
            record {
              asked = asked;
              happens = asks.happens;
              coordinator = fails_put (Manager.Stands policy_is tells next.cores.coordinator new) (ManagerStands tells behind next.cores.coordinator) (terms_of session.plan) (global_program session.plan) (coord_past story) asked
                  (λ p k. on_put disks 0 old new at (λ (d : Seen). Manager.Stands policy_is tells next.cores.coordinator d (terms_of session.plan) (global_program session.plan) p) k) f;
              sites = sites_roomed next roomed;
            },
            others_empty,
          )

      pub fails_told : (why : StepErr) (told : WorldErr) (now : List Seen) (next : World) → told ≡ error_of 0 why → now ≡ slice_set disks 0 new → IsRoomed world next
          → EachManaged (Manager.Stands policy_is tells world.cores.coordinator old) (λ terms programs past. CanAsk ask terms programs past
          → Manager.Fails (Manager.Stands policy_is tells next.cores.coordinator new) why terms programs past (coord_request ask terms programs past))
          → IsUnheard tells told next now command session commands
      fails_told why told now next same is roomed failed =
          subst (λ (e : WorldErr). IsUnheard tells e next now command session commands) (sym same)
          (coord_fails why now next is roomed
          (failed (terms_of session.plan) (global_program session.plan) (coord_past (story_in session commands)) coordinator_at (can_ask_coord ask session.plan (global_program session.plan) (coord_past (story_in session commands)) asks.from)))

-- the disk of the coordinator was read
pub first_disk : {D : Type 0} (seen : D → Seen) (disks : List D) (disk : D) (session : Session) → AreDisks (map seen disks) session → disk ≡ get_or disks 0 disk → slice_get (map seen disks) 0 ≡ Some (seen disk)
first_disk seen disks disk session are e =
    let nine = are.nine in
    let size = length-map disks seen in
    seen_at seen disks 0 disk (slice_get_read disks (length disks) 0 disk refl (omega (arith, nine, size)) e)
