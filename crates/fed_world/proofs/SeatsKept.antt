-- The sites of a story in their seats, where the story stays.
use Rattle.std.proofs.Common.{◌≡◌, ℕ, zero, suc, Some, List, [], ◌∷◌, length, map, get_or, slice_get, slice_set, refl, sym, ap, ◌∙◌, subst, arith}
use Rattle.std.proofs.lemmas.List.{append-nil, length-map}
use Rattle.std.proofs.lemmas.Option.{same_Some, slice_get-get_or, slice_get_within}
use Rattle.mdb_base.specs.declared.names.SiteId.{SiteId}
use Rattle.mdb_base.specs.Rising.{IsRising}
use Rattle.mdb_base.specs.Words.{Each}
use Rattle.mdb_base.proofs.ForCallers.{each_by_place, made_of, same_lists, slice_get-there}
use Rattle.presumptions.specs.declared.Participant.{Participant}
use Rattle.record_fields.specs.Named.{IsSite}
use Rattle.fed_rules.specs.declared.answers.Answer.TheVariants as Say
use Rattle.fed_rules.specs.declared.commands.Command.{Command}
use Rattle.fed_rules.specs.declared.messages.ToSite.{ToSite}
use Rattle.fed_rules.specs.Requests.{Declines}
use Rattle.fed_rules.specs.Scenarios.{home_of, sites}
use Rattle.fed_rules.specs.SitePast.{SitePast}
use Rattle.fed_rules.specs.SiteRecords.{Home}
use Rattle.fed_rules.specs.Story.{Story, Nowhere, past_of, sent_from, sent_to}
use Rattle.fed_rules.specs.Sessions.{Session}
use Rattle.any_engine.specs.declared.engine.AnyEngine.{AnyEngine}
use Rattle.local_dbms.specs.declared.dbms.LocalDbms.{LocalDbms}
use Rattle.local_dbms.specs.Stands.{OwnPrograms}
use Rattle.session_report.specs.declared.marks.Marks.{Marks}
use Rattle.session_routes.specs.declared.traffic.Traffic.{Traffic}
use Rattle.session_routes.specs.Posting.{AreSameTraffic}
use Rattle.fed_world.specs.SeatParts.{PartAt}
use Rattle.fed_world.specs.Seats.{OfDbms, SiteAt, SitesAt}
use Rattle.fed_world.proofs.SeatLines.{Frame, sites_hear}
use Rattle.fed_world.specs.Beginnings.{programs_at, first_marks}

-- a site that is declared is one of 1 to 8
pub site_in_range : (ps : List Participant) → Each (λ (m : Participant). IsSite m.site) ps → (n : ℕ) (site : SiteId) → slice_get (map (λ (m : Participant). m.site) ps) n ≡ Some site → IsSite site
site_in_range [] h n site e = cc
site_in_range (m ∷ ps) h zero site e = subst IsSite (same_Some m.site site e) h.0
site_in_range (m ∷ ps) h (suc n) site e = site_in_range ps h.1 n site e

-- items that rise by their sites
pub rising_by : {A : Type 0} (f : A → SiteId) (xs : List A) → IsRising (λ (s : SiteId). s.0) (map f xs) → IsRising (λ (x : A). (f x).0) xs
rising_by f [] r = tt
rising_by f (x ∷ []) r = tt
rising_by f (x ∷ y ∷ ys) r = (r.0, rising_by f (y ∷ ys) r.1)

pub same_traffic : (channels : List Traffic) → AreSameTraffic channels channels
same_traffic channels = record {
  count = refl;
  each = λ p a b ea eb. (let same : a ≡ b = same_Some a b (sym ea ∙ eb) in
      record { site = ap (λ (t : Traffic). t.site) (sym same); to = ap (λ (t : Traffic). t.to.items) (sym same); from = ap (λ (t : Traffic). t.from.items) (sym same) });
}

-- the same lists, told apart by their names
pub sites_same : (K : OfDbms) (session : Session) (story : Story) (cores now : List (LocalDbms AnyEngine)) (marks kept : List Marks) (channels held : List Traffic) → now ≡ cores → kept ≡ marks → held ≡ channels
    → SitesAt K cores marks channels session story → SitesAt K now kept held session story
sites_same K session story cores now marks kept channels held ec em et s =
    subst (λ (cs : List (LocalDbms AnyEngine)). SitesAt K cs kept held session story) (sym ec)
    (subst (λ (ms : List Marks). SitesAt K cores ms held session story) (sym em) (subst (λ (ts : List Traffic). SitesAt K cores marks ts session story) (sym et) s))

-- the fact goes over to another one, and the messages are the same
pub sites_keep : (K L : OfDbms) (cores : List (LocalDbms AnyEngine)) (marks : List Marks) (old new : List Traffic) (session : Session) (story : Story)
    → ((n : ℕ) (site : SiteId) → slice_get (sites session.plan) n ≡ Some site → IsSite site) → AreSameTraffic old new
    → ((dbms : LocalDbms AnyEngine) (home : Home) (programs : OwnPrograms) (past : SitePast) → IsSite home.site → K dbms home programs past → L dbms home programs past)
    → SitesAt K cores marks old session story → SitesAt L cores marks new session story
sites_keep K L cores marks old new session story named same over were = record {
  all_cores = were.all_cores;
  all_marks = were.all_marks;
  all_channels = same.count ∙ were.all_channels;
  each = λ p site d m t es ec em et. at_place p site d m t es ec em et;
}
  where
    at_place : (p : ℕ) (site : SiteId) (d : LocalDbms AnyEngine) (m : Marks) (t : Traffic) → slice_get (sites session.plan) p ≡ Some site → slice_get cores p ≡ Some d
        → slice_get marks p ≡ Some m → slice_get new p ≡ Some t → SiteAt L d m t session site story
    at_place p site d m t es ec em et =
        let inside = slice_get_within new p t et in
        let many = same.count in
        let e : slice_get old p ≡ Some (get_or old p t) = slice_get-get_or old p t (omega (arith, inside, many)) in
        let at = were.each p site d m (get_or old p t) es ec em e in
        let moved = same.each p (get_or old p t) t e et in
        let here : IsSite at.home.site = subst IsSite (sym at.is) (named p site es) in
        record {
          home = at.home;
          is = at.is;
          declared = at.declared;
          part = record {
            dbms = over d at.home (programs_at session site) (past_of site story) here at.part.dbms;
            marked = at.part.marked;
            site = moved.site ∙ at.part.site;
            marks = at.part.marks;
            to = moved.to ∙ at.part.to;
            from = moved.from ∙ at.part.from;
          };
        }

-- a line that nobody hears of leaves the sites
sites_untold : (L : OfDbms) (cores : List (LocalDbms AnyEngine)) (marks : List Marks) (channels : List Traffic) (session : Session) (story : Story) (command : Command)
    → SitesAt L cores marks channels session (record { command = command; happened = Nowhere Say.None } ∷ story) → SitesAt L cores marks channels session story
sites_untold L cores marks channels session story command s = record {
  all_cores = s.all_cores;
  all_marks = s.all_marks;
  all_channels = s.all_channels;
  each = λ p site d m t es ec em et. (let at = s.each p site d m t es ec em et in
      record {
        home = at.home;
        is = at.is;
        declared = at.declared;
        part = record {
          dbms = at.part.dbms;
          marked = at.part.marked;
          site = at.part.site;
          marks = at.part.marks;
          to = at.part.to ∙ append-nil (sent_to site story);
          from = at.part.from ∙ append-nil (sent_from site story);
        };
      });
}

-- what is kept of the site at this place was put anew
pub sites_put : (K L : OfDbms) (cores : List (LocalDbms AnyEngine)) (marks : List Marks) (channels : List Traffic) (session : Session) (story : Story) (command : Command) (place : ℕ) (home : Home)
    (dbms : LocalDbms AnyEngine) (own : Marks) (traffic : Traffic) → IsRising (λ (z : SiteId). z.0) (sites session.plan) → SitesAt K cores marks channels session story
    → slice_get (sites session.plan) place ≡ Some home.site → home_of session.plan home.site ≡ Some home → Frame K L home.site
    → PartAt (L dbms) own traffic home (programs_at session home.site) (past_of home.site story) (first_marks session home) (sent_to home.site story) (sent_from home.site story)
    → SitesAt L (slice_set cores place dbms) (slice_set marks place own) (slice_set channels place traffic) session story
sites_put K L cores marks channels session story command place home dbms own traffic rises were at declared frame part =
    sites_untold L (slice_set cores place dbms) (slice_set marks place own) (slice_set channels place traffic) session story command
    (sites_hear K L cores marks channels session story (record { command = command; happened = Nowhere Say.None }) place home (Declines Say.None) dbms own traffic rises were at declared refl frame
    (record { dbms = part.dbms; marked = part.marked; site = part.site; marks = part.marks; to = part.to; from = part.from ∙ sym (append-nil (sent_from home.site story)) }))

module _ (K : OfDbms) (cores : List (LocalDbms AnyEngine)) (marks : List Marks) (channels : List Traffic) (session : Session) (story : Story) (were : SitesAt K cores marks channels session story) where
  -- the seat of a declared site, from its place among them
  pub seat_of : (place : ℕ) (site : SiteId) (traffic : Traffic) → slice_get (sites session.plan) place ≡ Some site → slice_get channels place ≡ Some traffic
      → (dbms : LocalDbms AnyEngine) × (own : Marks) × SiteAt K dbms own traffic session site story
  seat_of place site traffic es et =
      let inside = slice_get_within (sites session.plan) place site es in
      let many = were.all_cores in
      let marked = were.all_marks in
      let core = slice_get-there cores place (omega (arith, inside, many)) in
      let mark = slice_get-there marks place (omega (arith, inside, marked)) in
      (core.0, mark.0, were.each place site core.0 mark.0 traffic es core.1 mark.1 et)

  -- its channel bears its number
  pub channel_named : (place : ℕ) (site : SiteId) (traffic : Traffic) → slice_get (sites session.plan) place ≡ Some site → slice_get channels place ≡ Some traffic → traffic.site ≡ site
  channel_named place site traffic es et = let seat = seat_of place site traffic es et in seat.2.part.site ∙ seat.2.is

  -- each channel is that of a declared site
  pub site_of_channel : (place : ℕ) (traffic : Traffic) → slice_get channels place ≡ Some traffic → (site : SiteId) × (slice_get (sites session.plan) place ≡ Some site)
  site_of_channel place traffic et =
      let inside = slice_get_within channels place traffic et in
      let many = were.all_channels in
      slice_get-there (sites session.plan) place (omega (arith, inside, many))

  -- the channels are those of the declared sites, in their order
  pub channel_sites : map (λ (t : Traffic). t.site) channels ≡ sites session.plan
  channel_sites = same_lists (map (λ (t : Traffic). t.site) channels) (sites session.plan) (length-map channels (λ (t : Traffic). t.site) ∙ were.all_channels) by_place
    where
      by_place : (n : ℕ) (x y : SiteId) → slice_get (map (λ (t : Traffic). t.site) channels) n ≡ Some x → slice_get (sites session.plan) n ≡ Some y → x ≡ y
      by_place n x y ex ey =
          let channel = made_of (λ (t : Traffic). t.site) channels n x ex in
          sym channel.2 ∙ channel_named n y channel.0 ey channel.1

  -- each holds the messages to its site
  pub channel_to : (place : ℕ) (traffic : Traffic) → slice_get channels place ≡ Some traffic → traffic.to.items ≡ sent_to traffic.site story
  channel_to place traffic et =
      let named = site_of_channel place traffic et in
      let seat = seat_of place named.0 traffic named.1 et in
      seat.2.part.to ∙ ap (λ (s : SiteId). sent_to s story) (sym (channel_named place named.0 traffic named.1 et))

  pub channel_counts : Each (λ (t : Traffic). length t.to.items ≡ length (sent_to t.site story)) channels
  channel_counts = each_by_place _ channels (λ n t e. ap (λ (ms : List ToSite). length ms) (channel_to n t e))
