-- What a line leaves of the sites in their seats.
use Rattle.std.proofs.Common.{◌≡◌, ℕ, zero, suc, ◌<◌, ◌≤◌, ◌==◌, Bool, true, false, cond, Option, Some, None, List, [], ◌∷◌, ◌++◌, length, map, slice_get, slice_set, option_to_list, refl, sym, ap, ◌∙◌, subst, eqb-true, eq-eqb, arith}
use Rattle.std.proofs.lemmas.Bool.{cond-true, cond-false, ne_eqb}
use Rattle.std.proofs.lemmas.List.{append-nil}
use Rattle.std.proofs.lemmas.Option.{slice_get_within, same_Some}
use Rattle.mdb_base.specs.declared.names.SiteId.{SiteId}
use Rattle.mdb_base.specs.Names.{same_site}
use Rattle.mdb_base.specs.Rising.{IsRising}
use Rattle.mdb_base.specs.Words.{first_where, map_some, those}
use Rattle.mdb_base.proofs.ForCallers.{same_site-refl}
use Rattle.fed_rules.specs.declared.events.SiteEvent.{SiteEvent}
use Rattle.fed_rules.specs.declared.messages.FromSite.{FromSite}
use Rattle.fed_rules.specs.declared.messages.Sent.{Sent}
use Rattle.fed_rules.specs.declared.messages.ToSite.{ToSite}
use Rattle.fed_rules.specs.Requests.{Request, Submits, Declines}
use Rattle.fed_rules.specs.Scenarios.{home_of, sites}
use Rattle.fed_rules.specs.SiteCommands.{past_behind}
use Rattle.fed_rules.specs.SitePast.{SitePast}
use Rattle.fed_rules.specs.SiteRecords.{Home}
use Rattle.fed_rules.specs.Story.{Story, Told, Happened, past_of, requested, sends_from, sends_to, sent_from, sent_to, with_site}
use Rattle.fed_rules.specs.Sessions.{Session}
use Rattle.any_engine.specs.declared.engine.AnyEngine.{AnyEngine}
use Rattle.local_dbms.specs.declared.dbms.LocalDbms.{LocalDbms}
use Rattle.local_dbms.specs.Stands.{OwnPrograms, sends_of}
use Rattle.session_report.specs.declared.marks.Marks.{Marks}
use Rattle.session_report.specs.Marks.{kept_marks}
use Rattle.session_routes.specs.declared.traffic.Traffic.{Traffic}
use Rattle.session_routes.specs.Posting.{message_to}
use Rattle.session_routes.proofs.ForCallers.{get_other, get_put, length_set}
use Rattle.fed_world.specs.SeatParts.{PartAt}
use Rattle.fed_world.specs.Seats.{OfDbms, SiteAt, SitesAt}
use Rattle.fed_world.specs.Beginnings.{programs_at, first_marks}

-- the site's part of a line
pub record Moves (site : SiteId) (happened : Happened) (old next : SitePast) (sent : List ToSite) (back : List FromSite) : Type 0 where
  pub past : with_site site happened old ≡ next
  pub to : sends_to site happened ≡ sent
  pub from : sends_from site happened ≡ back

-- a line of the site itself
pub moves_here : (home : Home) (story : Story) (r : Request SiteEvent) → Moves home.site (requested home story r) (past_of home.site story) (past_behind home (past_of home.site story) r) [] (sends_of home (past_of home.site story) r)
moves_here home story (Submits event) =
    let here = same_site-refl home.site in
    record { past = cond-true _ _ _ here; to = refl; from = cond-true _ _ _ here }
moves_here home story (Declines answer) = record { past = refl; to = refl; from = refl }

-- a line of another site
pub moves_there : (home : Home) (story : Story) (r : Request SiteEvent) (site : SiteId) (past : SitePast) → same_site home.site site ≡ false → Moves site (requested home story r) past past [] []
moves_there home story (Submits event) site past other = record { past = cond-false _ _ _ other; to = refl; from = cond-false _ _ _ other }
moves_there home story (Declines answer) site past other = record { past = refl; to = refl; from = refl }

module _ (session : Session) (story : Story) (told : Told) where
  -- a site behind the line
  pub site_moves : (K L : OfDbms) (old new : LocalDbms AnyEngine) (marks : Marks) (traffic : Traffic) (home : Home) (next : SitePast) (to : List ToSite) (from : List FromSite)
      → home_of session.plan home.site ≡ Some home → Moves home.site told.happened (past_of home.site story) next to from
      → PartAt (L new) marks traffic home (programs_at session home.site) next (first_marks session home) (sent_to home.site story ++ to) (sent_from home.site story ++ from)
      → SiteAt L new marks traffic session home.site (told ∷ story)
  site_moves K L old new marks traffic home next to from declared m p = record {
    home = home;
    is = refl;
    declared = declared;
    part = record {
      dbms = subst (λ (z : SitePast). L new home (programs_at session home.site) z) (sym m.past) p.dbms;
      marked = p.marked;
      site = p.site;
      marks = p.marks ∙ ap (λ (z : SitePast). kept_marks home z) (sym m.past);
      to = p.to ∙ ap (λ (ms : List ToSite). sent_to home.site story ++ ms) (sym m.to);
      from = p.from ∙ ap (λ (ms : List FromSite). sent_from home.site story ++ ms) (sym m.from);
    };
  }

-- sites that rise stand at one place each
rising_below : (s : SiteId) (xs : List SiteId) (n : ℕ) (x : SiteId) → IsRising (λ (z : SiteId). z.0) (s ∷ xs) → slice_get xs n ≡ Some x → s.0 < x.0
rising_below s [] n x rises e = cc
rising_below s (y ∷ xs) zero x rises e = subst (λ (z : SiteId). s.0 < z.0) (same_Some y x e) rises.0
rising_below s (y ∷ xs) (suc n) x rises e = (let first = rises.0 in let rest = rising_below y xs n x rises.1 e in omega (arith, first, rest))

rising_tail : (s : SiteId) (xs : List SiteId) → IsRising (λ (z : SiteId). z.0) (s ∷ xs) → IsRising (λ (z : SiteId). z.0) xs
rising_tail s [] rises = tt
rising_tail s (y ∷ xs) rises = rises.1

pub one_place : (xs : List SiteId) (n k : ℕ) (x : SiteId) (y : SiteId) → IsRising (λ (z : SiteId). z.0) xs → slice_get xs n ≡ Some x → slice_get xs k ≡ Some y → x.0 ≡ y.0 → n ≡ k
one_place [] n k x y rises ex ey e = cc
one_place (s ∷ xs) zero zero x y rises ex ey e = refl
one_place (s ∷ xs) zero (suc k) x y rises ex ey e = (let less = rising_below s xs k y rises ey in let same : s.0 ≡ x.0 = ap (λ (z : SiteId). z.0) (same_Some s x ex) in absurd (omega (arith, less, same, e)))
one_place (s ∷ xs) (suc n) zero x y rises ex ey e = (let less = rising_below s xs n x rises ex in let same : s.0 ≡ y.0 = ap (λ (z : SiteId). z.0) (same_Some s y ey) in absurd (omega (arith, less, same, e)))
one_place (s ∷ xs) (suc n) (suc k) x y rises ex ey e = ap (λ (m : ℕ). suc m) (one_place xs n k x y (rising_tail s xs rises) ex ey e)

-- the fact goes over to another one at every other site
abbrev pub Frame : OfDbms → OfDbms → SiteId → Type 0
Frame K L site = (dbms : LocalDbms AnyEngine) (home : Home) (programs : OwnPrograms) (past : SitePast) → (home.site.0 ≡ site.0 → ⊥) → K dbms home programs past → L dbms home programs past

-- what is known of a site, at its home's number
part_of : (K : OfDbms) (dbms : LocalDbms AnyEngine) (marks : Marks) (traffic : Traffic) (session : Session) (site : SiteId) (story : Story) (at : SiteAt K dbms marks traffic session site story)
    → PartAt (K dbms) marks traffic at.home (programs_at session at.home.site) (past_of at.home.site story) (first_marks session at.home) (sent_to at.home.site story) (sent_from at.home.site story)
part_of K dbms marks traffic session site story at =
    subst (λ (s : SiteId). PartAt (K dbms) marks traffic at.home (programs_at session s) (past_of s story) (first_marks session at.home) (sent_to s story) (sent_from s story)) (sym at.is) at.part

home_of_it : (K : OfDbms) (dbms : LocalDbms AnyEngine) (marks : Marks) (traffic : Traffic) (session : Session) (site : SiteId) (story : Story) (at : SiteAt K dbms marks traffic session site story)
    → home_of session.plan at.home.site ≡ Some at.home
home_of_it K dbms marks traffic session site story at = ap (home_of session.plan) at.is ∙ at.declared

-- a site that the line isn't of, with what the line sends to it
pub site_stays : (K L : OfDbms) (session : Session) (story : Story) (told : Told) (dbms : LocalDbms AnyEngine) (marks : Marks) (old new : Traffic) (site : SiteId) (to : List ToSite)
    → (at : SiteAt K dbms marks old session site story) → (K dbms at.home (programs_at session at.home.site) (past_of at.home.site story) → L dbms at.home (programs_at session at.home.site) (past_of at.home.site story))
    → Moves at.home.site told.happened (past_of at.home.site story) (past_of at.home.site story) to [] → new.site ≡ old.site → new.to.items ≡ old.to.items ++ to → new.from.items ≡ old.from.items
    → SiteAt L dbms marks new session site (told ∷ story)
site_stays K L session story told dbms marks old new site to at over m same more from =
    let p = part_of K dbms marks old session site story at in
    subst (λ (s : SiteId). SiteAt L dbms marks new session s (told ∷ story)) at.is
    (site_moves session story told K L dbms dbms marks new at.home (past_of at.home.site story) to [] (home_of_it K dbms marks old session site story at) m
    (record {
      dbms = over p.dbms;
      marked = p.marked;
      site = same ∙ p.site;
      marks = p.marks;
      to = more ∙ ap (λ (ms : List ToSite). ms ++ to) p.to;
      from = from ∙ (p.from ∙ sym (append-nil (sent_from at.home.site story)));
    }))

slice_get_none : {A : Type 0} (xs : List A) (n : ℕ) → slice_get xs n ≡ None → length xs ≤ n
slice_get_none [] n e = omega arith
slice_get_none (x ∷ xs) zero e = cc
slice_get_none (x ∷ xs) (suc n) e = let h = slice_get_none xs n e in omega (arith, h)

-- the site at this place heard
module _ (K L : OfDbms) (cores : List (LocalDbms AnyEngine)) (marks : List Marks) (channels : List Traffic) (session : Session) (story : Story) (told : Told) where
  pub sites_hear : (place : ℕ) (home : Home) (r : Request SiteEvent) (dbms : LocalDbms AnyEngine) (own : Marks) (traffic : Traffic) → IsRising (λ (z : SiteId). z.0) (sites session.plan)
      → SitesAt K cores marks channels session story → slice_get (sites session.plan) place ≡ Some home.site → home_of session.plan home.site ≡ Some home
      → told.happened ≡ requested home story r → Frame K L home.site
      → PartAt (L dbms) own traffic home (programs_at session home.site) (past_behind home (past_of home.site story) r) (first_marks session home) (sent_to home.site story) (sent_from home.site story ++ sends_of home (past_of home.site story) r)
      → SitesAt L (slice_set cores place dbms) (slice_set marks place own) (slice_set channels place traffic) session (told ∷ story)
  sites_hear place home r dbms own traffic rises were at declared is frame part = record {
    all_cores = length_set cores place dbms ∙ were.all_cores;
    all_marks = length_set marks place own ∙ were.all_marks;
    all_channels = length_set channels place traffic ∙ were.all_channels;
    each = λ p site d m t es ec em et. by_place p site d m t es ec em et (p == place) refl;
  }
    where
      within : place < length (sites session.plan)
      within = slice_get_within (sites session.plan) place home.site at

      here : SiteAt L dbms own traffic session home.site (told ∷ story)
      here =
          let m = moves_here home story r in
          site_moves session story told K L dbms dbms own traffic home (past_behind home (past_of home.site story) r) [] (sends_of home (past_of home.site story) r) declared
          (subst (λ (h : Happened). Moves home.site h (past_of home.site story) (past_behind home (past_of home.site story) r) [] (sends_of home (past_of home.site story) r)) (sym is) m)
          (record { dbms = part.dbms; marked = part.marked; site = part.site; marks = part.marks; to = part.to ∙ sym (append-nil (sent_to home.site story)); from = part.from })

      by_place : (p : ℕ) (site : SiteId) (d : LocalDbms AnyEngine) (m : Marks) (t : Traffic) → slice_get (sites session.plan) p ≡ Some site → slice_get (slice_set cores place dbms) p ≡ Some d
          → slice_get (slice_set marks place own) p ≡ Some m → slice_get (slice_set channels place traffic) p ≡ Some t → (b : Bool) → (p == place) ≡ b → SiteAt L d m t session site (told ∷ story)
      by_place p site d m t es ec em et true e =
          let same : p ≡ place = eqb-true p place e in
          let s : home.site ≡ site = same_Some home.site site (sym at ∙ (ap (slice_get (sites session.plan)) (sym same) ∙ es)) in
          let n = were.all_cores in
          let k = were.all_marks in
          let c = were.all_channels in
          let ed : dbms ≡ d = same_Some dbms d (sym (get_put cores place dbms (omega (arith, within, n))) ∙ (ap (slice_get (slice_set cores place dbms)) (sym same) ∙ ec)) in
          let eo : own ≡ m = same_Some own m (sym (get_put marks place own (omega (arith, within, k))) ∙ (ap (slice_get (slice_set marks place own)) (sym same) ∙ em)) in
          let er : traffic ≡ t = same_Some traffic t (sym (get_put channels place traffic (omega (arith, within, c))) ∙ (ap (slice_get (slice_set channels place traffic)) (sym same) ∙ et)) in
          subst (λ (z : LocalDbms AnyEngine). SiteAt L z m t session site (told ∷ story)) ed
          (subst (λ (z : Marks). SiteAt L dbms z t session site (told ∷ story)) eo
          (subst (λ (z : Traffic). SiteAt L dbms own z session site (told ∷ story)) er (subst (λ (z : SiteId). SiteAt L dbms own traffic session z (told ∷ story)) s here)))
      by_place p site d m t es ec em et false e =
          let apart : p ≡ place → ⊥ = λ same. (let yes : (p == place) ≡ true = eq-eqb p place same in let no : true ≡ false = sym yes ∙ e in cc) in
          let old = were.each p site d m t es (sym (get_other cores place p dbms apart) ∙ ec) (sym (get_other marks place p own apart) ∙ em) (sym (get_other channels place p traffic apart) ∙ et) in
          let differ : old.home.site.0 ≡ home.site.0 → ⊥ = λ same. apart (one_place (sites session.plan) p place site home.site rises es at (ap (λ (z : SiteId). z.0) (sym old.is) ∙ same)) in
          let other : same_site home.site old.home.site ≡ false = ne_eqb home.site.0 old.home.site.0 (λ same. differ (sym same)) in
          site_stays K L session story told d m t t site [] old (λ k. frame d old.home _ _ differ k)
          (subst (λ (h : Happened). Moves old.home.site h (past_of old.home.site story) (past_of old.home.site story) [] []) (sym is) (moves_there home story r old.home.site (past_of old.home.site story) other))
          refl (sym (append-nil t.to.items)) refl

  -- no site heard, and to each this was sent
  pub sites_told : (to : SiteId → List ToSite) (now : List Traffic) → SitesAt K cores marks channels session story
      → ((site : SiteId) → Moves site told.happened (past_of site story) (past_of site story) (to site) [])
      → ((d : LocalDbms AnyEngine) (home : Home) (programs : OwnPrograms) (past : SitePast) → K d home programs past → L d home programs past)
      → length now ≡ length channels
      → ((p : ℕ) (a b : Traffic) → slice_get channels p ≡ Some a → slice_get now p ≡ Some b → (b.site ≡ a.site) × (b.to.items ≡ a.to.items ++ to a.site) × (b.from.items ≡ a.from.items))
      → SitesAt L cores marks now session (told ∷ story)
  sites_told to now were moves over count each = record {
    all_cores = were.all_cores;
    all_marks = were.all_marks;
    all_channels = count ∙ were.all_channels;
    each = λ p site d m t es ec em et. by_old p site d m t es ec em et (slice_get channels p) refl;
  }
    where
      by_old : (p : ℕ) (site : SiteId) (d : LocalDbms AnyEngine) (m : Marks) (t : Traffic) → slice_get (sites session.plan) p ≡ Some site → slice_get cores p ≡ Some d
          → slice_get marks p ≡ Some m → slice_get now p ≡ Some t → (o : Option Traffic) → slice_get channels p ≡ o → SiteAt L d m t session site (told ∷ story)
      by_old p site d m t es ec em et None e = (let h = slice_get_within now p t et in let none = slice_get_none channels p e in absurd (omega (arith, h, none, count)))
      by_old p site d m t es ec em et (Some a) e =
          let old = were.each p site d m a es ec em e in
          let moved = each p a t e et in
          let named : a.site ≡ old.home.site = old.part.site in
          site_stays K L session story told d m a t site (to old.home.site) old (λ k. over d old.home _ _ k) (moves old.home.site) moved.0
          (moved.1 ∙ ap (λ (s : SiteId). a.to.items ++ to s) named) moved.2

-- ---- what the coordinator sends

-- among messages by rising site there is at most one to a site
none_behind : (site : SiteId) (sent : Sent) (sends : List Sent) → IsRising (λ (z : Sent). z.site.0) (sent ∷ sends) → sent.site.0 ≡ site.0 → map (λ (z : Sent). z.message) (those (λ (z : Sent). same_site z.site site) sends) ≡ []
none_behind site sent [] rises e = refl
none_behind site sent (next ∷ sends) rises e =
    let less = rises.0 in
    let other : same_site next.site site ≡ false = ne_eqb next.site.0 site.0 (λ same. (omega (arith, less, same, e))) in
    ap (λ (xs : List Sent). map (λ (z : Sent). z.message) xs) (cond-false _ _ _ other) ∙ none_behind site sent sends (skip sends rises.1 less) e
  where
    skip : (sends : List Sent) → IsRising (λ (z : Sent). z.site.0) (next ∷ sends) → sent.site.0 < next.site.0 → IsRising (λ (z : Sent). z.site.0) (sent ∷ sends)
    skip [] r less = tt
    skip (z ∷ zs) r less = ((let more = r.0 in omega (arith, more, less)), r.1)

pub rises_on : (sent : Sent) (sends : List Sent) → IsRising (λ (z : Sent). z.site.0) (sent ∷ sends) → IsRising (λ (z : Sent). z.site.0) sends
rises_on sent [] r = tt
rises_on sent (z ∷ zs) r = r.1

pub one_message : (site : SiteId) (sends : List Sent) → IsRising (λ (z : Sent). z.site.0) sends
    → option_to_list (message_to site sends) ≡ map (λ (z : Sent). z.message) (those (λ (z : Sent). same_site z.site site) sends)
one_message site [] rises = refl
one_message site (sent ∷ sends) rises = by_test (same_site sent.site site) refl (one_message site sends (rises_on sent sends rises))
  where
    by_test : (b : Bool) → same_site sent.site site ≡ b → option_to_list (message_to site sends) ≡ map (λ (z : Sent). z.message) (those (λ (z : Sent). same_site z.site site) sends)
        → option_to_list (map_some (λ (z : Sent). z.message) (cond b (Some sent) (first_where (λ (z : Sent). same_site z.site site) sends)))
        ≡ map (λ (z : Sent). z.message) (cond b (sent ∷ those (λ (z : Sent). same_site z.site site) sends) (those (λ (z : Sent). same_site z.site site) sends))
    by_test true is rest = ap (λ (ms : List ToSite). sent.message ∷ ms) (sym (none_behind site sent sends rises (eqb-true sent.site.0 site.0 is)))
    by_test false is rest = rest
