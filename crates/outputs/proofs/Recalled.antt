-- Each declared site is among the parts of a world.
use Rattle.std.proofs.Common.{◌≡◌, ℕ, zero, suc, ◌<◌, Some, List, [], ◌∷◌, length, slice_get, inl, inr, refl, sym, ◌∙◌, ap, subst, arith}
use Rattle.std.proofs.lemmas.Option.{slice_get_within}
use Rattle.mdb_base.specs.declared.names.SiteId.{SiteId}
use Rattle.order_laws.specs.Chains.{In}
use Rattle.federation_laws.proofs.ForCallers.{declared-in}
use Rattle.fed_rules.specs.Scenarios.{home_of, sites}
use Rattle.fed_rules.specs.Sessions.{Session}
use Rattle.fed_rules.specs.SiteRecords.{Home}
use Rattle.fed_rules.specs.Story.{Story, past_of}
use Rattle.any_engine.specs.declared.engine.AnyEngine.{AnyEngine}
use Rattle.local_dbms.specs.declared.dbms.LocalDbms.{LocalDbms}
use Rattle.session_report.specs.declared.marks.Marks.{Marks}
use Rattle.session_routes.specs.declared.traffic.Traffic.{Traffic}
use Rattle.fed_world.specs.Beginnings.{programs_at}
use Rattle.fed_world.specs.Seats.{OfDbms, SitesAt}

-- its place among the declared ones
place_in : (xs : List SiteId) (site : SiteId) → In site xs → (place : ℕ) × (slice_get xs place ≡ Some site)
place_in [] site i = absurd i
place_in (x ∷ xs) site (inl e) = (0, ap (λ y. Some y) e)
place_in (x ∷ xs) site (inr i) = let (place, at) = place_in xs site i in (suc place, at)

-- so what holds of each holds of it
pub record HeldAt (K : OfDbms) (session : Session) (home : Home) (story : Story) : Type 0 where
  pub dbms : LocalDbms AnyEngine
  pub holds : K dbms home (programs_at session home.site) (past_of home.site story)

pub site_held : (K : OfDbms) (cores : List (LocalDbms AnyEngine)) (marks : List Marks) (channels : List Traffic) (session : Session) (story : Story) (home : Home)
    → home_of session.plan home.site ≡ Some home → SitesAt K cores marks channels session story → HeldAt K session home story
site_held K cores marks channels session story home declared s = by_place (place_in (sites session.plan) home.site (declared-in session.plan home.site home declared))
  where
    by_place : (place : ℕ) × (slice_get (sites session.plan) place ≡ Some home.site) → HeldAt K session home story
    by_place (place, at) = by_parts (some_at cores place (omega (arith, s.all_cores, slice_get_within (sites session.plan) place home.site at)))
        (some_at marks place (omega (arith, s.all_marks, slice_get_within (sites session.plan) place home.site at)))
        (some_at channels place (omega (arith, s.all_channels, slice_get_within (sites session.plan) place home.site at)))
      where
        some_at : {A : Type 0} (xs : List A) (place : ℕ) → place < length xs → (x : A) × (slice_get xs place ≡ Some x)
        some_at [] place lt = absurd (omega arith)
        some_at (x ∷ xs) zero lt = (x, refl)
        some_at (x ∷ xs) (suc place) lt = some_at xs place (omega arith)

        by_parts : (dbms : LocalDbms AnyEngine) × (slice_get cores place ≡ Some dbms) → (own : Marks) × (slice_get marks place ≡ Some own) → (traffic : Traffic) × (slice_get channels place ≡ Some traffic)
            → HeldAt K session home story
        by_parts (dbms, b) (own, c) (traffic, d) =
            let here = s.each place home.site dbms own traffic at b c d in
            let same : here.home ≡ home = (let both : Some here.home ≡ Some home = sym here.declared ∙ declared in cc) in
            record {
              dbms = dbms;
              holds = subst (λ (h : Home). K dbms h (programs_at session home.site) (past_of home.site story)) same here.part.dbms;
            }
