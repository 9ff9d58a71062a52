-- What stands at the place of a declared site.
use Rattle.std.proofs.Common.{◌≡◌, ℕ, zero, suc, Option, Some, None, List, [], ◌∷◌, length, slice_get, refl, sym, ◌∙◌, arith}
use Rattle.std.specs.Prelude.{MatchOption}
use Rattle.mdb_base.specs.declared.names.SiteId.{SiteId}
use Rattle.fed_rules.specs.Scenarios.{home_of, sites}
use Rattle.fed_rules.specs.Story.{Story}
use Rattle.fed_rules.specs.Sessions.{Session}
use Rattle.any_engine.specs.declared.engine.AnyEngine.{AnyEngine}
use Rattle.local_dbms.specs.declared.dbms.LocalDbms.{LocalDbms}
use Rattle.session_report.specs.declared.marks.Marks.{Marks}
use Rattle.session_routes.specs.declared.traffic.Traffic.{Traffic}
use Rattle.fed_world.specs.Seats.{OfDbms, SiteAt, SitesAt}
use Rattle.fed_world.specs.Messages.{AreMessages}
use Rattle.fed_world.specs.Worlds.{DbmsRecalls, IsLocalAt}

-- a list as long as another one has an item where that one has
pub has_item : {A B : Type 0} (xs : List A) (ys : List B) (n : ℕ) (y : B) → length xs ≡ length ys → slice_get ys n ≡ Some y → (x : A) × (slice_get xs n ≡ Some x)
has_item [] [] n z same e = absurd cc
has_item [] (y ∷ ys) n z same e = absurd (omega (arith, same))
has_item (x ∷ xs) [] n z same e = absurd cc
has_item (x ∷ xs) (y ∷ ys) zero z same e = (x, refl)
has_item (x ∷ xs) (y ∷ ys) (suc n) z same e = has_item xs ys n z (omega (arith, same)) e

module _ (K : OfDbms) (cores : List (LocalDbms AnyEngine)) (marks : List Marks) (channels : List Traffic) (session : Session) (story : Story) (s : SitesAt K cores marks channels session story)
    (place : ℕ) (site : SiteId) (there : slice_get (sites session.plan) place ≡ Some site) where
  -- the seat of this local database system
  pub seat_of_dbms : (dbms : LocalDbms AnyEngine) → slice_get cores place ≡ Some dbms → (own : Marks) × (traffic : Traffic) × SiteAt K dbms own traffic session site story
  seat_of_dbms dbms e =
      let own = has_item marks (sites session.plan) place site s.all_marks there in
      let traffic = has_item channels (sites session.plan) place site s.all_channels there in
      (own.0, traffic.0, s.each place site dbms own.0 traffic.0 there e own.1 traffic.1)

  -- and of these messages
  pub seat_of_traffic : (traffic : Traffic) → slice_get channels place ≡ Some traffic → (dbms : LocalDbms AnyEngine) × (own : Marks) × SiteAt K dbms own traffic session site story
  seat_of_traffic traffic e =
      let dbms = has_item cores (sites session.plan) place site s.all_cores there in
      let own = has_item marks (sites session.plan) place site s.all_marks there in
      (dbms.0, own.0, s.each place site dbms.0 own.0 traffic there dbms.1 own.1 e)

  pub are_messages : (traffic : Traffic) → slice_get channels place ≡ Some traffic → AreMessages traffic site story
  are_messages traffic e = let seat = seat_of_traffic traffic e in record { to = seat.2.part.to; from = seat.2.part.from }

  -- where there are messages or none
  pub messages_found : (o : Option Traffic) → o ≡ slice_get channels place → MatchOption o (home_of session.plan site ≡ None) (λ traffic. AreMessages traffic site story)
  messages_found None e = (let found = has_item channels (sites session.plan) place site s.all_channels there in let no : Some found.0 ≡ None = sym found.1 ∙ sym e in absurd cc)
  messages_found (Some traffic) e = are_messages traffic (sym e)

module _ (cores : List (LocalDbms AnyEngine)) (marks : List Marks) (channels : List Traffic) (session : Session) (story : Story) (s : SitesAt DbmsRecalls cores marks channels session story)
    (place : ℕ) (site : SiteId) (there : slice_get (sites session.plan) place ≡ Some site) where
  pub is_local : (dbms : LocalDbms AnyEngine) → slice_get cores place ≡ Some dbms → IsLocalAt dbms session site story
  is_local dbms e =
      let seat = seat_of_dbms DbmsRecalls cores marks channels session story s place site there dbms e in
      record { home = seat.2.home; declared = seat.2.declared; recalls = seat.2.part.dbms }

  -- where there is a local database system or none
  pub local_found : (o : Option (LocalDbms AnyEngine)) → o ≡ slice_get cores place → MatchOption o (home_of session.plan site ≡ None) (λ dbms. IsLocalAt dbms session site story)
  local_found None e = (let found = has_item cores (sites session.plan) place site s.all_cores there in let no : Some found.0 ≡ None = sym found.1 ∙ sym e in absurd cc)
  local_found (Some dbms) e = is_local dbms (sym e)
