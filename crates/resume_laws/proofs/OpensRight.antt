-- The made-up lines of what a session finds on its disks send nothing and settle nothing, so the invariant holds before its first command.
use Rattle.std.proofs.Common.{◌≡◌, ◌⊎◌, inl, inr, Bool, true, false, cond, Option, Some, None, List, [], refl, sym, ap, subst, ◌∙◌}
use Rattle.mdb_base.specs.declared.names.Tid.{Tid}
use Rattle.mdb_base.specs.Words.{Among}
use Rattle.presumptions.specs.declared.Decision.{Decision}
use Rattle.presumptions.specs.declared.Participant.{Participant}
use Rattle.presumptions.specs.Table.{presumed}
use Rattle.fed_rules.specs.declared.records.CoordRecord.{CoordRecord}
use Rattle.fed_rules.specs.declared.records.SiteRecord.{SiteRecord}
use Rattle.fed_rules.specs.CoordPast as Coordinator
use Rattle.fed_rules.specs.CoordPast.{CoordPast, Gone, standing, standing_of}
use Rattle.fed_rules.specs.CoordRecords.{is_kept, outcome, required}
use Rattle.fed_rules.specs.Found.{Journal}
use Rattle.fed_rules.specs.Reopened.{coord_read, opened_coordinator, opened_site}
use Rattle.fed_rules.specs.Scenarios.{protocols}
use Rattle.fed_rules.specs.Sessions.{Session}
use Rattle.fed_rules.specs.SitePast.{SitePast, records}
use Rattle.fed_rules.specs.SiteRecords.{Held, Home, doubt_of}
use Rattle.fed_rules.specs.Story.{found_sites, past_of, sent_from, sent_to, story_in}
use Rattle.found_laws.proofs.ForCallers.{coord_records, session_begins, site_unsettled}
use Rattle.resume_laws.proofs.Settling.{IsRight, Resumes}
use Rattle.resume_laws.proofs.Walk.{ResumesIn}

-- a site in doubt presumes the outcome, or the records keep the attempt and require its acknowledgement
pub record IsFoundRight (members : List Participant) (rs : List CoordRecord) (home : Home) (g : Tid) (here : SitePast) : Type 0 where
  pub right : (held : Held) → doubt_of (records home here) g ≡ Some held → (presumed home.protocol ≡ outcome rs g)
      ⊎ ((is_kept members rs g ≡ true) × Among (λ m. (m.site ≡ home.site) × (m.protocol ≡ home.protocol)) (required members rs g (outcome rs g)))

module _ (members : List Participant) (journal : Journal CoordRecord) (home : Home) (g : Tid) (found : Journal SiteRecord)
    (fit : IsFoundRight members (coord_read journal) home g (opened_site found)) where
  abbrev past : CoordPast
  past = opened_coordinator members journal

  abbrev here : SitePast
  here = opened_site found

  abbrev verdict : Decision
  verdict = outcome (coord_read journal) g

  by_doubt : {A : Type 0} → (doubt_of (records home here) g ≡ None → A) → ((held : Held) → doubt_of (records home here) g ≡ Some held → A) → A
  by_doubt {A} none some = split (doubt_of (records home here) g) refl
    where
      split : (o : Option Held) → doubt_of (records home here) g ≡ o → A
      split None e = none e
      split (Some held) e = some held e

  unkept : is_kept members (Coordinator.records past) g ≡ false → IsRight home g verdict here
  unkept e = by_doubt inl (λ held doubt. elim (fit.right held doubt) [
    | inl right ↦ inr right
    | inr (kept, awaited) ↦ let clash : true ≡ false = sym kept ∙ (ap (λ rs. is_kept members rs g) (sym (coord_records members journal)) ∙ e) in cc
  ])

  gone : standing members past g ≡ Gone → IsRight home g verdict here
  gone e = by_test (is_kept members (Coordinator.records past) g) refl e
    where
      by_test : (b : Bool) → is_kept members (Coordinator.records past) g ≡ b → standing_of false (cond b (Some (outcome (Coordinator.records past) g)) None) ≡ Gone
          → IsRight home g verdict here
      by_test true q e = cc
      by_test false q e = unkept q

  first_resumes : Resumes members home g verdict past here [] []
  first_resumes = record {
    untripped = refl;
    nobody = λ tid. refl;
    outcome = ap (λ rs. outcome rs g) (coord_records members journal);
    decides = λ m i. absurd i;
    told = λ d i. absurd i;
    acked = λ i. absurd i;
    heard = λ e. cc;
    awaited = by_doubt (λ none. inl (inl none)) (λ held doubt. elim (fit.right held doubt) [
      | inl right ↦ inl (inr right)
      | inr (kept, awaited) ↦ inr (subst (λ rs. Among (λ m. (m.site ≡ home.site) × (m.protocol ≡ home.protocol)) (required members rs g verdict)) (sym (coord_records members journal)) awaited)
    ]);
    unkept = unkept;
    gone = gone;
    settled = λ d i. absurd (site_unsettled found g d i);
  }

-- so it holds before the first command
pub opens_right : (session : Session) (journal : Journal CoordRecord) → session.found.coordinator ≡ Some journal → (home : Home) (g : Tid) (found : Journal SiteRecord)
    → past_of home.site (found_sites session.found.sites) ≡ opened_site found → IsFoundRight (protocols session.plan) (coord_read journal) home g (opened_site found)
    → ResumesIn session.plan home g (outcome (coord_read journal) g) (story_in session [])
opens_right session journal is home g found at fit =
    let b = session_begins session journal is home.site in
    subst (λ past. Resumes (protocols session.plan) home g (outcome (coord_read journal) g) past (past_of home.site (story_in session [])) (sent_to home.site (story_in session [])) (sent_from home.site (story_in session []))) (sym b.coordinator)
    (subst (λ here. Resumes (protocols session.plan) home g (outcome (coord_read journal) g) (opened_coordinator (protocols session.plan) journal) here (sent_to home.site (story_in session [])) (sent_from home.site (story_in session []))) (sym (b.here ∙ at))
    (subst (λ sent. Resumes (protocols session.plan) home g (outcome (coord_read journal) g) (opened_coordinator (protocols session.plan) journal) (opened_site found) sent (sent_from home.site (story_in session []))) (sym b.to)
    (subst (λ back. Resumes (protocols session.plan) home g (outcome (coord_read journal) g) (opened_coordinator (protocols session.plan) journal) (opened_site found) [] back) (sym b.from)
    (first_resumes (protocols session.plan) journal home g found fit))))
