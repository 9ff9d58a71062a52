-- What a session finds on its disks: it begins with the pasts that the journals stand for, and the made-up lines send nothing and settle nothing.
use Rattle.std.proofs.Common.{◌≡◌, ℕ, zero, suc, ◌+◌, ◌-◌, inl, inr, Bool, true, false, cond, Option, Some, None, List, [], ◌∷◌, ◌++◌, map, refl, sym, ap, ◌∙◌}
use Rattle.mdb_base.specs.declared.names.SiteId.{SiteId}
use Rattle.mdb_base.specs.declared.names.Tid.{Tid}
use Rattle.mdb_base.specs.declared.names.Tx.{Tx}
use Rattle.mdb_base.specs.Names.{same_site}
use Rattle.mdb_base.specs.Words.{Each, those}
use Rattle.mdb_base.proofs.ForCallers.{append_each, append_nil}
use Rattle.presumptions.specs.declared.Decision.{Decision}
use Rattle.presumptions.specs.declared.Participant.{Participant}
use Rattle.fed_rules.specs.declared.answers.Answer.{Answer}
use Rattle.fed_rules.specs.declared.answers.Answer.TheVariants as Say
use Rattle.fed_rules.specs.declared.messages.FromSite.{FromSite}
use Rattle.fed_rules.specs.declared.messages.Sent.{Sent}
use Rattle.fed_rules.specs.declared.messages.ToSite.{ToSite}
use Rattle.fed_rules.specs.declared.records.CoordRecord.{CoordRecord}
use Rattle.fed_rules.specs.declared.records.SiteRecord.{SiteRecord}
use Rattle.fed_rules.specs.declared.records.SiteRecord.TheVariants.{Setup, Start, Prepared, Ended, Local, Checkpoint}
use Rattle.fed_rules.specs.CoordPast as Coordinator
use Rattle.fed_rules.specs.CoordPast.{CoordPast, attempts_of}
use Rattle.fed_rules.specs.CoordRecords.{coord_frame, recorded}
use Rattle.fed_rules.specs.Disk.{after_calls, empty_disk}
use Rattle.fed_rules.specs.Endings.{Settles}
use Rattle.fed_rules.specs.Found.{Journal}
use Rattle.fed_rules.specs.Happenings.{Happening}
use Rattle.fed_rules.specs.Reopened.{all_gone, all_heard, all_named, coord_opening, coord_read, first_of, go_on, heard_of, opened_coordinator, opened_site, owner_named, site_names, was_global, was_local}
use Rattle.fed_rules.specs.Scenarios.{protocols}
use Rattle.fed_rules.specs.Sessions.{Session}
use Rattle.fed_rules.specs.SitePast.{SitePast}
use Rattle.fed_rules.specs.SiteRecords.{Held, Home}
use Rattle.fed_rules.specs.Story.{AtCoordinator, AtSite, Story, coord_past, found_coordinator, found_site, found_sites, home_found, past_of, sent_from, sent_to, story_in, untold}
use Rattle.commit_laws.proofs.ForCallers.{of_coordinator, of_sites as no_coordinator}

is_settling : Answer → Bool
is_settling (Say.Settles tid decision) = true
is_settling answer = false

-- a line that sends and settles nothing
record IsSilent {Event Message Record : Type 0} (x : Happening Event Message Record) : Type 0 where
  sends : x.sends ≡ []
  settles : is_settling x.answer ≡ false

-- and writes nothing
record IsMute {Event Message Record : Type 0} (x : Happening Event Message Record) : Type 0 where
  silent : IsSilent x
  calls : x.calls ≡ []

each_map : {A B : Type 0} (P : B → Type 0) (f : A → B) (xs : List A) → ((x : A) → P (f x)) → Each P (map f xs)
each_map P f [] h = tt
each_map P f (x ∷ xs) h = (h x, each_map P f xs h)

-- ---- a site

global_silent : (tid : Tid) → IsSilent (was_global tid)
unfolding is_settling
global_silent tid = record { sends = refl; settles = refl }

local_silent : (tid : Tid) → IsSilent (was_local tid)
unfolding is_settling
local_silent tid = record { sends = refl; settles = refl }

owner_silent : (o : Option Tid) → Each IsSilent (owner_named o)
owner_silent None = tt
owner_silent (Some tid) = (global_silent tid, tt)

names_silent : (r : SiteRecord) → Each IsSilent (site_names r)
names_silent (Prepared tid epoch number ticket writes) = (global_silent tid, tt)
names_silent (Ended tid decision) = (global_silent tid, tt)
names_silent (Local tid number writes) = (local_silent tid, tt)
names_silent (Setup site engine protocol items) = tt
names_silent (Start epoch) = tt
names_silent (Checkpoint sum) =
    append_each IsSilent (map (λ held. was_global held.tid) sum.doubtful ++ owner_named sum.owner) (map was_local sum.locals)
    (append_each IsSilent (map (λ held. was_global held.tid) sum.doubtful) (owner_named sum.owner) (each_map IsSilent (λ (held : Held). was_global held.tid) sum.doubtful (λ h. global_silent h.tid)) (owner_silent sum.owner))
    (each_map IsSilent was_local sum.locals local_silent)

all_silent : (rs : List SiteRecord) → Each IsSilent (all_named rs)
all_silent [] = tt
all_silent (newest ∷ older) = append_each IsSilent (site_names newest) (all_named older) (names_silent newest) (all_silent older)

site_silent : (journal : Journal SiteRecord) → Each IsSilent (opened_site journal)
unfolding is_settling
site_silent journal = (record { sends = refl; settles = refl }, all_silent journal.records)

unsettled : (past : SitePast) (g : Tid) (d : Decision) → Each IsSilent past → Settles past g d → ⊥
unfolding is_settling
unsettled [] g d h i = i
unsettled (x ∷ past) g d h (inl e) = let clash : true ≡ false = sym (ap is_settling e) ∙ h.0.settles in cc
unsettled (x ∷ past) g d h (inr i) = unsettled past g d h.1 i

pub site_unsettled : (journal : Journal SiteRecord) (g : Tid) (d : Decision) → Settles (opened_site journal) g d → ⊥
site_unsettled journal g d i = unsettled (opened_site journal) g d (site_silent journal) i

-- ---- the coordinator

module _ (members : List Participant) (rs : List CoordRecord) where
  so_many : (tx : Tx) (n : ℕ) (past : CoordPast) → Each IsMute past → Each IsMute (go_on members rs tx n past)
  unfolding is_settling
  so_many tx zero past h = h
  so_many tx (suc n) past h = (record { silent = record { sends = refl; settles = refl }; calls = refl }, so_many tx n past h)

  gone_mute : (tids : List Tid) → Each IsMute (all_gone members rs tids)
  gone_mute [] = tt
  gone_mute (tid ∷ tids) = so_many tid.tx (tid.attempt + 1 - attempts_of (all_gone members rs tids) tid.tx) (all_gone members rs tids) (gone_mute tids)

heard_mute : (members : List Participant) (tid : Tid) (past : CoordPast) → Each IsMute past → Each IsMute (heard_of members tid past)
unfolding is_settling
heard_mute [] tid past h = h
heard_mute (m ∷ ms) tid past h =
    (record { silent = record { sends = refl; settles = refl }; calls = refl }, (record { silent = record { sends = refl; settles = refl }; calls = refl }, heard_mute ms tid past h))

all_mute : (members : List Participant) (tids : List Tid) (past : CoordPast) → Each IsMute past → Each IsMute (all_heard members tids past)
all_mute members [] past h = h
all_mute members (tid ∷ tids) past h = heard_mute members tid (all_heard members tids past) (all_mute members tids past h)

-- what stands below the opening line
abbrev below : List Participant → Journal CoordRecord → CoordPast
below members journal = all_heard members (recorded (coord_read journal)) (all_gone members (coord_read journal) (recorded (coord_read journal)))

below_mute : (members : List Participant) (journal : Journal CoordRecord) → Each IsMute (below members journal)
below_mute members journal =
    all_mute members (recorded (coord_read journal)) (all_gone members (coord_read journal) (recorded (coord_read journal))) (gone_mute members (coord_read journal) (recorded (coord_read journal)))

still_silent : (past : CoordPast) → Each IsMute past → Each IsSilent past
still_silent [] h = tt
still_silent (x ∷ past) h = (h.0.silent, still_silent past h.1)

still_empty : (past : CoordPast) → Each IsMute past → Coordinator.disk past ≡ empty_disk
still_empty [] h = refl
still_empty (x ∷ past) h = ap (after_calls coord_frame (Coordinator.disk past)) h.0.calls ∙ still_empty past h.1

coord_silent : (members : List Participant) (journal : Journal CoordRecord) → Each IsSilent (opened_coordinator members journal)
unfolding is_settling
coord_silent members journal = (record { sends = refl; settles = refl }, still_silent (below members journal) (below_mute members journal))

pub coord_records : (members : List Participant) (journal : Journal CoordRecord) → Coordinator.records (opened_coordinator members journal) ≡ coord_read journal
coord_records members journal =
    ap (λ d. (after_calls coord_frame d (coord_opening journal).calls).records) (still_empty (below members journal) (below_mute members journal))

-- ---- in the first story

module _ (site : SiteId) where
  by_site : (past : SitePast) (story : Story) (at : SiteId) → Each IsSilent past
      → (sent_to site (map (λ x. untold (AtSite at x)) past ++ story) ≡ sent_to site story) × (sent_from site (map (λ x. untold (AtSite at x)) past ++ story) ≡ sent_from site story)
  by_site [] story at h = (refl, refl)
  by_site (x ∷ past) story at h =
      let (to, from) = by_site past story at h.1 in
      (append_nil _ ∙ to, ap (λ m. sent_from site (map (λ y. untold (AtSite at y)) past ++ story) ++ m) (ap (λ m. cond (same_site at site) m []) h.0.sends ∙ none (same_site at site)) ∙ append_nil _ ∙ from)
    where
      nothing_of : Bool → List FromSite
      nothing_of b = cond b [] []

      none : (b : Bool) → nothing_of b ≡ []
      none true = refl
      none false = refl

  by_coordinator : (past : CoordPast) (story : Story) → Each IsSilent past
      → (sent_to site (map (λ x. untold (AtCoordinator x)) past ++ story) ≡ sent_to site story) × (sent_from site (map (λ x. untold (AtCoordinator x)) past ++ story) ≡ sent_from site story)
      × (past_of site (map (λ x. untold (AtCoordinator x)) past ++ story) ≡ past_of site story)
  by_coordinator [] story h = (refl, refl, refl)
  by_coordinator (x ∷ past) story h =
      let (to, from, old) = by_coordinator past story h.1 in
      (ap (λ m. sent_to site (map (λ y. untold (AtCoordinator y)) past ++ story) ++ to_it m) h.0.sends ∙ append_nil _ ∙ to, append_nil _ ∙ from, old)
    where
      to_it : List Sent → List ToSite
      to_it sends = map (λ s. s.message) (those (λ s. same_site s.site site) sends)

  of_sites : (journals : List (Journal SiteRecord)) → (sent_to site (found_sites journals) ≡ []) × (sent_from site (found_sites journals) ≡ [])
  of_sites [] = (refl, refl)
  of_sites (journal ∷ journals) = by_home (home_found (first_of journal.records)) (of_sites journals)
    where
      by_home : (o : Option Home) → (sent_to site (found_sites journals) ≡ []) × (sent_from site (found_sites journals) ≡ [])
          → (sent_to site (found_site o journal (found_sites journals)) ≡ []) × (sent_from site (found_site o journal (found_sites journals)) ≡ [])
      by_home None rest = rest
      by_home (Some home) rest =
          let (to, from) = by_site (opened_site journal) (found_sites journals) home.site (site_silent journal) in (to ∙ rest.0, from ∙ rest.1)

-- a session that finds a coordinator's journal begins with the past that it stands for, and nothing was sent
pub record Begins (session : Session) (journal : Journal CoordRecord) (site : SiteId) : Type 0 where
  pub coordinator : coord_past (story_in session []) ≡ opened_coordinator (protocols session.plan) journal
  pub to : sent_to site (story_in session []) ≡ []
  pub from : sent_from site (story_in session []) ≡ []
  pub here : past_of site (story_in session []) ≡ past_of site (found_sites session.found.sites)

pub session_begins : (session : Session) (journal : Journal CoordRecord) → session.found.coordinator ≡ Some journal → (site : SiteId) → Begins session journal site
session_begins session journal is site = record {
  coordinator = ap (λ o. coord_past (found_coordinator (protocols session.plan) o (found_sites session.found.sites))) is
      ∙ of_coordinator opened (found_sites session.found.sites) ∙ ap (λ p. opened ++ p) (no_coordinator session.found.sites) ∙ append_nil opened;
  to = ap (λ o. sent_to site (found_coordinator (protocols session.plan) o (found_sites session.found.sites))) is ∙ parts.0 ∙ rest.0;
  from = ap (λ o. sent_from site (found_coordinator (protocols session.plan) o (found_sites session.found.sites))) is ∙ parts.1 ∙ rest.1;
  here = ap (λ o. past_of site (found_coordinator (protocols session.plan) o (found_sites session.found.sites))) is ∙ parts.2;
}
  where
    opened : CoordPast
    opened = opened_coordinator (protocols session.plan) journal

    parts : (sent_to site (map (λ x. untold (AtCoordinator x)) opened ++ found_sites session.found.sites) ≡ sent_to site (found_sites session.found.sites))
        × (sent_from site (map (λ x. untold (AtCoordinator x)) opened ++ found_sites session.found.sites) ≡ sent_from site (found_sites session.found.sites))
        × (past_of site (map (λ x. untold (AtCoordinator x)) opened ++ found_sites session.found.sites) ≡ past_of site (found_sites session.found.sites))
    parts = by_coordinator site opened (found_sites session.found.sites) (coord_silent (protocols session.plan) journal)

    rest : (sent_to site (found_sites session.found.sites) ≡ []) × (sent_from site (found_sites session.found.sites) ≡ [])
    rest = of_sites site session.found.sites
