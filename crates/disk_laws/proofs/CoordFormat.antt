-- The participants that the coordinator's records name stand by rising site, as the format has them.
use Rattle.std.proofs.Common.{◌≡◌, List, [], ◌∷◌, sym, subst, inl, inr}
use Rattle.mdb_base.specs.Words.{Among, Each}
use Rattle.mdb_base.proofs.ForCallers.{same_tid-refl}
use Rattle.order_laws.proofs.ForCallers.{each_from}
use Rattle.presumptions.specs.declared.Participant.{Participant}
use Rattle.fed_rules.specs.declared.events.CoordEvent.{CoordEvent}
use Rattle.fed_rules.specs.declared.records.CoordRecord.{CoordRecord}
use Rattle.fed_rules.specs.declared.records.CoordRecord.TheVariants.{Initiation, Commit, Abort, End, Checkpoint}
use Rattle.fed_rules.specs.declared.sums.OpenAttempt.{OpenAttempt}
use Rattle.fed_rules.specs.CoordPast.{CoordPast, journal, program, records, visits}
use Rattle.fed_rules.specs.CoordRecords.{has_ticket}
use Rattle.fed_rules.specs.CoordSums.{open_with}
use Rattle.fed_rules.specs.Scenarios.{policy, protocols}
use Rattle.fed_rules.specs.Story as Story
use Rattle.fed_rules.specs.Story.{story_of}
use Rattle.commit_laws.proofs.ForCallers.{story_made}
use Rattle.coord_laws.proofs.ForCallers.{Wrote, those_listed}
use Rattle.coord_laws.specs.FoundCoordinators.{MembersRise, RiseBySite}
use Rattle.coord_laws.specs.Sums.{AreCoordSums}
use Rattle.disk_laws.specs.Left.{MembersStandInOrder, OfCoordinators}
use Rattle.disk_laws.proofs.CoordLeft.{each_standing, past_each, stands, sums_hold, tid_of}
use Rattle.disk_laws.proofs.ReadRecords.{Opens, open_from}

-- of a record other than a Checkpoint
abbrev pub HasRisingMembers : CoordRecord → Type 0
HasRisingMembers (Initiation t ms) = RiseBySite ms
HasRisingMembers (Abort t ms) = RiseBySite ms
HasRisingMembers other = Unit {0}

module _ (protocols : List Participant) (rise : RiseBySite protocols) where
  wrote_rising : (past : CoordPast) (event : CoordEvent) (before : List CoordRecord) (r : CoordRecord) → Wrote protocols (tid_of r) past event before r → HasRisingMembers r
  wrote_rising past event before (Initiation t ms) w =
      subst RiseBySite (sym (w (same_tid-refl t)).1) (those_listed (λ (m : Participant). visits m.site (program past t)) protocols rise)
  wrote_rising past event before (Abort t ms) w =
      subst RiseBySite (sym (w (same_tid-refl t)).1) (those_listed (λ (m : Participant). visits m.site (program past t)) protocols rise)
  wrote_rising past event before (Commit t ks) w = tt
  wrote_rising past event before (End t) w = tt
  wrote_rising past event before (Checkpoint sum) w = tt

  pub opened_rising : (rs : List CoordRecord) → Each HasRisingMembers rs → (o : OpenAttempt) → Among (Opens protocols (λ p. p ≡ o)) rs → RiseBySite o.participants
  opened_rising [] a o m = absurd m
  opened_rising (Initiation t ms ∷ rs) a o (inl e) = subst (λ (p : OpenAttempt). RiseBySite p.participants) e a.0
  opened_rising (Commit t ks ∷ rs) a o (inl e) =
      subst (λ (p : OpenAttempt). RiseBySite p.participants) e (those_listed (λ (p : Participant). has_ticket ks p.site) protocols rise)
  opened_rising (Abort t ms ∷ rs) a o (inl e) = subst (λ (p : OpenAttempt). RiseBySite p.participants) e a.0
  opened_rising (End t ∷ rs) a o (inl e) = absurd e
  opened_rising (Checkpoint sum ∷ rs) a o (inl e) = absurd e
  opened_rising (r ∷ rs) a o (inr m) = opened_rising rs a.1 o m

  all_rise : (rs : List CoordRecord) → AreCoordSums protocols rs → Each HasRisingMembers rs → Each MembersRise rs
  all_rise [] s a = tt
  all_rise (Initiation t ms ∷ rs) s a = (a.0, all_rise rs s a.1)
  all_rise (Abort t ms ∷ rs) s a = (a.0, all_rise rs s a.1)
  all_rise (Commit t ks ∷ rs) s a = (tt, all_rise rs s a.1)
  all_rise (End t ∷ rs) s a = (tt, all_rise rs s a.1)
  all_rise (Checkpoint sum ∷ rs) s a = (
    subst (λ z. MembersRise (Checkpoint z)) (sym s.0)
        (each_from (λ (attempt : OpenAttempt). RiseBySite attempt.participants) (open_with protocols [] rs) (λ o i. opened_rising rs a.1 o (open_from protocols (λ p. p ≡ o) rs i))),
    all_rise rs s.1 a.1,
  )

pub leave_members : OfCoordinators MembersStandInOrder
leave_members scenario commands rise =
    let past = Story.coord_past (story_of scenario commands) in
    let made = story_made scenario commands in
    each_standing (protocols scenario) MembersRise (records past) (journal past) (stands (protocols scenario) (policy scenario) past made)
    (all_rise (protocols scenario) rise (records past) (sums_hold (protocols scenario) (policy scenario) past made)
    (each_from HasRisingMembers (records past)
    (past_each (protocols scenario) (policy scenario) HasRisingMembers (λ past event before r made why. wrote_rising (protocols scenario) rise past event before r why) past made)))
