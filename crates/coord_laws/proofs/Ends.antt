-- Aborts at the coordinator: the facts on one attempt hold of their lines.
use Rattle.std.proofs.Common.{◌≡◌, inl, inr, Bool, true, false, cond, ◌&&◌, ◌||◌, Option, Some, List, [], ◌∷◌, ◌++◌, refl, ap, ◌∙◌}
use Rattle.mdb_base.specs.declared.names.SiteId.{SiteId}
use Rattle.mdb_base.specs.declared.names.Tid.{Tid}
use Rattle.mdb_base.specs.Names.{same_tid}
use Rattle.mdb_base.specs.Words.{Each}
use Rattle.mdb_base.proofs.ForCallers.{each_all, each_of_mapped, same_tid-refl}
use Rattle.presumptions.specs.declared.Decision.{Decision}
use Rattle.presumptions.specs.declared.Decision.TheVariants as Decided
use Rattle.presumptions.specs.declared.Participant.{Participant}
use Rattle.fed_rules.specs.declared.answers.Answer.TheVariants as Say
use Rattle.fed_rules.specs.declared.answers.Cause.{Cause}
use Rattle.fed_rules.specs.declared.events.CoordEvent.{CoordEvent}
use Rattle.fed_rules.specs.declared.records.CoordRecord.{CoordRecord}
use Rattle.fed_rules.specs.declared.records.CoordRecord.TheVariants as Rec
use Rattle.fed_rules.specs.Happenings.{stops, comes_up}
use Rattle.fed_rules.specs.Coord.{forgets_at_once, abort_records, forced, aborts}
use Rattle.fed_rules.specs.CoordPast.{CoordHappening, CoordPast, disk, records, Decided, Gone, standing, is_about, decides, acks_in, has_acked, participants, is_prepare_of, has_sent}
use Rattle.fed_rules.specs.CoordRecords.{coord_frame, class_of, has_abort, required, is_nobody}
use Rattle.coord_laws.specs.Records.{IsEnd}
use Rattle.fed_rules.proofs.ForCallers.{IsQuiet, appended, plain_records, quiet_plain}
use Rattle.coord_laws.proofs.Facts.{moved, IsOpen, IsUnmarked, IsUncommitted, WroteAll, Stands, Same, Decides, IsTelling, Now, Tells, Counted, Goes}
use Rattle.coord_laws.proofs.Rules.{standing_on, acked_on, IsNoAck}
use Rattle.order_laws.proofs.ForCallers.{of_same}

-- since a decision nothing is acknowledged
pub acked_off : (g : Tid) (past : CoordPast) (x : CoordHappening) (site : SiteId) → is_about g x.event ≡ true → decides x.answer ≡ true
    → has_acked (x ∷ past) g site ≡ false
acked_off g past x site a d = by_test (stops x.answer) (comes_up x.answer) (is_about g x.event) (decides x.answer)
    (acks_in g site x || has_acked past g site) a d where
      by_test : (s c a d h : Bool) → a ≡ true → d ≡ true → cond (s || c || (a && d)) false h ≡ false
      by_test true c a d h e f = refl
      by_test false true a d h e f = refl
      by_test false false true true h e f = refl
      by_test false false true false h e f = cc
      by_test false false false d h e f = cc

-- the standing that a decision leaves
pub decided_standing : (protocols : List Participant) (g : Tid) (past : CoordPast) (x : CoordHappening) (decision : Decision)
    (cause : Option Cause) (forgets : Bool) → x.answer ≡ Say.Decides decision cause forgets → is_about g x.event ≡ true
    → standing protocols (x ∷ past) g ≡ cond forgets Gone (Decided decision)
decided_standing protocols g past x decision cause forgets e a =
    standing_on protocols g past x (ap stops e) (ap comes_up e)
    ∙ ap (λ b. cond b (moved x.answer (standing protocols past g)) (standing protocols past g)) a
    ∙ ap (λ y. moved y (standing protocols past g)) e

pub other_standing : (protocols : List Participant) (g : Tid) (past : CoordPast) (x : CoordHappening) (decision : Decision)
    (cause : Option Cause) (forgets : Bool) → x.answer ≡ Say.Decides decision cause forgets → is_about g x.event ≡ false
    → standing protocols (x ∷ past) g ≡ standing protocols past g
other_standing protocols g past x decision cause forgets e a =
    standing_on protocols g past x (ap stops e) (ap comes_up e)
    ∙ ap (λ b. cond b (moved x.answer (standing protocols past g)) (standing protocols past g)) a

-- what holds of no record and of the Abort record holds of what an abort appends
abort_part : (P : List CoordRecord → Type 0) (protocols : List Participant) (past : CoordPast) (t : Tid) → P []
    → P (Rec.Abort t (participants protocols past t) ∷ []) → P (abort_records protocols past t)
abort_part P protocols past t none some =
    by_test (has_abort (class_of (participants protocols past t)) && has_sent (is_prepare_of t) past) where
      by_test : (b : Bool) → P (cond b (Rec.Abort t (participants protocols past t) ∷ []) [])
      by_test true = some
      by_test false = none

-- an abort
pub by_aborts : (protocols : List Participant) (g : Tid) (past : CoordPast) (event : CoordEvent) (t : Tid) (cause : Cause)
    → IsOpen protocols past t → ((u : Tid) → is_about u event ≡ same_tid t u) → IsNoAck event
    → ((site : SiteId) → acks_in g site (aborts protocols past event t cause) ≡ false) → Counted protocols g past event
    → Goes protocols g past event (aborts protocols past event t cause)
unfolding aborts
by_aborts protocols g past event t cause undecided about n noack k = record {
  is = refl;
  quiet = still;
  wrote = abort_part (λ rs. WroteAll protocols g past event (appended (forced rs) [])) protocols past t tt (
    (λ q. of_same (λ u. IsOpen protocols past u × (participants protocols past t ≡ participants protocols past u)) t g
        (undecided, refl) q),
    tt,
  );
  stands = stands (same_tid t g) refl;
  tells = each_of_mapped (Tells protocols g past y) (λ member. record { site = member.site; message = _ }) (participants protocols past t)
      (each_all (λ member. same_tid t g ≡ true → IsTelling protocols g past y member.site Decided.Abort)
      (λ member q. of_same (λ u. IsTelling protocols u past y member.site Decided.Abort) t g
      (Now f undecided
      (decided_standing protocols t past y Decided.Abort (Some cause) f refl (about t ∙ same_tid-refl t))
      (appended y.calls [])
      (plain_records coord_frame (disk past) y.calls [] (records past) (quiet_plain IsEnd false y.calls still) refl)
      (uncommitted t)) q)
      (participants protocols past t));
  counted = (λ e. k);
  committed = tt;
} where
  y : CoordHappening
  y = aborts protocols past event t cause

  f : Bool
  f = forgets_at_once protocols (abort_records protocols past t ++ records past) t Decided.Abort

  still : IsQuiet IsEnd false (forced (abort_records protocols past t))
  still = abort_part (λ rs. IsQuiet IsEnd false (forced rs)) protocols past t tt (inr tt)

  uncommitted : (u : Tid) → Each (IsUncommitted u) (appended (forced (abort_records protocols past t)) [])
  uncommitted u = abort_part (λ rs. Each (IsUncommitted u) (appended (forced rs) [])) protocols past t tt (tt, tt)

  -- the records behind the line
  behind : appended (forced (abort_records protocols past t)) [] ≡ abort_records protocols past t
  behind = abort_part (λ rs. appended (forced rs) [] ≡ rs) protocols past t refl refl

  stands : (q : Bool) → same_tid t g ≡ q
      → Stands protocols g past (aborts protocols past event t cause) (appended (forced (abort_records protocols past t)) [])
  stands true q =
      Decides Decided.Abort f (of_same (λ u. IsOpen protocols past u) t g undecided q) refl
      (decided_standing protocols g past y Decided.Abort (Some cause) f refl (about g ∙ q))
      (ap (λ rs. is_nobody (required protocols (rs ++ records past) g Decided.Abort)) behind
      ∙ of_same (λ u. is_nobody (required protocols (abort_records protocols past t ++ records past) u Decided.Abort) ≡ f) t g refl q)
      (uncommitted g)
      (λ site. acked_off g past y site (about g ∙ q) refl)
  stands false q =
      Same (other_standing protocols g past y Decided.Abort (Some cause) f refl (about g ∙ q)) refl
      (abort_part (λ rs. Each (IsUnmarked g) (appended (forced rs) [])) protocols past t tt (q, tt))
      (inl (λ site. acked_on g past y site refl refl (ap (λ b. b && true) (about g ∙ q)) (noack site)))
