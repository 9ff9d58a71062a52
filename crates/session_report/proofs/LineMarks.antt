-- A line of a site marks one record at most: the newest of its journal, where that grew.
use Rattle.std.proofs.Common.{◌≡◌, ℕ, Bool, true, false, cond, Option, Some, None, List, [], ◌∷◌, ◌++◌, length, inl, refl, ◌∙◌, ap, arith}
use Rattle.std.specs.Prelude.{nat_le, nat_lt}
use Rattle.mdb_base.specs.Words.{found, when, with_some}
use Rattle.fed_rules.specs.declared.answers.Answer.TheVariants as Say
use Rattle.fed_rules.specs.declared.events.SiteEvent.{SiteEvent}
use Rattle.fed_rules.specs.declared.events.SiteEvent.TheVariants as Ev
use Rattle.fed_rules.specs.declared.records.SiteRecord.{SiteRecord}
use Rattle.fed_rules.specs.CoordPast.{oldest_first}
use Rattle.fed_rules.specs.Happenings.{Trip, is_down, quiet, stopped, tripped}
use Rattle.fed_rules.specs.Site.{answered, of_back, site_line, site_past, unless_tripped}
use Rattle.fed_rules.specs.SitePast.{SiteHappening, SitePast, disk, journal, records, trip}
use Rattle.fed_rules.specs.SiteRecords.{Home, site_frame}
use Rattle.session_report.specs.declared.marks.Mark.{Mark}
use Rattle.session_report.specs.Marks.{LinesMarkOne, kept_marks, mark_of, new_marks}
use Rattle.session_report.proofs.LineForms.{HasForm, form_answered, form_back, none}
use Rattle.session_report.proofs.MarkedDisks.{GoesOn, IsMarked, goes_stopped, goes_whole, marks_grow}

-- the disk behind a line
record Goes (home : Home) (past : SitePast) (x : SiteHappening) : Type 0 where
  on : GoesOn (disk home past) (disk home (x ∷ past))

module _ (home : Home) (past : SitePast) (m : IsMarked (disk home past)) where
  goes_when : (b : Bool) (x y : SiteHappening) → Goes home past x → Goes home past y → Goes home past (when b x y)
  unfolding when
  goes_when true x y p q = p
  goes_when false x y p q = q

  goes_formed : (x : SiteHappening) → HasForm x → Goes home past x
  goes_formed x f = record { on = goes_whole (disk home past) x.calls f.form m }

  goes_tripped : (armed : Option Trip) (x : SiteHappening) → HasForm x → Goes home past (tripped site_frame (disk home past) armed x)
  unfolding tripped stopped
  goes_tripped None x f = goes_formed x f
  goes_tripped (Some t) x f =
      goes_when (nat_le t.calls (length x.calls)) _ _ (record { on = goes_stopped (disk home past) x.calls t.calls t.cut f.form m }) (goes_formed x f)

  goes_up : (event : SiteEvent) → Goes home past (when (is_down past) (quiet event Say.Down) (unless_tripped home past (answered home past event)))
  goes_up event =
      goes_when (is_down past) _ _ (goes_formed (quiet event Say.Down) (record { form = none }))
      (goes_tripped (trip past) (answered home past event) (form_answered home past event))

  goes_line : (event : SiteEvent) → Goes home past (site_line home past event)
  unfolding site_line stopped
  goes_line (Ev.Trip calls cut) = goes_formed (quiet (Ev.Trip calls cut) Say.Set) (record { form = none })
  goes_line (Ev.Halt cut) =
      goes_when (is_down past) _ _ (goes_formed (quiet (Ev.Halt cut) Say.Down) (record { form = none }))
      (record { on = goes_stopped (disk home past) [] 0 cut none m })
  goes_line Ev.Back =
      goes_when (is_down past) _ _ (goes_tripped (trip past) (of_back home past) (form_back home past))
      (goes_formed (quiet Ev.Back Say.Awake) (record { form = none }))
  goes_line (Ev.Begin tid) = goes_up (Ev.Begin tid)
  goes_line (Ev.Act tid act) = goes_up (Ev.Act tid act)
  goes_line (Ev.Commit tid) = goes_up (Ev.Commit tid)
  goes_line (Ev.Abort tid) = goes_up (Ev.Abort tid)
  goes_line (Ev.Fate tx) = goes_up (Ev.Fate tx)
  goes_line (Ev.Give message) = goes_up (Ev.Give message)
  goes_line (Ev.Ask tid) = goes_up (Ev.Ask tid)
  goes_line (Ev.Drop tid) = goes_up (Ev.Drop tid)
  goes_line Ev.Check = goes_up Ev.Check

pub marked_first : (home : Home) → IsMarked (disk home [])
marked_first home = record {
  firm = record { sound = record { frames = omega arith; synced = omega arith }; loose = inl (omega arith) };
  trimmed = omega arith;
}

pub marked_line : (home : Home) (past : SitePast) (event : SiteEvent) → IsMarked (disk home past) → IsMarked (disk home (site_line home past event ∷ past))
marked_line home past event m = (goes_line home past m event).on.marked

marked : (home : Home) (events : List SiteEvent) → IsMarked (disk home (site_past home events))
marked home [] = marked_first home
marked home (event ∷ events) = marked_line home (site_past home events) event (marked home events)

append_none : (xs : List Mark) → xs ≡ xs ++ []
append_none [] = refl
append_none (x ∷ xs) = ap (λ ys. x ∷ ys) (append_none xs)

-- what is new stands before the others, the newest first, and behind them, the oldest first
turned : (before : ℕ) (js : List SiteRecord) (ms : List Mark) → oldest_first (new_marks before js ++ ms) ≡ oldest_first ms ++ new_marks before js
turned before [] ms = append_none (oldest_first ms)
turned before (j ∷ js) ms = by_test (nat_lt before (length (j ∷ js)))
  where
    by_mark : (o : Option Mark) → oldest_first (with_some o [] ++ ms) ≡ oldest_first ms ++ with_some o []
    by_mark None = append_none (oldest_first ms)
    by_mark (Some m) = refl

    by_test : (c : Bool) → oldest_first (cond c (with_some (mark_of j) []) [] ++ ms) ≡ oldest_first ms ++ cond c (with_some (mark_of j) []) []
    by_test true = by_mark (mark_of j)
    by_test false = append_none (oldest_first ms)

-- so the next line of a site on whose disk no marked record can be lost marks one at most
pub line_marks_one : (home : Home) (past : SitePast) (event : SiteEvent) → IsMarked (disk home past)
    → kept_marks home (site_line home past event ∷ past) ≡ kept_marks home past ++ new_marks (length (journal home past)) (journal home (site_line home past event ∷ past))
line_marks_one home past event m =
    ap (λ (xs : List Mark). oldest_first xs) (marks_grow (disk home past) (disk home (site_line home past event ∷ past)) m (goes_line home past m event).on.change)
    ∙ turned (length (journal home past)) (journal home (site_line home past event ∷ past)) (found mark_of (records home past))

pub lines_mark_one : LinesMarkOne
lines_mark_one home events event = line_marks_one home (site_past home events) event (marked home events)
