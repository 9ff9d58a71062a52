-- Every line of the coordinator, also one that a stop ends: what it leaves on the disk and what it does about one attempt.
use Rattle.std.proofs.Common.{◌≡◌, ℕ, ◌⊎◌, inl, inr, Bool, true, false, ◌||◌, nat_le, Option, Some, None, List, [], ◌∷◌, ◌++◌, take, length, refl, sym, subst}
use Rattle.mdb_base.specs.declared.names.SiteId.{SiteId}
use Rattle.mdb_base.specs.declared.names.Tid.{Tid}
use Rattle.mdb_base.specs.Words.{Each, Among, when}
use Rattle.mdb_base.proofs.ForCallers.{among_append}
use Rattle.presumptions.specs.declared.Decision.TheVariants as Decided
use Rattle.presumptions.specs.declared.Participant.{Participant}
use Rattle.fed_rules.specs.declared.answers.Answer.{Answer}
use Rattle.fed_rules.specs.declared.answers.Answer.TheVariants as Say
use Rattle.fed_rules.specs.declared.events.CoordEvent.{CoordEvent}
use Rattle.fed_rules.specs.declared.events.CoordEvent.TheVariants as Ev
use Rattle.fed_rules.specs.declared.records.CoordRecord.{CoordRecord}
use Rattle.fed_rules.specs.Disk.{Stops, after_calls}
use Rattle.fed_rules.specs.Happenings.{Trip, is_down, stops, comes_up, quiet, stopped, tripped}
use Rattle.fed_rules.specs.Coord.{coord_line, answered, of_back}
use Rattle.fed_rules.specs.CoordPast.{CoordHappening, CoordPast, disk, records, trip, standing, begins, counts, has_acked}
use Rattle.fed_rules.specs.CoordRecords.{coord_frame}
use Rattle.fed_rules.specs.Policies.{Policy}
use Rattle.fed_rules.specs.Durable.{IsFirm}
use Rattle.coord_laws.specs.Records.{IsCommit, IsEnd}
use Rattle.fed_rules.proofs.ForCallers.{IsCut, Keeps, appended, left_by_line, left_by_stop, plain_records, quiet_plain}
use Rattle.coord_laws.proofs.Facts.{kept_standing, WroteAll, Stands, Tells, Counted, Committed, Goes}
use Rattle.coord_laws.proofs.Rules.{silently, uncounted}
use Rattle.coord_laws.proofs.Restarts.{by_answered, by_back}

-- records with their reasons stand before the old ones, or some End records at the end are gone
abbrev pub Kept : List Participant → Tid → CoordPast → CoordEvent → List CoordRecord → Type 0
Kept protocols g past event now =
    ((kept : List CoordRecord) × WroteAll protocols g past event kept × (now ≡ kept ++ records past)) ⊎ IsCut IsEnd (records past) now

-- a line that a stop ends, or one that goes through
pub data Stood (protocols : List Participant) (g : Tid) (past : CoordPast) (x : CoordHappening) : Type 0 where
  Stopped : begins g x.answer ≡ false → standing protocols (x ∷ past) g ≡ kept_standing protocols (records (x ∷ past)) g
      → ((site : SiteId) → has_acked (x ∷ past) g site ≡ false) → (stops x.answer || comes_up x.answer) ≡ true
      → Stood protocols g past x
  Through : Stands protocols g past x (appended x.calls []) → records (x ∷ past) ≡ appended x.calls [] ++ records past
      → Stood protocols g past x

pub record Line (protocols : List Participant) (g : Tid) (past : CoordPast) (event : CoordEvent) (x : CoordHappening) : Type 0 where
  pub is : x.event ≡ event
  pub firm : IsFirm coord_frame IsEnd (disk (x ∷ past))
  pub kept : Kept protocols g past event (records (x ∷ past))
  pub stood : Stood protocols g past x
  pub tells : Each (Tells protocols g past x) x.sends
  pub counted : counts x.answer ≡ true → Counted protocols g past event
  pub committed : Committed g event x.answer (records (x ∷ past))

-- the oldest of records with reasons have their reasons
front_written : (protocols : List Participant) (g : Tid) (past : CoordPast) (event : CoordEvent) (newer kept : List CoordRecord)
    → WroteAll protocols g past event (newer ++ kept) → WroteAll protocols g past event kept
front_written protocols g past event [] kept w = w
front_written protocols g past event (r ∷ newer) kept w = front_written protocols g past event newer kept w.1

keeps_written : (protocols : List Participant) (g : Tid) (past : CoordPast) (event : CoordEvent) (news now : List CoordRecord)
    → WroteAll protocols g past event news → Keeps IsEnd news (records past) now → Kept protocols g past event now
keeps_written protocols g past event news now w (inl (kept, (newer, e), is)) = inl
    (kept, front_written protocols g past event newer kept (subst (WroteAll protocols g past event) e w), is)
keeps_written protocols g past event news now w (inr c) = inr c

committed_kept : (g : Tid) (event : CoordEvent) (a : Answer) (news old now : List CoordRecord) → now ≡ news ++ old
    → Committed g event a news → Committed g event a now
committed_kept g event (Say.Decides Decided.Commit cause forgets) news old now e c = λ about. subst (Among (IsCommit g)) (sym e)
    (among_append (IsCommit g) news old (c about))
committed_kept g event (Say.Decides Decided.Abort cause forgets) news old now e c = tt
committed_kept g event a news old now e c = tt

goes : (protocols : List Participant) (g : Tid) (past : CoordPast) (event : CoordEvent) (y : CoordHappening)
    → IsFirm coord_frame IsEnd (disk past) → Goes protocols g past event y → Line protocols g past event y
goes protocols g past event y f s =
    let l = left_by_line coord_frame IsEnd (disk past) y.calls s.quiet f in
    record {
      is = s.is;
      firm = l.firm;
      kept = keeps_written protocols g past event (appended y.calls []) (records (y ∷ past)) s.wrote l.keeps;
      stood = Through s.stands
          (plain_records coord_frame (disk past) y.calls [] (records past) (quiet_plain IsEnd false y.calls s.quiet) refl);
      tells = s.tells;
      counted = s.counted;
      committed = committed_kept g event y.answer (appended y.calls []) (records past) (records (y ∷ past))
          (plain_records coord_frame (disk past) y.calls [] (records past) (quiet_plain IsEnd false y.calls s.quiet) refl) s.committed;
    }

stops_here : (protocols : List Participant) (g : Tid) (past : CoordPast) (event : CoordEvent) (y : CoordHappening) (k cut : ℕ)
    → IsFirm coord_frame IsEnd (disk past) → Goes protocols g past event y
    → Line protocols g past event (stopped coord_frame (disk past) y.event (take k y.calls ++ Stops cut ∷ []))
unfolding stopped
stops_here protocols g past event y k cut f s =
    let l = left_by_stop coord_frame IsEnd (disk past) y.calls k cut (quiet_plain IsEnd false y.calls s.quiet) f in
    record {
      is = s.is;
      firm = l.firm;
      kept = keeps_written protocols g past event (appended y.calls [])
          (after_calls coord_frame (disk past) (take k y.calls ++ Stops cut ∷ [])).records s.wrote l.keeps;
      stood = Stopped refl refl (λ site. refl) refl;
      tells = tt;
      counted = (λ e. cc);
      committed = tt;
    }

line_when : (protocols : List Participant) (g : Tid) (past : CoordPast) (event : CoordEvent) (b : Bool) (x y : CoordHappening)
    → (b ≡ true → Line protocols g past event x) → (b ≡ false → Line protocols g past event y)
    → Line protocols g past event (when b x y)
unfolding when
line_when protocols g past event true x y p q = p refl
line_when protocols g past event false x y p q = q refl

unless_tripped : (protocols : List Participant) (g : Tid) (past : CoordPast) (event : CoordEvent) (y : CoordHappening)
    (t : Option Trip) → IsFirm coord_frame IsEnd (disk past) → Goes protocols g past event y
    → Line protocols g past event (tripped coord_frame (disk past) t y)
unfolding tripped
unless_tripped protocols g past event y None f s = goes protocols g past event y f s
unless_tripped protocols g past event y (Some t) f s =
    line_when protocols g past event (nat_le t.calls (length y.calls)) _ _
    (λ b. stops_here protocols g past event y t.calls t.cut f s)
    (λ b. goes protocols g past event y f s)

while_down : (protocols : List Participant) (g : Tid) (past : CoordPast) (event : CoordEvent) → IsFirm coord_frame IsEnd (disk past)
    → Line protocols g past event (quiet event Say.Down)
while_down protocols g past event f = goes protocols g past event (quiet event Say.Down) f
    (uncounted protocols g past event Say.Down tt refl)

when_up : (protocols : List Participant) (policy : Policy) (g : Tid) (past : CoordPast) (event : CoordEvent)
    → IsFirm coord_frame IsEnd (disk past)
    → Line protocols g past event
    (when (is_down past) (quiet event Say.Down) (tripped coord_frame (disk past) (trip past) (answered protocols policy past event)))
when_up protocols policy g past event f =
    line_when protocols g past event (is_down past) _ _ (λ down. while_down protocols g past event f)
    (λ up. unless_tripped protocols g past event (answered protocols policy past event) (trip past) f
    (by_answered protocols policy g past event))

pub coord_lines : (protocols : List Participant) (policy : Policy) (g : Tid) (past : CoordPast) (event : CoordEvent)
    → IsFirm coord_frame IsEnd (disk past) → Line protocols g past event (coord_line protocols policy past event)
unfolding coord_line
coord_lines protocols policy g past (Ev.Go t steps) f = when_up protocols policy g past (Ev.Go t steps) f
coord_lines protocols policy g past (Ev.Take site message) f = when_up protocols policy g past (Ev.Take site message) f
coord_lines protocols policy g past (Ev.Again t) f = when_up protocols policy g past (Ev.Again t) f
coord_lines protocols policy g past (Ev.Late t) f = when_up protocols policy g past (Ev.Late t) f
coord_lines protocols policy g past (Ev.Fate tx) f = when_up protocols policy g past (Ev.Fate tx) f
coord_lines protocols policy g past (Ev.Trip calls cut) f = goes protocols g past (Ev.Trip calls cut) (quiet (Ev.Trip calls cut) Say.Set) f
    (silently protocols g past (Ev.Trip calls cut) Say.Set tt tt tt)
coord_lines protocols policy g past (Ev.Halt cut) f =
    line_when protocols g past (Ev.Halt cut) (is_down past) _ _ (λ down. while_down protocols g past (Ev.Halt cut) f)
    (λ up. stops_here protocols g past (Ev.Halt cut) (quiet (Ev.Halt cut) Say.Down) 0 cut f
    (silently protocols g past (Ev.Halt cut) Say.Down tt tt tt))
coord_lines protocols policy g past Ev.Back f =
    line_when protocols g past Ev.Back (is_down past) _ _
    (λ down. unless_tripped protocols g past Ev.Back (of_back protocols past) (trip past) f (by_back protocols g past))
    (λ up. goes protocols g past Ev.Back (quiet Ev.Back Say.Awake) f (silently protocols g past Ev.Back Say.Awake tt tt tt))
coord_lines protocols policy g past Ev.Check f = when_up protocols policy g past Ev.Check f
