-- A site that writes no Checkpoint trims nothing, so all its records stand on its disk.
use Rattle.std.proofs.Common.{◌≡◌, ℕ, zero, suc, Bool, true, false, cond, ◌==◌, Option, Some, None, List, [], ◌∷◌, ◌++◌, take, refl, sym, subst, arith}
use Rattle.std.specs.Prelude.{nat_le}
use Rattle.std.proofs.lemmas.Bool.Decides.{nat_tests}
use Rattle.mdb_base.specs.declared.acts.PlainAct.{PlainAct}
use Rattle.mdb_base.specs.declared.names.Tid.{Tid}
use Rattle.mdb_base.specs.Words.{when, given}
use Rattle.presumptions.specs.declared.Decision.{Decision}
use Rattle.fed_rules.specs.declared.answers.Answer.TheVariants as Say
use Rattle.fed_rules.specs.declared.events.SiteEvent.{SiteEvent}
use Rattle.fed_rules.specs.declared.events.SiteEvent.TheVariants as Ev
use Rattle.fed_rules.specs.declared.messages.ToSite.{ToSite}
use Rattle.fed_rules.specs.declared.messages.ToSite.TheVariants as To
use Rattle.fed_rules.specs.declared.records.SiteRecord.{SiteRecord}
use Rattle.fed_rules.specs.Disk as Disk
use Rattle.fed_rules.specs.Disk.{Call, Append, Sync, CutBack, TrimFront, Stops, after_calls, is_torn, standing}
use Rattle.fed_rules.specs.Happenings.{Trip, is_down, quiet, stopped, tripped}
use Rattle.fed_rules.specs.Site.{answered, site_line, of_begin, of_act, seals_local, of_commit, of_abort, of_fate, did, unknown, first_work, next_work, next_take, repeated, work_live, of_work, take_live, of_take, votes_again, votes_no, votes_yes, seals_global, prepare_live, of_prepare, settles, unheld, of_decide, of_give, of_ask, of_drop, of_back, ended_calls, with_lines, unless_tripped}
use Rattle.presumptions.specs.Table.{forces}
use Rattle.fed_rules.specs.SitePast.{SiteHappening, SitePast, disk, journal, records, trip}
use Rattle.fed_rules.specs.SiteRecords.{Home, site_frame}
use Rattle.fed_rules.proofs.ForCallers.{standing_all}

-- none of the calls trims
abbrev pub TrimNone : List (Call SiteRecord) → Type 0
TrimNone [] = Unit {0}
TrimNone (Append r ∷ calls) = TrimNone calls
TrimNone (Sync ∷ calls) = TrimNone calls
TrimNone (CutBack ∷ calls) = TrimNone calls
TrimNone (TrimFront ∷ calls) = ⊥
TrimNone (Stops cut ∷ calls) = TrimNone calls

-- so nothing more is trimmed behind them
pub trimmed_same : (calls : List (Call SiteRecord)) (d : Disk.Disk SiteRecord) → TrimNone calls → (after_calls site_frame d calls).trimmed ≡ d.trimmed
trimmed_same [] d none = refl
trimmed_same (Append r ∷ calls) d none = trimmed_same calls _ none
trimmed_same (Sync ∷ calls) d none = trimmed_same calls _ none
trimmed_same (CutBack ∷ calls) d none = trimmed_same calls _ none
trimmed_same (TrimFront ∷ calls) d none = absurd none
trimmed_same (Stops cut ∷ calls) d none = trimmed_same calls _ none

-- nor where a stop comes within them
none_within : (n : ℕ) (calls : List (Call SiteRecord)) (cut : ℕ) → TrimNone calls → TrimNone (take n calls ++ Stops cut ∷ [])
none_within zero calls cut none = tt
none_within (suc n) [] cut none = tt
none_within (suc n) (Append r ∷ calls) cut none = none_within n calls cut none
none_within (suc n) (Sync ∷ calls) cut none = none_within n calls cut none
none_within (suc n) (CutBack ∷ calls) cut none = none_within n calls cut none
none_within (suc n) (TrimFront ∷ calls) cut none = absurd none
none_within (suc n) (Stops other ∷ calls) cut none = none_within n calls cut none

-- a line that trims nothing
abbrev Trims : SiteHappening → Type 0
Trims x = TrimNone x.calls

trims_given : {A : Type 0} (o : Option A) (none : SiteHappening) (some : A → SiteHappening) → Trims none → ((z : A) → Trims (some z)) → Trims (given o some none)
unfolding given
trims_given None none some p q = p
trims_given (Some z) none some p q = q z

trims_when : (b : Bool) (x y : SiteHappening) → Trims x → Trims y → Trims (when b x y)
unfolding when
trims_when true x y p q = p
trims_when false x y p q = q

trims_tripped : (home : Home) (past : SitePast) (o : Option Trip) (x : SiteHappening) → Trims x → Trims (tripped site_frame (disk home past) o x)
unfolding tripped stopped
trims_tripped home past None x p = p
trims_tripped home past (Some t) x p = trims_when _ _ _ (none_within t.calls x.calls t.cut p) p

-- an event of a site that isn't a `check`
abbrev pub IsUnchecked : SiteEvent → Type 0
IsUnchecked Ev.Check = ⊥
IsUnchecked event = Unit {0}

module _ (home : Home) (past : SitePast) where
  trims_work : (t : Tid) (e n : ℕ) (act : PlainAct) → Trims (of_work home past t e n act)
  unfolding of_work work_live first_work next_work repeated unknown did
  trims_work t e n act =
      trims_when _ _ _ tt (trims_given _ _ _ (trims_when _ _ _ tt tt) (λ run. trims_when _ _ _ tt (trims_when _ _ _ tt (trims_when _ _ _ tt tt))))

  trims_take : (t : Tid) (e n : ℕ) → Trims (of_take home past t e n)
  unfolding of_take take_live next_take repeated unknown did
  trims_take t e n = trims_when _ _ _ tt (trims_given _ _ _ tt (λ run. trims_when _ _ _ tt (trims_when _ _ _ tt (trims_when _ _ _ tt tt))))

  trims_prepare : (t : Tid) (e n : ℕ) → Trims (of_prepare home past t e n)
  unfolding of_prepare prepare_live seals_global votes_again votes_no votes_yes
  trims_prepare t e n =
      trims_given _ _ _ (trims_given _ _ _ tt (λ run. trims_when _ _ _ (trims_given _ _ _ tt (λ ticket. trims_given _ _ _ tt (λ why. tt))) tt)) (λ held. trims_when _ _ _ tt tt)

  trims_ended : (b : Bool) → TrimNone (cond b (Sync ∷ []) [])
  trims_ended true = tt
  trims_ended false = tt

  trims_decide : (t : Tid) (decision : Decision) → Trims (of_decide home past t decision)
  unfolding of_decide unheld settles
  trims_decide t decision = trims_given _ _ _ (trims_given _ _ _ tt (λ run. tt)) (λ held. trims_ended (forces home.protocol decision))

  trims_give : (message : ToSite) → Trims (of_give home past message)
  unfolding of_give
  trims_give (To.Work t e n act) = trims_work t e n act
  trims_give (To.Take t e n) = trims_take t e n
  trims_give (To.Prepare t e n) = trims_prepare t e n
  trims_give (To.Decide t decision) = trims_decide t decision

  trims_back : (b : Bool) (r : SiteRecord) → TrimNone (cond b (CutBack ∷ []) [] ++ Append r ∷ Sync ∷ [])
  trims_back true r = tt
  trims_back false r = tt

  trims_answered : (event : SiteEvent) → IsUnchecked event → Trims (answered home past event)
  unfolding answered of_begin of_act of_commit seals_local of_abort of_fate of_ask of_drop of_back
  trims_answered (Ev.Begin t) own = trims_given _ _ _ (trims_given _ _ _ tt (λ r. tt)) (λ c. tt)
  trims_answered (Ev.Act t act) own = trims_given _ _ _ tt (λ run. tt)
  trims_answered (Ev.Commit t) own = trims_given _ _ _ tt (λ run. trims_given _ _ _ tt (λ why. tt))
  trims_answered (Ev.Abort t) own = trims_given _ _ _ tt (λ run. tt)
  trims_answered (Ev.Fate tx) own = trims_given _ _ _ (trims_given _ _ _ tt (λ r. tt)) (λ c. tt)
  trims_answered (Ev.Give message) own = trims_give message
  trims_answered (Ev.Ask t) own = trims_given _ _ _ tt (λ held. tt)
  trims_answered (Ev.Drop t) own = trims_when _ _ _ tt (trims_given _ _ _ tt (λ run. tt))
  trims_answered (Ev.Halt cut) own = tt
  trims_answered (Ev.Trip calls cut) own = tt
  trims_answered Ev.Back own = trims_back (is_torn site_frame (disk home past)) _
  trims_answered Ev.Check own = absurd own

  trims_up : (event : SiteEvent) → IsUnchecked event → Trims (when (is_down past) (quiet event Say.Down) (tripped site_frame (disk home past) (trip past) (answered home past event)))
  trims_up event own = trims_when _ _ _ tt (trims_tripped home past (trip past) _ (trims_answered event own))

  -- a line of such an event trims nothing
  pub line_trims_none : (event : SiteEvent) → IsUnchecked event → TrimNone (site_line home past event).calls
  unfolding site_line stopped of_back
  line_trims_none (Ev.Trip calls cut) own = tt
  line_trims_none (Ev.Halt cut) own = trims_when _ _ _ tt tt
  line_trims_none Ev.Back own = trims_when _ _ _ (trims_tripped home past (trip past) _ (trims_back (is_torn site_frame (disk home past)) _)) tt
  line_trims_none (Ev.Begin tid) own = trims_up (Ev.Begin tid) own
  line_trims_none (Ev.Act tid act) own = trims_up (Ev.Act tid act) own
  line_trims_none (Ev.Commit tid) own = trims_up (Ev.Commit tid) own
  line_trims_none (Ev.Abort tid) own = trims_up (Ev.Abort tid) own
  line_trims_none (Ev.Fate tx) own = trims_up (Ev.Fate tx) own
  line_trims_none (Ev.Give message) own = trims_up (Ev.Give message) own
  line_trims_none (Ev.Ask tid) own = trims_up (Ev.Ask tid) own
  line_trims_none (Ev.Drop tid) own = trims_up (Ev.Drop tid) own
  line_trims_none Ev.Check own = absurd own

nothing_before : (n : ℕ) → nat_le 0 n ≡ true
nothing_before n = grind (arith, nat_tests)

pub all_stand : (home : Home) (past : SitePast) → (disk home past).trimmed ≡ 0 → journal home past ≡ records home past
all_stand home past none = subst (λ (n : ℕ). standing site_frame n (records home past) ≡ records home past) (sym none) (standing_all (records home past))
