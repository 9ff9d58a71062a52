-- How many calls the disk of a site gets.
use Rattle.std.proofs.Common.{◌≡◌, ℕ, ◌+◌, Bool, false, List, [], refl, sym, ap, subst, arith}
use Rattle.std.proofs.lemmas.Bool.{cond-false, cond-true}
use Rattle.mdb_base.specs.declared.names.Tid.{Tid}
use Rattle.fed_rules.specs.declared.events.SiteEvent.{SiteEvent}
use Rattle.fed_rules.specs.declared.events.SiteEvent.TheVariants as Ev
use Rattle.fed_rules.specs.declared.events.SiteStep.{SiteStep}
use Rattle.fed_rules.specs.declared.messages.ToSite.{ToSite}
use Rattle.fed_rules.specs.declared.records.SiteRecord.{SiteRecord}
use Rattle.fed_rules.specs.Disk.{Call}
use Rattle.fed_rules.specs.Runs as Lines
use Rattle.fed_rules.specs.Runs.{EngineLine}
use Rattle.fed_rules.specs.Site.{answered, of_back, of_check, of_commit, of_give}
use Rattle.fed_rules.specs.SitePast.{SiteHappening, SitePast}
use Rattle.fed_rules.specs.SiteRecords.{Home}
use Rattle.journal_disk.specs.Disk.{Seen, HasCalled, HasCalledAtMost}
use Rattle.journal_disk.proofs.ForCallers.{at_most_add, at_most_more, calls_add, no_call}
use Rattle.journal_rules.specs.Calls.{can_fail}
use Rattle.actor_store.specs.Store as actor
use Rattle.actor_store.specs.Store.{is_up, reloads, uncounted}
use Rattle.actor_store.specs.declared.errors.StepErr.{StepErr}
use Rattle.actor_store.specs.declared.errors.StepErr.TheVariants as Err_is
use Rattle.actor_store.specs.declared.store.Standing.TheVariants.{Up}
use Rattle.site_core.specs.declared.site.SiteCore.{SiteCore}
use Rattle.site_core.specs.Stands.{Answers, Breaks, beside_rules}

-- a line without disk calls
pub called_quiet : (calls : List (Call SiteRecord)) (old new : Seen) → calls ≡ [] → new.calls ≡ old.calls → HasCalled (0 + can_fail calls) old new
called_quiet calls old new none same =
    let P : List (Call SiteRecord) → Type 0 = λ cs. HasCalled (0 + can_fail cs) old new in
    subst P (sym none) (no_call old new same)

-- the rules' calls for an event
pub commit_calls : (home : Home) (past : SitePast) (tid : Tid) (x : SiteHappening) → of_commit home past tid ≡ x → (answered home past (Ev.Commit tid)).calls ≡ x.calls
unfolding answered
commit_calls home past tid x is = ap (λ (y : SiteHappening). y.calls) is

pub check_calls : (home : Home) (past : SitePast) (x : SiteHappening) → of_check home past ≡ x → (answered home past Ev.Check).calls ≡ x.calls
unfolding answered
check_calls home past x is = ap (λ (y : SiteHappening). y.calls) is

pub give_calls : (home : Home) (past : SitePast) (message : ToSite) (x : SiteHappening) → of_give home past message ≡ x → (answered home past (Ev.Give message)).calls ≡ x.calls
unfolding answered
give_calls home past message x is = ap (λ (y : SiteHappening). y.calls) is

pub start_calls : (home : Home) (past : SitePast) (x : SiteHappening) → of_back home past ≡ x → (answered home past Ev.Back).calls ≡ x.calls
unfolding answered
start_calls home past x is = ap (λ (y : SiteHappening). y.calls) is

-- a site that is up makes none beside the rules
pub none_beside : {E : Type 0} (event : SiteEvent) (core : SiteCore E) (disk : Seen) → core.store.standing ≡ Up → beside_rules event core disk ≡ 0
none_beside Ev.Back core disk up = cond-true (is_up core.store.standing) 0 (reloads core.store.is_fresh disk.size + uncounted (actor.stored core.store)) (ap is_up up)
none_beside (Ev.Begin tid) core disk up = refl
none_beside (Ev.Act tid act) core disk up = refl
none_beside (Ev.Commit tid) core disk up = refl
none_beside (Ev.Abort tid) core disk up = refl
none_beside (Ev.Fate tx) core disk up = refl
none_beside (Ev.Give message) core disk up = refl
none_beside (Ev.Ask tid) core disk up = refl
none_beside (Ev.Drop tid) core disk up = refl
none_beside (Ev.Halt cut) core disk up = refl
none_beside (Ev.Trip calls cut) core disk up = refl
none_beside Ev.Check core disk up = refl

-- nor does one that is down, but at a start
pub none_waiting : {E : Type 0} (event : SiteEvent) (core : SiteCore E) (disk : Seen) → (event ≡ Ev.Back → ⊥) → beside_rules event core disk ≡ 0
none_waiting Ev.Back core disk not_back = absurd (not_back refl)
none_waiting (Ev.Begin tid) core disk not_back = refl
none_waiting (Ev.Act tid act) core disk not_back = refl
none_waiting (Ev.Commit tid) core disk not_back = refl
none_waiting (Ev.Abort tid) core disk not_back = refl
none_waiting (Ev.Fate tx) core disk not_back = refl
none_waiting (Ev.Give message) core disk not_back = refl
none_waiting (Ev.Ask tid) core disk not_back = refl
none_waiting (Ev.Drop tid) core disk not_back = refl
none_waiting (Ev.Halt cut) core disk not_back = refl
none_waiting (Ev.Trip calls cut) core disk not_back = refl
none_waiting Ev.Check core disk not_back = refl

-- a start reads the disk, and then opens it
pub starting_beside : {E : Type 0} (core : SiteCore E) (disk : Seen) → is_up core.store.standing ≡ false
    → reloads core.store.is_fresh disk.size + uncounted (actor.stored core.store) ≡ beside_rules Ev.Back core disk
starting_beside core disk down = sym (cond-false (is_up core.store.standing) 0 (reloads core.store.is_fresh disk.size + uncounted (actor.stored core.store)) down)

later : (n beside most : ℕ) (before between disk : Seen) → HasCalled n before between → HasCalledAtMost (beside + most) between disk → HasCalledAtMost ((n + beside) + most) before disk
later n beside most before between disk called few = omega (arith, at_most_add n (beside + most) before between disk called few)

-- what is counted differently, and from an earlier look at the disk
module _ {E : Type 0} (stands : E → Lines.Start → List EngineLine → Type 0) (tells : Bool) where
  pub answers_beside : (before : Seen) (beside same : ℕ) (step : SiteStep) (core : SiteCore E) (disk : Seen) (home : Home) (past : SitePast) (x : SiteHappening) → beside ≡ same
      → Answers stands tells beside before step core disk home past x → Answers stands tells same before step core disk home past x
  answers_beside before beside same step core disk home past x is a = let P : ℕ → Type 0 = λ n. Answers stands tells n before step core disk home past x in subst P is a

  pub answers_later : (n beside : ℕ) (before between : Seen) (step : SiteStep) (core : SiteCore E) (disk : Seen) (home : Home) (past : SitePast) (x : SiteHappening) → HasCalled n before between
      → Answers stands tells beside between step core disk home past x → Answers stands tells (n + beside) before step core disk home past x
  answers_later n beside before between step core disk home past x called a =
      record { answer = a.answer; sends = a.sends; carries = a.carries; called = omega (arith, calls_add n (beside + can_fail x.calls) before between disk called a.called) }

  pub breaks_later : (n beside most : ℕ) (before between : Seen) (why : StepErr) (core : SiteCore E) (disk : Seen) (home : Home) (past : SitePast) (event : SiteEvent) → HasCalled n before between
      → Breaks stands tells (beside + most) between why core disk home past event → Breaks stands tells ((n + beside) + most) before why core disk home past event
  breaks_later n beside most before between Err_is.Memory core disk home past event called (c, few) = (c, later n beside most before between disk called few)
  breaks_later n beside most before between Err_is.Disk core disk home past event called (at, c, down, few) = (at, c, down, later n beside most before between disk called few)

-- a start of which the read failed
pub read_at_most : {E : Type 0} (core : SiteCore E) (before disk : Seen) (most : ℕ) → is_up core.store.standing ≡ false → HasCalledAtMost (reloads core.store.is_fresh before.size) before disk
    → HasCalledAtMost (beside_rules Ev.Back core before + most) before disk
read_at_most core before disk most down called =
    let is = starting_beside core before down in
    at_most_more (reloads core.store.is_fresh before.size) (beside_rules Ev.Back core before + most) before disk (omega (arith, is)) called
