-- Which event each command of a local transaction submits to its site.
use Rattle.std.proofs.Common.{◌≡◌, Bool, true, false, nat_lt, Option, Some, None, List, length, refl, sym}
use Rattle.std.specs.Prelude.{nat_le}
use Rattle.mdb_base.specs.declared.acts.Step.{Step}
use Rattle.mdb_base.specs.declared.names.Tid.{Tid}
use Rattle.mdb_base.specs.declared.names.Tx.{Tx}
use Rattle.mdb_base.specs.Words.{when, given, item_at}
use Rattle.fed_rules.specs.declared.answers.Answer.{Answer}
use Rattle.fed_rules.specs.declared.events.SiteEvent.{SiteEvent}
use Rattle.fed_rules.specs.declared.events.SiteEvent.TheVariants as Ev
use Rattle.fed_rules.specs.Happenings.{is_down}
use Rattle.fed_rules.specs.Requests.{Request, Submits, Declines, most_attempts}
use Rattle.fed_rules.specs.Runs.{Run}
use Rattle.fed_rules.specs.Site.{done}
use Rattle.fed_rules.specs.SiteCommands.{Verb, Begin, Step_on, Commit, Abort, Fate, begin_next, with_live, next_step, when_done, request}
use Rattle.fed_rules.specs.SitePast.{SitePast, live, live_of_tx, attempts_of}
use Rattle.fed_rules.specs.SiteRecords.{Home}
use Rattle.fed_rules.specs.Lines.{IsLiveAttemptOf, BeginsNext, StepsOn, CommitsDone, AbortsLive, Asks}

-- what declines where a test holds submits where it doesn't
pub when-submits : {Event : Type 0} (t : Bool) (answer : Answer) (r : Request Event) (event : Event) → when t (Declines answer) r ≡ Submits event → (t ≡ false) × (r ≡ Submits event)
unfolding when
when-submits true answer r event e = cc
when-submits false answer r event e = (refl, e)

-- what declines without a value submits with one
pub given-submits : {A Event : Type 0} (o : Option A) (answer : Answer) (f : A → Request Event) (event : Event) → given o f (Declines answer) ≡ Submits event → (x : A) × (o ≡ Some x) × (f x ≡ Submits event)
unfolding given
given-submits None answer f event e = cc
given-submits (Some x) answer f event e = (x, refl, e)

pub submits-parts : {Event : Type 0} {x y : Event} → Submits x ≡ Submits y → x ≡ y
submits-parts e = cc

begin_asks : (home : Home) (past : SitePast) (tx : Tx) (event : SiteEvent) → begin_next home past tx (attempts_of past tx) ≡ Submits event → BeginsNext past tx event
unfolding begin_next
begin_asks home past tx event e =
    let (few, is) = when-submits (nat_le most_attempts (attempts_of past tx)) _ _ event e in
    record { few = few; is = sym (submits-parts is) }

-- what speaks of the live attempt finds it
pub live_asks : (home : Home) (past : SitePast) (tx : Tx) (next : Tid → Run → Request SiteEvent) (event : SiteEvent) → with_live home past tx next ≡ Submits event
    → (tid : Tid) × (run : Run) × IsLiveAttemptOf home past tx tid run × (next tid run ≡ Submits event)
unfolding with_live
live_asks home past tx next event e =
    let (up, e1) = when-submits (is_down past) _ _ event e in
    let (tid, found, e2) = given-submits (live_of_tx home past tx) _ _ event e1 in
    let (run, own, e3) = given-submits (live home past tid) _ (next tid) event e2 in
    (tid, run, record { up = up; found = found; own = own }, e3)

step_asks : (home : Home) (steps : List Step) (past : SitePast) (tx : Tx) (event : SiteEvent) → with_live home past tx (next_step steps) ≡ Submits event → StepsOn home steps past tx event
unfolding next_step
step_asks home steps past tx event e =
    let (tid, run, is_live, e1) = live_asks home past tx (next_step steps) event e in
    let (step, next, is) = given-submits (item_at steps (done run)) _ _ event e1 in
    record { tid = tid; run = run; is_live = is_live; step = step; next = next; is = sym (submits-parts is) }

commit_asks : (home : Home) (steps : List Step) (past : SitePast) (tx : Tx) (event : SiteEvent) → with_live home past tx (when_done steps) ≡ Submits event → CommitsDone home steps past tx event
unfolding when_done
commit_asks home steps past tx event e =
    let (tid, run, is_live, e1) = live_asks home past tx (when_done steps) event e in
    let (all, is) = when-submits (nat_lt (done run) (length steps)) _ _ event e1 in
    record { tid = tid; run = run; is_live = is_live; all = all; is = sym (submits-parts is) }

abort_asks : (home : Home) (past : SitePast) (tx : Tx) (event : SiteEvent) → with_live home past tx (λ tid run. Submits (Ev.Abort tid)) ≡ Submits event → AbortsLive home past tx event
abort_asks home past tx event e =
    let (tid, run, is_live, is) = live_asks home past tx _ event e in
    record { tid = tid; run = run; is_live = is_live; is = sym (submits-parts is) }

pub asks : (verb : Verb) (home : Home) (steps : List Step) (past : SitePast) (tx : Tx) (event : SiteEvent) → request verb home steps past tx ≡ Submits event → Asks verb home steps past tx event
unfolding request
asks Begin home steps past tx event e = begin_asks home past tx event e
asks Step_on home steps past tx event e = step_asks home steps past tx event e
asks Commit home steps past tx event e = commit_asks home steps past tx event e
asks Abort home steps past tx event e = abort_asks home past tx event e
asks Fate home steps past tx event e = sym (submits-parts e)
