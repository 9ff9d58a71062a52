-- A Local record is appended by a local commit alone.
use Rattle.std.proofs.Common.{◌≡◌, ℕ, ◌+◌, Bool, true, false, cond, Option, Some, None, List, [], ◌∷◌, ◌++◌, inl, inr, refl, sym, ap, subst}
use Rattle.mdb_base.specs.declared.names.Tid.{Tid}
use Rattle.mdb_base.specs.declared.rows.Put.{Put}
use Rattle.mdb_base.specs.Words.{Each, Among, when}
use Rattle.fed_rules.specs.declared.answers.Answer.TheVariants as Say
use Rattle.fed_rules.specs.declared.events.SiteEvent.{SiteEvent}
use Rattle.fed_rules.specs.declared.events.SiteEvent.TheVariants as Ev
use Rattle.fed_rules.specs.declared.messages.ToSite.{ToSite}
use Rattle.fed_rules.specs.declared.messages.ToSite.TheVariants as To
use Rattle.fed_rules.specs.declared.records.SiteRecord.{SiteRecord}
use Rattle.fed_rules.specs.declared.records.SiteRecord.TheVariants as Rec
use Rattle.fed_rules.specs.Disk.{Call, Append, Sync, CutBack, TrimFront, Stops, is_torn}
use Rattle.fed_rules.specs.Happenings.{Trip, quiet, is_down, stopped, tripped}
use Rattle.fed_rules.specs.Site.{of_give, of_back, answered, site_line, of_check}
use Rattle.fed_rules.specs.SitePast.{SiteHappening, SitePast, disk, epoch, trip}
use Rattle.fed_rules.specs.SiteRecords.{Home, site_frame}
use Rattle.commit_laws.proofs.ForCallers.{by-answered}
use Rattle.federation_laws.proofs.SiteAbout.{SealsOnly, LocalAt, IsAbout, begin_about, act_about, commit_about, abort_about, work_about, take_about, prepare_about, decide_about, ask_about, drop_about, fate_about}
use Rattle.order_laws.proofs.ForCallers.{each_cut}

-- a Local record that the call appends is of the attempt that commits
abbrev pub IsOwnLocal : SiteEvent → Call SiteRecord → Type 0
IsOwnLocal event (Append (Rec.Local tid number writes)) = event ≡ Ev.Commit tid
IsOwnLocal event call = Unit {0}

-- the line does so
record Keeps (event : SiteEvent) (x : SiteHappening) : Type 0 where
  calls : Each (IsOwnLocal event) x.calls

-- the event is no local commit
abbrev IsNoCommit : SiteEvent → Type 0
IsNoCommit (Ev.Commit tid) = ⊥
IsNoCommit event = Unit {0}

no-local : (event : SiteEvent) (tid : Tid) (number : ℕ) (writes : List Put) → IsNoCommit event → LocalAt event (Append (Rec.Local tid number writes)) → ⊥
no-local (Ev.Commit t) tid number writes n l = n
no-local (Ev.Begin t) tid number writes n l = l
no-local (Ev.Act t act) tid number writes n l = l
no-local (Ev.Abort t) tid number writes n l = l
no-local (Ev.Fate tx) tid number writes n l = l
no-local (Ev.Give message) tid number writes n l = l
no-local (Ev.Ask t) tid number writes n l = l
no-local (Ev.Drop t) tid number writes n l = l
no-local (Ev.Halt cut) tid number writes n l = l
no-local (Ev.Trip calls cut) tid number writes n l = l
no-local Ev.Back tid number writes n l = l
no-local Ev.Check tid number writes n l = l

plain-own : (event : SiteEvent) (calls : List (Call SiteRecord)) → IsNoCommit event → Each (LocalAt event) calls → Each (IsOwnLocal event) calls
plain-own event [] n h = tt
plain-own event (Append (Rec.Local tid number writes) ∷ calls) n h = absurd (no-local event tid number writes n h.0)
plain-own event (Append (Rec.Setup site engine protocol items) ∷ calls) n h = (tt, plain-own event calls n h.1)
plain-own event (Append (Rec.Checkpoint sum) ∷ calls) n h = (tt, plain-own event calls n h.1)
plain-own event (Append (Rec.Start e) ∷ calls) n h = (tt, plain-own event calls n h.1)
plain-own event (Append (Rec.Prepared of e number ticket writes) ∷ calls) n h = (tt, plain-own event calls n h.1)
plain-own event (Append (Rec.Ended of decision) ∷ calls) n h = (tt, plain-own event calls n h.1)
plain-own event (Sync ∷ calls) n h = (tt, plain-own event calls n h.1)
plain-own event (CutBack ∷ calls) n h = (tt, plain-own event calls n h.1)
plain-own event (TrimFront ∷ calls) n h = (tt, plain-own event calls n h.1)
plain-own event (Stops cut ∷ calls) n h = (tt, plain-own event calls n h.1)

commit-own : (tid : Tid) (calls : List (Call SiteRecord)) → Each (SealsOnly tid) calls → Each (IsOwnLocal (Ev.Commit tid)) calls
commit-own tid [] h = tt
commit-own tid (Append (Rec.Local of number writes) ∷ calls) h = (ap (λ t. Ev.Commit t) (sym h.0), commit-own tid calls h.1)
commit-own tid (Append (Rec.Setup site engine protocol items) ∷ calls) h = (tt, commit-own tid calls h.1)
commit-own tid (Append (Rec.Checkpoint sum) ∷ calls) h = (tt, commit-own tid calls h.1)
commit-own tid (Append (Rec.Start e) ∷ calls) h = (tt, commit-own tid calls h.1)
commit-own tid (Append (Rec.Prepared of e number ticket writes) ∷ calls) h = (tt, commit-own tid calls h.1)
commit-own tid (Append (Rec.Ended of decision) ∷ calls) h = (tt, commit-own tid calls h.1)
commit-own tid (Sync ∷ calls) h = (tt, commit-own tid calls h.1)
commit-own tid (CutBack ∷ calls) h = (tt, commit-own tid calls h.1)
commit-own tid (TrimFront ∷ calls) h = (tt, commit-own tid calls h.1)
commit-own tid (Stops cut ∷ calls) h = (tt, commit-own tid calls h.1)

-- a line about an attempt at an event that is no local commit
about-own : (home : Home) (past : SitePast) (tid : Tid) (event : SiteEvent) (x : SiteHappening) → x.event ≡ event → IsNoCommit event → IsAbout home past tid x → Keeps event x
about-own home past tid event x h n a = record { calls = plain-own event x.calls n (subst (λ ev. Each (LocalAt ev) x.calls) h a.locals) }

back-own : (home : Home) (past : SitePast) → Keeps Ev.Back (of_back home past)
unfolding of_back
back-own home past = record { calls = by_test (is_torn site_frame (disk home past)) }
  where
    by_test : (t : Bool) → Each (IsOwnLocal Ev.Back) (cond t (CutBack ∷ []) [] ++ Append (Rec.Start (epoch home past + 1)) ∷ Sync ∷ [])
    by_test true = (tt, (tt, (tt, tt)))
    by_test false = (tt, (tt, tt))

message_tid : ToSite → Tid
message_tid (To.Work tid e n act) = tid
message_tid (To.Take tid e n) = tid
message_tid (To.Prepare tid e n) = tid
message_tid (To.Decide tid decision) = tid

give_about : (home : Home) (past : SitePast) (message : ToSite) → IsAbout home past (message_tid message) (of_give home past message)
unfolding of_give message_tid
give_about home past (To.Work tid e n act) = work_about home past tid e n act
give_about home past (To.Take tid e n) = take_about home past tid e n
give_about home past (To.Prepare tid e n) = prepare_about home past tid e n
give_about home past (To.Decide tid decision) = decide_about home past tid decision

keeps-when : (event : SiteEvent) (t : Bool) (a b : SiteHappening) → (t ≡ true → Keeps event a) → (t ≡ false → Keeps event b) → Keeps event (when t a b)
unfolding when
keeps-when event true a b p q = p refl
keeps-when event false a b p q = q refl

check-own : (home : Home) (past : SitePast) → Keeps Ev.Check (of_check home past)
unfolding of_check
check-own home past = keeps-when _ _ _ _ (λ large. record { calls = tt }) (λ fits. record { calls = (tt, (tt, (tt, tt))) })

answered-own : (home : Home) (past : SitePast) (event : SiteEvent) → is_down past ≡ false → (any : Tid) → Keeps event (answered home past event)
unfolding answered
answered-own home past (Ev.Begin tid) up any = about-own home past tid _ _ (by-answered home any past (Ev.Begin tid) up).is tt (begin_about home past tid)
answered-own home past (Ev.Act tid act) up any = about-own home past tid _ _ (by-answered home any past (Ev.Act tid act) up).is tt (act_about home past tid act)
answered-own home past (Ev.Commit tid) up any = record { calls = commit-own tid _ (commit_about home past tid).calls }
answered-own home past (Ev.Abort tid) up any = about-own home past tid _ _ (by-answered home any past (Ev.Abort tid) up).is tt (abort_about home past tid)
answered-own home past (Ev.Fate tx) up any = about-own home past any _ _ (by-answered home any past (Ev.Fate tx) up).is tt (fate_about home past any tx)
answered-own home past (Ev.Give message) up any = about-own home past (message_tid message) _ _ (by-answered home any past (Ev.Give message) up).is tt (give_about home past message)
answered-own home past (Ev.Ask tid) up any = about-own home past tid _ _ (by-answered home any past (Ev.Ask tid) up).is tt (ask_about home past tid)
answered-own home past (Ev.Drop tid) up any = about-own home past tid _ _ (by-answered home any past (Ev.Drop tid) up).is tt (drop_about home past tid)
answered-own home past (Ev.Halt cut) up any = record { calls = tt }
answered-own home past (Ev.Trip calls cut) up any = record { calls = tt }
answered-own home past Ev.Back up any = back-own home past
answered-own home past Ev.Check up any = check-own home past

tripped-own : (home : Home) (past : SitePast) (event : SiteEvent) (t : Option Trip) (x : SiteHappening) → Keeps event x → Keeps event (tripped site_frame (disk home past) t x)
unfolding tripped stopped
tripped-own home past event None x k = k
tripped-own home past event (Some t) x k =
    keeps-when event _ _ _ (λ c. record { calls = each_cut (IsOwnLocal event) t.calls x.calls (Stops t.cut) k.calls tt }) (λ c. k)

unless-down : (home : Home) (past : SitePast) (event : SiteEvent) (any : Tid) → Keeps event (when (is_down past) (quiet event Say.Down) (tripped site_frame (disk home past) (trip past) (answered home past event)))
unless-down home past event any =
    keeps-when event _ _ _ (λ down. record { calls = tt }) (λ up. tripped-own home past event (trip past) _ (answered-own home past event up any))

line-own : (home : Home) (past : SitePast) (event : SiteEvent) (any : Tid) → Keeps event (site_line home past event)
unfolding site_line stopped
line-own home past (Ev.Begin tid) any = unless-down home past (Ev.Begin tid) any
line-own home past (Ev.Act tid act) any = unless-down home past (Ev.Act tid act) any
line-own home past (Ev.Commit tid) any = unless-down home past (Ev.Commit tid) any
line-own home past (Ev.Abort tid) any = unless-down home past (Ev.Abort tid) any
line-own home past (Ev.Fate tx) any = unless-down home past (Ev.Fate tx) any
line-own home past (Ev.Give message) any = unless-down home past (Ev.Give message) any
line-own home past (Ev.Ask tid) any = unless-down home past (Ev.Ask tid) any
line-own home past (Ev.Drop tid) any = unless-down home past (Ev.Drop tid) any
line-own home past (Ev.Trip calls cut) any = record { calls = tt }
line-own home past (Ev.Halt cut) any = keeps-when _ _ _ _ (λ down. record { calls = tt }) (λ up. record { calls = (tt, tt) })
line-own home past Ev.Back any = keeps-when _ _ _ _ (λ down. tripped-own home past Ev.Back (trip past) _ (back-own home past)) (λ up. record { calls = tt })
line-own home past Ev.Check any = unless-down home past Ev.Check any

local-call : (event : SiteEvent) (tid : Tid) (number : ℕ) (writes : List Put) (calls : List (Call SiteRecord)) → Each (IsOwnLocal event) calls → Among (λ call. call ≡ Append (Rec.Local tid number writes)) calls → event ≡ Ev.Commit tid
local-call event tid number writes [] h i = absurd i
local-call event tid number writes (call ∷ calls) h (inl e) = subst (IsOwnLocal event) e h.0
local-call event tid number writes (call ∷ calls) h (inr i) = local-call event tid number writes calls h.1 i

-- a line that appends a Local record is a commit of its attempt
pub local-by-commit : (home : Home) (past : SitePast) (event : SiteEvent) (tid : Tid) (number : ℕ) (writes : List Put) → Among (λ call. call ≡ Append (Rec.Local tid number writes)) (site_line home past event).calls → event ≡ Ev.Commit tid
local-by-commit home past event tid number writes i = local-call event tid number writes _ (line-own home past event tid).calls i
