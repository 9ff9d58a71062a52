-- Each line of a site, also one that a stop ends: what it makes of a local attempt, to which no operation is sent.
use Rattle.std.proofs.Common.{◌≡◌, ℕ, Bool, true, false, Option, Some, None, List, [], ◌∷◌, ◌++◌, take, refl, sym, subst, ◌∙◌}
use Rattle.mdb_base.specs.declared.names.Tid.{Tid}
use Rattle.mdb_base.specs.Names.{same_tid}
use Rattle.mdb_base.specs.Words.{some_of, when}
use Rattle.mdb_base.proofs.ForCallers.{same_tid-equal}
use Rattle.fed_rules.specs.declared.answers.Answer.TheVariants as Say
use Rattle.fed_rules.specs.declared.events.SiteEvent.{SiteEvent}
use Rattle.fed_rules.specs.declared.events.SiteEvent.TheVariants as Ev
use Rattle.fed_rules.specs.declared.messages.ToSite.{ToSite}
use Rattle.fed_rules.specs.declared.messages.ToSite.TheVariants as To
use Rattle.fed_rules.specs.declared.records.SiteRecord.{SiteRecord}
use Rattle.fed_rules.specs.Disk.{Call, Stops}
use Rattle.fed_rules.specs.Happenings.{Trip, quiet, is_down, stopped, tripped}
use Rattle.fed_rules.specs.Orders.{read_by}
use Rattle.fed_rules.specs.Site.{of_give, answered, site_line, of_check}
use Rattle.fed_rules.specs.SitePast.{SiteHappening, SitePast, disk, trip}
use Rattle.fed_rules.specs.SiteRecords.{Home, site_frame}
use Rattle.commit_laws.proofs.ForCallers.{by-answered, restored-sealed}
use Rattle.site_history.specs.Accesses.{seals}
use Rattle.federation_laws.proofs.Asked.{IsOf}
use Rattle.federation_laws.proofs.LocalMoves.{LocalMove, Rests, Gone, Opening, Granting, Closing, Made, made_when, other-made, plain-made, begin-made, act-made, commit-made, abort-made, decide-made, ask-made, drop-made, fate-made, back-made}
use Rattle.federation_laws.proofs.SiteAbout.{begin_about, act_about, commit_about, abort_about, work_about, take_about, prepare_about, decide_about, drop_about}
use Rattle.federation_laws.proofs.SiteLines.{seals-cut}

-- no operation and no Prepare of the attempt comes
abbrev pub NotAsked : Tid → SiteEvent → Type 0
NotAsked t (Ev.Give message) = IsOf t message → ⊥
NotAsked t event = Unit {0}

by-tid : (t tid : Tid) (P : Tid → Type 0) → (tid ≡ t → P t) → (same_tid tid t ≡ false → P tid) → P tid
by-tid t tid P own other = by_test (same_tid tid t) refl
  where
    by_test : (b : Bool) → same_tid tid t ≡ b → P tid
    by_test true e = let same = same_tid-equal tid t e in subst P (sym same) (own same)
    by_test false e = other e

give-made : (home : Home) (past : SitePast) (t : Tid) (message : ToSite) → (IsOf t message → ⊥) → (answered home past (Ev.Give message)).event ≡ Ev.Give message → Made home past t (Ev.Give message) (answered home past (Ev.Give message))
unfolding answered of_give
give-made home past t (To.Work tid e n act) no_one h =
    by-tid t tid (λ z. (answered home past (Ev.Give (To.Work z e n act))).event ≡ Ev.Give (To.Work z e n act) → Made home past t (Ev.Give (To.Work z e n act)) (answered home past (Ev.Give (To.Work z e n act))))
    (λ own. absurd (no_one own)) (λ other k. other-made home past t tid _ _ k tt (work_about home past tid e n act) other) h
give-made home past t (To.Take tid e n) no_one h =
    by-tid t tid (λ z. (answered home past (Ev.Give (To.Take z e n))).event ≡ Ev.Give (To.Take z e n) → Made home past t (Ev.Give (To.Take z e n)) (answered home past (Ev.Give (To.Take z e n))))
    (λ own. absurd (no_one own)) (λ other k. other-made home past t tid _ _ k tt (take_about home past tid e n) other) h
give-made home past t (To.Prepare tid e n) no_one h =
    by-tid t tid (λ z. (answered home past (Ev.Give (To.Prepare z e n))).event ≡ Ev.Give (To.Prepare z e n) → Made home past t (Ev.Give (To.Prepare z e n)) (answered home past (Ev.Give (To.Prepare z e n))))
    (λ own. absurd (no_one own)) (λ other k. other-made home past t tid _ _ k tt (prepare_about home past tid e n) other) h
give-made home past t (To.Decide tid decision) no_one h =
    by-tid t tid (λ z. (answered home past (Ev.Give (To.Decide z decision))).event ≡ Ev.Give (To.Decide z decision) → Made home past t (Ev.Give (To.Decide z decision)) (answered home past (Ev.Give (To.Decide z decision))))
    (λ own k. decide-made home past t decision) (λ other k. other-made home past t tid _ _ k tt (decide_about home past tid decision) other) h

check-made : (home : Home) (past : SitePast) (t : Tid) → Made home past t Ev.Check (of_check home past)
unfolding of_check
check-made home past t =
    made_when home past t _ _ _ _ (λ large. plain-made home past t _ _ refl refl)
    (λ fits. record { heard = refl; move = Rests (record { reads = refl; unsealed = refl }) refl })

answered-made : (home : Home) (past : SitePast) (t : Tid) (event : SiteEvent) → is_down past ≡ false → NotAsked t event → Made home past t event (answered home past event)
unfolding answered
answered-made home past t (Ev.Begin tid) up n =
    by-tid t tid (λ z. (answered home past (Ev.Begin z)).event ≡ Ev.Begin z → Made home past t (Ev.Begin z) (answered home past (Ev.Begin z)))
    (λ own k. begin-made home past t) (λ other k. other-made home past t tid _ _ k tt (begin_about home past tid) other) (by-answered home t past (Ev.Begin tid) up).is
answered-made home past t (Ev.Act tid act) up n =
    by-tid t tid (λ z. (answered home past (Ev.Act z act)).event ≡ Ev.Act z act → Made home past t (Ev.Act z act) (answered home past (Ev.Act z act)))
    (λ own k. act-made home past t act) (λ other k. other-made home past t tid _ _ k other (act_about home past tid act) other) (by-answered home t past (Ev.Act tid act) up).is
answered-made home past t (Ev.Commit tid) up n =
    by-tid t tid (λ z. (answered home past (Ev.Commit z)).event ≡ Ev.Commit z → Made home past t (Ev.Commit z) (answered home past (Ev.Commit z)))
    (λ own k. commit-made home past t) (λ other k. other-made home past t tid _ _ k tt (commit_about home past tid) other) (by-answered home t past (Ev.Commit tid) up).is
answered-made home past t (Ev.Abort tid) up n =
    by-tid t tid (λ z. (answered home past (Ev.Abort z)).event ≡ Ev.Abort z → Made home past t (Ev.Abort z) (answered home past (Ev.Abort z)))
    (λ own k. abort-made home past t) (λ other k. other-made home past t tid _ _ k tt (abort_about home past tid) other) (by-answered home t past (Ev.Abort tid) up).is
answered-made home past t (Ev.Fate tx) up n = fate-made home past t tx
answered-made home past t (Ev.Give message) up n = give-made home past t message n (by-answered home t past (Ev.Give message) up).is
answered-made home past t (Ev.Ask tid) up n = ask-made home past t tid
answered-made home past t (Ev.Drop tid) up n =
    by-tid t tid (λ z. (answered home past (Ev.Drop z)).event ≡ Ev.Drop z → Made home past t (Ev.Drop z) (answered home past (Ev.Drop z)))
    (λ own k. drop-made home past t) (λ other k. other-made home past t tid _ _ k tt (drop_about home past tid) other) (by-answered home t past (Ev.Drop tid) up).is
answered-made home past t (Ev.Halt cut) up n = plain-made home past t _ _ refl refl
answered-made home past t (Ev.Trip calls cut) up n = plain-made home past t _ _ refl refl
answered-made home past t Ev.Back up n = back-made home past t
answered-made home past t Ev.Check up n = check-made home past t

unsealed-cut : (t : Tid) (k : ℕ) (calls : List (Call SiteRecord)) (cut : ℕ) → some_of (seals t) calls ≡ false → some_of (seals t) (take k calls ++ Stops cut ∷ []) ≡ false
unsealed-cut t k calls cut e = by_test (some_of (seals t) (take k calls ++ Stops cut ∷ [])) refl
  where
    by_test : (b : Bool) → some_of (seals t) (take k calls ++ Stops cut ∷ []) ≡ b → some_of (seals t) (take k calls ++ Stops cut ∷ []) ≡ false
    by_test true q = (let was = seals-cut t k calls cut q in let clash = sym was ∙ e in cc)
    by_test false q = q

stopped-read : (t : Tid) (event : SiteEvent) (kept : ℕ) → read_by t event (Say.Stopped kept) ≡ None
stopped-read t (Ev.Act tid act) kept = refl
stopped-read t (Ev.Begin tid) kept = refl
stopped-read t (Ev.Commit tid) kept = refl
stopped-read t (Ev.Abort tid) kept = refl
stopped-read t (Ev.Fate tx) kept = refl
stopped-read t (Ev.Give message) kept = refl
stopped-read t (Ev.Ask tid) kept = refl
stopped-read t (Ev.Drop tid) kept = refl
stopped-read t (Ev.Halt cut) kept = refl
stopped-read t (Ev.Trip calls cut) kept = refl
stopped-read t Ev.Back kept = refl
stopped-read t Ev.Check kept = refl

stopped-move : (home : Home) (past : SitePast) (t : Tid) (event : SiteEvent) (x : SiteHappening) (k cut : ℕ) → LocalMove home past t event x → LocalMove home past t event (stopped site_frame (disk home past) x.event (take k x.calls ++ Stops cut ∷ []))
unfolding stopped
stopped-move home past t event x k cut (Rests i s) = Gone (record { reads = stopped-read t x.event _; unsealed = unsealed-cut t k x.calls cut i.unsealed }) (restored-sealed _ t)
stopped-move home past t event x k cut (Gone i s) = Gone (record { reads = stopped-read t x.event _; unsealed = unsealed-cut t k x.calls cut i.unsealed }) (restored-sealed _ t)
stopped-move home past t event x k cut (Opening o) = Gone (record { reads = stopped-read t x.event _; unsealed = unsealed-cut t k x.calls cut o.idle.unsealed }) (restored-sealed _ t)
stopped-move home past t event x k cut (Granting g) = Gone (record { reads = stopped-read t x.event _; unsealed = unsealed-cut t k x.calls cut g.unsealed }) (restored-sealed _ t)
stopped-move home past t event x k cut (Closing c) = Closing (record { taken = c.taken; run = c.run; was = c.was; now = restored-sealed _ t; reads = stopped-read t x.event _ })

tripped-made : (home : Home) (past : SitePast) (t : Tid) (event : SiteEvent) (o : Option Trip) (x : SiteHappening) → Made home past t event x → Made home past t event (tripped site_frame (disk home past) o x)
unfolding tripped stopped
tripped-made home past t event None x m = m
tripped-made home past t event (Some trip) x m =
    made_when home past t event _ _ _ (λ c. record { heard = m.heard; move = stopped-move home past t event x trip.calls trip.cut m.move }) (λ c. m)

down-read : (t : Tid) (event : SiteEvent) → read_by t event Say.Down ≡ None
down-read t (Ev.Act tid act) = refl
down-read t (Ev.Begin tid) = refl
down-read t (Ev.Commit tid) = refl
down-read t (Ev.Abort tid) = refl
down-read t (Ev.Fate tx) = refl
down-read t (Ev.Give message) = refl
down-read t (Ev.Ask tid) = refl
down-read t (Ev.Drop tid) = refl
down-read t (Ev.Halt cut) = refl
down-read t (Ev.Trip calls cut) = refl
down-read t Ev.Back = refl
down-read t Ev.Check = refl

unless-down : (home : Home) (past : SitePast) (t : Tid) (event : SiteEvent) → NotAsked t event → Made home past t event (when (is_down past) (quiet event Say.Down) (tripped site_frame (disk home past) (trip past) (answered home past event)))
unless-down home past t event n =
    made_when home past t event _ _ _ (λ down. plain-made home past t event Say.Down refl (down-read t event))
    (λ up. tripped-made home past t event (trip past) _ (answered-made home past t event up n))

-- each line of a site
pub local-made : (home : Home) (past : SitePast) (t : Tid) (event : SiteEvent) → NotAsked t event → Made home past t event (site_line home past event)
unfolding site_line stopped
local-made home past t (Ev.Begin tid) n = unless-down home past t (Ev.Begin tid) n
local-made home past t (Ev.Act tid act) n = unless-down home past t (Ev.Act tid act) n
local-made home past t (Ev.Commit tid) n = unless-down home past t (Ev.Commit tid) n
local-made home past t (Ev.Abort tid) n = unless-down home past t (Ev.Abort tid) n
local-made home past t (Ev.Fate tx) n = unless-down home past t (Ev.Fate tx) n
local-made home past t (Ev.Give message) n = unless-down home past t (Ev.Give message) n
local-made home past t (Ev.Ask tid) n = unless-down home past t (Ev.Ask tid) n
local-made home past t (Ev.Drop tid) n = unless-down home past t (Ev.Drop tid) n
local-made home past t (Ev.Trip calls cut) n = plain-made home past t _ _ refl refl
local-made home past t (Ev.Halt cut) n =
    made_when home past t _ _ _ _ (λ down. plain-made home past t _ _ refl refl)
    (λ up. record { heard = refl; move = Gone (record { reads = refl; unsealed = refl }) (restored-sealed _ t) })
local-made home past t Ev.Back n =
    made_when home past t _ _ _ _ (λ down. tripped-made home past t Ev.Back (trip past) _ (back-made home past t)) (λ up. plain-made home past t _ _ refl refl)
local-made home past t Ev.Check n = unless-down home past t Ev.Check n
