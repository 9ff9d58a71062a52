-- What a past whose events fit the programs says of a site's own transactions.
use Rattle.std.proofs.Common.{◌≡◌, ℕ, suc, ◌≤◌, ◌<◌, ◌⊎◌, Bool, true, false, is_some, IsSome, Option, None, [], ◌∷◌, refl, sym, ap, ◌∙◌, subst, inl, inr, arith}
use Rattle.std.proofs.lemmas.Bool.{cond-true, cond-false, or_cases, or_from}
use Rattle.mdb_base.specs.declared.names.Tid.{Tid}
use Rattle.mdb_base.specs.declared.names.Tx.{Tx}
use Rattle.mdb_base.specs.Names.{same_tx}
use Rattle.mdb_base.proofs.ForCallers.{same_tid-equal, same_tx-equal, same_tx-refl}
use Rattle.fed_rules.specs.declared.answers.Answer.{Answer}
use Rattle.fed_rules.specs.declared.answers.Answer.TheVariants as Say
use Rattle.fed_rules.specs.declared.events.SiteEvent.{SiteEvent}
use Rattle.fed_rules.specs.declared.events.SiteEvent.TheVariants as Ev
use Rattle.fed_rules.specs.Requests.{attempt}
use Rattle.fed_rules.specs.SitePast.{SiteHappening, SitePast, attempts_of, begins_tx}
use Rattle.fed_rules.specs.SiteRecords.{Home}
use Rattle.fed_rules.proofs.ForCallers.{attempts_grow}
use Rattle.site_core.specs.Made.{IsGoingOn, IsNextLine, about, begins_tid, is_of_global, is_of_local, was_begun, was_global, was_local}
use Rattle.site_core.specs.Stands.{Before, StopAt, Within, behind, stopped_past}
use Rattle.site_core.proofs.ForCallers.{line_event, none_opened, trip_is, trip_line, unbegun_opened}
use Rattle.local_dbms.specs.Stands.{FitsPrograms, IsOwned, OwnPrograms}
use Rattle.local_dbms.proofs.Bounds.{epoch_bound, made_small, number_bound}
use Rattle.local_dbms.proofs.Small.{IsBegunBy, IsSmall}

by_bool : {P : Type 0} (b : Bool) → (b ≡ true → P) → (b ≡ false → P) → P
by_bool true one other = one refl
by_bool false one other = other refl

-- no program where there is one
both : {A : Type 0} (o : Option A) → IsSome o → o ≡ None → ⊥
both o some none = let is : is_some o ≡ false = ap is_some none in cc

-- the site's own transactions and those that messages are about are apart
local_own : (programs : OwnPrograms) (past : SitePast) (event : SiteEvent) (tx : Tx) → FitsPrograms programs past event → is_of_local tx event ≡ true → IsSome (programs tx)
local_own programs past (Ev.Begin tid) tx f e = subst (λ (t : Tx). IsSome (programs t)) (same_tx-equal tid.tx tx e) f.0
local_own programs past (Ev.Act tid act) tx f e = subst (λ (t : Tx). IsSome (programs t)) (same_tx-equal tid.tx tx e) f
local_own programs past (Ev.Commit tid) tx f e = subst (λ (t : Tx). IsSome (programs t)) (same_tx-equal tid.tx tx e) f
local_own programs past (Ev.Abort tid) tx f e = subst (λ (t : Tx). IsSome (programs t)) (same_tx-equal tid.tx tx e) f
local_own programs past (Ev.Fate t) tx f e = cc
local_own programs past (Ev.Give message) tx f e = cc
local_own programs past (Ev.Ask tid) tx f e = cc
local_own programs past (Ev.Drop tid) tx f e = cc
local_own programs past (Ev.Halt cut) tx f e = cc
local_own programs past (Ev.Trip calls cut) tx f e = cc
local_own programs past Ev.Back tx f e = cc
local_own programs past Ev.Check tx f e = cc

global_foreign : (programs : OwnPrograms) (past : SitePast) (event : SiteEvent) (tx : Tx) → FitsPrograms programs past event → is_of_global tx event ≡ true → programs tx ≡ None
global_foreign programs past (Ev.Give message) tx f e = ap programs (sym (same_tx-equal (about message).tx tx e)) ∙ f
global_foreign programs past (Ev.Begin tid) tx f e = cc
global_foreign programs past (Ev.Act tid act) tx f e = cc
global_foreign programs past (Ev.Commit tid) tx f e = cc
global_foreign programs past (Ev.Abort tid) tx f e = cc
global_foreign programs past (Ev.Fate t) tx f e = cc
global_foreign programs past (Ev.Ask tid) tx f e = cc
global_foreign programs past (Ev.Drop tid) tx f e = cc
global_foreign programs past (Ev.Halt cut) tx f e = cc
global_foreign programs past (Ev.Trip calls cut) tx f e = cc
global_foreign programs past Ev.Back tx f e = cc
global_foreign programs past Ev.Check tx f e = cc

-- no message was about a transaction of the site's own
pub own_apart : (programs : OwnPrograms) (past : SitePast) (tx : Tx) → IsOwned programs past → IsSome (programs tx) → was_global tx past ≡ false
own_apart programs [] tx owned some = refl
own_apart programs (x ∷ past) tx owned some =
    or_from (is_of_global tx x.event) (was_global tx past)
    (by_bool (is_of_global tx x.event) (λ e. absurd (both (programs tx) some (global_foreign programs past x.event tx owned.0 e))) (λ e. e)) (own_apart programs past tx owned.1 some)

-- and none of another one's attempts began here as a local one's
pub foreign_apart : (programs : OwnPrograms) (past : SitePast) (tx : Tx) → IsOwned programs past → programs tx ≡ None → was_local tx past ≡ false
foreign_apart programs [] tx owned none = refl
foreign_apart programs (x ∷ past) tx owned none =
    or_from (is_of_local tx x.event) (was_local tx past)
    (by_bool (is_of_local tx x.event) (λ e. absurd (both (programs tx) (local_own programs past x.event tx owned.0 e) none)) (λ e. e)) (foreign_apart programs past tx owned.1 none)

-- what began is that of the event
begun_is : (event : SiteEvent) (answer : Answer) (u : Tid) → IsBegunBy event answer → begins_tid u answer ≡ true → (event ≡ Ev.Begin u) × (begins_tx u.tx answer ≡ true)
begun_is event (Say.Begun t) u b e =
    let same = same_tid-equal t u e in
    (b ∙ ap (λ (v : Tid). Ev.Begin v) same, ap (λ (v : Tid). same_tx v.tx u.tx) same ∙ same_tx-refl u.tx)
begun_is event answer u b e = cc

pub begun_tx : (event : SiteEvent) (answer : Answer) (tx : Tx) → IsBegunBy event answer → begins_tx tx answer ≡ true → (t : Tid) × (event ≡ Ev.Begin t) × (t.tx ≡ tx)
begun_tx event (Say.Begun t) tx b e = (t, b, same_tx-equal t.tx tx e)
begun_tx event answer tx b e = cc

-- the line of an event of a past that events made
made_begun : (home : Home) (past : SitePast) (x : SiteHappening) → IsNextLine home past x → IsGoingOn home past → IsBegunBy x.event x.answer
made_begun home past x line made = (subst (IsSmall (suc (number_bound past)) (suc (epoch_bound past))) (sym line.is) (made_small home past made x.event)).begun

-- an attempt that was begun has a number below the count of its transaction
pub begun_below : (home : Home) (programs : OwnPrograms) (past : SitePast) (u : Tid) → IsGoingOn home past → IsOwned programs past → was_begun u past ≡ true → u.attempt < attempts_of past u.tx
begun_below home programs [] u made owned e = cc
begun_below home programs (x ∷ past) u (inl opened) owned e = let never = unbegun_opened home (x ∷ past) opened u in cc
begun_below home programs (x ∷ past) u (inr (line, made)) owned e = from (or_cases (begins_tid u x.answer) (was_begun u past) e) (begun_below home programs past u made owned.1) where
  from : ((begins_tid u x.answer ≡ true) ⊎ (was_begun u past ≡ true)) → (was_begun u past ≡ true → u.attempt < attempts_of past u.tx) → u.attempt < attempts_of (x ∷ past) u.tx
  from (inl now) rest =
      let (is, of_tx) = begun_is x.event x.answer u (made_begun home past x line made) now in
      let fits : FitsPrograms programs past (Ev.Begin u) = subst (FitsPrograms programs past) is owned.0 in
      let next : u.attempt ≡ attempts_of past u.tx = ap (λ (t : Tid). t.attempt) fits.1 in
      let counted : attempts_of (x ∷ past) u.tx ≡ suc (attempts_of past u.tx) = cond-true _ _ _ of_tx in
      omega arith
  from (inr earlier) rest = let old = rest earlier in let more = attempts_grow past x u.tx in omega arith

-- an attempt behind those that were begun wasn't
pub next_unbegun : (home : Home) (programs : OwnPrograms) (past : SitePast) (tx : Tx) (n : ℕ) → IsGoingOn home past → IsOwned programs past → attempts_of past tx ≤ n → was_begun (attempt tx n) past ≡ false
next_unbegun home programs past tx n made owned le =
    by_bool (was_begun (attempt tx n) past) (λ e. let below = begun_below home programs past (attempt tx n) made owned e in absurd (omega arith)) (λ e. e)

-- at most 32 attempts are begun
pub few_begun : (home : Home) (programs : OwnPrograms) (past : SitePast) (tx : Tx) → IsGoingOn home past → IsOwned programs past → attempts_of past tx ≤ 32
few_begun home programs [] tx made owned = omega arith
few_begun home programs (x ∷ past) tx (inl opened) owned = subst (λ (n : ℕ). n ≤ 32) (sym (none_opened home (x ∷ past) opened tx)) (omega arith)
few_begun home programs (x ∷ past) tx (inr (line, made)) owned = by_bool (begins_tx tx x.answer) begins (λ e. subst (λ (n : ℕ). n ≤ 32) (sym (cond-false _ _ _ e)) (few_begun home programs past tx made owned.1)) where
  begins : begins_tx tx x.answer ≡ true → attempts_of (x ∷ past) tx ≤ 32
  begins e =
      let (t, is, of) = begun_tx x.event x.answer tx (made_begun home past x line made) e in
      let fits : FitsPrograms programs past (Ev.Begin t) = subst (FitsPrograms programs past) is owned.0 in
      let less : attempts_of past tx < 32 = subst (λ (v : Tx). attempts_of past v < 32) of fits.2 in
      let counted : attempts_of (x ∷ past) tx ≡ suc (attempts_of past tx) = cond-true _ _ _ e in
      omega arith

-- a past goes on with the line of an event that fits
pub owned_more : (home : Home) (programs : OwnPrograms) (past : SitePast) (event : SiteEvent) → IsOwned programs past → FitsPrograms programs past event → IsOwned programs (behind home past event)
owned_more home programs past event owned fits = (subst (FitsPrograms programs past) (sym (line_event home past event)) fits, owned)

-- an event fits also where a trip is set before it
still_fits : (programs : OwnPrograms) (past : SitePast) (event : SiteEvent) (calls cut : ℕ) → FitsPrograms programs past event → FitsPrograms programs (trip_line calls cut ∷ past) event
still_fits programs past (Ev.Begin tid) calls cut f = f
still_fits programs past (Ev.Act tid act) calls cut f = f
still_fits programs past (Ev.Commit tid) calls cut f = f
still_fits programs past (Ev.Abort tid) calls cut f = f
still_fits programs past (Ev.Fate tx) calls cut f = f
still_fits programs past (Ev.Give message) calls cut f = f
still_fits programs past (Ev.Ask tid) calls cut f = f
still_fits programs past (Ev.Drop tid) calls cut f = f
still_fits programs past (Ev.Halt cut') calls cut f = f
still_fits programs past (Ev.Trip calls' cut') calls cut f = f
still_fits programs past Ev.Back calls cut f = f
still_fits programs past Ev.Check calls cut f = f

-- so what a stop within the event leaves is of events that fit
pub owned_stopped : (home : Home) (programs : OwnPrograms) (past : SitePast) (event : SiteEvent) (at : StopAt) → IsOwned programs past → FitsPrograms programs past event → IsOwned programs (stopped_past home past event at)
owned_stopped home programs past event (Before cut) owned fits =
    owned_more home programs (behind home past (Ev.Trip 0 0)) (Ev.Halt cut) (owned_more home programs past (Ev.Trip 0 0) owned tt) tt
owned_stopped home programs past event (Within calls cut) owned fits =
    let P : SiteHappening → Type 0 = λ t. FitsPrograms programs (t ∷ past) event in
    owned_more home programs (behind home past (Ev.Trip calls cut)) event (owned_more home programs past (Ev.Trip calls cut) owned tt)
    (subst P (sym (trip_is home past calls cut)) (still_fits programs past event calls cut fits))
