-- Each line of a site, also one that a stop ends: what it makes of one attempt that isn't local there.
use Rattle.std.proofs.Common.{◌≡◌, ℕ, zero, suc, ◌+◌, Bool, true, false, cond, ◌||◌, Option, Some, None, List, [], ◌∷◌, ◌++◌, take, inl, inr, refl, sym, subst}
use Rattle.mdb_base.specs.declared.names.Tid.{Tid}
use Rattle.mdb_base.specs.declared.names.Tx.{Tx}
use Rattle.mdb_base.specs.Names.{same_tid}
use Rattle.mdb_base.specs.Words.{some_of, when}
use Rattle.mdb_base.proofs.ForCallers.{same_tid-equal}
use Rattle.fed_rules.specs.declared.answers.Answer.TheVariants as Say
use Rattle.fed_rules.specs.declared.events.SiteEvent.{SiteEvent}
use Rattle.fed_rules.specs.declared.events.SiteEvent.TheVariants as Ev
use Rattle.fed_rules.specs.declared.messages.ToSite.{ToSite}
use Rattle.fed_rules.specs.declared.messages.ToSite.TheVariants as To
use Rattle.fed_rules.specs.declared.records.SiteRecord.{SiteRecord}
use Rattle.fed_rules.specs.declared.records.SiteRecord.TheVariants as Rec
use Rattle.fed_rules.specs.Disk.{Call, Append, Sync, CutBack, Stops, is_torn}
use Rattle.fed_rules.specs.Happenings.{Trip, quiet, stops, comes_up, is_down, stopped, tripped}
use Rattle.fed_rules.specs.Site.{of_fate, of_give, of_back, answered, site_line, of_check}
use Rattle.fed_rules.specs.SitePast.{SiteHappening, SitePast, disk, epoch, trip}
use Rattle.fed_rules.specs.SiteRecords.{Home, site_frame}
use Rattle.commit_laws.proofs.ForCallers.{by-answered, restored-sealed}
use Rattle.site_history.specs.Accesses.{seals}
use Rattle.federation_laws.proofs.SiteAbout.{begin_about, act_about, commit_about, abort_about, work_about, take_about, prepare_about, decide_about, drop_about}
use Rattle.federation_laws.proofs.SiteMoves.{Ending, IsSealing, Moves, Same}
use Rattle.federation_laws.proofs.SiteOperations.{moves_when, moves_given, work_moves, take_moves}
use Rattle.federation_laws.proofs.SiteSteps.{other_moves, prepare_moves, decide_moves, plain_moves, ask_moves, drop_moves}

-- the event isn't one of the attempt as a local one
abbrev pub IsForeign : Tid → SiteEvent → Type 0
IsForeign g (Ev.Begin tid) = same_tid tid g ≡ false
IsForeign g (Ev.Act tid act) = same_tid tid g ≡ false
IsForeign g (Ev.Commit tid) = same_tid tid g ≡ false
IsForeign g (Ev.Abort tid) = same_tid tid g ≡ false
IsForeign g event = Unit {0}

fate_moves : (home : Home) (g : Tid) (past : SitePast) (tx : Tx) → Moves home g past (Ev.Fate tx) (of_fate home past tx)
unfolding of_fate
fate_moves home g past tx =
    moves_given home g past _ _ _ _
    (λ e. moves_given home g past _ _ _ _ (λ f. plain_moves home g past _ _ (by_test _)) (λ running f. plain_moves home g past _ _ refl))
    (λ committed e. plain_moves home g past _ _ refl)
  where
    by_test : (t : Bool) → (stops (cond t Say.Unbegun Say.Ended) || comes_up (cond t Say.Unbegun Say.Ended)) ≡ false
    by_test true = refl
    by_test false = refl

-- what holds for the attempt itself and for any other holds for each
by-tid : (g tid : Tid) (P : Tid → Type 0) → P g → (same_tid tid g ≡ false → P tid) → P tid
by-tid g tid P own other = by_test (same_tid tid g) refl
  where
    by_test : (t : Bool) → same_tid tid g ≡ t → P tid
    by_test true e = subst P (sym (same_tid-equal tid g e)) own
    by_test false e = other e

give_moves : (home : Home) (g : Tid) (past : SitePast) (message : ToSite) → is_down past ≡ false → (answered home past (Ev.Give message)).event ≡ Ev.Give message → Moves home g past (Ev.Give message) (answered home past (Ev.Give message))
unfolding answered of_give
give_moves home g past (To.Work tid e n act) up h =
    by-tid g tid (λ t. (answered home past (Ev.Give (To.Work t e n act))).event ≡ Ev.Give (To.Work t e n act) → Moves home g past (Ev.Give (To.Work t e n act)) (answered home past (Ev.Give (To.Work t e n act))))
    (λ k. work_moves home g past e n act up) (λ other k. other_moves home g past _ tid _ k (work_about home past tid e n act) other) h
give_moves home g past (To.Take tid e n) up h =
    by-tid g tid (λ t. (answered home past (Ev.Give (To.Take t e n))).event ≡ Ev.Give (To.Take t e n) → Moves home g past (Ev.Give (To.Take t e n)) (answered home past (Ev.Give (To.Take t e n))))
    (λ k. take_moves home g past e n) (λ other k. other_moves home g past _ tid _ k (take_about home past tid e n) other) h
give_moves home g past (To.Prepare tid e n) up h =
    by-tid g tid (λ t. (answered home past (Ev.Give (To.Prepare t e n))).event ≡ Ev.Give (To.Prepare t e n) → Moves home g past (Ev.Give (To.Prepare t e n)) (answered home past (Ev.Give (To.Prepare t e n))))
    (λ k. prepare_moves home g past e n) (λ other k. other_moves home g past _ tid _ k (prepare_about home past tid e n) other) h
give_moves home g past (To.Decide tid decision) up h =
    by-tid g tid (λ t. (answered home past (Ev.Give (To.Decide t decision))).event ≡ Ev.Give (To.Decide t decision) → Moves home g past (Ev.Give (To.Decide t decision)) (answered home past (Ev.Give (To.Decide t decision))))
    (λ k. decide_moves home g past decision) (λ other k. other_moves home g past _ tid _ k (decide_about home past tid decision) other) h

back_moves : (home : Home) (g : Tid) (past : SitePast) → Moves home g past Ev.Back (of_back home past)
unfolding of_back
back_moves home g past =
    record {
      heard = refl;
      move = Ending (record { none = restored-sealed _ g; shut = inr (inr refl) });
      says = tt;
      sealing = λ s. by_test (is_torn site_frame (disk home past)) s;
      calm = λ p. cc;
    }
  where
    by_test : (t : Bool) → some_of (seals g) (cond t (CutBack ∷ []) [] ++ Append (Rec.Start (epoch home past + 1)) ∷ Sync ∷ []) ≡ true → IsSealing home g past Ev.Back
    by_test true s = cc
    by_test false s = cc

check_moves : (home : Home) (g : Tid) (past : SitePast) → Moves home g past Ev.Check (of_check home past)
unfolding of_check
check_moves home g past =
    moves_when home g past _ _ _ _ (λ t. plain_moves home g past _ _ refl)
    (λ t. record { heard = refl; move = Same refl; says = tt; sealing = λ s. cc; calm = λ p. refl })

-- what a site that is up answers
answered_moves : (home : Home) (g : Tid) (past : SitePast) (event : SiteEvent) → is_down past ≡ false → IsForeign g event → Moves home g past event (answered home past event)
unfolding answered
answered_moves home g past (Ev.Begin tid) up f = other_moves home g past _ tid _ (by-answered home g past (Ev.Begin tid) up).is (begin_about home past tid) f
answered_moves home g past (Ev.Act tid act) up f = other_moves home g past _ tid _ (by-answered home g past (Ev.Act tid act) up).is (act_about home past tid act) f
answered_moves home g past (Ev.Commit tid) up f = other_moves home g past _ tid _ (by-answered home g past (Ev.Commit tid) up).is (commit_about home past tid) f
answered_moves home g past (Ev.Abort tid) up f = other_moves home g past _ tid _ (by-answered home g past (Ev.Abort tid) up).is (abort_about home past tid) f
answered_moves home g past (Ev.Fate tx) up f = fate_moves home g past tx
answered_moves home g past (Ev.Give message) up f = give_moves home g past message up (by-answered home g past (Ev.Give message) up).is
answered_moves home g past (Ev.Ask tid) up f = ask_moves home g past tid
answered_moves home g past (Ev.Drop tid) up f =
    by-tid g tid (λ t. (answered home past (Ev.Drop t)).event ≡ Ev.Drop t → Moves home g past (Ev.Drop t) (answered home past (Ev.Drop t)))
    (λ k. drop_moves home g past) (λ other k. other_moves home g past _ tid _ k (drop_about home past tid) other) (by-answered home g past (Ev.Drop tid) up).is
answered_moves home g past (Ev.Halt cut) up f = plain_moves home g past _ _ refl
answered_moves home g past (Ev.Trip calls cut) up f = plain_moves home g past _ _ refl
answered_moves home g past Ev.Back up f = back_moves home g past
answered_moves home g past Ev.Check up f = check_moves home g past

pub seals-cut : (g : Tid) (k : ℕ) (calls : List (Call SiteRecord)) (cut : ℕ) → some_of (seals g) (take k calls ++ Stops cut ∷ []) ≡ true → some_of (seals g) calls ≡ true
seals-cut g zero calls cut e = cc
seals-cut g (suc k) [] cut e = cc
seals-cut g (suc k) (call ∷ calls) cut e = by_test (seals g call) e (seals-cut g k calls cut)
  where
    by_test : (t : Bool) → (t || some_of (seals g) (take k calls ++ Stops cut ∷ [])) ≡ true → (some_of (seals g) (take k calls ++ Stops cut ∷ []) ≡ true → some_of (seals g) calls ≡ true) → (t || some_of (seals g) calls) ≡ true
    by_test true e h = refl
    by_test false e h = h e

tripped_moves : (home : Home) (g : Tid) (past : SitePast) (event : SiteEvent) (t : Option Trip) (x : SiteHappening) → Moves home g past event x → Moves home g past event (tripped site_frame (disk home past) t x)
unfolding tripped stopped
tripped_moves home g past event None x m = m
tripped_moves home g past event (Some t) x m =
    moves_when home g past event _ _ _
    (λ c. record {
      heard = m.heard;
      move = Ending (record { none = restored-sealed _ g; shut = inr (inl refl) });
      says = tt;
      sealing = λ s. m.sealing (seals-cut g t.calls x.calls t.cut s);
      calm = λ p. cc;
    })
    (λ c. m)

unless_down : (home : Home) (g : Tid) (past : SitePast) (event : SiteEvent) → IsForeign g event → Moves home g past event (when (is_down past) (quiet event Say.Down) (tripped site_frame (disk home past) (trip past) (answered home past event)))
unless_down home g past event f =
    moves_when home g past event _ _ _ (λ down. plain_moves home g past event Say.Down refl)
    (λ up. tripped_moves home g past event (trip past) _ (answered_moves home g past event up f))

-- each line of a site
pub site_moves : (home : Home) (g : Tid) (past : SitePast) (event : SiteEvent) → IsForeign g event → Moves home g past event (site_line home past event)
unfolding site_line stopped
site_moves home g past (Ev.Begin tid) f = unless_down home g past (Ev.Begin tid) f
site_moves home g past (Ev.Act tid act) f = unless_down home g past (Ev.Act tid act) f
site_moves home g past (Ev.Commit tid) f = unless_down home g past (Ev.Commit tid) f
site_moves home g past (Ev.Abort tid) f = unless_down home g past (Ev.Abort tid) f
site_moves home g past (Ev.Fate tx) f = unless_down home g past (Ev.Fate tx) f
site_moves home g past (Ev.Give message) f = unless_down home g past (Ev.Give message) f
site_moves home g past (Ev.Ask tid) f = unless_down home g past (Ev.Ask tid) f
site_moves home g past (Ev.Drop tid) f = unless_down home g past (Ev.Drop tid) f
site_moves home g past (Ev.Trip calls cut) f = plain_moves home g past _ _ refl
site_moves home g past (Ev.Halt cut) f =
    moves_when home g past _ _ _ _ (λ down. plain_moves home g past _ _ refl)
    (λ up. record { heard = refl; move = Ending (record { none = restored-sealed _ g; shut = inr (inl refl) }); says = tt; sealing = λ s. cc; calm = λ p. cc })
site_moves home g past Ev.Back f =
    moves_when home g past _ _ _ _ (λ down. tripped_moves home g past Ev.Back (trip past) _ (back_moves home g past))
    (λ up. plain_moves home g past _ _ refl)
site_moves home g past Ev.Check f = unless_down home g past Ev.Check f
