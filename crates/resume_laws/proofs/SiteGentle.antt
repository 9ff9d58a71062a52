-- What a line of a site does in a session that has no transactions, where nothing stops it: who isn't in doubt stays so, an acknowledgement is sent of
-- what isn't in doubt any more, and what settles was in doubt and is given its decision.
use Rattle.std.proofs.Common.{◌≡◌, ℕ, ◌+◌, Bool, true, false, cond, is_some, Option, Some, None, List, [], ◌∷◌, ◌++◌, length, refl, sym, ap, subst, ◌∙◌, inl, inr}
use Rattle.mdb_base.specs.declared.names.Tid.{Tid}
use Rattle.mdb_base.specs.Names.{same_tid}
use Rattle.mdb_base.specs.Words.{when, given}
use Rattle.mdb_base.proofs.ForCallers.{same_tid-refl}
use Rattle.order_laws.specs.Chains.{In}
use Rattle.presumptions.specs.declared.Decision.{Decision}
use Rattle.presumptions.specs.Table.{forces, acks}
use Rattle.fed_rules.specs.declared.answers.Answer.{Answer}
use Rattle.fed_rules.specs.declared.answers.Answer.TheVariants as Say
use Rattle.fed_rules.specs.declared.events.SiteEvent.{SiteEvent}
use Rattle.fed_rules.specs.declared.events.SiteEvent.TheVariants as Ev
use Rattle.fed_rules.specs.declared.messages.FromSite.{FromSite}
use Rattle.fed_rules.specs.declared.messages.FromSite.TheVariants as From
use Rattle.fed_rules.specs.declared.messages.ToSite.{ToSite}
use Rattle.fed_rules.specs.declared.messages.ToSite.TheVariants as To
use Rattle.fed_rules.specs.declared.records.SiteRecord.TheVariants as Rec
use Rattle.fed_rules.specs.Disk.{Append, Sync, CutBack, TrimFront, after_calls, is_torn}
use Rattle.fed_rules.specs.Happenings.{quiet, is_down, stops, set, used, tripped}
use Rattle.fed_rules.specs.Runs.{EngineLine, Aborts}
use Rattle.fed_rules.specs.Site.{answered, checkpoint, of_ask, of_back, of_check, of_decide, of_drop, of_give, settles, site_line, unheld, with_lines}
use Rattle.fed_rules.specs.SitePast.{SiteHappening, SitePast, disk, epoch, is_local, live, records, trip, trip_of}
use Rattle.fed_rules.specs.SiteRecords.{Held, Home, doubt_of, site_frame}
use Rattle.found_laws.specs.Resuming.{IsResuming}
use Rattle.found_laws.proofs.ForCallers.{IsDecide}

-- an event that comes to a site of such a session
abbrev pub IsGentleEvent : SiteEvent → Type 0
IsGentleEvent (Ev.Give message) = IsDecide message
IsGentleEvent (Ev.Trip calls cut) = calls ≡ 0
IsGentleEvent (Ev.Ask tid) = Unit {0}
IsGentleEvent (Ev.Drop tid) = Unit {0}
IsGentleEvent Ev.Back = Unit {0}
IsGentleEvent Ev.Check = Unit {0}
IsGentleEvent event = ⊥

pub gentle_resumes : (event : SiteEvent) → IsGentleEvent event → IsResuming event
gentle_resumes (Ev.Give (To.Decide tid decision)) i = tt
gentle_resumes (Ev.Give (To.Work tid e n act)) i = absurd i
gentle_resumes (Ev.Give (To.Take tid e n)) i = absurd i
gentle_resumes (Ev.Give (To.Prepare tid e n)) i = absurd i
gentle_resumes (Ev.Trip calls cut) i = tt
gentle_resumes (Ev.Ask tid) i = tt
gentle_resumes (Ev.Drop tid) i = tt
gentle_resumes Ev.Back i = tt
gentle_resumes Ev.Check i = tt
gentle_resumes (Ev.Halt cut) i = absurd i
gentle_resumes (Ev.Begin tid) i = absurd i
gentle_resumes (Ev.Act tid act) i = absurd i
gentle_resumes (Ev.Commit tid) i = absurd i
gentle_resumes (Ev.Abort tid) i = absurd i
gentle_resumes (Ev.Fate tx) i = absurd i

-- what such a line does
pub record Gentle (home : Home) (here : SitePast) (event : SiteEvent) (x : SiteHappening) : Type 0 where
  pub untripped : trip (x ∷ here) ≡ None
  pub free : (g : Tid) → doubt_of (records home here) g ≡ None → doubt_of (records home (x ∷ here)) g ≡ None
  pub acked : (g : Tid) → In (From.Ack g) x.sends → doubt_of (records home (x ∷ here)) g ≡ None
  pub settled : (g : Tid) (d : Decision) → x.answer ≡ Say.Settles g d → (event ≡ Ev.Give (To.Decide g d)) × (is_some (doubt_of (records home here) g) ≡ true)

-- a line that arms nothing, where nothing was armed
untripped_next : (here : SitePast) (x : SiteHappening) → trip here ≡ None → trip_of x.event ≡ None → trip (x ∷ here) ≡ None
untripped_next here x none plain = by_stop (stops x.answer)
  where
    by_stop : (s : Bool) → cond s None (set (trip_of x.event) (used (length x.calls) (trip here))) ≡ None
    by_stop true = refl
    by_stop false = ap (λ t. set t (used (length x.calls) (trip here))) plain ∙ ap (λ t. used (length x.calls) t) none

is_settling : Answer → Bool
is_settling (Say.Settles tid decision) = true
is_settling answer = false

not_settling : (answer : Answer) (g : Tid) (d : Decision) → is_settling answer ≡ false → answer ≡ Say.Settles g d → ⊥
unfolding is_settling
not_settling answer g d calm e = let clash : true ≡ false = sym (ap is_settling e) ∙ calm in cc

-- a line that keeps the records, but for some at the end that tell of no attempt, acknowledges nothing and settles nothing
plain_gentle : (home : Home) (here : SitePast) (x : SiteHappening) → trip here ≡ None → trip_of x.event ≡ None → is_settling x.answer ≡ false
    → ((g : Tid) → In (From.Ack g) x.sends → ⊥) → ((g : Tid) → doubt_of (records home (x ∷ here)) g ≡ doubt_of (records home here) g)
    → Gentle home here x.event x
plain_gentle home here x none plain quiet_answer silent same = record {
  untripped = untripped_next here x none plain;
  free = λ g e. same g ∙ e;
  acked = λ g i. absurd (silent g i);
  settled = λ g d e. absurd (not_settling x.answer g d quiet_answer e);
}

quiet_gentle : (home : Home) (here : SitePast) (event : SiteEvent) (answer : Answer) → trip here ≡ None → trip_of event ≡ None → is_settling answer ≡ false
    → Gentle home here event (quiet event answer)
quiet_gentle home here event answer none plain calm = plain_gentle home here (quiet event answer) none plain calm (λ g i. i) (λ g. refl)

-- branches of a rule
gentle_when : (home : Home) (here : SitePast) (event : SiteEvent) (t : Bool) (a b : SiteHappening) → Gentle home here event a → Gentle home here event b
    → Gentle home here event (when t a b)
unfolding when
gentle_when home here event true a b p q = p
gentle_when home here event false a b p q = q

gentle_given : {A : Type 0} (home : Home) (here : SitePast) (event : SiteEvent) (o : Option A) (none : SiteHappening) (some : A → SiteHappening)
    → (o ≡ None → Gentle home here event none) → ((a : A) → o ≡ Some a → Gentle home here event (some a)) → Gentle home here event (given o some none)
unfolding given
gentle_given home here event None none some p q = p refl
gentle_given home here event (Some a) none some p q = q a refl

-- the records behind an Ended record, forced or not
ended_records : (home : Home) (here : SitePast) (tid : Tid) (decision : Decision) (t : Bool)
    → (after_calls site_frame (disk home here) (Append (Rec.Ended tid decision) ∷ cond t (Sync ∷ []) [])).records ≡ Rec.Ended tid decision ∷ records home here
ended_records home here tid decision true = refl
ended_records home here tid decision false = refl

-- who acknowledges what
acks_only : (t : Bool) (tid g : Tid) → In (From.Ack g) (cond t (From.Ack tid ∷ []) []) → tid ≡ g
acks_only true tid g (inl e) = ap tid_in e
  where
    tid_in : FromSite → Tid
    tid_in (From.Ack acked) = acked
    tid_in message = tid
acks_only true tid g (inr i) = absurd i
acks_only false tid g i = absurd i

settles_gentle : (home : Home) (here : SitePast) (tid : Tid) (decision : Decision) (held : Held) → trip here ≡ None → doubt_of (records home here) tid ≡ Some held
    → Gentle home here (Ev.Give (To.Decide tid decision)) (settles home tid decision)
unfolding settles
settles_gentle home here tid decision held none doubt = record {
  untripped = untripped_next here (settles home tid decision) none refl;
  free = λ g e. behind g ∙ both (same_tid tid g) (doubt_of (records home here) g) e;
  acked = λ g i. let same : tid ≡ g = acks_only (acks home.protocol decision) tid g i in
      behind g ∙ ap (λ b. cond b None (doubt_of (records home here) g)) (ap (λ t. same_tid t g) same ∙ same_tid-refl g);
  settled = λ g d e. (
    ap (λ a. Ev.Give (decide_in a)) e,
    subst (λ t. is_some (doubt_of (records home here) t) ≡ true) (ap tid_in e) (ap is_some doubt),
  );
}
  where
    behind : (g : Tid) → doubt_of (records home (settles home tid decision ∷ here)) g ≡ cond (same_tid tid g) None (doubt_of (records home here) g)
    behind g = ap (λ rs. doubt_of rs g) (ended_records home here tid decision (forces home.protocol decision))

    both : (b : Bool) (o : Option Held) → o ≡ None → cond b None o ≡ None
    both true o e = refl
    both false o e = e

    decide_in : Answer → ToSite
    decide_in (Say.Settles t d) = To.Decide t d
    decide_in answer = To.Decide tid decision

    tid_in : Answer → Tid
    tid_in (Say.Settles t d) = t
    tid_in answer = tid

unheld_gentle : (home : Home) (here : SitePast) (tid : Tid) (decision : Decision) (lines : List EngineLine) → trip here ≡ None → doubt_of (records home here) tid ≡ None
    → Gentle home here (Ev.Give (To.Decide tid decision)) (unheld home tid decision lines)
unfolding unheld is_settling
unheld_gentle home here tid decision lines none free = record {
  untripped = untripped_next here (unheld home tid decision lines) none refl;
  free = λ g e. e;
  acked = λ g i. subst (λ t. doubt_of (records home here) t ≡ None) (acks_only (acks home.protocol decision) tid g i) free;
  settled = λ g d e. absurd (not_settling (Say.Unheld tid) g d refl e);
}

decide_gentle : (home : Home) (here : SitePast) (tid : Tid) (decision : Decision) → trip here ≡ None
    → Gentle home here (Ev.Give (To.Decide tid decision)) (of_decide home here tid decision)
unfolding of_decide
decide_gentle home here tid decision none =
    gentle_given home here (Ev.Give (To.Decide tid decision)) (doubt_of (records home here) tid) _ _
    (λ free. gentle_given home here (Ev.Give (To.Decide tid decision)) (live home here tid) _ _ (λ e. unheld_gentle home here tid decision [] none free) (λ run e. unheld_gentle home here tid decision (Aborts tid ∷ []) none free))
    (λ held e. settles_gentle home here tid decision held none e)

ask_gentle : (home : Home) (here : SitePast) (tid : Tid) → trip here ≡ None → Gentle home here (Ev.Ask tid) (of_ask home here tid)
unfolding of_ask is_settling
ask_gentle home here tid none =
    gentle_given home here (Ev.Ask tid) (doubt_of (records home here) tid) _ _ (λ e. quiet_gentle home here (Ev.Ask tid) Say.Idle none refl refl)
    (λ held e. plain_gentle home here (record { event = Ev.Ask tid; answer = Say.Asks tid; sends = From.Inquiry tid ∷ []; calls = []; lines = [] }) none refl refl silent (λ g. refl))
  where
    silent : (g : Tid) → In (From.Ack g) (From.Inquiry tid ∷ []) → ⊥
    silent g (inl e) = cc
    silent g (inr i) = i

drop_gentle : (home : Home) (here : SitePast) (tid : Tid) → trip here ≡ None → Gentle home here (Ev.Drop tid) (of_drop home here tid)
unfolding of_drop is_settling
drop_gentle home here tid none =
    gentle_when home here (Ev.Drop tid) (is_local here tid) _ _ (quiet_gentle home here (Ev.Drop tid) Say.Idle none refl refl)
    (gentle_given home here (Ev.Drop tid) (live home here tid) _ _ (λ e. quiet_gentle home here (Ev.Drop tid) Say.Idle none refl refl)
    (λ run e. plain_gentle home here (with_lines (Ev.Drop tid) (Say.Dropped tid) (Aborts tid ∷ [])) none refl refl (λ g i. i) (λ g. refl)))

back_gentle : (home : Home) (here : SitePast) → trip here ≡ None → Gentle home here Ev.Back (of_back home here)
unfolding of_back is_settling
back_gentle home here none =
    plain_gentle home here (of_back home here) none refl refl (λ g i. i) (λ g. ap (λ rs. doubt_of rs g) (started (is_torn site_frame (disk home here))))
  where
    started : (t : Bool) → (after_calls site_frame (disk home here) (cond t (CutBack ∷ []) [] ++ Append (Rec.Start (epoch home here + 1)) ∷ Sync ∷ [])).records
        ≡ Rec.Start (epoch home here + 1) ∷ records home here
    started true = refl
    started false = refl

check_gentle : (home : Home) (here : SitePast) → trip here ≡ None → Gentle home here Ev.Check (of_check home here)
unfolding of_check is_settling
check_gentle home here none =
    gentle_when home here Ev.Check _ _ _ (quiet_gentle home here Ev.Check Say.Large none refl refl)
    (plain_gentle home here (record { event = Ev.Check; answer = Say.Checked; sends = []; calls = Append (checkpoint home here) ∷ Sync ∷ TrimFront ∷ []; lines = [] }) none refl refl (λ g i. i) (λ g. refl))

-- a line that no trip ends, of a site that is up or down
unstopped : (home : Home) (here : SitePast) (event : SiteEvent) (y : SiteHappening) → trip here ≡ None → Gentle home here event y
    → Gentle home here event (tripped site_frame (disk home here) (trip here) y)
unfolding tripped
unstopped home here event y none p = subst (λ t. Gentle home here event (tripped site_frame (disk home here) t y)) (sym none) p

while_up : (home : Home) (here : SitePast) (event : SiteEvent) (y : SiteHappening) → trip here ≡ None → trip_of event ≡ None → Gentle home here event y
    → Gentle home here event (when (is_down here) (quiet event Say.Down) (tripped site_frame (disk home here) (trip here) y))
unfolding is_settling
while_up home here event y none plain p =
    gentle_when home here event (is_down here) _ _ (quiet_gentle home here event Say.Down none plain refl) (unstopped home here event y none p)

disarming : (home : Home) (here : SitePast) (calls cut : ℕ) → calls ≡ 0 → Gentle home here (Ev.Trip calls cut) (quiet (Ev.Trip calls cut) Say.Set)
unfolding is_settling
disarming home here calls cut zero_is = record {
  untripped = ap (λ (n : ℕ). set (Some (record { calls = n; cut = cut })) (used 0 (trip here))) zero_is;
  free = λ g e. e;
  acked = λ g i. absurd i;
  settled = λ g d e. absurd (not_settling Say.Set g d refl e);
}

-- each such line
pub gentle_line : (home : Home) (here : SitePast) (event : SiteEvent) → trip here ≡ None → IsGentleEvent event → Gentle home here event (site_line home here event)
unfolding site_line answered of_give is_settling
gentle_line home here (Ev.Give (To.Decide tid decision)) none i = while_up home here (Ev.Give (To.Decide tid decision)) (of_decide home here tid decision) none refl (decide_gentle home here tid decision none)
gentle_line home here (Ev.Give (To.Work tid e n act)) none i = absurd i
gentle_line home here (Ev.Give (To.Take tid e n)) none i = absurd i
gentle_line home here (Ev.Give (To.Prepare tid e n)) none i = absurd i
gentle_line home here (Ev.Trip calls cut) none i = disarming home here calls cut i
gentle_line home here (Ev.Ask tid) none i = while_up home here (Ev.Ask tid) (of_ask home here tid) none refl (ask_gentle home here tid none)
gentle_line home here (Ev.Drop tid) none i = while_up home here (Ev.Drop tid) (of_drop home here tid) none refl (drop_gentle home here tid none)
gentle_line home here Ev.Back none i =
    gentle_when home here Ev.Back (is_down here) _ _ (unstopped home here Ev.Back (of_back home here) none (back_gentle home here none)) (quiet_gentle home here Ev.Back Say.Awake none refl refl)
gentle_line home here Ev.Check none i = while_up home here Ev.Check (of_check home here) none refl (check_gentle home here none)
gentle_line home here (Ev.Begin tid) none i = absurd i
gentle_line home here (Ev.Act tid act) none i = absurd i
gentle_line home here (Ev.Commit tid) none i = absurd i
gentle_line home here (Ev.Abort tid) none i = absurd i
gentle_line home here (Ev.Fate tx) none i = absurd i
gentle_line home here (Ev.Halt cut) none i = absurd i
