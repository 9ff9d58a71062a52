-- Decisions and restarts at a site, and then each event: the facts on one attempt hold of every line that no stop ends.
use Rattle.std.proofs.Common.{◌≡◌, ◌+◌, ◌<◌, inl, inr, Bool, true, false, cond, ◌||◌, is_some, Option, Some, None, List, [], ◌∷◌, ◌++◌, refl, sym, ap, subst, ◌∙◌, arith}
use Rattle.mdb_base.specs.declared.names.Tid.{Tid}
use Rattle.mdb_base.specs.Names.{same_tid}
use Rattle.mdb_base.specs.Words.{Each, Among, some_of}
use Rattle.presumptions.specs.declared.Decision.{Decision}
use Rattle.presumptions.specs.declared.Decision.TheVariants as Decided
use Rattle.presumptions.specs.declared.Protocol.{Protocol}
use Rattle.presumptions.specs.Table.{forces, acks}
use Rattle.fed_rules.specs.declared.answers.Answer.TheVariants as Say
use Rattle.fed_rules.specs.declared.events.SiteEvent.{SiteEvent}
use Rattle.fed_rules.specs.declared.events.SiteEvent.TheVariants as Ev
use Rattle.fed_rules.specs.declared.messages.FromSite.TheVariants as From
use Rattle.fed_rules.specs.declared.messages.ToSite.{ToSite}
use Rattle.fed_rules.specs.declared.messages.ToSite.TheVariants as To
use Rattle.fed_rules.specs.declared.records.SiteRecord.{SiteRecord}
use Rattle.fed_rules.specs.declared.records.SiteRecord.TheVariants as Rec
use Rattle.fed_rules.specs.Disk.{Append, Sync, CutBack, after_calls, is_torn, longest, TrimFront}
use Rattle.fed_rules.specs.Happenings.{is_down}
use Rattle.fed_rules.specs.Runs.{EngineLine, Aborts, Run, changed, run_at, tid_of}
use Rattle.fed_rules.specs.Site.{settling_line, settles, unheld, of_decide, of_give, of_back, answered, of_check, checkpoint}
use Rattle.fed_rules.specs.SitePast.{SiteHappening, SitePast, records, epoch, epoch_start, engine_lines, live, live_one, ends, is_closed, disk}
use Rattle.fed_rules.specs.SiteRecords.{Home, Held, site_frame, epoch_of, doubt_of, site_payload}
use Rattle.commit_laws.specs.Records.{IsEnded, IsLooseEnded}
use Rattle.commit_laws.specs.Seals.{appends_prepared}
use Rattle.commit_laws.proofs.SiteFacts.{WroteOne, IsSettling, IsAcking, Says, Shut, Step}
use Rattle.commit_laws.proofs.SiteShut.{other-line, this-line, shut-on, restored-sealed}
use Rattle.fed_rules.proofs.ForCallers.{IsQuiet, appended}
use Rattle.commit_laws.proofs.SiteRules.{step-given, quietly, by-begin, by-act, by-commit, by-abort, by-fate, by-drop, by-ask, step-when}
use Rattle.commit_laws.proofs.SiteWork.{by-work, by-take, by-prepare}
use Rattle.order_laws.proofs.ForCallers.{of_same}
use Rattle.std.specs.Prelude.{nat_lt}

pub settling-tid : (tid : Tid) (d : Decision) → tid_of (settling_line tid d) ≡ tid
settling-tid tid Decided.Commit = refl
settling-tid tid Decided.Abort = refl

pub settling-ends : (tid : Tid) (d : Decision) (old : Option Run) → changed (settling_line tid d) old ≡ None
settling-ends tid Decided.Commit old = refl
settling-ends tid Decided.Abort old = refl

-- a line that settles appends the Ended record
pub settles-records : (home : Home) (past : SitePast) (tid : Tid) (d : Decision)
    → records home (settles home tid d ∷ past) ≡ Rec.Ended tid d ∷ records home past
unfolding settles
settles-records home past tid d = by_test (forces home.protocol d) where
  by_test : (b : Bool)
      → (after_calls site_frame (disk home past)
      (Append (Rec.Ended tid d) ∷ cond b (Sync ∷ []) [])).records ≡ Rec.Ended tid d ∷ records home past
  by_test true = refl
  by_test false = refl

ended-quiet : (p : Protocol) (tid : Tid) (d : Decision)
    → IsQuiet (IsLooseEnded p) false (Append (Rec.Ended tid d) ∷ cond (forces p d) (Sync ∷ []) [])
ended-quiet p tid d = by_test (forces p d) refl where
  by_test : (b : Bool) → forces p d ≡ b → IsQuiet (IsLooseEnded p) false (Append (Rec.Ended tid d) ∷ cond b (Sync ∷ []) [])
  by_test true e = inr tt
  by_test false e = inl (e, tt)

ended-appended : (b : Bool) (tid : Tid) (d : Decision)
    → appended (Append (Rec.Ended tid d) ∷ cond b (Sync ∷ []) []) [] ≡ Rec.Ended tid d ∷ []
ended-appended true tid d = refl
ended-appended false tid d = refl

ended-seals : (g tid : Tid) (d : Decision) (b : Bool)
    → some_of (appends_prepared g) (Append (Rec.Ended tid d) ∷ cond b (Sync ∷ []) []) ≡ true → ⊥
ended-seals g tid d true e = cc
ended-seals g tid d false e = cc

-- an acknowledgement is sent where the protocol has one
ack-says : (home : Home) (g : Tid) (past : SitePast) (y : SiteHappening) (tid : Tid) (d : Decision)
    → (acks home.protocol d ≡ true → same_tid tid g ≡ true → IsAcking home g past y)
    → Each (Says home g past y) (cond (acks home.protocol d) (From.Ack tid ∷ []) [])
ack-says home g past y tid d k = by_test (acks home.protocol d) refl where
  by_test : (b : Bool) → acks home.protocol d ≡ b → Each (Says home g past y) (cond b (From.Ack tid ∷ []) [])
  by_test true e = (k e, tt)
  by_test false e = tt

drop-both : (a b c d : Bool) → a ≡ false → b ≡ false → ((a || b || c) || d) ≡ true → (c || d) ≡ true
drop-both true b c d e f h = cc
drop-both false true c d e f h = cc
drop-both false false c d e f h = h

by-settles : (home : Home) (g : Tid) (past : SitePast) (tid : Tid) (d : Decision) (held : Held) → is_down past ≡ false
    → doubt_of (records home past) tid ≡ Some held → Step home g past (Ev.Give (To.Decide tid d)) (settles home tid d)
unfolding settles
by-settles home g past tid d held up doubt = record {
  is = refl;
  quiet = ended-quiet home.protocol tid d;
  wrote = subst (WroteOne home g past (Ev.Give (To.Decide tid d))) (sym (ended-appended (forces home.protocol d) tid d)) settling;
  says = ack-says home g past y tid d (λ a q. of_same (λ u. IsAcking home u past y) tid g (acking a) q);
  shut = (λ nb s. shut-on home g past y refl refl up (by_test (same_tid tid g) refl s));
  settled = settling;
  seals = (λ i. absurd (ended-seals g tid d (forces home.protocol d) i));
  rises = (λ i. cc);
} where
  y : SiteHappening
  y = settles home tid d

  line : EngineLine
  line = settling_line tid d

  settling : same_tid tid g ≡ true → IsSettling home g past (Ev.Give (To.Decide tid d)) d
  settling q = of_same (λ u. IsSettling home u past (Ev.Give (To.Decide tid d)) d) tid g
      (record { taken = refl; held = held; doubt = doubt }) q

  acking : acks home.protocol d ≡ true → IsAcking home tid past (settles home tid d)
  acking a = record {
    decision = d;
    taken = refl;
    acks = a;
    after = inl (subst (Among (IsEnded tid d)) (sym (settles-records home past tid d)) (inl (refl, refl)));
  }

  by_test : (q : Bool) → same_tid tid g ≡ q → Shut home g past
      → ((same_tid tid g || some_of (ends g) (settling_line tid d ∷ []) || is_closed past g) || is_some
      (doubt_of (records home (settles home tid d ∷ past)) g)) ≡ true
      → live_one (run_at (epoch_start home past) (settling_line tid d ∷ engine_lines past) g) ≡ None
  by_test true q s h = ap live_one (this-line (epoch_start home past) (engine_lines past) g (settling_line tid d)
      (ap (λ t. same_tid t g) (settling-tid tid d) ∙ q) ∙ settling-ends tid d (run_at (epoch_start home past) (engine_lines past) g))
  by_test false q s h =
      let other = other-line (epoch_start home past) (engine_lines past) g (settling_line tid d)
      (ap (λ t. same_tid t g) (settling-tid tid d) ∙ q) in
      let same : doubt_of (records home (settles home tid d ∷ past)) g ≡ doubt_of (records home past) g = ap (λ rs. doubt_of rs g)
      (settles-records home past tid d) ∙ ap (λ b. cond b None (doubt_of (records home past) g)) q in
      ap live_one other.0
      ∙ s.over (drop-both (same_tid tid g) (some_of (ends g) (settling_line tid d ∷ [])) (is_closed past g)
      (is_some (doubt_of (records home past) g)) q other.1
      (subst (λ o. ((same_tid tid g || some_of (ends g) (settling_line tid d ∷ []) || is_closed past g) || is_some o) ≡ true) same h))

-- a decision on an attempt that isn't in doubt
by-unheld : (home : Home) (g : Tid) (past : SitePast) (tid : Tid) (d : Decision) (lines : List EngineLine) → is_down past ≡ false
    → doubt_of (records home past) tid ≡ None
    → (same_tid tid g ≡ true → live_one (run_at (epoch_start home past) (lines ++ engine_lines past) g) ≡ None)
    → (same_tid tid g ≡ false →
    (run_at (epoch_start home past) (lines ++ engine_lines past) g ≡ run_at (epoch_start home past) (engine_lines past) g) ×
    (some_of (ends g) lines ≡ false))
    → Step home g past (Ev.Give (To.Decide tid d)) (unheld home tid d lines)
unfolding unheld
by-unheld home g past tid d lines up free here other = record {
  is = refl;
  quiet = tt;
  wrote = tt;
  says = ack-says home g past (unheld home tid d lines) tid d (λ a q. of_same
      (λ u. IsAcking home u past (unheld home tid d lines)) tid g
      (record { decision = d; taken = refl; acks = a; after = inr (refl, free) }) q);
  shut = (λ nb s. shut-on home g past (unheld home tid d lines) refl refl up (by_test (same_tid tid g) refl s));
  settled = tt;
  seals = (λ i. cc);
  rises = (λ i. cc);
} where
  by_test : (q : Bool) → same_tid tid g ≡ q → Shut home g past
      → ((same_tid tid g || some_of (ends g) lines || is_closed past g) || is_some (doubt_of (records home past) g)) ≡ true
      → live_one (run_at (epoch_start home past) (lines ++ engine_lines past) g) ≡ None
  by_test true q s h = here q
  by_test false q s h =
      let both = other q in
      ap live_one both.0 ∙ s.over
      (drop-both (same_tid tid g) (some_of (ends g) lines) (is_closed past g) (is_some (doubt_of (records home past) g)) q both.1 h)

by-decide : (home : Home) (g : Tid) (past : SitePast) (tid : Tid) (d : Decision) → is_down past ≡ false
    → Step home g past (Ev.Give (To.Decide tid d)) (of_decide home past tid d)
unfolding of_decide
by-decide home g past tid d up =
    step-given home g past (Ev.Give (To.Decide tid d)) _ _ _
    (λ free. step-given home g past (Ev.Give (To.Decide tid d)) _ _ _
    (λ dead. by-unheld home g past tid d [] up free (λ q. of_same (λ u. live home past u ≡ None) tid g dead q) (λ q. (refl, refl)))
    (λ run alive. by-unheld home g past tid d (Aborts tid ∷ []) up free
    (λ q. ap live_one (this-line (epoch_start home past) (engine_lines past) g (Aborts tid) q))
    (λ q. other-line (epoch_start home past) (engine_lines past) g (Aborts tid) q)))
    (λ held doubt. by-settles home g past tid d held up doubt)

-- a restart: all unended runs are sealed ones
pub by-back : (home : Home) (g : Tid) (past : SitePast) → Step home g past Ev.Back (of_back home past)
unfolding of_back
by-back home g past = record {
  is = refl;
  quiet = quiet_calls (is_torn site_frame (disk home past));
  wrote = wrote_start (is_torn site_frame (disk home past));
  says = tt;
  shut = (λ nb s. record { down = (λ e. restored-sealed _ g); over = (λ e. restored-sealed _ g) });
  settled = tt;
  seals = (λ i. absurd (start-seals (is_torn site_frame (disk home past)) i));
  rises = (λ i. rises (is_torn site_frame (disk home past)));
} where
  start : SiteRecord
  start = Rec.Start (epoch home past + 1)

  start-seals : (b : Bool)
      → some_of (appends_prepared g) (cond b (CutBack ∷ []) [] ++ Append (Rec.Start (epoch home past + 1)) ∷ Sync ∷ []) ≡ true → ⊥
  start-seals true e = cc
  start-seals false e = cc

  quiet_calls : (b : Bool) → IsQuiet (IsLooseEnded home.protocol) false (cond b (CutBack ∷ []) [] ++ Append start ∷ Sync ∷ [])
  quiet_calls true = inr tt
  quiet_calls false = inr tt

  wrote_start : (b : Bool)
      → WroteOne home g past Ev.Back (appended (cond b (CutBack ∷ []) [] ++ Append (Rec.Start (epoch home past + 1)) ∷ Sync ∷ []) [])
  wrote_start true = refl
  wrote_start false = refl

  rises : (b : Bool) → epoch home past < epoch_of (after_calls site_frame (disk home past) (cond b (CutBack ∷ []) [] ++ Append (Rec.Start (epoch home past + 1)) ∷ Sync ∷ [])).records
  rises true = omega arith
  rises false = omega arith

by-give : (home : Home) (g : Tid) (past : SitePast) (message : ToSite) → is_down past ≡ false
    → Step home g past (Ev.Give message) (of_give home past message)
unfolding of_give
by-give home g past (To.Work tid e n act) up = by-work home g past tid e n act up
by-give home g past (To.Take tid e n) up = by-take home g past tid e n up
by-give home g past (To.Prepare tid e n) up = by-prepare home g past tid e n up
by-give home g past (To.Decide tid d) up = by-decide home g past tid d up

-- a Checkpoint
by-check : (home : Home) (g : Tid) (past : SitePast) → is_down past ≡ false → Step home g past Ev.Check (of_check home past)
unfolding of_check
by-check home g past up =
    step-when home g past Ev.Check (nat_lt longest (site_payload (checkpoint home past))) _ sums
    (λ b. quietly home g past Ev.Check Say.Large up tt tt) (λ b. by_sum)
  where
    sums : SiteHappening
    sums = record { event = Ev.Check; answer = Say.Checked; sends = []; calls = Append (checkpoint home past) ∷ Sync ∷ TrimFront ∷ []; lines = [] }

    by_sum : Step home g past Ev.Check sums
    by_sum = record {
      is = refl;
      quiet = inr tt;
      wrote = tt;
      says = tt;
      shut = (λ nb s. shut-on home g past sums refl refl up (λ h. s.over h));
      settled = tt;
      seals = (λ e. cc);
      rises = (λ e. cc);
    }

-- what a site that is up answers
pub by-answered : (home : Home) (g : Tid) (past : SitePast) (event : SiteEvent) → is_down past ≡ false
    → Step home g past event (answered home past event)
unfolding answered
by-answered home g past (Ev.Begin tid) up = by-begin home g past tid up
by-answered home g past (Ev.Act tid act) up = by-act home g past tid act up
by-answered home g past (Ev.Commit tid) up = by-commit home g past tid up
by-answered home g past (Ev.Abort tid) up = by-abort home g past tid up
by-answered home g past (Ev.Fate tx) up = by-fate home g past tx up
by-answered home g past (Ev.Give message) up = by-give home g past message up
by-answered home g past (Ev.Ask tid) up = by-ask home g past tid up
by-answered home g past (Ev.Drop tid) up = by-drop home g past tid up
by-answered home g past (Ev.Halt cut) up = quietly home g past (Ev.Halt cut) Say.Down up tt tt
by-answered home g past (Ev.Trip calls cut) up = quietly home g past (Ev.Trip calls cut) Say.Set up tt tt
by-answered home g past Ev.Back up = by-back home g past
by-answered home g past Ev.Check up = by-check home g past up
