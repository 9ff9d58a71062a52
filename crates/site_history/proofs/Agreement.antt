-- What is known of a site's past, what a good next line of it is, and that the past with such a line is again so.
use Rattle.std.proofs.Common.{◌≡◌, ℕ, Bool, true, false, cond, ◌||◌, Option, Some, None, List, [], ◌∷◌, ◌++◌, take, refl, sym, ap, ◌∙◌, subst}
use Rattle.std.specs.Prelude.{is_some, nat_le, length}
use Rattle.mdb_base.specs.declared.names.Tid.{Tid}
use Rattle.mdb_base.specs.declared.acts.PlainAct.{PlainAct}
use Rattle.mdb_base.specs.declared.acts.PlainAct.TheVariants.{Read, Write}
use Rattle.mdb_base.specs.declared.replies.Reply.{Reply}
use Rattle.mdb_base.specs.declared.replies.Reply.TheVariants as Reply_is
use Rattle.mdb_base.specs.Names.{same_tid}
use Rattle.mdb_base.specs.Words.{Each, when, given}
use Rattle.mdb_base.proofs.ForCallers.{same_tid-equal}
use Rattle.fed_rules.specs.declared.answers.Answer.{Answer}
use Rattle.fed_rules.specs.declared.events.SiteEvent.{SiteEvent}
use Rattle.fed_rules.specs.declared.messages.FromSite.{FromSite}
use Rattle.fed_rules.specs.declared.records.SiteRecord.{SiteRecord}
use Rattle.fed_rules.specs.Disk.{Call, Stops, Append, Sync, TrimFront}
use Rattle.fed_rules.specs.Happenings.{Trip, stops, comes_up, stopped, tripped}
use Rattle.fed_rules.specs.Runs.{Start, EngineLine, Run, tid_of, changed, run_at, acted, took}
use Rattle.fed_rules.specs.EngineLines.{IsRight, IsRightLine, IsLive}
use Rattle.fed_rules.specs.SitePast.{SiteHappening, SitePast, disk, records, epoch_start, engine_lines, run_of, live, live_one}
use Rattle.fed_rules.specs.SiteRecords.{Home, Held, site_frame, doubt_of, start_of}
use Rattle.site_history.specs.Lines.{Agrees}
use Rattle.site_history.proofs.Starts.{HasRisingWrites, EachAppend, each_after, append_take, start_agrees}
use Rattle.fed_rules.specs.declared.sums.SiteSum.{SiteSum}
use Rattle.fed_rules.specs.declared.records.SiteRecord.TheVariants as Rec

-- the engine lines of the past are right, and its sealed runs are those in doubt
pub record IsKept (home : Home) (past : SitePast) : Type 0 where
  pub kind : (epoch_start home past).kind ≡ home.engine
  pub right : IsRight (epoch_start home past) (engine_lines past)
  pub agrees : (tid : Tid) → Agrees (doubt_of (records home past) tid) (run_of home past tid)
  pub rising : Each HasRisingWrites (records home past)

-- a next line that neither stops the site nor brings it up, with right engine lines, after which the sealed runs are those in doubt
pub record IsGoodLine (home : Home) (past : SitePast) (x : SiteHappening) : Type 0 where
  pub plain : (stops x.answer || comes_up x.answer) ≡ false
  pub right : IsRight (epoch_start home past) (x.lines ++ engine_lines past)
  pub agrees : (tid : Tid) → Agrees (doubt_of (records home (x ∷ past)) tid) (run_at (epoch_start home past) (x.lines ++ engine_lines past) tid)
  pub appends : EachAppend HasRisingWrites x.calls

-- after a good line
pub kept_good : (home : Home) (past : SitePast) (x : SiteHappening) → IsKept home past → IsGoodLine home past x → IsKept home (x ∷ past)
kept_good home past x k g =
    let new = start_of home (records home (x ∷ past)) in
    let old = epoch_start home past in
    let lines = x.lines ++ engine_lines past in
    record {
      kind = subst (λ t. (cond t new old).kind ≡ home.engine) (sym g.plain) k.kind;
      right = subst (λ t. IsRight (cond t new old) (cond t [] lines)) (sym g.plain) g.right;
      agrees = λ tid. subst (λ t. Agrees (doubt_of (records home (x ∷ past)) tid) (run_at (cond t new old) (cond t [] lines) tid))
          (sym g.plain) (g.agrees tid);
      rising = each_after site_frame HasRisingWrites (disk home past) x.calls k.rising g.appends;
    }

-- after a stop, or where the site comes up
pub kept_start : (home : Home) (past : SitePast) (x : SiteHappening) → (stops x.answer || comes_up x.answer) ≡ true
    → Each HasRisingWrites (records home (x ∷ past)) → IsKept home (x ∷ past)
kept_start home past x begins rising =
    let new = start_of home (records home (x ∷ past)) in
    let old = epoch_start home past in
    let lines = x.lines ++ engine_lines past in
    record {
      kind = subst (λ t. (cond t new old).kind ≡ home.engine) (sym begins) refl;
      right = subst (λ t. IsRight (cond t new old) (cond t [] lines)) (sym begins) tt;
      agrees = λ tid. subst (λ t. Agrees (doubt_of (records home (x ∷ past)) tid) (run_at (cond t new old) (cond t [] lines) tid))
          (sym begins) (start_agrees home (records home (x ∷ past)) rising tid);
      rising = rising;
    }

pub kept_stopped : (home : Home) (past : SitePast) (event : SiteEvent) (calls : List (Call SiteRecord)) → IsKept home past
    → EachAppend HasRisingWrites calls → IsKept home (stopped site_frame (disk home past) event calls ∷ past)
unfolding stopped
kept_stopped home past event calls k a =
    kept_start home past (stopped site_frame (disk home past) event calls) refl
    (each_after site_frame HasRisingWrites (disk home past) calls k.rising a)

-- also where a trip may stop the line
pub kept_tripped : (home : Home) (past : SitePast) (o : Option Trip) (x : SiteHappening) → IsKept home past → IsKept home (x ∷ past)
    → EachAppend HasRisingWrites x.calls → IsKept home (tripped site_frame (disk home past) o x ∷ past)
unfolding tripped when
kept_tripped home past None x k whole a = whole
kept_tripped home past (Some t) x k whole a = by_test (nat_le t.calls (length x.calls))
  where
    torn : IsKept home (stopped site_frame (disk home past) x.event (take t.calls x.calls ++ Stops t.cut ∷ []) ∷ past)
    torn = kept_stopped home past x.event (take t.calls x.calls ++ Stops t.cut ∷ []) k
        (append_take HasRisingWrites t.calls x.calls (Stops t.cut ∷ []) a tt)

    by_test : (b : Bool)
        → IsKept home (when b (stopped site_frame (disk home past) x.event (take t.calls x.calls ++ Stops t.cut ∷ [])) x ∷ past)
    by_test true = torn
    by_test false = whole

-- the live run of an attempt
pub record IsLiveHere (home : Home) (past : SitePast) (tid : Tid) (run : Run) : Type 0 where
  pub live : IsLive (epoch_start home past) (engine_lines past) tid run
  pub doubt : doubt_of (records home past) tid ≡ None

pub live_is : (o : Option Run) (run : Run) → live_one o ≡ Some run → (o ≡ Some run) × (run.sealed ≡ None)
live_is None run e = cc
live_is (Some r) run e = by_sealed r.sealed refl e
  where
    by_sealed : (s : Option ℕ) → r.sealed ≡ s → cond (is_some s) None (Some r) ≡ Some run → (Some r ≡ Some run) × (run.sealed ≡ None)
    by_sealed None is e = let same : r ≡ run = cc in (e, ap (λ x. x.sealed) (sym same) ∙ is)
    by_sealed (Some n) is e = cc

no_doubt : (o : Option Held) (run : Run) → run.sealed ≡ None → Agrees o (Some run) → o ≡ None
no_doubt None run opened a = refl
no_doubt (Some held) run opened a = let clash = sym opened ∙ a.0 in cc

pub live_here : (home : Home) (past : SitePast) (tid : Tid) (run : Run) → IsKept home past → live home past tid ≡ Some run
    → IsLiveHere home past tid run
live_here home past tid run k e =
    let at = live_is (run_of home past tid) run e in
    record {
      live = at;
      doubt = no_doubt (doubt_of (records home past) tid) run at.1 (subst (Agrees (doubt_of (records home past) tid)) at.0 (k.agrees tid));
    }

-- who has neither a live run nor a record in doubt has no run
none_free : (o : Option Run) → live_one o ≡ None → Agrees None o → o ≡ None
none_free None e a = refl
none_free (Some r) e a =
    let shown : cond (is_some r.sealed) None (Some r) ≡ Some r = ap (λ s. cond (is_some s) None (Some r)) a in
    let clash = sym e ∙ shown in cc

pub free_here : (home : Home) (past : SitePast) (tid : Tid) → IsKept home past → live home past tid ≡ None
    → doubt_of (records home past) tid ≡ None → run_of home past tid ≡ None
free_here home past tid k e none =
    none_free (run_of home past tid) e (subst (λ o. Agrees o (run_of home past tid)) none (k.agrees tid))

-- what a line changes, where the records change for its attempt alone
pub agrees_line : (start : Start) (older : List EngineLine) (line : EngineLine) (was now : Tid → Option Held)
    → ((tid : Tid) → same_tid (tid_of line) tid ≡ false → now tid ≡ was tid)
    → ((tid : Tid) → Agrees (was tid) (run_at start older tid))
    → Agrees (now (tid_of line)) (changed line (run_at start older (tid_of line)))
    → (tid : Tid) → Agrees (now tid) (run_at start (line ∷ older) tid)
agrees_line start older line was now others agrees mine tid = by_test (same_tid (tid_of line) tid) refl
  where
    by_test : (b : Bool) → same_tid (tid_of line) tid ≡ b
        → Agrees (now tid) (cond b (changed line (run_at start older tid)) (run_at start older tid))
    by_test true is = subst (λ t. Agrees (now t) (changed line (run_at start older t))) (same_tid-equal (tid_of line) tid is) mine
    by_test false is = subst (λ o. Agrees o (run_at start older tid)) (sym (others tid is)) (agrees tid)

-- a line with no engine line
pub still : (home : Home) (past : SitePast) (event : SiteEvent) (answer : Answer) (sends : List FromSite) → IsKept home past
    → (stops answer || comes_up answer) ≡ false
    → IsGoodLine home past (record { event = event; answer = answer; sends = sends; calls = []; lines = [] })
still home past event answer sends k plain = record { plain = plain; right = k.right; agrees = k.agrees; appends = tt }

-- a line that appends a Checkpoint
pub summed : (home : Home) (past : SitePast) (event : SiteEvent) (answer : Answer) (sum : SiteSum) → IsKept home past
    → (stops answer || comes_up answer) ≡ false
    → IsGoodLine home past (record { event = event; answer = answer; sends = []; calls = Append (Rec.Checkpoint sum) ∷ Sync ∷ TrimFront ∷ []; lines = [] })
summed home past event answer sum k plain = record { plain = plain; right = k.right; agrees = k.agrees; appends = (tt, tt) }

-- a line with one engine line
pub one : (home : Home) (past : SitePast) (event : SiteEvent) (answer : Answer) (sends : List FromSite) (line : EngineLine) → IsKept home past
    → (stops answer || comes_up answer) ≡ false → IsRightLine (epoch_start home past) (engine_lines past) line
    → Agrees (doubt_of (records home past) (tid_of line)) (changed line (run_of home past (tid_of line)))
    → IsGoodLine home past (record { event = event; answer = answer; sends = sends; calls = []; lines = line ∷ [] })
one home past event answer sends line k plain right mine = record {
  plain = plain;
  right = (right, k.right);
  agrees = agrees_line (epoch_start home past) (engine_lines past) line (doubt_of (records home past)) (doubt_of (records home past))
      (λ tid apart. refl) k.agrees mine;
  appends = tt;
}

-- a line of a live run that leaves it unsealed
pub one_live : (home : Home) (past : SitePast) (event : SiteEvent) (answer : Answer) (sends : List FromSite) (line : EngineLine) (run : Run)
    → IsKept home past → (stops answer || comes_up answer) ≡ false → IsLiveHere home past (tid_of line) run
    → IsRightLine (epoch_start home past) (engine_lines past) line → Agrees None (changed line (Some run))
    → IsGoodLine home past (record { event = event; answer = answer; sends = sends; calls = []; lines = line ∷ [] })
one_live home past event answer sends line run k plain here right mine =
    one home past event answer sends line k plain right
    (subst (λ o. Agrees o (changed line (run_of home past (tid_of line)))) (sym here.doubt)
    (subst (λ o. Agrees None (changed line o)) (sym here.live.0) mine))

pub acted_open : (reply : Reply) (act : PlainAct) (run : Run) → run.sealed ≡ None → Agrees None (acted reply act run)
acted_open (Reply_is.Refused why) act run opened = tt
acted_open (Reply_is.Wait by) act run opened = opened
acted_open (Reply_is.Ticket n) act run opened = opened
acted_open Reply_is.Unknown act run opened = opened
acted_open (Reply_is.Value value) (Read key) run opened = opened
acted_open (Reply_is.Value value) (Write key v) run opened = opened
acted_open Reply_is.Done (Read key) run opened = opened
acted_open Reply_is.Done (Write key value) run opened = opened

pub took_open : (reply : Reply) (run : Run) → run.sealed ≡ None → Agrees None (took reply run)
took_open (Reply_is.Ticket n) run opened = opened
took_open (Reply_is.Refused why) run opened = tt
took_open (Reply_is.Wait by) run opened = opened
took_open (Reply_is.Value value) run opened = opened
took_open Reply_is.Done run opened = opened
took_open Reply_is.Unknown run opened = opened

-- the branches of a rule
pub good_when : (home : Home) (past : SitePast) (b : Bool) (x y : SiteHappening) → (b ≡ true → IsGoodLine home past x)
    → (b ≡ false → IsGoodLine home past y) → IsGoodLine home past (when b x y)
unfolding when
good_when home past true x y p q = p refl
good_when home past false x y p q = q refl

pub good_given : {A : Type 0} (home : Home) (past : SitePast) (o : Option A) (none : SiteHappening) (some : A → SiteHappening)
    → (o ≡ None → IsGoodLine home past none) → ((a : A) → o ≡ Some a → IsGoodLine home past (some a)) → IsGoodLine home past (given o some none)
unfolding given
good_given home past None none some p q = p refl
good_given home past (Some a) none some p q = q a refl
