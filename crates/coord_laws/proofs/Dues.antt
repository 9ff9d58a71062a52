-- Operations and inquiries at the coordinator: the facts on one attempt hold of their lines.
use Rattle.std.proofs.Common.{◌≡◌, inl, inr, Bool, true, false, cond, not, ◌&&◌, ◌||◌, ◌==◌, is_some, is_none, Option, Some, None, List, [], ◌∷◌, map, drop, refl, sym, ap, ap₂, subst, ◌∙◌}
use Rattle.std.proofs.lemmas.Bool.{and_parts, and_right}
use Rattle.mdb_base.specs.declared.acts.Step.{Step}
use Rattle.mdb_base.specs.declared.names.SiteId.{SiteId}
use Rattle.mdb_base.specs.declared.names.Tid.{Tid}
use Rattle.mdb_base.specs.declared.names.Tx.{Tx}
use Rattle.mdb_base.specs.Names.{same_tid, same_site}
use Rattle.mdb_base.specs.Programs.{plain_act}
use Rattle.mdb_base.specs.Words.{Each, some_of, how_many, those, found, with_some}
use Rattle.mdb_base.proofs.ForCallers.{each_map, each_of_mapped, is_none-true, same_tid-equal, same_tid-refl, some_parts}
use Rattle.order_laws.specs.Chains.{In}
use Rattle.order_laws.proofs.ForCallers.{each_at, each_from, of_same}
use Rattle.presumptions.specs.declared.Participant.{Participant}
use Rattle.presumptions.specs.Table.{presumed}
use Rattle.fed_rules.specs.declared.answers.Answer.{Answer}
use Rattle.fed_rules.specs.declared.answers.Answer.TheVariants as Say
use Rattle.fed_rules.specs.declared.events.CoordEvent.{CoordEvent}
use Rattle.fed_rules.specs.declared.events.CoordEvent.TheVariants as Ev
use Rattle.fed_rules.specs.declared.messages.Due.{Due}
use Rattle.fed_rules.specs.declared.messages.Due.TheVariants as Due_is
use Rattle.fed_rules.specs.declared.messages.FromSite.TheVariants as From
use Rattle.fed_rules.specs.declared.records.CoordRecord.TheVariants as Rec
use Rattle.fed_rules.specs.Disk.{Append, Sync}
use Rattle.fed_rules.specs.Happenings.{quiet}
use Rattle.fed_rules.specs.Coord.{send_due, is_prepare, lacks_initiation, sends_dues, all_outstanding, news, news_at, of_go, of_fate, asked_while, of_inquiry, tells, protocol_of}
use Rattle.fed_rules.specs.CoordPast.{CoordHappening, CoordPast, records, Standing, Undecided, Decided, Gone, standing, reads, participants, program, program_in, or_steps, visits, counted, did_in, last_epoch, epoch_at, count_at, has_ticket_at, is_wait, is_ticket, has_step_left, vote_at, outstanding, outstanding_at, work_at, take_at, prepare_at, next_step, attempts_of, undecided_of}
use Rattle.fed_rules.specs.CoordRecords.{class_of, has_initiation, named, committed_of}
use Rattle.coord_laws.proofs.Facts.{IsOpen, Stands, Same, Starts, IsPreparing, IsTelling, Known, Presumed, Tells, Counted, Goes}
use Rattle.fed_rules.proofs.ForCallers.{IsSending}
use Rattle.coord_laws.proofs.Rules.{goes_when, goes_given, IsCalm, Sending, sending_answer, calm_committed, standing_on, acked_on, IsNoAck, calm_standing, calm_acked, silently, no_ack}

pub each_found : {A B : Type 0} (P : B → Type 0) (look : A → Option B) → ((x : A) (b : B) → look x ≡ Some b → P b) → (xs : List A)
    → Each P (found look xs)
each_found P look k [] = tt
each_found P look k (x ∷ xs) = by_look (look x) refl (each_found P look k xs) where
  by_look : (o : Option _) → look x ≡ o → Each P (found look xs) → Each P (with_some o (found look xs))
  by_look None e rest = rest
  by_look (Some b) e rest = (k x b e, rest)

-- what an outstanding Prepare says
abbrev pub IsOwed : CoordPast → Tid → Due → Type 0
IsOwed past t (Due_is.Prepare site e n) = (visits site (program past t) ≡ true) × (has_ticket_at past t site ≡ true) ×
    (e ≡ epoch_at past t site)
IsOwed past t due = Unit {0}

pub owed : (past : CoordPast) (t : Tid) (site : SiteId) (due : Due) → outstanding past t site ≡ Some due → IsOwed past t due
owed past t site due is = by_visit (visits site (program past t)) refl is where
  by_step : (o : Option Step) → work_at past t site o ≡ Some due → IsOwed past t due
  by_step None e = cc
  by_step (Some step) e = by_test (same_site step.site site) e where
    by_test : (b : Bool)
        → cond b (Some (Due_is.Work site (epoch_at past t site) (count_at past t site)
        (plain_act (reads past t) step.act))) None ≡ Some due
        → IsOwed past t due
    by_test true e = subst (IsOwed past t) (some_parts e) tt
    by_test false e = cc

  by_vote : (b : Bool) → visits site (program past t) ≡ true → has_ticket_at past t site ≡ true
      → cond b (Some (Due_is.Prepare site (epoch_at past t site) (count_at past t site))) None ≡ Some due → IsOwed past t due
  by_vote true v h e = subst (IsOwed past t) (some_parts e) (v, h, refl)
  by_vote false v h e = cc

  by_ticket : (b : Bool) → has_ticket_at past t site ≡ b → visits site (program past t) ≡ true
      → cond b (prepare_at past t site) (take_at past t site) ≡ Some due → IsOwed past t due
  by_ticket true h v e = by_vote (is_none (vote_at past t site)) v h e
  by_ticket false h v e = subst (IsOwed past t) (some_parts e) tt

  by_left : (b : Bool) → visits site (program past t) ≡ true
      → cond b (work_at past t site (next_step past t))
      (cond (has_ticket_at past t site) (prepare_at past t site) (take_at past t site)) ≡ Some due
      → IsOwed past t due
  by_left true v e = by_step (next_step past t) e
  by_left false v e = by_ticket (has_ticket_at past t site) refl v e

  by_visit : (b : Bool) → visits site (program past t) ≡ b → cond b (outstanding_at past t site) None ≡ Some due → IsOwed past t due
  by_visit true v e = by_left (has_step_left past t site) v e
  by_visit false v e = cc

-- all that is outstanding, and what became so
pub all_owed : (protocols : List Participant) (past : CoordPast) (t : Tid) → Each (IsOwed past t) (all_outstanding protocols past t)
all_owed protocols past t = each_found (IsOwed past t) (λ member. outstanding past t member.site)
    (λ member due e. owed past t member.site due e) (participants protocols past t)

pub news_owed : (protocols : List Participant) (before now : CoordPast) (t : Tid) (site : SiteId)
    → Each (IsOwed now t) (news protocols before now t site)
news_owed protocols before now t site = each_found (IsOwed now t) (λ member. news_at before now t site member.site) by_member
    (participants protocols before t) where
      by_test : (b : Bool) (other : SiteId) (due : Due) → cond b (outstanding now t other) None ≡ Some due → IsOwed now t due
      by_test true other due e = owed now t other due e
      by_test false other due e = cc

      by_member : (member : Participant) (due : Due) → news_at before now t site member.site ≡ Some due → IsOwed now t due
      by_member member due e = by_test (same_site member.site site || is_none (outstanding before t member.site)) member.site due e

-- of an attempt that has just begun only its first step is outstanding
abbrev pub IsNoPrepare : Due → Type 0
IsNoPrepare (Due_is.Prepare site e n) = ⊥
IsNoPrepare due = Unit {0}

-- nothing of the attempt is counted yet
at_once : (past : CoordPast) (t : Tid) (steps : List Step) (site : SiteId) (due : Due)
    → outstanding (quiet (Ev.Go t steps) (Say.Begun t) ∷ past) t site ≡ Some due → IsNoPrepare due
at_once past t steps site due is = by_visit (visits site (program now t)) refl is where
  now : CoordPast
  now = quiet (Ev.Go t steps) (Say.Begun t) ∷ past

  none : counted now t ≡ []
  none = ap (λ b. cond b [] (with_some None (counted past t))) (same_tid-refl t)

  left : visits site (program now t) ≡ true → has_step_left now t site ≡ true
  left v = subst (λ cs. visits site
      (drop (how_many (λ reply. not (is_wait reply.reply) && not (is_ticket reply.reply)) cs) (program now t)) ≡ true) (sym none) v

  by_step : (o : Option Step) → work_at now t site o ≡ Some due → IsNoPrepare due
  by_step None e = cc
  by_step (Some step) e = by_test (same_site step.site site) e where
    by_test : (b : Bool)
        → cond b (Some (Due_is.Work site (epoch_at now t site) (count_at now t site)
        (plain_act (reads now t) step.act))) None ≡ Some due
        → IsNoPrepare due
    by_test true e = subst IsNoPrepare (some_parts e) tt
    by_test false e = cc

  by_left : (b : Bool) → b ≡ true
      → cond b (work_at now t site (next_step now t))
      (cond (has_ticket_at now t site) (prepare_at now t site) (take_at now t site)) ≡ Some due
      → IsNoPrepare due
  by_left true l e = by_step (next_step now t) e
  by_left false l e = cc

  by_visit : (b : Bool) → visits site (program now t) ≡ b → cond b (outstanding_at now t site) None ≡ Some due → IsNoPrepare due
  by_visit true v e = by_left (has_step_left now t site) (left v) e
  by_visit false v e = cc

-- `go`: what begins is undecided
pub by_go : (protocols : List Participant) (g : Tid) (past : CoordPast) (t : Tid) (steps : List Step)
    → Goes protocols g past (Ev.Go t steps) (of_go protocols past t steps)
unfolding of_go
by_go protocols g past t steps =
    goes_given protocols g past (Ev.Go t steps) (committed_of (records past) t.tx) _ _
    (λ e. goes_given protocols g past (Ev.Go t steps) (undecided_of past t.tx) _ _ (λ f. begun)
    (λ r f. silently protocols g past (Ev.Go t steps) (Say.Running r) tt tt tt))
    (λ c e. silently protocols g past (Ev.Go t steps) (Say.Committed c) tt tt tt)
  where
    now : CoordPast
    now = quiet (Ev.Go t steps) (Say.Begun t) ∷ past

    y : CoordHappening
    y = record {
      event = Ev.Go t steps;
      answer = Say.Begun t;
      sends = map (send_due t)
          (all_outstanding protocols (quiet (Ev.Go t steps) (Say.Begun t) ∷ past) t);
      calls = [];
      lines = [];
    }

    stands : (q : Bool) → same_tid t g ≡ q → Stands protocols g past y []
    stands true q = Starts q (standing_on protocols g past y refl refl ∙ ap (λ b. cond b Undecided (standing protocols past g)) q) refl
        steps (ap (λ u. Ev.Go u steps) (same_tid-equal t g q))
    stands false q = Same (standing_on protocols g past y refl refl ∙ ap (λ b. cond b Undecided (standing protocols past g)) q) q tt
        (inl (λ site. acked_on g past y site refl refl (and_right (same_tid t g) false refl) refl))

    says : (due : Due) → IsNoPrepare due → Tells protocols g past y (send_due t due)
    says (Due_is.Work site e n act) p = tt
    says (Due_is.Take site e n) p = tt
    says (Due_is.Prepare site e n) p = absurd p

    begun : Goes protocols g past (Ev.Go t steps) y
    begun = record {
      is = refl;
      quiet = tt;
      wrote = tt;
      stands = stands (same_tid t g) refl;
      tells = each_of_mapped (Tells protocols g past y) (send_due t) (all_outstanding protocols now t)
          (each_map IsNoPrepare (λ due. Tells protocols g past y (send_due t due)) says (all_outstanding protocols now t)
          (each_found IsNoPrepare (λ member. outstanding now t member.site) (λ member due e. at_once past t steps member.site due e)
          (participants protocols now t)));
      counted = (λ e. tt);
      committed = tt;
    }

is_there : {A : Type 0} (o : Option A) → is_none o ≡ false → is_some o ≡ true
is_there None e = cc
is_there (Some x) e = refl

some_in : (test : Due → Bool) (due : Due) (dues : List Due) → In due dues → test due ≡ true → some_of test dues ≡ true
some_in test due [] i e = absurd i
some_in test due (d ∷ dues) (inl same) e = ap (λ b. b || some_of test dues) (ap test same ∙ e)
some_in test due (d ∷ dues) (inr i) e = ap (λ b. test d || b) (some_in test due dues i e) ∙ or_true (test d) where
  or_true : (b : Bool) → (b || true) ≡ true
  or_true true = refl
  or_true false = refl

-- what an outstanding Prepare says doesn't depend on the answer of the line
owed_with : (past : CoordPast) (event : CoordEvent) (t : Tid) (answer : Answer) (due : Due) → IsSending answer
    → IsOwed (quiet event Say.Only ∷ past) t due → IsOwed (quiet event answer ∷ past) t due
owed_with past event t answer (Due_is.Work site e n act) s o = tt
owed_with past event t answer (Due_is.Take site e n) s o = tt
owed_with past event t answer (Due_is.Prepare site e n) s (v, h, f) = (
  ap (visits site) same_program ∙ v,
  ap (λ cs. some_of (λ reply. is_ticket reply.reply) (those (λ reply. same_site reply.site site) cs)) same_counted ∙ h,
  f ∙ sym (ap (λ cs. last_epoch (those (λ reply. same_site reply.site site) cs)) same_counted),
) where
  a : Sending t answer
  a = sending_answer t answer s

  same_program : program (quiet event answer ∷ past) t ≡ program (quiet event Say.Only ∷ past) t
  same_program = ap (λ b. cond b (or_steps (program_in t event) []) (program past t)) a.begins

  same_counted : counted (quiet event answer ∷ past) t ≡ counted (quiet event Say.Only ∷ past) t
  same_counted = ap₂ (λ b c. cond b [] (cond c (with_some (did_in t event) (counted past t)) (counted past t))) a.begins a.counts

-- operations and Prepares of an undecided attempt
pub by_dues : (protocols : List Participant) (g : Tid) (past : CoordPast) (event : CoordEvent) (t : Tid) (answer : Answer)
    (dues : List Due) → IsOpen protocols past t → IsSending answer → IsNoAck event → Counted protocols g past event
    → Each (IsOwed (quiet event Say.Only ∷ past) t) dues → Goes protocols g past event (sends_dues protocols past event t answer dues)
unfolding sends_dues
by_dues protocols g past event t answer dues undecided s n k each =
    goes_when protocols g past event (some_of is_prepare dues && lacks_initiation protocols past t) initiates only
    (λ b. by_initiation b) (λ b. by_only b)
  where
    initiates : CoordHappening
    initiates = record {
      event = event;
      answer = Say.Initiates;
      sends = map (send_due t) dues;
      calls = Append
          (Rec.Initiation t (participants protocols past t)) ∷ Sync ∷ [];
      lines = [];
    }

    only : CoordHappening
    only = record { event = event; answer = answer; sends = map (send_due t) dues; calls = []; lines = [] }

    named_now : is_some (named protocols (records (initiates ∷ past)) t) ≡ true
    named_now = ap (λ b. is_some (cond b (Some (participants protocols past t)) (named protocols (records past) t))) (same_tid-refl t)

    says_initiates : (due : Due) → IsOwed (quiet event Say.Only ∷ past) t due → Tells protocols g past initiates (send_due t due)
    says_initiates (Due_is.Work site e m act) o = tt
    says_initiates (Due_is.Take site e m) o = tt
    says_initiates (Due_is.Prepare site e m) (v, h, f) = λ q. of_same (λ u. IsPreparing protocols u past initiates site e) t g
        (record { undecided = undecided; visits = v; ticketed = h; epoch = f; recorded = (λ c. named_now) }) q

    says_only : (some_of is_prepare dues && lacks_initiation protocols past t) ≡ false → (due : Due) → In due dues
        → IsOwed (quiet event answer ∷ past) t due → Tells protocols g past only (send_due t due)
    says_only b (Due_is.Work site e m act) i o = tt
    says_only b (Due_is.Take site e m) i o = tt
    says_only b (Due_is.Prepare site e m) i (v, h, f) = λ q.
        let some = some_in is_prepare (Due_is.Prepare site e m) dues i refl in
        let kept : lacks_initiation protocols past t ≡ false = sym (ap (λ s. s && lacks_initiation protocols past t) some) ∙ b in
        of_same (λ u. IsPreparing protocols u past only site e) t g
        (record {
          undecided = undecided;
          visits = v;
          ticketed = h;
          epoch = f;
          recorded = (λ c. is_there (named protocols (records past) t)
              (sym (ap (λ w. w && is_none (named protocols (records past) t)) c) ∙ kept));
        }) q

    nobody_named : (some_of is_prepare dues && lacks_initiation protocols past t) ≡ true → named protocols (records past) t ≡ None
    nobody_named b =
        is_none-true (named protocols (records past) t)
        (and_parts (has_initiation (class_of (participants protocols past t))) _ (and_parts (some_of is_prepare dues) (lacks_initiation protocols past t) b).1).1

    by_initiation : (some_of is_prepare dues && lacks_initiation protocols past t) ≡ true → Goes protocols g past event initiates
    by_initiation b = record {
      is = refl;
      quiet = inr tt;
      wrote = (
        (λ q. of_same (λ u. IsOpen protocols past u × (participants protocols past t ≡ participants protocols past u) × (named protocols (records past) u ≡ None)) t g
            (undecided, refl, nobody_named b) q),
        tt,
      );
      stands = Same (calm_standing protocols g past initiates tt) refl (tt, tt)
          (inl (λ site. calm_acked g past initiates site tt (no_ack g site initiates n)));
      tells = each_of_mapped (Tells protocols g past initiates) (send_due t) dues (each_map (IsOwed (quiet event Say.Only ∷ past) t)
          (λ due. Tells protocols g past initiates (send_due t due)) says_initiates dues each);
      counted = (λ e. k);
      committed = tt;
    }

    a : Sending g answer
    a = sending_answer g answer s

    by_only : (some_of is_prepare dues && lacks_initiation protocols past t) ≡ false → Goes protocols g past event only
    by_only b = record {
      is = refl;
      quiet = tt;
      wrote = tt;
      stands = Same (calm_standing protocols g past only a.calm) a.begins tt
          (inl (λ site. calm_acked g past only site a.calm (no_ack g site only n)));
      tells = each_of_mapped (Tells protocols g past only) (send_due t) dues
          (each_from (λ due. Tells protocols g past only (send_due t due)) dues
          (λ due i. says_only b due i (owed_with past event t answer due s
          (each_at (IsOwed (quiet event Say.Only ∷ past) t) due dues each i))));
      counted = (λ e. k);
      committed = calm_committed g event answer [] a.calm;
    }

-- an inquiry
by_asked : (protocols : List Participant) (g : Tid) (past : CoordPast) (site : SiteId) (t : Tid) (s : Standing)
    → standing protocols past t ≡ s
    → Goes protocols g past (Ev.Take site (From.Inquiry t)) (asked_while protocols site t s)
unfolding asked_while
by_asked protocols g past site t Undecided e = silently protocols g past (Ev.Take site (From.Inquiry t)) Say.Undecided tt tt tt
by_asked protocols g past site t (Decided decision) e = record {
  is = refl;
  quiet = tt;
  wrote = tt;
  stands = Same (calm_standing protocols g past y tt) refl tt (inl (λ at. calm_acked g past y at tt refl));
  tells = ((λ q. of_same (λ u. IsTelling protocols u past y site decision) t g (Known e) q), tt);
  counted = (λ i. tt);
  committed = tt;
} where
  y : CoordHappening
  y = tells site t (Say.Answers decision) decision
by_asked protocols g past site t Gone e = record {
  is = refl;
  quiet = tt;
  wrote = tt;
  stands = Same (calm_standing protocols g past y tt) refl tt (inl (λ at. calm_acked g past y at tt refl));
  tells = (
    (λ q. of_same (λ u. IsTelling protocols u past y site (presumed (protocol_of protocols site))) t g
        (Presumed e refl refl) q),
    tt,
  );
  counted = (λ i. tt);
  committed = tt;
} where
  y : CoordHappening
  y = tells site t (Say.Presumes (presumed (protocol_of protocols site))) (presumed (protocol_of protocols site))

pub by_inquiry : (protocols : List Participant) (g : Tid) (past : CoordPast) (site : SiteId) (t : Tid)
    → Goes protocols g past (Ev.Take site (From.Inquiry t)) (of_inquiry protocols past site t)
unfolding of_inquiry
by_inquiry protocols g past site t = by_asked protocols g past site t (standing protocols past t) refl

unbegun_calm : (b : Bool) → IsCalm (cond b Say.Unbegun Say.Ended)
unbegun_calm true = tt
unbegun_calm false = tt

pub by_fate : (protocols : List Participant) (g : Tid) (past : CoordPast) (tx : Tx)
    → Goes protocols g past (Ev.Fate tx) (of_fate past tx)
unfolding of_fate
by_fate protocols g past tx =
    goes_given protocols g past (Ev.Fate tx) (committed_of (records past) tx) _ _
    (λ e. goes_given protocols g past (Ev.Fate tx) (undecided_of past tx) _ _
    (λ f. silently protocols g past (Ev.Fate tx) (cond (attempts_of past tx == 0) Say.Unbegun Say.Ended)
    (unbegun_calm (attempts_of past tx == 0)) tt tt)
    (λ r f. silently protocols g past (Ev.Fate tx) (Say.Running r) tt tt tt))
    (λ c e. silently protocols g past (Ev.Fate tx) (Say.Committed c) tt tt tt)
