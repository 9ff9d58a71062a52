-- A line of a site is about one attempt: its engine lines, operations and records name no other one.
use Rattle.site_history.proofs.ForCallers.{act_plain, ended_records, refusal_plain}
use Rattle.std.proofs.Common.{◌≡◌, ℕ, Bool, true, false, cond, ◌||◌, Option, Some, None, List, [], ◌∷◌, refl, ap}
use Rattle.mdb_base.specs.declared.acts.PlainAct.{PlainAct}
use Rattle.mdb_base.specs.declared.names.Tid.{Tid}
use Rattle.mdb_base.specs.declared.names.Tx.{Tx}
use Rattle.mdb_base.specs.declared.replies.Reply.{Reply}
use Rattle.mdb_base.specs.declared.replies.Why.{Why}
use Rattle.mdb_base.specs.Words.{Each, when, given}
use Rattle.presumptions.specs.declared.Decision.{Decision}
use Rattle.presumptions.specs.declared.Decision.TheVariants as Decided
use Rattle.presumptions.specs.Table.{forces, acks}
use Rattle.fed_rules.specs.declared.answers.Answer.{Answer}
use Rattle.fed_rules.specs.declared.answers.Answer.TheVariants as Say
use Rattle.fed_rules.specs.declared.events.SiteEvent.{SiteEvent}
use Rattle.fed_rules.specs.declared.events.SiteEvent.TheVariants as Ev
use Rattle.fed_rules.specs.declared.messages.FromSite.{FromSite}
use Rattle.fed_rules.specs.declared.messages.FromSite.TheVariants as From
use Rattle.fed_rules.specs.declared.messages.ToSite.{ToSite}
use Rattle.fed_rules.specs.declared.messages.ToSite.TheVariants as To
use Rattle.fed_rules.specs.declared.records.SiteRecord.{SiteRecord}
use Rattle.fed_rules.specs.declared.records.SiteRecord.TheVariants as Rec
use Rattle.fed_rules.specs.Disk.{Call, Append, Sync, after_call}
use Rattle.fed_rules.specs.Happenings.{stops, comes_up}
use Rattle.fed_rules.specs.Runs.{EngineLine, Run, tid_of}
use Rattle.fed_rules.specs.Site.{with_lines, of_begin, of_act, seals_local, of_commit, of_abort, of_fate, did, unknown, first_work, next_work, next_take, repeated, work_live, of_work, take_live, of_take, votes_again, votes_no, votes_yes, seals_global, prepare_live, of_prepare, ack_of, settles, unheld, of_decide, of_ask, of_drop}
use Rattle.fed_rules.specs.SitePast.{SiteHappening, SitePast, disk, epoch}
use Rattle.fed_rules.specs.SiteRecords.{Home, site_frame, epoch_of}
use Rattle.commit_laws.proofs.ForCallers.{settling-tid}

-- the message is of this attempt, or no reply or vote
abbrev pub Speaks : Tid → FromSite → Type 0
Speaks tid (From.Did of epoch n reply) = of ≡ tid
Speaks tid (From.Vote of vote) = of ≡ tid
Speaks tid (From.Ack of) = Unit {0}
Speaks tid (From.Inquiry of) = Unit {0}

-- the call appends no Prepared or Local record but of this attempt
abbrev pub SealsOnly : Tid → Call SiteRecord → Type 0
SealsOnly tid (Append (Rec.Prepared of epoch number ticket writes)) = of ≡ tid
SealsOnly tid (Append (Rec.Local of number writes)) = of ≡ tid
SealsOnly tid call = Unit {0}

-- the call appends no Local record, unless the event is a local commit
abbrev pub LocalAt : SiteEvent → Call SiteRecord → Type 0
LocalAt (Ev.Commit tid) call = Unit {0}
LocalAt event (Append (Rec.Local tid number writes)) = ⊥
LocalAt event call = Unit {0}

-- the line neither stops the site nor starts it, and is about this attempt
pub record IsAbout (home : Home) (past : SitePast) (tid : Tid) (x : SiteHappening) : Type 0 where
  pub plain : (stops x.answer || comes_up x.answer) ≡ false
  pub lines : Each (λ line. tid_of line ≡ tid) x.lines
  pub sends : Each (Speaks tid) x.sends
  pub calls : Each (SealsOnly tid) x.calls
  pub calm : epoch home (x ∷ past) ≡ epoch home past
  pub locals : Each (LocalAt x.event) x.calls

about_when : (home : Home) (past : SitePast) (tid : Tid) (t : Bool) (a b : SiteHappening) → IsAbout home past tid a → IsAbout home past tid b → IsAbout home past tid (when t a b)
unfolding when
about_when home past tid true a b p q = p
about_when home past tid false a b p q = q

about_given : {A : Type 0} (home : Home) (past : SitePast) (tid : Tid) (o : Option A) (none : SiteHappening) (some : A → SiteHappening) → IsAbout home past tid none → ((x : A) → IsAbout home past tid (some x)) → IsAbout home past tid (given o some none)
unfolding given
about_given home past tid None none some p q = p
about_given home past tid (Some x) none some p q = q x

-- a line of engine lines alone
lines_about : (home : Home) (past : SitePast) (tid : Tid) (event : SiteEvent) (answer : Answer) (lines : List EngineLine) → (stops answer || comes_up answer) ≡ false → Each (λ line. tid_of line ≡ tid) lines → IsAbout home past tid (with_lines event answer lines)
lines_about home past tid event answer lines p l = record { plain = p; lines = l; sends = tt; calls = tt; calm = refl; locals = tt }

pub begin_about : (home : Home) (past : SitePast) (tid : Tid) → IsAbout home past tid (of_begin home past tid)
unfolding of_begin
begin_about home past tid =
    about_given home past tid _ _ _
    (about_given home past tid _ _ _ (lines_about home past tid _ _ _ refl (refl, tt)) (λ running. lines_about home past tid _ _ [] refl tt))
    (λ committed. lines_about home past tid _ _ [] refl tt)

pub act_about : (home : Home) (past : SitePast) (tid : Tid) (act : PlainAct) → IsAbout home past tid (of_act home past tid act)
unfolding of_act
act_about home past tid act =
    about_given home past tid _ _ _ (lines_about home past tid _ _ [] refl tt)
    (λ run. lines_about home past tid _ _ _ (act_plain tid _ act) (refl, tt))

pub commit_about : (home : Home) (past : SitePast) (tid : Tid) → IsAbout home past tid (of_commit home past tid)
unfolding of_commit seals_local
commit_about home past tid =
    about_given home past tid _ _ _ (lines_about home past tid _ _ [] refl tt) (λ run.
    about_given home past tid _ _ _ (record { plain = refl; lines = (refl, (refl, tt)); sends = tt; calls = (refl, (tt, tt)); calm = refl; locals = (tt, (tt, tt)) })
    (λ why. lines_about home past tid _ _ _ (refusal_plain why) (refl, tt)))

pub abort_about : (home : Home) (past : SitePast) (tid : Tid) → IsAbout home past tid (of_abort home past tid)
unfolding of_abort
abort_about home past tid =
    about_given home past tid _ _ _ (lines_about home past tid _ _ [] refl tt) (λ run. lines_about home past tid _ _ _ refl (refl, tt))

did_about : (home : Home) (past : SitePast) (message : ToSite) (tid : Tid) (n : ℕ) (reply : Reply) (lines : List EngineLine) → Each (λ line. tid_of line ≡ tid) lines → IsAbout home past tid (did home past message tid n reply lines)
unfolding did
did_about home past message tid n reply lines l = record { plain = refl; lines = l; sends = (refl, tt); calls = tt; calm = refl; locals = tt }

unknown_about : (home : Home) (past : SitePast) (message : ToSite) (tid : Tid) (n : ℕ) → IsAbout home past tid (unknown home past message tid n)
unfolding unknown
unknown_about home past message tid n = did_about home past message tid n _ [] tt

repeated_about : (home : Home) (past : SitePast) (message : ToSite) (tid : Tid) (n : ℕ) (run : Run) → IsAbout home past tid (repeated home past message tid n run)
unfolding repeated
repeated_about home past message tid n run = about_when home past tid _ _ _ (did_about home past message tid n _ [] tt) (unknown_about home past message tid n)

pub work_about : (home : Home) (past : SitePast) (tid : Tid) (e n : ℕ) (act : PlainAct) → IsAbout home past tid (of_work home past tid e n act)
unfolding of_work work_live first_work next_work
work_about home past tid e n act =
    let message = To.Work tid e n act in
    about_when home past tid _ _ _ (unknown_about home past message tid n)
    (about_given home past tid _ _ _
    (about_when home past tid _ _ _ (did_about home past message tid n _ _ (refl, (refl, tt))) (unknown_about home past message tid n))
    (λ run. about_when home past tid _ _ _ (unknown_about home past message tid n)
    (about_when home past tid _ _ _ (did_about home past message tid n _ _ (refl, tt)) (repeated_about home past message tid n run))))

pub take_about : (home : Home) (past : SitePast) (tid : Tid) (e n : ℕ) → IsAbout home past tid (of_take home past tid e n)
unfolding of_take take_live next_take
take_about home past tid e n =
    let message = To.Take tid e n in
    about_when home past tid _ _ _ (unknown_about home past message tid n)
    (about_given home past tid _ _ _ (unknown_about home past message tid n)
    (λ run. about_when home past tid _ _ _ (unknown_about home past message tid n)
    (about_when home past tid _ _ _ (did_about home past message tid n _ _ (refl, tt)) (repeated_about home past message tid n run))))

no_about : (home : Home) (past : SitePast) (tid : Tid) (e n : ℕ) (why : Option Why) (lines : List EngineLine) → Each (λ line. tid_of line ≡ tid) lines → IsAbout home past tid (votes_no tid e n why lines)
unfolding votes_no
no_about home past tid e n why lines l = record { plain = refl; lines = l; sends = (refl, tt); calls = tt; calm = refl; locals = tt }

pub prepare_about : (home : Home) (past : SitePast) (tid : Tid) (e n : ℕ) → IsAbout home past tid (of_prepare home past tid e n)
unfolding of_prepare prepare_live seals_global votes_yes votes_again
prepare_about home past tid e n =
    about_given home past tid _ _ _
    (about_given home past tid _ _ _ (no_about home past tid e n _ [] tt)
    (λ run. about_when home past tid _ _ _
    (about_given home past tid _ _ _ (no_about home past tid e n _ [] tt)
    (λ ticket. about_given home past tid _ _ _
    (record { plain = refl; lines = (refl, tt); sends = (refl, tt); calls = (refl, (tt, tt)); calm = refl; locals = (tt, (tt, tt)) })
    (λ why. no_about home past tid e n _ _ (refl, tt))))
    (no_about home past tid e n _ [] tt)))
    (λ held. about_when home past tid _ _ _ (record { plain = refl; lines = tt; sends = (refl, tt); calls = tt; calm = refl; locals = tt }) (no_about home past tid e n _ [] tt))

ack-speaks : (home : Home) (tid : Tid) (decision : Decision) → Each (Speaks tid) (ack_of home tid decision)
ack-speaks home tid decision = by_test (acks home.protocol decision)
  where
    by_test : (t : Bool) → Each (Speaks tid) (cond t (From.Ack tid ∷ []) [])
    by_test true = (tt, tt)
    by_test false = tt

pub decide_about : (home : Home) (past : SitePast) (tid : Tid) (decision : Decision) → IsAbout home past tid (of_decide home past tid decision)
unfolding of_decide settles unheld
decide_about home past tid decision =
    about_given home past tid _ _ _
    (about_given home past tid _ _ _
    (record { plain = refl; lines = tt; sends = ack-speaks home tid decision; calls = tt; calm = refl; locals = tt })
    (λ run. record { plain = refl; lines = (refl, tt); sends = ack-speaks home tid decision; calls = tt; calm = refl; locals = tt }))
    (λ held. record { plain = refl; lines = (settling-tid tid decision, tt); sends = ack-speaks home tid decision; calls = forced (forces home.protocol decision); calm = ap epoch_of (ended_records (after_call site_frame (disk home past) (Append (Rec.Ended tid decision))) (forces home.protocol decision)); locals = plain (forces home.protocol decision) })
  where
    plain : (t : Bool) → Each (LocalAt (Ev.Give (To.Decide tid decision))) (Append (Rec.Ended tid decision) ∷ cond t (Sync ∷ []) [])
    plain true = (tt, (tt, tt))
    plain false = (tt, tt)

    forced : (t : Bool) → Each (SealsOnly tid) (Append (Rec.Ended tid decision) ∷ cond t (Sync ∷ []) [])
    forced true = (tt, (tt, tt))
    forced false = (tt, tt)

pub ask_about : (home : Home) (past : SitePast) (tid : Tid) → IsAbout home past tid (of_ask home past tid)
unfolding of_ask
ask_about home past tid =
    about_given home past tid _ _ _ (lines_about home past tid _ _ [] refl tt)
    (λ held. record { plain = refl; lines = tt; sends = (tt, tt); calls = tt; calm = refl; locals = tt })

pub drop_about : (home : Home) (past : SitePast) (tid : Tid) → IsAbout home past tid (of_drop home past tid)
unfolding of_drop
drop_about home past tid =
    about_when home past tid _ _ _ (lines_about home past tid _ _ [] refl tt)
    (about_given home past tid _ _ _ (lines_about home past tid _ _ [] refl tt) (λ run. lines_about home past tid _ _ _ refl (refl, tt)))

pub fate_about : (home : Home) (past : SitePast) (tid : Tid) (tx : Tx) → IsAbout home past tid (of_fate home past tx)
unfolding of_fate
fate_about home past tid tx =
    about_given home past tid _ _ _
    (about_given home past tid _ _ _ (lines_about home past tid _ _ [] (by_test _) tt) (λ running. lines_about home past tid _ _ [] refl tt))
    (λ committed. lines_about home past tid _ _ [] refl tt)
  where
    by_test : (t : Bool) → (stops (cond t Say.Unbegun Say.Ended) || comes_up (cond t Say.Unbegun Say.Ended)) ≡ false
    by_test true = refl
    by_test false = refl
