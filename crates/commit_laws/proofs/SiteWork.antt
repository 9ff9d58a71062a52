-- Operations, Prepares and decisions at a site: the facts on one attempt hold of their lines.
use Rattle.std.proofs.Common.{◌≡◌, ℕ, inl, inr, Bool, true, false, cond, ◌||◌, ◌==◌, is_some, Option, Some, None, List, [], ◌∷◌, refl, ap, subst, ◌∙◌}
use Rattle.std.proofs.lemmas.Bool.{and_parts, eqb-true}
use Rattle.mdb_base.specs.declared.acts.PlainAct.{PlainAct}
use Rattle.mdb_base.specs.declared.names.Tid.{Tid}
use Rattle.mdb_base.specs.declared.replies.Reply.{Reply}
use Rattle.mdb_base.specs.declared.replies.Reply.TheVariants as Reply_is
use Rattle.mdb_base.specs.declared.replies.Why.{Why}
use Rattle.mdb_base.specs.Names.{same_tid}
use Rattle.mdb_base.specs.Words.{Among}
use Rattle.mdb_base.proofs.ForCallers.{same_tid-equal, some_parts}
use Rattle.fed_rules.specs.declared.answers.Answer.TheVariants as Say
use Rattle.fed_rules.specs.declared.events.SiteEvent.TheVariants as Ev
use Rattle.fed_rules.specs.declared.messages.FromSite.TheVariants as From
use Rattle.fed_rules.specs.declared.messages.ToSite.{ToSite}
use Rattle.fed_rules.specs.declared.messages.ToSite.TheVariants as To
use Rattle.fed_rules.specs.declared.records.SiteRecord.{SiteRecord}
use Rattle.fed_rules.specs.declared.records.SiteRecord.TheVariants as Rec
use Rattle.fed_rules.specs.Happenings.{is_down}
use Rattle.fed_rules.specs.Replies.{access_reply}
use Rattle.fed_rules.specs.Runs.{EngineLine, Begins, Acts, Takes, Seals, Refuses, Run, begun, run_at, gives_up, puts_of}
use Rattle.fed_rules.specs.Site.{next_number, reply_to, number_of, did, unknown, first_work, next_work, next_take, ticket_reply_to, repeated, is_over, work_live, of_work, take_live, of_take, votes_again, votes_no, votes_yes, seals_global, prepare_live, of_prepare, done, kept_reply}
use Rattle.fed_rules.specs.SitePast.{SitePast, records, epoch, epoch_start, engine_lines, live, live_one, is_closed}
use Rattle.fed_rules.specs.SiteRecords.{Home, Held, doubt_of}
use Rattle.commit_laws.specs.Records.{IsPrepared}
use Rattle.commit_laws.proofs.SiteFacts.{IsSealing, Shut, Step}
use Rattle.commit_laws.proofs.SiteShut.{other-line, other-lines, this-line, given-up, sealed-now, shut-on}
use Rattle.commit_laws.proofs.SiteRules.{step-when, step-given, IsNoDecision, Touches, no-lines, one-line, calm, acts-stay, takes-stay}
use Rattle.order_laws.proofs.ForCallers.{of_same}

-- an operation's answer
by-did : (home : Home) (g : Tid) (past : SitePast) (message : ToSite) (tid : Tid) (n : ℕ) (reply : Reply) (lines : List EngineLine)
    → is_down past ≡ false → IsNoDecision (Ev.Give message) → (Shut home g past → Touches home g past (Ev.Give message) lines)
    → Step home g past (Ev.Give message) (did home past message tid n reply lines)
unfolding did
by-did home g past message tid n reply lines up nd touches =
    calm home g past (Ev.Give message) (Say.Did tid reply) (From.Did tid (epoch home past) n reply ∷ []) lines up tt nd (refl, tt)
    (λ nb s. touches s)

by-unknown : (home : Home) (g : Tid) (past : SitePast) (message : ToSite) (tid : Tid) (n : ℕ) → is_down past ≡ false
    → IsNoDecision (Ev.Give message) → Step home g past (Ev.Give message) (unknown home past message tid n)
unfolding unknown
by-unknown home g past message tid n up nd = by-did home g past message tid n Reply_is.Unknown [] up nd
    (λ s. no-lines home g past (Ev.Give message))

by-repeated : (home : Home) (g : Tid) (past : SitePast) (message : ToSite) (tid : Tid) (n : ℕ) (run : Run) → is_down past ≡ false
    → IsNoDecision (Ev.Give message) → Step home g past (Ev.Give message) (repeated home past message tid n run)
unfolding repeated
by-repeated home g past message tid n run up nd =
    step-when home g past (Ev.Give message) _ _ _
    (λ b. by-did home g past message tid n (kept_reply run) [] up nd (λ s. no-lines home g past (Ev.Give message)))
    (λ b. by-unknown home g past message tid n up nd)

by-next_work : (home : Home) (g : Tid) (past : SitePast) (message : ToSite) (tid : Tid) (n : ℕ) (act : PlainAct) (run : Run)
    → is_down past ≡ false → IsNoDecision (Ev.Give message) → live home past tid ≡ Some run
    → Step home g past (Ev.Give message) (next_work home past message tid n act run)
unfolding next_work
by-next_work home g past message tid n act run up nd alive =
    by-did home g past message tid n (reply_to home past run act) (Acts tid act (reply_to home past run act) ∷ []) up nd
    (λ s. one-line home g past (Ev.Give message) run (Acts tid act (reply_to home past run act)) s alive
    (acts-stay g tid act (reply_to home past run act)))

by-next_take : (home : Home) (g : Tid) (past : SitePast) (message : ToSite) (tid : Tid) (n : ℕ) (run : Run) → is_down past ≡ false
    → IsNoDecision (Ev.Give message) → live home past tid ≡ Some run
    → Step home g past (Ev.Give message) (next_take home past message tid n run)
unfolding next_take
by-next_take home g past message tid n run up nd alive =
    by-did home g past message tid n (ticket_reply_to home past run) (Takes tid (ticket_reply_to home past run) ∷ []) up nd
    (λ s. one-line home g past (Ev.Give message) run (Takes tid (ticket_reply_to home past run)) s alive
    (takes-stay g tid (ticket_reply_to home past run)))

-- the first act of an attempt that is neither closed nor in doubt
by-first_work : (home : Home) (g : Tid) (past : SitePast) (message : ToSite) (tid : Tid) (n : ℕ) (act : PlainAct)
    → is_down past ≡ false → IsNoDecision (Ev.Give message) → is_over home past tid ≡ false
    → Step home g past (Ev.Give message) (first_work home past message tid n act)
unfolding first_work
by-first_work home g past message tid n act up nd free = by-did home g past message tid n reply
    (Acts tid act reply ∷ Begins tid number ∷ []) up nd (λ s. by_test (same_tid tid g) (gives_up (Acts tid act reply)) refl refl) where
      number : ℕ
      number = next_number home past

      reply : Reply
      reply = access_reply (epoch_start home past) (Begins tid number ∷ engine_lines past) (begun tid number) act

      by_test : (q u : Bool) → same_tid tid g ≡ q → gives_up (Acts tid act reply) ≡ u
          → Touches home g past (Ev.Give message) (Acts tid act reply ∷ Begins tid number ∷ [])
      by_test false u q e = inl (other-lines (epoch_start home past) (engine_lines past) g (Acts tid act reply) (Begins tid number) q q)
      by_test true true q e = inr (inl (ap live_one
          (this-line (epoch_start home past) (Begins tid number ∷ engine_lines past) g (Acts tid act reply) q) ∙ given-up
          (Acts tid act reply) (run_at (epoch_start home past) (Begins tid number ∷ engine_lines past) g) e))
      by_test true false q e = inr
          (inr (ap (λ b. b || false) (acts-stay g tid act reply e), of_same (λ u. is_over home past u ≡ false) tid g free q))

by-work_live : (home : Home) (g : Tid) (past : SitePast) (message : ToSite) (tid : Tid) (e n : ℕ) (act : PlainAct) (run : Run)
    → is_down past ≡ false → IsNoDecision (Ev.Give message) → live home past tid ≡ Some run
    → Step home g past (Ev.Give message) (work_live home past message tid e n act run)
unfolding work_live
by-work_live home g past message tid e n act run up nd alive =
    step-when home g past (Ev.Give message) _ _ _ (λ b. by-unknown home g past message tid n up nd)
    (λ b. step-when home g past (Ev.Give message) _ _ _ (λ c. by-next_work home g past message tid n act run up nd alive)
    (λ c. by-repeated home g past message tid n run up nd))

pub by-work : (home : Home) (g : Tid) (past : SitePast) (tid : Tid) (e n : ℕ) (act : PlainAct) → is_down past ≡ false
    → Step home g past (Ev.Give (To.Work tid e n act)) (of_work home past tid e n act)
unfolding of_work
by-work home g past tid e n act up =
    step-when home g past (Ev.Give (To.Work tid e n act)) _ _ _ (λ b. by-unknown home g past (To.Work tid e n act) tid n up tt)
    (λ free. step-given home g past (Ev.Give (To.Work tid e n act)) _ _ _
    (λ none. step-when home g past (Ev.Give (To.Work tid e n act)) _ _ _
    (λ b. by-first_work home g past (To.Work tid e n act) tid n act up tt free)
    (λ b. by-unknown home g past (To.Work tid e n act) tid n up tt))
    (λ run alive. by-work_live home g past (To.Work tid e n act) tid e n act run up tt alive))

by-take_live : (home : Home) (g : Tid) (past : SitePast) (message : ToSite) (tid : Tid) (e n : ℕ) (run : Run) → is_down past ≡ false
    → IsNoDecision (Ev.Give message) → live home past tid ≡ Some run
    → Step home g past (Ev.Give message) (take_live home past message tid e n run)
unfolding take_live
by-take_live home g past message tid e n run up nd alive =
    step-when home g past (Ev.Give message) _ _ _ (λ b. by-unknown home g past message tid n up nd)
    (λ b. step-when home g past (Ev.Give message) _ _ _ (λ c. by-next_take home g past message tid n run up nd alive)
    (λ c. by-repeated home g past message tid n run up nd))

pub by-take : (home : Home) (g : Tid) (past : SitePast) (tid : Tid) (e n : ℕ) → is_down past ≡ false
    → Step home g past (Ev.Give (To.Take tid e n)) (of_take home past tid e n)
unfolding of_take
by-take home g past tid e n up =
    step-when home g past (Ev.Give (To.Take tid e n)) _ _ _ (λ b. by-unknown home g past (To.Take tid e n) tid n up tt)
    (λ free. step-given home g past (Ev.Give (To.Take tid e n)) _ _ _ (λ none. by-unknown home g past (To.Take tid e n) tid n up tt)
    (λ run alive. by-take_live home g past (To.Take tid e n) tid e n run up tt alive))

-- a Prepared record that is in doubt stands among the records
pub held-prepared : (rs : List SiteRecord) (t : Tid) (h : Held) → doubt_of rs t ≡ Some h → Among (IsPrepared t h.epoch) rs
held-prepared [] t h e = cc
held-prepared (Rec.Prepared tid e number ticket writes ∷ rs) t h is = by_test (same_tid tid t) refl is (held-prepared rs t h) where
  by_test : (q : Bool) → same_tid tid t ≡ q
      → cond q (Some (record { tid = tid; epoch = e; number = number; ticket = ticket; writes = writes })) (doubt_of rs t) ≡ Some h
      → (doubt_of rs t ≡ Some h → Among (IsPrepared t h.epoch) rs)
      → Among (IsPrepared t h.epoch) (Rec.Prepared tid e number ticket writes ∷ rs)
  by_test true q i k =
      let held : Held = record { tid = tid; epoch = e; number = number; ticket = ticket; writes = writes } in
      let same : held ≡ h = some_parts i in
      inl (same_tid-equal tid t q, ap (λ x. x.epoch) same)
  by_test false q i k = inr (k i)
held-prepared (Rec.Ended tid d ∷ rs) t h is = by_test (same_tid tid t) is (held-prepared rs t h) where
  by_test : (q : Bool) → cond q None (doubt_of rs t) ≡ Some h → (doubt_of rs t ≡ Some h → Among (IsPrepared t h.epoch) rs)
      → Among (IsPrepared t h.epoch) (Rec.Ended tid d ∷ rs)
  by_test true i k = cc
  by_test false i k = inr (k i)
held-prepared (Rec.Setup site engine protocol items ∷ rs) t h is = inr (held-prepared rs t h is)
held-prepared (Rec.Checkpoint sum ∷ rs) t h is = inr (held-prepared rs t h is)
held-prepared (Rec.Start e ∷ rs) t h is = inr (held-prepared rs t h is)
held-prepared (Rec.Local tid number writes ∷ rs) t h is = inr (held-prepared rs t h is)

by-votes_no : (home : Home) (g : Tid) (past : SitePast) (tid : Tid) (e n : ℕ) (why : Option Why) (lines : List EngineLine)
    → is_down past ≡ false → (Shut home g past → Touches home g past (Ev.Give (To.Prepare tid e n)) lines)
    → Step home g past (Ev.Give (To.Prepare tid e n)) (votes_no tid e n why lines)
unfolding votes_no
by-votes_no home g past tid e n why lines up touches =
    calm home g past (Ev.Give (To.Prepare tid e n)) (Say.VotesNo tid why) (From.Vote tid None ∷ []) lines up tt tt (tt, tt)
    (λ nb s. touches s)

by-no_again : (home : Home) (g : Tid) (past : SitePast) (tid : Tid) (e n : ℕ) → is_down past ≡ false
    → Step home g past (Ev.Give (To.Prepare tid e n)) (votes_no tid e n None [])
by-no_again home g past tid e n up = by-votes_no home g past tid e n None [] up
    (λ s. no-lines home g past (Ev.Give (To.Prepare tid e n)))

by-votes_again : (home : Home) (g : Tid) (past : SitePast) (tid : Tid) (e n : ℕ) (held : Held) → is_down past ≡ false
    → doubt_of (records home past) tid ≡ Some held → Step home g past (Ev.Give (To.Prepare tid e n)) (votes_again tid e n held)
unfolding votes_again
by-votes_again home g past tid e n held up doubt =
    calm home g past (Ev.Give (To.Prepare tid e n)) (Say.VotesYes tid held.ticket) (From.Vote tid (Some held.ticket) ∷ []) [] up tt tt (
      (λ q. of_same (λ u. (k : ℕ) × Among (IsPrepared u k) (records home past)) tid g
          (held.epoch, held-prepared (records home past) tid held doubt) q),
      tt,
    )
    (λ nb s. no-lines home g past (Ev.Give (To.Prepare tid e n)))

or-nothing : (b : Bool) → (b || (false || false)) ≡ true → b ≡ true
or-nothing true e = refl
or-nothing false e = e

-- a run that is sealed: the Prepared record is forced
by-votes_yes : (home : Home) (g : Tid) (past : SitePast) (tid : Tid) (e n : ℕ) (run : Run) (ticket : ℕ) → is_down past ≡ false
    → doubt_of (records home past) tid ≡ None → live home past tid ≡ Some run → e ≡ epoch home past
    → Step home g past (Ev.Give (To.Prepare tid e n)) (votes_yes home past tid e n run ticket)
unfolding votes_yes
by-votes_yes home g past tid e n run ticket up free alive here = record {
  is = refl;
  quiet = inr tt;
  wrote = sealing;
  says = ((λ q. (epoch home past, inl (same_tid-equal tid g q, refl))), tt);
  shut = (λ nb s. shut-on home g past _ refl refl up (by_test (same_tid tid g) refl s));
  settled = tt;
  seals = (λ i.
      let q = or-nothing (same_tid tid g) i in
      (epoch home past, sealing q, inl (same_tid-equal tid g q, refl)));
  rises = (λ i. cc);
} where
  sealing : same_tid tid g ≡ true → IsSealing home g past (Ev.Give (To.Prepare tid e n)) (epoch home past)
  sealing q = of_same (λ u. IsSealing home u past (Ev.Give (To.Prepare tid e n)) (epoch home past)) tid g
      (record {
        up = up;
        n = n;
        taken = ap
            (λ k. Ev.Give (To.Prepare tid k n)) here;
        epoch = refl;
        doubt = free;
        run = run;
        live = alive;
      }) q

  line : EngineLine
  line = Seals tid (number_of home past run)

  held : Held
  held = record { tid = tid; epoch = epoch home past; number = number_of home past run; ticket = ticket; writes = puts_of run.acts }

  by_test : (q : Bool) → same_tid tid g ≡ q → Shut home g past
      → ((false || (false || false) || is_closed past g) || is_some
      (cond (same_tid tid g) (Some held) (doubt_of (records home past) g))) ≡ true
      → live_one (run_at (epoch_start home past) (line ∷ engine_lines past) g) ≡ None
  by_test true q s h = ap live_one (this-line (epoch_start home past) (engine_lines past) g line q) ∙ sealed-now tid
      (number_of home past run) (run_at (epoch_start home past) (engine_lines past) g)
  by_test false q s h =
      ap live_one (other-line (epoch_start home past) (engine_lines past) g line q).0
      ∙ s.over (subst (λ b. (is_closed past g || is_some (cond b (Some held) (doubt_of (records home past) g))) ≡ true) q h)

by-seals_global : (home : Home) (g : Tid) (past : SitePast) (tid : Tid) (e n : ℕ) (run : Run) (ticket : ℕ) → is_down past ≡ false
    → doubt_of (records home past) tid ≡ None → live home past tid ≡ Some run → e ≡ epoch home past
    → Step home g past (Ev.Give (To.Prepare tid e n)) (seals_global home past tid e n run ticket)
unfolding seals_global
by-seals_global home g past tid e n run ticket up free alive here =
    step-given home g past (Ev.Give (To.Prepare tid e n)) _ _ _ (λ f. by-votes_yes home g past tid e n run ticket up free alive here)
    (λ why f. by-votes_no home g past tid e n (Some why) (Refuses tid why ∷ []) up
    (λ s. one-line home g past (Ev.Give (To.Prepare tid e n)) run (Refuses tid why) s alive (λ u. cc)))

by-prepare_live : (home : Home) (g : Tid) (past : SitePast) (tid : Tid) (e n : ℕ) (run : Run) → is_down past ≡ false
    → doubt_of (records home past) tid ≡ None → live home past tid ≡ Some run
    → Step home g past (Ev.Give (To.Prepare tid e n)) (prepare_live home past tid e n run)
unfolding prepare_live
by-prepare_live home g past tid e n run up free alive =
    step-when home g past (Ev.Give (To.Prepare tid e n)) _ _ _
    (λ b. step-given home g past (Ev.Give (To.Prepare tid e n)) _ _ _ (λ f. by-no_again home g past tid e n up)
    (λ ticket f. by-seals_global home g past tid e n run ticket up free alive
    (eqb-true e (epoch home past) (and_parts (e == epoch home past) (n == done run) b).0)))
    (λ b. by-no_again home g past tid e n up)

pub by-prepare : (home : Home) (g : Tid) (past : SitePast) (tid : Tid) (e n : ℕ) → is_down past ≡ false
    → Step home g past (Ev.Give (To.Prepare tid e n)) (of_prepare home past tid e n)
unfolding of_prepare
by-prepare home g past tid e n up =
    step-given home g past (Ev.Give (To.Prepare tid e n)) _ _ _
    (λ free. step-given home g past (Ev.Give (To.Prepare tid e n)) _ _ _ (λ f. by-no_again home g past tid e n up)
    (λ run alive. by-prepare_live home g past tid e n run up free alive))
    (λ held doubt. step-when home g past (Ev.Give (To.Prepare tid e n)) _ _ _ (λ b. by-votes_again home g past tid e n held up doubt)
    (λ b. by-no_again home g past tid e n up))
