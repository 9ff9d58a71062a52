-- Each line of a site, also one that a stop ends: what it makes of one attempt that isn't local there.
use Rattle.std.proofs.Common.{◌≡◌, ℕ, ◌==◌, Bool, true, false, cond, ◌||◌, is_some, Option, Some, None, List, [], ◌∷◌, inl, inr, refl, sym, ap, subst, ◌∙◌, eqb-true}
use Rattle.std.proofs.lemmas.Bool.{or_left, or_right, and_parts}
use Rattle.mdb_base.specs.declared.names.Tid.{Tid}
use Rattle.mdb_base.specs.declared.replies.Why.{Why}
use Rattle.mdb_base.specs.Names.{same_tid}
use Rattle.mdb_base.specs.Words.{Each, some_of}
use Rattle.mdb_base.proofs.ForCallers.{same_tid-equal, same_tid-refl}
use Rattle.presumptions.specs.declared.Decision.{Decision}
use Rattle.presumptions.specs.declared.Decision.TheVariants as Decided
use Rattle.presumptions.specs.Table.{forces, acks}
use Rattle.fed_rules.specs.declared.answers.Answer.{Answer}
use Rattle.fed_rules.specs.declared.events.SiteEvent.{SiteEvent}
use Rattle.fed_rules.specs.declared.events.SiteEvent.TheVariants as Ev
use Rattle.fed_rules.specs.declared.messages.FromSite.{FromSite}
use Rattle.fed_rules.specs.declared.messages.FromSite.TheVariants as From
use Rattle.fed_rules.specs.declared.messages.ToSite.TheVariants as To
use Rattle.fed_rules.specs.declared.records.SiteRecord.{SiteRecord}
use Rattle.fed_rules.specs.declared.records.SiteRecord.TheVariants as Rec
use Rattle.fed_rules.specs.Disk.{Call, Append, Sync, CutBack, TrimFront, Stops, after_call}
use Rattle.fed_rules.specs.Happenings.{quiet, stops, comes_up}
use Rattle.fed_rules.specs.Runs.{EngineLine, Seals, Refuses, Aborts, Run, tid_of, changed, puts_of}
use Rattle.fed_rules.specs.Site.{votes_again, votes_no, votes_yes, seals_global, prepare_live, of_prepare, done, ack_of, settling_line, settles, unheld, of_decide, of_ask, of_drop, number_of}
use Rattle.fed_rules.specs.SitePast.{SiteHappening, SitePast, disk, records, epoch, epoch_start, engine_lines, run_of, live, live_one, ends, is_closed}
use Rattle.fed_rules.specs.SiteRecords.{Home, Held, site_frame, epoch_of, doubt_of}
use Rattle.commit_laws.proofs.ForCallers.{given-up, settling-tid}
use Rattle.site_history.specs.Accesses.{seals}
use Rattle.site_history.specs.Records.{IsPrepared}
use Rattle.federation_laws.proofs.SiteAbout.{Speaks, SealsOnly, IsAbout}
use Rattle.federation_laws.proofs.SiteMoves.{Same, Ending, Says, IsSealing, Moves, others-run, live-next}
use Rattle.site_history.proofs.ForCallers.{ended_records, live_is}
use Rattle.federation_laws.proofs.SiteOperations.{moves_when, moves_given}

-- a record of another attempt doesn't seal this one
pub no-seals : (tid g : Tid) (calls : List (Call SiteRecord)) → same_tid tid g ≡ false → Each (SealsOnly tid) calls → some_of (seals g) calls ≡ false
no-seals tid g [] e h = refl
no-seals tid g (Append (Rec.Prepared of epoch number ticket writes) ∷ calls) e h = ap (λ t. t || some_of (seals g) calls) (ap (λ t. same_tid t g) h.0 ∙ e) ∙ no-seals tid g calls e h.1
no-seals tid g (Append (Rec.Local of number writes) ∷ calls) e h = ap (λ t. t || some_of (seals g) calls) (ap (λ t. same_tid t g) h.0 ∙ e) ∙ no-seals tid g calls e h.1
no-seals tid g (Append (Rec.Setup site engine protocol items) ∷ calls) e h = no-seals tid g calls e h.1
no-seals tid g (Append (Rec.Checkpoint sum) ∷ calls) e h = no-seals tid g calls e h.1
no-seals tid g (Append (Rec.Start epoch) ∷ calls) e h = no-seals tid g calls e h.1
no-seals tid g (Append (Rec.Ended of decision) ∷ calls) e h = no-seals tid g calls e h.1
no-seals tid g (Sync ∷ calls) e h = no-seals tid g calls e h.1
no-seals tid g (CutBack ∷ calls) e h = no-seals tid g calls e h.1
no-seals tid g (TrimFront ∷ calls) e h = no-seals tid g calls e h.1
no-seals tid g (Stops cut ∷ calls) e h = no-seals tid g calls e h.1

no-says : (home : Home) (past : SitePast) (x : SiteHappening) (tid g : Tid) (sends : List FromSite) → same_tid tid g ≡ false → Each (Speaks tid) sends → Each (Says home g past x) sends
no-says home past x tid g [] e h = tt
no-says home past x tid g (From.Did of epoch n reply ∷ sends) e h = ((λ own. absurd (let same : same_tid tid g ≡ true = subst (λ t. same_tid t g ≡ true) (h.0) (subst (λ t. same_tid of t ≡ true) own (same_tid-refl of)) in cc)), no-says home past x tid g sends e h.1)
no-says home past x tid g (From.Vote of None ∷ sends) e h = (tt, no-says home past x tid g sends e h.1)
no-says home past x tid g (From.Vote of (Some ticket) ∷ sends) e h = ((λ own. absurd (let same : same_tid tid g ≡ true = subst (λ t. same_tid t g ≡ true) (h.0) (subst (λ t. same_tid of t ≡ true) own (same_tid-refl of)) in cc)), no-says home past x tid g sends e h.1)
no-says home past x tid g (From.Ack of ∷ sends) e h = (tt, no-says home past x tid g sends e h.1)
no-says home past x tid g (From.Inquiry of ∷ sends) e h = (tt, no-says home past x tid g sends e h.1)

-- a line about another attempt
pub other_moves : (home : Home) (g : Tid) (past : SitePast) (event : SiteEvent) (tid : Tid) (x : SiteHappening) → x.event ≡ event → IsAbout home past tid x → same_tid tid g ≡ false → Moves home g past event x
other_moves home g past event tid x h a e =
    record {
      heard = h;
      move = Same (live-next home past x g a.plain ∙ ap live_one (others-run (epoch_start home past) (engine_lines past) x.lines g tid e a.lines));
      says = no-says home past x tid g x.sends e a.sends;
      sealing = λ s. (let none = no-seals tid g x.calls e a.calls in let clash = sym none ∙ s in cc);
      calm = λ p. a.calm;
    }

-- a held one is prepared
pub doubt-prepared : (rs : List SiteRecord) (g : Tid) (held : Held) → doubt_of rs g ≡ Some held → IsPrepared rs g held.ticket
doubt-prepared [] g held e = cc
doubt-prepared (Rec.Prepared tid epoch number ticket writes ∷ rs) g held e = by_test (same_tid tid g) refl e (doubt-prepared rs g held)
  where
    by_test : (t : Bool) → same_tid tid g ≡ t → cond t (Some (record { tid = tid; epoch = epoch; number = number; ticket = ticket; writes = writes })) (doubt_of rs g) ≡ Some held
        → (doubt_of rs g ≡ Some held → IsPrepared rs g held.ticket) → IsPrepared (Rec.Prepared tid epoch number ticket writes ∷ rs) g held.ticket
    by_test true q e k =
        let same = same_tid-equal tid g q in
        let is : record { tid = tid; epoch = epoch; number = number; ticket = ticket; writes = writes } ≡ held = cc in
        record { epoch = epoch; number = number; writes = writes; kept = inl (ap (λ t. Rec.Prepared t epoch number ticket writes) same ∙ ap (λ (h : Held). Rec.Prepared g epoch number h.ticket writes) is) }
    by_test false q e k = let p = k e in record { epoch = p.epoch; number = p.number; writes = p.writes; kept = inr p.kept }
doubt-prepared (Rec.Ended tid decision ∷ rs) g held e = by_test (same_tid tid g) e (doubt-prepared rs g held)
  where
    by_test : (t : Bool) → cond t None (doubt_of rs g) ≡ Some held → (doubt_of rs g ≡ Some held → IsPrepared rs g held.ticket) → IsPrepared (Rec.Ended tid decision ∷ rs) g held.ticket
    by_test true e k = cc
    by_test false e k = let p = k e in record { epoch = p.epoch; number = p.number; writes = p.writes; kept = inr p.kept }
doubt-prepared (Rec.Setup site engine protocol items ∷ rs) g held e = let p = doubt-prepared rs g held e in record { epoch = p.epoch; number = p.number; writes = p.writes; kept = inr p.kept }
doubt-prepared (Rec.Checkpoint sum ∷ rs) g held e = let p = doubt-prepared rs g held e in record { epoch = p.epoch; number = p.number; writes = p.writes; kept = inr p.kept }
doubt-prepared (Rec.Start epoch ∷ rs) g held e = let p = doubt-prepared rs g held e in record { epoch = p.epoch; number = p.number; writes = p.writes; kept = inr p.kept }
doubt-prepared (Rec.Local tid number writes ∷ rs) g held e = let p = doubt-prepared rs g held e in record { epoch = p.epoch; number = p.number; writes = p.writes; kept = inr p.kept }

-- a no vote
no_moves : (home : Home) (g : Tid) (past : SitePast) (e n : ℕ) (why : Option Why) → Moves home g past (Ev.Give (To.Prepare g e n)) (votes_no g e n why [])
unfolding votes_no
no_moves home g past e n why = record { heard = refl; move = Same refl; says = (tt, tt); sealing = λ s. cc; calm = λ p. refl }

pub own-line : (g : Tid) (line : EngineLine) (old : Option Run) → tid_of line ≡ g → live_one (cond (same_tid (tid_of line) g) (changed line old) old) ≡ live_one (changed line old)
own-line g line old t = ap (λ z. live_one (cond (same_tid z g) (changed line old) old)) t ∙ ap (λ b. live_one (cond b (changed line old) old)) (same_tid-refl g)

-- a refused sealing
refuses_moves : (home : Home) (g : Tid) (past : SitePast) (e n : ℕ) (why : Why) → Moves home g past (Ev.Give (To.Prepare g e n)) (votes_no g e n (Some why) (Refuses g why ∷ []))
unfolding votes_no
refuses_moves home g past e n why =
    record {
      heard = refl;
      move = Ending (record {
        none = own-line g (Refuses g why) (run_of home past g) refl ∙ given-up (Refuses g why) (run_of home past g) refl;
        shut = inl (or_left ((same_tid g g || false) || is_closed past g) (is_some (doubt_of (records home past) g)) (or_left (same_tid g g || false) (is_closed past g) (or_left (same_tid g g) false (same_tid-refl g))));
      });
      says = (tt, tt);
      sealing = λ s. cc;
      calm = λ p. refl;
    }

-- a sealing
yes_moves : (home : Home) (g : Tid) (past : SitePast) (e n : ℕ) (run : Run) (ticket : ℕ) → live home past g ≡ Some run → e ≡ epoch home past → n ≡ done run → Moves home g past (Ev.Give (To.Prepare g e n)) (votes_yes home past g e n run ticket)
unfolding votes_yes
yes_moves home g past e n run ticket alive known all =
    record {
      heard = refl;
      move = Ending (record {
        none = own-line g (Seals g (number_of home past run)) (run_of home past g) refl ∙ ap (λ o. live_one (changed (Seals g (number_of home past run)) o)) (live_is (run_of home past g) run alive).0;
        shut = inl (or_right (is_closed (votes_yes home past g e n run ticket ∷ past) g) _ (ap (λ t. is_some (cond t (Some held) (doubt_of (records home past) g))) (same_tid-refl g)));
      });
      says = ((λ own. record { epoch = epoch home past; number = number_of home past run; writes = _; kept = inl refl }), tt);
      sealing = λ s. record { e = e; n = n; taken = refl; epoch_is = known; run = run; is_live = alive; all = all };
      calm = λ p. refl;
    }
  where
    held : Held
    held = record { tid = g; epoch = epoch home past; number = number_of home past run; ticket = ticket; writes = puts_of run.acts }

again_moves : (home : Home) (g : Tid) (past : SitePast) (e n : ℕ) (held : Held) → doubt_of (records home past) g ≡ Some held → Moves home g past (Ev.Give (To.Prepare g e n)) (votes_again g e n held)
unfolding votes_again
again_moves home g past e n held d =
    record { heard = refl; move = Same refl; says = ((λ own. doubt-prepared (records home past) g held d), tt); sealing = λ s. cc; calm = λ p. refl }

-- a Prepare of the attempt
pub prepare_moves : (home : Home) (g : Tid) (past : SitePast) (e n : ℕ) → Moves home g past (Ev.Give (To.Prepare g e n)) (of_prepare home past g e n)
unfolding of_prepare prepare_live seals_global
prepare_moves home g past e n =
    moves_given home g past _ _ _ _
    (λ none. moves_given home g past _ _ _ _ (λ dead. no_moves home g past e n None)
    (λ run alive. moves_when home g past _ _ _ _
    (λ t. moves_given home g past _ _ _ _ (λ no_ticket. no_moves home g past e n None)
    (λ ticket is. moves_given home g past _ _ _ _
    (λ free. yes_moves home g past e n run ticket alive (eqb-true e (epoch home past) (and_parts (e == epoch home past) (n == done run) t).0) (eqb-true n (done run) (and_parts (e == epoch home past) (n == done run) t).1))
    (λ why stop. refuses_moves home g past e n why)))
    (λ t. no_moves home g past e n None)))
    (λ held d. moves_when home g past _ _ _ _ (λ t. again_moves home g past e n held d) (λ t. no_moves home g past e n None))

ack-says : (home : Home) (g : Tid) (past : SitePast) (x : SiteHappening) (tid : Tid) (decision : Decision) → Each (Says home g past x) (ack_of home tid decision)
ack-says home g past x tid decision = by_test (acks home.protocol decision)
  where
    by_test : (t : Bool) → Each (Says home g past x) (cond t (From.Ack tid ∷ []) [])
    by_test true = (tt, tt)
    by_test false = tt

-- a decision on what isn't sealed
unheld_moves : (home : Home) (g : Tid) (past : SitePast) (decision : Decision) → Moves home g past (Ev.Give (To.Decide g decision)) (unheld home g decision [])
unfolding unheld
unheld_moves home g past decision = record { heard = refl; move = Same refl; says = ack-says home g past (unheld home g decision []) g decision; sealing = λ s. cc; calm = λ p. refl }

closed-decided : (home : Home) (g : Tid) (past : SitePast) (lines closed doubt : Bool) → (((same_tid g g || lines) || closed) || doubt) ≡ true
closed-decided home g past lines closed doubt =
    or_left ((same_tid g g || lines) || closed) doubt (or_left (same_tid g g || lines) closed (or_left (same_tid g g) lines (same_tid-refl g)))

unheld_aborts : (home : Home) (g : Tid) (past : SitePast) (decision : Decision) → Moves home g past (Ev.Give (To.Decide g decision)) (unheld home g decision (Aborts g ∷ []))
unfolding unheld
unheld_aborts home g past decision =
    record {
      heard = refl;
      move = Ending (record {
        none = own-line g (Aborts g) (run_of home past g) refl ∙ given-up (Aborts g) (run_of home past g) refl;
        shut = inl (closed-decided home g past (some_of (ends g) (Aborts g ∷ [])) (is_closed past g) _);
      });
      says = ack-says home g past (unheld home g decision (Aborts g ∷ [])) g decision;
      sealing = λ s. cc;
      calm = λ p. refl;
    }

pub settled-none : (g : Tid) (decision : Decision) (old : Option Run) → live_one (changed (settling_line g decision) old) ≡ None
settled-none g Decided.Commit None = refl
settled-none g Decided.Commit (Some run) = refl
settled-none g Decided.Abort None = refl
settled-none g Decided.Abort (Some run) = refl

settles_moves : (home : Home) (g : Tid) (past : SitePast) (decision : Decision) → Moves home g past (Ev.Give (To.Decide g decision)) (settles home g decision)
unfolding settles
settles_moves home g past decision =
    record {
      heard = refl;
      move = Ending (record {
        none = own-line g (settling_line g decision) (run_of home past g) (settling-tid g decision) ∙ settled-none g decision (run_of home past g);
        shut = inl (closed-decided home g past (some_of (ends g) (settling_line g decision ∷ [])) (is_closed past g) _);
      });
      says = ack-says home g past (settles home g decision) g decision;
      sealing = λ s. by_test (forces home.protocol decision) s;
      calm = λ p. ap epoch_of (ended_records (after_call site_frame (disk home past) (Append (Rec.Ended g decision))) (forces home.protocol decision));
    }
  where
    by_test : (t : Bool) → some_of (seals g) (cond t (Sync ∷ []) []) ≡ true → IsSealing home g past (Ev.Give (To.Decide g decision))
    by_test true s = cc
    by_test false s = cc

pub decide_moves : (home : Home) (g : Tid) (past : SitePast) (decision : Decision) → Moves home g past (Ev.Give (To.Decide g decision)) (of_decide home past g decision)
unfolding of_decide
decide_moves home g past decision =
    moves_given home g past _ _ _ _
    (λ none. moves_given home g past _ _ _ _ (λ dead. unheld_moves home g past decision) (λ run alive. unheld_aborts home g past decision))
    (λ held d. settles_moves home g past decision)

-- a line without engine lines, replies and records
pub plain_moves : (home : Home) (g : Tid) (past : SitePast) (event : SiteEvent) (answer : Answer) → (stops answer || comes_up answer) ≡ false → Moves home g past event (quiet event answer)
plain_moves home g past event answer e =
    record { heard = refl; move = Same (live-next home past (quiet event answer) g e); says = tt; sealing = λ s. cc; calm = λ p. refl }

pub ask_moves : (home : Home) (g : Tid) (past : SitePast) (tid : Tid) → Moves home g past (Ev.Ask tid) (of_ask home past tid)
unfolding of_ask
ask_moves home g past tid =
    moves_given home g past _ _ _ _ (λ none. plain_moves home g past _ _ refl)
    (λ held d. record { heard = refl; move = Same refl; says = (tt, tt); sealing = λ s. cc; calm = λ p. refl })

pub drop_moves : (home : Home) (g : Tid) (past : SitePast) → Moves home g past (Ev.Drop g) (of_drop home past g)
unfolding of_drop
drop_moves home g past =
    moves_when home g past _ _ _ _ (λ t. plain_moves home g past _ _ refl) (λ t.
    moves_given home g past _ _ _ _ (λ none. plain_moves home g past _ _ refl)
    (λ run alive. record {
      heard = refl;
      move = Ending (record {
        none = own-line g (Aborts g) (run_of home past g) refl ∙ given-up (Aborts g) (run_of home past g) refl;
        shut = inl (or_left ((same_tid g g || false) || is_closed past g) (is_some (doubt_of (records home past) g)) (or_left (same_tid g g || false) (is_closed past g) (or_left (same_tid g g) false (same_tid-refl g))));
      });
      says = tt;
      sealing = λ s. cc;
      calm = λ p. refl;
    }))
