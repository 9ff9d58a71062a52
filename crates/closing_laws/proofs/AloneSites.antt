-- A subtransaction that is alone at its site: its operations, its ticket and its Prepare are granted.
use Rattle.std.proofs.Common.{◌≡◌, ℕ, suc, ◌+◌, ◌<◌, ◌≤◌, Bool, true, false, cond, not, ◌&&◌, ◌||◌, ◌==◌, nat_lt, is_some, Option, Some, None, List, [], ◌∷◌, length, refl, sym, ap, ap₂, subst, ◌∙◌, arith, eq-eqb}
use Rattle.std.proofs.lemmas.Bool.{le-ltb}
use Rattle.mdb_base.specs.declared.acts.PlainAct.{PlainAct}
use Rattle.mdb_base.specs.declared.acts.PlainAct.TheVariants.{Read, Write}
use Rattle.mdb_base.specs.declared.names.Tid.{Tid}
use Rattle.mdb_base.specs.declared.replies.Reply.TheVariants as Reply_is
use Rattle.mdb_base.specs.Names.{same_tid}
use Rattle.mdb_base.specs.Words.{Each}
use Rattle.mdb_base.proofs.ForCallers.{cond-false, cond-true, given_none, given_some, when-false, when-true}
use Rattle.fed_rules.specs.declared.messages.FromSite.{FromSite}
use Rattle.fed_rules.specs.declared.messages.FromSite.TheVariants as From
use Rattle.fed_rules.specs.declared.messages.ToSite.TheVariants as To
use Rattle.fed_rules.specs.Happenings.{stops}
use Rattle.fed_rules.specs.Replies.{granted}
use Rattle.fed_rules.specs.Runs.{Start, EngineLine, Begins, Acts, Takes, Seals, Run, run_at, begun, committed, aborted, published, changed, has_ticket}
use Rattle.fed_rules.specs.Site.{did, first_work, next_work, next_take, is_over, work_live, of_work, take_live, of_take, votes_yes, seals_global, prepare_live, of_prepare, next_number, number_of, done}
use Rattle.fed_rules.specs.SitePast.{SiteHappening, SitePast, records, epoch, epoch_start, engine_lines, run_of, live_one, live, is_closed, ends, trip_of}
use Rattle.fed_rules.specs.SiteRecords.{Home, Held, doubt_of}
use Rattle.engine_laws.proofs.ForCallers.{IsAlone, access_granted, access_of, acts_alone, begins_alone, seal_free, takes_alone, ticket_granted}
use Rattle.closing_laws.proofs.LocalAlone.{alone_live}

-- no run is unended, and what ended is older than what begins next
pub record IsIdle (home : Home) (past : SitePast) : Type 0 where
  pub none : (tid : Tid) → run_of home past tid ≡ None
  pub committed : Each (λ run. run.age < next_number home past) (committed (epoch_start home past) (engine_lines past))
  pub aborted : Each (λ run. run.age < next_number home past) (aborted (epoch_start home past) (engine_lines past))

-- how far an attempt has come at a site where it is alone: so many of its operations have counted, of this epoch, with or without the ticket and the vote
pub data Stage (home : Home) (past : SitePast) (g : Tid) (c e : ℕ) (t : Bool) (v : Option ℕ) : Type 0 where
  NotYet : IsIdle home past → is_over home past g ≡ false → c ≡ 0 → e ≡ 0 → t ≡ false → v ≡ None → Stage home past g c e t v
  Running : (me : Run) → me.tid ≡ g → IsAlone (epoch_start home past) (engine_lines past) me → is_over home past g ≡ false → done me ≡ c → epoch home past ≡ e → has_ticket me ≡ t → v ≡ None
      → Stage home past g c e t v
  Sealed : ((tid : Tid) → live home past tid ≡ None) → (n : ℕ) → v ≡ Some n → Stage home past g c e t v

-- the attempt isn't over
not_over : (home : Home) (past : SitePast) (g : Tid) → is_over home past g ≡ false → (is_closed past g ≡ false) × (doubt_of (records home past) g ≡ None)
not_over home past g e = parts (is_closed past g) (doubt_of (records home past) g) e
  where
    parts : (b : Bool) (o : Option Held) → (b || is_some o) ≡ false → (b ≡ false) × (o ≡ None)
    parts true o f = cc
    parts false None f = (refl, refl)
    parts false (Some held) f = cc

-- a granted access ends nothing
granted_ends : (start : Start) (lines : List EngineLine) (me : Run) (g : Tid) (act : PlainAct) → ends g (Acts g act (granted start lines me act)) ≡ false
granted_ends start lines me g (Read key) = refl
granted_ends start lines me g (Write key value) = refl

-- what an operation sends
pub record Sends (x : SiteHappening) (message : FromSite) : Type 0 where
  pub sends : x.sends ≡ message ∷ []
  pub stays : stops x.answer ≡ false
  pub unarmed : trip_of x.event ≡ None
  pub same_records : x.calls ≡ []

module _ (home : Home) (past : SitePast) (g : Tid) (act : PlainAct) where
  -- the first operation begins the run
  pub first_line : SiteHappening
  first_line =
      did home past (To.Work g 0 0 act) g 0 (granted (epoch_start home past) (Begins g (next_number home past) ∷ engine_lines past) (begun g (next_number home past)) act)
      (Acts g act (granted (epoch_start home past) (Begins g (next_number home past) ∷ engine_lines past) (begun g (next_number home past)) act) ∷ Begins g (next_number home past) ∷ [])

  first_alone : IsIdle home past → IsAlone (epoch_start home past) (Begins g (next_number home past) ∷ engine_lines past) (begun g (next_number home past))
  first_alone idle = begins_alone (epoch_start home past) (engine_lines past) g (next_number home past) idle.none idle.committed idle.aborted

  pub first_is : IsIdle home past → is_over home past g ≡ false → of_work home past g 0 0 act ≡ first_line
  unfolding of_work first_work first_line
  first_is idle over =
      when-false _ _ _ over
      ∙ (given_none _ _ _ (ap live_one (idle.none g))
      ∙ (when-true ((0 == 0) && (0 == 0)) _ _ refl
      ∙ ap (λ reply. did home past (To.Work g 0 0 act) g 0 reply (Acts g act reply ∷ Begins g (next_number home past) ∷ []))
      (access_granted (epoch_start home past) (Begins g (next_number home past) ∷ engine_lines past) (begun g (next_number home past)) (first_alone idle) act)))

  pub first_stage : IsIdle home past → is_over home past g ≡ false → Stage home (first_line ∷ past) g 1 (epoch home past) false None
  unfolding first_line did
  first_stage idle over =
      let parts = not_over home past g over in
      Running (record (begun g (next_number home past)) { acts = access_of (epoch_start home past) (Begins g (next_number home past) ∷ engine_lines past) (begun g (next_number home past)) act ∷ [] }) refl
      (acts_alone (epoch_start home past) (Begins g (next_number home past) ∷ engine_lines past) (begun g (next_number home past)) act (first_alone idle))
      (ap₂ (λ (a b : Bool). a || b)
      (ap (λ b. b || false || is_closed past g) (granted_ends (epoch_start home past) (Begins g (next_number home past) ∷ engine_lines past) (begun g (next_number home past)) g act) ∙ parts.0)
      (ap is_some parts.1)) refl refl refl refl

  pub first_sends : Sends first_line (From.Did g (epoch home past) 0 (granted (epoch_start home past) (Begins g (next_number home past) ∷ engine_lines past) (begun g (next_number home past)) act))
  unfolding first_line did
  first_sends = record { sends = refl; stays = refl; unarmed = refl; same_records = refl }

module _ (home : Home) (past : SitePast) (g : Tid) (me : Run) (act : PlainAct) where
  -- a further operation
  pub next_line : SiteHappening
  next_line =
      did home past (To.Work g (epoch home past) (done me) act) g (done me) (granted (epoch_start home past) (engine_lines past) me act)
      (Acts g act (granted (epoch_start home past) (engine_lines past) me act) ∷ [])

  pub next_is : me.tid ≡ g → IsAlone (epoch_start home past) (engine_lines past) me → is_over home past g ≡ false → has_ticket me ≡ false → done me ≤ 31
      → of_work home past g (epoch home past) (done me) act ≡ next_line
  unfolding of_work work_live next_work next_line
  next_is named alone over ticketless few =
      when-false _ _ _ over
      ∙ (given_some (live home past g) _ _ me (ap (live home past) (sym named) ∙ alone_live home past me alone)
      ∙ (when-false _ _ _ (fits (epoch home past == epoch home past) (has_ticket me) (nat_lt 31 (done me)) (eq-eqb (epoch home past) (epoch home past) refl) ticketless (le-ltb 31 (done me) few))
      ∙ (when-true _ _ _ (eq-eqb (done me) (done me) refl)
      ∙ ap (λ reply. did home past (To.Work g (epoch home past) (done me) act) g (done me) reply (Acts g act reply ∷ [])) (access_granted (epoch_start home past) (engine_lines past) me alone act))))
    where
      fits : (a b c : Bool) → a ≡ true → b ≡ false → c ≡ false → (not (a || ((epoch home past == 0) && (done me == 0))) || b || c) ≡ false
      fits true false false p q r = refl
      fits false b c p q r = cc
      fits true true c p q r = cc
      fits true false true p q r = cc

  pub next_stage : me.tid ≡ g → IsAlone (epoch_start home past) (engine_lines past) me → is_over home past g ≡ false → has_ticket me ≡ false
      → Stage home (next_line ∷ past) g (suc (done me)) (epoch home past) false None
  unfolding next_line did
  next_stage named alone over ticketless =
      let parts = not_over home past g over in
      Running (record me { acts = access_of (epoch_start home past) (engine_lines past) me act ∷ me.acts }) named
      (subst (λ t. IsAlone (epoch_start home past) (Acts t act (granted (epoch_start home past) (engine_lines past) me act) ∷ engine_lines past) (record me { acts = access_of (epoch_start home past) (engine_lines past) me act ∷ me.acts })) named
      (acts_alone (epoch_start home past) (engine_lines past) me act alone))
      (ap₂ (λ (a b : Bool). a || b) (ap (λ b. b || is_closed past g) (or_none (ends g (Acts g act (granted (epoch_start home past) (engine_lines past) me act))) (granted_ends (epoch_start home past) (engine_lines past) me g act)) ∙ parts.0) (ap is_some parts.1))
      (sums (length me.acts) (cond (has_ticket me) 1 0)) refl ticketless refl
    where
      sums : (n m : ℕ) → suc n + m ≡ suc (n + m)
      sums n m = omega arith

      or_none : (b : Bool) → b ≡ false → (b || false) ≡ false
      or_none true e = cc
      or_none false e = refl

  pub next_sends : Sends next_line (From.Did g (epoch home past) (done me) (granted (epoch_start home past) (engine_lines past) me act))
  unfolding next_line did
  next_sends = record { sends = refl; stays = refl; unarmed = refl; same_records = refl }

module _ (home : Home) (past : SitePast) (g : Tid) (me : Run) where
  -- the ticket
  pub ticket_line : SiteHappening
  ticket_line =
      did home past (To.Take g (epoch home past) (done me)) g (done me) (Reply_is.Ticket (published (epoch_start home past) (engine_lines past) + 1))
      (Takes g (Reply_is.Ticket (published (epoch_start home past) (engine_lines past) + 1)) ∷ [])

  pub ticket_is : me.tid ≡ g → IsAlone (epoch_start home past) (engine_lines past) me → is_over home past g ≡ false → has_ticket me ≡ false
      → of_take home past g (epoch home past) (done me) ≡ ticket_line
  unfolding of_take take_live next_take ticket_line
  ticket_is named alone over ticketless =
      when-false _ _ _ over
      ∙ (given_some (live home past g) _ _ me (ap (live home past) (sym named) ∙ alone_live home past me alone)
      ∙ (when-false _ _ _ (fits (epoch home past == epoch home past) (has_ticket me) (eq-eqb (epoch home past) (epoch home past) refl) ticketless)
      ∙ (when-true _ _ _ (eq-eqb (done me) (done me) refl)
      ∙ ap (λ reply. did home past (To.Take g (epoch home past) (done me)) g (done me) reply (Takes g reply ∷ [])) (ticket_granted (epoch_start home past) (engine_lines past) me alone))))
    where
      fits : (a b : Bool) → a ≡ true → b ≡ false → (not (a || ((epoch home past == 0) && (done me == 0))) || (b && (done me == done me))) ≡ false
      fits true false p q = refl
      fits false b p q = cc
      fits true true p q = cc

  pub ticket_stage : me.tid ≡ g → IsAlone (epoch_start home past) (engine_lines past) me → is_over home past g ≡ false → has_ticket me ≡ false
      → Stage home (ticket_line ∷ past) g (suc (done me)) (epoch home past) true None
  unfolding ticket_line did
  ticket_stage named alone over ticketless =
      let parts = not_over home past g over in
      Running (record me { ticket = Some (published (epoch_start home past) (engine_lines past) + 1) }) named
      (subst (λ t. IsAlone (epoch_start home past) (Takes t (Reply_is.Ticket (published (epoch_start home past) (engine_lines past) + 1)) ∷ engine_lines past) (record me { ticket = Some (published (epoch_start home past) (engine_lines past) + 1) })) named
      (takes_alone (epoch_start home past) (engine_lines past) me alone))
      (ap₂ (λ (a b : Bool). a || b) parts.0 (ap is_some parts.1))
      (sums (length me.acts) ∙ ap (λ b. suc (length me.acts + cond b 1 0)) (sym ticketless)) refl refl refl
    where
      sums : (n : ℕ) → n + 1 ≡ suc (n + 0)
      sums n = omega arith

  pub ticket_sends : Sends ticket_line (From.Did g (epoch home past) (done me) (Reply_is.Ticket (published (epoch_start home past) (engine_lines past) + 1)))
  unfolding ticket_line did
  ticket_sends = record { sends = refl; stays = refl; unarmed = refl; same_records = refl }

  -- the Prepare
  pub prepare_is : (n : ℕ) → me.tid ≡ g → IsAlone (epoch_start home past) (engine_lines past) me → is_over home past g ≡ false → me.ticket ≡ Some n
      → of_prepare home past g (epoch home past) (done me) ≡ votes_yes home past g (epoch home past) (done me) me n
  unfolding of_prepare prepare_live seals_global
  prepare_is n named alone over ticketed =
      given_none _ _ _ (not_over home past g over).1
      ∙ (given_some (live home past g) _ _ me (ap (live home past) (sym named) ∙ alone_live home past me alone)
      ∙ (when-true _ _ _ (ap₂ (λ (a b : Bool). a && b) (eq-eqb (epoch home past) (epoch home past) refl) (eq-eqb (done me) (done me) refl))
      ∙ (given_some me.ticket _ _ n ticketed
      ∙ given_none _ _ _ (seal_free (epoch_start home past) (engine_lines past) me alone home.engine))))

  pub prepare_stage : (n : ℕ) (c e : ℕ) (t : Bool) → me.tid ≡ g → IsAlone (epoch_start home past) (engine_lines past) me → Stage home (votes_yes home past g (epoch home past) (done me) me n ∷ past) g c e t (Some n)
  unfolding votes_yes
  prepare_stage n c e t named alone = Sealed (λ tid. by_test tid (same_tid g tid) refl) n refl
    where
      by_test : (tid : Tid) (b : Bool) → same_tid g tid ≡ b → live_one (cond (same_tid g tid) (changed (Seals g (number_of home past me)) (run_at (epoch_start home past) (engine_lines past) tid)) (run_at (epoch_start home past) (engine_lines past) tid)) ≡ None
      by_test tid true q = ap live_one (cond-true _ _ _ q) ∙ sealed (run_at (epoch_start home past) (engine_lines past) tid)
        where
          sealed : (o : Option Run) → live_one (changed (Seals g (number_of home past me)) o) ≡ None
          sealed None = refl
          sealed (Some run) = refl
      by_test tid false q = ap live_one (cond-false _ _ _ q ∙ alone.others tid (ap (λ u. same_tid u tid) named ∙ q))
