-- What a line of a site makes of the live run of one attempt, and what it answers of it.
use Rattle.std.proofs.Common.{◌≡◌, ◌⊎◌, ℕ, ◌+◌, Bool, true, false, cond, ◌||◌, is_some, Option, Some, None, List, [], ◌∷◌, ◌++◌, length, map, refl, ap, ◌∙◌, arith}
use Rattle.mdb_base.specs.declared.acts.PlainAct.{PlainAct}
use Rattle.mdb_base.specs.declared.acts.PlainAct.TheVariants.{Read, Write}
use Rattle.mdb_base.specs.declared.names.Tid.{Tid}
use Rattle.mdb_base.specs.declared.replies.Reply.{Reply}
use Rattle.mdb_base.specs.declared.replies.Reply.TheVariants as Reply_is
use Rattle.mdb_base.specs.Names.{same_tid}
use Rattle.mdb_base.specs.Words.{Each, some_of}
use Rattle.mdb_base.proofs.ForCallers.{length-map}
use Rattle.fed_rules.specs.declared.events.SiteEvent.{SiteEvent}
use Rattle.fed_rules.specs.declared.events.SiteEvent.TheVariants as Ev
use Rattle.fed_rules.specs.declared.messages.FromSite.{FromSite}
use Rattle.fed_rules.specs.declared.messages.FromSite.TheVariants as From
use Rattle.fed_rules.specs.declared.messages.ToSite.TheVariants as To
use Rattle.fed_rules.specs.Happenings.{stops, comes_up, is_down}
use Rattle.fed_rules.specs.Replies.{access_reply, ticket_reply, granted, or_reply, rule}
use Rattle.engine_laws.proofs.ForCallers.{IsStop, forms}
use Rattle.fed_rules.specs.Runs.{Start, EngineLine, Access, Run, has_ticket, tid_of, changed, run_at, published}
use Rattle.fed_rules.specs.Site.{done, is_over}
use Rattle.fed_rules.specs.SitePast.{SiteHappening, SitePast, records, epoch, epoch_start, engine_lines, live, live_one}
use Rattle.fed_rules.specs.SiteRecords.{Home, start_of}
use Rattle.site_history.specs.Accesses.{seals}
use Rattle.federation_laws.specs.Accesses.{act_of}
use Rattle.site_history.specs.Records.{IsPrepared}
use Rattle.federation_laws.proofs.CoordOps.{Matches}

-- the finished operations of a run, the last one first; nothing is done behind the taking of the ticket
abbrev pub run_ops : Run → List (Option Access)
run_ops run = cond (has_ticket run) (None ∷ map (λ access. Some access) run.acts) (map (λ access. Some access) run.acts)

abbrev pub ops_of : Option Run → List (Option Access)
ops_of None = []
ops_of (Some run) = run_ops run

-- they are as many as the site counts
pub done-ops : (run : Run) → done run ≡ length (run_ops run)
done-ops run = by_test (has_ticket run)
  where
    by_test : (t : Bool) → length run.acts + cond t 1 0 ≡ length (cond t (None ∷ map (λ access. Some access) run.acts) (map (λ access. Some access) run.acts))
    by_test true = (let e = length-map {B = Option Access} (λ access. Some access) run.acts in omega (arith, e))
    by_test false = (let e = length-map {B = Option Access} (λ access. Some access) run.acts in omega (arith, e))

-- the item has so many behind it
abbrev pub IsNth : {A : Type 0} → List A → ℕ → A → Type 0
IsNth [] n x = ⊥
IsNth (y ∷ ys) n x = ((n ≡ length ys) × (y ≡ x)) ⊎ IsNth ys n x

-- the operation was asked for with this event
abbrev pub IsFrom : Tid → SiteEvent → Option Access → ℕ → Type 0
IsFrom g event (Some access) n = (e : ℕ) × (event ≡ Ev.Give (To.Work g e n (act_of access)))
IsFrom g event None n = (e : ℕ) × (event ≡ Ev.Give (To.Take g e n))

-- one operation more, or none
abbrev pub Grown : Tid → SiteEvent → List (Option Access) → List (Option Access) → Type 0
Grown g event before now =
    (now ≡ before) ⊎ ((op : Option Access) × (now ≡ op ∷ before) × IsFrom g event op (length before))

-- a run that was live goes on, or one begins where the attempt is neither closed nor in doubt
pub record Goes (home : Home) (g : Tid) (past : SitePast) (event : SiteEvent) (x : SiteHappening) : Type 0 where
  pub plain : (stops x.answer || comes_up x.answer) ≡ false
  pub opens : live home past g ≡ None → (is_over home past g ≡ false) × (is_down past ≡ false)
  pub grown : Grown g event (ops_of (live home past g)) (ops_of (live home (x ∷ past) g))

-- no run is live any more: the attempt is closed or in doubt, or the site is down, or it has come up
pub record Ends (home : Home) (g : Tid) (past : SitePast) (x : SiteHappening) : Type 0 where
  pub none : live home (x ∷ past) g ≡ None
  pub shut : (is_over home (x ∷ past) g ≡ true) ⊎ ((is_down (x ∷ past) ≡ true) ⊎ (comes_up x.answer ≡ true))

pub data Move (home : Home) (g : Tid) (past : SitePast) (event : SiteEvent) (x : SiteHappening) : Type 0 where
  Same : live home (x ∷ past) g ≡ live home past g → Move home g past event x
  Going : Goes home g past event x → Move home g past event x
  Ending : Ends home g past x → Move home g past event x

-- whether the reply finishes an operation
abbrev pub finishes : Reply → Bool
finishes (Reply_is.Value value) = true
finishes Reply_is.Done = true
finishes (Reply_is.Ticket ticket) = true
finishes reply = false

-- what a reply says is done, and a yes vote is kept
abbrev pub Says : Home → Tid → SitePast → SiteHappening → FromSite → Type 0
Says home g past x (From.Did tid e n reply) = tid ≡ g → (e ≡ epoch home past) × (finishes reply ≡ true → (op : Option Access) × IsNth (ops_of (live home (x ∷ past) g)) n op × Matches reply op)
Says home g past x (From.Vote tid (Some ticket)) = tid ≡ g → IsPrepared (records home (x ∷ past)) g ticket
Says home g past x message = Unit {0}

-- the line seals the live run, which has its ticket, at a Prepare that names the epoch and all that is done
pub record IsSealing (home : Home) (g : Tid) (past : SitePast) (event : SiteEvent) : Type 0 where
  pub e : ℕ
  pub n : ℕ
  pub taken : event ≡ Ev.Give (To.Prepare g e n)
  pub epoch_is : e ≡ epoch home past
  pub run : Run
  pub is_live : live home past g ≡ Some run
  pub all : n ≡ done run

-- what a line makes of an attempt
pub record Moves (home : Home) (g : Tid) (past : SitePast) (event : SiteEvent) (x : SiteHappening) : Type 0 where
  pub heard : x.event ≡ event
  pub move : Move home g past event x
  pub says : Each (Says home g past x) x.sends
  pub sealing : some_of (seals g) x.calls ≡ true → IsSealing home g past event
  pub calm : (stops x.answer || comes_up x.answer) ≡ false → epoch home (x ∷ past) ≡ epoch home past

-- the reply is one that the act can have from an engine
abbrev pub Fits : PlainAct → Reply → Type 0
Fits act (Reply_is.Wait by) = Unit {0}
Fits act (Reply_is.Refused why) = Unit {0}
Fits (Read key) (Reply_is.Value value) = Unit {0}
Fits (Write key value) Reply_is.Done = Unit {0}
Fits act reply = ⊥

-- each reply to an access fits it
pub access-fits : (start : Start) (lines : List EngineLine) (me : Run) (act : PlainAct) → Fits act (access_reply start lines me act)
access-fits start lines me (Read key) = by_stop ((rule start.kind).access start lines me (Read key)) ((forms start.kind).access start lines me (Read key))
  where
    by_stop : (o : Option Reply) → IsStop o → Fits (Read key) (or_reply o (granted start lines me (Read key)))
    by_stop None s = tt
    by_stop (Some (Reply_is.Wait by)) s = tt
    by_stop (Some (Reply_is.Refused why)) s = tt
    by_stop (Some (Reply_is.Value value)) s = absurd s
    by_stop (Some Reply_is.Done) s = absurd s
    by_stop (Some (Reply_is.Ticket ticket)) s = absurd s
    by_stop (Some Reply_is.Unknown) s = absurd s
access-fits start lines me (Write key value) = by_stop ((rule start.kind).access start lines me (Write key value)) ((forms start.kind).access start lines me (Write key value))
  where
    by_stop : (o : Option Reply) → IsStop o → Fits (Write key value) (or_reply o (granted start lines me (Write key value)))
    by_stop None s = tt
    by_stop (Some (Reply_is.Wait by)) s = tt
    by_stop (Some (Reply_is.Refused why)) s = tt
    by_stop (Some (Reply_is.Value v)) s = absurd s
    by_stop (Some Reply_is.Done) s = absurd s
    by_stop (Some (Reply_is.Ticket ticket)) s = absurd s
    by_stop (Some Reply_is.Unknown) s = absurd s

abbrev pub FitsTicket : Reply → Type 0
FitsTicket (Reply_is.Wait by) = Unit {0}
FitsTicket (Reply_is.Refused why) = Unit {0}
FitsTicket (Reply_is.Ticket ticket) = Unit {0}
FitsTicket reply = ⊥

pub ticket-fits : (start : Start) (lines : List EngineLine) (me : Run) → FitsTicket (ticket_reply start lines me)
ticket-fits start lines me = by_stop ((rule start.kind).ticket start lines me) ((forms start.kind).ticket start lines me)
  where
    by_stop : (o : Option Reply) → IsStop o → FitsTicket (or_reply o (Reply_is.Ticket (published start lines + 1)))
    by_stop None s = tt
    by_stop (Some (Reply_is.Wait by)) s = tt
    by_stop (Some (Reply_is.Refused why)) s = tt
    by_stop (Some (Reply_is.Value value)) s = absurd s
    by_stop (Some Reply_is.Done) s = absurd s
    by_stop (Some (Reply_is.Ticket ticket)) s = absurd s
    by_stop (Some Reply_is.Unknown) s = absurd s

pub unsealed-live : (run : Run) → run.sealed ≡ None → live_one (Some run) ≡ Some run
unsealed-live run e = ap (λ s. cond (is_some s) None (Some run)) e

-- lines of other attempts leave the live run
pub others-run : (start : Start) (older lines : List EngineLine) (g tid : Tid) → same_tid tid g ≡ false → Each (λ line. tid_of line ≡ tid) lines → run_at start (lines ++ older) g ≡ run_at start older g
others-run start older [] g tid e h = refl
others-run start older (line ∷ lines) g tid e h =
    ap (λ t. cond (same_tid t g) (changed line (run_at start (lines ++ older) g)) (run_at start (lines ++ older) g)) h.0
    ∙ (ap (λ b. cond b (changed line (run_at start (lines ++ older) g)) (run_at start (lines ++ older) g)) e ∙ others-run start older lines g tid e h.1)

-- the live run after a line that neither stops nor starts the site
pub live-next : (home : Home) (past : SitePast) (x : SiteHappening) (g : Tid) → (stops x.answer || comes_up x.answer) ≡ false → live home (x ∷ past) g ≡ live_one (run_at (epoch_start home past) (x.lines ++ engine_lines past) g)
live-next home past x g e =
    ap (λ t. live_one (run_at (cond t (start_of home (records home (x ∷ past))) (epoch_start home past)) (cond t [] (x.lines ++ engine_lines past)) g)) e
