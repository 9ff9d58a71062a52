-- Operations at a site: what an act and the taking of the ticket make of the attempt's run.
use Rattle.std.proofs.Common.{◌≡◌, ℕ, ◌+◌, ◌==◌, Bool, true, false, cond, not, ◌&&◌, ◌||◌, nat_lt, is_some, Option, Some, None, List, [], ◌∷◌, length, map, inl, inr, refl, sym, ap, subst, ◌∙◌, eqb-true, arith}
use Rattle.std.proofs.lemmas.Bool.{or_left, or_right, and_parts, or_parts}
use Rattle.mdb_base.specs.declared.acts.PlainAct.{PlainAct}
use Rattle.mdb_base.specs.declared.acts.PlainAct.TheVariants.{Read, Write}
use Rattle.mdb_base.specs.declared.names.Tid.{Tid}
use Rattle.mdb_base.specs.declared.replies.Reply.{Reply}
use Rattle.mdb_base.specs.declared.replies.Reply.TheVariants as Reply_is
use Rattle.mdb_base.specs.Names.{same_tid}
use Rattle.mdb_base.specs.Words.{some_of, when, given}
use Rattle.mdb_base.proofs.ForCallers.{length-map, same_tid-refl}
use Rattle.fed_rules.specs.declared.events.SiteEvent.{SiteEvent}
use Rattle.fed_rules.specs.declared.events.SiteEvent.TheVariants as Ev
use Rattle.fed_rules.specs.declared.messages.ToSite.{ToSite}
use Rattle.fed_rules.specs.declared.messages.ToSite.TheVariants as To
use Rattle.fed_rules.specs.Happenings.{is_down}
use Rattle.fed_rules.specs.Replies.{access_reply}
use Rattle.fed_rules.specs.Runs.{EngineLine, Begins, Acts, Takes, Access, Got, Wrote, Run, has_ticket, begun, acted, took, changed, tid_of}
use Rattle.fed_rules.specs.Site.{done, is_over, is_of_epoch, kept_reply_of, kept_reply, reply_to, ticket_reply_to, next_number, did, unknown, repeated, first_work, next_work, next_take, work_live, of_work, take_live, of_take}
use Rattle.fed_rules.specs.SitePast.{SiteHappening, SitePast, records, epoch_start, engine_lines, run_of, live, live_one, ends, decides_on, is_closed}
use Rattle.fed_rules.specs.SiteRecords.{Home, doubt_of}
use Rattle.federation_laws.proofs.CoordOps.{Matches}
use Rattle.federation_laws.proofs.SiteMoves.{run_ops, ops_of, done-ops, IsNth, IsFrom, Move, Same, Going, Ending, finishes, Moves, Fits, access-fits, FitsTicket, ticket-fits, unsealed-live}
use Rattle.site_history.proofs.ForCallers.{live_is}

pub moves_when : (home : Home) (g : Tid) (past : SitePast) (event : SiteEvent) (t : Bool) (a b : SiteHappening) → (t ≡ true → Moves home g past event a) → (t ≡ false → Moves home g past event b) → Moves home g past event (when t a b)
unfolding when
moves_when home g past event true a b p q = p refl
moves_when home g past event false a b p q = q refl

pub moves_given : {A : Type 0} (home : Home) (g : Tid) (past : SitePast) (event : SiteEvent) (o : Option A) (none : SiteHappening) (some : A → SiteHappening) → (o ≡ None → Moves home g past event none) → ((x : A) → o ≡ Some x → Moves home g past event (some x)) → Moves home g past event (given o some none)
unfolding given
moves_given home g past event None none some p q = p refl
moves_given home g past event (Some x) none some p q = q x refl

-- the reply to an operation, with what it makes of the run
did_moves : (home : Home) (g : Tid) (past : SitePast) (message : ToSite) (n : ℕ) (reply : Reply) (lines : List EngineLine) → Move home g past (Ev.Give message) (did home past message g n reply lines)
    → (finishes reply ≡ true → (op : Option Access) × IsNth (ops_of (live home (did home past message g n reply lines ∷ past) g)) n op × Matches reply op) → Moves home g past (Ev.Give message) (did home past message g n reply lines)
unfolding did
did_moves home g past message n reply lines m f = record { heard = refl; move = m; says = ((λ own. (refl, f)), tt); sealing = λ e. cc; calm = λ e. refl }

pub unknown_moves : (home : Home) (g : Tid) (past : SitePast) (message : ToSite) (n : ℕ) → Moves home g past (Ev.Give message) (unknown home past message g n)
unfolding unknown did
unknown_moves home g past message n = did_moves home g past message n Reply_is.Unknown [] (Same refl) (λ e. cc)

-- the last finished operation has the reply that is kept
kept-last : (ticket : Option ℕ) (acts : List Access) (n : ℕ) → n + 1 ≡ length acts + cond (is_some ticket) 1 0 → finishes (kept_reply_of ticket acts) ≡ true
    → (op : Option Access) × IsNth (cond (is_some ticket) (None ∷ map (λ access. Some access) acts) (map (λ access. Some access) acts)) n op × Matches (kept_reply_of ticket acts) op
kept-last (Some ticket) acts n e f = (let k = length-map {B = Option Access} (λ access. Some access) acts in (None, inl (omega (arith, e, k), refl), tt))
kept-last None [] n e f = cc
kept-last None (Got key value ∷ acts) n e f = (let k = length-map {B = Option Access} (λ access. Some access) acts in (Some (Got key value), inl (omega (arith, e, k), refl), refl))
kept-last None (Wrote key value ∷ acts) n e f = (let k = length-map {B = Option Access} (λ access. Some access) acts in (Some (Wrote key value), inl (omega (arith, e, k), refl), tt))

pub repeated_moves : (home : Home) (g : Tid) (past : SitePast) (message : ToSite) (n : ℕ) (run : Run) → live home past g ≡ Some run → Moves home g past (Ev.Give message) (repeated home past message g n run)
unfolding repeated did
repeated_moves home g past message n run alive =
    moves_when home g past _ _ _ _
    (λ t. did_moves home g past message n (kept_reply run) [] (Same refl) (λ f.
    let (op, nth, m) = kept-last run.ticket run.acts n (eqb-true (n + 1) (done run) t) f in
    (op, subst (λ o. IsNth (ops_of o) n op) (sym alive) nth, m)))
    (λ t. unknown_moves home g past message n)

-- the attempt is closed where one of the lines ends its run
closed-by : (home : Home) (g : Tid) (past : SitePast) (message : ToSite) (n : ℕ) (reply : Reply) (lines : List EngineLine) → some_of (ends g) lines ≡ true → is_over home (did home past message g n reply lines ∷ past) g ≡ true
unfolding did
closed-by home g past message n reply lines e =
    or_left (((decides_on g (Ev.Give message) || some_of (ends g) lines) || is_closed past g)) (is_some (doubt_of (records home past) g))
    (or_left (decides_on g (Ev.Give message) || some_of (ends g) lines) (is_closed past g) (or_right (decides_on g (Ev.Give message)) (some_of (ends g) lines) e))

-- what an operation needs: the run that it is about, with what was done before
record Doing (home : Home) (g : Tid) (past : SitePast) (n : ℕ) (me : Run) : Type 0 where
  unsealed : me.sealed ≡ None
  ticketless : has_ticket me ≡ false
  before : ops_of (live home past g) ≡ run_ops me
  opens : live home past g ≡ None → (is_over home past g ≡ false) × (is_down past ≡ false)
  next : n ≡ length (run_ops me)

-- one operation more
grows : (home : Home) (g : Tid) (past : SitePast) (message : ToSite) (n : ℕ) (reply : Reply) (lines : List EngineLine) (me now : Run) (op : Option Access) → Doing home g past n me
    → live home (did home past message g n reply lines ∷ past) g ≡ Some now → run_ops now ≡ op ∷ run_ops me → IsFrom g (Ev.Give message) op n → Matches reply op → Moves home g past (Ev.Give message) (did home past message g n reply lines)
unfolding did
grows home g past message n reply lines me now op d l o from m =
    let grown : ops_of (live home (did home past message g n reply lines ∷ past) g) ≡ op ∷ run_ops me = ap ops_of l ∙ o in
    did_moves home g past message n reply lines
    (Going (record {
      plain = refl;
      opens = d.opens;
      grown = inr (op, grown ∙ ap (λ ops. op ∷ ops) (sym d.before), subst (λ k. IsFrom g (Ev.Give message) op k) (d.next ∙ ap length (sym d.before)) from);
    }))
    (λ f. (op, subst (λ ops. IsNth ops n op) (sym grown) (inl (d.next, refl)), m))

-- no operation more
stays : (home : Home) (g : Tid) (past : SitePast) (message : ToSite) (n : ℕ) (reply : Reply) (lines : List EngineLine) (me : Run) → Doing home g past n me → live home (did home past message g n reply lines ∷ past) g ≡ Some me → finishes reply ≡ false
    → Moves home g past (Ev.Give message) (did home past message g n reply lines)
unfolding did
stays home g past message n reply lines me d l f =
    did_moves home g past message n reply lines (Going (record { plain = refl; opens = d.opens; grown = inl (ap ops_of l ∙ sym d.before) })) (λ e. let clash = sym f ∙ e in cc)

-- a refusal
refused : (home : Home) (g : Tid) (past : SitePast) (message : ToSite) (n : ℕ) (reply : Reply) (lines : List EngineLine) → live home (did home past message g n reply lines ∷ past) g ≡ None → some_of (ends g) lines ≡ true → finishes reply ≡ false
    → Moves home g past (Ev.Give message) (did home past message g n reply lines)
refused home g past message n reply lines l e f =
    did_moves home g past message n reply lines (Ending (record { none = l; shut = inl (closed-by home g past message n reply lines e) })) (λ k. let clash = sym f ∙ k in cc)

ops-more : (me : Run) (access : Access) → has_ticket me ≡ false → run_ops (record me { acts = access ∷ me.acts }) ≡ Some access ∷ run_ops me
ops-more me access e =
    ap (λ t. cond t (None ∷ Some access ∷ map (λ a. Some a) me.acts) (Some access ∷ map (λ a. Some a) me.acts)) e
    ∙ sym (ap (λ t. Some access ∷ cond t (None ∷ map (λ a. Some a) me.acts) (map (λ a. Some a) me.acts)) e)

ops-ticket : (me : Run) (ticket : ℕ) → has_ticket me ≡ false → run_ops (record me { ticket = Some ticket }) ≡ None ∷ run_ops me
ops-ticket me ticket e = sym (ap (λ t. None ∷ cond t (None ∷ map (λ a. Some a) me.acts) (map (λ a. Some a) me.acts)) e)

-- an act that is answered
acts_moves : (home : Home) (g : Tid) (past : SitePast) (e n : ℕ) (act : PlainAct) (reply : Reply) (lines : List EngineLine) (me : Run) → Fits act reply → Doing home g past n me
    → live home (did home past (To.Work g e n act) g n reply lines ∷ past) g ≡ live_one (acted reply act me) → (finishes reply ≡ false → acted reply act me ≡ None → some_of (ends g) lines ≡ true)
    → Moves home g past (Ev.Give (To.Work g e n act)) (did home past (To.Work g e n act) g n reply lines)
acts_moves home g past e n act (Reply_is.Wait by) lines me f d l c = stays home g past _ n _ lines me d (l ∙ unsealed-live me d.unsealed) refl
acts_moves home g past e n act (Reply_is.Refused why) lines me f d l c = refused home g past _ n _ lines l (c refl refl) refl
acts_moves home g past e n (Read key) (Reply_is.Value value) lines me f d l c =
    let now : Run = record me { acts = Got key value ∷ me.acts } in
    grows home g past _ n _ lines me now (Some (Got key value)) d (l ∙ unsealed-live now d.unsealed) (ops-more me (Got key value) d.ticketless) (e, refl) refl
acts_moves home g past e n (Write key value) Reply_is.Done lines me f d l c =
    let now : Run = record me { acts = Wrote key value ∷ me.acts } in
    grows home g past _ n _ lines me now (Some (Wrote key value)) d (l ∙ unsealed-live now d.unsealed) (ops-more me (Wrote key value) d.ticketless) (e, refl) tt
acts_moves home g past e n (Write key v) (Reply_is.Value value) lines me f d l c = absurd f
acts_moves home g past e n (Read key) Reply_is.Done lines me f d l c = absurd f
acts_moves home g past e n (Read key) (Reply_is.Ticket ticket) lines me f d l c = absurd f
acts_moves home g past e n (Write key v) (Reply_is.Ticket ticket) lines me f d l c = absurd f
acts_moves home g past e n (Read key) Reply_is.Unknown lines me f d l c = absurd f
acts_moves home g past e n (Write key v) Reply_is.Unknown lines me f d l c = absurd f

-- a ticket that is taken or not
takes_moves : (home : Home) (g : Tid) (past : SitePast) (e n : ℕ) (reply : Reply) (lines : List EngineLine) (me : Run) → FitsTicket reply → Doing home g past n me
    → live home (did home past (To.Take g e n) g n reply lines ∷ past) g ≡ live_one (took reply me) → (finishes reply ≡ false → took reply me ≡ None → some_of (ends g) lines ≡ true)
    → Moves home g past (Ev.Give (To.Take g e n)) (did home past (To.Take g e n) g n reply lines)
takes_moves home g past e n (Reply_is.Wait by) lines me f d l c = stays home g past _ n _ lines me d (l ∙ unsealed-live me d.unsealed) refl
takes_moves home g past e n (Reply_is.Refused why) lines me f d l c = refused home g past _ n _ lines l (c refl refl) refl
takes_moves home g past e n (Reply_is.Ticket ticket) lines me f d l c =
    let now : Run = record me { ticket = Some ticket } in
    grows home g past _ n _ lines me now None d (l ∙ unsealed-live now d.unsealed) (ops-ticket me ticket d.ticketless) (e, refl) tt
takes_moves home g past e n (Reply_is.Value value) lines me f d l c = absurd f
takes_moves home g past e n Reply_is.Done lines me f d l c = absurd f
takes_moves home g past e n Reply_is.Unknown lines me f d l c = absurd f

-- the live run after one line of the attempt, and after two
one-line : (home : Home) (g : Tid) (past : SitePast) (message : ToSite) (n : ℕ) (reply : Reply) (line : EngineLine) (old : Option Run) → tid_of line ≡ g → run_of home past g ≡ old
    → live home (did home past message g n reply (line ∷ []) ∷ past) g ≡ live_one (changed line old)
unfolding did
one-line home g past message n reply line old t e =
    ap (λ z. live_one (cond (same_tid z g) (changed line (run_of home past g)) (run_of home past g))) t
    ∙ (ap (λ b. live_one (cond b (changed line (run_of home past g)) (run_of home past g))) (same_tid-refl g) ∙ ap (λ o. live_one (changed line o)) e)

two-lines : (home : Home) (g : Tid) (past : SitePast) (message : ToSite) (n number : ℕ) (reply : Reply) (act : PlainAct)
    → live home (did home past message g n reply (Acts g act reply ∷ Begins g number ∷ []) ∷ past) g ≡ live_one (acted reply act (begun g number))
unfolding did
two-lines home g past message n number reply act =
    ap (λ b. live_one (cond b (changed (Acts g act reply) (cond (same_tid g g) (Some (begun g number)) (run_of home past g))) (cond (same_tid g g) (Some (begun g number)) (run_of home past g)))) (same_tid-refl g)
    ∙ ap (λ b. live_one (changed (Acts g act reply) (cond b (Some (begun g number)) (run_of home past g)))) (same_tid-refl g)

-- an act of a live run
doing-run : (home : Home) (g : Tid) (past : SitePast) (n : ℕ) (run : Run) → live home past g ≡ Some run → has_ticket run ≡ false → n ≡ done run → Doing home g past n run
doing-run home g past n run alive t e =
    let at = live_is (run_of home past g) run alive in
    record {
      unsealed = at.1;
      ticketless = t;
      before = ap ops_of alive;
      opens = λ none. (let clash = sym alive ∙ none in cc);
      next = e ∙ done-ops run;
    }

act-ends : (g : Tid) (act : PlainAct) (reply : Reply) (me : Run) (rest : List EngineLine) → Fits act reply → finishes reply ≡ false → acted reply act me ≡ None → some_of (ends g) (Acts g act reply ∷ rest) ≡ true
act-ends g act (Reply_is.Refused why) me rest f e n = ap (λ b. b || some_of (ends g) rest) (same_tid-refl g)
act-ends g act (Reply_is.Wait by) me rest f e n = cc
act-ends g act (Reply_is.Value value) me rest f e n = cc
act-ends g act Reply_is.Done me rest f e n = cc
act-ends g act (Reply_is.Ticket ticket) me rest f e n = cc
act-ends g (Read key) Reply_is.Unknown me rest f e n = absurd f
act-ends g (Write key value) Reply_is.Unknown me rest f e n = absurd f

take-ends : (g : Tid) (reply : Reply) (me : Run) → FitsTicket reply → finishes reply ≡ false → took reply me ≡ None → some_of (ends g) (Takes g reply ∷ []) ≡ true
take-ends g (Reply_is.Refused why) me f e n = ap (λ b. b || false) (same_tid-refl g)
take-ends g (Reply_is.Wait by) me f e n = cc
take-ends g (Reply_is.Value value) me f e n = cc
take-ends g Reply_is.Done me f e n = cc
take-ends g (Reply_is.Ticket ticket) me f e n = cc
take-ends g Reply_is.Unknown me f e n = absurd f

next_moves : (home : Home) (g : Tid) (past : SitePast) (e n : ℕ) (act : PlainAct) (run : Run) → live home past g ≡ Some run → has_ticket run ≡ false → n ≡ done run → Moves home g past (Ev.Give (To.Work g e n act)) (next_work home past (To.Work g e n act) g n act run)
unfolding next_work
next_moves home g past e n act run alive t q =
    let reply = reply_to home past run act in
    let at = live_is (run_of home past g) run alive in
    let fit = access-fits (epoch_start home past) (engine_lines past) run act in
    acts_moves home g past e n act reply (Acts g act reply ∷ []) run fit (doing-run home g past n run alive t q)
    (one-line home g past (To.Work g e n act) n reply (Acts g act reply) (Some run) refl at.0) (act-ends g act reply run [] fit)

first_moves : (home : Home) (g : Tid) (past : SitePast) (e n : ℕ) (act : PlainAct) → live home past g ≡ None → is_over home past g ≡ false → is_down past ≡ false → n ≡ 0 → Moves home g past (Ev.Give (To.Work g e n act)) (first_work home past (To.Work g e n act) g n act)
unfolding first_work
first_moves home g past e n act none over up q =
    let number = next_number home past in
    let reply = access_reply (epoch_start home past) (Begins g number ∷ engine_lines past) (begun g number) act in
    let fit = access-fits (epoch_start home past) (Begins g number ∷ engine_lines past) (begun g number) act in
    acts_moves home g past e n act reply (Acts g act reply ∷ Begins g number ∷ []) (begun g number) fit
    (record { unsealed = refl; ticketless = refl; before = ap ops_of none; opens = λ k. (over, up); next = q })
    (two-lines home g past (To.Work g e n act) n number reply act) (act-ends g act reply (begun g number) (Begins g number ∷ []) fit)

-- an act of the attempt
pub work_moves : (home : Home) (g : Tid) (past : SitePast) (e n : ℕ) (act : PlainAct) → is_down past ≡ false → Moves home g past (Ev.Give (To.Work g e n act)) (of_work home past g e n act)
unfolding of_work work_live
work_moves home g past e n act up =
    let message = To.Work g e n act in
    moves_when home g past _ _ _ _ (λ t. unknown_moves home g past message n) (λ over.
    moves_given home g past _ _ _ _
    (λ none. moves_when home g past _ _ _ _ (λ t. first_moves home g past e n act none over up (eqb-true n 0 (and_parts (e == 0) (n == 0) t).1)) (λ t. unknown_moves home g past message n))
    (λ run alive. moves_when home g past _ _ _ _ (λ t. unknown_moves home g past message n) (λ may.
    moves_when home g past _ _ _ _
    (λ t. next_moves home g past e n act run alive (or_parts (not (is_of_epoch home past e n)) (has_ticket run) (or_parts (not (is_of_epoch home past e n) || has_ticket run) (nat_lt 31 n) may).0).1 (eqb-true n (done run) t))
    (λ t. repeated_moves home g past message n run alive))))

take-next_moves : (home : Home) (g : Tid) (past : SitePast) (e n : ℕ) (run : Run) → live home past g ≡ Some run → has_ticket run ≡ false → n ≡ done run → Moves home g past (Ev.Give (To.Take g e n)) (next_take home past (To.Take g e n) g n run)
unfolding next_take
take-next_moves home g past e n run alive t q =
    let reply = ticket_reply_to home past run in
    let at = live_is (run_of home past g) run alive in
    let fit = ticket-fits (epoch_start home past) (engine_lines past) run in
    takes_moves home g past e n reply (Takes g reply ∷ []) run fit (doing-run home g past n run alive t q)
    (one-line home g past (To.Take g e n) n reply (Takes g reply) (Some run) refl at.0) (take-ends g reply run fit)

no-ticket : (a b c : Bool) → (not a || (b && c)) ≡ false → c ≡ true → b ≡ false
no-ticket true true true e f = cc
no-ticket true true false e f = cc
no-ticket true false c e f = refl
no-ticket false b c e f = cc

-- the taking of the ticket
pub take_moves : (home : Home) (g : Tid) (past : SitePast) (e n : ℕ) → Moves home g past (Ev.Give (To.Take g e n)) (of_take home past g e n)
unfolding of_take take_live
take_moves home g past e n =
    let message = To.Take g e n in
    moves_when home g past _ _ _ _ (λ t. unknown_moves home g past message n) (λ over.
    moves_given home g past _ _ _ _ (λ none. unknown_moves home g past message n)
    (λ run alive. moves_when home g past _ _ _ _ (λ t. unknown_moves home g past message n) (λ may.
    moves_when home g past _ _ _ _
    (λ t. take-next_moves home g past e n run alive (no-ticket (is_of_epoch home past e n) (has_ticket run) (n == done run) may t) (eqb-true n (done run) t))
    (λ t. repeated_moves home g past message n run alive))))
