-- Tickets of sealed and committed runs stand in the order of their numbers: what the four rules share.
use Rattle.std.proofs.Common.{◌≡◌, ℕ, ◌<◌, ◌≤◌, ◌⊎◌, max, Bool, true, false, cond, Option, Some, None, List, [], ◌∷◌, refl, sym, ap, ◌∙◌, subst, inl, inr, arith}
use Rattle.mdb_base.specs.declared.names.Tid.{Tid}
use Rattle.mdb_base.specs.Names.{same_tid}
use Rattle.mdb_base.specs.Words.{Each, inserted, or_else}
use Rattle.mdb_base.proofs.ForCallers.{each_all, each_inserted, each_map}
use Rattle.fed_rules.specs.declared.runs.Kept.{Kept}
use Rattle.fed_rules.specs.Runs.{Start, EngineLine, Begins, Acts, Takes, Seals, Refuses, Commits, Aborts, Run, tid_of, restored, run_at, number, committed, published, ticket_of}
use Rattle.fed_rules.specs.Replies.{seal_stop, seal_number}
use Rattle.fed_rules.specs.EngineLines.{IsRightLine, IsLive, IsStart, IsNumbered, AreApart}
use Rattle.fed_rules.specs.SerialRuns.{NumbersFall, TicketsFall, HasLowerTicket}
use Rattle.engine_laws.specs.Unended.{EachRun, EachPair}
use Rattle.engine_laws.specs.Laws.{HasTicketTo}
use Rattle.engine_laws.proofs.ByNumber.{is_later}
use Rattle.engine_laws.proofs.Runs.{Own, begins, stays, got, wrote, takes, seals, own, each_run, each_pair, both_ways, each_restored, committed_is, number_is}
use Rattle.engine_laws.proofs.Restored.{each_restored_pair}

-- where the first has the smaller number, it has the smaller ticket
abbrev pub Agrees : Run → Run → Type 0
Agrees a b = number a < number b → HasLowerTicket b a

-- the two agree, whichever comes first
abbrev pub AgreeBoth : Run → Run → Type 0
AgreeBoth a b = Agrees a b × Agrees b a

-- so do each two of these
abbrev pub AllAgree : List Run → Type 0
AllAgree [] = Unit {0}
AllAgree (run ∷ runs) = Each (AgreeBoth run) runs × AllAgree runs

-- tickets of sealed and committed runs are at most the published one, and stand in the order of the numbers
pub record IsInOrderWith (start : Start) (lines : List EngineLine) (runs : List Run) : Type 0 where
  pub some : EachRun start lines (λ r. (n : ℕ) → r.sealed ≡ Some n → (t : ℕ) → r.ticket ≡ Some t → 0 < t)
  pub unended : EachRun start lines (λ r. (n : ℕ) → r.sealed ≡ Some n → HasTicketTo (published start lines) r)
  pub committed : Each (HasTicketTo (published start lines)) runs
  pub apart : EachPair start lines (λ a b. (m n : ℕ) → a.sealed ≡ Some m → b.sealed ≡ Some n → Agrees a b)
  pub above : EachRun start lines (λ a. (m : ℕ) → a.sealed ≡ Some m → Each (AgreeBoth a) runs)
  pub agree : AllAgree runs

abbrev pub IsInOrder : Start → List EngineLine → Type 0
IsInOrder start lines = IsInOrderWith start lines (committed start lines)

-- at its sealing a run with a ticket comes last: its ticket is above the published one, and every sealed or committed one with a ticket has a smaller number
pub record IsLastTaker (start : Start) (lines : List EngineLine) (tid : Tid) (n t : ℕ) : Type 0 where
  pub above : published start lines < t
  pub unended : (u : Tid) (b : Run) → same_tid tid u ≡ false → run_at start lines u ≡ Some b → (m s : ℕ) → b.sealed ≡ Some m
      → b.ticket ≡ Some s → m < n
  pub committed : Each (λ d. (s : ℕ) → d.ticket ≡ Some s → number d < n) (committed start lines)

-- numbers that fall take tickets along that agree with them
pub tickets_fall : (runs : List Run) → NumbersFall runs → AllAgree runs → TicketsFall runs
tickets_fall [] falls agree = tt
tickets_fall (run ∷ runs) falls agree = (lower runs falls.0 agree.0, tickets_fall runs falls.1 agree.1)
  where
    lower : (others : List Run) → Each (λ other. number other < number run) others → Each (AgreeBoth run) others
        → Each (HasLowerTicket run) others
    lower [] less both = tt
    lower (other ∷ others) less both = (both.0.1 less.0, lower others less.1 both.1)

agree_inserted : (run : Run) (runs : List Run) → Each (AgreeBoth run) runs → AllAgree runs → AllAgree (inserted is_later run runs)
agree_inserted run [] mine agree = (tt, tt)
agree_inserted run (x ∷ xs) mine agree = by_test (is_later x run) (agree_inserted run xs mine.1 agree.1)
  where
    by_test : (b : Bool) → AllAgree (inserted is_later run xs) → AllAgree (cond b (x ∷ inserted is_later run xs) (run ∷ x ∷ xs))
    by_test true rest = (each_inserted (AgreeBoth x) is_later run xs (mine.0.1, mine.0.0) agree.0, rest)
    by_test false rest = (mine, agree)

-- the published ticket never falls
pub published_grows : (start : Start) (older : List EngineLine) (line : EngineLine)
    → published start older ≤ published start (line ∷ older)
published_grows start older (Begins tid n) = omega arith
published_grows start older (Acts tid act reply) = omega arith
published_grows start older (Takes tid reply) = omega arith
published_grows start older (Seals tid n) = omega arith
published_grows start older (Refuses tid why) = omega arith
published_grows start older (Commits tid) = omega arith
published_grows start older (Aborts tid) = omega arith

-- a sealing publishes the ticket
pub published_at : (start : Start) (older : List EngineLine) (tid : Tid) (n : ℕ) (run : Run) → run_at start older tid ≡ Some run
    → published start (Seals tid n ∷ older) ≡ max (or_else run.ticket 0) (published start older)
published_at start older tid n run at = ap (λ o. max (ticket_of o) (published start older)) at

has_ticket_to : (p q : ℕ) (run : Run) → p ≤ q → HasTicketTo p run → HasTicketTo q run
has_ticket_to p q run le h t e = let old = h t e in omega arith

own_ticket : (start : Start) (older : List EngineLine) (line : EngineLine) (r : Run) → IsInOrder start older
    → Own start older line r
    → (n : ℕ) → r.sealed ≡ Some n → HasTicketTo (published start (line ∷ older)) r
own_ticket start older line r h (begins free next) n e = cc
own_ticket start older line r h (stays waits at) n e =
    has_ticket_to _ _ r (published_grows start older line) (h.unended _ r at n e)
own_ticket start older line r h (got run live is) n e = let open_run = live.1 in cc
own_ticket start older line r h (wrote run live is) n e = let open_run = live.1 in cc
own_ticket start older line r h (takes run live is) n e = let open_run = live.1 in cc
own_ticket start older (Seals tid m) r h (seals run live stop next) n e = λ t taken.
    let is : published start (Seals tid m ∷ older) ≡ max t (published start older) =
    published_at start older tid m run live.0 ∙ ap (λ o. max (or_else o 0) (published start older)) taken in
    omega arith

-- that a run with a ticket comes last at its sealing
abbrev pub SealsLast : Start → List EngineLine → EngineLine → Type 0
SealsLast start older line =
    (tid : Tid) (n : ℕ) (run : Run) → line ≡ Seals tid n → IsLive start older tid run
    → seal_stop start.kind start older run ≡ None
    → n ≡ seal_number start.kind start older run → (t : ℕ) → run.ticket ≡ Some t → IsLastTaker start older tid n t

-- a sealed run of which it is so agrees with another sealed one
last_agrees : (p n t : ℕ) (r b : Run) → p < t → r.sealed ≡ Some n → r.ticket ≡ Some t → HasTicketTo p b
    → ((s : ℕ) → b.ticket ≡ Some s → number b < n) → AgreeBoth r b
last_agrees p n t r b above sealed taken kept less = (
  λ first s u of_b of_r. let below = less s of_b in let is = number_is r n sealed in absurd (omega arith),
  λ first s u of_r of_b. let old = kept u of_b in let same : s ≡ t = cc in omega arith,
)

agrees_untaken : (r b : Run) → r.ticket ≡ None → AgreeBoth r b
agrees_untaken r b none = (λ first s u of_b of_r. cc, λ first s u of_r of_b. cc)

own_agrees : (start : Start) (older : List EngineLine) (line : EngineLine) (r : Run) → IsInOrder start older
    → SealsLast start older line → Own start older line r
    → (u : Tid) (b : Run) → same_tid (tid_of line) u ≡ false → run_at start older u ≡ Some b
    → (m n : ℕ) → r.sealed ≡ Some m → b.sealed ≡ Some n → AgreeBoth r b
own_agrees start older line r h last (begins free next) u b other was m n er eb = cc
own_agrees start older line r h last (stays waits at) u b other was m n er eb =
    let pair = both_ways start older (λ a b. (m n : ℕ) → a.sealed ≡ Some m → b.sealed ≡ Some n → Agrees a b) h.apart _ u r b other
    at was in
    (pair.0 m n er eb, pair.1 n m eb er)
own_agrees start older line r h last (got run live is) u b other was m n er eb = let open_run = live.1 in cc
own_agrees start older line r h last (wrote run live is) u b other was m n er eb = let open_run = live.1 in cc
own_agrees start older line r h last (takes run live is) u b other was m n er eb = let open_run = live.1 in cc
own_agrees start older (Seals tid k) r h last (seals run live stop next) u b other was m n er eb = by_ticket run.ticket refl
  where
    by_ticket : (o : Option ℕ) → run.ticket ≡ o → AgreeBoth (record run { sealed = Some k }) b
    by_ticket None none = agrees_untaken (record run { sealed = Some k }) b none
    by_ticket (Some t) taken =
        let least = last tid k run refl live stop next t taken in
        last_agrees (published start older) k t (record run { sealed = Some k }) b least.above refl taken (h.unended u b was n eb)
        (λ s of_b. let less = least.unended u b other was n s eb of_b in let is = number_is b n eb in omega arith)

own_above : (start : Start) (older : List EngineLine) (line : EngineLine) (r : Run) → IsInOrder start older
    → SealsLast start older line → Own start older line r
    → (m : ℕ) → r.sealed ≡ Some m → Each (AgreeBoth r) (committed start older)
own_above start older line r h last (begins free next) m e = cc
own_above start older line r h last (stays waits at) m e = h.above _ r at m e
own_above start older line r h last (got run live is) m e = let open_run = live.1 in cc
own_above start older line r h last (wrote run live is) m e = let open_run = live.1 in cc
own_above start older line r h last (takes run live is) m e = let open_run = live.1 in cc
own_above start older (Seals tid k) r h last (seals run live stop next) m e = by_ticket run.ticket refl
  where
    each_last : (t : ℕ) → run.ticket ≡ Some t → published start older < t → (runs : List Run)
        → Each (HasTicketTo (published start older)) runs
        → Each (λ d. (s : ℕ) → d.ticket ≡ Some s → number d < k) runs → Each (AgreeBoth (record run { sealed = Some k })) runs
    each_last t taken above [] kept less = tt
    each_last t taken above (d ∷ ds) kept less = (
      last_agrees (published start older) k t (record run { sealed = Some k }) d above refl taken kept.0 less.0,
      each_last t
          taken above ds kept.1 less.1,
    )

    by_ticket : (o : Option ℕ) → run.ticket ≡ o → Each (AgreeBoth (record run { sealed = Some k })) (committed start older)
    by_ticket None none = each_all _ (λ d. agrees_untaken (record run { sealed = Some k }) d none) (committed start older)
    by_ticket (Some t) taken =
        let least = last tid k run refl live stop next t taken in
        each_last t taken least.above (committed start older) h.committed least.committed

own_some : (start : Start) (older : List EngineLine) (line : EngineLine) (r : Run) → IsInOrder start older
    → SealsLast start older line → Own start older line r
    → (n : ℕ) → r.sealed ≡ Some n → (t : ℕ) → r.ticket ≡ Some t → 0 < t
own_some start older line r h last (begins free next) n e = cc
own_some start older line r h last (stays waits at) n e = h.some _ r at n e
own_some start older line r h last (got run live is) n e = let open_run = live.1 in cc
own_some start older line r h last (wrote run live is) n e = let open_run = live.1 in cc
own_some start older line r h last (takes run live is) n e = let open_run = live.1 in cc
own_some start older (Seals tid k) r h last (seals run live stop next) n e = λ t taken.
    let above = (last tid k run refl live stop next t taken).above in omega arith

-- a line that commits nothing keeps the order
order_goes_on : (start : Start) (older : List EngineLine) (line : EngineLine) → IsRightLine start older line
    → SealsLast start older line → IsInOrder start older
    → IsInOrderWith start (line ∷ older) (committed start older)
order_goes_on start older line right last h = record {
  some = each_run start older line (λ r. (n : ℕ) → r.sealed ≡ Some n → (t : ℕ) → r.ticket ≡ Some t → 0 < t)
      (λ t r other was. h.some t r was)
      (λ r now. own_some start older line r h last (own start older line r right now));
  unended = each_run start older line (λ r. (n : ℕ) → r.sealed ≡ Some n → HasTicketTo (published start (line ∷ older)) r)
      (λ t r other was n e. has_ticket_to _ _ r (published_grows start older line) (h.unended t r was n e))
      (λ r now. own_ticket start older line r h (own start older line r right now));
  committed = each_map _ (HasTicketTo (published start (line ∷ older)))
      (λ d. has_ticket_to _ _ d (published_grows start older line)) (committed start older) h.committed;
  apart = each_pair start older line (λ a b. (m n : ℕ) → a.sealed ≡ Some m → b.sealed ≡ Some n → Agrees a b) h.apart
      (λ u r b other now was.
      let mine = own_agrees start older line r h last (own start older line r right now) u b other was in
      (λ m n er eb. (mine m n er eb).0, λ m n eb er. (mine n m er eb).1));
  above = each_run start older line (λ a. (m : ℕ) → a.sealed ≡ Some m → Each (AgreeBoth a) (committed start older))
      (λ t r other was. h.above t r was)
      (λ r now. own_above start older line r h last (own start older line r right now));
  agree = h.agree;
}

-- so does a commit
order_commits : (start : Start) (older : List EngineLine) (tid : Tid) (run : Run) (n : ℕ) → IsInOrder start older
    → run_at start older tid ≡ Some run → run.sealed ≡ Some n
    → IsInOrderWith start (Commits tid ∷ older) (inserted is_later run (committed start older))
order_commits start older tid run n h at sealed = record {
  some = each_run start older (Commits tid) (λ r. (n : ℕ) → r.sealed ≡ Some n → (t : ℕ) → r.ticket ≡ Some t → 0 < t)
      (λ t r other was. h.some t r was)
      (λ r now. cc);
  unended = each_run start older (Commits tid) (λ r. (n : ℕ) → r.sealed ≡ Some n → HasTicketTo (published start older) r)
      (λ t r other was. h.unended t r was)
      (λ r now. cc);
  committed = each_inserted (HasTicketTo (published start older)) is_later run (committed start older)
      (h.unended tid run at n sealed) h.committed;
  apart = each_pair start older (Commits tid) (λ a b. (m n : ℕ) → a.sealed ≡ Some m → b.sealed ≡ Some n → Agrees a b) h.apart
      (λ u r b other now was. cc);
  above = each_run start older (Commits tid) (λ a. (m : ℕ) → a.sealed ≡ Some m
      → Each (AgreeBoth a) (inserted is_later run (committed start older)))
      (λ t r other was m e.
      let pair = both_ways start older (λ a b. (m n : ℕ) → a.sealed ≡ Some m → b.sealed ≡ Some n → Agrees a b) h.apart tid t run r
      other at was in
      each_inserted (AgreeBoth r) is_later run (committed start older) (pair.1 m n e sealed, pair.0 n m sealed e)
      (h.above t r was m e))
      (λ r now. cc);
  agree = agree_inserted run (committed start older) (h.above tid run at n sealed) h.agree;
}

-- so does each right line, where a run with a ticket comes last at its sealing
pub order_next : (start : Start) (older : List EngineLine) (line : EngineLine) → IsRightLine start older line
    → SealsLast start older line → IsInOrder start older
    → IsInOrder start (line ∷ older)
order_next start older (Commits tid) (run, n, sealed) last h =
    subst (IsInOrderWith start (Commits tid ∷ older)) (sym (committed_is start older tid run sealed.0))
    (order_commits start older tid run n h sealed.0 sealed.1)
order_next start older line right last h = order_goes_on start older line right last h

-- and at the start it is so
pub order_start : (start : Start) → IsStart start → IsInOrder start []
order_start start begun = record {
  some = each_restored (λ r. (n : ℕ) → r.sealed ≡ Some n → (t : ℕ) → r.ticket ≡ Some t → 0 < t) start.doubtful
      (each_map _ (λ kept. (n : ℕ) → (restored kept).sealed ≡ Some n → (t : ℕ) → (restored kept).ticket ≡ Some t → 0 < t)
      (λ kept h n e t taken. let same : kept.ticket ≡ t = cc in let some = h.ticket_some in omega arith) start.doubtful
      begun.numbered);
  unended = each_restored (λ r. (n : ℕ) → r.sealed ≡ Some n → HasTicketTo start.published r) start.doubtful
      (each_map _ (λ kept. (n : ℕ) → (restored kept).sealed ≡ Some n → HasTicketTo start.published (restored kept)) to_published
      start.doubtful begun.numbered);
  committed = tt;
  apart = each_restored_pair (λ a b. (m n : ℕ) → a.sealed ≡ Some m → b.sealed ≡ Some n → Agrees a b)
      (λ a b h. (λ m n ea eb. (ordered a b h).0, λ m n eb ea. (ordered a b h).1)) start.doubtful begun.apart;
  above = λ t r at m e. tt;
  agree = tt;
}
  where
    to_published : (kept : Kept) → IsNumbered start kept → (n : ℕ) → (restored kept).sealed ≡ Some n
        → HasTicketTo start.published (restored kept)
    to_published kept h n e t taken = let same : kept.ticket ≡ t = cc in let most = h.ticket_kept in omega arith

    by_order : (a b : Kept) → ((a.number < b.number) × (a.ticket < b.ticket)) ⊎ ((b.number < a.number) × (b.ticket < a.ticket))
        → AgreeBoth (restored a) (restored b)
    by_order a b (inl less) = (
      λ first t u of_b of_a. let x : b.ticket ≡ t = cc in let y : a.ticket ≡ u = cc in let it = less.1 in omega arith,
      λ first. absurd (omega (arith, less.0)),
    )
    by_order a b (inr more) = (
      λ first. absurd (omega (arith, more.0)),
      λ first t u of_a of_b. let x : a.ticket ≡ t = cc in let y : b.ticket ≡ u = cc in let it = more.1 in omega arith,
    )

    ordered : (a b : Kept) → AreApart a b → AgreeBoth (restored a) (restored b)
    ordered a b h = by_order a b h.order
