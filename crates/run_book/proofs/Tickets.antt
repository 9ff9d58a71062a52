-- The unended takers of the ticket are those that the lines say, and what they stop is what the rule says.
use Rattle.std.proofs.Common.{◌≡◌, ℕ, ◌⊎◌, Bool, true, false, cond, is_some, nat_eq, Option, Some, None, List, [], ◌∷◌, inl, inr, refl, sym, ap, ◌∙◌, true≢false, arith}
use Rattle.std.specs.Ordering.{nat_cmp}
use Rattle.std.specs.FinMap.{empty, get, get-empty}
use Rattle.std.proofs.lemmas.Bool.{cond-true, cond-false, cases_Bool, eqb-true, eq-eqb}
use Rattle.std.proofs.lemmas.Option.{same_Some}
use Rattle.mdb_base.specs.declared.names.Tid.{Tid}
use Rattle.mdb_base.specs.declared.replies.Reply.TheVariants as Reply_is
use Rattle.mdb_base.specs.Names.{same_tid}
use Rattle.mdb_base.specs.Words.{Each, map_some}
use Rattle.mdb_base.proofs.ForCallers.{not_equal, same_tid-equal, same_tid-refl}
use Rattle.fed_rules.specs.declared.runs.Kept.{Kept}
use Rattle.fed_rules.specs.Runs.{Start, EngineLine, Takes, Run, tid_of, restored, restored_at, run_at, has_ticket}
use Rattle.fed_rules.specs.Replies.{age_of}
use Rattle.fed_rules.specs.EngineLines.{IsStart, IsRightLine, IsRight, AreApart, AllApart}
use Rattle.engine_laws.specs.Unended.{EachRun}
use Rattle.engine_laws.proofs.ForCallers.{Own, begins, each_run, got, own, seals, stays, takes, tid_is, wrote}
use Rattle.fed_rules.proofs.ForCallers.{run_at_other, run_at_own}
use Rattle.run_book.specs.Rivals.{rival_by}
use Rattle.run_book.proofs.Ages.{ages-differ}
use Rattle.run_book.specs.Ages.{rival_of}
use Rattle.run_book.specs.Takers.{ByAge, with_taker, restored_takers}
use Rattle.run_book.specs.AgeLines.{rival_at, ends, entered_by, entered_at, left_by, unended_takers}
use Rattle.run_book.proofs.Trees.{get-put, get-gone}
use Rattle.run_book.proofs.Outcomes.{Outcome, outcome, left-going, ended_run, gives_up-ends}
use Rattle.run_book.proofs.Writers.{restored_first, restored_after, restored_apart}

-- the attempt has an unended run of this age that has taken the ticket
pub record IsTicketed (runs : Tid → Option Run) (age : ℕ) (tid : Tid) : Type 0 where
  pub run : Run
  pub at : runs tid ≡ Some run
  pub taken : has_ticket run ≡ true
  pub aged : run.age ≡ age

-- the takers of a restart
restored_there : (doubtful : List Kept) (m : ByAge) (age : ℕ) (t : Tid) → AllApart doubtful → get (restored_takers doubtful m) age ≡ Some t → (get m age ≡ Some t) ⊎ IsTicketed (restored_at doubtful) age t
restored_there [] m age t apart at = inl at
restored_there (kept ∷ more) m age t apart at = by_age (nat_eq kept.number age) refl (restored_there more (with_taker (rival_of kept) m) age t apart.1 at)
  where
    by_age : (b : Bool) → nat_eq kept.number age ≡ b → (get (with_taker (rival_of kept) m) age ≡ Some t) ⊎ IsTicketed (restored_at more) age t → (get m age ≡ Some t) ⊎ IsTicketed (restored_at (kept ∷ more)) age t
    by_age b e (inr later) = inr (record {
      run = later.run;
      at = restored_after kept more t (restored_apart kept more t later.run apart.0 later.at) ∙ later.at;
      taken = later.taken;
      aged = later.aged;
    })
    by_age true e (inl there) =
        let is : Some kept.tid ≡ Some t = sym (get-put m kept.number kept.tid age ∙ cond-true _ _ _ e) ∙ there in
        let one : kept.tid ≡ t = cc in
        inr (record { run = restored kept; at = ap (λ (x : Tid). restored_at (kept ∷ more) x) (sym one) ∙ restored_first kept more; taken = refl; aged = eqb-true kept.number age e })
    by_age false e (inl there) = inl (sym (get-put m kept.number kept.tid age ∙ cond-false _ _ _ e) ∙ there)

numbers_differ : (kept other : Kept) → AreApart kept other → other.number ≡ kept.number → ⊥
numbers_differ kept other apart same = elim apart.order [ inl lt ↦ let l = lt.0 in omega arith | inr gt ↦ let l = gt.0 in omega arith ]

pub restored_other : (kept : Kept) (more : List Kept) (m : ByAge) → Each (AreApart kept) more → get (restored_takers more m) kept.number ≡ get m kept.number
restored_other kept [] m apart = refl
restored_other kept (other ∷ more) m apart =
    restored_other kept more (with_taker (rival_of other) m) apart.1
    ∙ (get-put m other.number other.tid kept.number ∙ cond-false _ _ _ (not_equal other.number kept.number (numbers_differ kept other apart.0)))

pub restored_back : (doubtful : List Kept) (m : ByAge) (t : Tid) (run : Run) → AllApart doubtful → restored_at doubtful t ≡ Some run → get (restored_takers doubtful m) run.age ≡ Some t
restored_back [] m t run apart at = cc
restored_back (kept ∷ more) m t run apart at = by_tid (same_tid kept.tid t) refl at (restored_back more (with_taker (rival_of kept) m) t run apart.1)
  where
    by_tid : (b : Bool) → same_tid kept.tid t ≡ b → cond b (Some (restored kept)) (restored_at more t) ≡ Some run → (restored_at more t ≡ Some run → get (restored_takers (kept ∷ more) m) run.age ≡ Some t) →
        get (restored_takers (kept ∷ more) m) run.age ≡ Some t
    by_tid true e is rest =
        let one = same_Some (restored kept) run is in
        ap (λ (r : Run). get (restored_takers (kept ∷ more) m) r.age) (sym one)
        ∙ (restored_other kept more (with_taker (rival_of kept) m) apart.0
        ∙ (get-put m kept.number kept.tid kept.number ∙ (cond-true _ _ _ (eq-eqb kept.number kept.number refl) ∙ ap (λ (x : Tid). Some x) (same_tid-equal kept.tid t e))))
    by_tid false e is rest = rest is

-- a taker whose run the line doesn't end
ticketed_on : (start : Start) (older : List EngineLine) (line : EngineLine) (age : ℕ) (t : Tid) → IsRightLine start older line → ends line ≡ false → IsTicketed (run_at start older) age t → IsTicketed (run_at start (line ∷ older)) age t
ticketed_on start older line age t right going h = elim (cases_Bool (same_tid (tid_of line) t)) [
  | inr other ↦ record { run = h.run; at = run_at_other start older line t other ∙ h.at; taken = h.taken; aged = h.aged }
  | inl same ↦ own_on (same_tid-equal (tid_of line) t same)
]
  where
    no_end : ends line ≡ true → ⊥
    no_end e = true≢false (sym e ∙ going)

    goes : run_at start older (tid_of line) ≡ Some h.run → tid_of line ≡ t → Outcome line h.run → IsTicketed (run_at start (line ∷ older)) age t
    goes here is (inl on) =
        let a = on.as_it_was in
        record {
          run = on.now;
          at = ap (λ (x : Tid). run_at start (line ∷ older) x) (sym is) ∙ (run_at_own start older line (Some h.run) here ∙ on.is);
          taken = a.takes h.taken;
          aged = a.age ∙ h.aged;
        }
    goes here is (inr (inl commits)) = absurd (no_end (ap (λ (l : EngineLine). ends l) commits))
    goes here is (inr (inr gives)) = absurd (no_end (gives_up-ends line gives))

    own_on : tid_of line ≡ t → IsTicketed (run_at start (line ∷ older)) age t
    own_on is =
        let here = ap (λ (x : Tid). run_at start older x) is ∙ h.at in
        goes here is (outcome start older line h.run right here)

-- one that it ends leaves
ticketed_left : (start : Start) (older : List EngineLine) (line : EngineLine) (run : Run) (age : ℕ) (t : Tid) → run_at start older (tid_of line) ≡ Some run → nat_eq run.age age ≡ false → IsTicketed (run_at start older) age t → IsTicketed (run_at start (line ∷ older)) age t
ticketed_left start older line run age t at apart h = by_tid (same_tid (tid_of line) t) refl
  where
    by_tid : (b : Bool) → same_tid (tid_of line) t ≡ b → IsTicketed (run_at start (line ∷ older)) age t
    by_tid true e =
        let one : run ≡ h.run = same_Some run h.run (sym at ∙ (ap (λ (x : Tid). run_at start older x) (same_tid-equal (tid_of line) t e) ∙ h.at)) in
        let same : nat_eq run.age age ≡ true = eq-eqb run.age age (ap (λ (r : Run). r.age) one ∙ h.aged) in
        absurd (true≢false (sym same ∙ apart))
    by_tid false e = record { run = h.run; at = run_at_other start older line t e ∙ h.at; taken = h.taken; aged = h.aged }

-- who takes the ticket
ticketed_new : (start : Start) (older : List EngineLine) (tid : Tid) (n age : ℕ) (t : Tid) (runs : ByAge) → IsRight start (Takes tid (Reply_is.Ticket n) ∷ older) → (get runs age ≡ Some t → IsTicketed (run_at start (Takes tid (Reply_is.Ticket n) ∷ older)) age t) →
    get (entered_by (Reply_is.Ticket n) (rival_at start older tid) runs) age ≡ Some t → IsTicketed (run_at start (Takes tid (Reply_is.Ticket n) ∷ older)) age t
ticketed_new start older tid n age t runs right rest is = by_age (nat_eq was.age age) refl
  where
    was : Run
    was = right.0.0

    line : EngineLine
    line = Takes tid (Reply_is.Ticket n)

    there : get (with_taker (rival_by age_of was) runs) age ≡ Some t
    there = sym (ap (λ (o : Option Run). get (entered_by (Reply_is.Ticket n) (map_some (rival_by age_of) o) runs) age) right.0.1.0.0) ∙ is

    named : was.tid ≡ tid
    named = tid_is start older right.1 tid was right.0.1.0.0

    by_age : (b : Bool) → nat_eq was.age age ≡ b → IsTicketed (run_at start (line ∷ older)) age t
    by_age true e =
        let one : Some was.tid ≡ Some t = sym (get-put runs was.age was.tid age ∙ cond-true _ _ _ e) ∙ there in
        let same : was.tid ≡ t = cc in
        record {
          run = record was { ticket = Some n };
          at = ap (λ (x : Tid). run_at start (line ∷ older) x) (sym same ∙ named) ∙ run_at_own start older line (Some was) right.0.1.0.0;
          taken = refl;
          aged = eqb-true was.age age e;
        }
    by_age false e = rest (sym (get-put runs was.age was.tid age ∙ cond-false _ _ _ e) ∙ there)

entered_there : (start : Start) (older : List EngineLine) (line : EngineLine) (age : ℕ) (t : Tid) → IsRight start (line ∷ older) → ends line ≡ false → (get (unended_takers start older) age ≡ Some t → IsTicketed (run_at start older) age t) →
    get (entered_at start line older (unended_takers start older)) age ≡ Some t → IsTicketed (run_at start (line ∷ older)) age t
entered_there start older (Takes tid (Reply_is.Ticket n)) age t right going rest is =
    ticketed_new start older tid n age t (unended_takers start older) right (λ was. ticketed_on start older (Takes tid (Reply_is.Ticket n)) age t right.0 going (rest was)) is
entered_there start older line age t right going rest is = ticketed_on start older line age t right.0 going (rest is)

pub ticketed_is : (start : Start) (lines : List EngineLine) (age : ℕ) (t : Tid) → IsStart start → IsRight start lines → get (unended_takers start lines) age ≡ Some t → IsTicketed (run_at start lines) age t
ticketed_is start [] age t begun right is = elim (restored_there start.doubtful empty age t begun.apart is) [
  | inl none ↦ let bad : None ≡ Some t = sym (get-empty nat_cmp age) ∙ none in cc
  | inr h ↦ record { run = h.run; at = h.at; taken = h.taken; aged = h.aged }
]
ticketed_is start (line ∷ older) age t begun right is = by_end (ends line) refl is (ticketed_is start older age t begun right.1)
  where
    runs : ByAge
    runs = unended_takers start older

    gone : (run : Run) → run_at start older (tid_of line) ≡ Some run → (b : Bool) → nat_eq run.age age ≡ b → cond b None (get runs age) ≡ Some t → (get runs age ≡ Some t → IsTicketed (run_at start older) age t) →
        IsTicketed (run_at start (line ∷ older)) age t
    gone run at true e is rest = cc
    gone run at false e is rest = ticketed_left start older line run age t at e (rest is)

    by_end : (b : Bool) → ends line ≡ b → get (cond b (left_by (run_at start older (tid_of line)) runs) (entered_at start line older runs)) age ≡ Some t → (get runs age ≡ Some t → IsTicketed (run_at start older) age t) →
        IsTicketed (run_at start (line ∷ older)) age t
    by_end true e is rest =
        let mine = ended_run start older line right.0 e in
        gone mine.0 mine.1 (nat_eq mine.0.age age) refl
        (sym (get-gone runs mine.0.age age) ∙ (sym (ap (λ (o : Option Run). get (left_by o runs) age) mine.1) ∙ is)) rest
    by_end false e is rest = entered_there start older line age t right e rest is

-- where the run has taken the ticket, it is one of them
abbrev IsListed : ByAge → Run → Type 0
IsListed runs run = has_ticket run ≡ true → get runs run.age ≡ Some run.tid

-- another run stays
other_taken : (start : Start) (older : List EngineLine) (line : EngineLine) (r : Run) (o : Option Tid) → ((run : Run) → run_at start older (tid_of line) ≡ Some run → nat_eq run.age r.age ≡ false) →
    get (unended_takers start older) r.age ≡ o → get (entered_at start line older (unended_takers start older)) r.age ≡ o
other_taken start older (Takes tid (Reply_is.Ticket n)) r o apart is = by_run (run_at start older tid) refl
  where
    runs : ByAge
    runs = unended_takers start older

    by_run : (x : Option Run) → run_at start older tid ≡ x → get (entered_by (Reply_is.Ticket n) (map_some (rival_by age_of) x) runs) r.age ≡ o
    by_run None e = is
    by_run (Some run) e = get-put runs run.age run.tid r.age ∙ (cond-false _ _ _ (apart run e) ∙ is)
other_taken start older line r o apart is = is

-- and so does the line's own one
own_taken : (start : Start) (older : List EngineLine) (line : EngineLine) (r : Run) → run_at start older (tid_of line) ≡ Some r → get (unended_takers start older) r.age ≡ Some r.tid →
    get (entered_at start line older (unended_takers start older)) r.age ≡ Some r.tid
own_taken start older (Takes tid (Reply_is.Ticket n)) r at is =
    let runs = unended_takers start older in
    ap (λ (o : Option Run). get (entered_by (Reply_is.Ticket n) (map_some (rival_by age_of) o) runs) r.age) at
    ∙ (get-put runs r.age r.tid r.age ∙ cond-true _ _ _ (eq-eqb r.age r.age refl))
own_taken start older line r at is = is

own_listed : (start : Start) (older : List EngineLine) (line : EngineLine) (r : Run) → ends line ≡ false → EachRun start older (IsListed (unended_takers start older)) → Own start older line r → IsListed (unended_takers start (line ∷ older)) r
own_listed start older line r going h (begins free next) has = cc
own_listed start older line r going h (stays waits at) has =
    let runs = unended_takers start older in
    ap (λ (b : Bool). get (cond b (left_by (run_at start older (tid_of line)) runs) (entered_at start line older runs)) r.age) going
    ∙ own_taken start older line r at (h _ r at has)
own_listed start older line r going h (got run live is) has = h _ run live.0 has
own_listed start older line r going h (wrote run live is) has = h _ run live.0 has
own_listed start older line r going h (takes {tid = tid} {n = n} run live is) has =
    let runs = unended_takers start older in
    ap (λ (o : Option Run). get (entered_by (Reply_is.Ticket n) (map_some (rival_by age_of) o) runs) run.age) live.0
    ∙ (get-put runs run.age run.tid run.age ∙ cond-true _ _ _ (eq-eqb run.age run.age refl))
own_listed start older line r going h (seals run live stop next) has = h _ run live.0 has

pub is_listed : (start : Start) (lines : List EngineLine) → IsStart start → IsRight start lines → EachRun start lines (λ run. has_ticket run ≡ true → get (unended_takers start lines) run.age ≡ Some run.tid)
is_listed start [] begun right = λ t run at has.
    restored_back start.doubtful empty t run begun.apart at ∙ ap (λ (x : Tid). Some x) (sym (tid_is start [] right t run at))
is_listed start (line ∷ older) begun right =
    let h = is_listed start older begun right.1 in
    each_run start older line (IsListed (unended_takers start (line ∷ older))) (λ t r other was has. others t r other was (h t r was has) (ends line) refl)
    (λ r now. own_listed start older line r (left-going line _ r now) h (own start older line r right.0 now))
  where
    runs : ByAge
    runs = unended_takers start older

    apart : (t : Tid) (r : Run) → same_tid (tid_of line) t ≡ false → run_at start older t ≡ Some r → (run : Run) → run_at start older (tid_of line) ≡ Some run → nat_eq run.age r.age ≡ false
    apart t r other was run at =
        not_equal run.age r.age (λ same.
        let one = ages-differ start older (tid_of line) t run r begun right.1 at was same in
        true≢false (sym (ap (λ (x : Tid). same_tid (tid_of line) x) (sym one) ∙ same_tid-refl (tid_of line)) ∙ other))

    others : (t : Tid) (r : Run) → same_tid (tid_of line) t ≡ false → run_at start older t ≡ Some r → get runs r.age ≡ Some r.tid → (b : Bool) → ends line ≡ b →
        get (cond b (left_by (run_at start older (tid_of line)) runs) (entered_at start line older runs)) r.age ≡ Some r.tid
    others t r other was is true e =
        let mine = ended_run start older line right.0 e in
        ap (λ (o : Option Run). get (left_by o runs) r.age) mine.1
        ∙ (get-gone runs mine.0.age r.age ∙ (cond-false _ _ _ (apart t r other was mine.0 mine.1) ∙ is))
    others t r other was is false e = other_taken start older line r (Some r.tid) (apart t r other was) is

-- a run that hasn't taken the ticket is none of them
pub unlisted : (start : Start) (lines : List EngineLine) (t : Tid) (run : Run) → IsStart start → IsRight start lines → run_at start lines t ≡ Some run → run.ticket ≡ None → get (unended_takers start lines) run.age ≡ None
unlisted start lines t run begun right at ticketless = by_taker (get (unended_takers start lines) run.age) refl
  where
    by_taker : (o : Option Tid) → get (unended_takers start lines) run.age ≡ o → o ≡ None
    by_taker None is = refl
    by_taker (Some u) is =
        let h = ticketed_is start lines run.age u begun right is in
        let one = ages-differ start lines u t h.run run begun right h.at at h.aged in
        let same = same_Some h.run run (sym h.at ∙ (ap (λ (x : Tid). run_at start lines x) one ∙ at)) in
        let none : has_ticket h.run ≡ false = ap (λ (r : Run). has_ticket r) same ∙ ap (λ (o : Option ℕ). is_some o) ticketless in
        absurd (true≢false (sym h.taken ∙ none))
