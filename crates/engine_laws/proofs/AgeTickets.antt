-- Rules by age give the ticket in the order of the timestamps: who has it unsealed is younger than all others that have one.
use Rattle.std.proofs.Common.{◌≡◌, ℕ, ◌+◌, ◌<◌, ◌⊎◌, Bool, false, not, ◌&&◌, Some, is_some, List, [], ◌∷◌, ◌++◌, refl, sym, ap, ◌∙◌, inl, inr, arith, lt-ltb, true≢false}
use Rattle.std.proofs.lemmas.Bool.{and_from}
use Rattle.mdb_base.specs.declared.names.Tid.{Tid}
use Rattle.mdb_base.specs.declared.names.Engine.{Engine}
use Rattle.mdb_base.specs.declared.replies.Reply.TheVariants as Reply_is
use Rattle.mdb_base.specs.Names.{same_tid}
use Rattle.mdb_base.specs.Words.{Each}
use Rattle.mdb_base.proofs.ForCallers.{each_all, each_append, each_map, same_tid-sym, those_none}
use Rattle.fed_rules.specs.Runs.{Start, EngineLine, Takes, Commits, Run, tid_of, restored, run_at, unended, number, committed, published, is_sealed, has_ticket}
use Rattle.fed_rules.specs.Replies.{AtBegin, rule, number_drawn, ticket_reply, younger_takers, older_takers, is_younger, is_older, or_reply}
use Rattle.fed_rules.specs.EngineLines.{IsRight, IsRightLine, IsStart}
use Rattle.engine_laws.specs.Unended.{EachRun, EachPair}
use Rattle.engine_laws.proofs.ByNumber.{StaysClear}
use Rattle.engine_laws.proofs.Runs.{Own, begins, stays, got, wrote, takes, seals, own, each_run, each_pair, both_ways, each_restored, each_unended, each_committed}
use Rattle.engine_laws.proofs.Granted.{late_or_wait_grants}
use Rattle.engine_laws.proofs.Sound.{IsSound}
use Rattle.engine_laws.proofs.Tickets.{IsInOrder, order_next, order_start}
use Rattle.engine_laws.proofs.Takers.{IsTaker, HasOneTaker, TakesFree, one_taker_next, one_taker_start}
use Rattle.engine_laws.proofs.AgeRuns.{IsAged, IsByAge, number_is_age, aged, age_sound}

-- the run, where it took a ticket, is older than this
abbrev IsOlderTaker : ℕ → Run → Type 0
IsOlderTaker age run = (t : ℕ) → run.ticket ≡ Some t → run.age < age

-- all others with a ticket are older than an unsealed one that has it
record IsYoungestTaker (start : Start) (lines : List EngineLine) : Type 0 where
  unended : EachPair start lines (λ a b. IsTaker a → IsOlderTaker a.age b)
  committed : EachRun start lines (λ a. IsTaker a → Each (IsOlderTaker a.age) (committed start lines))

-- what a given ticket tells: no younger run has one, and no older unsealed one
record IsGiven (start : Start) (lines : List EngineLine) (me : Run) (n : ℕ) : Type 0 where
  younger : EachRun start lines (λ b. (t : ℕ) → b.ticket ≡ Some t → me.age < b.age → ⊥)
  committed : Each (λ d. (t : ℕ) → d.ticket ≡ Some t → me.age < d.age → ⊥) (committed start lines)
  older : EachRun start lines (λ b. IsTaker b → b.age < me.age → ⊥)
  next : n ≡ published start lines + 1

ticket_given : (kind : Engine) → IsByAge kind → (start : Start) (lines : List EngineLine) → IsRight start lines → start.kind ≡ kind → (me : Run) (n : ℕ)
    → Reply_is.Ticket n ≡ ticket_reply start lines me → IsGiven start lines me n
ticket_given kind by start lines right is_kind me n is =
    let grant = Reply_is.Ticket (published start lines + 1) in
    let by_rule = ap (λ k. or_reply ((rule k).ticket start lines me) grant) is_kind ∙ ap (λ o. or_reply o grant) (by.ticket start lines me) in
    let free = late_or_wait_grants (younger_takers start lines me) (older_takers start lines me) grant (Reply_is.Ticket n) refl
    (is ∙ by_rule) in
    let young : Run → Bool = λ run. is_younger me run && has_ticket run in
    let none = each_append (λ run. young run ≡ false) (unended start lines) (committed start lines)
    (those_none young (unended start lines ++ committed start lines) free.0) in
    let no_younger : (run : Run) → young run ≡ false → (t : ℕ) → run.ticket ≡ Some t → me.age < run.age → ⊥ =
    λ run failed t taken less. let both = and_from (is_younger me run) (has_ticket run) (lt-ltb me.age run.age less)
    (ap is_some taken) in absurd (true≢false (sym both ∙ failed)) in
    let old : Run → Bool = λ run. is_older me run && has_ticket run && not (is_sealed run) in
    let no_older : (run : Run) → old run ≡ false → IsTaker run → run.age < me.age → ⊥ =
    λ run failed taker less.
    let first = and_from (is_older me run) (has_ticket run) (lt-ltb run.age me.age less) (ap is_some taker.taken) in
    let both = and_from (is_older me run && has_ticket run) (not (is_sealed run)) first
    (ap (λ o. not (is_some o)) taker.open_run) in
    absurd (true≢false (sym both ∙ failed)) in
    record {
      younger = each_unended start lines right (λ run. (t : ℕ) → run.ticket ≡ Some t → me.age < run.age → ⊥)
          (each_map _ _ no_younger (unended start lines) none.0);
      committed = each_map _ (λ run. (t : ℕ) → run.ticket ≡ Some t → me.age < run.age → ⊥) no_younger (committed start lines)
          none.1;
      older = each_unended start lines right (λ run. IsTaker run → run.age < me.age → ⊥)
          (each_map _ (λ run. IsTaker run → run.age < me.age → ⊥) no_older (unended start lines)
          (those_none old (unended start lines) free.1));
      next = let e = free.2 in cc;
    }

-- two unended runs have different ages
differ : (start : Start) (lines : List EngineLine) → IsSound AtBegin start lines → (t u : Tid) (a b : Run)
    → same_tid t u ≡ false
    → run_at start lines t ≡ Some a → run_at start lines u ≡ Some b → (a.age < b.age) ⊎ (b.age < a.age)
differ start lines sound t u a b apart ea eb = elim (sound.apart t u a b apart ea eb a.age b.age refl refl) [
  | inl (less, clear) ↦ inl less
  | inr (less, clear) ↦ inr less
]

-- the ticket is given where there is no taker
takes_free : (kind : Engine) → IsByAge kind → (start : Start) (older : List EngineLine) (line : EngineLine) → IsRight start older → start.kind ≡ kind
    → IsSound AtBegin start older → TakesFree start older line
takes_free kind by start older line right is_kind sound tid n run is_line live is =
    let given = ticket_given kind by start older right is_kind run n is in (
      given.next,
      λ u b apart was taker. elim (differ start older sound tid u run b apart live.0 was) [
        | inl less ↦ given.younger u b was taker.ticket taker.taken less
        | inr less ↦ given.older u b was taker less
      ],
    )

own_pair : (kind : Engine) → IsByAge kind → (start : Start) (older : List EngineLine) (line : EngineLine) (r : Run) → IsRight start older → start.kind ≡ kind
    → IsSound AtBegin start older
    → IsYoungestTaker start older → Own start older line r → (u : Tid) (b : Run) → same_tid (tid_of line) u ≡ false
    → run_at start older u ≡ Some b
    → (IsTaker r → IsOlderTaker r.age b) × (IsTaker b → IsOlderTaker b.age r)
own_pair kind by start older line r right is_kind sound h (begins free next) u b other was =
    (λ taker. let taken = taker.taken in cc, λ taker t taken. cc)
own_pair kind by start older line r right is_kind sound h (stays waits at) u b other was =
    both_ways start older (λ a b. IsTaker a → IsOlderTaker a.age b) h.unended _ u r b other at was
own_pair kind by start older line r right is_kind sound h (got run live is) u b other was =
    let pair = both_ways start older (λ a b. IsTaker a → IsOlderTaker a.age b) h.unended _ u run b other live.0 was in
    (λ taker. pair.0 (record { open_run = taker.open_run; ticket = taker.ticket; taken = taker.taken }), pair.1)
own_pair kind by start older line r right is_kind sound h (wrote run live is) u b other was =
    let pair = both_ways start older (λ a b. IsTaker a → IsOlderTaker a.age b) h.unended _ u run b other live.0 was in
    (λ taker. pair.0 (record { open_run = taker.open_run; ticket = taker.ticket; taken = taker.taken }), pair.1)
own_pair kind by start older line r right is_kind sound h (takes {tid = tid} {n = n} run live is) u b other was =
    let given = ticket_given kind by start older right is_kind run n is in (
      λ taker t taken. elim (differ start older sound tid u run b other live.0 was) [
        | inl less ↦ absurd (given.younger u b was t taken less)
        | inr less ↦ less
      ],
      λ taker. absurd ((takes_free kind by start older (Takes tid (Reply_is.Ticket n)) right is_kind sound tid n run refl live is).1 u b
          other was taker),
    )
own_pair kind by start older line r right is_kind sound h (seals run live stop next) u b other was =
    let pair = both_ways start older (λ a b. IsTaker a → IsOlderTaker a.age b) h.unended _ u run b other live.0 was in
    (λ taker. let open_run = taker.open_run in cc, pair.1)

own_committed : (kind : Engine) → IsByAge kind → (start : Start) (older : List EngineLine) (line : EngineLine) (r : Run) → IsRight start older
    → start.kind ≡ kind → IsSound AtBegin start older
    → IsAged start older → IsYoungestTaker start older → Own start older line r → IsTaker r
    → Each (IsOlderTaker r.age) (committed start older)
own_committed kind by start older line r right is_kind sound ages h (begins free next) taker = let taken = taker.taken in cc
own_committed kind by start older line r right is_kind sound ages h (stays waits at) taker = h.committed _ r at taker
own_committed kind by start older line r right is_kind sound ages h (got run live is) taker =
    h.committed _ run live.0 (record { open_run = taker.open_run; ticket = taker.ticket; taken = taker.taken })
own_committed kind by start older line r right is_kind sound ages h (wrote run live is) taker =
    h.committed _ run live.0 (record { open_run = taker.open_run; ticket = taker.ticket; taken = taker.taken })
own_committed kind by start older line r right is_kind sound ages h (takes {tid = tid} {n = n} run live is) taker =
    each_older (committed start older) (sound.clear tid run live.0 run.age refl) ages.committed
    (ticket_given kind by start older right is_kind run n is).committed
  where
    each_older : (ds : List Run) → Each (StaysClear run.acts run.age) ds → Each (λ d. number d ≡ d.age) ds
        → Each (λ d. (t : ℕ) → d.ticket ≡ Some t → run.age < d.age → ⊥) ds
        → Each (IsOlderTaker run.age) ds
    each_older [] clear is_age given = tt
    each_older (d ∷ ds) clear is_age given = (λ t taken. here t taken clear.0, each_older ds clear.1 is_age.1 given.1)
      where
        here : (t : ℕ) → d.ticket ≡ Some t → StaysClear run.acts run.age d → d.age < run.age
        here t taken (inl less) = let same = is_age.0 in omega arith
        here t taken (inr (more, also)) = absurd (given.0 t taken (let same = is_age.0 in omega arith))
own_committed kind by start older line r right is_kind sound ages h (seals run live stop next) taker = let open_run = taker.open_run in cc

-- after a line the committed ones with a ticket are those before it, and the one that it commits
committed_next : (start : Start) (older : List EngineLine) (line : EngineLine) (t : Tid) (a : Run) → IsRightLine start older line
    → IsYoungestTaker start older
    → same_tid (tid_of line) t ≡ false → run_at start older t ≡ Some a → IsTaker a
    → Each (IsOlderTaker a.age) (committed start (line ∷ older))
committed_next start older line t a right h other was taker =
    each_committed start older line (IsOlderTaker a.age) right
    (λ run n is sealed. h.unended t (tid_of line) a run (same_tid-sym t (tid_of line) ∙ other) was sealed.0 taker)
    (h.committed t a was taker)

-- the line's own one
mine_next : (kind : Engine) → IsByAge kind → (start : Start) (older : List EngineLine) (line : EngineLine) (r : Run) → IsRight start (line ∷ older)
    → start.kind ≡ kind → IsSound AtBegin start older
    → IsAged start older → IsYoungestTaker start older → Own start older line r → IsTaker r
    → Each (IsOlderTaker r.age) (committed start (line ∷ older))
mine_next kind by start older (Commits tid) r right is_kind sound ages h mine taker = gone mine
  where
    gone : Own start older (Commits tid) r → Each (IsOlderTaker r.age) (committed start (Commits tid ∷ older))
    gone (stays waits at) = cc
mine_next kind by start older line r right is_kind sound ages h mine taker =
    own_committed kind by start older line r right.1 is_kind sound ages h mine taker

youngest_taker : (kind : Engine) → IsByAge kind → (start : Start) (lines : List EngineLine) → start.kind ≡ kind → IsStart start → IsRight start lines
    → IsYoungestTaker start lines
youngest_taker kind by start [] is_kind begun right = record {
  unended = λ t u a b apart ea eb taker. absurd (none t a ea taker);
  committed = λ t a ea taker. tt;
}
  where
    none : (t : Tid) (a : Run) → run_at start [] t ≡ Some a → IsTaker a → ⊥
    none = each_restored (λ r. IsTaker r → ⊥) start.doubtful
        (each_all (λ kept. IsTaker (restored kept) → ⊥) (λ kept taker. let open_run = taker.open_run in cc) start.doubtful)
youngest_taker kind by start (line ∷ older) is_kind begun right =
    let h = youngest_taker kind by start older is_kind begun right.1 in
    let sound = age_sound kind start older by is_kind begun right.1 in
    let ages = aged kind start older by.drawn is_kind right.1 in
    record {
      unended = each_pair start older line (λ a b. IsTaker a → IsOlderTaker a.age b) h.unended
          (λ u r b other now was. own_pair kind by start older line r right.1 is_kind sound h (own start older line r right.0 now) u b other
          was);
      committed = each_run start older line (λ a. IsTaker a → Each (IsOlderTaker a.age) (committed start (line ∷ older)))
          (λ t a other was taker. committed_next start older line t a right.0 h other was taker)
          (λ r now taker. mine_next kind by start older line r right is_kind sound ages h (own start older line r right.0 now) taker);
    }

pub age_one_taker : (kind : Engine) → IsByAge kind → (start : Start) (lines : List EngineLine) → start.kind ≡ kind → IsStart start → IsRight start lines
    → HasOneTaker start lines
age_one_taker kind by start [] is_kind begun right = one_taker_start start
age_one_taker kind by start (line ∷ older) is_kind begun right =
    one_taker_next start older line right.0 (takes_free kind by start older line right.1 is_kind
    (age_sound kind start older by is_kind begun right.1))
    (age_one_taker kind by start older is_kind begun right.1)

pub age_in_order : (kind : Engine) → IsByAge kind → (start : Start) (lines : List EngineLine) → start.kind ≡ kind → IsStart start → IsRight start lines
    → IsInOrder start lines
age_in_order kind by start [] is_kind begun right = order_start start begun
age_in_order kind by start (line ∷ older) is_kind begun right =
    order_next start older line right.0
    (λ tid n run is_line live stop next t taken.
    let taker : IsTaker run = record { open_run = live.1; ticket = t; taken = taken } in
    let young = youngest_taker kind by start older is_kind begun right.1 in
    let ages = aged kind start older by.drawn is_kind right.1 in
    let is_age : n ≡ run.age = next ∙ ap (λ k. number_drawn (rule k).drawn start older run) is_kind ∙ number_is_age (rule kind).drawn start older run by.drawn in
    let is_next = (age_one_taker kind by start older is_kind begun right.1).next tid run live.0 live.1 t taken in
    record {
      above = omega arith;
      unended = λ u b other was m s sealed its.
          let less = young.unended tid u run b other live.0 was taker s its in
          let its_age = ages.unended u b was m sealed in omega arith;
      committed = each_both (committed start older) n run.age is_age ages.committed (young.committed tid run live.0 taker);
    })
    (age_in_order kind by start older is_kind begun right.1)
  where
    each_both : (ds : List Run) (n age : ℕ) → n ≡ age → Each (λ d. number d ≡ d.age) ds → Each (IsOlderTaker age) ds
        → Each (λ d. (s : ℕ) → d.ticket ≡ Some s → number d < n) ds
    each_both [] n age is is_age young = tt
    each_both (d ∷ ds) n age is is_age young =
        (λ s taken. let less = young.0 s taken in let same = is_age.0 in omega arith, each_both ds n age is is_age.1 young.1)
