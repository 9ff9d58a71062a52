-- The book of each call follows the lines with that call's line.
use Rattle.std.proofs.Common.{◌≡◌, ℕ, suc, ◌+◌, Bool, true, false, ◌||◌, ◌&&◌, cond, not, is_some, IsSome, Option, Some, None, List, ◌∷◌, length, refl, sym, ap, ◌∙◌, subst, arith}
use Rattle.std.specs.FinMap.{get, insert}
use Rattle.mdb_base.specs.declared.acts.PlainAct.{PlainAct}
use Rattle.mdb_base.specs.declared.acts.PlainAct.TheVariants.{Read, Write}
use Rattle.mdb_base.specs.declared.names.Key.{Key}
use Rattle.mdb_base.specs.declared.names.Tid.{Tid}
use Rattle.mdb_base.specs.declared.replies.Reply.{Reply}
use Rattle.mdb_base.specs.declared.replies.Reply.TheVariants as Reply_is
use Rattle.mdb_base.specs.Names.{same_tid}
use Rattle.mdb_base.specs.Words.{holds_of, map_some, or_else}
use Rattle.mdb_base.proofs.ForCallers.{and_false, and_true, same_tid-equal, tid_ties, tids_exact, tids_total}
use Rattle.fed_rules.specs.Runs.{Start, EngineLine, Begins, Acts, Takes, Seals, Refuses, Commits, Aborts, Got, Wrote, Run, run_at, changed, acted, took, tid_of, gives_up, is_sealed}
use Rattle.fed_rules.specs.SitePast.{ends, live_one}
use Rattle.engine_laws.proofs.ForCallers.{abort_ends}
use Rattle.site_book.specs.declared.progress.Progress.{Progress}
use Rattle.site_book.specs.declared.progress.Progress.TheVariants as Is
use Rattle.site_book.specs.Noted.{Noted, noted_of, fresh, with_read, with_write}
use Rattle.site_book.specs.Book.{Book, Attempts, progress_of, live_part, live_in, sealed_part, closed_part, is_closed_in, changed_in, on_live, replied, taken, enters, notes_reply, notes_take}
use Rattle.site_book.specs.Follows.{Follows, progress_by}
use Rattle.site_book.specs.Laws.{AnswersBy, AnswersWell, ClosesBy, CallsWell, CommitsWell, DecidesWell, StaysClosed}
use Rattle.site_book.proofs.Maps.{get-put, put-put}

-- how far an attempt is after one is put in or changed
pub get-put_tid : (m : Attempts) (t u : Tid) (p : Progress) → get (insert m t p) u ≡ cond (same_tid t u) (Some p) (get m u)
get-put_tid m t u p = get-put tids_total tids_exact m t u p ∙ ap (λ (b : Bool). cond b (Some p) (get m u)) (tid_ties t u)

none_there : (m : Attempts) (t u : Tid) (b : Bool) → same_tid t u ≡ b → get m t ≡ None → get m u ≡ cond b None (get m u)
none_there m t u true e none = ap (λ (x : Tid). get m x) (sym (same_tid-equal t u e)) ∙ none
none_there m t u false e none = refl

pub get-changed_tid : (m : Attempts) (t u : Tid) (change : Progress → Progress) → get (changed_in t change m) u ≡ cond (same_tid t u) (map_some change (get m t)) (get m u)
get-changed_tid m t u change = by_found (get m t) refl
  where
    by_found : (o : Option Progress) → get m t ≡ o → get (or_else (map_some (λ p. insert m t (change p)) o) m) u ≡ cond (same_tid t u) (map_some change o) (get m u)
    by_found None none = none_there m t u (same_tid t u) refl none
    by_found (Some p) is = get-put_tid m t u (change p)

-- whether a line ends the run of its attempt
abbrev ends_it : EngineLine → Bool
ends_it (Commits tid) = true
ends_it line = gives_up line

ends_own : (line : EngineLine) (u : Tid) → ends u line ≡ (ends_it line && same_tid (tid_of line) u)
ends_own (Begins tid n) u = refl
ends_own (Acts tid act reply) u = refl
ends_own (Takes tid reply) u = refl
ends_own (Seals tid n) u = refl
ends_own (Refuses tid why) u = refl
ends_own (Commits tid) u = refl
ends_own (Aborts tid) u = refl

-- a line behind which its attempt is so far, and every other one as it was
by_line : (old new : Book) (start : Start) (older : List EngineLine) (line : EngineLine) (before behind : Tid → Bool) (own : Option Progress) → Follows old start older before →
    ClosesBy line before behind → ((u : Tid) → progress_of new u ≡ cond (same_tid (tid_of line) u) own (progress_of old u)) →
    own ≡ progress_by (changed line (run_at start older (tid_of line))) (ends_it line || before (tid_of line)) → Follows new start (line ∷ older) behind
by_line old new start older line before behind own follows closing found made = record { attempts = λ u. found u ∙ by_test u (same_tid (tid_of line) u) refl }
  where
    by_test : (u : Tid) (b : Bool) → same_tid (tid_of line) u ≡ b → cond b own (progress_of old u) ≡ progress_by (cond b (changed line (run_at start older u)) (run_at start older u)) (behind u)
    by_test u true e =
        let same = same_tid-equal (tid_of line) u e in
        let closed : behind u ≡ (ends_it line || before u) = closing u ∙ ap (λ (b : Bool). b || before u) (ends_own line u ∙ (ap (λ (b : Bool). ends_it line && b) e ∙ and_true (ends_it line))) in
        made ∙ (ap (λ (t : Tid). progress_by (changed line (run_at start older t)) (ends_it line || before t)) same
        ∙ ap (λ (b : Bool). progress_by (changed line (run_at start older u)) b) (sym closed))
    by_test u false e =
        let closed : behind u ≡ before u = closing u ∙ ap (λ (b : Bool). b || before u) (ends_own line u ∙ (ap (λ (b : Bool). ends_it line && b) e ∙ and_false (ends_it line))) in
        follows.attempts u ∙ ap (λ (b : Bool). progress_by (run_at start older u) b) (sym closed)

-- a live attempt has an unended run that isn't sealed
pub record IsLiveRun (o : Option Run) : Type 0 where
  pub run : Run
  pub is : o ≡ Some run
  pub unsealed : is_sealed run ≡ false

pub live_run : (o : Option Run) (c : Bool) → IsSome (live_part (progress_by o c)) → IsLiveRun o
live_run None true there = cc
live_run None false there = cc
live_run (Some run) c there = by_test (is_sealed run) refl there
  where
    by_test : (b : Bool) → is_sealed run ≡ b → IsSome (live_part (Some (cond b Is.Sealed (Is.Live (noted_of run))))) → IsLiveRun (Some run)
    by_test true e some = cc
    by_test false e some = record { run = run; is = refl; unsealed = e }

pub live_of : (book : Book) (start : Start) (lines : List EngineLine) (closed : Tid → Bool) (tid : Tid) → Follows book start lines closed → IsSome (live_in book tid) → IsLiveRun (run_at start lines tid)
live_of book start lines closed tid follows live =
    live_run (run_at start lines tid) (closed tid) (subst (λ (o : Option Progress). IsSome (live_part o)) (follows.attempts tid) live)

-- how far an attempt with such a run is
pub progress_live : (run : Run) (c : Bool) → is_sealed run ≡ false → progress_by (Some run) c ≡ Some (Is.Live (noted_of run))
progress_live run c e = ap (λ (b : Bool). let o : Option Progress = Some (cond b Is.Sealed (Is.Live (noted_of run))) in o) e

one_more : (n : ℕ) → n + 1 ≡ suc n
one_more n = omega arith

noted-got : (run : Run) (key : Key) (value : ℕ) → with_read value (noted_of run) ≡ noted_of (record run { acts = Got key value ∷ run.acts })
noted-got run key value = ap (λ (n : ℕ). let noted : Noted = record (noted_of (record run { acts = Got key value ∷ run.acts })) { accesses = n } in noted) (one_more (length run.acts))

noted-wrote : (run : Run) (key : Key) (value : ℕ) → with_write (noted_of run) ≡ noted_of (record run { acts = Wrote key value ∷ run.acts })
noted-wrote run key value = ap (λ (n : ℕ). let noted : Noted = record (noted_of (record run { acts = Wrote key value ∷ run.acts })) { accesses = n } in noted) (one_more (length run.acts))

abbrev some_live : Noted → Option Progress
some_live noted = Some (Is.Live noted)

-- what the reply to an access makes of a live attempt
replied_own : (reply : Reply) (act : PlainAct) (run : Run) (tid : Tid) (c : Bool) → gives_up (Acts tid act reply) ≡ false → is_sealed run ≡ false →
    Some (Is.Live (replied reply act (noted_of run))) ≡ progress_by (acted reply act run) c
replied_own (Reply_is.Refused why) act run tid c e live = cc
replied_own (Reply_is.Wait by) act run tid c e live = sym (progress_live run c live)
replied_own (Reply_is.Ticket n) act run tid c e live = sym (progress_live run c live)
replied_own Reply_is.Unknown act run tid c e live = sym (progress_live run c live)
replied_own (Reply_is.Value value) (Read key) run tid c e live =
    ap some_live (noted-got run key value) ∙ sym (progress_live (record run { acts = Got key value ∷ run.acts }) c live)
replied_own (Reply_is.Value value) (Write key v) run tid c e live = sym (progress_live run c live)
replied_own Reply_is.Done (Read key) run tid c e live = sym (progress_live run c live)
replied_own Reply_is.Done (Write key value) run tid c e live =
    ap some_live (noted-wrote run key value) ∙ sym (progress_live (record run { acts = Wrote key value ∷ run.acts }) c live)

taken_own : (reply : Reply) (run : Run) (tid : Tid) (c : Bool) → gives_up (Takes tid reply) ≡ false → is_sealed run ≡ false →
    Some (Is.Live (taken reply (noted_of run))) ≡ progress_by (took reply run) c
taken_own (Reply_is.Refused why) run tid c e live = cc
taken_own (Reply_is.Wait by) run tid c e live = sym (progress_live run c live)
taken_own (Reply_is.Ticket n) run tid c e live = sym (progress_live (record run { ticket = Some n }) c live)
taken_own Reply_is.Unknown run tid c e live = sym (progress_live run c live)
taken_own (Reply_is.Value value) run tid c e live = sym (progress_live run c live)
taken_own Reply_is.Done run tid c e live = sym (progress_live run c live)

-- the attempt is live in the book that follows, so what is done to it is done to what is noted of its run
live_changed : (book : Book) (start : Start) (lines : List EngineLine) (closed : Tid → Bool) (tid : Tid) (run : Run) (change : Noted → Noted) → Follows book start lines closed →
    run_at start lines tid ≡ Some run → is_sealed run ≡ false → map_some (on_live change) (progress_of book tid) ≡ Some (Is.Live (change (noted_of run)))
live_changed book start lines closed tid run change follows is live =
    ap (map_some (on_live change)) (follows.attempts tid ∙ (ap (λ (o : Option Run). progress_by o (closed tid)) is ∙ progress_live run (closed tid) live))

-- a line that ends the run of its attempt, which is closed then
by_end : (old new : Book) (start : Start) (older : List EngineLine) (line : EngineLine) (before behind : Tid → Bool) → Follows old start older before → ClosesBy line before behind →
    new.attempts ≡ insert old.attempts (tid_of line) Is.Closed → changed line (run_at start older (tid_of line)) ≡ None → ends_it line ≡ true → Follows new start (line ∷ older) behind
by_end old new start older line before behind follows closing made ended it =
    by_line old new start older line before behind (Some Is.Closed) follows closing
    (λ u. ap (λ (m : Attempts). get m u) made ∙ get-put_tid old.attempts (tid_of line) u Is.Closed)
    (sym (ap (λ (o : Option Run). progress_by o (ends_it line || before (tid_of line))) ended ∙ ap (λ (b : Bool). progress_by None (b || before (tid_of line))) it))

ended-commits : (tid : Tid) (o : Option Run) → changed (Commits tid) o ≡ None
ended-commits tid None = refl
ended-commits tid (Some run) = refl

-- an access of a live attempt
by_act : (old new : Book) (start : Start) (older : List EngineLine) (tid : Tid) (act : PlainAct) (reply : Reply) (before behind : Tid → Bool) → Follows old start older before →
    ClosesBy (Acts tid act reply) before behind → IsSome (live_in old tid) → new.attempts ≡ (notes_reply tid act reply old).attempts → Follows new start (Acts tid act reply ∷ older) behind
by_act old new start older tid act reply before behind follows closing live made = by_reply reply refl closing made
  where
    has : IsLiveRun (run_at start older tid)
    has = live_of old start older before tid follows live

    granted : (reply : Reply) → gives_up (Acts tid act reply) ≡ false → ClosesBy (Acts tid act reply) before behind → new.attempts ≡ changed_in tid (on_live (replied reply act)) old.attempts →
        Follows new start (Acts tid act reply ∷ older) behind
    granted reply kept closing made =
        by_line old new start older (Acts tid act reply) before behind _ follows closing
        (λ u. ap (λ (m : Attempts). get m u) made ∙ get-changed_tid old.attempts tid u (on_live (replied reply act)))
        (live_changed old start older before tid has.run (replied reply act) follows has.is has.unsealed
        ∙ (replied_own reply act has.run tid _ kept has.unsealed
        ∙ sym (ap (λ (o : Option Run). progress_by (changed (Acts tid act reply) o) (ends_it (Acts tid act reply) || before tid)) has.is)))

    by_reply : (r : Reply) → r ≡ reply → ClosesBy (Acts tid act r) before behind → new.attempts ≡ (notes_reply tid act r old).attempts → Follows new start (Acts tid act r ∷ older) behind
    by_reply (Reply_is.Refused why) same closing made =
        by_end old new start older (Acts tid act (Reply_is.Refused why)) before behind follows closing made
        (ap (changed (Acts tid act (Reply_is.Refused why))) has.is) refl
    by_reply (Reply_is.Wait by) same closing made = granted (Reply_is.Wait by) refl closing made
    by_reply (Reply_is.Ticket n) same closing made = granted (Reply_is.Ticket n) refl closing made
    by_reply Reply_is.Unknown same closing made = granted Reply_is.Unknown refl closing made
    by_reply (Reply_is.Value value) same closing made = granted (Reply_is.Value value) refl closing made
    by_reply Reply_is.Done same closing made = granted Reply_is.Done refl closing made

-- the taking of its ticket
by_take : (old new : Book) (start : Start) (older : List EngineLine) (tid : Tid) (reply : Reply) (before behind : Tid → Bool) → Follows old start older before →
    ClosesBy (Takes tid reply) before behind → IsSome (live_in old tid) → new.attempts ≡ (notes_take tid reply old).attempts → Follows new start (Takes tid reply ∷ older) behind
by_take old new start older tid reply before behind follows closing live made = by_reply reply closing made
  where
    has : IsLiveRun (run_at start older tid)
    has = live_of old start older before tid follows live

    given : (reply : Reply) → gives_up (Takes tid reply) ≡ false → ClosesBy (Takes tid reply) before behind → new.attempts ≡ changed_in tid (on_live (taken reply)) old.attempts →
        Follows new start (Takes tid reply ∷ older) behind
    given reply kept closing made =
        by_line old new start older (Takes tid reply) before behind _ follows closing
        (λ u. ap (λ (m : Attempts). get m u) made ∙ get-changed_tid old.attempts tid u (on_live (taken reply)))
        (live_changed old start older before tid has.run (taken reply) follows has.is has.unsealed
        ∙ (taken_own reply has.run tid _ kept has.unsealed
        ∙ sym (ap (λ (o : Option Run). progress_by (changed (Takes tid reply) o) (ends_it (Takes tid reply) || before tid)) has.is)))

    by_reply : (r : Reply) → ClosesBy (Takes tid r) before behind → new.attempts ≡ (notes_take tid r old).attempts → Follows new start (Takes tid r ∷ older) behind
    by_reply (Reply_is.Refused why) closing made =
        by_end old new start older (Takes tid (Reply_is.Refused why)) before behind follows closing made
        (ap (changed (Takes tid (Reply_is.Refused why))) has.is) refl
    by_reply (Reply_is.Wait by) closing made = given (Reply_is.Wait by) refl closing made
    by_reply (Reply_is.Ticket n) closing made = given (Reply_is.Ticket n) refl closing made
    by_reply Reply_is.Unknown closing made = given Reply_is.Unknown refl closing made
    by_reply (Reply_is.Value value) closing made = given (Reply_is.Value value) refl closing made
    by_reply Reply_is.Done closing made = given Reply_is.Done refl closing made

-- a sealing
by_seal : (old new : Book) (start : Start) (older : List EngineLine) (tid : Tid) (n : ℕ) (before behind : Tid → Bool) → Follows old start older before →
    ClosesBy (Seals tid n) before behind → IsSome (live_in old tid) → new.attempts ≡ insert old.attempts tid Is.Sealed → Follows new start (Seals tid n ∷ older) behind
by_seal old new start older tid n before behind follows closing live made =
    let has = live_of old start older before tid follows live in
    by_line old new start older (Seals tid n) before behind (Some Is.Sealed) follows closing
    (λ u. ap (λ (m : Attempts). get m u) made ∙ get-put_tid old.attempts tid u Is.Sealed)
    (sym (ap (λ (o : Option Run). progress_by (changed (Seals tid n) o) (before tid)) has.is))

pub calls_well : CallsWell
calls_well old new start older (Begins tid n) before behind follows closing called =
    by_line old new start older (Begins tid n) before behind (Some (Is.Live fresh)) follows closing
    (λ u. ap (λ (m : Attempts). get m u) called ∙ get-put_tid old.attempts tid u (Is.Live fresh)) refl
calls_well old new start older (Acts tid act reply) before behind follows closing called =
    by_act old new start older tid act reply before behind follows closing called.0 (ap (λ (b : Book). b.attempts) called.1)
calls_well old new start older (Takes tid reply) before behind follows closing called =
    by_take old new start older tid reply before behind follows closing called.0 (ap (λ (b : Book). b.attempts) called.1)
calls_well old new start older (Seals tid n) before behind follows closing called =
    by_seal old new start older tid n before behind follows closing called.0 (ap (λ (b : Book). b.attempts) called.1)
calls_well old new start older (Refuses tid why) before behind follows closing called =
    by_end old new start older (Refuses tid why) before behind follows closing called (by_run (run_at start older tid)) refl
  where
    by_run : (o : Option Run) → changed (Refuses tid why) o ≡ None
    by_run None = refl
    by_run (Some run) = refl
calls_well old new start older (Commits tid) before behind follows closing called =
    by_end old new start older (Commits tid) before behind follows closing called (ended-commits tid (run_at start older tid)) refl
calls_well old new start older (Aborts tid) before behind follows closing called =
    by_end old new start older (Aborts tid) before behind follows closing called (abort_ends tid (run_at start older tid)) refl

-- a local commit
pub commits_well : CommitsWell
commits_well old new start older tid n before behind follows live closing made =
    by_end (enters tid Is.Sealed old) new start (Seals tid n ∷ older) (Commits tid) before behind
    (by_seal old (enters tid Is.Sealed old) start older tid n before before follows (λ u. refl) live refl)
    closing (made ∙ sym (put-put tids_total tids_exact old.attempts tid Is.Sealed Is.Closed)) (ended-commits tid (run_at start (Seals tid n ∷ older) tid)) refl

-- a decision on an attempt without a run
pub decides_well : DecidesWell
decides_well old new start lines tid before behind follows none closing made =
    record { attempts = λ u. ap (λ (m : Attempts). get m u) made ∙ (get-put_tid old.attempts tid u Is.Closed ∙ by_test u (same_tid tid u) refl) }
  where
    by_test : (u : Tid) (b : Bool) → same_tid tid u ≡ b → cond b (Some Is.Closed) (progress_of old u) ≡ progress_by (run_at start lines u) (behind u)
    by_test u true e =
        let same = same_tid-equal tid u e in
        sym (ap (λ (c : Bool). progress_by (run_at start lines u) c) (closing u ∙ ap (λ (b : Bool). b || before u) e)
        ∙ ap (λ (o : Option Run). progress_by o true) (ap (λ (t : Tid). run_at start lines t) (sym same) ∙ none))
    by_test u false e =
        follows.attempts u ∙ sym (ap (λ (c : Bool). progress_by (run_at start lines u) c) (closing u ∙ ap (λ (b : Bool). b || before u) e))

-- a decision on a closed attempt
pub stays_closed : StaysClosed
stays_closed book start lines tid before behind follows closed closing = record { attempts = λ u. follows.attempts u ∙ by_test u (same_tid tid u) refl }
  where
    by_run : (o : Option Run) (c : Bool) → closed_part (progress_by o c) ≡ true → progress_by o c ≡ progress_by o true
    by_run None true e = refl
    by_run None false e = cc
    by_run (Some run) c e = refl

    by_test : (u : Tid) (b : Bool) → same_tid tid u ≡ b → progress_by (run_at start lines u) (before u) ≡ progress_by (run_at start lines u) (behind u)
    by_test u true e =
        let here : closed_part (progress_by (run_at start lines u) (before u)) ≡ true =
        sym (ap closed_part (follows.attempts u)) ∙ (ap (λ (x : Tid). is_closed_in book x) (sym (same_tid-equal tid u e)) ∙ closed) in
        by_run (run_at start lines u) (before u) here
        ∙ sym (ap (λ (c : Bool). progress_by (run_at start lines u) c) (closing u ∙ ap (λ (b : Bool). b || before u) e))
    by_test u false e = sym (ap (λ (c : Bool). progress_by (run_at start lines u) c) (closing u ∙ ap (λ (b : Bool). b || before u) e))

-- what the book answers
answers_by : (book : Book) (u : Tid) (run : Option Run) (closed : Bool) → progress_of book u ≡ progress_by run closed → AnswersBy book u run closed
answers_by book u run closed is =
    record {
      live = ap live_part is ∙ live run closed;
      sealed = ap sealed_part is ∙ sealed run closed;
      closed_is = ap closed_part is ∙ closed_is run closed;
      entered = ap (λ (o : Option Progress). is_some o) is ∙ entered run closed;
    }
  where
    live : (o : Option Run) (c : Bool) → live_part (progress_by o c) ≡ map_some noted_of (live_one o)
    live None true = refl
    live None false = refl
    live (Some run) c = by_test (is_sealed run)
      where
        by_test : (b : Bool) → live_part (Some (cond b Is.Sealed (Is.Live (noted_of run)))) ≡ map_some noted_of (cond b None (Some run))
        by_test true = refl
        by_test false = refl

    sealed : (o : Option Run) (c : Bool) → sealed_part (progress_by o c) ≡ holds_of is_sealed o
    sealed None true = refl
    sealed None false = refl
    sealed (Some run) c = by_test (is_sealed run)
      where
        by_test : (b : Bool) → sealed_part (Some (cond b Is.Sealed (Is.Live (noted_of run)))) ≡ b
        by_test true = refl
        by_test false = refl

    closed_is : (o : Option Run) (c : Bool) → closed_part (progress_by o c) ≡ (not (is_some o) && c)
    closed_is None true = refl
    closed_is None false = refl
    closed_is (Some run) c = by_test (is_sealed run)
      where
        by_test : (b : Bool) → closed_part (Some (cond b Is.Sealed (Is.Live (noted_of run)))) ≡ false
        by_test true = refl
        by_test false = refl

    entered : (o : Option Run) (c : Bool) → is_some (progress_by o c) ≡ (is_some o || c)
    entered None true = refl
    entered None false = refl
    entered (Some run) c = refl

pub answers_well : AnswersWell
answers_well book start lines closed follows u = answers_by book u (run_at start lines u) (closed u) (follows.attempts u)
