-- The live taker is the one live run that has taken the ticket.
use Rattle.std.proofs.Common.{◌≡◌, ℕ, Bool, true, false, not, ◌&&◌, cond, is_some, Option, Some, None, List, [], ◌∷◌, inl, inr, refl, sym, ap, ◌∙◌, true≢false}
use Rattle.std.proofs.lemmas.Bool.{cases_Bool, and_parts}
use Rattle.std.proofs.lemmas.Option.{same_Some}
use Rattle.mdb_base.specs.declared.names.Engine.{Engine}
use Rattle.mdb_base.specs.declared.names.Tid.{Tid}
use Rattle.mdb_base.specs.declared.replies.Reply.TheVariants as Reply_is
use Rattle.mdb_base.specs.Names.{same_tid}
use Rattle.mdb_base.specs.Words.{holds_of, map_some}
use Rattle.mdb_base.proofs.ForCallers.{and_false, each_all, same_tid-equal}
use Rattle.fed_rules.specs.Runs.{Start, EngineLine, Begins, Acts, Takes, Seals, Refuses, Commits, Aborts, Run, tid_of, restored, run_at, has_ticket, is_sealed}
use Rattle.fed_rules.specs.Replies.{age_of}
use Rattle.fed_rules.specs.EngineLines.{IsStart, IsRightLine, IsRight}
use Rattle.engine_laws.specs.Unended.{EachRun}
use Rattle.engine_laws.proofs.ForCallers.{HasOneTaker, IsByAge, IsTaker, Own, age_one_taker, begins, each_restored, each_run, got, may_wait, own, seals, stays, takes, tid_is, wrote}
use Rattle.fed_rules.proofs.ForCallers.{run_at_other, run_at_own}
use Rattle.run_book.specs.declared.rival.Rival.{Rival}
use Rattle.run_book.specs.Rivals.{rival_by}
use Rattle.run_book.specs.Takers.{takes_ticket}
use Rattle.run_book.specs.AgeLines.{rival_at, ends, live_taker}
use Rattle.run_book.proofs.Outcomes.{Outcome, outcome, is_sealing, left-going, ended_run, gives_up-ends}

-- the rival is a live run that has taken the ticket
pub record IsLiveTaker (start : Start) (lines : List EngineLine) (rival : Rival) : Type 0 where
  pub run : Run
  pub at : run_at start lines rival.tid ≡ Some run
  pub taken : takes_ticket run ≡ true
  pub age : run.age ≡ rival.rank

-- a live run with a ticket
pub taker_is : (run : Run) → takes_ticket run ≡ true → IsTaker run
taker_is run has = by_parts run.ticket run.sealed refl refl has
  where
    by_parts : (t s : Option ℕ) → run.ticket ≡ t → run.sealed ≡ s → (is_some t && not (is_some s)) ≡ true → IsTaker run
    by_parts None s e f h = cc
    by_parts (Some n) None e f h = record { open_run = f; ticket = n; taken = e }
    by_parts (Some n) (Some m) e f h = cc

pub taker_takes : (run : Run) → IsTaker run → takes_ticket run ≡ true
taker_takes run h = ap (λ (o : Option ℕ). is_some o && not (is_sealed run)) h.taken ∙ ap (λ (o : Option ℕ). not (is_some o)) h.open_run

-- one whose run the line leaves alone, or lets go on
live_on : (start : Start) (older : List EngineLine) (line : EngineLine) (rival : Rival) → IsRightLine start older line → is_sealing line ≡ false → (ends line && holds_of takes_ticket (run_at start older (tid_of line))) ≡ false →
    IsLiveTaker start older rival → IsLiveTaker start (line ∷ older) rival
live_on start older line rival right unsealing lasting h = elim (cases_Bool (same_tid (tid_of line) rival.tid)) [
  | inr other ↦ record { run = h.run; at = run_at_other start older line rival.tid other ∙ h.at; taken = h.taken; age = h.age }
  | inl same ↦ own_on (same_tid-equal (tid_of line) rival.tid same)
]
  where
    no_end : run_at start older (tid_of line) ≡ Some h.run → ends line ≡ true → ⊥
    no_end here e =
        let has : holds_of takes_ticket (run_at start older (tid_of line)) ≡ true = ap (λ (o : Option Run). holds_of takes_ticket o) here ∙ h.taken in
        let both : (ends line && holds_of takes_ticket (run_at start older (tid_of line))) ≡ true = ap (λ (b : Bool). b && holds_of takes_ticket (run_at start older (tid_of line))) e ∙ has in
        true≢false (sym both ∙ lasting)

    goes : run_at start older (tid_of line) ≡ Some h.run → tid_of line ≡ rival.tid → Outcome line h.run → IsLiveTaker start (line ∷ older) rival
    goes here is (inl on) =
        let a = on.as_it_was in
        let parts = and_parts (has_ticket h.run) (not (is_sealed h.run)) h.taken in
        record {
          run = on.now;
          at = ap (λ (t : Tid). run_at start (line ∷ older) t) (sym is) ∙ (run_at_own start older line (Some h.run) here ∙ on.is);
          taken = ap (λ (b : Bool). b && not (is_sealed on.now)) (a.takes parts.0) ∙ (ap (λ (o : Option ℕ). not (is_some o)) (on.open_still unsealing) ∙ parts.1);
          age = a.age ∙ h.age;
        }
    goes here is (inr (inl commits)) = absurd (no_end here (ap (λ (l : EngineLine). ends l) commits))
    goes here is (inr (inr gives)) = absurd (no_end here (gives_up-ends line gives))

    own_on : tid_of line ≡ rival.tid → IsLiveTaker start (line ∷ older) rival
    own_on is =
        let here = ap (λ (t : Tid). run_at start older t) is ∙ h.at in
        goes here is (outcome start older line h.run right here)

-- one whose run isn't the sealed one
live_beside : (start : Start) (older : List EngineLine) (tid : Tid) (n : ℕ) (rival : Rival) → holds_of has_ticket (run_at start older tid) ≡ false → IsLiveTaker start older rival → IsLiveTaker start (Seals tid n ∷ older) rival
live_beside start older tid n rival none h = by_tid (same_tid tid rival.tid) refl
  where
    by_tid : (b : Bool) → same_tid tid rival.tid ≡ b → IsLiveTaker start (Seals tid n ∷ older) rival
    by_tid true e =
        let here : run_at start older tid ≡ Some h.run = ap (λ (t : Tid). run_at start older t) (same_tid-equal tid rival.tid e) ∙ h.at in
        let parts = and_parts (has_ticket h.run) (not (is_sealed h.run)) h.taken in
        absurd (true≢false (sym (ap (λ (o : Option Run). holds_of has_ticket o) here ∙ parts.0) ∙ none))
    by_tid false e = record { run = h.run; at = run_at_other start older (Seals tid n) rival.tid e ∙ h.at; taken = h.taken; age = h.age }

live_new : (start : Start) (older : List EngineLine) (tid : Tid) (n : ℕ) (rival : Rival) → IsRight start (Takes tid (Reply_is.Ticket n) ∷ older) → rival_at start older tid ≡ Some rival → IsLiveTaker start (Takes tid (Reply_is.Ticket n) ∷ older) rival
live_new start older tid n rival right is =
    let line = Takes tid (Reply_is.Ticket n) in
    let was = right.0.0 in
    let at = right.0.1.0.0 in
    let now : Run = record was { ticket = Some n } in
    let named = tid_is start older right.1 tid was at in
    let mine : rival_by age_of was ≡ rival = same_Some _ _ (sym (ap (λ (o : Option Run). map_some (rival_by age_of) o) at) ∙ is) in
    record {
      run = now;
      at = ap (λ (t : Tid). run_at start (line ∷ older) t) (sym (ap (λ (r : Rival). r.tid) mine) ∙ named) ∙ run_at_own start older line (Some was) at;
      taken = ap (λ (o : Option ℕ). not (is_some o)) right.0.1.0.1;
      age = ap (λ (r : Rival). r.rank) mine;
    }

kept_live : (b : Bool) (o : Option Rival) (rival : Rival) → cond b None o ≡ Some rival → (b ≡ false) × (o ≡ Some rival)
kept_live true o rival is = cc
kept_live false o rival is = (refl, is)

pub live_is : (start : Start) (lines : List EngineLine) (rival : Rival) → IsRight start lines → live_taker start lines ≡ Some rival → IsLiveTaker start lines rival
live_is start [] rival right is = cc
live_is start (Takes tid (Reply_is.Ticket n) ∷ older) rival right is = live_new start older tid n rival right is
live_is start (Seals tid n ∷ older) rival right is =
    let kept = kept_live (holds_of has_ticket (run_at start older tid)) (live_taker start older) rival is in
    live_beside start older tid n rival kept.0 (live_is start older rival right.1 kept.1)
live_is start (line ∷ older) rival right is =
    let kept = kept_live (ends line && holds_of takes_ticket (run_at start older (tid_of line))) (live_taker start older) rival is in
    live_on start older line rival right.0 refl kept.0 (live_is start older rival right.1 kept.1)

-- where the run is a live one that has taken the ticket, there is a live taker
abbrev HasLive : Option Rival → Run → Type 0
HasLive o run = takes_ticket run ≡ true → is_some o ≡ true

cond_some : (b : Bool) (o : Option Rival) → b ≡ false → is_some o ≡ true → is_some (cond b None o) ≡ true
cond_some true o e some = cc
cond_some false o e some = some

-- the line's run is no live taker, where another one is
no_taker : (start : Start) (older : List EngineLine) (line : EngineLine) (t : Tid) (r : Run) → HasOneTaker start older → IsRightLine start older line → same_tid (tid_of line) t ≡ false → run_at start older t ≡ Some r → takes_ticket r ≡ true →
    (b : Bool) → ends line ≡ b → (b && holds_of takes_ticket (run_at start older (tid_of line))) ≡ false
no_taker start older line t r one right other was has false e = refl
no_taker start older line t r one right other was has true e = by_test (takes_ticket mine.0) refl
  where
    mine : (run : Run) × (run_at start older (tid_of line) ≡ Some run)
    mine = ended_run start older line right e

    by_test : (b : Bool) → takes_ticket mine.0 ≡ b → holds_of takes_ticket (run_at start older (tid_of line)) ≡ false
    by_test false f = ap (λ (o : Option Run). holds_of takes_ticket o) mine.1 ∙ f
    by_test true f = absurd (one.one (tid_of line) t mine.0 r other mine.1 was (taker_is mine.0 f) (taker_is r has))

-- another live taker stays, since the line's run is none
other_live : (start : Start) (older : List EngineLine) (line : EngineLine) (t : Tid) (r : Run) → HasOneTaker start older → IsRightLine start older line → same_tid (tid_of line) t ≡ false → run_at start older t ≡ Some r → takes_ticket r ≡ true →
    is_some (live_taker start older) ≡ true → is_some (live_taker start (line ∷ older)) ≡ true
other_live start older (Takes tid (Reply_is.Ticket n)) t r one right other was has some = ap (λ (o : Option Run). is_some (map_some (rival_by age_of) o)) right.1.0.0
other_live start older (Seals tid n) t r one right other was has some = cond_some (holds_of has_ticket (run_at start older tid)) (live_taker start older) (by_test (has_ticket right.0) refl) some
  where
    by_test : (b : Bool) → has_ticket right.0 ≡ b → holds_of has_ticket (run_at start older tid) ≡ false
    by_test false e = ap (λ (o : Option Run). holds_of has_ticket o) right.1.0.0 ∙ e
    by_test true e =
        let own_takes : takes_ticket right.0 ≡ true = ap (λ (b : Bool). b && not (is_sealed right.0)) e ∙ ap (λ (o : Option ℕ). not (is_some o)) right.1.0.1 in
        absurd (one.one tid t right.0 r other right.1.0.0 was (taker_is right.0 own_takes) (taker_is r has))
other_live start older line t r one right other was has some =
    cond_some (ends line && holds_of takes_ticket (run_at start older (tid_of line))) (live_taker start older) (no_taker start older line t r one right other was has (ends line) refl) some

still_live : (start : Start) (older : List EngineLine) (line : EngineLine) → IsRightLine start older line → ends line ≡ false → is_sealing line ≡ false → is_some (live_taker start older) ≡ true → is_some (live_taker start (line ∷ older)) ≡ true
still_live start older (Takes tid (Reply_is.Ticket n)) right going unsealing some = ap (λ (o : Option Run). is_some (map_some (rival_by age_of) o)) right.1.0.0
still_live start older (Seals tid n) right going unsealing some = cc
still_live start older line right going unsealing some =
    cond_some (ends line && holds_of takes_ticket (run_at start older (tid_of line))) (live_taker start older) (ap (λ (b : Bool). b && holds_of takes_ticket (run_at start older (tid_of line))) going) some

waits_unsealing : (line : EngineLine) → may_wait line ≡ true → is_sealing line ≡ false
waits_unsealing (Begins tid n) h = refl
waits_unsealing (Acts tid act reply) h = refl
waits_unsealing (Takes tid reply) h = refl
waits_unsealing (Seals tid n) h = cc
waits_unsealing (Refuses tid why) h = refl
waits_unsealing (Commits tid) h = refl
waits_unsealing (Aborts tid) h = refl

own_live : (start : Start) (older : List EngineLine) (line : EngineLine) (r : Run) → IsRightLine start older line → ends line ≡ false → EachRun start older (HasLive (live_taker start older)) → Own start older line r → HasLive (live_taker start (line ∷ older)) r
own_live start older line r right going h (begins free next) has = cc
own_live start older line r right going h (stays waits at) has = still_live start older line right going (waits_unsealing line waits) (h _ r at has)
own_live start older line r right going h (got run live is) has = h _ run live.0 has
own_live start older line r right going h (wrote run live is) has = h _ run live.0 has
own_live start older line r right going h (takes run live is) has = ap (λ (o : Option Run). is_some (map_some (rival_by age_of) o)) live.0
own_live start older line r right going h (seals run live stop next) has = absurd (true≢false (sym has ∙ and_false (has_ticket run)))

pub has_live : (kind : Engine) (start : Start) (lines : List EngineLine) → IsByAge kind → start.kind ≡ kind → IsStart start → IsRight start lines → EachRun start lines (λ run. takes_ticket run ≡ true → is_some (live_taker start lines) ≡ true)
has_live kind start [] by is_kind begun right =
    each_restored (HasLive None) start.doubtful (each_all (λ kept. HasLive None (restored kept)) (λ kept has. cc) start.doubtful)
has_live kind start (line ∷ older) by is_kind begun right =
    let h = has_live kind start older by is_kind begun right.1 in
    let one = age_one_taker kind by start older is_kind begun right.1 in
    each_run start older line (HasLive (live_taker start (line ∷ older))) (λ t r other was has. other_live start older line t r one right.0 other was has (h t r was has))
    (λ r now. own_live start older line r right.0 (left-going line _ r now) h (own start older line r right.0 now))

-- a live run that has taken the ticket is the live taker
pub live_of : (kind : Engine) (start : Start) (lines : List EngineLine) (t : Tid) (run : Run) → IsByAge kind → start.kind ≡ kind → IsStart start → IsRight start lines → run_at start lines t ≡ Some run → takes_ticket run ≡ true →
    live_taker start lines ≡ Some (record { tid = t; rank = run.age })
live_of kind start lines t run by is_kind begun right at has = by_taker (live_taker start lines) refl (has_live kind start lines by is_kind begun right t run at has)
  where
    one : HasOneTaker start lines
    one = age_one_taker kind by start lines is_kind begun right

    same_taker : (rival : Rival) (h : IsLiveTaker start lines rival) (b : Bool) → same_tid rival.tid t ≡ b → rival.tid ≡ t
    same_taker rival h true e = same_tid-equal rival.tid t e
    same_taker rival h false e = absurd (one.one rival.tid t h.run run e h.at at (taker_is h.run h.taken) (taker_is run has))

    by_taker : (o : Option Rival) → live_taker start lines ≡ o → is_some o ≡ true → o ≡ Some (record { tid = t; rank = run.age })
    by_taker None is some = cc
    by_taker (Some rival) is some =
        let h = live_is start lines rival right is in
        let name = same_taker rival h (same_tid rival.tid t) refl in
        let same : h.run ≡ run = same_Some h.run run (sym h.at ∙ (ap (λ (x : Tid). run_at start lines x) name ∙ at)) in
        ap (λ (x : Tid). let r : Rival = record { tid = x; rank = rival.rank } in Some r) name
        ∙ ap (λ (n : ℕ). let r : Rival = record { tid = t; rank = n } in Some r) (sym h.age ∙ ap (λ (r : Run). r.age) same)
