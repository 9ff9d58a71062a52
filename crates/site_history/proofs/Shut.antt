-- An attempt that was prepared in this epoch has no live run any more, over every line of a site that is up.
use Rattle.std.proofs.Common.{◌≡◌, ℕ, ◌⊎◌, Bool, true, false, cond, ◌&&◌, ◌||◌, Option, Some, None, List, [], ◌∷◌, ◌++◌, refl, sym, ap, ◌∙◌, subst, inl, inr}
use Rattle.std.specs.Prelude.{is_some}
use Rattle.std.proofs.lemmas.Bool.{or_cases}
use Rattle.mdb_base.specs.declared.names.Tid.{Tid}
use Rattle.mdb_base.specs.declared.names.Tx.{Tx}
use Rattle.mdb_base.specs.declared.rows.Put.{Put}
use Rattle.mdb_base.specs.Names.{same_tid}
use Rattle.mdb_base.specs.Words.{some_of}
use Rattle.mdb_base.proofs.ForCallers.{same_tid-equal, same_tid-refl}
use Rattle.order_laws.specs.Chains.{In}
use Rattle.presumptions.specs.declared.Decision.{Decision}
use Rattle.presumptions.specs.declared.Decision.TheVariants as Decided
use Rattle.fed_rules.specs.declared.events.SiteEvent.{SiteEvent}
use Rattle.fed_rules.specs.declared.records.SiteRecord.{SiteRecord}
use Rattle.fed_rules.specs.declared.records.SiteRecord.TheVariants.{Prepared, Ended}
use Rattle.fed_rules.specs.Disk.{Append, Call, Sync}
use Rattle.fed_rules.specs.Runs.{EngineLine, Begins, Acts, Seals, Commits, Aborts, Run, changed, puts_of, run_at, tid_of}
use Rattle.fed_rules.specs.Site.{is_over, next_number, number_of, settling_line}
use Rattle.fed_rules.specs.SitePast.{SitePast, ends, epoch, epoch_start, engine_lines, is_closed, live, live_one, records}
use Rattle.fed_rules.specs.SiteRecords.{Home, Held, doubt_of}
use Rattle.site_history.proofs.Agreement.{IsLiveHere}
use Rattle.site_history.proofs.Backed.{appended}
use Rattle.site_history.proofs.Backing.{run_beside_line}
use Rattle.site_history.proofs.Histories.{live_of_here}
use Rattle.site_history.proofs.HistoryMoves.{synced_append}
use Rattle.site_history.proofs.Moves.{Moves, rests, begins_local, begins_work, goes_on, commits_local, prepares_run, settles_held, checks_sum}

-- the attempt is over, and has no live run
pub record IsShut (home : Home) (past : SitePast) (tid : Tid) : Type 0 where
  pub over : is_over home past tid ≡ true
  pub dead : live home past tid ≡ None

-- each attempt that was prepared in this epoch is so
abbrev pub AreShut : Home → SitePast → Type 0
AreShut home past =
    (tid : Tid) (e number ticket : ℕ) (writes : List Put) → In (Prepared tid e number ticket writes) (records home past)
    → e ≡ epoch home past → IsShut home past tid

-- no live run, and closed or in doubt, after a line
pub record IsShutAfter (home : Home) (past : SitePast) (calls : List (Call SiteRecord)) (lines : List EngineLine) (tid : Tid) : Type 0 where
  pub over : (is_closed past tid ≡ true) ⊎ ((some_of (ends tid) lines ≡ true) ⊎ (is_some (doubt_of (appended calls (records home past)) tid) ≡ true))
  pub dead : live_one (run_at (epoch_start home past) (lines ++ engine_lines past) tid) ≡ None

-- what is over stays so while its doubt lasts
keeps_over : (home : Home) (past : SitePast) (lines : List EngineLine) (tid : Tid) (now : Option Held)
    → (is_some (doubt_of (records home past) tid) ≡ true → is_some now ≡ true) → is_over home past tid ≡ true
    → (is_closed past tid ≡ true) ⊎ ((some_of (ends tid) lines ≡ true) ⊎ (is_some now ≡ true))
keeps_over home past lines tid now f e = elim (or_cases (is_closed past tid) (is_some (doubt_of (records home past) tid)) e) [
  | inl c ↦ inl c
  | inr d ↦ inr (inr (f d))
]

-- a line of another attempt
beside : (home : Home) (past : SitePast) (line : EngineLine) (lines : List EngineLine) (tid : Tid) → same_tid (tid_of line) tid ≡ false
    → live_one (run_at (epoch_start home past) (lines ++ engine_lines past) tid) ≡ None
    → live_one (run_at (epoch_start home past) (line ∷ lines ++ engine_lines past) tid) ≡ None
beside home past line lines tid apart e =
    ap live_one (run_beside_line (epoch_start home past) (lines ++ engine_lines past) line tid apart) ∙ e

-- a live run isn't dead
not_dead : (home : Home) (past : SitePast) (mine tid : Tid) (run : Run) → IsLiveHere home past mine run → live home past tid ≡ None
    → same_tid mine tid ≡ false
not_dead home past mine tid run here dead = by_test (same_tid mine tid) refl
  where
    by_test : (b : Bool) → same_tid mine tid ≡ b → b ≡ false
    by_test true is =
        let clash = sym (live_of_here home past mine run here.live) ∙ ap (live home past) (same_tid-equal mine tid is) ∙ dead in cc
    by_test false is = refl

not_local : (local : Tx → Bool) (mine tid : Tid) → local mine.tx ≡ true → local tid.tx ≡ false → same_tid mine tid ≡ false
not_local local mine tid is others = by_test (same_tid mine tid) refl
  where
    by_test : (b : Bool) → same_tid mine tid ≡ b → b ≡ false
    by_test true same = let clash = sym is ∙ ap (λ t. local t.tx) (same_tid-equal mine tid same) ∙ others in cc
    by_test false same = refl

not_over_is : (home : Home) (past : SitePast) (mine tid : Tid) → is_over home past mine ≡ false → is_over home past tid ≡ true
    → same_tid mine tid ≡ false
not_over_is home past mine tid is over = by_test (same_tid mine tid) refl
  where
    by_test : (b : Bool) → same_tid mine tid ≡ b → b ≡ false
    by_test true same = let clash = sym is ∙ ap (is_over home past) (same_tid-equal mine tid same) ∙ over in cc
    by_test false same = refl

-- a shut attempt stays shut over a line
pub shut_stays : (home : Home) (past : SitePast) (local : Tx → Bool) (event : SiteEvent) (calls : List (Call SiteRecord)) (lines : List EngineLine)
    (tid : Tid) → Moves home past local event calls lines → local tid.tx ≡ false → IsShut home past tid
    → IsShutAfter home past calls lines tid
shut_stays home past local event calls lines tid rests others s =
    record { over = keeps_over home past [] tid (doubt_of (records home past) tid) (λ d. d) s.over; dead = s.dead }
shut_stays home past local event calls lines tid (begins_local {tid = mine} is free none) others s =
    record {
      over = keeps_over home past (Begins mine (next_number home past) ∷ []) tid (doubt_of (records home past) tid) (λ d. d) s.over;
      dead = beside home past (Begins mine (next_number home past)) [] tid (not_local local mine tid is others) s.dead;
    }
shut_stays home past local event calls lines tid (begins_work {tid = mine} {act = act} {reply = reply} far none fresh) others s =
    let apart = not_over_is home past mine tid fresh s.over in
    record {
      over = keeps_over home past (Acts mine act reply ∷ Begins mine (next_number home past) ∷ []) tid (doubt_of (records home past) tid) (λ d. d) s.over;
      dead = beside home past (Acts mine act reply) (Begins mine (next_number home past) ∷ []) tid apart
          (beside home past (Begins mine (next_number home past)) [] tid apart s.dead);
    }
shut_stays home past local event calls lines tid (goes_on {line = line} run here calm) others s =
    record {
      over = keeps_over home past (line ∷ []) tid (doubt_of (records home past) tid) (λ d. d) s.over;
      dead = beside home past line [] tid (not_dead home past (tid_of line) tid run here s.dead) s.dead;
    }
shut_stays home past local event calls lines tid (commits_local {tid = mine} run is here) others s =
    let apart = not_local local mine tid is others in
    let n = number_of home past run in
    record {
      over = keeps_over home past (Commits mine ∷ Seals mine (number_of home past run) ∷ []) tid (doubt_of (records home past) tid) (λ d. d) s.over;
      dead = beside home past (Commits mine) (Seals mine n ∷ []) tid apart (beside home past (Seals mine n) [] tid apart s.dead);
    }
shut_stays home past local event calls lines tid (prepares_run {tid = mine} {ticket = ticket} n run asked far here took) others s =
    let apart = not_dead home past mine tid run here s.dead in
    record {
      over = keeps_over home past (Seals mine (number_of home past run) ∷ []) tid
          (cond (same_tid mine tid) (Some held) (doubt_of (records home past) tid))
          (λ d. ap (λ b. is_some (cond b (Some held) (doubt_of (records home past) tid))) apart ∙ d) s.over;
      dead = beside home past (Seals mine (number_of home past run)) [] tid apart s.dead;
    }
  where
    held : Held
    held = record { tid = mine; epoch = epoch home past; number = number_of home past run; ticket = ticket; writes = puts_of run.acts }
shut_stays home past local event calls lines tid (checks_sum is) others s =
    record { over = keeps_over home past [] tid (doubt_of (records home past) tid) (λ d. d) s.over; dead = s.dead }
shut_stays home past local event calls lines tid (settles_held {tid = mine} {decision = decision} {rest = rest} held doubt synced just) others s =
    subst (λ rs. (is_closed past tid ≡ true) ⊎ ((some_of (ends tid) (settling_line mine decision ∷ []) ≡ true) ⊎ (is_some (doubt_of rs tid) ≡ true))
    → IsShutAfter home past (Append (Ended mine decision) ∷ rest) (settling_line mine decision ∷ []) tid)
    (synced_append rest (Ended mine decision ∷ records home past) synced)
    (λ over. record { over = over; dead = by_decision decision (same_tid mine tid) refl })
    (by_parts (or_cases (is_closed past tid) (is_some (doubt_of (records home past) tid)) s.over) (same_tid mine tid) refl)
  where
    by_decision : (d : Decision) (b : Bool) → same_tid mine tid ≡ b
        → live_one (run_at (epoch_start home past) (settling_line mine d ∷ engine_lines past) tid) ≡ None
    by_decision Decided.Commit true is =
        ap (λ c. live_one (cond c None (run_at (epoch_start home past) (engine_lines past) tid))) is
    by_decision Decided.Commit false is = beside home past (Commits mine) [] tid is s.dead
    by_decision Decided.Abort true is =
        ap (λ c. live_one (cond c None (run_at (epoch_start home past) (engine_lines past) tid))) is
    by_decision Decided.Abort false is = beside home past (Aborts mine) [] tid is s.dead

    ended : (d : Decision) → same_tid mine tid ≡ true → some_of (ends tid) (settling_line mine d ∷ []) ≡ true
    ended Decided.Commit is = ap (λ b. b || false) is
    ended Decided.Abort is = ap (λ b. (true && b) || false) is

    by_parts : (is_closed past tid ≡ true) ⊎ (is_some (doubt_of (records home past) tid) ≡ true) → (b : Bool) → same_tid mine tid ≡ b
        → (is_closed past tid ≡ true) ⊎ ((some_of (ends tid) (settling_line mine decision ∷ []) ≡ true)
        ⊎ (is_some (cond (same_tid mine tid) None (doubt_of (records home past) tid)) ≡ true))
    by_parts (inl c) b is = inl c
    by_parts (inr d) true is = inr (inl (ended decision is))
    by_parts (inr d) false is = inr (inr (ap (λ b. is_some (cond b None (doubt_of (records home past) tid))) is ∙ d))

-- an attempt that is prepared by a line is shut behind it
pub shut_prepared : (home : Home) (past : SitePast) (tid : Tid) (number ticket : ℕ) (run : Run) → IsLiveHere home past tid run
    → IsShutAfter home past (Append (Prepared tid (epoch home past) number ticket (puts_of run.acts)) ∷ Sync ∷ []) (Seals tid number ∷ []) tid
shut_prepared home past tid number ticket run here = record {
  over = inr (inr (ap (λ b. is_some (cond b
      (Some (record { tid = tid; epoch = epoch home past; number = number; ticket = ticket; writes = puts_of run.acts }))
      (doubt_of (records home past) tid))) (same_tid-refl tid)));
  dead = ap live_one
      (ap (λ b. cond b (changed (Seals tid number) (run_at (epoch_start home past) (engine_lines past) tid))
      (run_at (epoch_start home past) (engine_lines past) tid)) (same_tid-refl tid)
      ∙ ap (changed (Seals tid number)) here.live.0);
}
