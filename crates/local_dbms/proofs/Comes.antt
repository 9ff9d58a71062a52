-- The event that a command of a local transaction comes to, by what is looked up for it.
use Rattle.std.proofs.Common.{◌≡◌, ℕ, ◌≤◌, ◌<◌, Bool, is_some, false, true, Some, List, length, slice_get, sym, ap, ◌∙◌, subst, arith}
use Rattle.mdb_base.specs.declared.acts.PlainAct.{PlainAct}
use Rattle.mdb_base.specs.declared.acts.Step.{Step}
use Rattle.mdb_base.specs.declared.names.Tid.{Tid}
use Rattle.mdb_base.specs.declared.names.Tx.{Tx}
use Rattle.mdb_base.specs.Programs.{plain_act}
use Rattle.mdb_base.specs.Words.{map_some}
use Rattle.mdb_base.proofs.ForCallers.{some_steps}
use Rattle.fed_rules.specs.declared.events.SiteEvent.TheVariants as Ev
use Rattle.fed_rules.specs.Happenings.{is_down}
use Rattle.fed_rules.specs.Requests.{Submits, attempt}
use Rattle.fed_rules.specs.Runs.{Start, EngineLine}
use Rattle.fed_rules.specs.Site.{done}
use Rattle.fed_rules.specs.SitePast.{attempts_of, live, live_of_tx}
use Rattle.journal_disk.specs.Disk.{Seen}
use Rattle.site_book.specs.Noted.{Noted, done_in, noted_of}
use Rattle.site_core.specs.Made.{was_global}
use Rattle.local_dbms.specs.declared.asks.SiteAsk.TheVariants as At
use Rattle.local_dbms.specs.declared.dbms.LocalDbms.{LocalDbms}
use Rattle.local_dbms.specs.Stands.{CanSubmit, Each_site, Recalls, program_in}
use Rattle.local_dbms.proofs.Asked.{abort_submits, begin_submits, commit_submits, fate_submits, found_own, found_run, noted_run, step_submits}
use Rattle.local_dbms.proofs.Asking.{ComesTo}
use Rattle.local_dbms.proofs.Fit.{can_abort, can_act, can_begin, can_commit, can_fate}
use Rattle.local_dbms.proofs.Owned.{own_apart}

module _ {E : Type 0} (stands : E → Start → List EngineLine → Type 0) (tells : Bool) (old : LocalDbms E) (before : Seen) (tx : Tx) where
  pub begin_comes : is_some (program_in old.programs.items tx) ≡ true → (begun : ℕ) → Each_site (Recalls stands old) (λ home programs past. begun ≡ attempts_of past tx) → begun < 32
      → ComesTo stands tells old before (At.Begin tx) (Ev.Begin (attempt tx begun))
  begin_comes there begun counted less home programs past r short =
      let (steps, own) = found_own (programs tx) _ (r.owns.held tx) there in
      let is = counted home programs past r in
      let few : attempts_of past tx < 32 = omega arith in
      let may = can_begin stands old home programs past r tx (some_steps (programs tx) steps own) few short in (
        ap (λ (n : ℕ). Submits (Ev.Begin (attempt tx n))) is ∙ sym (begin_submits home (programs tx) past tx steps own few),
        subst (λ (n : ℕ). CanSubmit (Ev.Begin (attempt tx n)) home programs past) (sym is) may,
      )

  pub fate_comes : is_some (program_in old.programs.items tx) ≡ true → ComesTo stands tells old before (At.Fate tx) (Ev.Fate tx)
  fate_comes there home programs past r short =
      let (steps, own) = found_own (programs tx) _ (r.owns.held tx) there in
      (sym (fate_submits home (programs tx) past tx steps own), can_fate stands old home programs past r tx (some_steps (programs tx) steps own))

  -- the site is up, and an attempt of the transaction runs
  abbrev IsFoundUp : Type 0
  IsFoundUp = Each_site (Recalls stands old) (λ home programs past. is_down past ≡ false)

  abbrev IsFoundRunning : Tid → Type 0
  IsFoundRunning tid = Each_site (Recalls stands old) (λ home programs past. is_down past ≡ false → was_global tx past ≡ false → live_of_tx home past tx ≡ Some tid)

  module _ (tid : Tid) (found_up : IsFoundUp) (running : IsFoundRunning tid) where
    pub abort_comes : is_some (program_in old.programs.items tx) ≡ true
        → Each_site (Recalls stands old) (λ home programs past. is_down past ≡ false → is_some (map_some noted_of (live home past tid)) ≡ true)
        → ComesTo stands tells old before (At.Abort tx) (Ev.Abort tid)
    abort_comes there lives home programs past r short =
        let (steps, own) = found_own (programs tx) _ (r.owns.held tx) there in
        let up = found_up home programs past r in
        let runs = running home programs past r up (own_apart programs past tx r.owns.owned (some_steps (programs tx) steps own)) in
        let (run, is) = found_run _ (lives home programs past r up) in
        (sym (abort_submits home (programs tx) past tx steps own tid run up runs is), can_abort stands old home programs past r tx tid (some_steps (programs tx) steps own) runs)

    module _ (steps : List Step) (own : program_in old.programs.items tx ≡ Some steps) (noted : Noted)
        (lives : Each_site (Recalls stands old) (λ home programs past. is_down past ≡ false → Some noted ≡ map_some noted_of (live home past tid))) where
      pub step_comes : (n : ℕ) → n ≡ done_in noted → n < length steps → length steps ≤ 32 → (step : Step) → slice_get steps n ≡ Some step
          → (act : PlainAct) → act ≡ plain_act noted.reads step.act → ComesTo stands tells old before (At.Step tx) (Ev.Act tid act)
      step_comes n counted less few step at act plain home programs past r short =
          let held = sym (r.owns.held tx) ∙ own in
          let up = found_up home programs past r in
          let runs = running home programs past r up (own_apart programs past tx r.owns.owned (some_steps (programs tx) steps held)) in
          let found = noted_run home past tid noted (lives home programs past r up) in
          let done_is : n ≡ done found.run = counted ∙ ap done_in found.is in
          let left : done found.run < length steps = omega arith in (
            ap (λ (a : PlainAct). Submits (Ev.Act tid a)) (plain ∙ ap (λ (seen : Noted). plain_act seen.reads step.act) found.is)
                ∙ sym (step_submits home (programs tx) past tx steps held tid found.run up runs found.lives step (ap (slice_get steps) (sym done_is) ∙ at)),
            can_act stands old home programs past r tx tid (some_steps (programs tx) steps held) runs act found.run steps found.lives left few,
          )

      pub commit_comes : (n : ℕ) → n ≡ done_in noted → length steps ≤ n → ComesTo stands tells old before (At.Commit tx) (Ev.Commit tid)
      commit_comes n counted all home programs past r short =
          let held = sym (r.owns.held tx) ∙ own in
          let up = found_up home programs past r in
          let runs = running home programs past r up (own_apart programs past tx r.owns.owned (some_steps (programs tx) steps held)) in
          let found = noted_run home past tid noted (lives home programs past r up) in
          let done_is : n ≡ done found.run = counted ∙ ap done_in found.is in
          let finished : length steps ≤ done found.run = omega arith in (
            sym (commit_submits home (programs tx) past tx steps held tid found.run up runs found.lives finished),
            can_commit stands old home programs past r tx tid (some_steps (programs tx) steps held) runs found.run found.lives up short,
          )
