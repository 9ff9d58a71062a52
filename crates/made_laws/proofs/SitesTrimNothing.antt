-- A line of a site trims nothing, unless the event is a check.
use Rattle.std.proofs.Common.{◌≡◌, ℕ, ◌+◌, Bool, true, false, cond, [], ◌∷◌, ◌++◌, refl, sym, subst}
use Rattle.mdb_base.specs.declared.names.Tid.{Tid}
use Rattle.mdb_base.specs.declared.names.Tx.{Tx}
use Rattle.mdb_base.specs.declared.acts.PlainAct.{PlainAct}
use Rattle.mdb_base.specs.Words.{Each, when}
use Rattle.mdb_base.proofs.ForCallers.{when_either}
use Rattle.presumptions.specs.declared.Decision.{Decision}
use Rattle.presumptions.specs.Table.{forces}
use Rattle.fed_rules.specs.declared.answers.Answer.TheVariants as Say
use Rattle.fed_rules.specs.declared.events.SiteEvent.{SiteEvent}
use Rattle.fed_rules.specs.declared.events.SiteEvent.TheVariants as Site_event
use Rattle.fed_rules.specs.declared.messages.ToSite.{ToSite}
use Rattle.fed_rules.specs.declared.messages.ToSite.TheVariants as To
use Rattle.fed_rules.specs.declared.records.SiteRecord.{SiteRecord}
use Rattle.fed_rules.specs.declared.records.SiteRecord.TheVariants.{Start}
use Rattle.fed_rules.specs.Disk.{Call, Append, CutBack, Sync, is_torn}
use Rattle.fed_rules.specs.Happenings.{is_down, quiet, stopped}
use Rattle.fed_rules.specs.Runs.{Run}
use Rattle.fed_rules.specs.Site as S
use Rattle.fed_rules.specs.SitePast as Site
use Rattle.fed_rules.specs.SitePast.{SiteHappening, SitePast}
use Rattle.fed_rules.specs.SiteRecords.{Home, site_frame}
use Rattle.made_laws.proofs.Trimless.{TrimsNothing, Trimless, by_given, by_trip, is_trim}

abbrev pub IsSiteCheck : SiteEvent → Type 0
IsSiteCheck Site_event.Check = Unit {0}
IsSiteCheck event = ⊥

module _ (home : Home) (past : SitePast) where
  plain : (x : SiteHappening) → x.calls ≡ [] → TrimsNothing x
  unfolding Trimless
  plain x e = record { calls = subst Trimless (sym e) tt }

  kept_reply : (message : ToSite) (tid : Tid) (n : ℕ) (run : Run) → TrimsNothing (S.repeated home past message tid n run)
  unfolding S.repeated S.did S.unknown Trimless
  kept_reply message tid n run = when_either TrimsNothing _ _ _ (record { calls = tt }) (record { calls = tt })

  work_trims : (tid : Tid) (e n : ℕ) (act : PlainAct) → TrimsNothing (S.of_work home past tid e n act)
  unfolding S.of_work S.first_work S.unknown S.did S.work_live S.next_work Trimless
  work_trims tid e n act =
      when_either TrimsNothing _ _ _ (record { calls = tt })
      (by_given TrimsNothing _ _ _ (when_either TrimsNothing _ _ _ (record { calls = tt }) (record { calls = tt }))
      (λ run. when_either TrimsNothing _ _ _ (record { calls = tt }) (when_either TrimsNothing _ _ _ (record { calls = tt }) (kept_reply (To.Work tid e n act) tid n run))))

  take_trims : (tid : Tid) (e n : ℕ) → TrimsNothing (S.of_take home past tid e n)
  unfolding S.of_take S.take_live S.next_take S.unknown S.did Trimless
  take_trims tid e n =
      when_either TrimsNothing _ _ _ (record { calls = tt })
      (by_given TrimsNothing _ _ _ (record { calls = tt }) (λ run. when_either TrimsNothing _ _ _ (record { calls = tt }) (when_either TrimsNothing _ _ _ (record { calls = tt }) (kept_reply (To.Take tid e n) tid n run))))

  prepare_trims : (tid : Tid) (e n : ℕ) → TrimsNothing (S.of_prepare home past tid e n)
  unfolding S.of_prepare S.prepare_live S.seals_global S.votes_yes S.votes_no S.votes_again Trimless is_trim
  prepare_trims tid e n =
      by_given TrimsNothing _ _ _
      (by_given TrimsNothing _ _ _ (record { calls = tt })
      (λ run. when_either TrimsNothing _ _ _ (by_given TrimsNothing _ _ _ (record { calls = tt }) (λ ticket. by_given TrimsNothing _ _ _ (record { calls = (refl, (refl, tt)) }) (λ why. record { calls = tt }))) (record { calls = tt })))
      (λ held. when_either TrimsNothing _ _ _ (record { calls = tt }) (record { calls = tt }))

  decide_trims : (tid : Tid) (decision : Decision) → TrimsNothing (S.of_decide home past tid decision)
  unfolding S.of_decide S.settles S.unheld Trimless is_trim
  decide_trims tid decision =
      by_given TrimsNothing _ _ _ (by_given TrimsNothing _ _ _ (record { calls = tt }) (λ run. record { calls = tt })) (λ held. record { calls = (refl, forced_or_not (forces home.protocol decision)) })
    where
      forced_or_not : (b : Bool) → Each (λ (call : Call SiteRecord). is_trim call ≡ false) (cond b (Sync ∷ []) [])
      forced_or_not true = (refl, tt)
      forced_or_not false = tt

  give_trims : (message : ToSite) → TrimsNothing (S.of_give home past message)
  unfolding S.of_give
  give_trims (To.Work tid e n act) = work_trims tid e n act
  give_trims (To.Take tid e n) = take_trims tid e n
  give_trims (To.Prepare tid e n) = prepare_trims tid e n
  give_trims (To.Decide tid decision) = decide_trims tid decision

  begin_trims : (tid : Tid) → TrimsNothing (S.of_begin home past tid)
  unfolding S.of_begin Trimless
  begin_trims tid = by_given TrimsNothing _ _ _ (by_given TrimsNothing _ _ _ (record { calls = tt }) (λ running. record { calls = tt })) (λ committed. record { calls = tt })

  act_trims : (tid : Tid) (act : PlainAct) → TrimsNothing (S.of_act home past tid act)
  unfolding S.of_act Trimless
  act_trims tid act = by_given TrimsNothing _ _ _ (record { calls = tt }) (λ run. record { calls = tt })

  commit_trims : (tid : Tid) → TrimsNothing (S.of_commit home past tid)
  unfolding S.of_commit S.seals_local Trimless is_trim
  commit_trims tid = by_given TrimsNothing _ _ _ (record { calls = tt }) (λ run. by_given TrimsNothing _ _ _ (record { calls = (refl, (refl, tt)) }) (λ why. record { calls = tt }))

  abort_trims : (tid : Tid) → TrimsNothing (S.of_abort home past tid)
  unfolding S.of_abort Trimless
  abort_trims tid = by_given TrimsNothing _ _ _ (record { calls = tt }) (λ run. record { calls = tt })

  fate_trims : (tx : Tx) → TrimsNothing (S.of_fate home past tx)
  unfolding S.of_fate Trimless
  fate_trims tx = by_given TrimsNothing _ _ _ (by_given TrimsNothing _ _ _ (record { calls = tt }) (λ running. record { calls = tt })) (λ committed. record { calls = tt })

  ask_trims : (tid : Tid) → TrimsNothing (S.of_ask home past tid)
  unfolding S.of_ask Trimless
  ask_trims tid = by_given TrimsNothing _ _ _ (record { calls = tt }) (λ held. record { calls = tt })

  drop_trims : (tid : Tid) → TrimsNothing (S.of_drop home past tid)
  unfolding S.of_drop Trimless
  drop_trims tid = when_either TrimsNothing _ _ _ (record { calls = tt }) (by_given TrimsNothing _ _ _ (record { calls = tt }) (λ run. record { calls = tt }))

  back_trims : TrimsNothing (S.of_back home past)
  unfolding S.of_back Trimless is_trim
  back_trims = by_torn (is_torn site_frame (Site.disk home past))
    where
      by_torn : (b : Bool) → TrimsNothing (record (S.of_back home past) { calls = cond b (CutBack ∷ []) [] ++ Append (Start (Site.epoch home past + 1)) ∷ Sync ∷ [] })
      by_torn true = record { calls = (refl, (refl, (refl, tt))) }
      by_torn false = record { calls = (refl, (refl, tt)) }

  up_or_down : (event : SiteEvent) (x : SiteHappening) → TrimsNothing x → TrimsNothing (when (is_down past) (quiet event Say.Down) (S.unless_tripped home past x))
  unfolding Trimless
  up_or_down event x t = when_either TrimsNothing _ _ _ (record { calls = tt }) (by_trip site_frame (Site.disk home past) (Site.trip past) x t)

  pub site_trims : (event : SiteEvent) → (IsSiteCheck event → ⊥) → TrimsNothing (S.site_line home past event)
  unfolding S.site_line S.answered stopped Trimless is_trim
  site_trims (Site_event.Trip calls cut) n = record { calls = tt }
  site_trims (Site_event.Halt cut) n = when_either TrimsNothing _ _ _ (record { calls = tt }) (record { calls = (refl, tt) })
  site_trims Site_event.Back n = when_either TrimsNothing _ _ _ (by_trip site_frame (Site.disk home past) (Site.trip past) (S.of_back home past) back_trims) (record { calls = tt })
  site_trims (Site_event.Begin tid) n = up_or_down (Site_event.Begin tid) (S.of_begin home past tid) (begin_trims tid)
  site_trims (Site_event.Act tid act) n = up_or_down (Site_event.Act tid act) (S.of_act home past tid act) (act_trims tid act)
  site_trims (Site_event.Commit tid) n = up_or_down (Site_event.Commit tid) (S.of_commit home past tid) (commit_trims tid)
  site_trims (Site_event.Abort tid) n = up_or_down (Site_event.Abort tid) (S.of_abort home past tid) (abort_trims tid)
  site_trims (Site_event.Fate tx) n = up_or_down (Site_event.Fate tx) (S.of_fate home past tx) (fate_trims tx)
  site_trims (Site_event.Give message) n = up_or_down (Site_event.Give message) (S.of_give home past message) (give_trims message)
  site_trims (Site_event.Ask tid) n = up_or_down (Site_event.Ask tid) (S.of_ask home past tid) (ask_trims tid)
  site_trims (Site_event.Drop tid) n = up_or_down (Site_event.Drop tid) (S.of_drop home past tid) (drop_trims tid)
  site_trims Site_event.Check n = absurd (n tt)
