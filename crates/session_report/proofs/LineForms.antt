-- The disk calls of a site's lines, before a trip cuts them: at most one record is appended, and a Local or a Prepared one is forced.
use Rattle.std.proofs.Common.{◌≡◌, ◌+◌, Bool, true, false, cond, Option, Some, None, List, [], ◌∷◌, ◌++◌, refl}
use Rattle.mdb_base.specs.declared.acts.PlainAct.{PlainAct}
use Rattle.mdb_base.specs.declared.names.Tid.{Tid}
use Rattle.mdb_base.specs.Words.{when, given}
use Rattle.presumptions.specs.declared.Decision.{Decision}
use Rattle.presumptions.specs.Table.{forces}
use Rattle.fed_rules.specs.declared.events.SiteEvent.{SiteEvent}
use Rattle.fed_rules.specs.declared.events.SiteEvent.TheVariants as Ev
use Rattle.fed_rules.specs.declared.messages.ToSite.{ToSite}
use Rattle.fed_rules.specs.declared.messages.ToSite.TheVariants as To
use Rattle.fed_rules.specs.declared.records.SiteRecord.{SiteRecord}
use Rattle.fed_rules.specs.declared.records.SiteRecord.TheVariants as Rec
use Rattle.fed_rules.specs.Disk.{Call, Append, Sync, CutBack, TrimFront, is_torn}
use Rattle.fed_rules.specs.Site.{answered, of_begin, of_act, seals_local, of_commit, of_abort, of_fate, did, unknown, first_work, next_work, next_take, repeated, work_live, of_work, take_live, of_take, votes_again, votes_no, votes_yes, seals_global, prepare_live, of_prepare, settles, unheld, of_decide, of_give, of_ask, of_drop, of_back, of_check}
use Rattle.fed_rules.specs.SitePast.{SiteHappening, SitePast, disk, epoch}
use Rattle.fed_rules.specs.SiteRecords.{Home, site_frame}
use Rattle.session_report.specs.Marks.{mark_of}

-- a record without a mark
abbrev pub IsUnmarked : SiteRecord → Type 0
IsUnmarked kept = mark_of kept ≡ None

-- the calls of a line
pub data Forms : List (Call SiteRecord) → Type 0 where
  none : Forms []
  forces_one : (newest : SiteRecord) → Forms (Append newest ∷ Sync ∷ [])
  leaves_one : (newest : SiteRecord) → IsUnmarked newest → Forms (Append newest ∷ [])
  cuts_back : (newest : SiteRecord) → IsUnmarked newest → Forms (CutBack ∷ Append newest ∷ Sync ∷ [])
  trims : (newest : SiteRecord) → IsUnmarked newest → Forms (Append newest ∷ Sync ∷ TrimFront ∷ [])

pub record HasForm (x : SiteHappening) : Type 0 where
  pub form : Forms x.calls

form_given : {A : Type 0} (o : Option A) (x : SiteHappening) (some : A → SiteHappening) → HasForm x → ((z : A) → HasForm (some z)) → HasForm (given o some x)
unfolding given
form_given None x some p q = p
form_given (Some z) x some p q = q z

form_when : (b : Bool) (x y : SiteHappening) → HasForm x → HasForm y → HasForm (when b x y)
unfolding when
form_when true x y p q = p
form_when false x y p q = q

module _ (home : Home) (past : SitePast) where
  form_work : (t : Tid) (e n : _) (act : PlainAct) → HasForm (of_work home past t e n act)
  unfolding of_work work_live first_work next_work repeated unknown did
  form_work t e n act =
      form_when _ _ _ (record { form = none })
      (form_given _ _ _ (form_when _ _ _ (record { form = none }) (record { form = none }))
      (λ run. form_when _ _ _ (record { form = none }) (form_when _ _ _ (record { form = none }) (form_when _ _ _ (record { form = none }) (record { form = none })))))

  form_take : (t : Tid) (e n : _) → HasForm (of_take home past t e n)
  unfolding of_take take_live next_take repeated unknown did
  form_take t e n =
      form_when _ _ _ (record { form = none })
      (form_given _ _ _ (record { form = none })
      (λ run. form_when _ _ _ (record { form = none }) (form_when _ _ _ (record { form = none }) (form_when _ _ _ (record { form = none }) (record { form = none })))))

  form_prepare : (t : Tid) (e n : _) → HasForm (of_prepare home past t e n)
  unfolding of_prepare prepare_live seals_global votes_again votes_no votes_yes
  form_prepare t e n =
      form_given _ _ _
      (form_given _ _ _ (record { form = none })
      (λ run. form_when _ _ _ (form_given _ _ _ (record { form = none }) (λ ticket. form_given _ _ _ (record { form = forces_one _ }) (λ why. record { form = none }))) (record { form = none })))
      (λ held. form_when _ _ _ (record { form = none }) (record { form = none }))

  ended_form : (t : Tid) (decision : Decision) (forced : Bool) → Forms (Append (Rec.Ended t decision) ∷ cond forced (Sync ∷ []) [])
  ended_form t decision true = forces_one _
  ended_form t decision false = leaves_one _ refl

  form_decide : (t : Tid) (decision : Decision) → HasForm (of_decide home past t decision)
  unfolding of_decide unheld settles
  form_decide t decision =
      form_given _ _ _ (form_given _ _ _ (record { form = none }) (λ run. record { form = none }))
      (λ held. record { form = ended_form t decision (forces home.protocol decision) })

  form_give : (message : ToSite) → HasForm (of_give home past message)
  unfolding of_give
  form_give (To.Work t e n act) = form_work t e n act
  form_give (To.Take t e n) = form_take t e n
  form_give (To.Prepare t e n) = form_prepare t e n
  form_give (To.Decide t decision) = form_decide t decision

  -- a restart
  pub form_back : HasForm (of_back home past)
  unfolding of_back
  form_back = record { form = by_torn (is_torn site_frame (disk home past)) }
    where
      by_torn : (torn : Bool) → Forms (cond torn (CutBack ∷ []) [] ++ Append (Rec.Start (epoch home past + 1)) ∷ Sync ∷ [])
      by_torn true = cuts_back _ refl
      by_torn false = forces_one _

  -- what a site that is up answers
  pub form_answered : (event : SiteEvent) → HasForm (answered home past event)
  unfolding answered of_begin of_act of_commit seals_local of_abort of_fate of_ask of_drop of_check
  form_answered (Ev.Begin t) = form_given _ _ _ (form_given _ _ _ (record { form = none }) (λ r. record { form = none })) (λ c. record { form = none })
  form_answered (Ev.Act t act) = form_given _ _ _ (record { form = none }) (λ run. record { form = none })
  form_answered (Ev.Commit t) = form_given _ _ _ (record { form = none }) (λ run. form_given _ _ _ (record { form = forces_one _ }) (λ why. record { form = none }))
  form_answered (Ev.Abort t) = form_given _ _ _ (record { form = none }) (λ run. record { form = none })
  form_answered (Ev.Fate tx) = form_given _ _ _ (form_given _ _ _ (record { form = none }) (λ r. record { form = none })) (λ c. record { form = none })
  form_answered (Ev.Give message) = form_give message
  form_answered (Ev.Ask t) = form_given _ _ _ (record { form = none }) (λ held. record { form = none })
  form_answered (Ev.Drop t) = form_when _ _ _ (record { form = none }) (form_given _ _ _ (record { form = none }) (λ run. record { form = none }))
  form_answered (Ev.Halt cut) = record { form = none }
  form_answered (Ev.Trip calls cut) = record { form = none }
  form_answered Ev.Back = form_back
  form_answered Ev.Check = form_when _ _ _ (record { form = none }) (record { form = trims _ refl })
