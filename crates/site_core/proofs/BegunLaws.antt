-- A line of a site begins a local attempt only as the answer to its begin; so none of a global transaction is begun so.
use Rattle.std.proofs.Common.{◌≡◌, Bool, true, false, cond, ◌==◌, ◌||◌, Option, Some, None, List, [], ◌∷◌, length, refl, sym, ap, ◌∙◌, subst, inl, inr}
use Rattle.std.specs.Prelude.{nat_le}
use Rattle.std.proofs.lemmas.Bool.{cond-false, or_parts}
use Rattle.mdb_base.specs.declared.names.Tid.{Tid}
use Rattle.mdb_base.specs.declared.names.Tx.{Tx}
use Rattle.mdb_base.specs.Words.{Each, when}
use Rattle.fed_rules.specs.declared.answers.Answer.{Answer}
use Rattle.fed_rules.specs.declared.answers.Answer.TheVariants as Say
use Rattle.fed_rules.specs.declared.events.SiteEvent.{SiteEvent}
use Rattle.fed_rules.specs.declared.events.SiteEvent.TheVariants as Ev
use Rattle.fed_rules.specs.declared.messages.FromSite.{FromSite}
use Rattle.fed_rules.specs.declared.messages.ToSite.{ToSite}
use Rattle.fed_rules.specs.declared.messages.ToSite.TheVariants as To
use Rattle.fed_rules.specs.declared.records.SiteRecord.{SiteRecord}
use Rattle.fed_rules.specs.Disk.{Call}
use Rattle.fed_rules.specs.Happenings.{Trip, is_down, quiet, stopped, tripped}
use Rattle.fed_rules.specs.Runs.{EngineLine}
use Rattle.fed_rules.specs.Site as Site
use Rattle.fed_rules.specs.Site.{answered, of_abort, of_act, of_ask, of_back, of_begin, of_check, of_commit, of_decide, of_drop, of_fate, of_give, of_prepare, of_take, of_work, reply_to, site_line}
use Rattle.fed_rules.specs.SitePast.{SiteHappening, SitePast, attempts_of, begins_tx, disk, trip}
use Rattle.fed_rules.specs.Reopened.{site_opening}
use Rattle.fed_rules.specs.SiteRecords.{Home, site_frame}
use Rattle.site_core.specs.Made.{IsGoingOn, IsOpened, begins_tid, is_of_local, was_begun, was_local}
use Rattle.site_core.proofs.NamedLines.{each_named}
use Rattle.site_core.proofs.RuleWalks.{by_given, by_when}
use Rattle.site_core.proofs.UpLaws.{act_answers, refusal_plain}

-- what holds of each line that begins no local attempt, and of each that answers a begin, holds of each line of a site
module _ (P : SiteHappening → Type 0) (home : Home) (past : SitePast)
    (other : (event : SiteEvent) (answer : Answer) (sends : List FromSite) (calls : List (Call SiteRecord)) (lines : List EngineLine) → ((tx : Tx) → begins_tx tx answer ≡ false)
    → P (record { event = event; answer = answer; sends = sends; calls = calls; lines = lines }))
    (begins : (tid : Tid) (lines : List EngineLine) → P (record { event = Ev.Begin tid; answer = Say.Begun tid; sends = []; calls = []; lines = lines })) where
  by_trip : (o : Option Trip) (x : SiteHappening) → P x → P (tripped site_frame (disk home past) o x)
  unfolding tripped stopped
  by_trip None x p = p
  by_trip (Some t) x p = by_when P (nat_le t.calls (length x.calls)) _ x (other _ _ _ _ _ (λ tx. refl)) p

  by_up : (event : SiteEvent) (x : SiteHappening) → P x → P (when (is_down past) (quiet event Say.Down) (tripped site_frame (disk home past) (trip past) x))
  by_up event x p = by_when P (is_down past) _ _ (other _ _ _ _ _ (λ tx. refl)) (by_trip (trip past) x p)

  by_give : (message : ToSite) → P (of_give home past message)
  unfolding of_give of_work Site.work_live Site.first_work Site.next_work of_take Site.take_live Site.next_take Site.repeated Site.unknown Site.did of_prepare Site.prepare_live Site.seals_global Site.votes_again Site.votes_no Site.votes_yes of_decide Site.unheld Site.settles
  by_give (To.Work t e n act) =
      by_when P _ _ _ (other _ _ _ _ _ (λ tx. refl))
      (by_given P _ _ _ (by_when P _ _ _ (other _ _ _ _ _ (λ tx. refl)) (other _ _ _ _ _ (λ tx. refl)))
      (λ run. by_when P _ _ _ (other _ _ _ _ _ (λ tx. refl))
      (by_when P _ _ _ (other _ _ _ _ _ (λ tx. refl)) (by_when P _ _ _ (other _ _ _ _ _ (λ tx. refl)) (other _ _ _ _ _ (λ tx. refl))))))
  by_give (To.Take t e n) =
      by_when P _ _ _ (other _ _ _ _ _ (λ tx. refl))
      (by_given P _ _ _ (other _ _ _ _ _ (λ tx. refl))
      (λ run. by_when P _ _ _ (other _ _ _ _ _ (λ tx. refl))
      (by_when P _ _ _ (other _ _ _ _ _ (λ tx. refl)) (by_when P _ _ _ (other _ _ _ _ _ (λ tx. refl)) (other _ _ _ _ _ (λ tx. refl))))))
  by_give (To.Prepare t e n) =
      by_given P _ _ _
      (by_given P _ _ _ (other _ _ _ _ _ (λ tx. refl))
      (λ run. by_when P _ _ _
      (by_given P _ _ _ (other _ _ _ _ _ (λ tx. refl)) (λ ticket. by_given P _ _ _ (other _ _ _ _ _ (λ tx. refl)) (λ why. other _ _ _ _ _ (λ tx. refl))))
      (other _ _ _ _ _ (λ tx. refl))))
      (λ held. by_when P _ _ _ (other _ _ _ _ _ (λ tx. refl)) (other _ _ _ _ _ (λ tx. refl)))
  by_give (To.Decide t decision) =
      by_given P _ _ _ (by_given P _ _ _ (other _ _ _ _ _ (λ tx. refl)) (λ run. other _ _ _ _ _ (λ tx. refl))) (λ held. other _ _ _ _ _ (λ tx. refl))

  by_fate : (tx : Tx) → P (of_fate home past tx)
  unfolding of_fate
  by_fate tx = by_given P _ _ _ (by_given P _ _ _ (by_count (attempts_of past tx == 0)) (λ r. other _ _ _ _ _ (λ t. refl))) (λ c. other _ _ _ _ _ (λ t. refl)) where
    by_count : (b : Bool) → P (quiet (Ev.Fate tx) (cond b Say.Unbegun Say.Ended))
    by_count true = other _ _ _ _ _ (λ t. refl)
    by_count false = other _ _ _ _ _ (λ t. refl)

  pub line_begins : (event : SiteEvent) → P (site_line home past event)
  unfolding site_line answered of_begin of_act of_commit Site.seals_local of_abort of_ask of_drop of_back of_check stopped
  line_begins (Ev.Begin t) = by_up _ _ (by_given P _ _ _ (by_given P _ _ _ (begins _ _) (λ r. other _ _ _ _ _ (λ tx. refl))) (λ c. other _ _ _ _ _ (λ tx. refl)))
  line_begins (Ev.Act t act) = by_up _ _ (by_given P _ _ _ (other _ _ _ _ _ (λ tx. refl)) (λ run. other _ _ _ _ _ (act_answers t act (reply_to home past run act)).2))
  line_begins (Ev.Commit t) =
      by_up _ _ (by_given P _ _ _ (other _ _ _ _ _ (λ tx. refl)) (λ run. by_given P _ _ _ (other _ _ _ _ _ (λ tx. refl)) (λ why. other _ _ _ _ _ (refusal_plain why).2)))
  line_begins (Ev.Abort t) = by_up _ _ (by_given P _ _ _ (other _ _ _ _ _ (λ tx. refl)) (λ run. other _ _ _ _ _ (λ tx. refl)))
  line_begins (Ev.Fate tx) = by_up _ _ (by_fate tx)
  line_begins (Ev.Give message) = by_up _ _ (by_give message)
  line_begins (Ev.Ask t) = by_up _ _ (by_given P _ _ _ (other _ _ _ _ _ (λ tx. refl)) (λ held. other _ _ _ _ _ (λ tx. refl)))
  line_begins (Ev.Drop t) = by_up _ _ (by_when P _ _ _ (other _ _ _ _ _ (λ tx. refl)) (by_given P _ _ _ (other _ _ _ _ _ (λ tx. refl)) (λ run. other _ _ _ _ _ (λ tx. refl))))
  line_begins (Ev.Halt cut) = by_when P (is_down past) _ _ (other _ _ _ _ _ (λ tx. refl)) (other _ _ _ _ _ (λ tx. refl))
  line_begins (Ev.Trip calls cut) = other _ _ _ _ _ (λ tx. refl)
  line_begins Ev.Back = by_when P (is_down past) _ _ (by_trip (trip past) _ (other _ _ _ _ _ (λ tx. refl))) (other _ _ _ _ _ (λ tx. refl))
  line_begins Ev.Check = by_up _ _ (by_when P _ _ _ (other _ _ _ _ _ (λ tx. refl)) (other _ _ _ _ _ (λ tx. refl)))

-- the past that a journal stands for begins no local attempt
record IsSilent (x : SiteHappening) : Type 0 where
  txs : (tx : Tx) → begins_tx tx x.answer ≡ false
  tids : (tid : Tid) → begins_tid tid x.answer ≡ false

opened_silent : (home : Home) (past : SitePast) → IsOpened home past → Each IsSilent past
opened_silent home past o =
    let silent : IsSilent (site_opening o.journal) = record { txs = (λ tx. refl); tids = (λ tid. refl) } in
    subst (Each IsSilent) (sym o.is) (silent, each_named IsSilent (λ t. record { txs = (λ tx. refl); tids = (λ tid. refl) }) (λ t. record { txs = (λ tx. refl); tids = (λ tid. refl) }) o.journal.records)

silent_counts : (past : SitePast) → Each IsSilent past → (tx : Tx) → attempts_of past tx ≡ 0
silent_counts [] q tx = refl
silent_counts (x ∷ past) q tx = cond-false _ _ _ (q.0.txs tx) ∙ silent_counts past q.1 tx

silent_names : (past : SitePast) → Each IsSilent past → (tid : Tid) → was_begun tid past ≡ false
silent_names [] q tid = refl
silent_names (x ∷ past) q tid = ap (λ b. b || was_begun tid past) (q.0.tids tid) ∙ silent_names past q.1 tid

pub none_opened : (home : Home) (past : SitePast) → IsOpened home past → (tx : Tx) → attempts_of past tx ≡ 0
none_opened home past o tx = silent_counts past (opened_silent home past o) tx

pub unbegun_opened : (home : Home) (past : SitePast) → IsOpened home past → (tid : Tid) → was_begun tid past ≡ false
unbegun_opened home past o tid = silent_names past (opened_silent home past o) tid

-- a transaction that no event of a local attempt named has no local attempt
pub none_begun : (home : Home) (past : SitePast) (tx : Tx) → IsGoingOn home past → was_local tx past ≡ false → attempts_of past tx ≡ 0
none_begun home [] tx made none = refl
none_begun home (x ∷ past) tx (inl opened) none = none_opened home (x ∷ past) opened tx
none_begun home (x ∷ past) tx (inr (line, made)) none =
    let P : SiteHappening → Type 0 = λ y. is_of_local tx y.event ≡ false → begins_tx tx y.answer ≡ false in
    let (here, before) = or_parts (is_of_local tx x.event) (was_local tx past) none in
    let own : P (site_line home past x.event) = line_begins P home past (λ event answer sends calls lines plain e. plain tx) (λ tid lines e. e) x.event in
    cond-false _ _ _ (subst P (sym line.is) own here) ∙ none_begun home past tx made before
