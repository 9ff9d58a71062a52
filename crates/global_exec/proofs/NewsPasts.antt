-- What became outstanding by an answer: in the table what the past says.
use Rattle.std.proofs.Common.{◌≡◌, ℕ, Bool, true, false, cond, not, ◌&&◌, ◌||◌, is_none, Option, Some, None, List, [], ◌∷◌, map, drop, refl, sym, ap, ap₂, ◌∙◌}
use Rattle.std.proofs.lemmas.Bool.{cond-true, cond-false}
use Rattle.mdb_base.specs.declared.acts.Step.{Step}
use Rattle.mdb_base.specs.declared.names.SiteId.{SiteId}
use Rattle.mdb_base.specs.declared.names.Tid.{Tid}
use Rattle.mdb_base.specs.Names.{same_site}
use Rattle.mdb_base.specs.Programs.{next_of}
use Rattle.mdb_base.specs.Words.{found, holds_of, item_at, with_some}
use Rattle.presumptions.specs.declared.Participant.{Participant}
use Rattle.fed_rules.specs.declared.messages.Due.{Due}
use Rattle.fed_rules.specs.Coord as coord
use Rattle.fed_rules.specs.CoordPast.{CoordPast, outstanding, participants_of, visits}
use Rattle.global_exec.specs.declared.progress.Progress.{Progress}
use Rattle.global_exec.specs.Agreement.{IsOfPast, progress_in}
use Rattle.global_exec.specs.Counted.{news, news_at}
use Rattle.global_exec.specs.Due.{due, is_idle, work, prepare, take as take_due}
use Rattle.global_exec.specs.Live.{Live, due_in}
use Rattle.global_exec.proofs.Agrees.{due-at}
use Rattle.global_exec.proofs.Steps.{next_at, next_of-at}

-- nothing is outstanding exactly where the participant is idle
pub idle_due : (program : List Step) (done : ℕ) (reads : List ℕ) (p : Progress) → is_idle program done p ≡ is_none (due program done reads p)
idle_due program done reads p = by_visit (visits p.site (drop done program)) where
  no_work : (o : Option Step) → not (holds_of (λ step. same_site step.site p.site) o) ≡ is_none (work p (next_at reads o))
  no_work None = refl
  no_work (Some step) = by_site (same_site step.site p.site) refl where
    by_site : (b : Bool) → same_site step.site p.site ≡ b → not (same_site step.site p.site) ≡ is_none (work p (next_at reads (Some step)))
    by_site true e = ap not e ∙ sym (ap is_none (cond-true _ _ _ e))
    by_site false e = ap not e ∙ sym (ap is_none (cond-false _ _ _ e))

  no_vote : (t v : Bool) → p.ticket ≡ t → p.voted ≡ v → (p.ticket && p.voted) ≡ is_none (cond p.ticket (prepare p) (take_due p))
  no_vote false v t_is v_is = ap (λ t. t && p.voted) t_is ∙ sym (ap is_none (cond-false _ _ _ t_is))
  no_vote true true t_is v_is = ap₂ (λ a b. a && b) t_is v_is ∙ sym (ap is_none (cond-true _ _ _ t_is ∙ cond-true _ _ _ v_is))
  no_vote true false t_is v_is = ap₂ (λ a b. a && b) t_is v_is ∙ sym (ap is_none (cond-true _ _ _ t_is ∙ cond-false _ _ _ v_is))

  by_visit : (b : Bool) → cond b (not (holds_of (λ step. same_site step.site p.site) (item_at program done))) (p.ticket && p.voted)
      ≡ is_none (cond b (work p (next_of program done reads)) (cond p.ticket (prepare p) (take_due p)))
  by_visit true = no_work (item_at program done) ∙ ap (λ n. is_none (work p n)) (sym (next_of-at program done reads))
  by_visit false = no_vote p.ticket p.voted refl refl

module _ (protocols : List Participant) (past now : CoordPast) (tid : Tid) (before after : Live) (was : IsOfPast protocols past tid before) (is : IsOfPast protocols now tid after)
    (site : SiteId) (program_same : after.program ≡ before.program)
    (elsewhere : (p : Participant) → same_site p.site site ≡ false → progress_in now tid p ≡ progress_in past tid p) where
  was_due : (p : Participant) → visits p.site before.program ≡ true → due_in before (progress_in past tid p) ≡ outstanding past tid p.site
  was_due p v = due-at protocols past tid before was p ∙ sym (cond-true _ _ _ (ap (visits p.site) (sym was.program) ∙ v))

  is_due : (p : Participant) → visits p.site before.program ≡ true → due_in after (progress_in now tid p) ≡ outstanding now tid p.site
  is_due p v = due-at protocols now tid after is p ∙ sym (cond-true _ _ _ (ap (visits p.site) (sym is.program ∙ program_same) ∙ v))

  at_one : (p : Participant) → visits p.site before.program ≡ true → news_at site before.done after (progress_in now tid p) ≡ coord.news_at past now tid site p.site
  at_one p v = by_site (same_site p.site site) refl where
    by_site : (b : Bool) → same_site p.site site ≡ b → news_at site before.done after (progress_in now tid p) ≡ coord.news_at past now tid site p.site
    by_site true e =
        cond-true _ _ _ (ap (λ b. b || is_idle after.program before.done (progress_in now tid p)) e) ∙ is_due p v
        ∙ sym (cond-true _ _ _ (ap (λ b. b || is_none (outstanding past tid p.site)) e))
    by_site false e =
        let idle : is_idle after.program before.done (progress_in now tid p) ≡ is_none (outstanding past tid p.site) =
        ap₂ (λ (steps : List Step) (q : Progress). is_idle steps before.done q) program_same (elsewhere p e) ∙ idle_due before.program before.done before.reads (progress_in past tid p) ∙ ap is_none (was_due p v) in
        ap₂ (λ (b : Bool) (d : Option Due). cond (same_site p.site site || b) d None) idle (is_due p v)

  at_all : (members : List Participant) → found (news_at site before.done after) (map (progress_in now tid) (participants_of members before.program))
      ≡ found (λ (p : Participant). coord.news_at past now tid site p.site) (participants_of members before.program)
  at_all [] = refl
  at_all (m ∷ ms) = by_visit (visits m.site before.program) refl (at_all ms) where
    rest : List Participant
    rest = participants_of ms before.program

    by_visit : (b : Bool) → visits m.site before.program ≡ b
        → found (news_at site before.done after) (map (progress_in now tid) rest) ≡ found (λ (p : Participant). coord.news_at past now tid site p.site) rest
        → found (news_at site before.done after) (map (progress_in now tid) (cond b (m ∷ rest) rest)) ≡ found (λ (p : Participant). coord.news_at past now tid site p.site) (cond b (m ∷ rest) rest)
    by_visit true v same = ap₂ (λ (o : Option Due) (ds : List Due). with_some o ds) (at_one m v) same
    by_visit false v same = same

  -- what became outstanding
  pub news_link : news site before.done after ≡ coord.news protocols past now tid site
  news_link =
      ap (found (news_at site before.done after)) (is.sites ∙ ap (λ (steps : List Step). map (progress_in now tid) (participants_of protocols steps)) program_same)
      ∙ at_all protocols
      ∙ ap (λ (steps : List Step). found (λ (p : Participant). coord.news_at past now tid site p.site) (participants_of protocols steps)) was.program
