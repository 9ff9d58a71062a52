-- What the table has outstanding for an attempt is what the coordinator's past says.
use Rattle.std.proofs.Common.{◌≡◌, ℕ, Bool, true, false, cond, is_some, is_none, Option, Some, None, List, [], ◌∷◌, map, refl, sym, ap, ◌∙◌}
use Rattle.mdb_base.specs.declared.acts.Step.{Step}
use Rattle.mdb_base.specs.declared.names.Tid.{Tid}
use Rattle.mdb_base.specs.Words.{found, with_some}
use Rattle.presumptions.specs.declared.Participant.{Participant}
use Rattle.fed_rules.specs.declared.messages.Due.{Due}
use Rattle.fed_rules.specs.declared.messages.Due.TheVariants as Due_is
use Rattle.fed_rules.specs.Coord.{all_outstanding}
use Rattle.fed_rules.specs.CoordPast.{CoordPast, participants_of, visits, outstanding, outstanding_at, next_step, work_at, prepare_at, take_at, epoch_at, count_at, has_ticket_at, has_step_left, vote_at}
use Rattle.fed_rules.specs.CoordPast as past_words
use Rattle.global_exec.specs.Agreement.{IsOfPast, progress_in}
use Rattle.global_exec.specs.Due.{due, work, prepare, take as take_due}
use Rattle.global_exec.specs.Live.{Live, all_due, due_in}
use Rattle.global_exec.proofs.Steps.{next_at, next_of-at}

module _ (past : CoordPast) (tid : Tid) (member : Participant) where
  works : (o : Option Step) → work (progress_in past tid member) (next_at (past_words.reads past tid) o) ≡ work_at past tid member.site o
  works None = refl
  works (Some step) = refl

  prepares : (o : Option ℕ) → cond (is_some o) None (Some (Due_is.Prepare member.site (epoch_at past tid member.site) (count_at past tid member.site))) ≡ cond (is_none o) (Some (Due_is.Prepare member.site (epoch_at past tid member.site) (count_at past tid member.site))) None
  prepares None = refl
  prepares (Some ticket) = refl

  -- at a participant, as the past says how far the attempt has come
  pub due-outstanding_at : due (past_words.program past tid) (past_words.steps_done past tid) (past_words.reads past tid) (progress_in past tid member) ≡ outstanding_at past tid member.site
  due-outstanding_at =
      ap (λ (o : Option Due). cond (has_step_left past tid member.site) o (cond (has_ticket_at past tid member.site) (prepare (progress_in past tid member)) (take_due (progress_in past tid member))))
      (ap (work (progress_in past tid member)) (next_of-at (past_words.program past tid) (past_words.steps_done past tid) (past_words.reads past tid)) ∙ works (next_step past tid))
      ∙ ap (λ (o : Option Due). cond (has_step_left past tid member.site) (work_at past tid member.site (next_step past tid)) (cond (has_ticket_at past tid member.site) o (take_at past tid member.site)))
      (prepares (vote_at past tid member.site))

module _ (protocols : List Participant) (past : CoordPast) (tid : Tid) (live : Live) (is : IsOfPast protocols past tid live) where
  pub due-at : (member : Participant) → due_in live (progress_in past tid member) ≡ outstanding_at past tid member.site
  due-at member =
      ap (λ (p : List Step). due p live.done live.reads (progress_in past tid member)) is.program
      ∙ ap (λ (n : ℕ). due (past_words.program past tid) n live.reads (progress_in past tid member)) is.done
      ∙ ap (λ (vs : List ℕ). due (past_words.program past tid) (past_words.steps_done past tid) vs (progress_in past tid member)) is.reads
      ∙ due-outstanding_at past tid member

  found_there : (members : List Participant) → found (due_in live) (map (progress_in past tid) (participants_of members (past_words.program past tid))) ≡ found (λ (m : Participant). outstanding past tid m.site) (participants_of members (past_words.program past tid))
  found_there [] = refl
  found_there (m ∷ ms) = by_visit (visits m.site (past_words.program past tid)) refl (found_there ms)
    where
      rest : List Participant
      rest = participants_of ms (past_words.program past tid)

      by_visit : (b : Bool) → visits m.site (past_words.program past tid) ≡ b → found (due_in live) (map (progress_in past tid) rest) ≡ found (λ (p : Participant). outstanding past tid p.site) rest → found (due_in live) (map (progress_in past tid) (cond b (m ∷ rest) rest)) ≡ found (λ (p : Participant). outstanding past tid p.site) (cond b (m ∷ rest) rest)
      by_visit true is_there same =
          ap (λ (o : Option Due). with_some o (found (due_in live) (map (progress_in past tid) rest))) (due-at m ∙ sym (ap (λ b. cond b (outstanding_at past tid m.site) None) is_there))
          ∙ ap (with_some (outstanding past tid m.site)) same
      by_visit false is_there same = same

  -- all that is outstanding
  pub all_due-outstanding : all_due live ≡ all_outstanding protocols past tid
  all_due-outstanding =
      ap (found (due_in live)) (is.sites ∙ ap (λ (p : List Step). map (progress_in past tid) (participants_of protocols p)) is.program)
      ∙ found_there protocols
