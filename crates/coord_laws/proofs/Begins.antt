-- Which attempt a line of the coordinator begins.
use Rattle.std.proofs.Common.{◌≡◌, true, sym, ap, ◌∙◌, ◌⊎◌, List, ◌∷◌, inl, inr, subst}
use Rattle.std.proofs.lemmas.Bool.{and_parts}
use Rattle.mdb_base.specs.declared.names.Tid.{Tid}
use Rattle.mdb_base.proofs.ForCallers.{same_tid-equal}
use Rattle.presumptions.specs.declared.Participant.{Participant}
use Rattle.fed_rules.specs.CoordPast.{CoordHappening, begins, CoordPast, disk}
use Rattle.coord_laws.proofs.Begun.{begun_answer}
use Rattle.fed_rules.specs.declared.answers.Answer.TheVariants as Say
use Rattle.fed_rules.specs.declared.events.CoordEvent.{CoordEvent}
use Rattle.fed_rules.specs.Active.{IsActive}
use Rattle.coord_laws.proofs.Standings.{last_vote_of, undecided_from, commit_from}
use Rattle.coord_laws.proofs.Made.{IsMade, Begins}

pub begins_same : (a b : Tid) (x : CoordHappening) → begins a x.answer ≡ true → begins b x.answer ≡ true → a ≡ b
begins_same a b x p q =
    let own : begins b (Say.Begun a) ≡ true = ap (begins b) (sym (begun_answer a x.answer p)) ∙ q in
    same_tid-equal a b own

pub made-begins : (members : List Participant) (past : CoordPast) (event : CoordEvent) (x : CoordHappening) → IsMade members past event x → Begins x.event x.answer
made-begins members past event x made = subst (λ ev. Begins ev x.answer) (sym made.heard) made.begun

-- who is active after a line was so, or begins
pub active_from : (members : List Participant) (past : CoordPast) (event : CoordEvent) (x : CoordHappening) → IsMade members past event x → (g : Tid) → IsActive (x ∷ past) g → IsActive past g ⊎ (begins g x.answer ≡ true)
active_from members past event x made g (inl u) = elim (undecided_from past g x (made-begins members past event x made) u) [ inl b ↦ inr b | inr k ↦ inl (inl k.0) ]
active_from members past event x made g (inr c) = elim (commit_from x.calls (disk past) g c) [
  | inl old ↦ inl (inr old)
  | inr new ↦ let v = last_vote_of members past event g x.calls made.writes new in inl (inl (and_parts _ _ v.1.is_counted).0)
]
