-- Of each global transaction one attempt at most is undecided or committed.
use Rattle.std.proofs.Common.{◌≡◌, ◌⊎◌, true, false, ◌&&◌, List, [], ◌∷◌, inl, inr, sym, ap, subst, ◌∙◌}
use Rattle.mdb_base.specs.declared.names.Tid.{Tid}
use Rattle.mdb_base.specs.Names.{same_tid, same_tx}
use Rattle.presumptions.specs.declared.Participant.{Participant}
use Rattle.order_laws.specs.Chains.{In}
use Rattle.order_laws.proofs.ForCallers.{first_where_none, is_in_true, tells_tids}
use Rattle.fed_rules.specs.declared.answers.Answer.TheVariants as Say
use Rattle.fed_rules.specs.declared.events.CoordEvent.{CoordEvent}
use Rattle.fed_rules.specs.declared.commands.Command.{Command}
use Rattle.fed_rules.specs.declared.records.CoordRecord.TheVariants as Rec
use Rattle.fed_rules.specs.declared.scenario.Scenario.{Scenario}
use Rattle.fed_rules.specs.CoordPast.{CoordHappening, CoordPast, records, is_open, begins, begun_tids}
use Rattle.fed_rules.specs.Scenarios.{protocols}
use Rattle.fed_rules.specs.Story.{Story, Happened, AtSite, AtCoordinator, Nowhere, coord_past, with_coordinator, story_of}
use Rattle.federation_laws.proofs.CoordHolds.{is_begun, begun-next, begun-stays, begins-answer}
use Rattle.coord_laws.proofs.ForCallers.{IsFirst, IsMade, active_from, begins_same, made-begins, undecided_from}
use Rattle.federation_laws.proofs.StoryGlobals.{coord-made}
use Rattle.federation_laws.proofs.Told.{IsLine, line_is}
use Rattle.std.proofs.lemmas.Bool.{or_left}
use Rattle.mdb_base.proofs.ForCallers.{same_tid-equal, same_tx-from}
use Rattle.fed_rules.specs.Active.{IsActive}
use Rattle.fed_rules.proofs.ForCallers.{none_committed}

-- no two attempts of one transaction are so, and who is undecided was begun
pub record OnceHolds (past : CoordPast) : Type 0 where
  pub once : (a b : Tid) → a.tx ≡ b.tx → IsActive past a → IsActive past b → a ≡ b
  pub begun : (g : Tid) → is_open past g ≡ true → is_begun past g ≡ true

-- where an attempt begins, no other one of its transaction is active
first-alone : (past : CoordPast) (tid g : Tid) → OnceHolds past → IsFirst past (Say.Begun tid) → g.tx ≡ tid.tx → IsActive past g → ⊥
first-alone past tid g h f s (inr c) = none_committed (records past) tid.tx g f.0 s c
first-alone past tid g h f s (inl u) =
    let listed : In g (begun_tids past) = is_in_true same_tid tells_tids (begun_tids past) g (h.begun g u) in
    let fails : (same_tx g.tx tid.tx && is_open past g) ≡ false = first_where_none (λ (t : Tid). same_tx t.tx tid.tx && is_open past t) (begun_tids past) g f.1 listed in
    let passes : (same_tx g.tx tid.tx && is_open past g) ≡ true = ap (λ b. b && is_open past g) (same_tx-from g.tx tid.tx s) ∙ u in
    let clash = sym passes ∙ fails in cc

begins-first : (members : List Participant) (past : CoordPast) (event : CoordEvent) (x : CoordHappening) → IsMade members past event x → OnceHolds past → (a g : Tid) → begins a x.answer ≡ true → g.tx ≡ a.tx → IsActive past g → ⊥
begins-first members past event x made h a g b s active =
    let (tid, is) = begins-answer a x.answer b in
    let own : tid ≡ a = same_tid-equal tid a (sym (ap (begins a) is) ∙ b) in
    first-alone past tid g h (subst (IsFirst past) is made.first) (s ∙ sym (ap (λ (t : Tid). t.tx) own)) active

once-next : (members : List Participant) (past : CoordPast) (event : CoordEvent) (x : CoordHappening) → IsMade members past event x → OnceHolds past → OnceHolds (x ∷ past)
once-next members past event x made h =
    record {
      once = λ a b s p q. either a b s (active_from members past event x made a p) (active_from members past event x made b q);
      begun = λ g u. elim (undecided_from past g x (made-begins members past event x made) u) [
        | inl b ↦ begun-next past g x ∙ or_left (begins g x.answer) (is_begun past g) b
        | inr k ↦ begun-stays past g x (h.begun g k.0)
      ];
    }
  where
    either : (a b : Tid) → a.tx ≡ b.tx → IsActive past a ⊎ (begins a x.answer ≡ true) → IsActive past b ⊎ (begins b x.answer ≡ true) → a ≡ b
    either a b s (inl p) (inl q) = h.once a b s p q
    either a b s (inl p) (inr q) = absurd (begins-first members past event x made h b a q s p)
    either a b s (inr p) (inl q) = absurd (begins-first members past event x made h a b p (sym s) q)
    either a b s (inr p) (inr q) = begins_same a b x p q

once-happened : (scenario : Scenario) (story : Story) (happened : Happened) → IsLine scenario story happened → OnceHolds (coord_past story) → OnceHolds (with_coordinator happened (coord_past story))
once-happened scenario story (AtSite s x) line h = h
once-happened scenario story (AtCoordinator x) line h = once-next (protocols scenario) (coord_past story) line.event x (coord-made scenario story x line) h
once-happened scenario story (Nowhere answer) line h = h

-- so it is in every story
pub global-once : (scenario : Scenario) (commands : List Command) → OnceHolds (coord_past (story_of scenario commands))
global-once scenario [] = record { once = λ a b s p q. elim p [ inl u ↦ cc | inr c ↦ cc ]; begun = λ g u. cc }
global-once scenario (command ∷ commands) = once-happened scenario (story_of scenario commands) _ (line_is scenario (story_of scenario commands) command) (global-once scenario commands)
