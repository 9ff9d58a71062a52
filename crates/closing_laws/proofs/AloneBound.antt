-- Finishing a transaction alone makes at most 34 commands for a local one, and 257 for a global one.
use Rattle.std.proofs.Common.{◌≡◌, ℕ, zero, suc, ◌+◌, ◌*◌, ◌≤◌, ◌⊎◌, Bool, true, false, cond, not, nat_lt, Option, Some, None, List, [], ◌∷◌, ◌++◌, length, inl, inr, refl, ap, ◌∙◌, arith}
use Rattle.mdb_base.specs.declared.acts.Step.{Step}
use Rattle.mdb_base.specs.declared.names.SiteId.{SiteId}
use Rattle.mdb_base.specs.declared.names.Tx.{Tx}
use Rattle.mdb_base.specs.Programs.{IsProgram}
use Rattle.mdb_base.specs.Words.{inserted, those}
use Rattle.mdb_base.proofs.ForCallers.{length_those}
use Rattle.order_laws.specs.Chains.{In}
use Rattle.order_laws.proofs.ForCallers.{each_at, those_in}
use Rattle.fed_rules.specs.declared.commands.Command.{Command}
use Rattle.fed_rules.specs.declared.commands.Command.TheVariants as Cmd
use Rattle.fed_rules.specs.declared.commands.Place.{Place}
use Rattle.fed_rules.specs.declared.scenario.Scenario.{Scenario}
use Rattle.fed_rules.specs.declared.scenario.TxLine.{TxLine}
use Rattle.fed_rules.specs.Closing.{by_number, deliver_all, is_done, last_sends, one_alone, sent_next, steps_alone, taken}
use Rattle.fed_rules.specs.Sessions.{fresh}
use Rattle.fed_rules.specs.Story.{story_of}
use Rattle.closing_laws.specs.Bound.{FinishingIsShort}
use Rattle.closing_laws.proofs.SentPlaces.{give_places, taken_many}
use Rattle.closing_laws.proofs.FewAttempts.{few_transactions}
use Rattle.closing_laws.proofs.Lengths.{adds_each, length_inserted}

steps_many : (tx : Tx) (steps : List Step) (commands : List Command) → length (steps_alone tx steps commands) ≡ length steps + length commands
steps_many tx [] commands = omega arith
steps_many tx (step ∷ steps) commands = let rest = steps_many tx steps (Cmd.Step tx ∷ commands) in omega (arith, rest)

-- each message that is delivered takes two commands at most
deliver_few : (scenario : Scenario) (n : ℕ) (places : List Place) (commands : List Command) → length (deliver_all scenario n places commands) ≤ 2 * n + length commands
deliver_few scenario zero places commands = omega arith
deliver_few scenario (suc n) [] commands = omega arith
deliver_few scenario (suc n) (place ∷ places) commands =
    let given : List Command = Cmd.Give place.site place.place ∷ commands in
    let answered = taken (fresh scenario) given in
    let many = taken_many (last_sends (fresh scenario) given) given in
    let few = give_places (fresh scenario) commands place in
    let rest = deliver_few scenario n (places ++ sent_next scenario answered (last_sends (fresh scenario) given)) answered in
    omega (arith, many, few, rest)

one_few : (scenario : Scenario) (line : TxLine) (home : Option SiteId) → length line.program ≤ 32 → (commands : List Command)
    → length (one_alone scenario line home commands) ≤ 257 + length commands
one_few scenario line None few commands =
    let all = deliver_few scenario (4 * length line.program) (last_sends (fresh scenario) (Cmd.Go line.tx ∷ commands)) (Cmd.Go line.tx ∷ commands) in omega (arith, all, few)
one_few scenario line (Some site) few commands =
    let all = steps_many line.tx line.program (Cmd.Begin line.tx ∷ commands) in omega (arith, all, few)

abbrev before : TxLine → TxLine → Bool
before a b = nat_lt a.tx.0 b.tx.0

pub numbered_in : (lines : List TxLine) (line : TxLine) → In line (by_number lines) → In line lines
numbered_in [] line i = absurd i
numbered_in (l ∷ lines) line i = elim (in_inserted l line (by_number lines) i) [ inl e ↦ inl e | inr j ↦ inr (numbered_in lines line j) ]
  where
    in_inserted : (x z : TxLine) (ys : List TxLine) → In z (inserted before x ys) → (x ≡ z) ⊎ In z ys
    in_inserted x z [] (inl e) = inl e
    in_inserted x z [] (inr i) = absurd i
    in_inserted x z (y ∷ ys) i = by_test (before y x) i (in_inserted x z ys)
      where
        by_test : (b : Bool) → In z (cond b (y ∷ inserted before x ys) (x ∷ y ∷ ys)) → (In z (inserted before x ys) → (x ≡ z) ⊎ In z ys) → (x ≡ z) ⊎ In z (y ∷ ys)
        by_test true (inl e) k = inr (inl e)
        by_test true (inr j) k = elim (k j) [ inl e ↦ inl e | inr m ↦ inr (inr m) ]
        by_test false (inl e) k = inl e
        by_test false (inr j) k = inr j

numbered_many : (lines : List TxLine) → length (by_number lines) ≡ length lines
numbered_many [] = refl
numbered_many (line ∷ lines) = length_inserted before line (by_number lines) ∙ ap suc (numbered_many lines)

pub finishing_short : FinishingIsShort
finishing_short scenario whole commands =
    let left = those (λ line. not (is_done scenario (story_of scenario commands) line.tx)) (by_number scenario.transactions) in
    let all = adds_each (λ (line : TxLine). one_alone scenario line line.home) 257 left
    (λ line cs i. one_few scenario line line.home
    (each_at (λ (l : TxLine). IsProgram l.program) line scenario.transactions whole.transactions.programs
    (numbered_in scenario.transactions line (those_in (λ (l : TxLine). not (is_done scenario (story_of scenario commands) l.tx)) line (by_number scenario.transactions) i).0)).few cs) commands in
    let some = length_those (λ (line : TxLine). not (is_done scenario (story_of scenario commands) line.tx)) (by_number scenario.transactions) in
    let same = numbered_many scenario.transactions in
    let most = few_transactions scenario whole in omega (arith, all, some, same, most)
