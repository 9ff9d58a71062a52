-- Finishing a transaction alone, message by message.
use Rattle.std.proofs.Common.{◌≡◌, ℕ, zero, suc, ◌+◌, ◌*◌, ◌<◌, Bool, not, Option, Some, None, List, [], ◌∷◌, ◌++◌, length, drop, take, get_or, refl, sym, ◌∙◌, ap, ap₂, subst, add-one, drop-cons, arith}
use Rattle.std.proofs.lemmas.List.{drop-append-le}
use Rattle.mdb_base.specs.declared.acts.Step.{Step}
use Rattle.mdb_base.specs.declared.names.SiteId.{SiteId}
use Rattle.mdb_base.specs.declared.names.Tx.{Tx}
use Rattle.mdb_base.specs.Words.{those}
use Rattle.fed_rules.specs.declared.commands.Command.{Command}
use Rattle.fed_rules.specs.declared.commands.Command.TheVariants as Cmd
use Rattle.fed_rules.specs.declared.commands.Place.{Place}
use Rattle.fed_rules.specs.declared.scenario.Scenario.{Scenario}
use Rattle.fed_rules.specs.declared.scenario.TxLine.{TxLine}
use Rattle.fed_rules.specs.Closing as rules
use Rattle.fed_rules.specs.Closing.{deliver_all, for_each, last_sends, sent_next, taken}
use Rattle.fed_rules.specs.Sessions.{Session, fresh}
use Rattle.fed_rules.specs.Story.{story_of}
use Rattle.journal_disk.specs.Disk.{Seen}
use Rattle.fed_world.specs.declared.world.World.{World}
use Rattle.fed_world.specs.FreshWorlds.{Stands}
use Rattle.closing.specs.Alone.{delivered_next, queue_after}
use Rattle.closing.specs.Towards.{Fits}
use Rattle.closing.proofs.Grows.{taken_grows}
use Rattle.closing.proofs.Loops.{each_begins, each_extends}
use Rattle.closing.proofs.Towards.{Extends, extends_here, extends_one, extends_twice, fits_less}

-- ---- what stands behind the commands before

abbrev pub step_on : Tx → Step → List Command → List Command
step_on tx step commands = Cmd.Step tx ∷ commands

pub step_grows : (tx : Tx) (step : Step) (commands : List Command) → Extends (step_on tx step commands) commands
step_grows tx step commands = extends_one (Cmd.Step tx) commands

pub steps_each : (tx : Tx) (steps : List Step) (commands : List Command) → rules.steps_alone tx steps commands ≡ for_each (step_on tx) steps commands
steps_each tx [] commands = refl
steps_each tx (step ∷ steps) commands = steps_each tx steps (Cmd.Step tx ∷ commands)

pub steps_grow : (tx : Tx) (steps : List Step) (commands : List Command) → Extends (rules.steps_alone tx steps commands) commands
steps_grow tx steps commands = subst (λ cs. Extends cs commands) (sym (steps_each tx steps commands)) (each_extends (step_on tx) (step_grows tx) steps commands)

-- the first ones and one more
module _ (tx : Tx) (steps : List Step) (i : ℕ) (commands : List Command) (lt : i < length steps) where
  pub steps_next : rules.steps_alone tx (take (i + 1) steps) commands ≡ Cmd.Step tx ∷ rules.steps_alone tx (take i steps) commands
  steps_next =
      steps_each tx (take (i + 1) steps) commands
      ∙ (with_step steps i commands lt ∙ ap (λ cs. Cmd.Step tx ∷ cs) (sym (steps_each tx (take i steps) commands)))
    where
      with_step : (ss : List Step) (k : ℕ) (cs : List Command) → k < length ss → for_each (step_on tx) (take (k + 1) ss) cs ≡ Cmd.Step tx ∷ for_each (step_on tx) (take k ss) cs
      with_step ss k cs few = subst (λ n. for_each (step_on tx) (take n ss) cs ≡ Cmd.Step tx ∷ for_each (step_on tx) (take k ss) cs) (sym (add-one k)) (by_place ss k cs few)
        where
          by_place : (ys : List Step) (n : ℕ) (more : List Command) → n < length ys → for_each (step_on tx) (take (suc n) ys) more ≡ Cmd.Step tx ∷ for_each (step_on tx) (take n ys) more
          by_place [] n more few = absurd (omega arith)
          by_place (y ∷ ys) zero more few = refl
          by_place (y ∷ ys) (suc n) more few = by_place ys n (Cmd.Step tx ∷ more) (omega arith)

  pub front_steps : Extends (rules.steps_alone tx steps commands) (Cmd.Step tx ∷ rules.steps_alone tx (take i steps) commands)
  front_steps =
      subst (λ cs. Extends (rules.steps_alone tx steps commands) cs) steps_next
      (subst (λ cs. Extends cs (rules.steps_alone tx (take (i + 1) steps) commands)) (sym (steps_each tx steps commands))
      (subst (λ cs. Extends (for_each (step_on tx) steps commands) cs) (sym (steps_each tx (take (i + 1) steps) commands)) (each_begins (step_on tx) (step_grows tx) (i + 1) steps commands)))

pub steps_fit : (session : Session) (tx : Tx) (steps : List Step) (i : ℕ) (commands : List Command) → i < length steps
    → Fits session (rules.steps_alone tx steps commands) → Fits session (Cmd.Step tx ∷ rules.steps_alone tx (take i steps) commands)
steps_fit session tx steps i commands lt fits =
    fits_less session (rules.steps_alone tx steps commands) (Cmd.Step tx ∷ rules.steps_alone tx (take i steps) commands) (front_steps tx steps i commands lt) fits

module _ (scenario : Scenario) where
  pub next_grows : (place : Place) (commands : List Command) → Extends (delivered_next place scenario commands) commands
  next_grows place commands =
      let one : List Command = Cmd.Give place.site place.place ∷ commands in
      extends_twice commands one (taken (fresh scenario) one) (taken_grows (fresh scenario) one) (extends_one (Cmd.Give place.site place.place) commands)

  pub delivers_grow : (n : ℕ) (places : List Place) (commands : List Command) → Extends (deliver_all scenario n places commands) commands
  delivers_grow zero places commands = extends_here commands
  delivers_grow (suc n) [] commands = extends_here commands
  delivers_grow (suc n) (place ∷ places) commands =
      let given : List Command = Cmd.Give place.site place.place ∷ commands in
      let answered = taken (fresh scenario) given in
      let more = places ++ sent_next scenario answered (last_sends (fresh scenario) given) in
      extends_twice commands answered (deliver_all scenario n more answered) (delivers_grow n more answered) (next_grows place commands)

  pub global_grows : (tx : Tx) (steps : List Step) (commands : List Command) → Extends (rules.global_alone scenario tx steps commands) commands
  global_grows tx steps commands =
      let one : List Command = Cmd.Go tx ∷ commands in
      extends_twice commands one (rules.global_alone scenario tx steps commands) (delivers_grow (4 * length steps) (last_sends (fresh scenario) one) one) (extends_one (Cmd.Go tx) commands)

  pub local_grows : (tx : Tx) (steps : List Step) (commands : List Command) → Extends (rules.local_alone tx steps commands) commands
  local_grows tx steps commands =
      let one : List Command = Cmd.Begin tx ∷ commands in
      let two = rules.steps_alone tx steps one in
      extends_twice commands two (Cmd.Commit tx ∷ two) (extends_one (Cmd.Commit tx) two) (extends_twice commands one two (steps_grow tx steps one) (extends_one (Cmd.Begin tx) commands))

  pub one_grows : (line : TxLine) (commands : List Command) → Extends (rules.one_alone scenario line line.home commands) commands
  one_grows line commands = by_home line.home
    where
      by_home : (o : Option SiteId) → Extends (rules.one_alone scenario line o commands) commands
      by_home None = global_grows line.tx line.program commands
      by_home (Some site) = local_grows line.tx line.program commands

  pub finished_grows : (commands : List Command) → Extends (rules.finished_alone scenario commands) commands
  finished_grows commands =
      each_extends (λ (line : TxLine). rules.one_alone scenario line line.home) one_grows
      (those (λ line. not (rules.is_done scenario (story_of scenario commands) line.tx)) (rules.by_number scenario.transactions)) commands

-- ---- how far the messages are delivered

-- a world on the way to all of these commands: the messages at these places are left
pub record IsOnTheWay (tells : Bool) (world : World) (disks : List Seen) (scenario : Scenario) (left : ℕ) (places : List Place) (whole commands : List Command) : Type 0 where
  pub mid : List Command
  pub stood : Stands tells world disks scenario mid
  pub rest : deliver_all scenario left places mid ≡ whole
  pub on : Extends mid commands

-- with nothing left all are carried out
pub all_delivered : (tells : Bool) (world : World) (disks : List Seen) (scenario : Scenario) (left : ℕ) (places : List Place) (whole commands : List Command) → places ≡ []
    → IsOnTheWay tells world disks scenario left places whole commands → Stands tells world disks scenario whole
all_delivered tells world disks scenario left places whole commands none w =
    subst (λ cs. Stands tells world disks scenario cs) (sym (nothing left w.mid) ∙ (ap (λ ps. deliver_all scenario left ps w.mid) (sym none) ∙ w.rest)) w.stood
  where
    nothing : (n : ℕ) (cs : List Command) → deliver_all scenario n [] cs ≡ cs
    nothing zero cs = refl
    nothing (suc n) cs = refl

pub fuel_spent : (tells : Bool) (world : World) (disks : List Seen) (scenario : Scenario) (left : ℕ) (places : List Place) (whole commands : List Command) → left ≡ 0
    → IsOnTheWay tells world disks scenario left places whole commands → Stands tells world disks scenario whole
fuel_spent tells world disks scenario left places whole commands none w =
    subst (λ cs. Stands tells world disks scenario cs) (ap (λ n. deliver_all scenario n places w.mid) (sym none) ∙ w.rest) w.stood

-- the next message
module _ (scenario : Scenario) (places : List Place) (next left more : ℕ) (place : Place) (mid whole : List Command) (lt : next < length places) (is : place ≡ get_or places next place) (one_less : left ≡ suc more)
    (rest : deliver_all scenario left (drop next places) mid ≡ whole) where
  next_is : deliver_all scenario more (drop (next + 1) places ++ queue_after scenario place mid) (delivered_next place scenario mid) ≡ whole
  next_is =
      ap (λ k. deliver_all scenario more (drop k places ++ queue_after scenario place mid) (delivered_next place scenario mid)) (add-one next)
      ∙ (sym (ap₂ (λ n ps. deliver_all scenario n ps mid) one_less (drop-cons places next place lt ∙ ap (λ p. p ∷ drop (suc next) places) (sym is))) ∙ rest)

  pub delivery_begins : Extends whole (delivered_next place scenario mid)
  delivery_begins = subst (λ cs. Extends cs (delivered_next place scenario mid)) next_is (delivers_grow scenario more (drop (next + 1) places ++ queue_after scenario place mid) (delivered_next place scenario mid))

  pub delivery_rest : (sent now : List Place) → sent ≡ queue_after scenario place mid → now ≡ places ++ sent → deliver_all scenario more (drop (next + 1) now) (delivered_next place scenario mid) ≡ whole
  delivery_rest sent now e f =
      ap (λ ps. deliver_all scenario more ps (delivered_next place scenario mid)) (ap (drop (next + 1)) f ∙ (drop-append-le (next + 1) places sent (omega (arith, lt)) ∙ ap (λ ps. drop (next + 1) places ++ ps) e)) ∙ next_is
