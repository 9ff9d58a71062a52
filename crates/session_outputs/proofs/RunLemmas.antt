-- The output of a run: what its end says, as the disks see it.
use Rattle.std.proofs.Common.{◌≡◌, ◌⊎◌, ℕ, Bool, IsTrue, Result, Ok, Err, List, ◌∷◌, ◌++◌, length, reverse, inl, inr, refl, sym, ap, subst}
use Rattle.mdb_base.specs.declared.names.Memory.{Memory}
use Rattle.mdb_base.specs.Words.{Each}
use Rattle.fed_rules.specs.declared.commands.Command.{Command}
use Rattle.fed_rules.specs.declared.commands.Line.{Line}
use Rattle.fed_rules.specs.declared.scenario.Scenario.{Scenario}
use Rattle.fed_rules.specs.Headline.{Headline, OfStories}
use Rattle.fed_rules.specs.Plans.{IsScenario}
use Rattle.fed_rules.specs.Right.{IsRightStory, AreLines}
use Rattle.fed_rules.specs.Story.{story_of}
use Rattle.journal_disk.specs.Disk.{Seen}
use Rattle.fed_world.specs.declared.world.World.{World}
use Rattle.fed_world.specs.Faults.{faults_of}
use Rattle.federation_run.specs.Running.{HasBroken, HasNotBegun}
use Rattle.host_laws.specs.Merged.{commands_of}
use Rattle.line_laws.specs.Lines.{ClosingIsHeard, IsHeard, RightLinesFit}
use Rattle.line_laws.specs.Refusals.{ConservativeLinesRefuseNone}
use Rattle.progress_laws.specs.Added.{FinishingAddsItsOwn}
use Rattle.progress_laws.specs.Settled.{CommitsAreSettledAtRest}
use Rattle.replay_laws.specs.Replayed.{ClosingAddsNothing, CommandsGiveAgain}
use Rattle.line_text.specs.Fits.{line_fits}
use Rattle.line_text.specs.Spelling.{lines_bytes}
use Rattle.outputs.specs.declared.output.Output.{Output}
use Rattle.outputs.specs.declared.output.Output.TheVariants.{Whole, Broken}
use Rattle.session_outputs.specs.Ends.{BreaksOff, IsEnded}
use Rattle.outputs.specs.Outputs.{IfBroken, IfWhole, IsOutput}
use Rattle.session_outputs.specs.Plays.{IsPrintable, IsPrinted}
use Rattle.session_outputs.specs.Runs.{Breaks, host_commands, run_commands, running}
use Rattle.session_outputs.specs.Sessions.{IsFront}
use Rattle.outputs.specs.Texts.{disk_failed_text}
use Rattle.session_outputs.proofs.Again.{replays_alike}
use Rattle.session_outputs.proofs.Ending.{run_heard}
use Rattle.outputs.proofs.ForCallers.{AreSized}
use Rattle.session_outputs.proofs.Holding.{stands_hold_frames, starts_broken, were_before, world_breaks}
use Rattle.session_outputs.proofs.HostsHeard.{hosts_heard}
use Rattle.session_outputs.proofs.OutputLemmas.{front_before}
use Rattle.session_outputs.proofs.PlayLemmas.{front_heard, lines_fit}
use Rattle.session_outputs.proofs.Rights.{all_commit, story_right}
use Rattle.session_outputs.proofs.Unrefused.{unrefused}

-- ---- a run that came to its end, and one that a failed disk ended: its lines

module _ (tells : Bool) (old new : List Seen) (scenario : Scenario) where
  pub ended_printable : ClosingIsHeard → FinishingAddsItsOwn → (world : World) → (e : IsEnded tells old new scenario world) → IsPrintable scenario (run_commands scenario (host_commands e.merged))
  ended_printable closing finishing world e = record { whole = e.hosts.run.logged.whole; heard = run_heard closing finishing (faults_of old) scenario e.merged e.hosts; rests = e.finished.rest }

  -- a disk failed while the sites were set up, or the hosts ran: the lines are right
  abbrev pub Stops : ℕ → List Line → Type 0
  Stops number lines = HasNotBegun tells old new scenario number lines ⊎ HasBroken (faults_of old) new scenario number lines

  own_lines : (number : ℕ) (lines : List Line) → (b : HasBroken (faults_of old) new scenario number lines) → AreLines lines scenario (commands_of lines)
  own_lines number lines b = record { commands_are = refl; right = subst (λ (ls : List Line). IsRightStory scenario (reverse ls)) (sym b.lines_are) b.run.told.right }

  pub stopped_lines : (number : ℕ) (lines : List Line) → Stops number lines → AreLines lines scenario (commands_of lines)
  stopped_lines number lines (inl s) = record { commands_are = refl; right = subst (λ (ls : List Line). IsRightStory scenario (reverse ls)) (sym s.none) tt }
  stopped_lines number lines (inr b) = own_lines number lines b

  pub stopped_fit : RightLinesFit → (number : ℕ) (lines : List Line) → Stops number lines → Each (λ line. IsTrue (line_fits line)) lines
  stopped_fit law number lines (inl s) = subst (λ (ls : List Line). Each (λ line. IsTrue (line_fits line)) ls) (sym s.none) tt
  stopped_fit law number lines (inr b) =
      let heard = hosts_heard scenario b.coordinator b.logs b.lists b.merged b.run.logged b.run.listed b.run.traced in
      lines_fit law scenario (commands_of lines) lines b.run.logged.whole (subst (λ (ls : List Line). Each (IsHeard scenario.sites) (commands_of ls)) (sym b.lines_are) heard) (own_lines number lines b)

-- ---- its output

module _ {D : Type 0} (see : D → Seen) (tells : Bool) (old new : List Seen) (scenario : Scenario) where
  -- of one that came to its end
  pub ended_output : OfStories Headline → CommitsAreSettledAtRest → ConservativeLinesRefuseNone → ClosingAddsNothing → CommandsGiveAgain → IsTrue tells → AreSized new
      → (world : World) → (e : IsEnded tells old new scenario world) → (r : Result Output Memory)
      → IfWhole r (λ bytes. IsPrinted bytes scenario (run_commands scenario (host_commands e.merged))) → IsOutput (running see) r old new scenario
  ended_output headlines everywhere unrefusing closing again told sized world e (Ok (Whole bytes)) p =
      let commands = run_commands scenario (host_commands e.merged) in
      let right = story_right headlines everywhere scenario e.hosts.run.logged.whole commands e.finished.rest in
      record {
        merged = e.merged;
        hosts = e.hosts;
        lines = p.lines;
        done = record {
          lines_are = p.lines_are;
          unrefused = unrefused unrefusing scenario e.hosts.run.logged.whole commands p.lines p.lines_are;
          right = right;
          kept = stands_hold_frames tells world new scenario commands told sized e.finished.rest e.stands;
        };
        committed = all_commit scenario (story_of scenario commands) right e.finished;
        calm = e.calm;
        output_is = p.text_is;
        again = replays_alike closing again scenario commands p.lines bytes.items e.finished.rest p.lines_are p.text_is;
      }
  ended_output headlines everywhere unrefusing closing again told sized world e (Ok (Broken bytes)) p = absurd p
  ended_output headlines everywhere unrefusing closing again told sized world e (Err why) p = tt

  -- of one that a failed disk ended
  pub failed_output : ConservativeLinesRefuseNone → IsScenario scenario → (number : ℕ) (done : List Command) (lines : List Line) → AreLines lines scenario done
      → Breaks see number old new scenario lines done → (r : Result Output Memory)
      → IfBroken r (λ bytes. bytes ≡ lines_bytes lines ++ disk_failed_text number) → IsOutput (running see) r old new scenario
  failed_output unrefusing whole number done lines are breaks (Ok (Whole bytes)) p = absurd p
  failed_output unrefusing whole number done lines are breaks (Ok (Broken bytes)) p =
      record { number = number; done = done; lines = lines; lines_are = are; unrefused = unrefused unrefusing scenario whole done lines are; output_is = p; breaks = breaks }
  failed_output unrefusing whole number done lines are breaks (Err why) p = tt

  -- while the sites were set up, or the hosts ran
  pub stopped_breaks : AreSized new → (number : ℕ) (lines : List Line) → Stops tells old new scenario number lines → Breaks see number old new scenario lines (commands_of lines)
  stopped_breaks sized number lines (inl s) = inr (inl (ap commands_of s.none, starts_broken number tells old new scenario sized s.rose s.stopped))
  stopped_breaks sized number lines (inr b) = inr (inr b)

  -- behind the hosts: so are the lines of the world
  module _ (number : ℕ) (world : World) (b : BreaksOff see tells number old new scenario world) where
    abbrev pub before : List Command
    before = b.breaks.done ++ host_commands b.merged

    abbrev whole : List Command
    whole = run_commands scenario (host_commands b.merged)

    front : IsFront (b.breaks.command ∷ before) whole
    front = (b.breaks.left, b.breaks.of_whole)

    pub off_fit : RightLinesFit → ClosingIsHeard → FinishingAddsItsOwn → (lines : List Line) → AreLines lines scenario before → Each (λ line. IsTrue (line_fits line)) lines
    off_fit law closing finishing lines are =
        lines_fit law scenario before lines b.hosts.run.logged.whole
        (front_heard scenario.sites whole before (run_heard closing finishing (faults_of old) scenario b.merged b.hosts) (front_before whole b.breaks.command before front)) are

    pub off_breaks : ((one : D) → length (see one).image.bytes ≡ (see one).size) → AreSized new → (lines : List Line) → Breaks see number old new scenario lines before
    off_breaks told sized lines = inl (record {
      merged = b.merged;
      hosts = b.hosts;
      more = b.breaks.done;
      done_is = refl;
      breaks = record {
        command = b.breaks.command;
        front = front;
        breaks = world_breaks see number tells world old new b.breaks.command scenario before sized
            (were_before see told number tells world old old new scenario whole (host_commands b.merged) refl b.breaks) b.breaks.broken;
      };
    })
