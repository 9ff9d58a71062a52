-- The output of a made scenario: what its end says, as the disks see it.
use Rattle.std.proofs.Common.{◌≡◌, ℕ, Bool, IsTrue, Result, Ok, Err, List, [], ◌++◌, length, reverse, ◌∙◌}
use Rattle.mdb_base.specs.declared.names.Memory.{Memory}
use Rattle.fed_rules.specs.declared.commands.Command.{Command}
use Rattle.fed_rules.specs.declared.commands.Line.{Line}
use Rattle.fed_rules.specs.declared.scenario.Scenario.{Scenario}
use Rattle.fed_rules.specs.Headline.{Headline, OfStories}
use Rattle.fed_rules.specs.Sessions.{fresh}
use Rattle.fed_rules.specs.Story.{story_of}
use Rattle.journal_disk.specs.Disk.{Seen}
use Rattle.fed_world.specs.declared.world.World.{World}
use Rattle.fed_world.specs.FreshWorlds.{Recalls, Rests}
use Rattle.fed_world.specs.Worlds.{EachStory}
use Rattle.fed_world.proofs.ForCallers.{recalls, right_fresh}
use Rattle.fed_rules.specs.Right.{AreLines}
use Rattle.host_laws.specs.Merged.{commands_of}
use Rattle.made_laws.specs.Summaries.{MadeLinesAreFixed}
use Rattle.made_laws.specs.Unchecked.{EndsAreUnchecked}
use Rattle.progress_laws.specs.Settled.{CommitsAreSettledAtRest}
use Rattle.line_text.specs.Spelling.{lines_bytes}
use Rattle.report_text.specs.Summaries.{summary_text}
use Rattle.outputs.specs.declared.output.Output.{Output}
use Rattle.outputs.specs.declared.output.Output.TheVariants.{Whole, Broken}
use Rattle.session_outputs.specs.declared.making.Making.{Making}
use Rattle.session_outputs.specs.Ends.{BreaksOff, IsEnded}
use Rattle.session_outputs.specs.Makes.{IsMakeable, made_scenario, making}
use Rattle.outputs.specs.Outputs.{IfBroken, IfWhole, IsOutput}
use Rattle.session_outputs.specs.Runs.{Breaks, host_commands, run_commands}
use Rattle.outputs.specs.Texts.{disk_failed_text}
use Rattle.outputs.proofs.ForCallers.{AreSized}
use Rattle.session_outputs.proofs.Holding.{stands_hold_frames}
use Rattle.session_outputs.proofs.HostsHeard.{hosts_unchecked}
use Rattle.session_outputs.proofs.Rights.{all_commit, story_right}
use Rattle.session_outputs.proofs.RunLemmas.{Stops, before, off_breaks, stopped_breaks, stopped_lines}

-- a run that came to its end: what is put is the summary of its journals, which is told by how many sites and transactions there are
pub made_output : {D : Type 0} (see : D → Seen) (tells : Bool) (old new : List Seen) (asked : Making) → OfStories Headline → CommitsAreSettledAtRest → MadeLinesAreFixed → EndsAreUnchecked → IsMakeable asked
    → IsTrue tells → AreSized new → (world : World) → IsEnded tells old new (made_scenario asked) world → (r : Result Output Memory)
    → IfWhole r (λ bytes. EachStory (Recalls world) (λ scenario commands. Rests scenario commands → bytes ≡ summary_text scenario (story_of scenario commands))) → IsOutput (making see) r old new asked
made_output see tells old new asked headlines everywhere fixed ends can told sized world e (Ok (Whole bytes)) p =
    let scenario : Scenario = made_scenario asked in
    let commands = run_commands scenario (host_commands e.merged) in
    let right = story_right headlines everywhere scenario e.hosts.run.logged.whole commands e.finished.rest in
    let unchecked =
    ends scenario (host_commands e.merged)
    (hosts_unchecked scenario e.hosts.coordinator e.hosts.logs e.hosts.lists e.merged e.hosts.run.logged e.hosts.run.listed e.hosts.run.traced) in
    let summed = p scenario commands (recalls tells world new (fresh scenario) commands e.stands) e.finished.rest in
    record {
      merged = e.merged;
      hosts = e.hosts;
      right = right;
      committed = all_commit scenario (story_of scenario commands) right e.finished;
      kept = stands_hold_frames tells world new scenario commands told sized e.finished.rest e.stands;
      calm = e.calm;
      output_is = summed;
      fixed = summed ∙ fixed asked.number asked.sites asked.transactions can.0 can.1 can.3 commands unchecked e.finished.rest e.finished.done;
    }
made_output see tells old new asked headlines everywhere fixed ends can told sized world e (Ok (Broken bytes)) p = absurd p
made_output see tells old new asked headlines everywhere fixed ends can told sized world e (Err why) p = tt

-- one that a failed disk ended
module _ {D : Type 0} (see : D → Seen) (tells : Bool) (old new : List Seen) (asked : Making) (sized : AreSized new) (number : ℕ) where
  named : (done : List Command) (lines : List Line) → AreLines lines (made_scenario asked) done → Breaks see number old new (made_scenario asked) lines done → (r : Result Output Memory)
      → IfBroken r (λ bytes. bytes ≡ lines_bytes [] ++ disk_failed_text number) → IsOutput (making see) r old new asked
  named done lines are breaks (Ok (Whole bytes)) p = absurd p
  named done lines are breaks (Ok (Broken bytes)) p = record { number = number; done = done; lines = lines; lines_are = are; output_is = p; breaks = breaks }
  named done lines are breaks (Err why) p = tt

  -- while the sites were set up, or the hosts ran
  pub made_stopped : (lines : List Line) → Stops tells old new (made_scenario asked) number lines → (r : Result Output Memory)
      → IfBroken r (λ bytes. bytes ≡ lines_bytes [] ++ disk_failed_text number) → IsOutput (making see) r old new asked
  made_stopped lines stops r =
      let scenario = made_scenario asked in
      named (commands_of lines) lines (stopped_lines tells old new scenario number lines stops) (stopped_breaks see tells old new scenario sized number lines stops) r

  -- behind the hosts
  pub made_broken : ((one : D) → length (see one).image.bytes ≡ (see one).size) → (world : World) → BreaksOff see tells number old new (made_scenario asked) world → (r : Result Output Memory)
      → IfBroken r (λ bytes. bytes ≡ lines_bytes [] ++ disk_failed_text number) → IsOutput (making see) r old new asked
  made_broken told world b r =
      let scenario = made_scenario asked in
      let lines = world.lines.items in
      let has = b.breaks.broken.has in
      named (before see tells old new scenario number world b) lines (record { commands_are = has.commands_are; right = right_fresh scenario (reverse lines) has.right })
      (off_breaks see tells old new scenario number world b told sized lines) r
