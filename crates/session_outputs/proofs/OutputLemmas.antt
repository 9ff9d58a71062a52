-- The output of a session: what a world came to, as the session sees it.
use Rattle.std.proofs.Common.{◌≡◌, ℕ, Bool, Result, Ok, Err, List, [], ◌∷◌, ◌++◌, length, inl, inr, refl, sym, ◌∙◌, ap}
use Rattle.fed_rules.specs.declared.commands.Command.{Command}
use Rattle.fed_rules.specs.declared.commands.Line.{Line}
use Rattle.fed_rules.specs.declared.scenario.Scenario.{Scenario}
use Rattle.journal_disk.specs.Disk.{Seen}
use Rattle.mdb_base.specs.declared.names.Memory.{Memory}
use Rattle.closing.specs.FreshTowards as towards
use Rattle.fed_world.specs.declared.world.World.{World}
use Rattle.fed_world.specs.Faults.{faults_of}
use Rattle.fed_rules.specs.Right.{AreLines}
use Rattle.scenario_text.specs.declared.session.Session.{Session}
use Rattle.line_text.specs.Spelling.{lines_bytes}
use Rattle.held_disks.specs.Holding.{HoldAll}
use Rattle.outputs.specs.declared.output.Output.{Output}
use Rattle.outputs.specs.declared.output.Output.TheVariants.{Whole, Broken}
use Rattle.session_outputs.specs.Disks.{HoldFrames}
use Rattle.session_outputs.specs.Outcomes.{AreUnrefused}
use Rattle.outputs.specs.Outputs.{IfBroken, IfWhole, IsOutput}
use Rattle.session_outputs.specs.Plays.{IsPrinted, closed_with}
use Rattle.session_outputs.specs.Replays.{Breaks, IsShort, replaying}
use Rattle.session_outputs.specs.Sessions.{IsFront, IsRight, commands_of, story}
use Rattle.outputs.specs.Texts.{disk_failed_text}
use Rattle.outputs.proofs.ForCallers.{AreSized}
use Rattle.session_outputs.proofs.Holding.{stands_hold_all, were_before, world_breaks}

-- the whole output of a session that was carried out
pub whole_output : {D : Type 0} (see : D → Seen) (r : Result Output Memory) (old new : List Seen) (session : Session) → faults_of new ≡ faults_of old → IsRight session.scenario (story session) → HoldFrames new session.scenario (story session)
    → HoldAll new session.scenario (story session) → ((lines : List Line) → AreLines lines session.scenario (commands_of session) → AreUnrefused session.scenario lines)
    → IfWhole r (λ bytes. IsPrinted bytes session.scenario (commands_of session)) → IsOutput (replaying see) r old new session
whole_output see (Ok (Whole bytes)) old new session calm right frames all unrefused p = record {
  lines = p.lines;
  done = record { lines_are = p.lines_are; unrefused = unrefused p.lines p.lines_are; right = right; kept = frames };
  calm = calm;
  output_is = p.text_is;
}
whole_output see (Ok (Broken bytes)) old new session calm right frames all unrefused p = absurd p
whole_output see (Err why) old new session calm right frames all unrefused p = inr (inl (record { done = commands_of session; front = ([], refl); kept = all; calm = calm }))

-- the output of one in which a disk failed
pub broken_output : {D : Type 0} (see : D → Seen) (r : Result Output Memory) (old new : List Seen) (session : Session) (number : ℕ) (done : List Command) (lines : List Line) → AreLines lines session.scenario done
    → AreUnrefused session.scenario lines → Breaks see number old new session done → IfBroken r (λ bytes. bytes ≡ lines_bytes lines ++ disk_failed_text number) → IsOutput (replaying see) r old new session
broken_output see (Ok (Whole bytes)) old new session number done lines are unrefused breaks p = absurd p
broken_output see (Ok (Broken bytes)) old new session number done lines are unrefused breaks p =
    record { number = number; done = done; lines = lines; lines_are = are; unrefused = unrefused; output_is = p; breaks = breaks }
broken_output see (Err why) old new session number done lines are unrefused breaks p = inr (inr (record { number = number; done = done; breaks = breaks }))

-- no command has no line
pub no_lines : (scenario : Scenario) → AreLines [] scenario []
no_lines scenario = record { commands_are = refl; right = tt }

-- a world that fails on the way to all commands of a session
module _ (tells : Bool) (world : World) (old disks : List Seen) (session : Session) (commands : List Command) (same : closed_with commands session.scenario [] ≡ commands_of session) (sized : AreSized disks) where
  -- for want of memory
  pub short_output : {D : Type 0} (see : D → Seen) → faults_of disks ≡ faults_of old → towards.IsShort tells world disks (closed_with commands session.scenario []) session.scenario [] → IsShort see old disks session
  short_output see calm s = inr (inl (record {
    done = s.done ++ [];
    front = (s.left, sym same ∙ s.of_whole);
    kept = stands_hold_all tells world disks session.scenario (s.done ++ []) sized s.stood;
    calm = calm;
  }))

  -- by a failed disk call
  pub play_breaks : {D : Type 0} (see : D → Seen) → ((one : D) → length (see one).image.bytes ≡ (see one).size) → (number : ℕ) (mid : List Seen) → faults_of mid ≡ faults_of old
      → (b : towards.BreaksAt see number tells mid world disks (closed_with commands session.scenario []) session.scenario []) → Breaks see number old disks session (b.done ++ [])
  play_breaks see told number mid calm b = inl (record {
    command = b.command;
    front = (b.left, sym same ∙ b.of_whole);
    breaks = world_breaks see number tells world old disks b.command session.scenario (b.done ++ []) sized
        (were_before see told number tells world old mid disks session.scenario (closed_with commands session.scenario []) [] calm b) b.broken;
  })

-- the commands before the failed one are first ones too
pub front_before : (whole : List Command) (command : Command) (done : List Command) → IsFront (command ∷ done) whole → IsFront done whole
front_before whole command done (left, e) = (left ++ command ∷ [], e ∙ sym (again left))
  where
    again : (left : List Command) → (left ++ command ∷ []) ++ done ≡ left ++ command ∷ done
    again [] = refl
    again (c ∷ left) = ap (λ cs. c ∷ cs) (again left)
