use Rattle.std.proofs.Common.{◌≡◌, length}
use Rattle.fed_world.specs.SettingUp.{IsNewMarks}
use Rattle.fed_world.proofs.setting_up.new_marks.Given as goal

abbrev pub invariant-loop-site : goal.invariant-loop-site
invariant-loop-site l = record { count : length l.marks.items ≡ l.site-index; each : IsNewMarks l.sites l.marks.items }
