use Rattle.std.proofs.Common.{◌≡◌, length}
use Rattle.fed_world.specs.SettingUp.{IsNewChannel}
use Rattle.fed_world.proofs.setting_up.new_channels.Given as goal

abbrev pub invariant-loop-site : goal.invariant-loop-site
invariant-loop-site l = record { count : length l.channels.items ≡ l.site-index; each : IsNewChannel l.sites l.channels.items }
