use Rattle.std.proofs.Common.{refl, ap}
use Rattle.std.specs.Global.{Vec}
use Rattle.any_engine.specs.declared.engine.AnyEngine.{AnyEngine}
use Rattle.local_dbms.specs.declared.dbms.LocalDbms.{LocalDbms}
use Rattle.fed_world.proofs.setting_up.Beginning.into_world.Goals as goal

pub returns : goal.returns
returns c = record {
  scenario_is = refl;
  coordinator_is = refl;
  cores_are = ap (λ (v : Vec (LocalDbms AnyEngine)). v.items) c.of.ensures;
  routed = c.requires.routed;
  all_channels = c.requires.all_channels;
  channels = c.requires.channels;
  all_marks = c.requires.all_marks;
  marks = c.requires.marks;
  lines = c.new.ensures.items;
  whole = refl;
  begun = refl;
}
