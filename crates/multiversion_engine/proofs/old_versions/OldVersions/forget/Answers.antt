use Rattle.std.proofs.Common.{ap, ◌∙◌}
use Rattle.std.specs.FinMap.{remove}
use Rattle.multiversion_engine.specs.OldVersions.{Olds, place_of}
use Rattle.multiversion_engine.proofs.Places.{entries_gone}
use Rattle.multiversion_engine.proofs.old_versions.OldVersions.forget.Goals as goal

pub returns : goal.returns
returns c =
    entries_gone c.self.inside.values.entries _ (place_of c.args.key c.args.number) c.remove.ensures.updates.0
    ∙ ap (λ (m : Olds). remove m (place_of c.args.key c.args.number)) c.self.view_is
