use Rattle.std.proofs.Common.{ap, ◌∙◌}
use Rattle.std.specs.FinMap.{insert}
use Rattle.multiversion_engine.specs.OldVersions.{Olds, place_of}
use Rattle.multiversion_engine.proofs.Places.{entries_put}
use Rattle.multiversion_engine.proofs.old_versions.OldVersions.note.Goals as goal

pub returns-clause-noted : goal.returns-clause-noted
returns-clause-noted c =
    entries_put c.self.inside.values.entries _ (place_of c.args.key c.args.version.number) c.args.version.value c.in_ok-insert.ensures.updates.0
    ∙ ap (λ (m : Olds). insert m (place_of c.args.key c.args.version.number) c.args.version.value) c.self.view_is
