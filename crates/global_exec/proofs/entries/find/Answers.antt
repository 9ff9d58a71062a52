use Rattle.std.proofs.Common.{ap, ◌∙◌}
use Rattle.std.specs.Map.{lookup}
use Rattle.global_exec.specs.declared.entries.Name.{Name}
use Rattle.global_exec.specs.Entries.{same_name}
use Rattle.global_exec.proofs.Named.{lookup-live}
use Rattle.global_exec.proofs.entries.find.Goals as goal

pub returns : goal.returns
returns c =
    let entries = c.args.entries.now.entries in
    c.get.ensures.value ∙ ap (λ (n : Name). lookup (same_name n) entries) c.of.ensures ∙ lookup-live c.args.tid entries c.requires
