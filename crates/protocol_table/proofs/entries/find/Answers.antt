use Rattle.std.proofs.Common.{ap, ◌∙◌}
use Rattle.std.specs.Map.{lookup}
use Rattle.protocol_table.specs.declared.entries.Name.{Name}
use Rattle.protocol_table.specs.Entries.{same_name}
use Rattle.protocol_table.proofs.Named.{lookup-known}
use Rattle.protocol_table.proofs.entries.find.Goals as goal

pub returns : goal.returns
returns c =
    let entries = c.args.entries.now.entries in
    c.get.ensures.value ∙ ap (λ (n : Name). lookup (same_name n) entries) c.of.ensures ∙ lookup-known c.args.tid entries c.requires
