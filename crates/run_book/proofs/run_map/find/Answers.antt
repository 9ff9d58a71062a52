use Rattle.std.proofs.Common.{sym, ap, ◌∙◌}
use Rattle.std.specs.Map.{lookup}
use Rattle.run_book.specs.Named.{same_name}
use Rattle.run_book.specs.declared.run_map.Name.{Name}
use Rattle.run_book.proofs.RunMaps.{get-named}
use Rattle.run_book.proofs.run_map.find.Goals as goal

pub returns : goal.returns
returns c =
    let es = c.args.runs.now.entries in
    c.get.ensures.value ∙ ap (λ (n : Name). lookup (same_name n) es) c.of.ensures ∙ sym (get-named es c.args.tid)
