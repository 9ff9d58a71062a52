use Rattle.std.proofs.Common.{sym, ap, ◌∙◌}
use Rattle.std.specs.Map.{lookup}
use Rattle.site_book.specs.declared.attempt_map.Name.{Name}
use Rattle.site_book.specs.Named.{same_name}
use Rattle.site_book.proofs.NamedMaps.{get-named}
use Rattle.site_book.proofs.attempt_map.find.Goals as goal

pub returns : goal.returns
returns c =
    let es = c.args.attempts.now.entries in
    c.get.ensures.value ∙ ap (λ (n : Name). lookup (same_name n) es) c.of.ensures ∙ sym (get-named es c.args.tid)
