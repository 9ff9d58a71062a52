use Rattle.std.proofs.Common.{Some, cond, ap, ◌∙◌}
use Rattle.site_book.specs.declared.attempt_map.Name.{Name}
use Rattle.site_book.specs.Named.{name_of, same_name}
use Rattle.site_book.proofs.NamedMaps.{named, named_put}
use Rattle.site_book.proofs.attempt_map.put.Goals as goal

pub returns-clause-put : goal.returns-clause-put
returns-clause-put c =
    let es = c.args.attempts.now.entries in
    named_put es _ c.args.tid c.args.progress
    (λ q. c.in_ok-insert.ensures.updates.0 (name_of q) ∙ ap (λ (n : Name). cond (same_name n (name_of q)) (Some c.args.progress) (named es q)) c.of.ensures)
