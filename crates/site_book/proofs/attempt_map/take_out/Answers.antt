use Rattle.std.proofs.Common.{None, cond, ap, ◌∙◌}
use Rattle.site_book.specs.declared.attempt_map.Name.{Name}
use Rattle.site_book.specs.Named.{name_of, same_name}
use Rattle.site_book.proofs.NamedMaps.{named, named_gone}
use Rattle.site_book.proofs.attempt_map.take_out.Goals as goal

pub returns : goal.returns
returns c =
    let es = c.args.attempts.now.entries in
    named_gone es _ c.args.tid
    (λ q. c.remove.ensures.updates.0 (name_of q) ∙ ap (λ (n : Name). cond (same_name n (name_of q)) None (named es q)) c.of.ensures)
