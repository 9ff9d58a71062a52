use Rattle.std.proofs.Common.{Option, Some, IsSome, cond, sym, ap, subst, ◌∙◌}
use Rattle.std.specs.Map.{lookup}
use Rattle.mdb_base.proofs.ForCallers.{lent}
use Rattle.site_book.specs.declared.attempt_map.Name.{Name}
use Rattle.site_book.specs.declared.progress.Progress.{Progress}
use Rattle.site_book.specs.Named.{name_of, same_name}
use Rattle.site_book.proofs.NamedMaps.{get-named, named, named_put}
use Rattle.site_book.proofs.attempt_map.set.Goals as goal

pub unwrap-requires : goal.unwrap-requires
unwrap-requires c =
    let es = c.args.attempts.now.entries in
    let is = c.get_mut.ensures.value ∙ ap (λ (n : Name). lookup (same_name n) es) c.of.ensures ∙ sym (get-named es c.args.tid) in
    lent c.get_mut.result (subst (λ (o : Option Progress). IsSome o) (sym is) c.requires)

pub returns : goal.returns
returns c =
    let es = c.args.attempts.now.entries in
    let there = subst (λ (o : Option Progress). IsSome o) (get-named es c.args.tid ∙ sym (ap (λ (n : Name). lookup (same_name n) es) c.of.ensures)) c.requires in
    named_put es _ c.args.tid c.args.progress
    (λ q. ((c.get_mut.follows.holds c.args.progress).3 there).0 (name_of q) ∙ ap (λ (n : Name). cond (same_name n (name_of q)) (Some c.args.progress) (named es q)) c.of.ensures)
