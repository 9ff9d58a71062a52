use Rattle.std.proofs.Common.{sym, ap, ◌∙◌}
use Rattle.std.specs.Map.{lookup, set_value}
use Rattle.std.specs.Option.{option_copied_mut}
use Rattle.run_book.specs.Book.{sealed_with}
use Rattle.run_book.specs.Named.{by_tid, same_name}
use Rattle.run_book.specs.declared.run_map.Name.{Name}
use Rattle.run_book.proofs.RunMaps.{changed_none, written_back}
use Rattle.run_book.proofs.run_map.seal.Goals as goal

pub returns-in-Some : goal.returns-in-Some
returns-in-Some c =
    let es = c.args.runs.now.entries in
    ap by_tid ((c.get_mut.follows.holds c.seal.new.self).0 ∙ ap (λ (n : Name). set_value (same_name n) es c.seal.new.self) c.of.ensures)
    ∙ written_back es c.args.tid (sealed_with c.args.number c.args.counters) c.in-Some.run'.now _
    (ap (λ (n : Name). lookup (same_name n) es) (sym c.of.ensures) ∙ (sym c.get_mut.ensures.value ∙ ap option_copied_mut c.in-Some.is)) c.seal.ensures

pub returns-in_default : goal.returns-in_default
returns-in_default c =
    let es = c.args.runs.now.entries in
    rw c.get_mut.follows.holds-at-none
    (sym (changed_none es c.args.tid (sealed_with c.args.number c.args.counters) (ap (λ (n : Name). lookup (same_name n) es) (sym c.of.ensures) ∙ (sym c.get_mut.ensures.value ∙ ap option_copied_mut c.in_default.is))))
