use Rattle.std.proofs.Common.{◌≡◌, Some, sym, ap, ◌∙◌, subst, IsSome, Option}
use Rattle.std.proofs.lemmas.Map.Steps.{set_value_same}
use Rattle.std.proofs.lemmas.Result.{on_ok_weaker, on_err_weaker}
use Rattle.std.specs.Map.{lookup, set_value}
use Rattle.std.specs.Option.{option_copied_mut}
use Rattle.mdb_base.proofs.ForCallers.{lent}
use Rattle.run_book.specs.Book.{granted_to}
use Rattle.run_book.specs.Held.{Held}
use Rattle.run_book.specs.Named.{by_tid, same_name}
use Rattle.run_book.specs.declared.run_map.Name.{Name}
use Rattle.run_book.proofs.RunMaps.{get-named, named, written_back}
use Rattle.run_book.proofs.run_map.grant.Goals as goal

pub unwrap-run-requires : goal.unwrap-run-requires
unwrap-run-requires c =
    let es = c.args.runs.now.entries in
    let is = c.get_mut.ensures.value ∙ ap (λ (n : Name). lookup (same_name n) es) c.of.ensures ∙ sym (get-named es c.args.tid) in
    lent c.get_mut.result (subst (λ (o : Option Held). IsSome o) (sym is) c.requires)

pub returns-clause-granted : goal.returns-clause-granted
returns-clause-granted c =
    let es = c.args.runs.now.entries in
    let found : named es c.args.tid ≡ Some c.unwrap-run.result.now =
    ap (λ (n : Name). lookup (same_name n) es) (sym c.of.ensures) ∙ (sym c.get_mut.ensures.value ∙ ap option_copied_mut c.unwrap-run.ensures) in
    on_ok_weaker c.grant.result
    (λ made. ap by_tid ((c.get_mut.follows.holds c.grant.new.self).0 ∙ ap (λ (n : Name). set_value (same_name n) es c.grant.new.self) c.of.ensures)
    ∙ written_back es c.args.tid (granted_to c.args.access) _ _ found made)
    c.grant.ensures.granted

pub returns-clause-memory : goal.returns-clause-memory
returns-clause-memory c =
    let es = c.args.runs.now.entries in
    let found : lookup (same_name c.of.result) es ≡ Some c.unwrap-run.result.now = sym c.get_mut.ensures.value ∙ ap option_copied_mut c.unwrap-run.ensures in
    on_err_weaker c.grant.result
    (λ same. ap by_tid ((c.get_mut.follows.holds c.grant.new.self).0 ∙ set_value_same _ es _ (found ∙ ap (λ (h : Held). Some h) (sym same))))
    c.grant.ensures.memory
