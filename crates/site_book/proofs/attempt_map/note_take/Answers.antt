use Rattle.std.proofs.Common.{Some, cond, sym, ap, ◌∙◌}
use Rattle.std.specs.Map.{lookup}
use Rattle.std.specs.Option.{option_copied_mut}
use Rattle.site_book.specs.declared.attempt_map.Name.{Name}
use Rattle.site_book.specs.Book.{on_live, taken}
use Rattle.site_book.specs.Named.{name_of, same_name}
use Rattle.site_book.proofs.NamedMaps.{named, named_changed, named_kept, some_is}
use Rattle.site_book.proofs.attempt_map.note_take.Goals as goal

pub returns-in-Some : goal.returns-in-Some
returns-in-Some c =
    let es = c.args.attempts.now.entries in
    let at = sym c.get_mut.ensures.value ∙ ap option_copied_mut c.in-Some.is in
    let now = c.note_take.new.self in
    named_changed es _ c.args.tid (on_live (taken c.args.reply)) c.in-Some.progress.now now
    (ap (λ (n : Name). lookup (same_name n) es) (sym c.of.ensures) ∙ at) c.note_take.ensures
    (λ q. ((c.get_mut.follows.holds now).3 (some_is _ _ at)).0 (name_of q) ∙ ap (λ (n : Name). cond (same_name n (name_of q)) (Some now) (named es q)) c.of.ensures)

pub returns-in_default : goal.returns-in_default
returns-in_default c =
    let es = c.args.attempts.now.entries in
    rw c.get_mut.follows.holds-at-none
    (named_kept es c.args.tid (on_live (taken c.args.reply))
    (ap (λ (n : Name). lookup (same_name n) es) (sym c.of.ensures) ∙ (sym c.get_mut.ensures.value ∙ ap option_copied_mut c.in_default.is)))
