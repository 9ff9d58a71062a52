use Rattle.std.proofs.Common.{◌≡◌, List, [], length, ◌++◌, ◌∷◌, ◌∙◌, ap, arith}
use Rattle.std.proofs.lemmas.List.{nil_from_length}
use Rattle.fed_rules.specs.declared.commands.Command.{Command}
use Rattle.client_drivers.proofs.TapeSteps.{tells_popped, tells_over}
use Rattle.client_drivers.proofs.tape.TapeDoor.answer.Goals as goal

pub returns-then-is_err-clause-told : goal.returns-then-is_err-clause-told
returns-then-is_err-clause-told c =
    tells_over c.args.self.now c.self.inside.answers.items c.clear.new.self.items c.self.inside.calls.items c.try_reserve.new.self.items c.args.command c.self.view_is c.clear.ensures.items c.try_reserve.ensures.items

pub returns-in_default-clause-told : goal.returns-in_default-clause-told
returns-in_default-clause-told c =
    let none : length c.pop.new.self.items ≡ 0 = let h = c.in_default.ensures.cases.1 in omega arith in
    tells_over c.args.self.now c.self.inside.answers.items c.pop.new.self.items c.self.inside.calls.items c.try_reserve.new.self.items c.args.command c.self.view_is (nil_from_length c.pop.new.self.items none) c.try_reserve.ensures.items

pub returns-clause-told : goal.returns-clause-told
returns-clause-told c =
    tells_popped c.args.self.now c.self.inside.answers.items c.pop.new.self.items c.self.inside.calls.items c.push_reserved.new.self.items c.args.command c.in-Some.answer c.self.view_is c.in-Some.ensures.items
    (c.push_reserved.ensures.items ∙ ap (λ (cs : List Command). cs ++ c.args.command ∷ []) c.try_reserve.ensures.items)
