use Rattle.std.proofs.Common.{ℕ, List, [], ◌∷◌, ◌++◌, map, refl, sym, ap, ◌∙◌, subst, true}
use Rattle.fed_rules.specs.declared.commands.Line.{Line}
use Rattle.fed_world.specs.declared.errors.WorldErr.{WorldErr}
use Rattle.fed_world.specs.declared.errors.WorldErr.TheVariants as Err_is
use Rattle.fed_world.specs.declared.world.World.{World}
use Rattle.fed_world.specs.Worlds.{IsBroken, IsUnheard}
use Rattle.fed_world.proofs.Broken.{broken_next, heard_next, roomier, same_stands}
use Rattle.fed_world.proofs.world.World.apply.Goals as goal

pub returns-in-Ok-hear-clause-applied : goal.returns-in-Ok-hear-clause-applied
returns-in-Ok-hear-clause-applied g c session commands stood room =
    let tells = g.D.Disk.tells in
    let before : World = record c.args.self.now { lines = c.reserve.new.self } in
    let disks = map g.D.Disk.seen c.args.disks.now.items in
    let behind = map g.D.Disk.seen c.hear.new.disks.items in
    let same = same_stands tells c.args.self.now before disks session commands (roomier c.args.self.now c.reserve.new.self c.reserve.ensures.items) stood in
    let told = c.in-Ok-hear.ensures.heard in
    heard_next tells before c.hear.new.self disks behind session commands c.args.command told.line c.hear.ensures.keeps told.is told.lines (told.holds session commands same room) same

pub returns-in-Ok-hear-clause-added : goal.returns-in-Ok-hear-clause-added
returns-in-Ok-hear-clause-added g c =
    let told = c.in-Ok-hear.ensures.heard in
    record { line = told.line; is = told.is; lines = told.lines ∙ ap (λ (ls : List Line). ls ++ told.line ∷ []) c.reserve.ensures.items }

pub returns-in-Err-Disk-clause-failed : goal.returns-in-Err-Disk-clause-failed
returns-in-Err-Disk-clause-failed g c session commands stood room =
    let tells = g.D.Disk.tells in
    let before : World = record c.args.self.now { lines = c.reserve.new.self } in
    let after : World = record c.hear.new.self { broken = true } in
    let disks = map g.D.Disk.seen c.args.disks.now.items in
    let behind = map g.D.Disk.seen c.hear.new.disks.items in
    let number = c.in-Err-Disk.number in
    let same = same_stands tells c.args.self.now before disks session commands (roomier c.args.self.now c.reserve.new.self c.reserve.ensures.items) stood in
    let told : IsUnheard tells (Err_is.Disk number) c.hear.new.self behind c.args.command session commands =
    subst (λ (why : WorldErr). IsUnheard tells why c.hear.new.self behind c.args.command session commands) c.in-Err-Disk.field-0-is (c.in-Err-Disk.ensures.failed session commands same room) in
    subst (λ (n : ℕ). IsBroken n tells after behind c.args.command session commands) (sym c.in-Err-Disk.number-is)
    (broken_next number tells before c.hear.new.self after disks behind session commands c.args.command c.hear.ensures.keeps c.in-Err-Disk.ensures.kept (record { cores = refl; traffic = refl }) refl refl refl told same)
