use Rattle.std.proofs.Common.{Bool, is_some, Option, ℕ, inr, ap, subst, arith}
use Rattle.multiversion_engine.specs.OldVersions.{place_of}
use Rattle.multiversion_engine.specs.Unended.{AreWithin}
use Rattle.multiversion_engine.proofs.Pruned.{pruned_one, left_there, read_dropped}
use Rattle.multiversion_engine.proofs.old_versions.OldVersions.drop_unread_of.Goals as goal

pub loop-version-preserved-then-not-any_within : goal.loop-version-preserved-then-not-any_within
loop-version-preserved-then-not-any_within c =
    let none = subst (λ (b : Bool). AreWithin c.args.unended.now c.in-Some.version.number c.loop-version.next b) c.if-not-any_within.true c.any_within.ensures in
    let loop = c.loop-version.invariant in
    let found = c.in-Some.ensures in
    record {
      up = let up = loop.up in let less = found.1 in omega arith;
      pruned = pruned_one c.args.unended.now c.args.key c.args.number c.in-Some.version.number c.loop-version.next c.args.self.now c.loop-version.self c.forget.new.self
          found.1 loop.is_next none c.forget.ensures loop.pruned;
      is_next = inr (left_there c.args.unended.now _ c.args.number c.args.self.now c.loop-version.self (place_of c.args.key c.in-Some.version.number) loop.pruned
          (ap (λ (o : Option ℕ). is_some o) found.0));
      read = read_dropped c.args.unended.now c.args.key c.args.number c.in-Some.version.number c.loop-version.next c.loop-version.self c.forget.new.self c.forget.ensures found.2 loop.read;
    }
