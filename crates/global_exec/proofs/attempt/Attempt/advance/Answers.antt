use Rattle.std.proofs.Common.{◌≡◌, ℕ, ◌+◌, ◌++◌, List, length, drop, sym, ap, subst, ◌∙◌, arith}
use Rattle.global_exec.specs.declared.progress.Progress.{Progress}
use Rattle.global_exec.specs.Counted.{answered, counts, value_of}
use Rattle.global_exec.specs.Firsts.{replaced}
use Rattle.global_exec.specs.Live.{IsLive, Live, is_at}
use Rattle.global_exec.proofs.Firsts.{take_written}
use Rattle.global_exec.proofs.Lives.{live_advanced, reads_fit}
use Rattle.global_exec.proofs.attempt.Attempt.advance.Goals as goal

pub invariant_of-self : goal.invariant_of-self
invariant_of-self c =
    let live : Live = record { tid = c.self.inside.tid; program = c.self.inside.program; reads = c.self.inside.reads.items; done = c.self.inside.done; sites = c.self.inside.sites.items } in
    let len : length c.answer_at.new.sites ≡ c.self.inside.sites.len = omega arith in
    let counted = subst (λ (l : Live). counts c.args.site c.args.epoch c.args.n c.args.reply l ≡ _) (sym c.self.view_is) c.requires.counts in (
      subst (λ (ps : List Progress). IsLive (record live { reads = c.put_value.new.reads.items; done = c.self.inside.done + c.steps_of.result; sites = ps }))
          (sym (take_written c.self.inside.sites.len c.answer_at.new.sites (drop (length c.answer_at.new.sites) c.self.inside.sites.items) len ∙ c.answer_at.ensures ∙ ap (replaced (is_at c.args.site) (answered c.args.epoch c.args.reply)) c.deref_mut.ensures.value))
          (subst (λ (vs : List ℕ). IsLive (record live { reads = vs; done = c.self.inside.done + c.steps_of.result; sites = replaced (is_at c.args.site) (answered c.args.epoch c.args.reply) c.self.inside.sites.items })) (sym c.put_value.ensures.items)
          (subst (λ (k : ℕ). IsLive (record live { reads = c.self.inside.reads.items ++ value_of c.args.reply; done = c.self.inside.done + k; sites = replaced (is_at c.args.site) (answered c.args.epoch c.args.reply) c.self.inside.sites.items })) (sym c.steps_of.ensures)
          (live_advanced c.args.site c.args.epoch c.args.n c.args.reply live counted c.requires.answers c.self.invariant.0))),
      let room = c.put_value.ensures.room in let was = c.self.invariant.1 in omega arith,
    )

pub put_value-requires : goal.put_value-requires
put_value-requires c =
    let live : Live = record { tid = c.self.inside.tid; program = c.self.inside.program; reads = c.self.inside.reads.items; done = c.self.inside.done; sites = c.self.inside.sites.items } in
    let counted = subst (λ (l : Live). counts c.args.site c.args.epoch c.args.n c.args.reply l ≡ _) (sym c.self.view_is) c.requires.counts in
    let fit = reads_fit c.args.site c.args.epoch c.args.n c.args.reply live counted c.requires.answers c.self.invariant.0 in
    let room = c.self.invariant.1 in
    omega arith
