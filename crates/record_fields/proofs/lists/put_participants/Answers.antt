use Rattle.std.proofs.Common.{◌≤◌, ap, length, subst, arith}
use Rattle.std.specs.List.{AllByRecursion}
use Rattle.record_fields.specs.Items.{joined}
use Rattle.record_fields.specs.Named.{a_participant}
use Rattle.record_fields.proofs.Sizes.{few_sites, participants_size}
use Rattle.record_fields.proofs.lists.put_participants.Goals as goal

pub overflow_cast-len : goal.overflow_cast-len
overflow_cast-len c = omega (arith, few_sites (λ x. x.site) c.args.participants.now c.requires.in_range c.len.ensures.rising, c.len.ensures.count)

pub put_items-requires-clause-small : goal.put_items-requires-clause-small
put_items-requires-clause-small c =
    let few = few_sites (λ x. x.site) c.args.participants.now c.requires.in_range c.len.ensures.rising in
    omega (arith, few, participants_size c.args.participants.now, ap (λ xs. length (joined a_participant.spelling xs)) c.as_slice.ensures.items)

pub returns-clause-size : goal.returns-clause-size
returns-clause-size c =
    omega (arith, c.put_items.ensures.size, c.put_u8.ensures.size, participants_size c.args.participants.now, ap (λ xs. length (joined a_participant.spelling xs)) c.as_slice.ensures.items)

pub returns-clause-fits : goal.returns-clause-fits
returns-clause-fits c =
    let few : length c.args.participants.now ≤ 8 = few_sites (λ x. x.site) c.args.participants.now c.requires.in_range c.len.ensures.rising in
    (omega (arith, few), c.len.ensures.rising, subst (λ xs. AllByRecursion a_participant.Fits xs) c.as_slice.ensures.items c.put_items.ensures.fits)
