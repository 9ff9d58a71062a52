use Rattle.std.proofs.Common.{◌≤◌, ap, length, subst, arith}
use Rattle.std.specs.List.{AllByRecursion}
use Rattle.record_fields.specs.Items.{joined}
use Rattle.record_fields.specs.Named.{a_ticket}
use Rattle.record_fields.proofs.Sizes.{few_sites, tickets_size}
use Rattle.record_fields.proofs.lists.put_tickets.Goals as goal

pub overflow_cast-len : goal.overflow_cast-len
overflow_cast-len c = omega (arith, few_sites (λ x. x.site) c.args.tickets.now c.requires.in_range c.len.ensures.rising, c.len.ensures.count)

pub put_items-requires-clause-small : goal.put_items-requires-clause-small
put_items-requires-clause-small c =
    let few = few_sites (λ x. x.site) c.args.tickets.now c.requires.in_range c.len.ensures.rising in
    omega (arith, few, tickets_size c.args.tickets.now, ap (λ xs. length (joined a_ticket.spelling xs)) c.as_slice.ensures.items)

pub returns-clause-size : goal.returns-clause-size
returns-clause-size c =
    omega (arith, c.put_items.ensures.size, c.put_u8.ensures.size, tickets_size c.args.tickets.now, ap (λ xs. length (joined a_ticket.spelling xs)) c.as_slice.ensures.items)

pub returns-clause-fits : goal.returns-clause-fits
returns-clause-fits c =
    let few : length c.args.tickets.now ≤ 8 = few_sites (λ x. x.site) c.args.tickets.now c.requires.in_range c.len.ensures.rising in
    (omega (arith, few), c.len.ensures.rising, subst (λ xs. AllByRecursion a_ticket.Fits xs) c.as_slice.ensures.items c.put_items.ensures.fits)
