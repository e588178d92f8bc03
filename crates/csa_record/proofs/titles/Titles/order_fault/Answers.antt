use Rattle.std.proofs.Common.{rules, arith, ap, sym}
use Rattle.record_game.specs.Titles.{Titled}
use Rattle.csa_record.proofs.TitleEntries.{repeated, new_key, as_long, too_many, fault_free}
use Rattle.csa_record.proofs.titles.Titles.order_fault.Goals as goal

pub returns-then-contains_key-clause-fault : goal.returns-then-contains_key-clause-fault
returns-then-contains_key-clause-fault c =
    repeated c.args.self.now c.self.inside.headers.entries c.args.key.now (ap (λ (t : Titled). t.headers) c.self.view_is)
    c.self.invariant.rising (sym c.if-contains_key.ensures)

pub returns-then-len-ge-MAX_HEADERS-clause-fault : goal.returns-then-len-ge-MAX_HEADERS-clause-fault
returns-then-len-ge-MAX_HEADERS-clause-fault c =
    let whole = ap (λ (t : Titled). t.headers) c.self.view_is in
    let new = new_key c.args.self.now c.self.inside.headers.entries c.args.key.now whole c.self.invariant.rising (sym c.if-contains_key.ensures) in
    let long = as_long c.args.self.now c.self.inside.headers.entries whole in
    λ text some. too_many c.args.self.now c.args.key.now text some new (omega (arith, long, c.len.ensures.len, c.if-len-ge-MAX_HEADERS.true))

pub returns-clause-fault : goal.returns-clause-fault
returns-clause-fault c =
    let whole = ap (λ (t : Titled). t.headers) c.self.view_is in
    let new = new_key c.args.self.now c.self.inside.headers.entries c.args.key.now whole c.self.invariant.rising (sym c.if-contains_key.ensures) in
    let long = as_long c.args.self.now c.self.inside.headers.entries whole in
    λ text some. fault_free c.args.self.now c.args.key.now text new (omega (arith, long, c.len.ensures.len, c.if-len-ge-MAX_HEADERS.false))

pub returns-clause-none : goal.returns-clause-none
returns-clause-none c =
    let whole = ap (λ (t : Titled). t.headers) c.self.view_is in
    let long = as_long c.args.self.now c.self.inside.headers.entries whole in (
      new_key c.args.self.now c.self.inside.headers.entries c.args.key.now whole c.self.invariant.rising (sym c.if-contains_key.ensures),
      omega (arith, long, c.len.ensures.len, c.if-len-ge-MAX_HEADERS.false),
    )

pub returns-then-contains_key-clause-none : goal.returns-then-contains_key-clause-none
returns-then-contains_key-clause-none c = search rules
