use Rattle.std.proofs.Common.{rules, ◌≡◌, ◌<◌, ◌-◌, true, None, Some, Contains, length, slice_get, arith, sym, ap, ◌∙◌}
use Rattle.list_order.specs.declared.slots.SlotNumber.{SlotNumber}
use Rattle.list_order.specs.Entries.{present_of}
use Rattle.list_order.specs.Slots.{slot_at, slots_from}
use Rattle.list_order.specs.Marks.{mark_at, present_along}
use Rattle.list_order.proofs.Presence.{present_of-entries}
use Rattle.list_order.proofs.Newest.{last_present, found_there}
use Rattle.list_order.proofs.linked.LinkedOrder.newest_at_end.Goals as goal

pub returns-then-present-i-eq1 : goal.returns-then-present-i-eq1
returns-then-present-i-eq1 c =
    let slots = c.self.inside.chain.slots.items in
    let marks = c.self.inside.marks.by_slot.items in
    let path = slots_from slots c.self.inside.chain.first in
    let n : SlotNumber = record { 0 = c.len-len.result - 1 } in
    let within : n.0 < length slots = search rules in
    let there : Contains path n = found_there slots path (slot_at slots n).id n (sym (c.self.invariant.order.exact (slot_at slots n).id) ∙ c.self.invariant.own n within) in
    let slot : c.slot_at-slot.result.now ≡ slot_at slots n = search rules in
    let ends : (slot_at slots n).next ≡ None = search rules in
    let marked : (mark_at marks n).is_present ≡ true = search rules in
    let last = last_present slots marks n c.self.inside.chain.first path c.self.invariant.order.path there ends marked in
    let same : last.0 ≡ c.args.i = omega (arith, last.1, c.self.invariant.fits.all, c.if-i-present.true, c.if-present-i-eq1.true) in
    ap (λ v. slice_get (present_of v.0) c.args.i) (sym c.self.view_is)
    ∙ ap (λ l. slice_get l c.args.i) (present_of-entries slots marks path)
    ∙ ap (λ j. slice_get (present_along slots marks path) j) (sym same)
    ∙ last.2
    ∙ ap (λ s. Some s.id) (sym slot)
