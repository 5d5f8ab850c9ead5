use Rattle.std.proofs.Common.{[], ◌≡◌, ◌∙◌, ap, sym, Some, None, min, vec_capacity, arith}
use Rattle.presence_set.specs.ById.{get}
use Rattle.list_order.specs.Slots.{room_in, slots_from}
use Rattle.list_order.specs.Marks.{entries_along}
use Rattle.list_order.proofs.Presence.{entries-presence}
use Rattle.list_order.proofs.Setting.{may_set, kept_set, entries_set, with_presence-none}
use Rattle.small_values.proofs.Made.{seen}
use Rattle.list_order.proofs.ListOrder.set_present.Goals as goal

pub set_presence-requires : goal.set_presence-requires
set_presence-requires c =
    let e : get c.linked.inside.index.0 c.args.id ≡ Some c.in-Some-number_of.n = sym c.number_of.ensures ∙ c.in-Some-number_of.is in
    record { may = may_set c.linked.invariant c.args.id c.in-Some-number_of.n e c.args.is_present (omega (arith, c.linked.inside.chain.slots.ok.0)) }

pub recut_if_stale-requires : goal.recut_if_stale-requires
recut_if_stale-requires c =
    let e : get c.linked.inside.index.0 c.args.id ≡ Some c.in-Some-number_of.n = sym c.number_of.ensures ∙ c.in-Some-number_of.is in
    let new = c.set_presence.new.self in
    let s = c.set_presence.ensures in
    let kept = kept_set c.linked.invariant c.args.id c.in-Some-number_of.n e c.args.is_present (omega (arith, c.linked.inside.chain.slots.ok.0)) new.by_slot.items s.by_slot new.blocks.items s.blocks new.present s.present in
    record { fits = kept.fits }

pub invariant_of-linked : goal.invariant_of-linked
invariant_of-linked c = record {
  order = c.linked.invariant.order;
  own = c.linked.invariant.own;
  fits = c.recut_if_stale.ensures.fits;
}

pub returns : goal.returns
returns c =
    let e : get c.linked.inside.index.0 c.args.id ≡ Some c.in-Some-number_of.n = sym c.number_of.ensures ∙ c.in-Some-number_of.is in
    let slots = c.linked.inside.chain.slots.items in
    let path = slots_from slots c.linked.inside.chain.first in
    let r = c.recut_if_stale.ensures.same in
    let entries = entries-presence c.set_presence.new.self.by_slot.items c.recut_if_stale.new.self.by_slot.items r.same slots path
    ∙ ap (λ m. entries_along slots m path) c.set_presence.ensures.by_slot ∙ entries_set c.linked.invariant c.args.id c.in-Some-number_of.n e c.args.is_present in
    rw (← seen ([], 0) c.in-Some.ensures.value c.self.view_is, ← c.linked.view_is) (λ i. (entries i, min (vec_capacity c.linked.inside.chain.slots) (min (room_in c.linked.inside.index) ((r.room ∙ c.set_presence.ensures.capacity) i))))

pub returns-in_default-number_of : goal.returns-in_default-number_of
returns-in_default-number_of c =
    let inside = c.linked.inside in
    let e : get inside.index.0 c.args.id ≡ None = sym c.number_of.ensures ∙ c.in_default-number_of.is in
    rw (← seen ([], 0) c.in-Some.ensures.value c.self.view_is, ← c.linked.view_is) (λ i. (sym (with_presence-none c.linked.invariant c.args.id e c.args.is_present) i, min (vec_capacity inside.chain.slots) (min (room_in inside.index) (vec_capacity inside.marks.by_slot))))
