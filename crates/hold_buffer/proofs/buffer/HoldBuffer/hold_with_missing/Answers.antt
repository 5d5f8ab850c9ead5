use Rattle.std.proofs.Common.{List, length, Contains, inl, inr, sym, ap, subst, ◌∙◌, refl, arith}
use Rattle.std.specs.Prelude.{insert}
use Rattle.lamport_id.specs.Order.{id_cmp}
use Rattle.lamport_id.specs.declared.id.Id.{Id}
use Rattle.list_laws.specs.Sorted.{IsGap}
use Rattle.doc_rules.specs.Replica.{put_among}
use Rattle.hold_buffer.specs.Held.{Buffer, IsCurrent}
use Rattle.hold_buffer.specs.Order.{operations_of, waits_of, ListsFree, AreNoted}
use Rattle.hold_buffer.specs.declared.entry.Entry.{Entry}
use Rattle.hold_buffer.proofs.FreeOnes.{ready_few, ready-held, ready-grown}
use Rattle.hold_buffer.proofs.Intact.{grown, held-intact, held-now}
use Rattle.hold_buffer.proofs.Noted.{noted-held, noted-kept}
use Rattle.hold_buffer.proofs.buffer.HoldBuffer.hold_with_missing.Goals as goal

-- the new entry
abbrev added : goal.After-announce → Entry
added c = record { id = c.args.op.id; key = c.admit.new.slots.vacant_key; missing = c.in-Ok.awaited }

pub store-requires-clause-ordered : goal.store-requires-clause-ordered
store-requires-clause-ordered c = let g = c.admit.ensures in (grown c.self.invariant.intact g.slots g.order).ordered

pub announce-requires-clause-room : goal.announce-requires-clause-room
announce-requires-clause-room c =
    let g = c.admit.ensures in
    let few = ready_few c.self.invariant.intact.ordered.rising c.self.invariant.lists in
    omega (arith, few, ap length g.ready.0, ap length g.order, c.in-Ok.ensures.room, c.admit.new.ready.ok.0, c.admit.new.order.ok.0)

lists : (c : goal.After-announce) → ListsFree c.store.new.order.items c.announce.new.ready
lists c =
    let g = c.admit.ensures in
    let members = c.announce.ensures.members in
    subst (λ (l : List Entry). ListsFree l c.announce.new.ready) (sym c.store.ensures.entry)
    (ready-held c.in-Ok.at (added c) (ready-grown {new = c.admit.new.ready} c.self.invariant.lists g.ready.0 g.ready.1 g.order)
    (let within = c.in-Ok.ensures.gap.within in omega (arith, within, ap length g.order)) c.announce.ensures.rising
    (λ i. (
      (λ there. elim ((members i).0 there) [ inl both ↦ inl (sym c.is_empty-is_free.ensures ∙ both.0, both.1 ∙ c.id-id.ensures.value) | inr old ↦ inr old ]),
      (λ either. elim either [
        | inl both ↦ (members i).1 (inl (c.is_empty-is_free.ensures ∙ both.0, both.1 ∙ sym c.id-id.ensures.value))
        | inr old ↦ (members i).1 (inr old)
      ]),
    ))
    (omega (arith, c.in-Ok.ensures.room, c.announce.ensures.room, c.admit.new.order.ok.0)))

noted : (c : goal.After-announce) → AreNoted c.store.new.order.items c.admit.new.waiters
noted c =
    let g = c.admit.ensures in
    subst (λ (l : List Entry). AreNoted l c.admit.new.waiters) (sym (c.store.ensures.entry ∙ ap (λ (l : List Entry). insert l c.in-Ok.at (added c)) g.order))
    (noted-held c.self.inside.waiters c.admit.new.waiters c.self.invariant.intact.ordered c.in-Ok.at (added c) c.self.invariant.noted c.in-Ok.ensures.kept
    (λ i lacked. c.in-Ok.ensures.noted i (subst (λ (l : List Id). Contains l i) c.in-Ok.ensures.missing lacked)))

pub invariant_of-self : goal.invariant_of-self
invariant_of-self c =
    let g = c.admit.ensures in
    let (log, missed) = c.requires.missed in
    record {
      intact = held-intact (grown c.self.invariant.intact g.slots g.order) c.store.ensures.ordered log c.args.op c.in-Ok.at (added c)
          c.store.ensures.entry (c.in-Ok.ensures.missing ∙ missed) c.store.ensures.ascending c.store.ensures.operations;
      lists = lists c;
      noted = noted c;
    }

pub invariant_of-self-in-Err : goal.invariant_of-self-in-Err
invariant_of-self-in-Err c =
    let g = c.admit.ensures in
    record {
      intact = grown c.self.invariant.intact g.slots g.order;
      lists = ready-grown {new = c.admit.new.ready} c.self.invariant.lists g.ready.0 g.ready.1 g.order;
      noted = noted-kept c.self.inside.waiters c.admit.new.waiters c.self.invariant.intact.ordered c.self.invariant.noted g.kept g.order;
    }

pub returns-in-Ok-clause-ok : goal.returns-in-Ok-clause-ok
returns-in-Ok-clause-ok c =
    let slots = c.admit.ensures.slots in
    let order = c.admit.ensures.order in
    c.store.ensures.operations
    ∙ (λ i. put_among c.args.op (operations_of (slots i) (order i)))
    ∙ ap (λ (b : Buffer). put_among c.args.op b.held) c.self.view_is

pub returns-in-Ok-clause-current : goal.returns-in-Ok-clause-current
returns-in-Ok-clause-current c log missed was =
    let g = c.admit.ensures in
    let op = c.args.op in
    let slots = g.slots in
    let order = g.order in
    let gap = subst (λ (o : List Entry). IsGap id_cmp (λ (t : Entry). t.id) o op.id c.in-Ok.at) (sym order) c.in-Ok.ensures.gap in
    let current = subst (λ (b : Buffer). IsCurrent b log) (sym ((λ i. record { held = operations_of (slots i) (order i); waits = waits_of (order i) }) ∙ c.self.view_is)) was in
    held-now c.admit.new.slots c.store.new.slots c.admit.new.order.items c.store.new.order.items (grown c.self.invariant.intact g.slots g.order).ordered log op c.in-Ok.at
    (added c) gap c.store.ensures.entry refl (c.in-Ok.ensures.missing ∙ missed) c.store.ensures.operations current

pub returns-in-Err-clause-err : goal.returns-in-Err-clause-err
returns-in-Err-clause-err c =
    let slots = c.admit.ensures.slots in
    let order = c.admit.ensures.order in
    (λ i. record { held = operations_of (slots i) (order i); waits = waits_of (order i) }) ∙ c.self.view_is

pub returns-in-Err-clause-current : goal.returns-in-Err-clause-current
returns-in-Err-clause-current c log missed was =
    let slots = c.admit.ensures.slots in
    let order = c.admit.ensures.order in
    subst (λ (b : Buffer). IsCurrent b log)
    (sym ((λ i. record { held = operations_of (slots i) (order i); waits = waits_of (order i) }) ∙ c.self.view_is)) was
