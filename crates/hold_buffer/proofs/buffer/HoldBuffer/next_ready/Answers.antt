use Rattle.std.proofs.Common.{List, sym, ap, subst, ◌∙◌}
use Rattle.std.specs.Prelude.{slice_get}
use Rattle.doc_api.specs.Words.{id_cmp, Id, Op}
use Rattle.crdt_rules.specs.Dependencies.{is_ready}
use Rattle.doc_rules.specs.Sorted.{IsRising}
use Rattle.hold_buffer.specs.Held.{Buffer, IsCurrent}
use Rattle.hold_buffer.specs.Order.{is_free}
use Rattle.hold_buffer.proofs.Current.{ready_test}
use Rattle.hold_buffer.proofs.FreeOnes.{least_ready}
use Rattle.hold_buffer.proofs.Intact.{find_entries}
use Rattle.hold_buffer.proofs.Waiting.{rising-operations, first_named}
use Rattle.hold_buffer.proofs.buffer.HoldBuffer.next_ready.Goals as goal

pub returns-clause-least : goal.returns-clause-least
returns-clause-least c =
    let log = c.args.log.now.operations in
    let slots = c.self.inside.slots in
    let order = c.self.inside.order.items in
    let current = subst (λ (b : Buffer). IsCurrent b log) (sym c.self.view_is) c.requires in
    let read = c.least.ensures ∙ ap (λ (l : List Id). slice_get l 0) c.deref.ensures.value ∙ least_ready c.self.invariant.intact.ordered.rising c.self.invariant.lists in
    rw (← c.self.view_is) (read ∙ find_entries slots order (λ (o : Op). is_ready o log) is_free (ready_test c.self.invariant.intact.ordered log current))

pub returns-clause-operation : goal.returns-clause-operation
returns-clause-operation c =
    let rising = rising-operations c.self.inside.slots c.self.inside.order.items c.self.invariant.intact.ordered in
    first_named (λ (o : Op). is_ready o c.args.log.now.operations) c.args.self.now.held c.least.result
    (subst (λ (b : Buffer). IsRising id_cmp (λ (o : Op). o.id) b.held) c.self.view_is rising) (returns-clause-least c)
