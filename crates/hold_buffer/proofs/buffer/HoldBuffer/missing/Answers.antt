use Rattle.std.proofs.Common.{◌≡◌, true, Ok, Some, sym, ap, subst, ◌∙◌, true≢false}
use Rattle.std.proofs.lemmas.List.Elements.{Contains-get_or}
use Rattle.doc_rules.specs.Replica.{find_id}
use Rattle.crdt_rules.specs.Dependencies.{is_logged}
use Rattle.hold_buffer.specs.Held.{Buffer, IsCurrent}
use Rattle.hold_buffer.proofs.Intact.{missing_is}
use Rattle.hold_buffer.proofs.Waiting.{not_held, found_at}
use Rattle.hold_buffer.proofs.buffer.HoldBuffer.missing.Goals as goal
use Rattle.std.specs.Prelude.{Contains}

pub unreachable-requires : goal.unreachable-requires
unreachable-requires c =
    let gap = c.in-Err.ensures in
    let held = subst (λ (b : Buffer). is_logged b.held c.args.id ≡ true) (sym c.self.view_is) c.requires.held in
    true≢false (sym held ∙ not_held c.self.invariant.intact.ordered c.args.id c.in-Err.field-0 gap)

pub returns : goal.returns
returns c op found other =
    let log = c.args.log.now.operations in
    let order = c.self.inside.order.items in
    let t = c.index.result.now in
    let place = c.in-Ok.ensures in
    let current = subst (λ (b : Buffer). IsCurrent b log) (sym c.self.view_is) c.requires.current in
    let among : Contains order t = subst (Contains order) (sym c.index.ensures) (Contains-get_or order c.in-Ok.at t place.within) in
    let at = found_at c.self.invariant.intact.ordered c.args.id c.in-Ok.at t place c.index.ensures in
    let here = subst (λ (b : Buffer). find_id b.held c.args.id ≡ Some op) (sym c.self.view_is) found in
    c.ids.ensures other ∙ ap Ok (missing_is c.self.invariant.intact log current t among op (at ∙ here))
