use Rattle.std.proofs.Common.{rules, false, true, ◌≡◌, ◌∙◌, sym, ap, subst}
use Rattle.std.specs.Ordering.{is_lt}
use Rattle.lamport_id.specs.Order.{id_cmp}
use Rattle.list_order.specs.Slots.{LeadsTo, LinksEnd, slots_from, passed}
use Rattle.list_order.proofs.Paths.{walk-None}
use Rattle.list_order.proofs.Scanning.{step, passed_stop}
use Rattle.list_order.proofs.Skipping.{pass_on}
use Rattle.list_order.proofs.passing.last_passed.Goals as goal

pub loop-at-init : goal.loop-at-init
loop-at-init c = record {
  walk = subst (LinksEnd c.args.chain.now.slots.items) (sym c.behind-at.ensures) c.requires.known.walk;
  leads = subst (LeadsTo c.args.chain.now.slots.items c.args.chain.now.first) (sym c.behind-at.ensures) c.requires.known.leads;
  same = ap (λ o. passed c.args.chain.now.slots.items c.args.id.now c.args.reference (slots_from c.args.chain.now.slots.items o)) c.behind-at.ensures;
}

pub slot_at-requires : goal.slot_at-requires
slot_at-requires c = (step c.args.chain.now.slots.items c.loop-at.at c.in-Some.n c.in-Some.is c.loop-at.invariant.walk).within

pub next_to_pass-at-requires-clause-within : goal.next_to_pass-at-requires-clause-within
next_to_pass-at-requires-clause-within c = (step c.args.chain.now.slots.items c.loop-at.at c.in-Some.n c.in-Some.is c.loop-at.invariant.walk).within

pub loop-at-smaller : goal.loop-at-smaller
loop-at-smaller c =
    let slots = c.args.chain.now.slots.items in
    let id = c.args.id.now in
    let over : is_lt (id_cmp c.slot_at.result.now.id id) ≡ false = search (rules, c.if-lt.false) in
    (pass_on slots c.args.marks.now.by_slot.items c.args.marks.now.blocks.items c.args.chain.now.first c.args.marks.now.present c.requires.fits id c.loop-at.previous c.loop-at.at c.in-Some.n c.in-Some.is
    c.loop-at.invariant.walk c.loop-at.invariant.leads (subst (λ s. is_lt (id_cmp s.id id) ≡ false) c.slot_at.ensures over) c.next_to_pass-at.result c.next_to_pass-at.ensures).shorter

pub loop-at-preserved : goal.loop-at-preserved
loop-at-preserved c =
    let slots = c.args.chain.now.slots.items in
    let id = c.args.id.now in
    let over : is_lt (id_cmp c.slot_at.result.now.id id) ≡ false = search (rules, c.if-lt.false) in
    let to =
    pass_on slots c.args.marks.now.by_slot.items c.args.marks.now.blocks.items c.args.chain.now.first c.args.marks.now.present c.requires.fits id c.loop-at.previous c.loop-at.at c.in-Some.n c.in-Some.is
    c.loop-at.invariant.walk c.loop-at.invariant.leads (subst (λ s. is_lt (id_cmp s.id id) ≡ false) c.slot_at.ensures over) c.next_to_pass-at.result c.next_to_pass-at.ensures in
    record {
      walk = to.walk;
      leads = to.leads;
      same = to.same ∙ c.loop-at.invariant.same;
    }

pub returns-then-lt : goal.returns-then-lt
returns-then-lt c =
    let slots = c.args.chain.now.slots.items in
    let id = c.args.id.now in
    let less : is_lt (id_cmp c.slot_at.result.now.id id) ≡ true = search (rules, c.if-lt.true) in
    passed_stop slots id c.loop-at.previous c.loop-at.at c.in-Some.n (step slots c.loop-at.at c.in-Some.n c.in-Some.is c.loop-at.invariant.walk)
    (subst (λ s. is_lt (id_cmp s.id id) ≡ true) c.slot_at.ensures less)
    ∙ c.loop-at.invariant.same

pub returns-in_default : goal.returns-in_default
returns-in_default c =
    let slots = c.args.chain.now.slots.items in
    ap (λ l. passed slots c.args.id.now c.loop-at.previous l) (sym (ap (slots_from slots) c.in_default.is ∙ walk-None slots))
    ∙ c.loop-at.invariant.same
